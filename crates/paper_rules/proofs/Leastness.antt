-- Leastness against every view that shows at least the entries and obeys the rules: the form that passes from one entry
-- to the next. It gives the paper's leastness and contradiction, which speak of closed boards.
use Rattle.std.specs.Prelude.{refl}
use Rattle.paper_board.specs.declared.Board.{Board}
use Rattle.paper_board.specs.Paper.View.{View, view}
use Rattle.paper_rules.specs.Paper.Rules.{Rules}
use Rattle.paper_rules.specs.Inference.Infers.{Obeys}
use Rattle.paper_board.specs.Paper.Limits.{Within, BooksWithin}
use Rattle.paper_rules.specs.Paper.Entries.{Entries, AtLeast, shown, ◌⊑◌}
use Rattle.paper_rules.specs.Paper.Closed.{Closed, Least, Contradiction}
use Rattle.paper_rules.specs.Order.OrderLaws.{⊑_refl}
use Rattle.paper_rules.proofs.ObeysRules.{rules_obey}

-- everything that v shows is in every such view
abbrev pub Below : Entries → View → Type 0
Below es v = (w : View) → AtLeast es w → Obeys w → v ⊑ w

-- there is no such view
abbrev pub Impossible : Entries → Type 0
Impossible es = (w : View) → AtLeast es w → Obeys w → ⊥

pub below_least : (es : Entries) (b : Board) → Closed es b → Below es (view b) → Least es b
below_least es b closed below =
    record { closed = closed; least = λ c k. below (view c) k.shows.at_least (rules_obey (view c) k.rules) }

pub impossible_contradiction : (es : Entries) → Impossible es → Contradiction es
impossible_contradiction es none c k = none (view c) k.shows.at_least (rules_obey (view c) k.rules)

pub below_shown : (v : View) → Below (shown v) v
below_shown v w up obeys = up

-- a board handed in that is within the limits and keeps the rules is the least closed board over what it shows
pub handed_in : (b : Board) → Within b → BooksWithin b.books → Rules (view b) → Least (shown (view b)) b
handed_in b within books rules =
    below_least (shown (view b)) b
    (record { within = within; books = books; shows = record { count = refl; at_least = ⊑_refl (view b) within.limits }; rules = rules })
    (below_shown (view b))
