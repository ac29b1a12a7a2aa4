-- Any run of inferences stays below every view above the board that obeys the rules.
use Rattle.std.proofs.Common.{sym, ◌∙◌, subst}
use Rattle.std.proofs.Math.Option.{Option, some}
use Rattle.paper_board.specs.declared.Board.{Board}
use Rattle.paper_board.specs.Paper.View.{View, view}
use Rattle.paper_board.specs.Paper.Facts.{Fact, Holds, AboutJobs}
use Rattle.paper_board.specs.Paper.Limits.{Within}
use Rattle.paper_rules.specs.Inference.Infers.{Infers, r1, r2, r3, r45, r6}
use Rattle.paper_rules.specs.Inference.Forced.{forced}
use Rattle.paper_rules.specs.Update.Extension.{above_self, Extends}
use Rattle.paper_rules.specs.Update.ExtendsThen.{onward, extends_then}
use Rattle.paper_rules.specs.Update.Updates.{update, ◌and_then◌}
use Rattle.paper_rules.specs.Update.Updated.{updated}

-- what is inferred is about jobs of the board
pub infers_known : (v : View) (f : Fact) → Infers v f → AboutJobs v.jobs f
infers_known v _ (r1 a b c la vb lc ne ab bc) = (la.0, lc.0, ne)
infers_known v _ (r2 a b va lb ab ba) = lb.0
infers_known v _ (r3 a b la lb ne h) = (lb.0, la.0, λ e. ne (sym e))
infers_known v _ (r45 s j S m lj p) = lj.0
infers_known v _ (r6 j lj h) = lj.0

-- no demand
abbrev Any : View → Type 0
Any w = Unit

-- where a run of inferences from b may end: in a board above b and below every view above b that obeys the rules; or, where a
-- mark would have to change, there is no such view
abbrev pub Derives : Board → Option Board → Type 0
Derives b = Extends b.jobs Any b

abbrev pub Derived : Board → Board → Type 0
Derived b c = Derives b (some c)

pub derived_self : (b : Board) → Within b → Derived b b
derived_self b h = record { more = above_self b h; meets = tt; least = λ w up _ _. up }

-- one run after another
pub derives_then : (b c : Board) → Derived b c → (o : Option Board) → Derives c o → Derives b o
derives_then b c = λ x o. onward b.jobs Any Any Any b (λ _ _ _ _. tt) (λ _ _ _. tt) (λ _ _ _ _. (tt, tt)) c o x

-- one more inference: it holds in every view above c that obeys the rules
pub derives_further : (b c : Board) → Derived b c → (f : Fact) → Infers (view c) f → Derives b (update c f)
unfolding ◌and_then◌
derives_further b c derived f infers =
    extends_then b.jobs Any (λ w. Holds w f) Any b
    (λ _ _ _ _. tt)
    (λ _ _ _. tt)
    (λ w up obeys _. (tt, forced (view c) w (derived.least w up obeys tt) obeys f infers))
    (some c)
    (λ d. update d f)
    derived
    λ d x.
    let jobs = derived.more.jobs ∙ sym x.more.jobs in
    updated d x.more.within f (subst (λ n. AboutJobs n f) jobs (infers_known (view c) f infers))
