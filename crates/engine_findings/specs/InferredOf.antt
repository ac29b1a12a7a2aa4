-- What a finding of the code stands for.
use Rattle.std.specs.Prelude.{◌≡◌, refl, true, false}
use Rattle.std.specs.Prelude as std
use Rattle.std.specs.Option.{is_some}
use Rattle.std.proofs.Common.{sym, true≢false}
use Rattle.std.proofs.Math.Option.{Option, none, some}
use Rattle.paper_board.specs.declared.facts.Fact as Facts
use Rattle.paper_board.specs.Paper.View.{View}
use Rattle.paper_board.specs.Paper.Facts.{Fact}
use Rattle.paper_board.specs.Paper.Values.{fact_of}
use Rattle.engine_findings.specs.Searched.{Searched}

-- what a search found: a fact that the rules infer and that the board doesn't show yet, or nothing
abbrev pub inferred_of : std.Option Facts.Fact → Option Fact
inferred_of std.None = none
inferred_of (std.Some f) = some (fact_of f)

-- where the code tells that nothing was found, or that something was, which is told of any Q
pub nothing_found : (o : std.Option Facts.Fact) → is_some o ≡ false → inferred_of o ≡ none
nothing_found std.None e = refl
nothing_found (std.Some f) e = absurd (true≢false e)

pub something_found : (v : View) (P Q : Type 0) (o : std.Option Facts.Fact) → is_some o ≡ true → Searched v P (inferred_of o) → Searched v Q (inferred_of o)
something_found v P Q std.None e h = absurd (true≢false (sym e))
something_found v P Q (std.Some f) e h = h
