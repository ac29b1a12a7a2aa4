-- An entry call on a board that has passed check 0: its checks decide it, or what is concluded from what it states.
use Rattle.std.specs.Prelude.{◌≡◌, true}
use Rattle.std.proofs.Math.Path.{ap}
use Rattle.std.proofs.Common.{◌∙◌}
use Rattle.std.proofs.Math.Option.{Option, none, some}
use Rattle.paper_board.specs.declared.Board.{Board}
use Rattle.paper_board.specs.declared.Refusal.{Refusal}
use Rattle.paper_rules.specs.Update.Updates.{◌and_then◌}
use Rattle.paper_closure.specs.Passes.{passes}
use Rattle.paper_closure.specs.Closure.{closure}
use Rattle.paper_entries.specs.Paper.Entry.{Entry}
use Rattle.paper_entries.specs.Paper.Checks.{checks, first_refusal}
use Rattle.paper_entries.specs.Paper.Enter.{closure_with, acceptance, refused, concluded, judged, enter}
use Rattle.call_statements.specs.Stated.{raw_of}
use Rattle.call_statements.specs.StatedBy.{stated_by, stated_raw}

module _ (b : Board) (e : Entry) (p : passes b ≡ true) where
  judged_enter : (o : Option Refusal) → o ≡ first_refusal (checks b.jobs e) → judged b e o ≡ enter b e
  unfolding enter
  judged_enter o g = rw (p, g, enter)

  pub refused_enter : (r : Refusal) → some r ≡ first_refusal (checks b.jobs e) → refused r b ≡ enter b e
  refused_enter r g = judged_enter (some r) g

  pub concluded_enter : none ≡ first_refusal (checks b.jobs e)
      → concluded b (acceptance b.jobs e) (raw_of b (stated_by e) and_then closure) ≡ enter b e
  unfolding closure_with
  concluded_enter g = ap (λ o. concluded b (acceptance b.jobs e) (o and_then closure)) (stated_raw b e) ∙ judged_enter none g
