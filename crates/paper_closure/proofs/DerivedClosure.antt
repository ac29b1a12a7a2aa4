-- Wherever a run of inferences ends is the closure: which inference comes first doesn't matter.
use Rattle.std.specs.Prelude.{◌≡◌, ◌<◌}
use Rattle.std.proofs.Common.{sym, ◌∙◌, subst}
use Rattle.std.proofs.Math.Option.{none, some}
use Rattle.paper_board.specs.declared.Board.{Board}
use Rattle.paper_board.specs.Paper.View.{view}
use Rattle.paper_board.specs.Paper.Facts.{Fact, Holds}
use Rattle.paper_board.specs.Paper.Limits.{Within}
use Rattle.paper_rules.specs.Inference.Infers.{Infers, Obeys}
use Rattle.paper_rules.specs.Update.Extension.{Updated}
use Rattle.paper_rules.specs.Update.Updates.{update}
use Rattle.paper_rules.specs.Update.Updated.{updated}
use Rattle.paper_rules.specs.Update.Derives.{infers_known, Derives, Derived, derives_further}
use Rattle.paper_closure.specs.Measure.{measure, measure_falls}
use Rattle.paper_closure.specs.Closure.{closure}
use Rattle.paper_closure.proofs.Closes.{ClosedTo, closure_is}

-- there is no board
pub derives_closure : (b : Board) → Within b → Derives b none → none ≡ closure b
derives_closure b within x = sym (closure_is b within none λ w up obeys _. x w up obeys tt)

module _ (b c : Board) (within : Within b) (derived : Derived b c) where
  -- nothing is left to infer
  pub derived_closure : Obeys (view c) → some c ≡ closure b
  derived_closure obeys =
      let least : ClosedTo b (some c) = record { more = derived.more; meets = obeys; least = λ w up ob _. derived.least w up ob tt } in
      sym (closure_is b within (some c) least)

  -- one more inference
  module _ (f : Fact) (infers : Infers (view c) f) where
    pub derived_next : (Holds (view c) f → ⊥) → (d : Board) → update c f ≡ some d → Derived b d × (measure d < measure c)
    derived_next unshown d e =
        let step : Updated c f (some d) = subst (Updated c f) e (updated c derived.more.within f (infers_known (view c) f infers)) in
        (subst (Derives b) e (derives_further b c derived f infers), measure_falls c d step.more f infers unshown step.meets)

    -- a mark would have to change
    pub derived_none : update c f ≡ none → update c f ≡ closure b
    derived_none e = e ∙ derives_closure b within (subst (Derives b) e (derives_further b c derived f infers))
