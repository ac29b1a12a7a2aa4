-- A run of inferences, until nothing is left to infer or a mark would have to change, leaves the closure.
use Rattle.std.specs.Prelude.{◌≡◌, ℕ, ◌<◌}
use Rattle.std.proofs.Common.{sym, ◌∙◌, arith}
use Rattle.std.proofs.Math.Option.{Option, none, some}
use Rattle.paper_board.specs.declared.Board.{Board}
use Rattle.paper_board.specs.Paper.View.{view}
use Rattle.paper_board.specs.declared.facts.Fact as Facts
use Rattle.paper_board.specs.Paper.Facts.{Fact, Holds, AboutJobs}
use Rattle.paper_board.specs.Paper.Limits.{job_limit, Within}
use Rattle.paper_board.specs.Paper.Values.{fact_of}
use Rattle.paper_rules.specs.Inference.Infers.{Infers, Obeys}
use Rattle.paper_rules.specs.Inference.AboutMore.{about_more}
use Rattle.paper_rules.specs.Update.Updates.{update}
use Rattle.paper_rules.specs.Update.Derives.{Derives, Derived, derives_then, infers_known}
use Rattle.paper_closure.specs.Closure.{closure}
use Rattle.paper_closure.specs.Measure.{measure, measure_mono}
use Rattle.paper_closure.proofs.DerivedClosure.{derives_closure, derived_closure, derived_next, derived_none}
use Rattle.engine_updates.specs.Applicable.{Applicable}
use Rattle.engine_marks.specs.Marked.{marked, unmarked}
use Rattle.engine_findings.specs.Searched.{Searched}
use Rattle.engine_search.specs.PairsWalk.{BoardRead, ReadSearched}
use Rattle.engine_search.specs.Reads.{board_read}
use Rattle.engine_closure.specs.InferredApplicable.{inferred_applicable}

-- a rule infers the fact, and the board doesn't show it yet
abbrev pub Unshown : Fact → Board → Type 0
Unshown f b = Infers (view b) f × (Holds (view b) f → ⊥)

-- A run of inferences leads from the board b to c, by whichever facts of the paper.
module _ (b c : Board) (within : Within b) (run : Derived b c) where
  -- nothing is left to infer
  pub arrays_closed : Obeys (view c) → closure b ≡ some c
  arrays_closed obeys = sym (derived_closure b c within run obeys)

  -- propagation finds that there is no board
  pub arrays_none : Derives c none → closure b ≡ none
  arrays_none out = sym (derives_closure b within (derives_then b c run none out))

  -- one more inference
  module _ (f : Fact) (new : Unshown f c) (next : Board) (step : update c f ≡ some next) where
    further : Derived b next × (measure next < measure c)
    further = derived_next b c within run f new.0 new.1 next step

    pub arrays_next : Derived b next
    arrays_next = further.0

    pub arrays_less : measure next < measure b
    arrays_less = omega (arith, further.1, measure_mono b c run.more)

  -- a mark would have to change
  pub arrays_contradict : (f : Fact) → Unshown f c → update c f ≡ none → closure b ≡ none
  arrays_contradict f new step = sym (derived_none b c within run f new.0 step) ∙ step

-- Inferences lead from the board b over d to c, which has these live and valid jobs.
module _ (b d c : Board) (within : Within b) (run : Derived b d) (lives valids : ℕ)
    (more : Derived d c × (lives ≡ unmarked c.jobs c.marks 2) × (valids ≡ marked c.jobs c.marks 1)) where
  -- so they lead from b to c, with the same jobs
  pub led : Derived b c × (lives ≡ unmarked c.jobs c.marks 2) × (valids ≡ marked c.jobs c.marks 1)
  led = (derives_then b d run (some c) more.0, more.1, more.2)

  read : BoardRead c lives valids c.earliest c.latest c.lengths c.before c.after
  read = board_read c more.0.more.within more.1 more.2

  searched : (o : Option Fact) → ReadSearched Obeys lives valids c.earliest c.latest c.lengths c.before c.after o → Searched (view c) (Obeys (view c)) o
  searched o found = found c read

  -- nothing is left to infer
  pub led_closed : ReadSearched Obeys lives valids c.earliest c.latest c.lengths c.before c.after none → closure b ≡ some c
  led_closed found = arrays_closed b c within led.0 (searched none found)

  -- a fact that a rule infers, and that the board doesn't show yet
  module _ (f : Fact) (found : ReadSearched Obeys lives valids c.earliest c.latest c.lengths c.before c.after (some f)) where
    pub led_unshown : Unshown f c
    led_unshown = searched (some f) found

    pub led_known : AboutJobs c.jobs f
    led_known = infers_known (view c) f led_unshown.0

    pub led_placed : AboutJobs job_limit f
    led_placed = about_more more.0.more.within.limits.jobs f led_known

    -- one more inference
    module _ (next : Board) (step : update c f ≡ some next) where
      pub led_next : Derived b next
      led_next = arrays_next b c within led.0 f led_unshown next step

      pub led_less : measure next < measure d
      led_less = arrays_less d c run.more.within more.0 f led_unshown next step

    -- a mark would have to change
    pub led_contradicts : update c f ≡ none → closure b ≡ none
    led_contradicts step = arrays_contradict b c within led.0 f led_unshown step

  -- the code can update the board by the fact
  module _ (f : Facts.Fact) (found : ReadSearched Obeys lives valids c.earliest c.latest c.lengths c.before c.after (some (fact_of f))) where
    pub led_applicable : Applicable f
    led_applicable = let (infers, unshown) = led_unshown (fact_of f) found in inferred_applicable c more.0.more.within f infers unshown

    pub led_updates : Within c × AboutJobs c.jobs (fact_of f) × Applicable f
    led_updates = (more.0.more.within, led_known (fact_of f) found, led_applicable)
