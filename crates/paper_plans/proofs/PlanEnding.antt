-- The theorems on the planner: its answer is how its tries end, or spent where they take more than the budget (`plan_ending`); over the
-- least closed board of entries, these find one of their schedules (`found_schedule`), or there is none (`none_scheduled`).
use Rattle.std.specs.Prelude.{◌≡◌, refl, ◌↔◌, Bool, true, false, cond, List, ℕ, ◌<◌, ◌≤◌, leb, ℤ, pos, Ok}
use Rattle.std.proofs.Common.{sym, ap, ◌∙◌, arith, leb-false, le-leb}
use Rattle.std.proofs.lemmas.Bool.{lt-leb}
use Rattle.ground_arithmetic.specs.Bools.{clash}
use Rattle.paper_board.specs.declared.Board.{Board}
use Rattle.paper_board.specs.Paper.View.{View, view}
use Rattle.paper_rules.specs.Paper.Entries.{Entries, Admissible}
use Rattle.paper_board.specs.Paper.Limits.{Limited, job_limit}
use Rattle.paper_rules.specs.Paper.Closed.{Least}
use Rattle.paper_rules.specs.Paper.Schedules.{Placing, Schedule}
use Rattle.paper_rules.proofs.ScheduleClosed.{least_keeps}
use Rattle.paper_rules.specs.Schedule.KeepsSchedule.{keeps_schedule}
use Rattle.paper_board.proofs.LimitsDecided.{decides_between}
use Rattle.paper_board.specs.BoardTests.Live.{valid_yes}
use Rattle.paper_closure.specs.Passes.{passes}
use Rattle.paper_closure.proofs.PassesClosed.{passes_within}
use Rattle.paper_entries.specs.Paper.Entry.{number}
use Rattle.paper_entries.specs.Paper.Checks.{budget_limit}
use Rattle.paper_plans.specs.declared.TriesEnd.TheVariants as Ends
use Rattle.paper_plans.specs.Paper.Lists.{among}
use Rattle.paper_plans.specs.Paper.Tries.{Ending, found, none, plan_of, tries}
use Rattle.paper_plans.specs.Paper.Planner.{valid_jobs, unplanned, with_plan, planned_within, plan}
use Rattle.paper_plans.specs.Paper.PlanReply.{PlanReply, plan_found, plan_none, plan_spent, plan_reply_of}
use Rattle.paper_plans.specs.Paper.ReplyWithin.{IsBudget, taken, reply_within}
use Rattle.paper_plans.proofs.TriesSound.{tries_sound}
use Rattle.paper_plans.proofs.TriesComplete.{tries_complete}
use Rattle.paper_plans.proofs.PlanLaws.{valid_distinct, valid_among, plan_placing, plan_tries}

-- ---- what a budget makes of an ending

module _ (v : View) (budget : ℕ) where
  -- an answer r that isn't spent, where t tries are within the budget
  spent_beyond : (t : ℕ) (r : PlanReply) → (r ≡ plan_spent budget → ⊥)
      → (cond (leb t budget) r (plan_spent budget) ≡ plan_spent budget) ↔ (budget < t)
  spent_beyond t r n = (λ q. go (leb t budget) refl q, λ l. rw (lt-leb t budget l))
    where
      go : (b : Bool) → leb t budget ≡ b → cond b r (plan_spent budget) ≡ plan_spent budget → budget < t
      go true e q = absurd (n q)
      go false e q = leb-false t budget e

  pub within_spent : (o : Ending) → (reply_within v budget o ≡ plan_spent budget) ↔ (budget < taken o)
  within_spent (found t ps) = spent_beyond t (plan_found t (plan_of v ps)) λ q. clash (cc)
  within_spent (none t) = spent_beyond t (plan_none t) λ q. clash (cc)

  pub within_found : (t : ℕ) (ps : List ℕ) → t ≤ budget → reply_within v budget (found t ps) ≡ plan_found t (plan_of v ps)
  within_found t ps l = rw (le-leb t budget l)

  pub within_none : (t : ℕ) → t ≤ budget → reply_within v budget (none t) ≡ plan_none t
  within_none t l = rw (le-leb t budget l)

-- ---- the tries on a board

-- the jobs of a list that the tries find are jobs of the board
module _ (v : View) (limits : Limited v) (T : ℕ) (ps : List ℕ) (e : tries v (valid_jobs v) ≡ found T ps) where
  small : (k : ℕ) → among ps k ≡ true → k < job_limit
  small k a =
      let (keeps, all) = tries_sound v (valid_jobs v) (valid_among v) limits (valid_distinct v) T ps e in
      omega (arith, valid_yes v k (sym (all k) ∙ a), limits.jobs)

-- the plan handed back, a word and a list of starts, is the list of placed jobs
planned_within_replied : (v : View) → Limited v → (budget : ℕ) (o : Ending) → tries v (valid_jobs v) ≡ o
    → plan_reply_of (planned_within v budget o) ≡ reply_within v budget o
planned_within_replied v limits budget (found t ps) e = go (leb t budget)
  where
    go : (b : Bool) → plan_reply_of (cond b (with_plan v (Ok (Ends.Found t)) ps) (unplanned (Ok (Ends.Spent budget)))) ≡ cond b (plan_found t (plan_of v ps)) (plan_spent budget)
    go true = ap (plan_found t) (sym (plan_placing v (Ok (Ends.Found t)) ps (small v limits t ps e)))
    go false = refl
planned_within_replied v limits budget (none t) e = go (leb t budget)
  where
    go : (b : Bool) → plan_reply_of (cond b (unplanned (Ok (Ends.None t))) (unplanned (Ok (Ends.Spent budget)))) ≡ cond b (plan_none t) (plan_spent budget)
    go true = refl
    go false = refl

pub plan_ending : (b : Board) → passes b ≡ true → (z : ℤ) → IsBudget z
    → plan_reply_of (plan b z) ≡ reply_within (view b) (number z) (tries (view b) (valid_jobs (view b)))
plan_ending b p z h =
    ap plan_reply_of (plan_tries b z p ((decides_between (pos 0) budget_limit z).show h))
    ∙ planned_within_replied (view b) (passes_within b p).limits (number z) (tries (view b) (valid_jobs (view b))) refl

module _ (es : Entries) (b : Board) (least : Least es b) where
  limits : Limited (view b)
  limits = least.closed.within.limits

  pub found_schedule : (T : ℕ) (ps : List ℕ) → tries (view b) (valid_jobs (view b)) ≡ found T ps → Schedule es (plan_of (view b) ps)
  found_schedule T ps e =
      let (keeps, all) = tries_sound (view b) (valid_jobs (view b)) (valid_among (view b)) limits (valid_distinct (view b)) T ps e in
      keeps_schedule es (view b) least.closed.shows (plan_of (view b) ps) keeps

  pub none_scheduled : Admissible es → (T : ℕ) → tries (view b) (valid_jobs (view b)) ≡ none T → (p : Placing) → Schedule es p → ⊥
  none_scheduled ok T e p s =
      tries_complete (view b) (valid_jobs (view b)) (valid_among (view b)) limits p (least_keeps es b ok least p s) (valid_distinct (view b)) T e
