-- The refusals that the exported calls reply are those that each call has, in numbers: no other occurs.
use Rattle.std.specs.Prelude.{◌≡◌, refl, false, ℤ, Some, None, Ok, Err}
use mathlib.Core.List.{Memᴰ}
use Rattle.std.proofs.Math.Option.{some}
use Rattle.ground_arithmetic.specs.Bools.{clash}
use Rattle.paper_board.specs.declared.Board.{Board}
use Rattle.paper_entries.specs.Paper.Answers.{Answer, RowAnswer, PairAnswer}
use Rattle.paper_entries.specs.Paper.Replies.{reply_of, row_reply_of, pair_reply_of}
use Rattle.paper_entries.specs.Paper.Enter.{enter}
use Rattle.paper_entries.specs.Paper.Entry.{Entry}
use Rattle.paper_entries.specs.Paper.Looking
use Rattle.paper_plans.specs.declared.TriesEnd.TheVariants as Ends
use Rattle.paper_plans.specs.Paper.Answers.{PlanAnswer}
use Rattle.paper_plans.specs.declared.Planned.{Planned}
use Rattle.paper_plans.specs.Paper.PlanReply.{plan_reply_of}
use Rattle.paper_plans.specs.Paper.Planner
use Rattle.paper_demands.proofs.Demand1Holds.{demand1}
use Rattle.paper_requests.specs.Paper.Requests.{entry, row, pair, plan, a-row, a_pair, a-plan, sort_of, refusals_of, entry_refusal, row_refusal, pair_refusal, plan_refusal}
use Rattle.call_reply_numbers.specs.ReplyNumbers.{reply_numbers, row_reply_numbers, pair_reply_numbers, plan_reply_numbers}

-- a reply that isn't accepted has the number of the refusal
entry_number : (a : Answer) → (reply_numbers a).accepted ≡ false → entry_refusal (reply_of a) ≡ some (reply_numbers a).number
entry_number (Ok (Some k)) e = clash (cc)
entry_number (Ok None) e = clash (cc)
entry_number (Err r) e = refl

row_number : (a : RowAnswer) → (row_reply_numbers a).accepted ≡ false → row_refusal (row_reply_of a) ≡ some (row_reply_numbers a).refusal
row_number (Ok shown) q = clash (cc)
row_number (Err r) q = refl

pair_number : (a : PairAnswer) → (pair_reply_numbers a).accepted ≡ false → pair_refusal (pair_reply_of a) ≡ some (pair_reply_numbers a).refusal
pair_number (Ok shown) q = clash (cc)
pair_number (Err r) q = refl

pub entry_refusals : (b : Board) (e : Entry) → (reply_numbers (enter b e).answer).accepted ≡ false
    → Memᴰ (reply_numbers (enter b e).answer).number (refusals_of (sort_of (entry e)))
entry_refusals b e q = demand1.refusals b (entry e) _ (entry_number (enter b e).answer q)

pub row_refusals : (b : Board) (j : ℤ) → (row_reply_numbers (Looking.row b j)).accepted ≡ false
    → Memᴰ (row_reply_numbers (Looking.row b j)).refusal (refusals_of a-row)
row_refusals b j q = demand1.refusals b (row j) _ (row_number (Looking.row b j) q)

pub pair_refusals : (b : Board) (x y : ℤ) → (pair_reply_numbers (Looking.pair b x y)).accepted ≡ false
    → Memᴰ (pair_reply_numbers (Looking.pair b x y)).refusal (refusals_of a_pair)
pair_refusals b x y q = demand1.refusals b (pair x y) _ (pair_number (Looking.pair b x y) q)

-- a plan that is refused ends with 3
plan_number : (p : Planned) (a : PlanAnswer) → p.answer ≡ a → (plan_reply_numbers p).ending ≡ 3 → plan_refusal (plan_reply_of p) ≡ some (plan_reply_numbers p).number
plan_number p (Ok (Ends.Found t)) e q = clash (cc)
plan_number p (Ok (Ends.None t)) e q = clash (cc)
plan_number p (Ok (Ends.Spent t)) e q = clash (cc)
plan_number p (Err r) e q = rw e

pub plan_refusals : (b : Board) (z : ℤ) → (plan_reply_numbers (Planner.plan b z)).ending ≡ 3
    → Memᴰ (plan_reply_numbers (Planner.plan b z)).number (refusals_of a-plan)
plan_refusals b z q = demand1.refusals b (plan z) _ (plan_number (Planner.plan b z) (Planner.plan b z).answer refl q)
