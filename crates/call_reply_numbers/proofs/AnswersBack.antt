-- Replies in numbers lose nothing: each answer can be had back from its reply, one to an entry with the entry known.
use Rattle.std.specs.Prelude.{◌≡◌, Bool, cond, List, [], ◌∷◌, ℕ, get_or, Ok, Err}
use Rattle.std.proofs.Math.Path.{refl}
use Rattle.std.proofs.Common.{ap}
use Rattle.std.proofs.Math.Bool.{true, false}
use Rattle.std.proofs.Math.Option.{Option, none, some}
use Rattle.paper_board.specs.declared.Board.{Board}
use Rattle.paper_board.specs.declared.Refusal.{Refusal}
use Rattle.paper_board.specs.declared.Refusal.TheVariants as Refused
use Rattle.paper_board.specs.Paper.Refusals.{number_of}
use Rattle.paper_closure.specs.Passes.{passes}
use Rattle.paper_entries.specs.Paper.Answers.{Answer, RowAnswer, PairAnswer}
use Rattle.paper_entries.specs.Paper.Entry.{Entry, addition, other}
use Rattle.paper_entries.specs.Paper.Checks.{checks, first_refusal}
use Rattle.paper_entries.specs.Paper.Enter.{acceptance, concluded, judged, closure_with, enter}
use Rattle.paper_plans.specs.declared.TriesEnd.TheVariants as Ends
use Rattle.paper_plans.specs.Paper.Answers.{PlanAnswer}
use Rattle.paper_plans.specs.declared.Planned.{Planned}
use Rattle.call_reply_numbers.specs.declared.ReplyNumbers.{ReplyNumbers}
use Rattle.call_reply_numbers.specs.declared.RowReplyNumbers.{RowReplyNumbers}
use Rattle.call_reply_numbers.specs.declared.PairReplyNumbers.{PairReplyNumbers}
use Rattle.call_reply_numbers.specs.declared.PlanReplyNumbers.{PlanReplyNumbers}
use Rattle.call_reply_numbers.specs.ReplyNumbers.{reply_numbers, row_reply_numbers, pair_reply_numbers, ending_number, plan_number, plan_reply_numbers}

-- the refusal with a number
abbrev table : List Refusal
table =
    Refused.Board ∷ Refused.Full ∷ Refused.Job ∷ Refused.Same ∷ Refused.Length ∷ Refused.Time ∷ Refused.Window ∷ Refused.Mark
    ∷ Refused.Impossible ∷ Refused.Budget ∷ Refused.Form ∷ Refused.Load ∷ []

abbrev pub numbered : ℕ → Refusal
numbered n = get_or table n Refused.Board

numbered_back : (r : Refusal) → numbered (number_of r) ≡ r
numbered_back Refused.Board = refl
numbered_back Refused.Full = refl
numbered_back Refused.Job = refl
numbered_back Refused.Same = refl
numbered_back Refused.Length = refl
numbered_back Refused.Time = refl
numbered_back Refused.Window = refl
numbered_back Refused.Mark = refl
numbered_back Refused.Impossible = refl
numbered_back Refused.Budget = refl
numbered_back Refused.Form = refl
numbered_back Refused.Load = refl

-- the answers with a reply
abbrev pub answer_to : Entry → ReplyNumbers → Answer
answer_to e r = cond r.accepted (acceptance r.number e) (Err (numbered r.number))

abbrev pub row_answer : RowReplyNumbers → RowAnswer
row_answer r =
    cond
    r.accepted
    (Ok (record { mark = r.mark; earliest = r.earliest; latest = r.latest; before = r.before; after = r.after }))
    (Err (numbered r.refusal))

abbrev pub pair_answer : PairReplyNumbers → PairAnswer
pair_answer r = cond r.accepted (Ok (record { arcs = r.arcs; gap = r.gap })) (Err (numbered r.refusal))

abbrev pub plan_answer : ℕ → ℕ → PlanAnswer
plan_answer e n = get_or (Ok (Ends.Found n) ∷ Ok (Ends.None n) ∷ Ok (Ends.Spent n) ∷ []) e (Err (numbered n))

abbrev pub planned : PlanReplyNumbers → Planned
planned r = record { answer = plan_answer r.ending r.number; placed = r.placed; starts = r.starts }

-- they are the answers replied to
module _ (b : Board) (e : Entry) where
  abbrev Back : Answer → Type 0
  Back a = answer_to e (reply_numbers a) ≡ a

  refused_back : (r : Refusal) → Back (Err r)
  refused_back r = ap Err (numbered_back r)

  accepted_back : (e' : Entry) (n : ℕ) → answer_to e' (reply_numbers (acceptance n e')) ≡ acceptance n e'
  accepted_back (addition l e d m) n = refl
  accepted_back (other s) n = refl

  concluded_back : (o : Option Board) → Back (concluded b (acceptance b.jobs e) o).answer
  concluded_back none = refused_back Refused.Impossible
  concluded_back (some c) = accepted_back e b.jobs

  judged_back : (o : Option Refusal) → Back (judged b e o).answer
  judged_back (some r) = refused_back r
  judged_back none = concluded_back (closure_with b e)

  pub entry_back : answer_to e (reply_numbers (enter b e).answer) ≡ (enter b e).answer
  unfolding enter
  entry_back = by_check (passes b) refl
    where
      by_check : (t : Bool) → passes b ≡ t → Back (enter b e).answer
      by_check false p = rw (p, enter) (refused_back Refused.Board)
      by_check true p = rw (p, enter) (judged_back (first_refusal (checks b.jobs e)))

pub row_back : (a : RowAnswer) → row_answer (row_reply_numbers a) ≡ a
row_back (Ok row) = refl
row_back (Err r) = ap Err (numbered_back r)

pub pair_back : (a : PairAnswer) → pair_answer (pair_reply_numbers a) ≡ a
pair_back (Ok pair) = refl
pair_back (Err r) = ap Err (numbered_back r)

ending_back : (a : PlanAnswer) → plan_answer (ending_number a) (plan_number a) ≡ a
ending_back (Ok (Ends.Found t)) = refl
ending_back (Ok (Ends.None t)) = refl
ending_back (Ok (Ends.Spent t)) = refl
ending_back (Err r) = ap Err (numbered_back r)

pub plan_back : (p : Planned) → planned (plan_reply_numbers p) ≡ p
plan_back p = ap (λ (a : PlanAnswer). record { answer = a; placed = p.placed; starts = p.starts }) (ending_back p.answer)
