-- Every board on the way passes check 0, so that the text never meets refusal 0: "the text program never meets it".
use Rattle.std.specs.Prelude.{◌≡◌, Bool, ◌&&◌, List, [], ◌∷◌, ℕ, ◌<◌, ltb, leb, ℤ, length}
use Rattle.std.specs.Prelude.{Some, None}
use Rattle.std.specs.Prelude as std
use Rattle.std.proofs.Math.Path.{refl}
use Rattle.std.proofs.Common.{ap, arith, ltb-true}
use Rattle.std.proofs.Math.Bool.{true, false}
use Rattle.std.proofs.Math.Option.{Option, none, some}
use Rattle.ground_arithmetic.specs.Bools.{clash}
use Rattle.paper_board.specs.declared.Board.{Board}
use Rattle.paper_board.specs.declared.Refusal.{Refusal}
use Rattle.paper_board.specs.Paper.Limits.{empty_board}
use Rattle.paper_board.specs.Paper.Parts.{empty_books}
use Rattle.paper_rules.specs.Order.Empty.{within_empty_books}
use Rattle.paper_board.specs.Paper.Refusals.{number_of}
use Rattle.paper_board.specs.Paper.View.{View, view}
use Rattle.paper_board.specs.Paper.Tests.{live}
use Rattle.paper_closure.specs.Passes.{passes}
use Rattle.paper_closure.proofs.PassesClosed.{empty_passes}
use Rattle.text_forms.specs.Paper.Forms.{form_of}
use Rattle.paper_entries.specs.Paper.Entry.{Entry, number}
use Rattle.paper_entries.specs.Paper.EntryOf.{entry_of}
use Rattle.paper_entries.specs.Paper.Checks.{Check, job_check, pair_checks, budget_check, first_refusal}
use Rattle.paper_entries.specs.Paper.Enter.{enter}
use Rattle.paper_entries.specs.Paper.Looking.{row, arcs, pair}
use Rattle.paper_entries.specs.Paper.Replies.{Reply, ok_number, ok, no_number, reply_of, shows_row, no_row, row_reply_of, shows_pair, no_pair, pair_reply_of}
use Rattle.paper_entries.specs.AnsweredImpossible.{lines, refusal_line, answered_board}
use Rattle.paper_entries.proofs.Later.{call_later}
use Rattle.paper_entries.proofs.EnterOutcome.{enter_checked}
use Rattle.paper_plans.specs.Paper.PlanReply.{plan_found, plan_none, plan_spent, no_plan, plan_reply_of}
use Rattle.paper_plans.specs.Paper.Tries.{Ending, found, none as exhausted, tries}
use Rattle.paper_plans.specs.Paper.ReplyWithin.{taken}
use Rattle.paper_plans.specs.Paper.Planner as planner
use Rattle.paper_plans.specs.Paper.Planner.{plan}
use Rattle.text_forms.specs.declared.Form.{Form}
use Rattle.text_forms.specs.declared.Form.TheVariants.{Entry as Enters, Row, Pair, Plan, Tally}
use Rattle.text_forms.specs.Paper.Lines.{Line, ended, unended, lines_of}
use Rattle.text_answers.specs.Paper.Text.{LineReply, to_entry, to_row, to_pair, to_plan, to_tally, carried_out, answered, serve, load_limit, serve_text}

pub carried_passes : (b : Board) (f : std.Option Form) → passes b ≡ true → passes (carried_out b f).board ≡ true
unfolding carried_out
carried_passes b (Some (Enters e)) p = (call_later b (entry_of e) p).passes
carried_passes b (Some (Row j)) p = p
carried_passes b (Some (Pair x y)) p = p
carried_passes b (Some (Plan n)) p = p
carried_passes b (Some Tally) p = p
carried_passes b None p = p

-- the number of the refusal that an answer is, if it is one
unfoldable pub refusal_in : LineReply → Option ℕ
refusal_in (to_entry (ok_number k)) = none
refusal_in (to_entry ok) = none
refusal_in (to_entry (no_number r)) = some r
refusal_in (to_row j (shows_row m e d before after)) = none
refusal_in (to_row j (no_row r)) = some r
refusal_in (to_pair (shows_pair arcs gap)) = none
refusal_in (to_pair (no_pair r)) = some r
refusal_in (to_plan (plan_found t p)) = none
refusal_in (to_plan (plan_none t)) = none
refusal_in (to_plan (plan_spent t)) = none
refusal_in (to_plan (no_plan r)) = some r
refusal_in (to_tally n) = none

-- an answer that is not refusal 0
abbrev pub NotZero : LineReply → Type 0
NotZero r = refusal_in r ≡ some 0 → ⊥

-- a refusal from the lines of the table but the first
positive : Refusal → Bool
positive r = ltb 0 (number_of r)

some_number : (n : ℕ) → 0 < n → ◌≡◌ {A = Option ℕ} (some n) (some 0) → ⊥
some_number n h e = let zero : n ≡ 0 = cc in omega arith

refusal_positive : (cs : List Check) (r : Refusal) → lines positive cs ≡ true → first_refusal cs ≡ some r → 0 < number_of r
unfolding positive
refusal_positive cs r l g = ltb-true 0 (number_of r) (refusal_line positive cs r l g)

module _ (b : Board) (p : passes b ≡ true) where
  entry_not_zero : (e : Entry) → NotZero (to_entry (reply_of (enter b e).answer))
  unfolding refusal_in
  entry_not_zero e = go (reply_of (enter b e).answer) (answered_board b e _ _ (enter b e) (enter_checked b e p))
    where
      go : (r : Reply) → (r ≡ no_number 0 → ⊥) → NotZero (to_entry r)
      go (ok_number k) h q = clash (cc)
      go ok h q = clash (cc)
      go (no_number n) h q = let zero : n ≡ 0 = cc in h (ap no_number zero)

  row_not_zero : (j : ℤ) → NotZero (to_row j (row_reply_of (row b j)))
  unfolding row refusal_in lines positive
  row_not_zero j = go (first_refusal (job_check b.jobs j ∷ [])) refl
    where
      go : (o : Option Refusal) → first_refusal (job_check b.jobs j ∷ []) ≡ o → NotZero (to_row j (row_reply_of (row b j)))
      go none g = rw (p, g, row) λ q. clash (cc)
      go (some r) g = rw (p, g, row) (some_number (number_of r) (refusal_positive _ r refl g))

  pair_not_zero : (x y : ℤ) → NotZero (to_pair (pair_reply_of (pair b x y)))
  unfolding pair refusal_in lines positive
  pair_not_zero x y = go (first_refusal (pair_checks b.jobs x y)) refl (live (view b) (number x) && live (view b) (number y)) refl
    where
      go : (o : Option Refusal) → first_refusal (pair_checks b.jobs x y) ≡ o
          → (t : Bool) → live (view b) (number x) && live (view b) (number y) ≡ t → NotZero (to_pair (pair_reply_of (pair b x y)))
      go none g true l = rw (p, g, l, pair) λ q. clash (cc)
      go none g false l = rw (p, g, l, pair) λ q. clash (cc)
      go (some r) g t l = rw (p, g, pair) (some_number (number_of r) (refusal_positive _ r refl g))

  plan_not_zero : (n : ℤ) → NotZero (to_plan (plan_reply_of (plan b n)))
  unfolding plan refusal_in lines positive
  plan_not_zero n = go (first_refusal (budget_check n ∷ [])) refl
    where
      o : Ending
      o = tries (view b) (planner.valid_jobs (view b))

      planned : (v : View) (k : ℕ) (o : Ending) (t : Bool) → leb (taken o) k ≡ t → NotZero (to_plan (plan_reply_of (planner.planned_within v k o)))
      planned v k (found t ps) true l = rw l λ q. clash (cc)
      planned v k (found t ps) false l = rw l λ q. clash (cc)
      planned v k (exhausted t) true l = rw l λ q. clash (cc)
      planned v k (exhausted t) false l = rw l λ q. clash (cc)

      go : (x : Option Refusal) → first_refusal (budget_check n ∷ []) ≡ x → NotZero (to_plan (plan_reply_of (plan b n)))
      go none g = rw (p, g, plan) (planned (view b) (number n) o (leb (taken o) (number n)) refl)
      go (some r) g = rw (p, g, plan) (some_number (number_of r) (refusal_positive _ r refl g))

  carried_not_zero : (f : std.Option Form) → NotZero (carried_out b f).reply
  unfolding carried_out refusal_in
  carried_not_zero (Some (Enters e)) = entry_not_zero (entry_of e)
  carried_not_zero (Some (Row j)) = row_not_zero j
  carried_not_zero (Some (Pair x y)) = pair_not_zero x y
  carried_not_zero (Some (Plan n)) = plan_not_zero n
  carried_not_zero (Some Tally) = λ q. clash (cc)
  carried_not_zero None = λ q. clash (cc)

  line_not_zero : (l : Line) → NotZero (answered b l).reply × (passes (answered b l).board ≡ true)
  unfolding refusal_in
  line_not_zero (ended l) = (carried_not_zero (form_of l), carried_passes b (form_of l) p)
  line_not_zero (unended l) = (λ q. clash (cc), p)

-- each of the answers
abbrev pub Every : (LineReply → Type 0) → List LineReply → Type 0
Every P [] = Unit
Every P (r ∷ rs) = P r × Every P rs

serve_not_zero : (b : Board) → passes b ≡ true → (ls : List Line) → Every NotZero (serve b ls).replies
unfolding serve
serve_not_zero b p [] = tt
serve_not_zero b p (l ∷ ls) =
    let (one, next) = line_not_zero b p l in
    (one, serve_not_zero (answered b l).board next ls)

-- no line of any text is answered 0
pub text_never_zero : (t : List ℕ) → Every NotZero (serve_text t).replies
unfolding serve_text refusal_in
text_never_zero t = go (leb (length t) load_limit) refl
  where
    go : (x : Bool) → leb (length t) load_limit ≡ x → Every NotZero (serve_text t).replies
    go true e = rw (e, serve_text) (serve_not_zero (empty_board empty_books) (empty_passes empty_books within_empty_books) (lines_of t))
    go false e = rw (e, serve_text) (λ q. clash (cc), tt)
