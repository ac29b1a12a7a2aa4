-- Telling the answers apart: the checks 1 to 7 give neither 0 nor 8, and acceptance is no refusal.
use Rattle.std.specs.Prelude.{◌≡◌, refl, Bool, true, false, ◌&&◌, List, [], ◌∷◌, ℕ, ◌<◌, ltb}
use Rattle.std.proofs.Common.{subst, arith, ltb-true}
use Rattle.std.proofs.Math.Option.{Option, none, some}
use Rattle.ground_arithmetic.specs.Bools.{clash, and_parts}
use Rattle.paper_board.specs.declared.Board.{Board}
use Rattle.paper_board.specs.declared.Refusal.{Refusal}
use Rattle.paper_board.specs.Paper.Refusals.{number_of}
use Rattle.paper_entries.specs.declared.Entered.{Entered}
use Rattle.paper_entries.specs.Paper.Entry.{Statement, arc, mark, cut, Entry, addition, other}
use Rattle.paper_entries.specs.Paper.Checks.{Check, statement_checks, checks, first_refusal}
use Rattle.paper_entries.specs.Paper.Enter.{acceptance}
use Rattle.paper_entries.specs.Paper.Replies.{no_number, reply_of}
use Rattle.paper_entries.specs.Paper.Outcome.{Ends, by_table, impossible, accepted}

-- every line of a list of checks has a refusal that passes a test
unfoldable pub lines : (Refusal → Bool) → List Check → Bool
lines f [] = true
lines f (c ∷ cs) = f c.refusal && lines f cs

pub refusal_line : (f : Refusal → Bool) (cs : List Check) (r : Refusal) → lines f cs ≡ true → first_refusal cs ≡ some r → f r ≡ true
unfolding lines first_refusal
refusal_line f [] r l g = clash (cc)
refusal_line f (c ∷ cs) r l g = go c.refuses refl (and_parts (f c.refusal) (lines f cs) l) (λ h. refusal_line f cs r h)
  where
    go : (t : Bool) → c.refuses ≡ t → (f c.refusal ≡ true) × (lines f cs ≡ true) → (lines f cs ≡ true → first_refusal cs ≡ some r → f r ≡ true)
        → f r ≡ true
    go true m h rest =
        let found : ◌≡◌ {A = Option Refusal} (some c.refusal) (some r) = rw (m, first_refusal) at g in
        let same : c.refusal ≡ r = cc in
        subst (λ x. f x ≡ true) same h.0
    go false m h rest = rest h.1 (rw (m, first_refusal) at g)

-- an entry's checks are among the lines 1 to 7
middle : Refusal → Bool
middle r = ltb 0 (number_of r) && ltb (number_of r) 8

middle_checks : (n : ℕ) (e : Entry) → lines middle (checks n e) ≡ true
unfolding lines middle
middle_checks n (addition l e d m) = refl
middle_checks n (other s) = middle_statement s
  where
    middle_statement : (s : Statement) → lines middle (statement_checks n s) ≡ true
    middle_statement (arc a b) = refl
    middle_statement (mark j m) = refl
    middle_statement (cut j e d) = refl

pub by_table_middle : (n : ℕ) (e : Entry) (r : Refusal) → first_refusal (checks n e) ≡ some r → (0 < number_of r) × (number_of r < 8)
unfolding middle
by_table_middle n e r g =
    let (low, high) = and_parts (ltb 0 (number_of r)) (ltb (number_of r) 8) (refusal_line middle (checks n e) r (middle_checks n e) g) in
    (ltb-true 0 (number_of r) low, ltb-true (number_of r) 8 high)

pub not_refused : (n : ℕ) (e : Entry) (r : ℕ) → reply_of (acceptance n e) ≡ no_number r → ⊥
not_refused n (addition l e d m) r q = clash (cc)
not_refused n (other s) r q = clash (cc)

-- a call that was answered 8 passed the checks 1 to 7, and the closure with its entry is a contradiction
pub answered_impossible : (b : Board) (e : Entry) (C : Type 0) (B : Board → Type 0) (x : Entered) → Ends b e C B x
    → reply_of x.answer ≡ no_number 8 → (first_refusal (checks b.jobs e) ≡ none) × C
answered_impossible b e C B _ (by_table r g) q =
    let eight : number_of r ≡ 8 = cc in
    absurd (omega (arith, by_table_middle b.jobs e r g))
answered_impossible b e C B _ (impossible g c) q = (g, c)
answered_impossible b e C B _ (accepted g c k t) q = absurd (not_refused b.jobs e 8 q)

-- a call on a board that passes check 0 is not answered 0
pub answered_board : (b : Board) (e : Entry) (C : Type 0) (B : Board → Type 0) (x : Entered) → Ends b e C B x
    → reply_of x.answer ≡ no_number 0 → ⊥
answered_board b e C B _ (by_table r g) q =
    let zero : number_of r ≡ 0 = cc in
    omega (arith, by_table_middle b.jobs e r g)
answered_board b e C B _ (impossible g c) q = clash (cc)
answered_board b e C B _ (accepted g c k t) q = not_refused b.jobs e 0 q
