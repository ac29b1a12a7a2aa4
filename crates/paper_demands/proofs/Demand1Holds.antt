-- Demand 1 holds of every call on every board handed in.
use Rattle.std.specs.Prelude.{◌≡◌, refl, ◌≢◌, ◌⊎◌, ◌↔◌, Bool, true, false, cond, not, ◌&&◌, ℕ, eqb, Some, None, Ok, Err}
use Rattle.std.proofs.Common.{sym, subst, ◌∙◌, inl, inr, ⊎_elim, arith, eqb-true, eq-eqb, ne_eqb}
use mathlib.Core.List.{List, [], ◌∷◌, Memᴰ}
use Rattle.std.proofs.Math.Option.{Option, none, some}
use Rattle.ground_arithmetic.specs.Bools.{clash, refuted, and_parts}
use Rattle.paper_board.specs.declared.Board.{Board}
use Rattle.paper_board.specs.declared.Refusal.{Refusal}
use Rattle.paper_board.specs.Paper.Refusals.{number_of}
use Rattle.paper_closure.specs.Passes.{passes}
use Rattle.paper_closure.proofs.PassesClosed.{passes_closed}
use Rattle.paper_entries.specs.Paper.Answers.{Answer}
use Rattle.paper_entries.specs.AnsweredImpossible.{lines, refusal_line}
use Rattle.paper_entries.proofs.RefusedExactly.{refused_board}
use Rattle.paper_entries.specs.Paper.Replies.{no_number, reply_of}
use Rattle.paper_entries.specs.Paper.Enter.{counted, enter}
use Rattle.paper_entries.specs.Paper.Entry.{arc, mark, cut, Entry, addition, other}
use Rattle.paper_entries.specs.Paper.Checks.{first_refusal}
use Rattle.paper_plans.specs.Paper.Lists.{among}
use Rattle.paper_requests.specs.Paper.Requests.{Request, entry, row, pair, plan, Sort, an-addition, an-arc, a-mark, a-cut, a-row, a_pair, a-plan, sort_of, refusals_of, checks_of, refusal, board_after}
use Rattle.paper_demands.specs.Demands.{InOrder, Demand1}
use Rattle.paper_requests.specs.RefusalLaws.{refused_number, refused_zero, refused_table, passed_result}
use Rattle.paper_requests.proofs.Witnesses.{witnesses}

-- ---- the numbers of a call

member : (l : List ℕ) (k : ℕ) → among l k ≡ true → Memᴰ k l
unfolding among
member [] k e = clash (cc)
member (j ∷ l) k e = go (eqb j k) refl (λ h. member l k h)
  where
    go : (t : Bool) → eqb j k ≡ t → (among l k ≡ true → Memᴰ k l) → Memᴰ k (j ∷ l)
    go true i rest = Memᴰ.head (sym (eqb-true j k i))
    go false i rest = Memᴰ.tail (rest (rw i at e))

-- the lines of a call's checks have numbers of its own, other than 0
fits : Sort → Refusal → Bool
fits s r = among (refusals_of s) (number_of r) && not (eqb (number_of r) 0)

lines_fit : (n : ℕ) (q : Request) → lines (fits (sort_of q)) (checks_of n q) ≡ true
unfolding lines fits among
lines_fit n (entry (addition l e d m)) = refl
lines_fit n (entry (other (arc a b))) = refl
lines_fit n (entry (other (mark j m))) = refl
lines_fit n (entry (other (cut j e d))) = refl
lines_fit n (row j) = refl
lines_fit n (pair a b) = refl
lines_fit n (plan z) = refl

all_have_0 : (s : Sort) → among (refusals_of s) 0 ≡ true
unfolding among
all_have_0 an-addition = refl
all_have_0 an-arc = refl
all_have_0 a-mark = refl
all_have_0 a-cut = refl
all_have_0 a-row = refl
all_have_0 a_pair = refl
all_have_0 a-plan = refl

module _ (b : Board) (q : Request) where
  -- what a refusal by the table says
  table_fits : (r : Refusal) → first_refusal (checks_of b.jobs q) ≡ some r → (among (refusals_of (sort_of q)) (number_of r) ≡ true) × (number_of r ≢ 0)
  unfolding fits
  table_fits r g =
      let (own, nonzero) = and_parts (among (refusals_of (sort_of q)) (number_of r)) (not (eqb (number_of r) 0)) (refusal_line (fits (sort_of q)) (checks_of b.jobs q) r (lines_fit b.jobs q) g) in
      (own, λ z. refuted (rw (eq-eqb (number_of r) 0 z)) nonzero)

  own_number : (r : ℕ) → refusal b q ≡ some r → among (refusals_of (sort_of q)) r ≡ true
  own_number r e = go (passes b) refl
    where
      is : (n : ℕ) → refusal b q ≡ some n → among (refusals_of (sort_of q)) n ≡ true → among (refusals_of (sort_of q)) r ≡ true
      is n e' h = let same : n ≡ r = cc in subst (λ k. among (refusals_of (sort_of q)) k ≡ true) same h

      checked : passes b ≡ true → (o : Option Refusal) → first_refusal (checks_of b.jobs q) ≡ o → among (refusals_of (sort_of q)) r ≡ true
      checked p (some s) g = is (number_of s) (refused_table b q s p g) (table_fits s g).0
      checked p none g = go (passed_result b q p g)
        where
          go : (refusal b q ≡ none) ⊎ ((refusal b q ≡ some 8) × (among (refusals_of (sort_of q)) 8 ≡ true)) → among (refusals_of (sort_of q)) r ≡ true
          go (inl n) = clash (cc)
          go (inr (i, h)) = is 8 i h

      go : (t : Bool) → passes b ≡ t → among (refusals_of (sort_of q)) r ≡ true
      go true p = checked p (first_refusal (checks_of b.jobs q)) refl
      go false p = is 0 (refused_zero b q p) (all_have_0 (sort_of q))

  zero_exactly : (refusal b q ≡ some 0) ↔ (InOrder b → ⊥)
  zero_exactly = (λ e c. forth e ((passes_closed b).1 c) (first_refusal (checks_of b.jobs q)) refl, λ n. back n (passes b) refl)
    where
      forth : refusal b q ≡ some 0 → passes b ≡ true → (o : Option Refusal) → first_refusal (checks_of b.jobs q) ≡ o → ⊥
      forth e p (some s) g = let z : number_of s ≡ 0 = cc (refused_table b q s p g) in (table_fits s g).1 z
      forth e p none g = go (passed_result b q p g)
        where
          go : (refusal b q ≡ none) ⊎ ((refusal b q ≡ some 8) × (among (refusals_of (sort_of q)) 8 ≡ true)) → ⊥
          go (inl n) = clash (cc)
          go (inr (i, h)) = let z : ◌≡◌ {A = ℕ} 8 0 = cc in omega (arith, z)

      back : (InOrder b → ⊥) → (t : Bool) → passes b ≡ t → refusal b q ≡ some 0
      back n true p = absurd (n ((passes_closed b).0 p))
      back n false p = refused_zero b q p

-- ---- the board after a refusal

refused_as : (a : Answer) (r : ℕ) → reply_of a ≡ no_number r → (s : Refusal) × (a ≡ Err s) × (number_of s ≡ r)
refused_as (Ok (Some k)) r q = clash (cc)
refused_as (Ok None) r q = clash (cc)
refused_as (Err s) r q = (s, refl, cc)

-- the board after an entry refused with r
left : (b : Board) (e : Entry) (r : ℕ) → refusal b (entry e) ≡ some r → (enter b e).board ≡ cond (eqb r 8) (counted b) b
left b e r q =
    let (s, a, n) = refused_as (enter b e).answer r (refused_number (reply_of (enter b e).answer) r q) in
    subst (λ k. (enter b e).board ≡ cond (eqb k 8) (counted b) b) n (refused_board b e s a)

kept : (b : Board) (q : Request) (r : ℕ) → refusal b q ≡ some r → r ≢ 8 → board_after b q ≡ b
kept b (entry e) r q n = left b e r q ∙ rw (ne_eqb r 8 n)
kept b (row j) r q n = refl
kept b (pair x y) r q n = refl
kept b (plan z) r q n = refl

-- no call that looks is refused with 8
tallied : (b : Board) (q : Request) → refusal b q ≡ some 8 → board_after b q ≡ counted b
unfolding among
tallied b (entry e) q = left b e 8 q
tallied b (row j) q = clash (cc (own_number b (row j) 8 q))
tallied b (pair x y) q = clash (cc (own_number b (pair x y) 8 q))
tallied b (plan z) q = clash (cc (own_number b (plan z) 8 q))

pub demand1 : Demand1
demand1 =
    record {
      refusals = λ b q r e. member (refusals_of (sort_of q)) r (own_number b q r e);
      met = witnesses;
      board = zero_exactly;
      table = λ b q c r g. refused_table b q r ((passes_closed b).1 c) g;
      passed = λ b q c g. ⊎_elim inl (λ (i, h). inr i) (passed_result b q ((passes_closed b).1 c) g);
      kept = kept;
      one_more = tallied;
    }
