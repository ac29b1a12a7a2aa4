-- Where some schedule keeps what the board shows, the tries don't end none: placed in the order of the schedule, no job starts
-- later than it does there, so that each of these tries places its job.
use Rattle.std.specs.Prelude.{◌≡◌, ◌≢◌, true, ◌+ℤ◌, ◌≤ℤ◌}
use Rattle.std.proofs.Common.{sym, ap, ◌∙◌, ⊎_elim, arith}
use Rattle.std.proofs.Math.Path.{subst}
use mathlib.Core.List.{List, [], ◌∷◌}
use Prim.Native.Nat.{ℕ, zero, suc, ◌<◌}
use Rattle.std.proofs.Math.ListN.{length}
use Rattle.std.specs.Int.Signed.{lt_z}
use Rattle.ground_arithmetic.specs.Bools.{is_true, refuted, by_test}
use Rattle.ground_arithmetic.specs.Linear.{whole, plus}
use Rattle.ground_arithmetic.specs.Sum.{least_member}
use Rattle.paper_board.specs.Paper.View.{View}
use Rattle.paper_rules.specs.Paper.Rules.{E, L}
use Rattle.paper_board.specs.Paper.Limits.{Limited}
use Rattle.paper_rules.specs.Paper.Entries.{drawn}
use Rattle.paper_board.specs.Paper.Facts.{is_arc}
use Rattle.paper_rules.specs.Paper.Schedules.{Placing, Placed, Keeps}
use Rattle.paper_board.specs.Paper.Tests.{valid}
use Rattle.paper_plans.specs.Paper.Lists.{among}
use Rattle.paper_plans.specs.Paper.Tries.{none, start_after, in_time, ready, unplaced, search, tries}
use Rattle.paper_plans.specs.ListLaws.{Distinct, among_first, among_rest}
use Rattle.paper_plans.specs.Unplaced.{none_placed, unplaced_is, ready_is, one_placed}
use Rattle.paper_plans.specs.EndingLaws.{IsFound, from_is}
use Rattle.paper_plans.proofs.TriesSound.{member_valid, member_takes}

a_member : (l : List ℕ) (n : ℕ) → length l ≡ suc n → (x : ℕ) × (among l x ≡ true)
a_member [] n e = absurd (omega arith)
a_member (j ∷ js) n e = (j, among_first j js)

module _ (v : View) (order : List ℕ) (all : (k : ℕ) → among order k ≡ valid v k) (limits : Limited v)
    (p : Placing) (h : Keeps v p) where
  placed_job : (k : ℕ) → among order k ≡ true → Placed p k
  placed_job k m = let (l, e) = member_valid v order all limits k m in h.valid k l e

  -- k is still to be placed
  abbrev Left : List ℕ → ℕ → Type 0
  Left ps k = among (unplaced v order ps) k ≡ true

  -- those still to be placed can start no later than in the schedule
  abbrev Ahead : List ℕ → Type 0
  Ahead ps = (k : ℕ) → Left ps k → start_after v ps k ≤ℤ p.start k

  left_member : (ps : List ℕ) (k : ℕ) → Left ps k → among order k ≡ true
  left_member ps k a = ((unplaced_is v order ps k).yes a).1

  -- Of those still to be placed, j starts first in the schedule: its try places it, and then the others are still ahead.
  module _ (ps : List ℕ) (ahead : Ahead ps) (j : ℕ) (a : Left ps j) (first : (k : ℕ) → Left ps k → p.start j ≤ℤ p.start k) where
    placed : Placed p j
    placed = placed_job j (left_member ps j a)

    is_ready : ready v order ps j ≡ true
    is_ready =
        (ready_is v order ps j).show λ i m arc. is_true (among ps i) λ n.
        omega (
          whole,
          first i ((unplaced_is v order ps i).show (n, m)),
          h.facts (is_arc i j) (drawn i j arc) (placed_job i m) placed,
          member_takes v order all limits i m,
          plus (p.start i) (L v i),
        )

    is_in_time : in_time v ps j ≡ true
    is_in_time = omega (whole, ahead j a, h.latest j placed, plus (p.start j) (L v j), plus (start_after v ps j) (L v j))

    others_after : (k : ℕ) → Left ps k → j ≢ k → (p.start j +ℤ L v j) ≤ℤ p.start k
    others_after k b ne =
        let m = left_member ps k b in
        ⊎_elim (λ e. e) (λ e. omega (whole, first k b, member_takes v order all limits k m, plus (p.start k) (L v k)))
        (h.apart j k placed (placed_job k m) ne)

    still_ahead : Ahead (j ∷ ps)
    unfolding start_after
    still_ahead k b =
        let (n, m) = (unplaced_is v order (j ∷ ps) k).yes b in
        let ne : j ≢ k = λ d. refuted n (rw d (among_first k ps)) in
        let after = others_after k ((unplaced_is v order ps k).show (sym (among_rest j ps k ne) ∙ n, m)) ne in
        by_test (λ z. z ≤ℤ p.start k) (lt_z (E v k) (start_after v ps j +ℤ L v j)) _ _
        (λ e. omega (whole, ahead j a, after, plus (p.start j) (L v j), plus (start_after v ps j) (L v j)))
        (λ e. h.earliest k (placed_job k m))

  search_finds : Distinct order → (n : ℕ) (ps : List ℕ) → length (unplaced v order ps) ≡ n → Ahead ps → IsFound (search v order n ps)
  unfolding search
  search_finds d zero ps e ahead = tt
  search_finds d (suc n) ps e ahead =
      let below : (k : ℕ) → Left ps k → k < v.jobs = λ k a. (member_valid v order all limits k (left_member ps k a)).0 in
      let (x, s) = a_member (unplaced v order ps) n e in
      let (j, l, a, least) = least_member v.jobs (among (unplaced v order ps)) p.start x (below x s) s in
      let first : (k : ℕ) → Left ps k → p.start j ≤ℤ p.start k = λ k b. least k (below k b) b in
      let (fresh, member) = (unplaced_is v order ps j).yes a in
      from_is v order (search v order n) ps (unplaced v order ps) j a
      (rw (is_ready ps ahead j a first, is_in_time ps ahead j a first)
      (search_finds d n (j ∷ ps) (omega (arith, one_placed v order ps d j member fresh)) (still_ahead ps ahead j a first)))

  pub tries_complete : Distinct order → (T : ℕ) → tries v order ≡ none T → ⊥
  unfolding start_after
  tries_complete d T e =
      subst IsFound e
      (search_finds d (length order) [] (ap length (none_placed v order)) λ k a. h.earliest k (placed_job k (left_member [] k a)))
