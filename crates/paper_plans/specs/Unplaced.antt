-- The jobs of the order that are not placed, how many they are, and when a job is ready.
use Rattle.std.specs.Prelude.{◌≡◌, true, false, not, ◌&&◌, List, [], ◌∷◌, ℕ, suc, length}
use Rattle.std.proofs.lemmas.Bool.{not-false}
use Rattle.ground_arithmetic.specs.Bools.{is_false, refuted}
use Rattle.paper_board.specs.Paper.View.{View, Arc}
use Rattle.paper_board.specs.BoardTests.Decides.{Decides, holds, restated, retested, implied, negated, ◌and◌}
use Rattle.paper_board.specs.Paper.Tests.{implies}
use Rattle.paper_plans.specs.Paper.Lists.{among}
use Rattle.paper_plans.specs.Paper.Tries.{ready, unplaced}
use Rattle.paper_plans.specs.ListLaws.{Distinct, none_among, among_first, among_rest, keep_among, every_is, all_kept, one_less, none_passes}

pub none_placed : (v : View) (order : List ℕ) → unplaced v order [] ≡ order
none_placed v order = all_kept _ order λ k. rw (none_among k)

module _ (v : View) (order ps : List ℕ) where
  unplaced_among : (k : ℕ) → among (unplaced v order ps) k ≡ (not (among ps k) && among order k)
  unplaced_among k = keep_among (λ j. not (among ps j)) order k

  pub unplaced_is : (k : ℕ) → Decides (among (unplaced v order ps) k) ((among ps k ≡ false) × (among order k ≡ true))
  unplaced_is k =
      retested (unplaced_among k)
      (restated (negated (holds (among ps k)) and holds (among order k))
      (λ h. (is_false (among ps k) h.0, h.1))
      (λ h. (refuted h.0, h.1)))

  -- every job of the order with an arc to j is placed
  pub ready_is : (j : ℕ) → Decides (ready v order ps j) ((i : ℕ) → among order i ≡ true → Arc v i j → among ps i ≡ true)
  ready_is j =
      let asked : (i : ℕ) → Decides (implies (v.arc i j) (among ps i)) (Arc v i j → among ps i ≡ true) = λ i. implied (holds (v.arc i j)) (holds (among ps i)) in
      restated (every_is (λ i. implies (v.arc i j) (among ps i)) order) (λ h i m. (asked i).yes (h i m)) (λ h i m. (asked i).show (h i m))

  -- a job placed is one less to place
  pub one_placed : Distinct order → (j : ℕ) → among order j ≡ true → among ps j ≡ false
      → suc (length (unplaced v order (j ∷ ps))) ≡ length (unplaced v order ps)
  one_placed d j a n =
      one_less _ _ j (rw n) (rw (among_first j ps)) (λ k ne. rw (among_rest j ps k ne)) order d a

  pub all_placed : length (unplaced v order ps) ≡ 0 → (k : ℕ) → among order k ≡ true → among ps k ≡ true
  all_placed e k a = not-false (among ps k) (none_passes (λ j. not (among ps j)) order e k a)
