-- What storing a row, linking two jobs and invalidating one do to the rows and the arcs of a board. Whoever cites these
-- laws opens no list and no word.
use Rattle.std.specs.Prelude.{◌≡◌, refl, ◌≢◌, Bool, true, false, not, ◌&&◌, ◌||◌, List, map, ℕ, ◌^◌, ◌<◌, eqb, pos, length, get_or, set}
use Rattle.std.proofs.Common.{sym, ◌∙◌, ap, subst, subst₂, arith, get_or-set_same, get_or-set_other, eqb-true, eq-eqb, ne_eqb}
use Rattle.std.proofs.Math.Bool.{or-false, or-true, and-false, and_comm}
use Rattle.std.proofs.Math.Decide.{ℕ_discrete}
use Rattle.std.proofs.lemmas.List.{length-map}
use Rattle.std.proofs.Math.ListN.{get_or-map}
use Rattle.std.proofs.lemmas.Bool.{eqb-false, not-true}
use Rattle.ground_arithmetic.specs.Bools.{and_parts}
use Rattle.ground_sets.specs.Bit.{bit, with, without}
use Rattle.ground_sets.specs.BitLaws.{bit_zero, bit_with, bit_without, bit_ext}
use Rattle.paper_board.specs.declared.Board.{Board}
use Rattle.paper_board.specs.Paper.View.{Row, Arc, row_of, arc_of, arc_into_of, view}
use Rattle.paper_board.specs.Paper.Limits.{job_limit, Shape, Within}
use Rattle.paper_board.specs.BoardTests.Ranges.{after_fits, before_fits}
use Rattle.paper_rules.specs.Update.Updates.{store, link, isolate, invalidate}

-- the arrays have a place for every job
pub place : (b : Board) → Within b → (j : ℕ) → j < b.jobs → j < job_limit
place b within j job = omega (arith, within.limits.jobs)

-- ---- rows

module _ (b : Board) (shape : Shape b) (j : ℕ) (r : Row) (inside : j < job_limit) where
  same : {A : Type 0} (l : List A) (a d : A) → length l ≡ job_limit → get_or (set l j a) j d ≡ a
  same l a d e = get_or-set_same l j a d (omega arith)

  pub stored_same : row_of (store b j r) j ≡ r
  stored_same =
      λ i. record {
        mark = same b.marks r.mark 0 shape.marks i;
        length = same b.lengths r.length (pos 0) shape.lengths i;
        earliest = same b.earliest r.earliest (pos 0) shape.earliest i;
        latest = same b.latest r.latest (pos 0) shape.latest i;
      }

  stored_other : (k : ℕ) → k ≢ j → row_of (store b j r) k ≡ row_of b k
  stored_other k ne =
      λ i. record {
        mark = get_or-set_other b.marks j k r.mark 0 ne i;
        length = get_or-set_other b.lengths j k r.length (pos 0) ne i;
        earliest = get_or-set_other b.earliest j k r.earliest (pos 0) ne i;
        latest = get_or-set_other b.latest j k r.latest (pos 0) ne i;
      }

  -- what holds of the stored row and of every other row holds of all rows
  pub stored : (P : ℕ → Row → Type 0) → P j r → ((k : ℕ) → k ≢ j → P k (row_of b k)) → (k : ℕ) → P k (row_of (store b j r) k)
  stored P at_j others k = go (ℕ_discrete k j)
    where
      go : Dec (k ≡ j) → P k (row_of (store b j r) k)
      go (yes e) = subst (λ x. P x (row_of (store b j r) x)) (sym e) (subst (P j) (sym stored_same) at_j)
      go (no ne) = subst (P k) (sym (stored_other k ne)) (others k ne)

-- ---- words

-- member k put into word i
inserted : (words : List ℕ) (i k : ℕ) → i < length words → (x y : ℕ)
    → bit (get_or (set words i (with (get_or words i 0) k)) x 0) y ≡ (bit (get_or words x 0) y || (eqb i x && eqb k y))
inserted words i k inside x y = go (ℕ_discrete x i)
  where
    go : Dec (x ≡ i) → bit (get_or (set words i (with (get_or words i 0) k)) x 0) y ≡ (bit (get_or words x 0) y || (eqb i x && eqb k y))
    go (yes e) = rw (e, get_or-set_same, eq-eqb i i refl) (bit_with (get_or words i 0) k y)
    go (no ne) = rw (get_or-set_other, ne_eqb i x (λ e. ne (sym e))) (sym (or-false _))

-- member j taken out of every word
abbrev thinned : List ℕ → ℕ → List ℕ
thinned words j = map (λ w. without job_limit w j) words

module _ (words : List ℕ) (j : ℕ) (inside : j < job_limit) (size : length words ≡ job_limit)
    (narrow : (x : ℕ) → get_or words x 0 < 2 ^ job_limit) where
  without_zero : without job_limit 0 j ≡ 0
  without_zero = bit_ext (without job_limit 0 j) 0 λ k. bit_without job_limit 0 j k (omega arith) inside ∙ rw bit_zero

  -- past the end of the list both sides read 0
  thin : (x y : ℕ) → bit (get_or (thinned words j) x 0) y ≡ (bit (get_or words x 0) y && not (eqb j y))
  thin x y =
      ap (λ d. bit (get_or (thinned words j) x d) y) (sym without_zero)
      ∙ ap (λ w. bit w y) (get_or-map (λ w. without job_limit w j) words x 0)
      ∙ bit_without job_limit (get_or words x 0) j y (narrow x) inside

  isolated : (x y : ℕ) → bit (get_or (isolate words j) x 0) y ≡ (bit (get_or words x 0) y && (not (eqb j x) && not (eqb j y)))
  isolated x y = go (ℕ_discrete x j)
    where
      go : Dec (x ≡ j) → bit (get_or (isolate words j) x 0) y ≡ (bit (get_or words x 0) y && (not (eqb j x) && not (eqb j y)))
      go (yes e) =
          let listed : j < length (thinned words j) = omega (arith, length-map words (λ w. without job_limit w j)) in
          rw (e, get_or-set_same, eq-eqb j j refl) (bit_zero y ∙ sym (and-false (bit (get_or words j 0) y)))
      go (no ne) = rw (get_or-set_other, ne_eqb j x (λ e. ne (sym e))) (thin x y)

-- ---- arcs

module _ (b : Board) (within : Within b) where
  module _ (i k : ℕ) (job-i : i < b.jobs) (job-k : k < b.jobs) where
    linked : (x y : ℕ) → arc_of (link b i k) x y ≡ (arc_of b x y || (eqb i x && eqb k y))
    linked = inserted b.after i k (omega (arith, within.limits.jobs, within.shape.after))

    pub linked_twice : (x y : ℕ) → arc_into_of (link b i k) y x ≡ arc_of (link b i k) x y
    linked_twice x y =
        inserted b.before k i (omega (arith, within.limits.jobs, within.shape.before)) y x
        ∙ rw (within.twice x y, and_comm (eqb k y) (eqb i x)) (sym (linked x y))

    pub linked_new : Arc (view (link b i k)) i k
    linked_new = linked i k ∙ rw (eq-eqb i i refl, eq-eqb k k refl, or-true)

    pub linked_old : (x y : ℕ) → Arc (view b) x y → Arc (view (link b i k)) x y
    linked_old x y e = linked x y ∙ rw e

    -- what holds of the new arc and of every old one holds of all arcs
    pub linked_arcs : (P : ℕ → ℕ → Type 0) → P i k → ((x y : ℕ) → Arc (view b) x y → P x y)
        → (x y : ℕ) → Arc (view (link b i k)) x y → P x y
    linked_arcs P new old x y e = go (arc_of b x y) refl (sym (linked x y) ∙ e)
      where
        go : (t : Bool) → arc_of b x y ≡ t → (t || (eqb i x && eqb k y)) ≡ true → P x y
        go true a h = old x y a
        go false a h =
            let (p, q) = and_parts (eqb i x) (eqb k y) h in
            subst₂ P (eqb-true i x p) (eqb-true k y q) new

  module _ (j : ℕ) (job : j < b.jobs) where
    unlinked : (x y : ℕ) → arc_of (invalidate b j) x y ≡ (arc_of b x y && (not (eqb j x) && not (eqb j y)))
    unlinked = isolated b.after j (place b within j job) within.shape.after (after_fits b within)

    pub unlinked_twice : (x y : ℕ) → arc_into_of (invalidate b j) y x ≡ arc_of (invalidate b j) x y
    unlinked_twice x y =
        isolated b.before j (place b within j job) within.shape.before (before_fits b within) y x
        ∙ rw (within.twice x y, and_comm (not (eqb j y)) (not (eqb j x))) (sym (unlinked x y))

    pub unlinked_old : (x y : ℕ) → Arc (view (invalidate b j)) x y → Arc (view b) x y × (x ≢ j) × (y ≢ j)
    unlinked_old x y e =
        let (a, h) = and_parts (arc_of b x y) (not (eqb j x) && not (eqb j y)) (sym (unlinked x y) ∙ e) in
        let (p, q) = and_parts (not (eqb j x)) (not (eqb j y)) h in
        (a, λ n. eqb-false j x (not-true _ p) (sym n), λ n. eqb-false j y (not-true _ q) (sym n))

    pub unlinked_kept : (x y : ℕ) → Arc (view b) x y → x ≢ j → y ≢ j → Arc (view (invalidate b j)) x y
    unlinked_kept x y e nx ny = unlinked x y ∙ rw (e, ne_eqb j x (λ n. nx (sym n)), ne_eqb j y (λ n. ny (sym n)))
