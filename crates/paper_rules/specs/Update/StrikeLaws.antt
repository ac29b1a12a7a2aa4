-- To strike out a set is to invalidate its jobs one by one: `strike_one`, and `strike_induction` for any set.
use Rattle.std.specs.Prelude.{◌≡◌, ◌≢◌, Bool, true, false, cond, not, ◌&&◌, ◌||◌, ℕ, zero, suc, ◌<◌, ◌≤◌, ◌^◌, eqb, ltb, pos}
use Rattle.std.proofs.Math.Path.{refl}
use Rattle.std.proofs.Common.{sym, ap, ◌∙◌, subst, add-one, arith, lt-ltb, le-ltb, eq-eqb, ne_eqb}
use Rattle.std.proofs.Math.Bool.{or-true, or-false, and-true, and-false}
use mathlib.Core.List.{List, map}
use Rattle.std.proofs.Math.ListN as lists
use Rattle.std.proofs.Math.ListN.{length, get_or, get_or-map}
use Rattle.std.proofs.lemmas.List.{length-map}
use Rattle.ground_arithmetic.specs.Bools.{is_false, and_parts}
use Rattle.ground_sets.specs.Bit.{bit, with, without, difference, set_of}
use Rattle.ground_sets.specs.BitLaws.{bit_high, bit_zero, bit_with, bit_without, bit_difference, bit_ext, bit_set_of}
use Rattle.ground_sets.specs.BitLaws.{set_of_with, set_of_same, bits_bound, difference_lt}
use Rattle.paper_board.specs.declared.Board.{Board}
use Rattle.paper_board.specs.Paper.View.{row_of}
use Rattle.paper_board.specs.Paper.Limits.{job_limit, Within}
use Rattle.paper_board.specs.BoardTests.Ranges.{after_fits, before_fits}
use Rattle.paper_rules.specs.Update.Updates.{isolate, invalidate}
use Rattle.paper_rules.specs.Update.Stores.{place}
use Rattle.paper_rules.specs.Update.StoreWithin.{invalidate_within}
use Rattle.paper_board.specs.Paper.Parts.{filled}
use Rattle.paper_rules.specs.Update.PartlyChanged.{partly, length_partly, get_d_changed, get_d_kept, partly_keeps, partly_is, partly_put}
use Rattle.paper_rules.specs.Update.Strike.{cleared, thinned, strike_below, strike}

-- ---- one array where no job is struck out, and where one more is

none_cleared : {A : Type 0} (blank d : A) (n : ℕ) (l : List A) → partly (cleared blank 0) n l ≡ l
none_cleared blank d n l = partly_is (cleared blank 0) n l l d refl (λ k _ _. rw bit_zero) (λ k _ _. refl)

module _ (set j : ℕ) where
  joins : bit (with set j) j ≡ true
  joins = bit_with set j j ∙ rw (eq-eqb j j refl, or-true)

  others : (k : ℕ) → k ≢ j → bit (with set j) k ≡ bit set k
  others k ne = bit_with set j k ∙ rw (ne_eqb j k (λ e. ne (sym e)), or-false)

  one_more_cleared : {A : Type 0} (blank d : A) (n : ℕ) (l : List A) → j < n → n ≤ length l
      → partly (cleared blank (with set j)) n l ≡ lists.set (partly (cleared blank set) n l) j blank
  one_more_cleared blank d n l job size =
      partly_put (cleared blank (with set j)) n j l (partly (cleared blank set) n l) blank d
      (sym (length_partly (cleared blank set) n l)) job (omega arith)
      (λ x. rw joins)
      (λ k ne inside below. rw (others k ne) (sym (get_d_changed (cleared blank set) n l k d below inside)))
      (λ k inside above. sym (get_d_kept (cleared blank set) n l k d above))

-- words of members below 64
module _ (set j : ℕ) (inside : set < 2 ^ job_limit) (place : j < job_limit) where
  with_inside : with set j < 2 ^ job_limit
  with_inside = bits_bound job_limit (with set j) λ k l.
      bit_with set j k ∙ rw (bit_high job_limit set k inside l, ne_eqb j k (λ e. omega arith))

  none_without : without job_limit 0 j ≡ 0
  none_without = bit_ext (without job_limit 0 j) 0 λ k. bit_without job_limit 0 j k (omega arith) place ∙ rw bit_zero

  difference_with : (w : ℕ) → w < 2 ^ job_limit → difference job_limit w (with set j) ≡ without job_limit (difference job_limit w set) j
  difference_with w h = bit_ext _ _ λ k.
      let out = bit_without job_limit (difference job_limit w set) j k (difference_lt job_limit w set h) place in
      rw (bit_difference job_limit w (with set j) k h with_inside, bit_with set j k, out, bit_difference job_limit w set k h inside)
      (apart (bit w k) (bit set k) (eqb j k))
    where
      apart : (r s t : Bool) → (r && not (s || t)) ≡ ((r && not s) && not t)
      apart false s t = refl
      apart true false t = refl
      apart true true t = refl

  one_more_thinned : (n : ℕ) (l : List ℕ) → j < n → n ≤ length l → ((k : ℕ) → get_or l k 0 < 2 ^ job_limit) → ((k : ℕ) → n ≤ k → get_or l k 0 ≡ 0)
      → partly (thinned (with set j)) n l ≡ isolate (partly (thinned set) n l) j
  one_more_thinned n l job size narrow blank =
      partly_put (thinned (with set j)) n j l m 0 0 (sym (rw (length-map, length_partly))) job (omega arith)
      (λ x. rw (joins set j))
      (λ k ne inside below. rw (others set j k ne) (word (bit set k) (get_or l k 0) (narrow k))
      ∙ sym (at k ∙ ap away (get_d_changed (thinned set) n l k 0 below inside)))
      (λ k inside above. rw (blank k above) (sym (at k ∙ ap away (get_d_kept (thinned set) n l k 0 above ∙ blank k above) ∙ none_without)))
    where
      away : ℕ → ℕ
      away w = without job_limit w j

      m : List ℕ
      m = map (λ w. without job_limit w j) (partly (thinned set) n l)

      -- past the end of the list both sides read 0
      at : (k : ℕ) → get_or m k 0 ≡ away (get_or (partly (thinned set) n l) k 0)
      at k = ap (get_or m k) (sym none_without) ∙ get_or-map (λ w. without job_limit w j) (partly (thinned set) n l) k 0

      word : (t : Bool) (w : ℕ) → w < 2 ^ job_limit → cond t 0 (difference job_limit w (with set j)) ≡ away (cond t 0 (difference job_limit w set))
      word true w h = sym none_without
      word false w h = difference_with w h

-- ---- boards

strike_jobs : (b : Board) (set : ℕ) → (strike b set).jobs ≡ b.jobs
unfolding strike_below
strike_jobs b set = refl

module _ (b : Board) (within : Within b) where
  -- a place without a job has no arcs
  blank_after : (k : ℕ) → b.jobs ≤ k → get_or b.after k 0 ≡ 0
  blank_after k l = bit_ext (get_or b.after k 0) 0 λ x. is_false _ (λ e. omega (arith, (within.limits.arcs k x e).0.0)) ∙ sym (bit_zero x)

  blank_before : (k : ℕ) → b.jobs ≤ k → get_or b.before k 0 ≡ 0
  blank_before k l = bit_ext (get_or b.before k 0) 0 λ x.
      is_false _ (λ e. omega (arith, (within.limits.arcs x k (sym (within.twice x k) ∙ e)).1.0)) ∙ sym (bit_zero x)

  none_thinned : (n : ℕ) (l : List ℕ) → ((k : ℕ) → get_or l k 0 < 2 ^ job_limit) → partly (thinned 0) n l ≡ l
  none_thinned n l narrow =
      partly_is (thinned 0) n l l 0 refl (λ k _ _. rw bit_zero (whole (get_or l k 0) (narrow k))) (λ k _ _. refl)
    where
      whole : (w : ℕ) → w < 2 ^ job_limit → difference job_limit w 0 ≡ w
      whole w h = bit_ext _ _ λ k. bit_difference job_limit w 0 k h (omega arith) ∙ rw (bit_zero k, and-true)

  strike_none : strike b 0 ≡ b
  unfolding strike_below
  strike_none = λ i. filled b
      (none_cleared (pos 0) (pos 0) b.jobs b.lengths i)
      (none_cleared (pos 0) (pos 0) b.jobs b.earliest i)
      (none_cleared (pos 0) (pos 0) b.jobs b.latest i)
      (none_cleared 2 0 b.jobs b.marks i)
      (none_thinned b.jobs b.after (after_fits b within) i)
      (none_thinned b.jobs b.before (before_fits b within) i)

  -- one job more
  strike_with : (set j : ℕ) → set < 2 ^ job_limit → j < b.jobs → strike b (with set j) ≡ invalidate (strike b set) j
  unfolding strike_below
  strike_with set j inside job = λ i. filled b
      (number (pos 0) (pos 0) b.lengths within.shape.lengths i)
      (number (pos 0) (pos 0) b.earliest within.shape.earliest i)
      (number (pos 0) (pos 0) b.latest within.shape.latest i)
      (number 2 0 b.marks within.shape.marks i)
      (word b.after within.shape.after (after_fits b within) blank_after i)
      (word b.before within.shape.before (before_fits b within) blank_before i)
    where
      number : {A : Type 0} (blank d : A) (l : List A) → length l ≡ job_limit
          → partly (cleared blank (with set j)) b.jobs l ≡ lists.set (partly (cleared blank set) b.jobs l) j blank
      number blank d l e = one_more_cleared set j blank d b.jobs l job (omega (arith, within.limits.jobs))

      word : (l : List ℕ) → length l ≡ job_limit → ((k : ℕ) → get_or l k 0 < 2 ^ job_limit) → ((k : ℕ) → b.jobs ≤ k → get_or l k 0 ≡ 0)
          → partly (thinned (with set j)) b.jobs l ≡ isolate (partly (thinned set) b.jobs l) j
      word l e = one_more_thinned set j inside (place b within j job) b.jobs l job (omega (arith, within.limits.jobs))

  pub strike_one : (j : ℕ) → j < b.jobs → strike b (with 0 j) ≡ invalidate b j
  strike_one j job = strike_with 0 j (omega arith) job ∙ ap (λ c. invalidate c j) strike_none

  -- the jobs of the set are invalid
  pub strike_member : (set j : ℕ) → bit set j ≡ true → j < b.jobs → (row_of (strike b set) j).mark ≡ 2
  unfolding strike_below
  strike_member set j e job =
      let room : j < length b.marks = omega (arith, within.limits.jobs, within.shape.marks) in
      get_d_changed (cleared 2 set) b.jobs b.marks j 0 job room ∙ rw e

  -- the rows of the other jobs stay
  pub strike_other : (set j : ℕ) → bit set j ≡ false → row_of (strike b set) j ≡ row_of b j
  unfolding strike_below
  strike_other set j e = λ i. record {
    mark = kept 2 0 b.marks i;
    length = kept (pos 0) (pos 0) b.lengths i;
    earliest = kept (pos 0) (pos 0) b.earliest i;
    latest = kept (pos 0) (pos 0) b.latest i;
  }
    where
      kept : {A : Type 0} (blank d : A) (l : List A) → get_or (partly (cleared blank set) b.jobs l) j d ≡ get_or l j d
      kept blank d l = partly_keeps (cleared blank set) b.jobs l j d λ x. rw e

-- ---- one job after the other

module _ (c : Board) (within : Within c) (set : ℕ) (jobs : (j : ℕ) → bit set j ≡ true → j < c.jobs) where
  -- the members below n
  abbrev first : ℕ → ℕ
  first n = set_of n (bit set)

  none_first : first 0 ≡ 0
  unfolding set_of
  none_first = refl

  first_inside : (n : ℕ) → first n < 2 ^ job_limit
  first_inside n = bits_bound job_limit (first n) λ k l.
      is_false _ λ e. omega (arith, within.limits.jobs, jobs k (and_parts (ltb k n) (bit set k) (sym (bit_set_of n (bit set) k) ∙ e)).1)

  all_first : first job_limit ≡ set
  all_first = bit_ext (first job_limit) set λ k. bit_set_of job_limit (bit set) k ∙ go k (bit set k) refl
    where
      go : (k : ℕ) (t : Bool) → bit set k ≡ t → (ltb k job_limit && t) ≡ t
      go k true e = rw (lt-ltb k job_limit (omega (arith, within.limits.jobs, jobs k e)))
      go k false e = and-false (ltb k job_limit)

  -- what holds of the board, and stays where a job of the set becomes invalid, holds once all of them are
  pub strike_induction : (P : Board → Type 0) → P c
      → ((d : Board) (j : ℕ) → Within d → bit set j ≡ true → row_of d j ≡ row_of c j → P d → P (invalidate d j))
      → P (strike c set)
  strike_induction P start step = subst (λ s. P (strike c s)) all_first (upto job_limit).1
    where
      Both : Board → Type 0
      Both d = Within d × P d

      one : (n : ℕ) → bit set n ≡ true → Both (strike c (first n)) → Both (invalidate (strike c (first n)) n)
      one n e (h, p) = (
        invalidate_within (strike c (first n)) h n (omega (arith, jobs n e, strike_jobs c (first n))),
        step (strike c (first n)) n h e (strike_other c within (first n) n (bit_set_of n (bit set) n ∙ rw (le-ltb n n (omega arith)))) p,
      )

      next : (n : ℕ) (t : Bool) → bit set n ≡ t → Both (strike c (first n)) → Both (strike c (first (suc n)))
      next n true e h =
          rw (← add-one n, set_of_with n (bit set) e, strike_with c within (first n) n (first_inside n) (jobs n e)) (one n e h)
      next n false e h = rw (← add-one n, set_of_same n (bit set) e) h

      upto : (n : ℕ) → Both (strike c (first n))
      upto zero = rw (none_first, strike_none c within) (within, start)
      upto (suc n) = next n (bit set n) refl (upto n)
