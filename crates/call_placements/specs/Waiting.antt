-- The valid jobs that are not placed, as the word that the code keeps: what placing a job and taking it back make of it, and that
-- its members in ascending number are the jobs that the tries go through.
use Rattle.std.specs.Prelude.{◌≡◌, refl, ◌≢◌, true, false, not, List, [], ◌∷◌, ℕ, zero, suc, ◌<◌, ◌^◌, eqb, length, get_or}
use Rattle.std.proofs.Common.{sym, ap, ◌∙◌, arith, eq-eqb, ne_eqb}
use Rattle.std.proofs.Math.Bool.{or-true, or-false}
use Rattle.std.proofs.Math.Decide.{ℕ_discrete}
use Rattle.ground_sets.specs.Bit.{bit, intersection, with, without, width}
use Rattle.ground_walks.specs.Takes.{Next, Takes}
use Rattle.ground_sets.specs.BitLaws.{bit_zero, bit_ext, bits_bound, bit_intersection, bit_with}
use Rattle.ground_walks.specs.Walk.{without_self, without_other}
use Rattle.ground_arithmetic.specs.Bools.{is_true, is_false, refuted, and_parts, and_both}
use Rattle.paper_board.specs.declared.Board.{Board}
use Rattle.paper_board.specs.Paper.View.{view, Arc}
use Rattle.paper_board.specs.Paper.Limits.{Within}
use Rattle.paper_board.specs.BoardTests.Decides.{Decides, holds, restated, retested, same_decision, negated, ◌and◌, eq}
use Rattle.paper_board.specs.Paper.Tests.{valid}
use Rattle.paper_board.specs.BoardTests.Live.{valid_yes}
use Rattle.paper_plans.specs.Paper.Lists.{range, among}
use Rattle.paper_plans.specs.Paper.Planner.{valid_jobs}
use Rattle.paper_plans.specs.Paper.Tries.{ready, unplaced}
use Rattle.paper_plans.specs.ListLaws.{among_first, among_rest, keep_same, keep_keep, none_kept, lowest_first}
use Rattle.paper_plans.proofs.PlanLaws.{valid_among, valid_distinct}
use Rattle.paper_plans.specs.Unplaced.{ready_is, one_placed, all_placed}
use Rattle.call_placements.specs.Stack.{members}

module _ (b : Board) where
  -- the jobs to be tried, in their order
  abbrev pub order : List ℕ
  order = valid_jobs (view b)

  order_is : (k : ℕ) → Decides (among order k) (valid (view b) k ≡ true)
  order_is k = retested (valid_among (view b) k) (holds (valid (view b) k))

  -- job k is valid and not among those placed
  abbrev pub Waiting : List ℕ → ℕ → Type 0
  Waiting ps k = (valid (view b) k ≡ true) × (among ps k ≡ false)

  -- the word w of those that wait
  abbrev pub WaitingWord : ℕ → List ℕ → Type 0
  WaitingWord w ps = (k : ℕ) → Decides (bit w k) (Waiting ps k)

  pub waiting_members : (w : ℕ) (ps : List ℕ) → WaitingWord w ps → members (view b) w ≡ unplaced (view b) order ps
  waiting_members w ps is =
      keep_same (bit w) _ (range 0 b.jobs) (λ k a.
      same_decision (is k) (holds (valid (view b) k) and restated (negated (holds (among ps k))) (is_false _) (λ e. refuted e)))
      ∙ sym (keep_keep (λ k. not (among ps k)) (valid (view b)) (range 0 b.jobs))

  pub no_members : members (view b) 0 ≡ []
  no_members = none_kept (bit 0) (range 0 b.jobs) bit_zero

  -- a job taken back
  pub waiting_back : (w j : ℕ) (ps : List ℕ) → WaitingWord w (j ∷ ps) → Waiting ps j → WaitingWord (with w j) ps
  waiting_back w j ps is waits k = go (ℕ_discrete j k)
    where
      go : Dec (j ≡ k) → Decides (bit (with w j) k) (Waiting ps k)
      go (yes e) =
          record {
            yes = λ m. rw (← e) waits;
            show = λ p. bit_with w j k ∙ rw (eq-eqb j k e) (or-true (bit w k));
          }
      go (no ne) =
          retested (bit_with w j k ∙ rw (ne_eqb j k ne) (or-false (bit w k)))
          (restated (is k) (λ p. (p.0, sym (among_rest j ps k ne) ∙ p.1)) (λ p. (p.0, among_rest j ps k ne ∙ p.1)))

  -- how many wait
  abbrev pub waiting_count : List ℕ → ℕ
  waiting_count ps = length (unplaced (view b) order ps)

  pub count_placed : (j : ℕ) (ps : List ℕ) → Waiting ps j → suc (waiting_count (j ∷ ps)) ≡ waiting_count ps
  count_placed j ps waits = one_placed (view b) order ps (valid_distinct (view b)) j ((order_is j).show waits.0) waits.1

  -- where none waits, all valid jobs are placed
  none_waits : (ps : List ℕ) → waiting_count ps ≡ 0 → (k : ℕ) → Waiting ps k → ⊥
  none_waits ps e k waits = refuted waits.1 (all_placed (view b) order ps e k ((order_is k).show waits.0))

  -- where the word is not empty, some job waits
  pub some_waits : (w : ℕ) (ps : List ℕ) → WaitingWord w ps → w ≢ 0 → (n : ℕ) × (waiting_count ps ≡ suc n)
  some_waits w ps is ne = go (waiting_count ps) refl
    where
      go : (n : ℕ) → waiting_count ps ≡ n → (n : ℕ) × (waiting_count ps ≡ suc n)
      go zero e = absurd (ne (bit_ext w 0 λ k. is_false (bit w k) (λ m. none_waits ps e k ((is k).yes m)) ∙ sym (bit_zero k)))
      go (suc n) e = (n, e)

  -- the members of a set are its least one, and those of the rest
  pub least_first : {w j rest : ℕ} (ps : List ℕ) → ((k : ℕ) → bit w k ≡ true → Waiting ps k) → Takes width false w j rest
      → members (view b) w ≡ j ∷ members (view b) rest
  unfolding Next
  least_first {w} {j} {rest} ps inside taken =
      lowest_first (bit w) b.jobs j
      (valid_yes (view b) j (inside j taken.member).0).0
      taken.member
      taken.next.least
      (bit rest)
      taken.out
      taken.others

  module _ (h : Within b) where
    -- a set of jobs that wait is a word of the code
    pub waiting_fits : (w : ℕ) (ps : List ℕ) → ((k : ℕ) → bit w k ≡ true → Waiting ps k) → w < 2 ^ width
    waiting_fits w ps inside = bits_bound width w λ k l. is_false (bit w k) λ e.
        omega (arith, (valid_yes (view b) k (inside k e).0).0, h.limits.jobs)

    -- a job placed
    pub waiting_placed : (w j : ℕ) (ps : List ℕ) → WaitingWord w ps → Waiting ps j → WaitingWord (without width w j) (j ∷ ps)
    waiting_placed w j ps is waits k = go (ℕ_discrete j k)
      where
        fits : w < 2 ^ width
        fits = waiting_fits w ps λ i. (is i).yes

        inside : j < width
        inside = omega (arith, (valid_yes (view b) j waits.0).0, h.limits.jobs)

        go : Dec (j ≡ k) → Decides (bit (without width w j) k) (Waiting (j ∷ ps) k)
        go (yes e) =
            record {
              yes = λ m. absurd (refuted (without_self width w j fits inside) (ap (bit (without width w j)) e ∙ m));
              show = λ p. absurd (refuted p.1 (rw (← e) (among_first j ps)));
            }
        go (no ne) =
            retested (without_other width w j fits inside k λ e. ne (sym e))
            (restated (is k) (λ p. (p.0, among_rest j ps k ne ∙ p.1)) (λ p. (p.0, sym (among_rest j ps k ne) ∙ p.1)))

    -- "every valid job with an arc to it is placed": none that waits has one
    pub ready_word : (w j : ℕ) (ps : List ℕ) → WaitingWord w ps
        → eqb (intersection (get_or b.before j 0) w) 0 ≡ ready (view b) order ps j
    ready_word w j ps is = same_decision empty (ready_is (view b) order ps j)
      where
        into : ℕ
        into = get_or b.before j 0

        empty : Decides (eqb (intersection into w) 0) ((i : ℕ) → among order i ≡ true → Arc (view b) i j → among ps i ≡ true)
        empty =
            restated (eq (intersection into w) 0)
            (λ e i a arc. is_true (among ps i) λ out.
            refuted (sym (bit_intersection into w i) ∙ ap (λ (x : ℕ). bit x i) e ∙ bit_zero i)
            (and_both _ _ (h.twice i j ∙ arc) ((is i).show ((order_is i).yes a, out))))
            (λ all. bit_ext (intersection into w) 0 λ i. is_false _ (λ e.
            let (arc, m) = and_parts _ _ (sym (bit_intersection into w i) ∙ e) in
            let (val, out) = (is i).yes m in
            refuted out (all i ((order_is i).show val) (sym (h.twice i j) ∙ arc)))
            ∙ sym (bit_zero i))
