-- The set of one job: what it sums to, and that its end is one of the sums of R4 and R5.
use Rattle.std.specs.Prelude.{◌≡◌, refl, true, false, List, ℕ, ◌<◌, eqb, ℤ}
use Rattle.std.proofs.Common.{sym, subst, arith, eq-eqb, ne_eqb, eqb-true}
use Rattle.ground_sets.specs.Bit.{bit}
use Rattle.ground_arithmetic.specs.Linear.{whole, plus}
use Rattle.ground_arithmetic.specs.Sum.{sum, total, total_member, total_more}
use Rattle.paper_board.specs.Paper.View.{Side}
use Rattle.paper_board.specs.Paper.Limits.{job_limit}
use Rattle.engine_sums.specs.Sums.{length_at, end_at, Sum}

pub total_single : (n : ℕ) (f : ℕ → ℤ) (k : ℕ) → k < n → total n (eqb k) f ≡ f k
unfolding sum
total_single n f k place =
    let alone = total_member n (eqb k) (λ _. false) f k place (eq-eqb k k refl) refl λ j ne. sym (ne_eqb k j λ e. ne (sym e)) in
    let nothing = total_more 0 n (λ _. false) f (omega arith) λ _ _. refl in
    omega (whole, alone, nothing, plus (f k) (total n (λ _. false) f))

-- the set of k alone
pub single : (s : Side) (times lengths : List ℤ) (w k : ℕ) → k < job_limit → bit w k ≡ true → Sum s times lengths w (end_at s times lengths k)
single s times lengths w k place member =
    record {
      set = eqb k;
      inside = λ x e. subst (λ y. bit w y ≡ true) (eqb-true k x e) member;
      first = k;
      member = eq-eqb k k refl;
      least = λ x e. let same = eqb-true k x e in rw (← same) (omega whole);
      is = cc (total_single job_limit (length_at lengths) k place);
    }
