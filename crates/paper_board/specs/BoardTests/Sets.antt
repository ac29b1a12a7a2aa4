-- Sets of jobs as words: one in another.
use Rattle.std.specs.Prelude.{◌≡◌, refl, Bool, true, false, ℕ, ◌-◌, ◌^◌}
use Rattle.std.proofs.Common.{sym, ◌∙◌, subst, eqb-true}
use Rattle.ground_sets.specs.Bit.{bit, with, intersection, difference}
use Rattle.ground_sets.specs.BitLaws.{bit_zero, bit_with, bit_intersection}
use Rattle.ground_arithmetic.specs.Bools.{and_parts, refuted}
use Rattle.paper_board.specs.Paper.Limits.{job_limit}

-- every job of a is one of b
abbrev pub Subset : ℕ → ℕ → Type 0
Subset a b = (x : ℕ) → bit a x ≡ true → bit b x ≡ true

pub subset_none : (b : ℕ) → Subset 0 b
subset_none b x e = absurd (refuted (bit_zero x) e)

-- one job more
pub subset_with : (a b k : ℕ) → Subset a b → bit b k ≡ true → Subset (with a k) b
subset_with a b k h member x e = go (bit a x) refl
  where
    go : (t : Bool) → bit a x ≡ t → bit b x ≡ true
    go true m = h x m
    go false m = subst (λ y. bit b y ≡ true) (eqb-true k x (sym (bit_with a k x ∙ rw m) ∙ e)) member

-- what two sets share is in either
pub subset_intersection : (a b : ℕ) → Subset (intersection a b) a × Subset (intersection a b) b
subset_intersection a b = (λ x e. (both x e).0, λ x e. (both x e).1)
  where
    both : (x : ℕ) → bit (intersection a b) x ≡ true → (bit a x ≡ true) × (bit b x ≡ true)
    both x e = and_parts (bit a x) (bit b x) (sym (bit_intersection a b x) ∙ e)

pub subset_difference : (a b : ℕ) → Subset (difference job_limit a b) a
unfolding difference intersection
subset_difference a b = (subset_intersection a (2 ^ job_limit - 1 - b)).0
