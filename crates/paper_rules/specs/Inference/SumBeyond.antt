-- R4's sums and R5's differences as one, with a side: what the valid jobs beyond a job come to, and that these are what the
-- inference of R4 and R5 pushes its bound to.
use Rattle.std.specs.Prelude.{◌≡◌, refl, Bool, true, ℕ, ℤ, ◌+ℤ◌, ◌≤ℤ◌}
use Rattle.ground_arithmetic.specs.Linear.{whole, plus}
use Rattle.ground_arithmetic.specs.Sum.{least_member}
use Rattle.paper_board.specs.Paper.View.{View, Valid, Side, bound, Beyond}
use Rattle.paper_rules.specs.Paper.Rules.{energy}
use Rattle.paper_rules.specs.Inference.Infers.{Pushing}

-- the least bound and all the lengths of a non-empty set of valid jobs beyond j
pub record SumBeyond (v : View) (s : Side) (j : ℕ) (z : ℤ) : Type 0 where
  pub set : ℕ → Bool
  pub beyond : (k : ℕ) → set k ≡ true → Valid v k × Beyond v s k j
  pub first : ℕ
  pub member : set first ≡ true
  pub least : (k : ℕ) → set k ≡ true → bound s (v.row first) ≤ℤ bound s (v.row k)
  pub is : z ≡ bound s (v.row first) +ℤ energy v set

module _ (v : View) (s : Side) (j : ℕ) where
  -- such a set pushes j
  pub sum_pushes : (z : ℤ) (p : SumBeyond v s j z) → Pushing v s j p.set (bound s (v.row p.first))
  sum_pushes z p =
      record {
        member = p.first;
        inside = p.member;
        valid = λ k e. (p.beyond k e).0;
        beyond = λ k e. (p.beyond k e).1;
        low = p.least;
      }

  -- and a set that pushes j comes to no less than it pushes j to
  pub pushing_sum : (S : ℕ → Bool) (m : ℤ) → Pushing v s j S m
      → (z : ℤ) × (sum : SumBeyond v s j z) × ((m +ℤ energy v S) ≤ℤ z) × ((k : ℕ) → sum.set k ≡ true → S k ≡ true)
  pushing_sum S m p =
      let (x, l, sx, least) = least_member v.jobs S (λ k. bound s (v.row k)) p.member (p.valid p.member p.inside).0 p.inside in
      let sum : SumBeyond v s j (bound s (v.row x) +ℤ energy v S) =
      record {
        set = S;
        beyond = λ k e. (p.valid k e, p.beyond k e);
        first = x;
        member = sx;
        least = λ k e. least k (p.valid k e).0 e;
        is = refl;
      }
      in
      (bound s (v.row x) +ℤ energy v S, sum, omega (whole, p.low x sx, plus m (energy v S), plus (bound s (v.row x)) (energy v S)), λ k e. e)
