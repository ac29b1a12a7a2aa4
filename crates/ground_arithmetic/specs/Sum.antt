-- Sums over the numbers below n: of times, of those in a set alone, and of naturals, for a measure that falls.
-- A set is its test, `S k ≡ true`. A set with a member has one at which f is least.
use Rattle.std.specs.Prelude.{◌≡◌, refl, ◌≢◌, Bool, true, false, cond, not, ◌&&◌, ℕ, zero, suc, ◌+◌, ◌*◌, ◌≤◌, ◌<◌, leb, ℤ, pos, ◌+ℤ◌, ◌≤ℤ◌}
use Rattle.std.proofs.Common.{sym, ◌∙◌, suc-mul, arith, below_more, leb-true, leb-false}
use Rattle.std.proofs.Math.Decide.{ℕ_discrete}
use Rattle.std.specs.Int.Signed.{lt_z}
use Rattle.ground_arithmetic.specs.Bools.{clash, by_test}
use Rattle.ground_arithmetic.specs.Linear.{whole, plus}

-- the sum of f k for each k below n
unfoldable pub sum : ℕ → (ℕ → ℤ) → ℤ
sum zero f = pos 0
sum (suc n) f = sum n f +ℤ f n

-- f at the members of S, and 0 elsewhere
abbrev chosen : (ℕ → Bool) → (ℕ → ℤ) → ℕ → ℤ
chosen S f k = cond (S k) (f k) (pos 0)

-- the sum of f k for each member k of S below n
abbrev pub total : ℕ → (ℕ → Bool) → (ℕ → ℤ) → ℤ
total n S f = sum n (chosen S f)

sum_mono : (n : ℕ) (f g : ℕ → ℤ) → ((k : ℕ) → k < n → f k ≤ℤ g k) → sum n f ≤ℤ sum n g
unfolding sum
sum_mono zero f g h = omega whole
sum_mono (suc n) f g h =
    omega (whole, plus (sum n f) (f n), plus (sum n g) (g n), sum_mono n f g (λ k l. h k (omega arith)), h n (omega arith))

sum_same : (n : ℕ) (f g : ℕ → ℤ) → ((k : ℕ) → k < n → f k ≡ g k) → sum n f ≡ sum n g
unfolding sum
sum_same zero f g h = refl
sum_same (suc n) f g h = cc (sum_same n f g (λ k l. h k (omega arith)), h n (omega arith))

sum_plus : (n : ℕ) (f g : ℕ → ℤ) → sum n (λ k. f k +ℤ g k) ≡ sum n f +ℤ sum n g
unfolding sum
sum_plus zero f g = refl
sum_plus (suc n) f g =
    let F = sum n f in
    let G = sum n g in
    omega (
      whole,
      sum_plus n f g,
      plus (sum n (λ k. f k +ℤ g k)) (f n +ℤ g n),
      plus (f n) (g n),
      plus F G,
      plus F (f n),
      plus G (g n),
      plus (F +ℤ f n) (G +ℤ g n),
    )

pub total_same : (n : ℕ) (S : ℕ → Bool) (f g : ℕ → ℤ) → ((k : ℕ) → k < n → S k ≡ true → f k ≡ g k) → total n S f ≡ total n S g
total_same n S f g h = sum_same n (chosen S f) (chosen S g) λ k l. at (S k) (f k) (g k) (h k l)
  where
    at : (t : Bool) (x y : ℤ) → (t ≡ true → x ≡ y) → cond t x (pos 0) ≡ cond t y (pos 0)
    at true x y e = e refl
    at false x y e = refl

-- past n there is nothing to add
pub total_more : (n m : ℕ) (S : ℕ → Bool) (f : ℕ → ℤ) → n ≤ m → ((k : ℕ) → n ≤ k → S k ≡ false) → total m S f ≡ total n S f
unfolding sum
total_more n zero S f l h = let d : n ≡ 0 = omega arith in rw d
total_more n (suc m) S f l h = go (leb n m) refl (λ b. total_more n m S f b h)
  where
    go : (t : Bool) → leb n m ≡ t → (n ≤ m → total m S f ≡ total n S f) → total (suc m) S f ≡ total n S f
    go true e ih =
        let b : n ≤ m = omega (arith, leb-true n m e) in
        rw (h m b) (omega (whole, plus (total m S f) (pos 0), ih b))
    go false e ih = let d : n ≡ suc m = omega (arith, leb-false n m e) in rw d

pub total_subset : (n : ℕ) (S R : ℕ → Bool) (f : ℕ → ℤ)
    → ((k : ℕ) → k < n → S k ≡ true → R k ≡ true)
    → ((k : ℕ) → k < n → R k ≡ true → pos 0 ≤ℤ f k) → total n S f ≤ℤ total n R f
total_subset n S R f h p = sum_mono n (chosen S f) (chosen R f) λ k l. at (S k) (R k) (f k) (h k l) (p k l)
  where
    at : (s r : Bool) (x : ℤ) → (s ≡ true → r ≡ true) → (r ≡ true → pos 0 ≤ℤ x) → cond s x (pos 0) ≤ℤ cond r x (pos 0)
    at true true x e q = omega whole
    at true false x e q = clash (cc (e refl))
    at false true x e q = q refl
    at false false x e q = omega whole

-- a set is its members in P and those not in P
pub total_split : (n : ℕ) (S P : ℕ → Bool) (f : ℕ → ℤ) → total n S f ≡ total n (λ k. S k && P k) f +ℤ total n (λ k. S k && not (P k)) f
total_split n S P f = sum_same n (chosen S f) _ (λ k l. at (S k) (P k) (f k)) ∙ sum_plus n _ _
  where
    at : (s p : Bool) (x : ℤ) → cond s x (pos 0) ≡ cond (s && p) x (pos 0) +ℤ cond (s && not p) x (pos 0)
    at true true x = omega (whole, plus x (pos 0))
    at true false x = omega (whole, plus (pos 0) x)
    at false p x = refl

-- a member more, a term more
pub total_member : (n : ℕ) (S R : ℕ → Bool) (f : ℕ → ℤ) (k : ℕ) → k < n → S k ≡ true → R k ≡ false
    → ((j : ℕ) → j ≢ k → R j ≡ S j) → total n S f ≡ f k +ℤ total n R f
unfolding sum
total_member zero S R f k l sk rk others = absurd (omega arith)
total_member (suc n) S R f k l sk rk others =
    go (ℕ_discrete k n) λ b. total_member n S R f k b sk rk others
  where
    go : Dec (k ≡ n) → (k < n → total n S f ≡ f k +ℤ total n R f) → total (suc n) S f ≡ f k +ℤ total (suc n) R f
    go (yes e) ih =
        let same : total n S f ≡ total n R f = sum_same n _ _ λ j b. rw (others j λ d. omega arith) in
        rw (← e, sk, rk) (omega (whole, rw (← e) at same, plus (total k S f) (f k), plus (total k R f) (pos 0), plus (f k) (total k R f +ℤ pos 0)))
    go (no ne) ih =
        let c : ℤ = cond (S n) (f n) (pos 0) in
        rw (others n λ d. ne (sym d))
        (omega (whole, ih (omega (arith, ne)), plus (total n S f) c, plus (total n R f) c, plus (f k) (total n R f +ℤ c), plus (f k) (total n R f)))

-- n terms of at most c
pub total_range : (n c : ℕ) (S : ℕ → Bool) (f : ℕ → ℤ) → ((k : ℕ) → (pos 0 ≤ℤ f k) × (f k ≤ℤ pos c))
    → (pos 0 ≤ℤ total n S f) × (total n S f ≤ℤ pos (n * c))
unfolding sum
total_range zero c S f h = (omega whole, omega whole)
total_range (suc n) c S f h =
    let (low, high) = total_range n c S f h in
    let x : ℤ = cond (S n) (f n) (pos 0) in
    let at : (pos 0 ≤ℤ x) × (x ≤ℤ pos c) = by_test (λ y. (pos 0 ≤ℤ y) × (y ≤ℤ pos c)) (S n) (f n) (pos 0) (λ e. h n) (λ e. (omega whole, omega whole)) in
    (omega (whole, plus (total n S f) x), omega (whole, suc-mul n c, plus (total n S f) x))

-- a member of S below n at which f is least
pub least_member : (n : ℕ) (S : ℕ → Bool) (f : ℕ → ℤ) (x : ℕ) → x < n → S x ≡ true
    → (y : ℕ) × (y < n) × (S y ≡ true) × ((k : ℕ) → k < n → S k ≡ true → f y ≤ℤ f k)
least_member n S f x l s = upto n (omega arith)
  where
    Above : ℕ → ℕ → Type 0
    Above y k = S k ≡ true → f y ≤ℤ f k

    Least : ℕ → Type 0
    Least i = (y : ℕ) × (y < n) × (S y ≡ true) × ((k : ℕ) → k < i → Above y k)

    step : (i : ℕ) → i < n → (y : ℕ) → y < n → S y ≡ true → ((k : ℕ) → k < i → Above y k)
        → (p q : Bool) → S i ≡ p → lt_z (f i) (f y) ≡ q → Least (suc i)
    step i b y c t h true true d e = (i, b, d, λ k a. below_more (Above i) i (λ m r u. omega (whole, h m r u)) (λ u. omega whole) k (omega arith))
    step i b y c t h true false d e = (y, c, t, λ k a. below_more (Above y) i h (λ u. omega whole) k (omega arith))
    step i b y c t h false q d e = (y, c, t, λ k a. below_more (Above y) i h (λ u. clash (cc)) k (omega arith))

    upto : (i : ℕ) → i ≤ n → Least i
    upto zero b = (x, l, s, λ k c t. absurd (omega arith))
    upto (suc i) b =
        let (y, c, t, h) = upto i (omega arith) in
        step i b y c t h (S i) (lt_z (f i) (f y)) refl refl

-- the sum of f k for each k below n
unfoldable pub count : ℕ → (ℕ → ℕ) → ℕ
count zero f = 0
count (suc n) f = count n f + f n

pub count_mono : (n : ℕ) (f g : ℕ → ℕ) → ((k : ℕ) → k < n → f k ≤ g k) → count n f ≤ count n g
unfolding count
count_mono zero f g h = omega arith
count_mono (suc n) f g h = omega (arith, count_mono n f g (λ k l. h k (omega arith)), h n (omega arith))

-- where one term falls and none grows, the sum falls
pub count_falls : (n : ℕ) (f g : ℕ → ℕ) (j : ℕ) → j < n → f j < g j → ((k : ℕ) → k < n → f k ≤ g k) → count n f < count n g
unfolding count
count_falls zero f g j l d h = omega arith
count_falls (suc n) f g j l d h = go (leb n j) refl (λ b. count_falls n f g j b d λ k a. h k (omega arith))
  where
    go : (t : Bool) → leb n j ≡ t → (j < n → count n f < count n g) → count (suc n) f < count (suc n) g
    go true e ih =
        let same : j ≡ n = omega (arith, leb-true n j e) in
        omega (arith, rw same at d, count_mono n f g (λ k a. h k (omega arith)))
    go false e ih = omega (arith, ih (omega (arith, leb-false n j e)), h n (omega arith))

pub count_bound : (n c : ℕ) (f : ℕ → ℕ) → ((k : ℕ) → k < n → f k ≤ c) → count n f ≤ n * c
unfolding count
count_bound zero c f h = omega arith
count_bound (suc n) c f h = omega (arith, suc-mul n c, count_bound n c f (λ k l. h k (omega arith)), h n (omega arith))
