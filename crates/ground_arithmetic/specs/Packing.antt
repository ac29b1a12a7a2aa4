-- Jobs that lie apart between two times fit there: the first time and their lengths together come to no more than the second.
use Rattle.std.specs.Prelude.{◌≡◌, refl, Bool, true, false, not, ◌&&◌, ◌≢◌, ℕ, zero, suc, ◌<◌, ℤ, pos, ◌+ℤ◌, ◌≤ℤ◌, ◌<ℤ◌}
use Rattle.std.proofs.Common.{sym, ap, ◌∙◌, arith}
use Rattle.std.proofs.Math.Bool.{not-not, and-eq-true_iff}
use Rattle.std.specs.Int.Signed.{le_z}
use Rattle.ground_arithmetic.specs.Linear.{whole, plus}
use Rattle.ground_arithmetic.specs.Sum.{sum, total, total_split}

-- of any two jobs of S below n, where one ends after the other starts, the other ends no later than the one starts
abbrev pub Apart : ℕ → (ℕ → Bool) → (ℕ → ℤ) → (ℕ → ℤ) → Type 0
Apart n S start length =
    (i j : ℕ) → i < n → j < n → S i ≡ true → S j ≡ true → i ≢ j → start j <ℤ (start i +ℤ length i) → (start j +ℤ length j) ≤ℤ start i

-- The last job n parts the others into those that end before it starts, packed before it, and the rest, packed after it.
pub packing : (n : ℕ) (S : ℕ → Bool) (start length : ℕ → ℤ) (m t : ℤ) → m ≤ℤ t
    → ((k : ℕ) → k < n → S k ≡ true → m ≤ℤ start k)
    → ((k : ℕ) → k < n → S k ≡ true → (start k +ℤ length k) ≤ℤ t)
    → Apart n S start length → (m +ℤ total n S length) ≤ℤ t
unfolding sum
packing zero S start length m t l after before apart = omega (whole, plus m (pos 0))
packing (suc n) S start length m t l after before apart =
    go
    (S n)
    refl
    (packing n S start length m t l (λ k b. after k (omega arith)) (λ k b. before k (omega arith)) (fewer S λ k s. s))
    (λ e.
    packing n early start length m (start n) (after n (omega arith) e)
    (λ k b s. after k (omega arith) (sooner k s).0)
    (λ k b s. omega (whole, (sooner k s).1))
    (fewer early λ k s. (sooner k s).0))
    (λ e.
    packing n late start length (start n +ℤ length n) t (before n (omega arith) e)
    (λ k b s. apart k n (omega arith) (omega arith) (later k s).0 e (λ q. omega arith) (omega (whole, (later k s).1)))
    (λ k b s. before k (omega arith) (later k s).0)
    (fewer late λ k s. (later k s).0))
  where
    first : ℕ → Bool
    first k = le_z (start k +ℤ length k) (start n)

    early : ℕ → Bool
    early k = S k && first k

    late : ℕ → Bool
    late k = S k && not (first k)

    sooner : (k : ℕ) → early k ≡ true → (S k ≡ true) × (first k ≡ true)
    sooner k = (and-eq-true_iff (S k) (first k)).0

    later : (k : ℕ) → late k ≡ true → (S k ≡ true) × (first k ≡ false)
    later k s = let b = (and-eq-true_iff (S k) (not (first k))).0 s in (b.0, sym (not-not (first k)) ∙ ap not b.1)

    fewer : (R : ℕ → Bool) → ((k : ℕ) → R k ≡ true → S k ≡ true) → Apart n R start length
    fewer R h i j a b s r = apart i j (omega arith) (omega arith) (h i s) (h j r)

    go : (s : Bool) → S n ≡ s → (m +ℤ total n S length) ≤ℤ t
        → (S n ≡ true → (m +ℤ total n early length) ≤ℤ start n)
        → (S n ≡ true → ((start n +ℤ length n) +ℤ total n late length) ≤ℤ t)
        → (m +ℤ total (suc n) S length) ≤ℤ t
    go true e all x y =
        rw e
        (omega (
          whole,
          x e,
          y e,
          total_split n S first length,
          plus (total n early length) (total n late length),
          plus (total n S length) (length n),
          plus m (total n S length +ℤ length n),
          plus (start n) (length n),
          plus m (total n early length),
          plus (start n +ℤ length n) (total n late length),
        ))
    go false e all x y = rw e (omega (whole, plus (total n S length) (pos 0), plus m (total n S length +ℤ pos 0), plus m (total n S length)))
