-- R1 to R6 in the paper's words.
use Rattle.std.specs.Prelude.{◌≡◌, ◌≢◌, Bool, true, ℕ, ℤ, ◌+ℤ◌, ◌-ℤ◌, ◌≤ℤ◌, ◌<ℤ◌}
use Rattle.ground_arithmetic.specs.Sum.{total}
use Rattle.paper_board.specs.Paper.View.{View, Live, Valid, Invalid, Arc}

-- the sum of lengths in the set S
abbrev pub energy : View → (ℕ → Bool) → ℤ
energy v S = total v.jobs S (λ k. (v.row k).length)

module _ (v : View) where
  -- E, D and the length of a job
  abbrev pub E : ℕ → ℤ
  E j = (v.row j).earliest

  abbrev pub D : ℕ → ℤ
  D j = (v.row j).latest

  abbrev pub L : ℕ → ℤ
  L j = (v.row j).length

  -- "arcs A to B and B to C, B valid, A and C live and different, give A to C"
  abbrev pub R1 : Type 0
  R1 = (a b c : ℕ) → Arc v a b → Arc v b c → Valid v b → Live v a → Live v c → a ≢ c → Arc v a c

  -- "arcs both ways between two live jobs: they exclude each other. If one is valid the other is invalid; two valid ones are
  -- a contradiction; two undecided ones stay."
  abbrev pub R2 : Type 0
  R2 = (a b : ℕ) → Live v a → Live v b → Arc v a b → Arc v b a → Valid v a → Invalid v b

  -- "for every ordered pair of two live jobs, if E of A + length of A + length of B > D of B, there is an arc B to A"
  abbrev pub R3 : Type 0
  R3 = (a b : ℕ) → Live v a → Live v b → a ≢ b → D b <ℤ (E a +ℤ L a +ℤ L b) → Arc v b a

  -- "E of a live B is at least (least E in S) + (sum of lengths in S) for each non-empty set S of valid jobs with arcs to B";
  -- x is the member of S with the least E
  abbrev pub R4 : Type 0
  R4 = (b : ℕ) → Live v b → (S : ℕ → Bool) → ((k : ℕ) → S k ≡ true → Valid v k × Arc v k b)
      → (x : ℕ) → S x ≡ true → ((k : ℕ) → S k ≡ true → E x ≤ℤ E k) → (E x +ℤ energy v S) ≤ℤ E b

  -- "D of a live A is at most (greatest D in S) - (sum of lengths in S) for each non-empty set S of valid jobs that A has
  -- arcs to"; x is the member of S with the greatest D
  abbrev pub R5 : Type 0
  R5 = (a : ℕ) → Live v a → (S : ℕ → Bool) → ((k : ℕ) → S k ≡ true → Valid v k × Arc v a k)
      → (x : ℕ) → S x ≡ true → ((k : ℕ) → S k ≡ true → D k ≤ℤ D x) → D a ≤ℤ (D x -ℤ energy v S)

  -- "E + length > D makes an undecided job invalid and a valid one a contradiction"
  abbrev pub R6 : Type 0
  R6 = (j : ℕ) → Live v j → D j <ℤ (E j +ℤ L j) → Invalid v j

pub record Rules (v : View) : Type 0 where
  pub join : R1 v
  pub exclude : R2 v
  pub order : R3 v
  pub raise : R4 v
  pub lower : R5 v
  pub room : R6 v
