-- The rules as inferences: what R1 to R6 ask of a board, as facts. R4 and R5 are one rule with a side. The proofs use
-- these; that they say the same as the paper's words is proved.
use Rattle.std.specs.Prelude.{◌≡◌, ◌≢◌, Bool, true, ℕ, ℤ, ◌+ℤ◌, ◌≤ℤ◌, ◌<ℤ◌}
use Rattle.paper_board.specs.Paper.View.{View, Live, Valid, Arc, Side, bound, Beyond}
use Rattle.paper_rules.specs.Paper.Rules.{E, D, L, energy}
use Rattle.paper_board.specs.Paper.Facts.{Fact, is_arc, is_bound, is_invalid, Holds}

-- A non-empty set S of valid jobs beyond j on side s, none of which has a bound below m.
pub record Pushing (v : View) (s : Side) (j : ℕ) (S : ℕ → Bool) (m : ℤ) : Type 0 where
  pub member : ℕ
  pub inside : S member ≡ true
  pub valid : (k : ℕ) → S k ≡ true → Valid v k
  pub beyond : (k : ℕ) → S k ≡ true → Beyond v s k j
  pub low : (k : ℕ) → S k ≡ true → m ≤ℤ bound s (v.row k)

pub data Infers (v : View) : Fact → Type 0 where
  r1 : (a b c : ℕ) → Live v a → Valid v b → Live v c → a ≢ c → Arc v a b → Arc v b c → Infers v (is_arc a c)
  r2 : (a b : ℕ) → Valid v a → Live v b → Arc v a b → Arc v b a → Infers v (is_invalid b)
  r3 : (a b : ℕ) → Live v a → Live v b → a ≢ b
      → D v b <ℤ (E v a +ℤ L v a +ℤ L v b) → Infers v (is_arc b a)
  r45 : (s : Side) (j : ℕ) (S : ℕ → Bool) (m : ℤ) → Live v j → Pushing v s j S m → Infers v (is_bound s j (m +ℤ energy v S))
  r6 : (j : ℕ) → Live v j → D v j <ℤ (E v j +ℤ L v j) → Infers v (is_invalid j)

-- A view obeys the rules when it shows all that they infer from it.
abbrev pub Obeys : View → Type 0
Obeys v = (f : Fact) → Infers v f → Holds v f
