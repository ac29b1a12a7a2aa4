-- The first byte of a text decides whether a minus or the digits of a number are read there.
use Rattle.std.specs.Prelude.{ℕ, ◌<◌, eqb, length, get_or, take, drop, ◌+◌, Bool, true, false, cond, ◌&&◌, None, List, [], ◌∷◌, ◌≡◌, refl}
use Rattle.std.proofs.Common.{arith}
use Rattle.std.proofs.lemmas.Bool.{false≢true}
use Rattle.std.specs.Cmp.Lexicographic.{pointwise}
use Rattle.text_decimals.specs.Bytes.{minus}
use Rattle.text_numerals.specs.Numerals.{natural_at, negative, number_at}

pub number_none : (t : List ℕ) → length t ≡ 0 → number_at t ≡ None
unfolding number_at
number_none [] h = refl
number_none (c ∷ t) h = absurd (omega arith)

pub number_first : (t : List ℕ) → 0 < length t → number_at t ≡ cond (eqb (get_or t 0 0) minus) (negative (natural_at (drop 1 t))) (natural_at t)
unfolding number_at
number_first [] h = absurd (omega arith)
number_first (c ∷ t) h = refl

pub minus_first : (t rest : List ℕ) → (pointwise eqb (take 1 t) (minus ∷ []) ≡ true) × (rest ≡ drop 1 t) × (length rest + 1 ≡ length t)
    → negative (natural_at rest) ≡ number_at t
unfolding number_at
minus_first [] rest h = absurd (false≢true h.0)
minus_first (c ∷ t) rest h = go (eqb c minus) refl h.0
  where
    go : (b : Bool) → eqb c minus ≡ b → (b && true) ≡ true → negative (natural_at rest) ≡ cond (eqb c minus) (negative (natural_at t)) (natural_at (c ∷ t))
    go true e s = rw (e, h.1)
    go false e s = cc

pub other_first : (t : List ℕ) → pointwise eqb (take 1 t) (minus ∷ []) ≡ false → natural_at t ≡ number_at t
unfolding number_at natural_at
other_first [] h = refl
other_first (c ∷ t) h = go (eqb c minus) refl h
  where
    go : (b : Bool) → eqb c minus ≡ b → (b && true) ≡ false → natural_at (c ∷ t) ≡ cond (eqb c minus) (negative (natural_at t)) (natural_at (c ∷ t))
    go true e h = cc
    go false e h = rw e
