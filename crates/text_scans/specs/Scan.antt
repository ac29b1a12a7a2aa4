-- What the code answers of a scan: the numbers in so many places, where the text is the format filled in.
use Rattle.std.specs.Prelude.{ℕ, zero, suc, ◌<◌, eqb, ℤ, pos, length, get_or, Bool, true, false, Option, Some, None, List, [], ◌∷◌, ◌≡◌, refl}
use Rattle.std.proofs.lemmas.Bool.{false≢true}
use Rattle.std.proofs.Common.{arith}

-- numbers in n places, 0 in those beyond them
abbrev pub placed : ℕ → List ℤ → List ℤ
placed zero zs = []
placed (suc n) [] = pos 0 ∷ placed n []
placed (suc n) (z ∷ zs) = z ∷ placed n zs

abbrev pub scanned : ℕ → Option (List ℤ) → Option (List ℤ)
scanned n None = None
scanned n (Some zs) = Some (placed n zs)

abbrev pub starts_with : ℕ → List ℕ → Bool
starts_with c [] = false
starts_with c (x ∷ t) = eqb x c

-- a text with its first byte apart
pub starts_none : (c : ℕ) (t : List ℕ) → length t ≡ 0 → starts_with c t ≡ false
starts_none c [] h = refl
starts_none c (x ∷ t) h = absurd (omega arith)

pub starts_first : (c : ℕ) (t : List ℕ) → 0 < length t → starts_with c t ≡ eqb (get_or t 0 0) c
starts_first c [] h = absurd (omega arith)
starts_first c (x ∷ t) h = refl

pub starts_some : (c : ℕ) (t : List ℕ) → starts_with c t ≡ true → 0 < length t
starts_some c [] e = absurd (false≢true e)
starts_some c (x ∷ t) e = omega arith
