-- Numbers as they are written: decimal digits without a leading zero, and a minus before those of a negative number.
use Prim.Native.Char.{code}
use Rattle.std.specs.Prelude.{ℕ, zero, suc, ◌+◌, ◌/◌, ◌%◌, ltb, ℤ, pos, negsuc, cond, List, [], ◌∷◌, ◌++◌}
use Rattle.text_decimals.specs.Bytes.{minus}

-- the digits of n, the most significant first, where there are at most as many as said
abbrev pub digits_within : ℕ → ℕ → List ℕ
digits_within zero n = []
digits_within (suc k) n =
    let before = digits_within k (n / 10) in
    cond (ltb n 10) [] before ++ (code "0" + n % 10) ∷ []

unfoldable pub natural : ℕ → List ℕ
natural n = digits_within (suc n) n

abbrev pub decimal : ℤ → List ℕ
decimal (pos n) = natural n
decimal (negsuc n) = minus ∷ natural (suc n)
