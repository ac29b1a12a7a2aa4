-- "A number is an optional minus and 1 to 7 decimal digits, no leading zero, no -0."
use Prim.Native.Char.{code}
use Rattle.std.specs.Prelude.{ℕ, suc, ◌+◌, ◌-◌, ◌*◌, ◌<◌, eqb, leb, ℤ, pos, neg_ℤ, nat_abs, length, get_or, Bool, Option, Some, None, cond, ◌&&◌, ◌||◌, not, List, [], ◌∷◌}
use Rattle.text_decimals.specs.Bytes.{minus, is_digit}
use Rattle.text_numerals.specs.Prefix.{prefix}
use Rattle.text_numerals.specs.declared.Numeral.{Numeral}

-- the digits at the start of a text
abbrev pub digits : List ℕ → List ℕ
digits = prefix is_digit

-- what the digits come to after those that came to n
abbrev pub value_after : ℕ → List ℕ → ℕ
value_after n [] = n
value_after n (d ∷ ds) = value_after (10 * n + (d - code "0")) ds

abbrev pub value : List ℕ → ℕ
value ds = value_after 0 ds

-- "1 to 7 decimal digits, no leading zero"
abbrev pub is_natural : List ℕ → Bool
is_natural ds = (leb 1 (length ds) && leb (length ds) 7) && (eqb (length ds) 1 || not (eqb (get_or ds 0 0) (code "0")))

abbrev pub found : ℕ → ℤ → Option Numeral
found k z = Some (record { length = k; value = z })

-- what stands at the start of a text: a number, with how many bytes it takes, or none
unfoldable pub natural_at : List ℕ → Option Numeral
natural_at t = cond (is_natural (digits t)) (found (length (digits t)) (pos (value (digits t)))) None

-- "an optional minus", "no -0"
abbrev pub negative : Option Numeral → Option Numeral
negative None = None
negative (Some n) = cond (eqb (nat_abs n.value) 0) None (found (suc n.length) (neg_ℤ n.value))

unfoldable pub number_at : List ℕ → Option Numeral
number_at [] = None
number_at (c ∷ t) = cond (eqb c minus) (negative (natural_at t)) (natural_at (c ∷ t))

-- the numbers of at most 7 digits
abbrev pub Short : ℤ → Type 0
Short z = nat_abs z < 10000000
