-- A format is a text with a mark for each number: `#` for a number with its sign, `@` for a natural number. The forms of the text and
-- its answers are formats filled in.
use Prim.Native.Char.{code}
use Rattle.std.specs.Prelude.{ℕ, ◌+◌, eqb, ℤ, pos, get_or, drop, cond, Option, Some, None, List, [], ◌∷◌, ◌++◌}
use Rattle.text_decimals.specs.Decimal.{natural, decimal}
use Rattle.text_numerals.specs.Numerals.{number_at}

abbrev pub number_mark : ℕ
number_mark = code "#"

abbrev pub natural_mark : ℕ
natural_mark = code "@"

-- a format with its marks replaced in turn by the numbers given
unfoldable pub filled : List ℕ → List ℕ → List ℤ → List ℕ
filled [] ns zs = []
filled (c ∷ f) ns zs =
    let asNatural = natural (get_or ns 0 0) ++ filled f (drop 1 ns) zs in
    let as_number = decimal (get_or zs 0 (pos 0)) ++ filled f ns (drop 1 zs) in
    let asItself = filled f ns zs in
    cond (eqb c natural_mark) asNatural (cond (eqb c number_mark) as_number (c ∷ asItself))

abbrev pub with_first : ℤ → Option (List ℤ) → Option (List ℤ)
with_first z None = None
with_first z (Some zs) = Some (z ∷ zs)

-- the numbers in a text that is just the format with a number at each mark, if it is that
unfoldable pub scan : List ℕ → List ℕ → Option (List ℤ)
scan [] [] = Some []
scan [] (x ∷ t) = None
scan (c ∷ f) t =
    cond
    (eqb c number_mark)
    (elim (number_at t) [ None ↦ None | Some n ↦ with_first n.value (scan f (drop n.length t)) ])
    (elim t [ [] ↦ None | x ∷ rest ↦ cond (eqb x c) (scan f rest) None ])

-- how many marks of one kind a format has
abbrev pub marks : ℕ → List ℕ → ℕ
marks m [] = 0
marks m (c ∷ f) = cond (eqb c m) 1 0 + marks m f

-- the most bytes that a format takes when it is filled in with 64-bit naturals and 32-bit numbers
abbrev pub room : List ℕ → ℕ
room [] = 0
room (c ∷ f) = cond (eqb c natural_mark) 20 (cond (eqb c number_mark) 11 1) + room f
