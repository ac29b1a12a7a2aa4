-- Bytes of the text: a quoted text as its bytes, and the bytes that have a name.
use Rattle.std.specs.Prelude.{ℕ, Bool, ◌&&◌, List, [] as none, ◌∷◌ as ◌then◌, leb}
use Prim.Native.Char.{code}
use Prim.Native.String.{String, [], ◌∷◌}

-- one byte for each character, as in ASCII
abbrev pub bytes : String → List ℕ
bytes [] = none
bytes (c ∷ s) = code c then bytes s

abbrev pub minus : ℕ
minus = code "-"

abbrev pub is_digit : ℕ → Bool
is_digit c = leb (code "0") c && leb c (code "9")
