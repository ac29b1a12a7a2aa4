-- "one bracket form a line, each ended by a line feed, each read from where the last one ended"
use Prim.Native.Char.{code}
use Rattle.std.specs.Prelude.{ℕ, eqb, cond, List, [], ◌∷◌}

abbrev pub line_feed : ℕ
line_feed = code "\n"

-- a line without its line feed, and whether it had one
pub data Line : Type 0 where
  ended unended : List ℕ → Line

-- the lines of a text to which a byte that is no line feed is put in front
abbrev pub with_byte : ℕ → List Line → List Line
with_byte c [] = unended (c ∷ []) ∷ []
with_byte c (ended l ∷ ls) = ended (c ∷ l) ∷ ls
with_byte c (unended l ∷ ls) = unended (c ∷ l) ∷ ls

unfoldable pub lines_of : List ℕ → List Line
lines_of [] = []
lines_of (c ∷ t) = let rest = lines_of t in cond (eqb c line_feed) (ended [] ∷ rest) (with_byte c rest)
