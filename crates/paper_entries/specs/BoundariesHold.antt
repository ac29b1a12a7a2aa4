-- The checks 1 to 7 of the table, each from both sides of its limit, and their order where an entry meets several: which
-- refusal `first_refusal` gives, as one table that is computed as a whole.
use Rattle.std.specs.Prelude.{◌≡◌, refl, Bool, true, false, ◌&&◌, List, [], ◌∷◌, ℕ, eqb, ℤ, pos, negsuc}
use Rattle.std.proofs.Math.Option.{Option, none, some}
use Rattle.ground_arithmetic.specs.Linear.{eq_z}
use Rattle.paper_board.specs.declared.Refusal.{Refusal}
use Rattle.paper_board.specs.Paper.Refusals.{number_of}
use Rattle.paper_board.specs.Paper.Tests.{between}
use Rattle.paper_entries.specs.Paper.Entry.{arc, mark, cut, Entry, addition, other}
use Rattle.paper_entries.specs.Paper.Checks.{checks, first_refusal}

is_number : Option Refusal → ℕ → Bool
is_number none n = false
is_number (some r) n = eqb (number_of r) n

is_none : Option Refusal → Bool
is_none none = true
is_none (some r) = false

-- on a board of n jobs the entry meets refusal r first, or none of them
refused : ℕ → ℕ → Entry → Bool
refused r n e = is_number (first_refusal (checks n e)) r

passed : ℕ → Entry → Bool
passed n e = is_none (first_refusal (checks n e))

every : List Bool → Bool
every [] = true
every (t ∷ ts) = t && every ts

-- additions to an empty board
long : ℤ → Entry
long l = addition l (pos 0) (pos 500000) (pos 1)

window : ℤ → ℤ → Entry
window e d = addition (pos 1) e d (pos 1)

begins : ℤ → Entry
begins m = addition (pos 1) (pos 0) (pos 1) m

additions : List Bool
additions =
    passed 63 (long (pos 1))
    ∷ refused 1 64 (long (pos 1))
    ∷ refused 4 0 (long (negsuc 0))
    ∷ refused 4 0 (long (pos 0))
    ∷ passed 0 (long (pos 1))
    ∷ passed 0 (long (pos 10000))
    ∷ refused 4 0 (long (pos 10001))
    ∷ refused 5 0 (window (negsuc 500000) (pos 0))
    ∷ passed 0 (window (negsuc 499999) (pos 500000))
    ∷ refused 5 0 (window (pos 0) (pos 500001))
    ∷ refused 5 0 (window (pos 500001) (pos 500000))
    ∷ refused 5 0 (window (negsuc 499999) (negsuc 500000))
    ∷ passed 0 (window (pos 5) (pos 5))
    ∷ refused 6 0 (window (pos 6) (pos 5))
    ∷ refused 7 0 (begins (negsuc 0))
    ∷ passed 0 (begins (pos 0))
    ∷ passed 0 (begins (pos 1))
    ∷ refused 7 0 (begins (pos 2))
    ∷ []

-- entries about the two jobs 0 and 1
others : List Bool
others =
    passed 2 (other (arc (pos 1) (pos 0)))
    ∷ refused 2 2 (other (arc (negsuc 0) (pos 1)))
    ∷ refused 2 2 (other (arc (pos 0) (pos 2)))
    ∷ refused 2 2 (other (arc (pos 2) (pos 0)))
    ∷ refused 3 2 (other (arc (pos 1) (pos 1)))
    ∷ refused 2 2 (other (mark (pos 2) (pos 1)))
    ∷ refused 2 2 (other (mark (negsuc 0) (pos 1)))
    ∷ refused 7 2 (other (mark (pos 1) (pos 0)))
    ∷ passed 2 (other (mark (pos 1) (pos 1)))
    ∷ passed 2 (other (mark (pos 1) (pos 2)))
    ∷ refused 7 2 (other (mark (pos 1) (pos 3)))
    ∷ refused 2 2 (other (cut (pos 2) (pos 0) (pos 1)))
    ∷ refused 5 2 (other (cut (pos 1) (negsuc 500000) (pos 1)))
    ∷ refused 5 2 (other (cut (pos 1) (pos 0) (pos 500001)))
    ∷ passed 2 (other (cut (pos 1) (pos 5) (pos 5)))
    ∷ refused 6 2 (other (cut (pos 1) (pos 6) (pos 5)))
    ∷ []

-- "Checks go [..] 1 to 9": where an entry meets several, the first decides
several : List Bool
several =
    refused 1 64 (addition (pos 0) (pos 500001) (negsuc 500000) (pos 2))
    ∷ refused 4 0 (addition (pos 0) (pos 500001) (negsuc 500000) (pos 2))
    ∷ refused 5 0 (addition (pos 1) (pos 500001) (negsuc 500000) (pos 2))
    ∷ refused 6 0 (addition (pos 1) (pos 6) (pos 5) (pos 2))
    ∷ refused 2 2 (other (arc (pos 2) (pos 2)))
    ∷ refused 2 2 (other (mark (pos 2) (pos 3)))
    ∷ refused 2 2 (other (cut (pos 2) (pos 500001) (pos 0)))
    ∷ refused 5 2 (other (cut (pos 1) (pos 500001) (pos 0)))
    ∷ []

boundaries_hold : (every additions && every others && every several) ≡ true
unfolding is_number is_none refused passed every long window begins additions others several eq_z between first_refusal
boundaries_hold = refl
