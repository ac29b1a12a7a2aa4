-- Entries by natural numbers, for samples and examples.
use Rattle.std.specs.Prelude.{ℕ, pos}
use Rattle.paper_entries.specs.Paper.Entry.{arc, mark, cut, Entry, addition, other}

-- a valid job of length l in the window e to d, and an undecided one
abbrev pub job : ℕ → ℕ → ℕ → Entry
job l e d = addition (pos l) (pos e) (pos d) (pos 1)

abbrev pub undecided : ℕ → ℕ → ℕ → Entry
undecided l e d = addition (pos l) (pos e) (pos d) (pos 0)

abbrev pub arrow : ℕ → ℕ → Entry
arrow a b = other (arc (pos a) (pos b))

abbrev pub marked : ℕ → ℕ → Entry
marked j m = other (mark (pos j) (pos m))

abbrev pub cut_to : ℕ → ℕ → ℕ → Entry
cut_to j e d = other (cut (pos j) (pos e) (pos d))
