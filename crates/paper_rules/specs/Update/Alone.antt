-- What an alteration in place leaves as it was, also where there is no board then.
use Rattle.std.specs.Prelude.{◌≡◌}
use Rattle.paper_board.specs.declared.Board.{Board}
use Rattle.paper_board.specs.Paper.Parts.{filled}

-- the two boards differ in their arrays alone: they have as many jobs, and the same books
abbrev pub ArraysAlone : Board → Board → Type 0
ArraysAlone b c = (c.jobs ≡ b.jobs) × (c.books ≡ b.books)

-- the two boards differ in windows alone
abbrev pub WindowsAlone : Board → Board → Type 0
WindowsAlone b c = c ≡ filled b b.lengths c.earliest c.latest b.marks b.after b.before

-- the two boards differ in marks alone
abbrev pub MarksAlone : Board → Board → Type 0
MarksAlone b c = c ≡ filled b b.lengths b.earliest b.latest c.marks b.after b.before
