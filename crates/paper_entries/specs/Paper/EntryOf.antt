-- What an entry of the code stands for in the paper.
use Rattle.paper_entries.specs.declared.Entry as Entries
use Rattle.paper_entries.specs.Paper.Entry.{Entry, arc, mark, cut, addition, other}

abbrev pub entry_of : Entries.Entry → Entry
entry_of (Entries.TheVariants.Addition length earliest latest given) = addition length earliest latest given
entry_of (Entries.TheVariants.Arc from to) = other (arc from to)
entry_of (Entries.TheVariants.Mark job given) = other (mark job given)
entry_of (Entries.TheVariants.Cut job earliest latest) = other (cut job earliest latest)
