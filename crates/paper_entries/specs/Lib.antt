-- Entries, the checks of the table, and `enter`: what each entry call answers and the board after it.
pub mod Paper
-- what an entry shows, and what the checks of the table ask
pub mod ShowsEntry
pub mod CheckLines
pub mod AnsweredImpossible
-- two entries swapped, and each refusal at its limit
pub mod SameSwapped
pub mod BoundariesHold
