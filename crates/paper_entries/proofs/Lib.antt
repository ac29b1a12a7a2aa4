-- That `enter` gives its `Outcome`, call by call and over a sequence.
pub mod CallNumbers
pub mod Allowed
pub mod RawShown
pub mod ClosesWith
pub mod EntriesAgree
pub mod Reached
pub mod EnterOutcome
pub mod Later
pub mod Played
-- what follows: the order of entries does not matter, 8 exactly when, and entries without effect
pub mod LeastOrderless
pub mod RefusedExactly
pub mod HandedKeeps
pub mod Tallied
pub mod Unaltered
