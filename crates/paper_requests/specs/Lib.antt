-- A call of any sort, the refusals that it may have, and that it has no others.
pub mod Paper
pub mod RefusalLaws
pub mod SampleEntries
pub mod Samples
