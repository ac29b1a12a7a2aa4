-- The checks of a job, of a pair and of a budget, as code.
pub mod RefusalOf
pub mod CastNumber
