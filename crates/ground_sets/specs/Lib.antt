-- Sets of jobs as words: the definitions, and their laws.
pub mod Bit
pub mod BitLaws
