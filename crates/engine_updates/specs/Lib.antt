-- Updates of a board by one fact, as code: the definitions stand in `paper_rules`.
pub mod Applicable
