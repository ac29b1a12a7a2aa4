-- The closure as a computation, and check 0: finding what a rule infers, applying it, and repeating the two until nothing is left.
pub mod Find
pub mod Closure
pub mod Passes
-- what is found is inferred, and where nothing is found the rules are obeyed
pub mod Finds
pub mod FindTests
pub mod FindSound
pub mod FindComplete
-- each inference applied leaves less to infer
pub mod Measure
