-- A text scanned by a format, and that it takes what the format filled in gives, and nothing else.
pub mod ScannedIsFilled
pub mod Apart
-- what the proofs stand on: one byte of a format after the other
pub mod Scan
pub mod Steps
pub mod ScanState
