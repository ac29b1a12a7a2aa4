-- That a call has each of its refusals, on some board.
pub mod Witnesses
