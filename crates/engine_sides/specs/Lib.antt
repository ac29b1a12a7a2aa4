pub mod OnSide
