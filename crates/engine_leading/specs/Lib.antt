-- A bound that valid jobs leave to those behind them.
pub mod Leading
