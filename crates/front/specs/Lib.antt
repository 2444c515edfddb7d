pub mod UnitLine
pub mod PairLine
pub mod ReferenceLine
