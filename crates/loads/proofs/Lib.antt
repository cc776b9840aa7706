pub mod LoadCalls
pub mod LoadMap
pub mod Moves
pub mod WornLoads
pub mod WholeLoads
pub mod CutMoves
pub mod RowsKept
