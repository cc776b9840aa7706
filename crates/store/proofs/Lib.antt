pub mod Chain
pub mod CutChain
