pub mod Buffers
pub mod Contract
pub mod BufferLaws
pub mod Stream
pub mod Chunks
pub mod WholeInput
