pub mod Buffers
pub mod Moved
