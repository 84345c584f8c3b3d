pub mod Threads
pub mod Gathered
pub mod Closing
pub mod Layers
