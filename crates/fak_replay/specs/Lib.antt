pub mod Answers
pub mod Faults
pub mod Replay
pub mod Trace
