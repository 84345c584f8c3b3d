pub mod Leap
pub mod Counts
pub mod Workers
