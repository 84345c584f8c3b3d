-- Seats of queues.
pub mod Calls
pub mod Observing
