-- Seats of semaphores.
pub mod Calls
