-- Seats of credits.
pub mod Calls
