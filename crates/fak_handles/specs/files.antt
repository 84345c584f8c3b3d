-- Seats of file tables.
pub mod Calls
