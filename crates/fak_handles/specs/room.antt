-- Seats of rooms.
pub mod Calls
