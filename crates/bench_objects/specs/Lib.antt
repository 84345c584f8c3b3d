pub mod Plans
pub mod Seats
pub mod Spreads
pub mod Tails
