pub mod Dealing
pub mod Spreads
pub mod Tails
