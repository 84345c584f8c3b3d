pub mod Fronts
pub mod Keys
pub mod Named
pub mod Places
pub mod Program
pub mod Repeats
pub mod Spots
