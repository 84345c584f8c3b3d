-- Ends of channels.
pub mod Calls
pub mod Lending
