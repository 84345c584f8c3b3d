-- Bundles of seats of queues.
pub mod Calls
pub mod Open
pub mod Opening
