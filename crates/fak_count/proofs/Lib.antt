pub mod Common
pub mod CountWords
pub mod CreditSteps
pub mod CreditCalls
pub mod RoomSteps
pub mod RoomCalls
