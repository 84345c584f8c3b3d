pub mod SleeperSides
pub mod SleeperMoves
pub mod SleeperSchedule
pub mod SleeperProgress
pub mod SleeperExamples
