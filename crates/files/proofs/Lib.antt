pub mod Next
pub mod Standings
pub mod VenueTurns
pub mod PositionTurns
pub mod RouteTurns
pub mod ShowTurns
pub mod Both
