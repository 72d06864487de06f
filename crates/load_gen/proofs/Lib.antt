pub mod Drawn
pub mod OneMore
pub mod PlanHolds
pub mod Wholes
