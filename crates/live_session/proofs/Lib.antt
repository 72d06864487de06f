pub mod Adding
pub mod Stays
pub mod TicksStay
pub mod Same
pub mod StandsOn
pub mod TickerEnds
pub mod RowsAtEnd
pub mod TickerOpen
