pub mod PrintedTrace
pub mod OneRun
pub mod Circle
pub mod WellFormed
pub mod GoingOn
pub mod OrdersRead
