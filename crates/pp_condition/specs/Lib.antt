pub mod Condition
pub mod ConditionText
pub mod Until
