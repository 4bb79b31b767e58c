pub mod TextAnswer
pub mod FaultText
pub mod ThreadsText
pub mod CheckText
pub mod LintAnswer
pub mod TextOf
pub mod TestAnswer
pub mod Program
