pub mod Finding
pub mod InstructionsOfLine
pub mod CommentFindings
pub mod FieldAtFault
pub mod FaultWords
pub mod Given
pub mod Warnings
pub mod StraightLine
pub mod ChannelUse
pub mod RunFindings
pub mod Findings
pub mod LintText
-- cited only by private contracts: nobody has to read these to believe what the crate promises
pub mod LineFault
pub mod WordsOfLine
pub mod FirstLines
pub mod RowOfLine
pub mod SeenChannels
