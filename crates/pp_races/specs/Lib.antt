pub mod OtherFlags
pub mod Watch
pub mod Findings
pub mod RacesText
pub mod RacesAnswer
-- cited by private contracts alone: nobody has to read these to believe what the crate promises
pub mod ByFlags
pub mod Cursor
pub mod Tables
pub mod OnePass
pub mod WatchTables
pub mod Printing
pub mod Soundness
