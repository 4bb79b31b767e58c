pub mod CallWords
