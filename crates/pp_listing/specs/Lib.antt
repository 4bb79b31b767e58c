pub mod ListedLine
pub mod Listing
pub mod Dump
pub mod RestOfOrder
