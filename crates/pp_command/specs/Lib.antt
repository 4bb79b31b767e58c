pub mod NumberList
pub mod ChannelList
pub mod ProcessorList
pub mod CommandLine
pub mod OrderList
pub mod TextOf
