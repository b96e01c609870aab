pub mod Causes
pub mod Files
pub mod Folders
pub mod Memory
pub mod Streams
