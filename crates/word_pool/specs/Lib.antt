pub mod ChunkList
pub mod Examples
pub mod NumberTable
pub mod Numbering
pub mod PoolParts
pub mod Region
pub mod RegionLaws
pub mod Reservation
