pub mod ChunkListLemmas
pub mod NumberingLemmas
pub mod PoolPartsLemmas
pub mod RegionLemmas
