pub mod BitSets
pub mod Examples
pub mod Runs
pub mod Sets
