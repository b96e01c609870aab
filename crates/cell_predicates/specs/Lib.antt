pub mod Cuts
pub mod Prefixes
