pub mod Examples
pub mod Scan
pub mod Tops
