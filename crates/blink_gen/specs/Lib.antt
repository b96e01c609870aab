pub mod Demo
pub mod Examples
pub mod Generator
pub mod Orders
pub mod Records
