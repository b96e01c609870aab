pub mod Examples
pub mod KeyCodes
pub mod KeyLaws
pub mod Keys
