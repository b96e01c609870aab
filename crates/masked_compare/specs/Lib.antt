pub mod Examples
pub mod Fields
pub mod Marks
pub mod Rounds
pub mod ShapeRepr
pub mod Words
