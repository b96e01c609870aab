pub mod CodeTests
pub mod Examples
pub mod Match
pub mod PageLaws
pub mod ValueTests
