pub mod CodeTestLemmas
pub mod PageLemmas
pub mod ValueTestLemmas
