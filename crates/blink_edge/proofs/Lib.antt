pub mod CountLemmas
pub mod FileLemmas
pub mod PieceLemmas
pub mod WholeLemmas
