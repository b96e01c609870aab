pub mod DigitLemmas
pub mod FourLemmas
pub mod LaneLemmas
pub mod MaskLemmas
pub mod RoundLemmas
pub mod RowLemmas
