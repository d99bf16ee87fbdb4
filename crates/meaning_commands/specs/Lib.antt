pub mod Inputs
pub mod Programs
pub mod Meanings
pub mod Comparisons
pub mod Agreements
pub use Rattle.trc_texts.specs as trc_texts
