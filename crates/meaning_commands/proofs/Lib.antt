pub mod Refusing
pub mod Giving
pub mod Meant
pub mod Agreeing
pub mod Once
pub use Rattle.trc_texts.proofs as trc_texts
