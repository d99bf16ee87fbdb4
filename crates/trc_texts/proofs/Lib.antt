pub mod Named
pub mod Refusing
pub use Rattle.image_words.proofs as words
