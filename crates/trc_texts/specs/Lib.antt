pub mod Texts
pub use Rattle.image_words.specs as words
