pub mod Once
pub mod Whole
pub use Rattle.note_laws.proofs as note_laws
pub use Rattle.note_laws.proofs.planned_image
pub use Rattle.trc_texts.proofs as trc_texts
pub use Rattle.note_laws.proofs.words
