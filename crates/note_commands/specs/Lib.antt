pub mod Noted
pub mod Audits
pub mod Reading
pub use Rattle.note_laws.specs.noted_image
pub use Rattle.note_laws.specs.placed_image
pub use Rattle.note_laws.specs.planned_image
pub use Rattle.trc_texts.specs as trc_texts
pub use Rattle.note_laws.specs.words
