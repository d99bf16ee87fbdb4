pub mod Files
pub mod Whole
pub mod Once
pub use Rattle.note_commands.proofs as note_commands
pub use Rattle.note_commands.proofs.note_laws
pub use Rattle.note_commands.proofs.planned_image
pub use Rattle.note_commands.proofs.trc_texts
pub use Rattle.note_commands.proofs.words
