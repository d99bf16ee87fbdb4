pub mod Objects
pub mod Links
pub mod Reading
pub use Rattle.object_laws.specs.module_object
pub use Rattle.note_commands.specs as note_commands
pub use Rattle.note_commands.specs.noted_image
pub use Rattle.object_laws.specs as object_laws
pub use Rattle.note_commands.specs.placed_image
pub use Rattle.note_commands.specs.planned_image
pub use Rattle.note_commands.specs.trc_texts
pub use Rattle.note_commands.specs.words
