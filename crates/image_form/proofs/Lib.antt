pub mod Formed
pub mod Rising
