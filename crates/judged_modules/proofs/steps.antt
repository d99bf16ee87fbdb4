pub mod Parts
pub mod Laws
pub mod Frame
pub mod FrameTypes
