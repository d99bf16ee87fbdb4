pub mod Homing
pub mod Numbers
pub mod Frame
pub mod Keeping
pub mod Stepping
pub mod Calling
pub mod Trail
