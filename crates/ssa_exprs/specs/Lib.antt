pub mod Changes
pub mod Making
pub mod Named
pub mod Steps
pub mod Tables
pub mod Walk
