pub mod Form
pub mod Tables
pub mod Order
pub mod Search
