pub mod Forms
pub mod Known
