pub mod Passed
mod Reports
pub mod Refused
