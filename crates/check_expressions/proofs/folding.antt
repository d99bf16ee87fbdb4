pub mod Chains
pub mod Outlined
