pub mod Sets
pub mod First
pub mod Grown
pub mod Partition
pub mod Cuts
pub mod Order
pub mod Holders
