pub mod plain
pub mod trivial
