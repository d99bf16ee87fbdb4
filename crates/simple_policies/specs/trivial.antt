pub mod Trivial
