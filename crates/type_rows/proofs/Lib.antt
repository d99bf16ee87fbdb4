pub mod Sampled
