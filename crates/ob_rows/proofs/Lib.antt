mod Samples
mod More
mod Formed
mod Spoiled
mod Types
mod Sizes
mod Queens
