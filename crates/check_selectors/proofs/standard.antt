mod Kept
mod Refusing
