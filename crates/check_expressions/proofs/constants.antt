mod Basic
mod Values
