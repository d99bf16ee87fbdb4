mod Joining
mod Filling
