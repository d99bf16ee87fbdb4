mod TrapKinds
mod Modest
mod Low
mod Free
mod Images
