mod Labelling
mod Naming
