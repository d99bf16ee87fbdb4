mod Objects
mod Links
