pub mod Parts
mod FirstSymbols
mod OneName
