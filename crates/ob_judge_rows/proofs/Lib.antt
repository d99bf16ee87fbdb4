mod Choices
mod Constants
mod Legal
mod Names
mod Order
mod Table
mod Types
mod Uses
