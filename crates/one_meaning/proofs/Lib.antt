mod Meant
mod Expressions
mod Statements
mod Whole
mod Data
mod Programs
