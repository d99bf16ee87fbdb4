pub mod Lasting
pub mod Keeping
pub mod Lists
pub mod Leaves
pub mod ExpressionParts
pub mod StatementParts
pub mod Wholes
