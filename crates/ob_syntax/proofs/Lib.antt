pub mod Lists
pub mod ExpressionTexts
pub mod TypeTexts
pub mod StatementTexts
pub mod DeclarationTexts
mod Spelled
mod NamesSpelled
mod ExpressionsSpelled
mod Seen
mod SeenPlain
mod TypesSpelled
mod StatementsSpelled
mod DeclarationsSpelled
pub mod ModulesSpelled
pub mod PlainParts
