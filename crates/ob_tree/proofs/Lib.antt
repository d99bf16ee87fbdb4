mod Added
mod ExpressionParts
mod TypeParts
mod StatementParts
mod DeclarationParts
