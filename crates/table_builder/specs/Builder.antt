-- What holds of a builder.
use Rattle.table_builder.specs.declared.builder.TableBuilder.{TableBuilder}
use Rattle.table_builder.specs.Contents.{contents_of, IsConsistent}

abbrev pub IsBuilt : TableBuilder → Type 0
IsBuilt b = IsConsistent (contents_of b.table b.numbers b.elements.items)
