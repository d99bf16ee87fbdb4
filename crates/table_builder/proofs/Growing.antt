-- What a table that grew still has.
use Rattle.check_types.specs.declared.types.TypeRef.{TypeRef}
use Rattle.check_types.specs.declared.table.TypeTable.{TypeTable}
use Rattle.table_builder.specs.Entries.{IsNumbered, IsElement}
use Rattle.table_builder.specs.Growing.{Grows}

module _ (t u : TypeTable) (g : Grows t u) where
  pub numbered_still : (e : TypeRef) → IsNumbered t.entries.items e → IsNumbered u.entries.items e
  numbered_still e h = (h.0, g.entry h.0 e h.1)

  pub element_still : (e : TypeRef) → IsElement t.entries.items e → IsElement u.entries.items e
  element_still e h = record { numbered = numbered_still e h.numbered; whole = h.whole }
