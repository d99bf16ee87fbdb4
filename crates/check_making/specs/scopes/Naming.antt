-- A procedure's name, once its parameters are known.
use Rattle.std.specs.Prelude.{ℕ, Bool, not, is_some}
use Rattle.ob_syntax.specs.declared.names.Identdef.{Identdef}
use Rattle.ob_judge.specs.Shapes.{Shape}
use Rattle.ob_judge.specs.Scopes.{AProcedure, Entry, Source, spelled}
use Rattle.ob_judge.specs.Making.{Part, ◌>>>◌, become, with_levels, declare_outer, offer_if}

abbrev pub procedure_entry : (number : ℕ) → Identdef → Shape → (is_local : Bool) → Entry
procedure_entry number name s is_local = record { object = AProcedure number s is_local; exported = is_some name.star }

-- it is known in the scope round its own, and is one of the module's where it isn't local
abbrev pub named_procedure : Source → (number : ℕ) → Identdef → Shape → (is_local : Bool) → Part (Unit {0})
named_procedure p number name s is_local =
    become (with_levels (declare_outer (spelled p name.name) (procedure_entry number name s is_local))) >>> λ _.
    become (offer_if (not is_local) (spelled p name.name) (procedure_entry number name s is_local))
