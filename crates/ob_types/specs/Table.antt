-- The table of types, as contracts see it.
use Rattle.std.specs.Prelude.{List}
use Rattle.ob_types.specs.declared.types.TypeKind.{TypeKind}
use Rattle.ob_types.specs.declared.types.RecordType.{RecordType}
use Rattle.ob_types.specs.declared.types.Signature.{Signature}

-- types, record types and procedure types, each by its number
pub record Table : Type 0 where
  pub kinds : List TypeKind
  pub records : List RecordType
  pub signatures : List Signature
