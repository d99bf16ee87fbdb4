-- Procedure types by their signatures.
use Rattle.std.specs.Prelude.{ℕ, Option, Some, None}
use Rattle.check_types.specs.declared.types.TypeRef.{TypeRef}
use Rattle.check_types.specs.declared.types.TypeRef.TheVariants as TheType

abbrev pub signature_at : TypeRef → Option ℕ
signature_at (TheType.Procedure g) = Some g
signature_at of = None
