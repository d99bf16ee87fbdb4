use Rattle.std.proofs.Common.{◌≡◌, None, refl, sym, ap}
use Rattle.ob_types.specs.Table.{Table}
use Rattle.check_types.specs.declared.types.TypeRef.{TypeRef}
use Rattle.check_types.specs.declared.types.TypeRef.TheVariants as TheType
use Rattle.check_types.specs.TypeMeaning.{type_shape}
use Rattle.check_expressions.specs.constants.Constants.{basic_in}
use Rattle.check_expressions.proofs.constants.constants.basic.Goals as goal

not_basic : (t : Table) (k : TypeRef) → (k ≡ TheType.Int → ⊥) → (k ≡ TheType.Bool → ⊥) → (k ≡ TheType.Char → ⊥) → (k ≡ TheType.Byte → ⊥) → (k ≡ TheType.Set → ⊥) → (k ≡ TheType.Nil → ⊥)
    → None ≡ basic_in (type_shape t k)
not_basic t TheType.Int i b c y s n = absurd (i refl)
not_basic t TheType.Bool i b c y s n = absurd (b refl)
not_basic t TheType.Char i b c y s n = absurd (c refl)
not_basic t TheType.Byte i b c y s n = absurd (y refl)
not_basic t TheType.Set i b c y s n = absurd (s refl)
not_basic t TheType.Nil i b c y s n = absurd (n refl)
not_basic t k i b c y s n = refl

pub returns-in-Int : goal.returns-in-Int
returns-in-Int c = λ t. sym (ap (λ k. basic_in (type_shape t k)) c.in-Int.is)

pub returns-in-Bool : goal.returns-in-Bool
returns-in-Bool c = λ t. sym (ap (λ k. basic_in (type_shape t k)) c.in-Bool.is)

pub returns-in-Char : goal.returns-in-Char
returns-in-Char c = λ t. sym (ap (λ k. basic_in (type_shape t k)) c.in-Char.is)

pub returns-in-Byte : goal.returns-in-Byte
returns-in-Byte c = λ t. sym (ap (λ k. basic_in (type_shape t k)) c.in-Byte.is)

pub returns-in-Set : goal.returns-in-Set
returns-in-Set c = λ t. sym (ap (λ k. basic_in (type_shape t k)) c.in-Set.is)

pub returns-in-Nil : goal.returns-in-Nil
returns-in-Nil c = λ t. sym (ap (λ k. basic_in (type_shape t k)) c.in-Nil.is)

pub returns-in_default : goal.returns-in_default
returns-in_default c = λ t. not_basic t c.args.of c.in_default.not-Int c.in_default.not-Bool c.in_default.not-Char c.in_default.not-Byte c.in_default.not-Set c.in_default.not-Nil
