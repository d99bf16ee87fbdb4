-- What has no parts.
use Rattle.std.proofs.Common.{◌≡◌, ℕ, Bool, true, false, ◌&&◌, if◌then◌else◌, Option, None, Some, refl, ap}
use Rattle.ob_judge.specs.Shapes.{Shape, Integer, Boolean, Char, Byte, Set, Nil, Nothing, Text, Array, Open, Record, Pointer, Procedure, Known, element_of, target_of, is_pointer, extends}
use Rattle.ob_judge.specs.Scopes.{World, Source}
use Rattle.ob_judge.specs.Operands as J
use Rattle.ob_judge.specs.Image as I
use Rattle.ob_judge.specs.Parts.{record_of, tested_tag}
use Rattle.check_types.specs.names.Basics.{basic_shape}
use Rattle.check_types.specs.declared.names.scope.Basic.{Basic}
use Rattle.check_types.specs.declared.names.scope.Basic.TheVariants as TheBasic
use Rattle.check_types.specs.declared.names.scope.Constant.{Constant}
use Rattle.check_types.specs.declared.names.scope.Constant.TheVariants as TheConstant
use Rattle.check_types.specs.names.Meaning.{constant_of}
use Rattle.ob_types.specs.Table.{Table}
use Rattle.std.specs.Prelude.{List}
use Rattle.check_selectors.specs.Stages.{is_simple, IsWhole}

pub no_element : (t : Shape) → is_simple t ≡ true → element_of t ≡ None
no_element Integer h = refl
no_element Boolean h = refl
no_element Char h = refl
no_element Byte h = refl
no_element Set h = refl
no_element Nil h = refl
no_element Nothing h = refl
no_element (Text n) h = refl
no_element (Procedure ps r) h = refl
no_element (Array n e) h = cc
no_element (Open e) h = cc
no_element (Record n) h = cc
no_element (Pointer n) h = cc

pub no_target : (known : Known) (t : Shape) → is_simple t ≡ true → target_of known t ≡ None
no_target known Integer h = refl
no_target known Boolean h = refl
no_target known Char h = refl
no_target known Byte h = refl
no_target known Set h = refl
no_target known Nil h = refl
no_target known Nothing h = refl
no_target known (Text n) h = refl
no_target known (Procedure ps r) h = refl
no_target known (Array n e) h = cc
no_target known (Open e) h = cc
no_target known (Record n) h = cc
no_target known (Pointer n) h = cc

pub no_pointer : (t : Shape) → is_simple t ≡ true → is_pointer t ≡ false
no_pointer Integer h = refl
no_pointer Boolean h = refl
no_pointer Char h = refl
no_pointer Byte h = refl
no_pointer Set h = refl
no_pointer Nil h = refl
no_pointer Nothing h = refl
no_pointer (Text n) h = refl
no_pointer (Procedure ps r) h = refl
no_pointer (Array n e) h = cc
no_pointer (Open e) h = cc
no_pointer (Record n) h = cc
no_pointer (Pointer n) h = cc

pub no_record_in : (p : Source) (w : World) (t : Shape) (what : J.What) (u : J.Use) → is_simple t ≡ true → record_of p w (J.operand t what u) ≡ None
no_record_in p w Integer what u h = refl
no_record_in p w Boolean what u h = refl
no_record_in p w Char what u h = refl
no_record_in p w Byte what u h = refl
no_record_in p w Set what u h = refl
no_record_in p w Nil what u h = refl
no_record_in p w Nothing what u h = refl
no_record_in p w (Text n) what u h = refl
no_record_in p w (Procedure ps r) what u h = refl
no_record_in p w (Array n e) what u h = cc
no_record_in p w (Open e) what u h = cc
no_record_in p w (Record n) what u h = cc
no_record_in p w (Pointer n) what u h = cc

pub no_record : (p : Source) (w : World) (a : J.Operand) → IsWhole a → record_of p w a ≡ None
no_record p w a h = no_record_in p w a.shape a.what a.use_ h.shape

pub no_tag : (p : Source) (w : World) (a : J.Operand) (t : Shape) → IsWhole a → tested_tag p w a t ≡ None
no_tag p w a (Pointer n) h = ap (λ b. if b && extends w.known (Pointer n) a.shape then target_of w.known (Pointer n) else None) (no_pointer a.shape h.shape)
no_tag p w a (Record n) h = ap (λ b. if b && extends w.known (Record n) a.shape then Some n else None) h.usage
no_tag p w a Integer h = refl
no_tag p w a Boolean h = refl
no_tag p w a Char h = refl
no_tag p w a Byte h = refl
no_tag p w a Set h = refl
no_tag p w a Nil h = refl
no_tag p w a Nothing h = refl
no_tag p w a (Text n) h = refl
no_tag p w a (Procedure ps r) h = refl
no_tag p w a (Array n e) h = refl
no_tag p w a (Open e) h = refl

basic_simple : (b : Basic) → is_simple (basic_shape b) ≡ true
basic_simple TheBasic.Int = refl
basic_simple TheBasic.Bool = refl
basic_simple TheBasic.Char = refl
basic_simple TheBasic.Byte = refl
basic_simple TheBasic.Set = refl
basic_simple TheBasic.Nil = refl

pub constant_whole : (t : Table) (strings : List (List ℕ)) (c : Constant) → IsWhole (J.of_constant (constant_of t strings c))
constant_whole t strings (TheConstant.Bits b n) = record { shape = basic_simple b; usage = refl }
constant_whole t strings (TheConstant.Chars k) = record { shape = refl; usage = refl }
