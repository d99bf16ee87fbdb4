-- Constants, between their expression and their name.
use Rattle.std.specs.Prelude.{◌≡◌, ◌++◌, ℕ, List, [], ◌∷◌, map, slice_index_or}
use Rattle.ob_syntax.specs.declared.declarations.ConstDecl.{ConstDecl}
use Rattle.ob_syntax.specs.declared.expressions.Expression.{Expression}
use Rattle.ob_syntax.specs.Plain.{plain_const_decl, plain_each, plain_expression}
use Rattle.ob_judge.specs.Image as I
use Rattle.ob_judge.specs.Judged.{Judged}
use Rattle.ob_judge.specs.Scopes.{Source, World}
use Rattle.ob_judge.specs.Making.{Part}
use Rattle.ob_judge.specs.Expressions.{constant}
use Rattle.ob_judge.specs.Declarations.{const_part, each}
use Rattle.check_operands.specs.Operands.{between_quotes}
use Rattle.check_types.specs.declared.names.scope.Constant.{Constant}
use Rattle.check_types.specs.names.Meaning.{constant_of}
use Rattle.check_expressions.specs.declared.constants.constants.ConstantValue.{ConstantValue}
use Rattle.check_expressions.specs.constants.Constants.{constant_meant}
use Rattle.check_making.specs.declared.making.Declaring.{Declaring}
use Rattle.check_making.specs.declared.making.Surroundings.{Surroundings}
use Rattle.check_making.specs.Making.{table_of, strings_of}

-- the strings that trees may name by their numbers there
abbrev pub texts_in : Surroundings → Declaring → List (List ℕ)
texts_in r s = map (between_quotes r.source.now.bytes) r.source.now.symbols ++ [] ∷ strings_of s

abbrev pub text_in : Surroundings → Declaring → ℕ → List ℕ
text_in r s n = slice_index_or (texts_in r s) n []

-- this is the value
abbrev pub IsValue : Surroundings → Declaring → ConstantValue → I.Constant → Type 0
IsValue r s c x = constant_meant (texts_in r s) c ≡ x

-- the name's constant is the expression's
abbrev pub IsKept : Surroundings → Declaring → ConstantValue → Declaring → Constant → Type 0
IsKept r s value t c = constant_of (table_of t) (strings_of t) c ≡ constant_meant (texts_in r s) value

-- these constants are declared, one after the other
abbrev pub consts_part : Source → List ConstDecl → Part (Unit {0})
consts_part p trees = each (const_part p) (plain_each plain_const_decl trees)

-- the value of an expression where a constant is asked for
abbrev pub constant_part : Source → Expression → World → Judged I.Constant
constant_part p tree w = constant p w (plain_expression tree)
