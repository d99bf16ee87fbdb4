-- The types of constants that are no strings.
use Rattle.ob_judge.specs.Shapes.{Shape, Integer, Boolean, Char, Byte, Set, Nil}
use Rattle.check_types.specs.declared.names.scope.Basic.{Basic}
use Rattle.check_types.specs.declared.names.scope.Basic.TheVariants as TheBasic

abbrev pub basic_shape : Basic → Shape
basic_shape TheBasic.Int = Integer
basic_shape TheBasic.Bool = Boolean
basic_shape TheBasic.Char = Char
basic_shape TheBasic.Byte = Byte
basic_shape TheBasic.Set = Set
basic_shape TheBasic.Nil = Nil
