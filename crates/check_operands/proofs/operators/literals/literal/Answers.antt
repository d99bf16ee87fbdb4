use Rattle.std.proofs.Common.{refl}
use Rattle.ob_judge.specs.Image.{Literal}
use Rattle.check_types.specs.names.Basics.{basic_shape}
use Rattle.check_types.specs.names.Worlds.{table_of}
use Rattle.check_operands.proofs.operators.literals.literal.Goals as goal

pub returns : goal.returns
returns c = λ s. c.value.ensures s (basic_shape c.args.of) (Literal c.args.bits) (c.of.ensures (table_of s)) refl
