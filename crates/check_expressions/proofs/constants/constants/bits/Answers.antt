use Rattle.std.proofs.Common.{Some, None, option_map, sym, ap, ◌∙◌}
use Rattle.ob_judge.specs.Image as I
use Rattle.check_types.specs.names.Basics.{basic_shape}
use Rattle.check_types.specs.names.Worlds.{table_of}
use Rattle.check_operands.specs.Operands.{texts_of, bases_of}
use Rattle.check_expressions.specs.constants.Constants.{basic_in, constant_meant}
use Rattle.check_expressions.proofs.constants.Values.{basic_same, bits_are}
use Rattle.check_expressions.proofs.constants.constants.bits.Goals as goal

pub returns-in_err-value : goal.returns-in_err-value
returns-in_err-value c = λ a h p n. ap (option_map (constant_meant (texts_of c.args.scope.now))) c.from_residual-in_err-value.ensures ∙ sym (bits_are (bases_of c.args.scope.now) a _ None n (c.form-tree.ensures a h) (c.in_err-value.ensures (table_of c.args.scope.now) (texts_of c.args.scope.now)))

pub returns : goal.returns
returns c = λ a h p n. ap (λ s. Some (I.Bits s c.in_ok-value.value)) (basic_same a.shape (basic_shape c.in_ok-of.of) (ap basic_in (sym h.shape) ∙ sym (c.in_ok-of.ensures (table_of c.args.scope.now))))
    ∙ sym (bits_are (bases_of c.args.scope.now) a _ (Some c.in_ok-value.value) n (c.form-tree.ensures a h) (c.in_ok-value.ensures (table_of c.args.scope.now) (texts_of c.args.scope.now)))
