use Rattle.std.proofs.Common.{ap, ◌∙◌}
use Rattle.ob_judge.specs.Image.{Result}
use Rattle.ob_judge.specs.Calls.{call_of}
use Rattle.check_types.specs.TypeMeaning.{result_of}
use Rattle.check_types.specs.names.Worlds.{table_of}
use Rattle.check_operands.specs.Operands.{texts_of}
use Rattle.check_operands.proofs.calls.calls.result_of_call.Goals as goal

pub returns : goal.returns
returns c = λ a bs h k.
    let s = c.args.scope.now in
    record {
      by = c.value.ensures s (result_of (table_of s) c.args.signature) (Result (call_of a a.what bs)) c.result_type.ensures
          (c.in_ok-tree.ensures (table_of s) (texts_of s) ∙ ap Result (c.call_by.ensures a bs h k));
    }
