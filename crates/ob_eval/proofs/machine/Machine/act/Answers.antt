use Rattle.std.proofs.Common.{sym, subst}
use Rattle.eval_store.specs.Did.{Sensible}
use Rattle.eval_tasks.specs.declared.task.Act.{Act}
use Rattle.eval_tasks.specs.Tasks.{acts}
use Rattle.ob_eval.specs.Steps.{before, Went}
use Rattle.ob_eval.proofs.machine.Machine.act.Goals as goal

pub returns-in-Fetch-clause-went : goal.returns-in-Fetch-clause-went
returns-in-Fetch-clause-went c =
    let P : Act → Type 0 = λ a. Went c.args.laid.now (before c.args.laid.now (acts c.args.laid.now a) c.args.self.now) c.fetch.result c.fetch.new.self in
    subst P (sym c.in-Fetch.is) c.fetch.ensures.went

pub returns-in-OneOperand-clause-went : goal.returns-in-OneOperand-clause-went
returns-in-OneOperand-clause-went c =
    let P : Act → Type 0 = λ a. Went c.args.laid.now (before c.args.laid.now (acts c.args.laid.now a) c.args.self.now) c.one_operand.result c.one_operand.new.self in
    subst P (sym c.in-OneOperand.is) c.one_operand.ensures.went

pub returns-in-Number-clause-went : goal.returns-in-Number-clause-went
returns-in-Number-clause-went c =
    let P : Act → Type 0 = λ a. Went c.args.laid.now (before c.args.laid.now (acts c.args.laid.now a) c.args.self.now) c.number.result c.number.new.self in
    subst P (sym c.in-Number.is) c.number.ensures.went

pub returns-in-Element-clause-went : goal.returns-in-Element-clause-went
returns-in-Element-clause-went c =
    let P : Act → Type 0 = λ a. Went c.args.laid.now (before c.args.laid.now (acts c.args.laid.now a) c.args.self.now) c.element.result c.element.new.self in
    subst P (sym c.in-Element.is) c.element.ensures.went

pub returns-in-TwoOperands-clause-went : goal.returns-in-TwoOperands-clause-went
returns-in-TwoOperands-clause-went c =
    let P : Act → Type 0 = λ a. Went c.args.laid.now (before c.args.laid.now (acts c.args.laid.now a) c.args.self.now) c.two_operands.result c.two_operands.new.self in
    subst P (sym c.in-TwoOperands.is) c.two_operands.ensures.went

pub returns-in-Compared-clause-went : goal.returns-in-Compared-clause-went
returns-in-Compared-clause-went c =
    let P : Act → Type 0 = λ a. Went c.args.laid.now (before c.args.laid.now (acts c.args.laid.now a) c.args.self.now) c.compared.result c.compared.new.self in
    subst P (sym c.in-Compared.is) c.compared.ensures.went

pub returns-in-TextsCompared-clause-went : goal.returns-in-TextsCompared-clause-went
returns-in-TextsCompared-clause-went c =
    let P : Act → Type 0 = λ a. Went c.args.laid.now (before c.args.laid.now (acts c.args.laid.now a) c.args.self.now) c.texts_compared.result c.texts_compared.new.self in
    subst P (sym c.in-TextsCompared.is) c.texts_compared.ensures.went

pub texts_compared-requires : goal.texts_compared-requires
texts_compared-requires c =
    let P : Act → Type 0 = λ a. Sensible (before c.args.laid.now (acts c.args.laid.now a) c.args.self.now) in
    record { sensible = subst P c.in-TextsCompared.is c.requires.sensible }

pub returns-in-Contained-clause-went : goal.returns-in-Contained-clause-went
returns-in-Contained-clause-went c =
    let P : Act → Type 0 = λ a. Went c.args.laid.now (before c.args.laid.now (acts c.args.laid.now a) c.args.self.now) c.contained.result c.contained.new.self in
    subst P (sym c.in-Contained.is) c.contained.ensures.went

pub returns-in-WithElement-clause-went : goal.returns-in-WithElement-clause-went
returns-in-WithElement-clause-went c =
    let P : Act → Type 0 = λ a. Went c.args.laid.now (before c.args.laid.now (acts c.args.laid.now a) c.args.self.now) c.with_element.result c.with_element.new.self in
    subst P (sym c.in-WithElement.is) c.with_element.ensures.went

pub returns-in-WithRange-clause-went : goal.returns-in-WithRange-clause-went
returns-in-WithRange-clause-went c =
    let P : Act → Type 0 = λ a. Went c.args.laid.now (before c.args.laid.now (acts c.args.laid.now a) c.args.self.now) c.with_range.result c.with_range.new.self in
    subst P (sym c.in-WithRange.is) c.with_range.ensures.went

pub returns-in-PointerIs-clause-went : goal.returns-in-PointerIs-clause-went
returns-in-PointerIs-clause-went c =
    let P : Act → Type 0 = λ a. Went c.args.laid.now (before c.args.laid.now (acts c.args.laid.now a) c.args.self.now) c.pointer_is.result c.pointer_is.new.self in
    subst P (sym c.in-PointerIs.is) c.pointer_is.ensures.went

pub returns-in-ParameterIs-clause-went : goal.returns-in-ParameterIs-clause-went
returns-in-ParameterIs-clause-went c =
    let P : Act → Type 0 = λ a. Went c.args.laid.now (before c.args.laid.now (acts c.args.laid.now a) c.args.self.now) c.parameter_is.result c.parameter_is.new.self in
    subst P (sym c.in-ParameterIs.is) c.parameter_is.ensures.went

pub returns-in-AsByte-clause-went : goal.returns-in-AsByte-clause-went
returns-in-AsByte-clause-went c =
    let P : Act → Type 0 = λ a. Went c.args.laid.now (before c.args.laid.now (acts c.args.laid.now a) c.args.self.now) c.as_byte.result c.as_byte.new.self in
    subst P (sym c.in-AsByte.is) c.as_byte.ensures.went

pub returns-in-LengthOf-clause-went : goal.returns-in-LengthOf-clause-went
returns-in-LengthOf-clause-went c =
    let P : Act → Type 0 = λ a. Went c.args.laid.now (before c.args.laid.now (acts c.args.laid.now a) c.args.self.now) c.length_of.result c.length_of.new.self in
    subst P (sym c.in-LengthOf.is) c.length_of.ensures.went

pub returns-in-AsSpan-clause-went : goal.returns-in-AsSpan-clause-went
returns-in-AsSpan-clause-went c =
    let P : Act → Type 0 = λ a. Went c.args.laid.now (before c.args.laid.now (acts c.args.laid.now a) c.args.self.now) c.as_span.result c.as_span.new.self in
    subst P (sym c.in-AsSpan.is) c.as_span.ensures.went

pub returns-in-AsPlace-clause-went : goal.returns-in-AsPlace-clause-went
returns-in-AsPlace-clause-went c =
    let P : Act → Type 0 = λ a. Went c.args.laid.now (before c.args.laid.now (acts c.args.laid.now a) c.args.self.now) c.as_place.result c.as_place.new.self in
    subst P (sym c.in-AsPlace.is) c.as_place.ensures.went

pub returns-in-AsRecord-clause-went : goal.returns-in-AsRecord-clause-went
returns-in-AsRecord-clause-went c =
    let P : Act → Type 0 = λ a. Went c.args.laid.now (before c.args.laid.now (acts c.args.laid.now a) c.args.self.now) c.as_record.result c.as_record.new.self in
    subst P (sym c.in-AsRecord.is) c.as_record.ensures.went

pub returns-in-ElementOf-clause-went : goal.returns-in-ElementOf-clause-went
returns-in-ElementOf-clause-went c =
    let P : Act → Type 0 = λ a. Went c.args.laid.now (before c.args.laid.now (acts c.args.laid.now a) c.args.self.now) c.element_of.result c.element_of.new.self in
    subst P (sym c.in-ElementOf.is) c.element_of.ensures.went

pub returns-in-Put-clause-went : goal.returns-in-Put-clause-went
returns-in-Put-clause-went c =
    let P : Act → Type 0 = λ a. Went c.args.laid.now (before c.args.laid.now (acts c.args.laid.now a) c.args.self.now) c.put.result c.put.new.self in
    subst P (sym c.in-Put.is) c.put.ensures.went

pub returns-in-PutFirst-clause-went : goal.returns-in-PutFirst-clause-went
returns-in-PutFirst-clause-went c =
    let P : Act → Type 0 = λ a. Went c.args.laid.now (before c.args.laid.now (acts c.args.laid.now a) c.args.self.now) c.put_first.result c.put_first.new.self in
    subst P (sym c.in-PutFirst.is) c.put_first.ensures.went

pub returns-in-CopyArray-clause-went : goal.returns-in-CopyArray-clause-went
returns-in-CopyArray-clause-went c =
    let P : Act → Type 0 = λ a. Went c.args.laid.now (before c.args.laid.now (acts c.args.laid.now a) c.args.self.now) c.copy_array.result c.copy_array.new.self in
    subst P (sym c.in-CopyArray.is) c.copy_array.ensures.went

pub returns-in-CopyRecord-clause-went : goal.returns-in-CopyRecord-clause-went
returns-in-CopyRecord-clause-went c =
    let P : Act → Type 0 = λ a. Went c.args.laid.now (before c.args.laid.now (acts c.args.laid.now a) c.args.self.now) c.copy_record.result c.copy_record.new.self in
    subst P (sym c.in-CopyRecord.is) c.copy_record.ensures.went

pub returns-in-ChangeNumber-clause-went : goal.returns-in-ChangeNumber-clause-went
returns-in-ChangeNumber-clause-went c =
    let P : Act → Type 0 = λ a. Went c.args.laid.now (before c.args.laid.now (acts c.args.laid.now a) c.args.self.now) c.change_number.result c.change_number.new.self in
    subst P (sym c.in-ChangeNumber.is) c.change_number.ensures.went

pub returns-in-ChangeSet-clause-went : goal.returns-in-ChangeSet-clause-went
returns-in-ChangeSet-clause-went c =
    let P : Act → Type 0 = λ a. Went c.args.laid.now (before c.args.laid.now (acts c.args.laid.now a) c.args.self.now) c.change_set.result c.change_set.new.self in
    subst P (sym c.in-ChangeSet.is) c.change_set.ensures.went

pub returns-in-Make-clause-went : goal.returns-in-Make-clause-went
returns-in-Make-clause-went c =
    let P : Act → Type 0 = λ a. Went c.args.laid.now (before c.args.laid.now (acts c.args.laid.now a) c.args.self.now) c.make.result c.make.new.self in
    subst P (sym c.in-Make.is) c.make.ensures.went

pub returns-in-Assert-clause-went : goal.returns-in-Assert-clause-went
returns-in-Assert-clause-went c =
    let P : Act → Type 0 = λ a. Went c.args.laid.now (before c.args.laid.now (acts c.args.laid.now a) c.args.self.now) c.assert.result c.assert.new.self in
    subst P (sym c.in-Assert.is) c.assert.ensures.went

pub returns-in-OutChar-clause-went : goal.returns-in-OutChar-clause-went
returns-in-OutChar-clause-went c =
    let P : Act → Type 0 = λ a. Went c.args.laid.now (before c.args.laid.now (acts c.args.laid.now a) c.args.self.now) c.out_char.result c.out_char.new.self in
    subst P (sym c.in-OutChar.is) c.out_char.ensures.went

pub returns-in-OutInt-clause-went : goal.returns-in-OutInt-clause-went
returns-in-OutInt-clause-went c =
    let P : Act → Type 0 = λ a. Went c.args.laid.now (before c.args.laid.now (acts c.args.laid.now a) c.args.self.now) c.out_int.result c.out_int.new.self in
    subst P (sym c.in-OutInt.is) c.out_int.ensures.went

pub returns-in-OutString-clause-went : goal.returns-in-OutString-clause-went
returns-in-OutString-clause-went c =
    let P : Act → Type 0 = λ a. Went c.args.laid.now (before c.args.laid.now (acts c.args.laid.now a) c.args.self.now) c.out_string.result c.out_string.new.self in
    subst P (sym c.in-OutString.is) c.out_string.ensures.went

pub out_string-requires : goal.out_string-requires
out_string-requires c =
    let P : Act → Type 0 = λ a. Sensible (before c.args.laid.now (acts c.args.laid.now a) c.args.self.now) in
    record { sensible = subst P c.in-OutString.is c.requires.sensible }

pub returns-in-InChar-clause-went : goal.returns-in-InChar-clause-went
returns-in-InChar-clause-went c =
    let P : Act → Type 0 = λ a. Went c.args.laid.now (before c.args.laid.now (acts c.args.laid.now a) c.args.self.now) c.in_char.result c.in_char.new.self in
    subst P (sym c.in-InChar.is) c.in_char.ensures.went

pub returns-in-Yes-clause-went : goal.returns-in-Yes-clause-went
returns-in-Yes-clause-went c =
    let P : Act → Type 0 = λ a. Went c.args.laid.now (before c.args.laid.now (acts c.args.laid.now a) c.args.self.now) c.yes.result c.yes.new.self in
    subst P (sym c.in-Yes.is) c.yes.ensures.went

pub returns-in-Drop-clause-went : goal.returns-in-Drop-clause-went
returns-in-Drop-clause-went c =
    let P : Act → Type 0 = λ a. Went c.args.laid.now (before c.args.laid.now (acts c.args.laid.now a) c.args.self.now) c.drop_last.result c.drop_last.new.self in
    subst P (sym c.in-Drop.is) c.drop_last.ensures.went

pub returns-in-Invoke-clause-went : goal.returns-in-Invoke-clause-went
returns-in-Invoke-clause-went c =
    let P : Act → Type 0 = λ a. Went c.args.laid.now (before c.args.laid.now (acts c.args.laid.now a) c.args.self.now) c.invoke.result c.invoke.new.self in
    subst P (sym c.in-Invoke.is) c.invoke.ensures.went

pub returns-in-InvokeValue-clause-went : goal.returns-in-InvokeValue-clause-went
returns-in-InvokeValue-clause-went c =
    let P : Act → Type 0 = λ a. Went c.args.laid.now (before c.args.laid.now (acts c.args.laid.now a) c.args.self.now) c.invoke_value.result c.invoke_value.new.self in
    subst P (sym c.in-InvokeValue.is) c.invoke_value.ensures.went
