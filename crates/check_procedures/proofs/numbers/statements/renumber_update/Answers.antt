use Rattle.std.proofs.Common.{sym, ap₂}
use Rattle.ob_types.specs.declared.tree.Designator.{Designator}
use Rattle.ob_types.specs.declared.statements.Checked.{Checked}
use Rattle.check_procedures.specs.numbers.Numbering.{numbering_of}
use Rattle.check_procedures.specs.numbers.Readings.{pair, designators, checked, statements}
use Rattle.check_procedures.proofs.numbers.Keeping.{at}
use Rattle.check_procedures.proofs.numbers.StatementParts.{assign, increase, decrease, include, exclude, copy_array, copy_record}
use Rattle.check_procedures.proofs.numbers.statements.renumber_update.Goals as goal

pub returns-in_ok-renumber_change-in-Assign : goal.returns-in_ok-renumber_change-in-Assign
returns-in_ok-renumber_change-in-Assign c = λ _.
    at (numbering_of c.args.scope.now) statements _ _ _ _ _ c.in-Assign.is (assign (numbering_of c.args.scope.now) c.in-Assign.d c.renumber_change.new.d c.in-Assign.x c.renumber_change.new.x _ _
    (at (numbering_of c.args.scope.now) (pair designators checked) _ _ _ _ _ (ap₂ (λ (u : Designator) (w : Checked). (u, w)) (sym c.in-Assign.d-is) (sym c.in-Assign.x-is)) c.in_ok-renumber_change-in-Assign.ensures))

pub returns-in_ok-renumber_change-in-Increase : goal.returns-in_ok-renumber_change-in-Increase
returns-in_ok-renumber_change-in-Increase c = λ _.
    at (numbering_of c.args.scope.now) statements _ _ _ _ _ c.in-Increase.is (increase (numbering_of c.args.scope.now) c.in-Increase.d c.renumber_change-in-Increase.new.d c.in-Increase.x c.renumber_change-in-Increase.new.x _ _
    (at (numbering_of c.args.scope.now) (pair designators checked) _ _ _ _ _ (ap₂ (λ (u : Designator) (w : Checked). (u, w)) (sym c.in-Increase.d-is) (sym c.in-Increase.x-is)) c.in_ok-renumber_change-in-Increase.ensures))

pub returns-in_ok-renumber_change-in-Decrease : goal.returns-in_ok-renumber_change-in-Decrease
returns-in_ok-renumber_change-in-Decrease c = λ _.
    at (numbering_of c.args.scope.now) statements _ _ _ _ _ c.in-Decrease.is (decrease (numbering_of c.args.scope.now) c.in-Decrease.d c.renumber_change-in-Decrease.new.d c.in-Decrease.x c.renumber_change-in-Decrease.new.x _ _
    (at (numbering_of c.args.scope.now) (pair designators checked) _ _ _ _ _ (ap₂ (λ (u : Designator) (w : Checked). (u, w)) (sym c.in-Decrease.d-is) (sym c.in-Decrease.x-is)) c.in_ok-renumber_change-in-Decrease.ensures))

pub returns-in_ok-renumber_change-in-Include : goal.returns-in_ok-renumber_change-in-Include
returns-in_ok-renumber_change-in-Include c = λ _.
    at (numbering_of c.args.scope.now) statements _ _ _ _ _ c.in-Include.is (include (numbering_of c.args.scope.now) c.in-Include.d c.renumber_change-in-Include.new.d c.in-Include.x c.renumber_change-in-Include.new.x _ _
    (at (numbering_of c.args.scope.now) (pair designators checked) _ _ _ _ _ (ap₂ (λ (u : Designator) (w : Checked). (u, w)) (sym c.in-Include.d-is) (sym c.in-Include.x-is)) c.in_ok-renumber_change-in-Include.ensures))

pub returns-in_ok-renumber_change-in-Exclude : goal.returns-in_ok-renumber_change-in-Exclude
returns-in_ok-renumber_change-in-Exclude c = λ _.
    at (numbering_of c.args.scope.now) statements _ _ _ _ _ c.in-Exclude.is (exclude (numbering_of c.args.scope.now) c.in-Exclude.d c.renumber_change-in-Exclude.new.d c.in-Exclude.x c.renumber_change-in-Exclude.new.x _ _
    (at (numbering_of c.args.scope.now) (pair designators checked) _ _ _ _ _ (ap₂ (λ (u : Designator) (w : Checked). (u, w)) (sym c.in-Exclude.d-is) (sym c.in-Exclude.x-is)) c.in_ok-renumber_change-in-Exclude.ensures))

pub returns-in_ok-renumber_copy-in-CopyArray : goal.returns-in_ok-renumber_copy-in-CopyArray
returns-in_ok-renumber_copy-in-CopyArray c = λ _.
    at (numbering_of c.args.scope.now) statements _ _ _ _ _ c.in-CopyArray.is (copy_array (numbering_of c.args.scope.now) c.in-CopyArray.to c.in-CopyArray.from c.renumber_copy.new.to c.renumber_copy.new.from _ _
    (at (numbering_of c.args.scope.now) (pair designators designators) _ _ _ _ _ (ap₂ (λ (u : Designator) (w : Designator). (u, w)) (sym c.in-CopyArray.to-is) (sym c.in-CopyArray.from-is)) c.in_ok-renumber_copy-in-CopyArray.ensures))

pub returns-in_ok-renumber_copy-in-CopyRecord : goal.returns-in_ok-renumber_copy-in-CopyRecord
returns-in_ok-renumber_copy-in-CopyRecord c = λ _.
    at (numbering_of c.args.scope.now) statements _ _ _ _ _ c.in-CopyRecord.is (copy_record (numbering_of c.args.scope.now) c.in-CopyRecord.to c.in-CopyRecord.from c.renumber_copy-in-CopyRecord.new.to c.renumber_copy-in-CopyRecord.new.from _ _
    (at (numbering_of c.args.scope.now) (pair designators designators) _ _ _ _ _ (ap₂ (λ (u : Designator) (w : Designator). (u, w)) (sym c.in-CopyRecord.to-is) (sym c.in-CopyRecord.from-is)) c.in_ok-renumber_copy-in-CopyRecord.ensures))
