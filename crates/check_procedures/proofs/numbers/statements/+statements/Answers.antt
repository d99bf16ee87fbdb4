use Rattle.std.proofs.Common.{◌<◌, ◌≤◌, length, Vec, Global, refl, sym, ap, arith, rules}
use Rattle.std.specs.Box.{with_value}
use Rattle.ob_types.specs.declared.statements.Branch.{Branch}
use Rattle.ob_types.specs.declared.statements.CasePart.{CasePart}
use Rattle.ob_types.specs.declared.statements.TypePart.{TypePart}
use Rattle.ob_types.specs.declared.statements.Stmt.{Stmt}
use Rattle.ob_types.specs.declared.statements.Stmt.TheVariants as TheStmt
use Rattle.ob_types.specs.declared.statements.Stmt as Z
use Rattle.check_procedures.specs.numbers.Numbering.{numbering_of}
use Rattle.check_procedures.specs.numbers.Readings.{each, designators, checked, statements, bodies, loops, branches, case_parts, type_parts}
use Rattle.check_procedures.proofs.numbers.Keeping.{at, next_turn, all_items, made_so}
use Rattle.check_procedures.proofs.numbers.StatementParts.{body, branch, if_holds, while_holds, repeat_until, loop_turns, for_turns, case_value, case_pointer, case_parameter}
use Rattle.check_procedures.proofs.numbers.statements.+statements.Goals as goal

pub renumber_compound-returns-in_ok-renumber_statements-in-If : goal.renumber_compound-returns-in_ok-renumber_statements-in-If
renumber_compound-returns-in_ok-renumber_statements-in-If t c = λ _.
    at (numbering_of c.args.scope.now) statements _ _ _ _ _ c.in-If.is (if_holds (numbering_of c.args.scope.now) c.in-If.list c.renumber_branches.new.list c.in-If.otherwise c.renumber_statements.new.list _ _ _
    (at (numbering_of c.args.scope.now) (each branches) _ _ _ _ _ (sym (ap (λ (v : Vec Branch Global). v.items) c.in-If.list-is)) c.in_ok-renumber_branches-in-If.ensures)
    (at (numbering_of c.args.scope.now) bodies _ _ _ _ _ (sym (ap (λ (v : Vec Stmt Global). v.items) c.in-If.otherwise-is)) c.in_ok-renumber_statements-in-If.ensures))

pub renumber_compound-returns-in_ok-renumber_branches-in-While : goal.renumber_compound-returns-in_ok-renumber_branches-in-While
unfolding Z.out-Stmt denote.Hole.Carrier.out
renumber_compound-returns-in_ok-renumber_branches-in-While t c = λ _.
    let made = TheStmt.While c.renumber_branches-in-While.new.list in
    made_so (numbering_of c.args.scope.now) statements c.args.statement.now _ made c.args.uses.now c.renumber_branches-in-While.new.uses
    (at (numbering_of c.args.scope.now) statements c.args.statement.now (TheStmt.While c.in-While.list) made c.args.uses.now c.renumber_branches-in-While.new.uses c.in-While.is
    (while_holds (numbering_of c.args.scope.now) c.in-While.list c.renumber_branches-in-While.new.list _ _
    (at (numbering_of c.args.scope.now) (each branches) c.in-While.list.items _ _ _ _ (search rules) c.in_ok-renumber_branches-in-While.ensures)))
    (rw c.in-While.is)

pub renumber_compound-returns-in_ok-renumber_checked-in-Repeat : goal.renumber_compound-returns-in_ok-renumber_checked-in-Repeat
renumber_compound-returns-in_ok-renumber_checked-in-Repeat t c = λ _.
    at (numbering_of c.args.scope.now) statements _ _ _ _ _ c.in-Repeat.is (repeat_until (numbering_of c.args.scope.now) c.in-Repeat.body c.renumber_statements-in-Repeat.new.list c.in-Repeat.x c.renumber_checked.new.x _ _ _
    (at (numbering_of c.args.scope.now) bodies _ _ _ _ _ (sym (ap (λ (v : Vec Stmt Global). v.items) c.in-Repeat.body-is)) c.in_ok-renumber_statements-in-Repeat.ensures)
    (at (numbering_of c.args.scope.now) checked _ _ _ _ _ (sym c.in-Repeat.x-is) c.in_ok-renumber_checked-in-Repeat.ensures))

pub renumber_compound-returns-in_ok-renumber_loop-in-For : goal.renumber_compound-returns-in_ok-renumber_loop-in-For
unfolding Z.out-Stmt denote.Hole.Carrier.out
renumber_compound-returns-in_ok-renumber_loop-in-For t c = λ _.
    let made = TheStmt.For (with_value c.in-For.for_loop c.renumber_loop.new.for_loop) in
    made_so (numbering_of c.args.scope.now) statements c.args.statement.now _ made c.args.uses.now c.renumber_loop.new.uses
    (at (numbering_of c.args.scope.now) statements c.args.statement.now (TheStmt.For c.in-For.for_loop) made c.args.uses.now c.renumber_loop.new.uses c.in-For.is
    (for_turns (numbering_of c.args.scope.now) c.in-For.for_loop (with_value c.in-For.for_loop c.renumber_loop.new.for_loop) _ _
    (at (numbering_of c.args.scope.now) loops c.in-For.for_loop.value _ _ _ _ (search rules) c.in_ok-renumber_loop-in-For.ensures)))
    (rw c.in-For.is)

pub renumber_compound-returns-in_ok-renumber_case_parts-in-Case : goal.renumber_compound-returns-in_ok-renumber_case_parts-in-Case
renumber_compound-returns-in_ok-renumber_case_parts-in-Case t c = λ _.
    at (numbering_of c.args.scope.now) statements _ _ _ _ _ c.in-Case.is (case_value (numbering_of c.args.scope.now) c.in-Case.x c.renumber_checked-in-Case.new.x c.in-Case.list c.renumber_case_parts.new.list _ _ _
    (at (numbering_of c.args.scope.now) checked _ _ _ _ _ (sym c.in-Case.x-is) c.in_ok-renumber_checked-in-Case.ensures)
    (at (numbering_of c.args.scope.now) (each case_parts) _ _ _ _ _ (sym (ap (λ (v : Vec CasePart Global). v.items) c.in-Case.list-is)) c.in_ok-renumber_case_parts-in-Case.ensures))

pub renumber_compound-returns-in_ok-renumber_type_parts-in-CasePointer : goal.renumber_compound-returns-in_ok-renumber_type_parts-in-CasePointer
renumber_compound-returns-in_ok-renumber_type_parts-in-CasePointer t c = λ _.
    at (numbering_of c.args.scope.now) statements _ _ _ _ _ c.in-CasePointer.is (case_pointer (numbering_of c.args.scope.now) c.in-CasePointer.x c.renumber_checked-in-CasePointer.new.x c.in-CasePointer.list c.renumber_type_parts.new.list _ _ _
    (at (numbering_of c.args.scope.now) checked _ _ _ _ _ (sym c.in-CasePointer.x-is) c.in_ok-renumber_checked-in-CasePointer.ensures)
    (at (numbering_of c.args.scope.now) (each type_parts) _ _ _ _ _ (sym (ap (λ (v : Vec TypePart Global). v.items) c.in-CasePointer.list-is)) c.in_ok-renumber_type_parts-in-CasePointer.ensures))

pub renumber_compound-returns-in_ok-renumber_type_parts-in-CaseParameter : goal.renumber_compound-returns-in_ok-renumber_type_parts-in-CaseParameter
renumber_compound-returns-in_ok-renumber_type_parts-in-CaseParameter t c = λ _.
    at (numbering_of c.args.scope.now) statements _ _ _ _ _ c.in-CaseParameter.is (case_parameter (numbering_of c.args.scope.now) c.in-CaseParameter.d c.renumber_designator.new.d c.in-CaseParameter.list c.renumber_type_parts-in-CaseParameter.new.list _ _ _
    (at (numbering_of c.args.scope.now) designators _ _ _ _ _ (sym c.in-CaseParameter.d-is) c.in_ok-renumber_designator-in-CaseParameter.ensures)
    (at (numbering_of c.args.scope.now) (each type_parts) _ _ _ _ _ (sym (ap (λ (v : Vec TypePart Global). v.items) c.in-CaseParameter.list-is)) c.in_ok-renumber_type_parts-in-CaseParameter.ensures))

pub renumber_statements-loop-i-preserved : goal.renumber_statements-loop-i-preserved
renumber_statements-loop-i-preserved t c =
    let long = c.loop-i.invariant.0.0 in
    let inside : c.loop-i.i < length c.args.list.now.items = omega (arith, long, c.args.list.now.ok.0) in
    next_turn (numbering_of c.args.scope.now) statements c.args.list.now.items c.loop-i.list.items c.loop-i.i c.index_mut.result.now c.renumber_statement.new.statement c.args.uses.now c.loop-i.uses c.renumber_statement.new.uses
    long c.loop-i.invariant.0.1 inside c.index_mut.ensures.value c.loop-i.invariant.1 c.in_ok-renumber_statement.ensures

pub renumber_branches-loop-i-preserved : goal.renumber_branches-loop-i-preserved
renumber_branches-loop-i-preserved t c =
    let long = c.loop-i.invariant.0.0 in
    let inside : c.loop-i.i < length c.args.list.now.items = omega (arith, long, c.args.list.now.ok.0) in
    next_turn (numbering_of c.args.scope.now) branches c.args.list.now.items c.loop-i.list.items c.loop-i.i c.index_mut.result.now c.renumber_branch.new.branch c.args.uses.now c.loop-i.uses c.renumber_branch.new.uses
    long c.loop-i.invariant.0.1 inside c.index_mut.ensures.value c.loop-i.invariant.1 c.in_ok-renumber_branch.ensures

pub renumber_case_parts-loop-i-preserved : goal.renumber_case_parts-loop-i-preserved
renumber_case_parts-loop-i-preserved t c =
    let long = c.loop-i.invariant.0.0 in
    let inside : c.loop-i.i < length c.args.list.now.items = omega (arith, long, c.args.list.now.ok.0) in
    next_turn (numbering_of c.args.scope.now) case_parts c.args.list.now.items c.loop-i.list.items c.loop-i.i c.index_mut.result.now c.renumber_case_part.new.part c.args.uses.now c.loop-i.uses c.renumber_case_part.new.uses
    long c.loop-i.invariant.0.1 inside c.index_mut.ensures.value c.loop-i.invariant.1 c.in_ok-renumber_case_part.ensures

pub renumber_type_parts-loop-i-preserved : goal.renumber_type_parts-loop-i-preserved
renumber_type_parts-loop-i-preserved t c =
    let long = c.loop-i.invariant.0.0 in
    let inside : c.loop-i.i < length c.args.list.now.items = omega (arith, long, c.args.list.now.ok.0) in
    next_turn (numbering_of c.args.scope.now) type_parts c.args.list.now.items c.loop-i.list.items c.loop-i.i c.index_mut.result.now c.renumber_type_part.new.part c.args.uses.now c.loop-i.uses c.renumber_type_part.new.uses
    long c.loop-i.invariant.0.1 inside c.index_mut.ensures.value c.loop-i.invariant.1 c.in_ok-renumber_type_part.ensures

pub renumber_statements-returns : goal.renumber_statements-returns
renumber_statements-returns t c =
    let long = c.loop-i.invariant.0.0 in
    let done : length c.args.list.now.items ≤ c.loop-i.i = omega (arith, long, c.args.list.now.ok.0) in
    body (numbering_of c.args.scope.now) _ _ _ _ (all_items (numbering_of c.args.scope.now) statements c.args.list.now.items c.loop-i.list.items c.loop-i.i _ _ done (omega (arith, long, done)) c.loop-i.invariant.1)

pub renumber_loop-returns : goal.renumber_loop-returns
renumber_loop-returns t c = loop_turns (numbering_of c.args.scope.now) c.args.for_loop.now _ _ _ _ refl c.in_ok-renumber_head.ensures c.in_ok-renumber_statements.ensures

pub renumber_branch-returns : goal.renumber_branch-returns
renumber_branch-returns t c = branch (numbering_of c.args.scope.now) c.args.branch.now _ _ _ _ c.in_ok-renumber_checked.ensures c.in_ok-renumber_statements.ensures
