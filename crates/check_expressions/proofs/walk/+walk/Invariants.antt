use Rattle.std.proofs.Common.{List, drop}
use Rattle.ob_syntax.specs.Plain.{plain_each_added, plain_each_multiplied, plain_each_selector, plain_each_expression}
use Rattle.ob_judge.specs.Image.{Expr}
use Rattle.ob_judge.specs.Scopes.{place}
use Rattle.ob_judge.specs.Operands.{Operand}
use Rattle.ob_judge.specs.Names.{Stage}
use Rattle.ob_judge.specs.Calls as J
use Rattle.ob_judge.specs.Expressions.{added, multiplied, with_elements, selected, indexed_more}
use Rattle.check_operands.specs.symbols.Parts.{plain_each_element}
use Rattle.check_types.specs.names.Worlds.{world_of}
use Rattle.check_operands.specs.Operands.{Stands}
use Rattle.check_operands.specs.calls.Given.{IsGiven}
use Rattle.check_selectors.specs.parts.Parts.{IsPart}
use Rattle.check_selectors.specs.Stages.{IsStage}
use Rattle.check_expressions.specs.Steps.{IsValue, AreGivenIn, arguments_from}
use Rattle.check_expressions.proofs.Walking.{Walking}
use Rattle.check_expressions.proofs.Parts.{given_with}
use Rattle.check_expressions.proofs.walk.+walk.Given as goal

abbrev pub invariant-added-loop-next : goal.invariant-added-loop-next
invariant-added-loop-next l = (a : Operand) → Stands l.scope l.fn.first a →
    Walking (Stands l.scope) (λ b xs. added l.scope.source.now (world_of l.scope) b (plain_each_added xs)) (added l.scope.source.now (world_of l.scope) a (plain_each_added l.more)) l.x (drop l.next-index l.more)

abbrev pub invariant-multiplied-loop-next : goal.invariant-multiplied-loop-next
invariant-multiplied-loop-next l = (a : Operand) → Stands l.scope l.fn.first a →
    Walking (Stands l.scope) (λ b xs. multiplied l.scope.source.now (world_of l.scope) b (plain_each_multiplied xs)) (multiplied l.scope.source.now (world_of l.scope) a (plain_each_multiplied l.more)) l.x (drop l.next-index l.more)

abbrev pub invariant-elements_in-loop-next : goal.invariant-elements_in-loop-next
invariant-elements_in-loop-next l = (a : Expr) → IsValue l.scope l.fn.first a →
    Walking (IsValue l.scope) (λ b xs. with_elements l.scope.source.now (world_of l.scope) b (plain_each_element xs)) (with_elements l.scope.source.now (world_of l.scope) a (plain_each_element l.more)) l.set (drop l.next-index l.more)

abbrev pub invariant-selected-loop-next : goal.invariant-selected-loop-next
invariant-selected-loop-next l = (a : Stage) → IsStage l.scope l.fn.first a →
    Walking (IsStage l.scope) (λ b xs. selected l.scope.source.now (world_of l.scope) (place l.scope.source.now l.symbol) b (plain_each_selector xs)) (selected l.scope.source.now (world_of l.scope) (place l.scope.source.now l.symbol) a (plain_each_selector l.selectors)) l.stage (drop l.next-index l.selectors)

abbrev pub invariant-indexed-loop-next : goal.invariant-indexed-loop-next
invariant-indexed-loop-next l = (a : Operand) → IsPart l.scope l.fn.first a →
    Walking (IsPart l.scope) (λ b xs. indexed_more l.scope.source.now (world_of l.scope) (place l.scope.source.now l.symbol) b (plain_each_expression xs)) (indexed_more l.scope.source.now (world_of l.scope) (place l.scope.source.now l.symbol) a (plain_each_expression l.more)) l.x (drop l.next-index l.more)

abbrev pub invariant-arguments-loop-next : goal.invariant-arguments-loop-next
invariant-arguments-loop-next l = (a : J.Given) → IsGiven l.scope l.fn.first a →
    Walking (AreGivenIn l.scope) (given_with l.scope.source.now (world_of l.scope)) (arguments_from l.scope.source.now (world_of l.scope) a (plain_each_expression l.more)) l.all (drop l.next-index l.more)
