use Rattle.std.proofs.Common.{ap, sym, ◌∙◌}
use Rattle.ob_syntax.specs.Plain.{plain_designator, plain_each_selector}
use Rattle.ob_judge.specs.Expressions.{designator}
use Rattle.ob_judge.specs.Assignments.{whole_object}
use Rattle.check_types.proofs.steps.Answering.{goes_on, stop, exit, as_judged}
use Rattle.check_types.specs.names.Meaning.{object_of}
use Rattle.check_types.specs.names.Worlds.{table_of, strings_of, world_of}
use Rattle.check_statements.proofs.assignments.assigned.destination.Goals as goal

pub returns-in_err-named : goal.returns-in_err-named
returns-in_err-named c = exit _ c.from_residual.ensures.1 (stop _ _ c.in_err-named.ensures)

pub returns-in-Some : goal.returns-in-Some
returns-in-Some c = let s = c.args.scope.now in let other = designator s.source.now (world_of s) (plain_designator c.args.tree.now) in
    goes_on _ _ c.in_ok-named.ensures (λ o h. as_judged (ap (λ z. whole_object (world_of s) z (plain_each_selector c.args.tree.now.selectors.items) other) (sym h)
    ∙ ap (λ ss. whole_object (world_of s) (object_of (table_of s) (strings_of s) c.in_ok-named.named) (plain_each_selector ss) other) (sym c.deref.ensures.value)
    ∙ c.in-Some.ensures (table_of s) (strings_of s) (world_of s) other) (record { by = c.whole_operand.ensures }))

pub returns-in-None : goal.returns-in-None
returns-in-None c = let s = c.args.scope.now in let other = designator s.source.now (world_of s) (plain_designator c.args.tree.now) in
    goes_on _ _ c.in_ok-named.ensures (λ o h. as_judged (ap (λ z. whole_object (world_of s) z (plain_each_selector c.args.tree.now.selectors.items) other) (sym h)
    ∙ ap (λ ss. whole_object (world_of s) (object_of (table_of s) (strings_of s) c.in_ok-named.named) (plain_each_selector ss) other) (sym c.deref.ensures.value)
    ∙ c.in-None.ensures (table_of s) (strings_of s) (world_of s) other) c.designator.ensures)
