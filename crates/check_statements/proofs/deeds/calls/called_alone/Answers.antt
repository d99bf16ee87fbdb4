use Rattle.std.proofs.Common.{List, [], option_map, ap, sym, ◌∙◌, subst}
use Rattle.ob_syntax.specs.Plain.{plain_designator}
use Rattle.ob_judge.specs.Scopes.{place}
use Rattle.ob_judge.specs.Expressions.{designator}
use Rattle.check_types.proofs.steps.Answering.{as_judged}
use Rattle.check_types.specs.names.Meaning.{standard_of}
use Rattle.check_types.specs.names.Worlds.{world_of}
use Rattle.check_operands.specs.declared.calls.arguments.Given.{Given}
use Rattle.check_operands.specs.calls.Given.{AreGiven}
use Rattle.check_statements.proofs.deeds.Deeds.{standard_is}
use Rattle.check_statements.proofs.deeds.calls.called_alone.Goals as goal

pub returns-in-Some : goal.returns-in-Some
returns-in-Some c = λ o h. let s = c.args.scope.now in
    as_judged (standard_is s.source.now (world_of s) (place s.source.now c.args.tree.now.name) o (standard_of c.in-Some.s) (designator s.source.now (world_of s) (plain_designator c.args.tree.now)) (h ∙ ap (option_map standard_of) c.in-Some.is))
    (c.standard.ensures [] (subst (λ (xs : List Given). AreGiven s xs []) (sym c.new.ensures.items) tt))
