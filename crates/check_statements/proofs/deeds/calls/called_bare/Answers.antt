use Rattle.std.proofs.Common.{List, [], ap, sym, ◌∙◌, subst}
use Rattle.std.specs.Prelude.{if◌then◌else◌}
use Rattle.ob_judge.specs.Judged.{Keeps}
use Rattle.ob_judge.specs.Scopes.{place}
use Rattle.ob_judge.specs.Calls.{called}
use Rattle.ob_judge.specs.Assignments.{called_bare}
use Rattle.check_types.proofs.steps.Answering.{as_judged}
use Rattle.check_types.specs.TypeMeaning.{type_shape, formals_of, result_of}
use Rattle.check_types.specs.names.Worlds.{table_of, world_of}
use Rattle.check_operands.specs.declared.calls.arguments.Given.{Given}
use Rattle.check_operands.specs.calls.Given.{AreGiven}
use Rattle.check_statements.proofs.deeds.calls.called_bare.Goals as goal

pub returns-else-is_call : goal.returns-else-is_call
returns-else-is_call c = λ a h. let s = c.args.scope.now in
    as_judged (ap (called_bare (world_of s) (place s.source.now c.args.symbol) a) (sym h.shape ∙ ap (type_shape (table_of s)) c.in-Procedure.is)
    ∙ ap (λ b. if b then Keeps a else called (world_of s) (place s.source.now c.args.symbol) a (formals_of (table_of s) c.in-Procedure.signature) (result_of (table_of s) c.in-Procedure.signature) []) (c.is_call.ensures a.what h.what ∙ c.if-is_call.false))
    (c.called.ensures a [] h (subst (λ (xs : List Given). AreGiven s xs []) (sym c.new.ensures.items) tt))
