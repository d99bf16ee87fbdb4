use Rattle.std.proofs.Common.{ap, ◌∙◌}
use Rattle.ob_syntax.specs.Plain.{plain_option, plain_returned}
use Rattle.ob_judge.specs.Declarations.{answer}
use Rattle.check_types.proofs.steps.Answering.{goes_on, stop, exit, as_judged}
use Rattle.check_types.specs.TypeMeaning.{type_shape}
use Rattle.check_types.specs.names.Worlds.{table_of, world_of}
use Rattle.check_statements.proofs.assignments.Assigning.{answer_is}
use Rattle.check_statements.proofs.assignments.guards.answer.Goals as goal

pub returns-in_err-value-in-Some : goal.returns-in_err-value-in-Some
returns-in_err-value-in-Some c = let s = c.args.scope.now in exit _ c.from_residual.ensures.1 (as_judged (ap (λ o. answer s.source.now (type_shape (table_of s) c.args.to) c.args.end_word (plain_option plain_returned o) (world_of s)) c.in-Some.is ∙ answer_is s.source.now (world_of s) (type_shape (table_of s) c.args.to) c.args.end_word c.in-Some.tree)
    (stop _ _ c.in_err-value-in-Some.ensures))

pub returns-in_ok-value-in-Some : goal.returns-in_ok-value-in-Some
returns-in_ok-value-in-Some c = let s = c.args.scope.now in as_judged (ap (λ o. answer s.source.now (type_shape (table_of s) c.args.to) c.args.end_word (plain_option plain_returned o) (world_of s)) c.in-Some.is ∙ answer_is s.source.now (world_of s) (type_shape (table_of s) c.args.to) c.args.end_word c.in-Some.tree)
    (goes_on _ _ c.in_ok-value-in-Some.ensures (λ v h. record { by = ap (λ z. Rattle.std.proofs.Common.Some z) h }))
