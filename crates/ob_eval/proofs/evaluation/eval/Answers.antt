use Rattle.std.proofs.Common.{subst, arith}
use Rattle.run_laws.specs.Runs.{Outcome, output}
use Rattle.ob_types.specs.Store.{Trap}
use Rattle.ob_types.specs.Meaning.{meaning}
use Rattle.outside.specs.Sink.{TookAll, TookFront}
use Rattle.ob_eval.specs.Evaluated.{Evaluated}
use Rattle.ob_eval.specs.Steps.{left}
use Rattle.ob_eval.proofs.Pieces.{nothing_taken}
use Rattle.ob_eval.proofs.Whole.{measured, means, sensible}
use Rattle.ob_eval.proofs.evaluation.eval.Goals as goal

pub new-requires : goal.new-requires
new-requires g c = measured c.args.program.now c.requires

pub run-requires : goal.run-requires
run-requires g c = record { sensible = sensible c.args.program.now c.in-Ok.laid c.args.input.now c.args.turns (left c.in-Ok.laid c.in-Ok-started.machine) c.in-Ok.ensures c.in-Ok-started.ensures c.requires (λ k. omega (arith, c.type_inv.input k)) }

pub returns-clause-told : goal.returns-clause-told
returns-clause-told g c =
    let A = g.O.Sink.account c.args.out.now in
    let B = g.O.Sink.account c.run.new.out in
    let E : Outcome Trap → Type 0 = λ o. Evaluated c.run.result o (TookAll A B) (TookFront A B) in
    subst E (means c.args.program.now c.in-Ok.laid c.args.input.now c.args.turns (left c.in-Ok.laid c.in-Ok-started.machine) c.in-Ok.ensures c.in-Ok-started.ensures) c.run.ensures.told

pub returns-in-Err-clause-told : goal.returns-in-Err-clause-told
returns-in-Err-clause-told g c = nothing_taken (g.O.Sink.account c.args.out.now) (output (meaning c.args.program.now c.args.input.now c.args.turns))

pub returns-in_default-clause-told : goal.returns-in_default-clause-told
returns-in_default-clause-told g c = nothing_taken (g.O.Sink.account c.args.out.now) (output (meaning c.args.program.now c.args.input.now c.args.turns))
