use Rattle.std.proofs.Common.{subst}
use Rattle.ob_types.specs.Meaning.{meaning}
use Rattle.outside.specs.Sink.{TookAll, TookFront}
use Rattle.ob_eval.specs.Evaluated.{Evaluated}
use Rattle.meaning_commands.specs.Meanings.{RanIntoFault, RanOutOfMemory}
use Rattle.meaning_commands.proofs.Meant.{ended, spent, trapped}
use Rattle.meaning_commands.proofs.meaning.mean_on.Goals as goal

pub returns-in-Ended-clause-answers : goal.returns-in-Ended-clause-answers
returns-in-Ended-clause-answers g c =
    let p = c.args.program.now in
    let outcome = meaning p c.args.input.now c.args.turns in
    let a = g.O.Sink.account c.args.out.now in
    let b = g.O.Sink.account c.eval.new.out in
    ended p outcome a b (subst (λ r. Evaluated r outcome (TookAll a b) (TookFront a b)) c.in-Ended.is c.eval.ensures.told)

pub returns-in-Trapped-clause-answers : goal.returns-in-Trapped-clause-answers
returns-in-Trapped-clause-answers g c =
    let p = c.args.program.now in
    let outcome = meaning p c.args.input.now c.args.turns in
    let a = g.O.Sink.account c.args.out.now in
    let b = g.O.Sink.account c.eval.new.out in
    trapped p outcome a b c.in-Trapped.kind c.in-Trapped.procedure c.spot_in.result c.spot_in.ensures (subst (λ r. Evaluated r outcome (TookAll a b) (TookFront a b)) c.in-Trapped.is c.eval.ensures.told)

pub returns-in-Going-clause-answers : goal.returns-in-Going-clause-answers
returns-in-Going-clause-answers g c =
    let p = c.args.program.now in
    let outcome = meaning p c.args.input.now c.args.turns in
    let a = g.O.Sink.account c.args.out.now in
    let b = g.O.Sink.account c.eval.new.out in
    spent p outcome a b (subst (λ r. Evaluated r outcome (TookAll a b) (TookFront a b)) c.in-Going.is c.eval.ensures.told)
