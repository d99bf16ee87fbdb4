use Rattle.std.proofs.Common.{codes, subst}
use Rattle.std.specs.Prelude.{OnOk}
use Rattle.outside.specs.Sink.{TookAll}
use Rattle.trc_answers.specs.Causes.{line}
use Rattle.trc_answers.proofs.reporting.say_undefined.Goals as goal

pub returns-clause-all : goal.returns-clause-all
returns-clause-all g c =
    subst (λ digits. OnOk c.say.result (TookAll (g.E.Sink.account c.args.err.now) (g.E.Sink.account c.say.new.err) (line (codes "trc: undefined word ") digits)))
    c.put_hex.ensures c.say.ensures.all
