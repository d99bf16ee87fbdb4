use Rattle.std.proofs.Common.{codes, Some, ◌++◌, sym, subst}
use Rattle.outside.specs.Sink.{TookAll}
use Rattle.out_text.specs.Text.{shortest_text}
use Rattle.trc_answers.specs.Causes.{spot_line}
use Rattle.trc_answers.proofs.Lines.{on_ok, two_parts}
use Rattle.trc_answers.proofs.reporting.say_trap.Goals as goal

pub returns-in-Some-clause-all : goal.returns-in-Some-clause-all
returns-in-Some-clause-all g c =
    on_ok c.say_spot.result (λ rest.
    two_parts _ _ _ (codes "trc: trap ") (shortest_text c.args.kind) (spot_line c.args.spot)
    (subst (λ n. TookAll (g.E.Sink.account c.args.err.now) (g.E.Sink.account c.put_number.new.err) (codes "trc: trap " ++ shortest_text n)) c.from.ensures c.in_ok-put_number.ensures.all)
    (subst (λ s. TookAll (g.E.Sink.account c.put_number.new.err) (g.E.Sink.account c.say_spot.new.err) (spot_line s)) (sym c.in-Some.is) rest))
    c.say_spot.ensures.all
