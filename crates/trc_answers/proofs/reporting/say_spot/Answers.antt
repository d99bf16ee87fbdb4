use Rattle.std.proofs.Common.{codes, ◌++◌, ap, subst, ◌∙◌}
use Rattle.outside.specs.Sink.{TookAll}
use Rattle.out_text.specs.Text.{shortest_text}
use Rattle.trc_answers.specs.Causes.{line}
use Rattle.trc_answers.proofs.Lines.{on_ok, two_parts}
use Rattle.trc_answers.proofs.reporting.say_spot.Goals as goal

pub returns-clause-all : goal.returns-clause-all
returns-clause-all g c =
    on_ok c.say.result (λ rest.
    two_parts _ _ _ (codes " in module ") (shortest_text c.args.spot.«module») (line (codes " line ") (shortest_text c.args.spot.line))
    (subst (λ n. TookAll (g.E.Sink.account c.args.err.now) (g.E.Sink.account c.put_number.new.err) (codes " in module " ++ shortest_text n)) c.from.ensures c.in_ok-put_number.ensures.all)
    (subst (λ r. TookAll (g.E.Sink.account c.put_number.new.err) (g.E.Sink.account c.say.new.err) (line (codes " line ") r)) (c.as_slice.ensures ∙ c.decimal.ensures ∙ ap shortest_text c.from-2.ensures) rest))
    c.say.ensures.all
