use Rattle.std.proofs.Common.{codes, ◌++◌, ap, subst, ◌∙◌}
use Rattle.outside.specs.Sink.{TookAll}
use Rattle.out_text.specs.Text.{shortest_text}
use Rattle.trc_answers.specs.Causes.{line}
use Rattle.trc_answers.proofs.Lines.{image_parts}
use Rattle.trc_answers.proofs.reporting.say_no_object.Goals as goal

pub returns-clause-all : goal.returns-clause-all
returns-clause-all g c =
    image_parts _ _ _ (codes "trc: not an object: ") (shortest_text c.args.number) (codes " at ") (shortest_text c.args.at)
    (subst (λ n. TookAll (g.E.Sink.account c.args.err.now) (g.E.Sink.account c.put_number.new.err) (codes "trc: not an object: " ++ shortest_text n)) c.from.ensures c.in_ok-put_number.ensures.all)
    (subst (λ r. TookAll (g.E.Sink.account c.put_number.new.err) (g.E.Sink.account c.say.new.err) (line (codes " at ") r)) (c.as_slice.ensures ∙ c.decimal.ensures ∙ ap shortest_text c.from-2.ensures) c.in_ok-say.ensures.all)
