use Rattle.std.proofs.Common.{codes, ◌++◌, ap, subst, ◌∙◌}
use Rattle.outside.specs.Sink.{TookAll}
use Rattle.out_text.specs.Text.{shortest_text}
use Rattle.trc_answers.specs.Names.{name_of_limit}
use Rattle.trc_answers.specs.Causes.{line}
use Rattle.trc_answers.proofs.Lines.{limit_parts}
use Rattle.trc_answers.proofs.reporting.say_limit.Goals as goal

pub returns-clause-all : goal.returns-clause-all
returns-clause-all g c =
    limit_parts _ _ _ _ _ (codes "trc: limit ") (shortest_text c.args.number) (codes " ") (name_of_limit c.args.number) (line (codes " at ") (shortest_text c.args.index))
    (subst (λ n. TookAll (g.E.Sink.account c.args.err.now) (g.E.Sink.account c.put_number.new.err) (codes "trc: limit " ++ shortest_text n)) c.from.ensures c.in_ok-put_number.ensures.all)
    c.in_ok-write_all.ensures.all
    (subst (TookAll (g.E.Sink.account c.write_all.new.sink) (g.E.Sink.account c.write_all-2.new.sink)) c.limit_name.ensures c.in_ok-write_all-2.ensures.all)
    (subst (λ r. TookAll (g.E.Sink.account c.write_all-2.new.sink) (g.E.Sink.account c.say.new.err) (line (codes " at ") r)) (c.as_slice.ensures ∙ c.decimal.ensures ∙ ap shortest_text c.from-2.ensures) c.in_ok-say.ensures.all)
