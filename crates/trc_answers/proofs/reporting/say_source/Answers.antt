use Rattle.std.proofs.Common.{codes, ◌++◌, subst, ◌∙◌}
use Rattle.outside.specs.Sink.{TookAll}
use Rattle.out_text.specs.Text.{shortest_text}
use Rattle.trc_answers.specs.Names.{name_of_rule}
use Rattle.trc_answers.specs.Causes.{line}
use Rattle.trc_answers.proofs.Lines.{source_parts}
use Rattle.trc_answers.proofs.reporting.say_source.Goals as goal

pub returns-clause-all : goal.returns-clause-all
returns-clause-all g c =
    source_parts _ _ _ _ (codes "trc: ") c.args.name.now (codes ":") (shortest_text c.args.place.line) (codes ":") (shortest_text c.args.place.column)
    (codes ": error ") (shortest_text c.args.number) (line (codes " ") (name_of_rule c.args.number))
    c.in_ok-put_place.ensures.all
    (subst (λ n. TookAll (g.E.Sink.account c.put_place.new.err) (g.E.Sink.account c.put_number.new.err) (codes ": error " ++ shortest_text n)) c.from.ensures c.in_ok-put_number.ensures.all)
    (subst (λ r. TookAll (g.E.Sink.account c.put_number.new.err) (g.E.Sink.account c.say.new.err) (line (codes " ") r)) (c.as_bytes.ensures.value ∙ c.rule_name.ensures) c.in_ok-say.ensures.all)
