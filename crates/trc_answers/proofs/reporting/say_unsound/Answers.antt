use Rattle.std.proofs.Common.{codes, ◌++◌, ap, subst, ◌∙◌}
use Rattle.outside.specs.Sink.{TookAll}
use Rattle.out_text.specs.Text.{shortest_text}
use Rattle.trc_answers.specs.Causes.{line}
use Rattle.trc_answers.proofs.Lines.{unsound_parts}
use Rattle.trc_answers.proofs.reporting.say_unsound.Goals as goal

pub returns-clause-all : goal.returns-clause-all
returns-clause-all g c =
    unsound_parts _ _ _ _ (codes "trc: unsound ") (shortest_text c.args.trace) (codes " ") (shortest_text c.args.node) (shortest_text c.args.line)
    (subst (λ n. TookAll (g.E.Sink.account c.args.err.now) (g.E.Sink.account c.put_number.new.err) (codes "trc: unsound " ++ shortest_text n)) c.from.ensures c.in_ok-put_number.ensures.all)
    (subst (λ n. TookAll (g.E.Sink.account c.put_number.new.err) (g.E.Sink.account c.put_number-2.new.err) (codes " " ++ shortest_text n)) c.from-2.ensures c.in_ok-put_number-2.ensures.all)
    (subst (λ r. TookAll (g.E.Sink.account c.put_number-2.new.err) (g.E.Sink.account c.say.new.err) (line (codes " ") r)) (c.as_slice.ensures ∙ c.decimal.ensures ∙ ap shortest_text c.from-3.ensures) c.in_ok-say.ensures.all)
