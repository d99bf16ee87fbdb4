use Rattle.std.proofs.Common.{codes, OnOk, ap, map, subst, ◌∙◌}
use Rattle.outside.specs.Sink.{TookAll}
use Rattle.out_text.specs.Text.{shortest_text}
use Rattle.trc_answers.specs.Causes.{line, name_at}
use Rattle.trc_answers.proofs.reporting.report.Goals as goal

pub returns-in-NoSuchFile-clause-all : goal.returns-in-NoSuchFile-clause-all
returns-in-NoSuchFile-clause-all g c = rw (c.in-NoSuchFile.is, ← (c.name_at.ensures ∙ ap (name_at (map (λ name. name.now) c.args.names.now)) c.from.ensures)) c.say-in-NoSuchFile.ensures.all

pub returns-in-ReadFault-clause-all : goal.returns-in-ReadFault-clause-all
returns-in-ReadFault-clause-all g c = rw (c.in-ReadFault.is, ← c.name_of.ensures) c.say-in-ReadFault.ensures.all

pub returns-in-BadLine-clause-all : goal.returns-in-BadLine-clause-all
returns-in-BadLine-clause-all g c =
    rw c.in-BadLine.is
    (subst (λ digits. OnOk c.say-in-BadLine.result (TookAll (g.E.Sink.account c.args.err.now) (g.E.Sink.account c.say-in-BadLine.new.err) (line (codes "trc: bad line ") digits)))
    (c.as_slice.ensures ∙ c.decimal.ensures ∙ ap shortest_text c.from-in-BadLine.ensures) c.say-in-BadLine.ensures.all)

pub returns-in-Memory-clause-all : goal.returns-in-Memory-clause-all
returns-in-Memory-clause-all g c = rw c.in-Memory.is c.say-in-Memory.ensures.all
