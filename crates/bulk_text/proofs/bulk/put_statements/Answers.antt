use Rattle.bulk_text.proofs.Rounds.{one_statement, statements_done}
use Rattle.bulk_text.proofs.bulk.put_statements.Goals as goal

pub loop-preserved : goal.loop-preserved
loop-preserved c = one_statement _ _ c.loop.text.items _ c.loop.counter c.loop.random _ c.loop-test.true c.in_ok-put_statement.ensures.text c.in_ok-put_statement.ensures.random c.loop.invariant

pub returns-clause-text : goal.returns-clause-text
returns-clause-text c = (statements_done _ _ c.loop.text.items c.loop.counter c.loop.random c.loop-test.false c.loop.invariant).0

pub returns-clause-random : goal.returns-clause-random
returns-clause-random c = (statements_done _ _ c.loop.text.items c.loop.counter c.loop.random c.loop-test.false c.loop.invariant).1
