use Rattle.batch_serve.specs.Desks.{taken_of}
use Rattle.batch_serve.proofs.Answering.{answered_first, answered_second, one_more_taken}
use Rattle.batch_serve.proofs.serving.serve_one.Goals as goal

pub returns-in_ok-answer-clause-answers : goal.returns-in_ok-answer-clause-answers
returns-in_ok-answer-clause-answers g c =
    answered_first (g.N.Runner.is_answer c.args.runner.now) c.args.first.now c.args.second.now (taken_of c.args.taker.now) (taken_of c.take.new.self) c.in-Some.ticket
    c.answer.new.answers.items c.args.answers.now.second.items
    c.in-Some.ensures.taken.0 c.in-Some.ensures.taken.1 c.if-ticket-eq0.true c.in_ok-answer.ensures c.requires.answers.1

pub returns-in_ok-answer-clause-count : goal.returns-in_ok-answer-clause-count
returns-in_ok-answer-clause-count g c = one_more_taken _ _ c.in-Some.ticket c.in-Some.ensures.taken.0 c.in-Some.ensures.taken.1.0

pub returns-in_ok-answer-2-clause-answers : goal.returns-in_ok-answer-2-clause-answers
returns-in_ok-answer-2-clause-answers g c =
    answered_second (g.N.Runner.is_answer c.args.runner.now) c.args.first.now c.args.second.now (taken_of c.args.taker.now) (taken_of c.take.new.self) c.in-Some.ticket
    c.args.answers.now.first.items c.answer-else-ticket-eq0.new.answers.items
    c.in-Some.ensures.taken.0 c.in-Some.ensures.taken.1 c.if-ticket-eq0.false c.in_ok-answer-2.ensures c.requires.answers.0

pub returns-in_ok-answer-2-clause-count : goal.returns-in_ok-answer-2-clause-count
returns-in_ok-answer-2-clause-count g c = one_more_taken _ _ c.in-Some.ticket c.in-Some.ensures.taken.0 c.in-Some.ensures.taken.1.0
