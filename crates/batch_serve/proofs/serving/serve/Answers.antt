use Rattle.std.proofs.Common.{get_or}
use Rattle.batch_serve.specs.Desks.{taken_of, put_of}
use Rattle.batch_serve.proofs.Answering.{all_served_of}
use Rattle.batch_serve.proofs.serving.serve.Goals as goal

pub returns-clause-first : goal.returns-clause-first
returns-clause-first g c =
    let s = c.in_ok-served.ensures in
    let end = c.in_ok-served.served in
    (all_served_of (g.N.Runner.is_answer c.args.runner.now) c.args.first.items c.args.second.items c.as_slice.result.now c.as_slice-2.result.now end.answers.first.items end.answers.second.items
    (taken_of end.taker) (get_or c.close.result 0 0) (get_or c.close.result 1 0) (put_of end.first) (put_of end.second)
    c.as_slice.ensures.value c.as_slice-2.ensures.value s.3 s.4 c.close.ensures.first.0 c.close.ensures.first.1 s.0.2 c.close.ensures.second.0 c.close.ensures.second.1 s.1.2).0

pub returns-clause-second : goal.returns-clause-second
returns-clause-second g c =
    let s = c.in_ok-served.ensures in
    let end = c.in_ok-served.served in
    (all_served_of (g.N.Runner.is_answer c.args.runner.now) c.args.first.items c.args.second.items c.as_slice.result.now c.as_slice-2.result.now end.answers.first.items end.answers.second.items
    (taken_of end.taker) (get_or c.close.result 0 0) (get_or c.close.result 1 0) (put_of end.first) (put_of end.second)
    c.as_slice.ensures.value c.as_slice-2.ensures.value s.3 s.4 c.close.ensures.first.0 c.close.ensures.first.1 s.0.2 c.close.ensures.second.0 c.close.ensures.second.1 s.1.2).1
