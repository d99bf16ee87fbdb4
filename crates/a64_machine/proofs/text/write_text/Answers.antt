use Rattle.std.proofs.Common.{◌++◌, take, arith}
use Rattle.outside.specs.Sink.{TookFront}
use Rattle.outside.proofs.Taking.{all_on}
use Rattle.a64_memory.specs.Texts.{text_at}
use Rattle.a64_machine.specs.Answers.{OfBytes}
use Rattle.a64_machine.proofs.Texts.{seen_on, took_front, on_fault}
use Rattle.a64_machine.proofs.text.write_text.Goals as goal

pub returns-in_err-write_all-clause-front : goal.returns-in_err-write_all-clause-front
returns-in_err-write_all-clause-front g c =
    let memory = c.args.regions.now in
    let whole = text_at memory c.args.by c.args.from c.args.most in
    let front = c.loop.invariant.0 in
    let part = take c.gather-count.result c.gather-count.new.piece in
    let seen = seen_on whole memory c.args.by c.loop.rest.at c.loop.rest.left c.gather-count.new.rest.at c.gather-count.new.rest.left front part c.loop.invariant.1 c.gather-count.ensures.passed in
    let P = OfBytes whole (TookFront (g.O.Sink.account c.args.out.now) (g.O.Sink.account c.write_all.new.sink)) in
    on_fault _ P (
      c.requires.0,
      c.requires.1,
      took_front _ _ _ front part whole c.requires.0 memory c.args.by _ _ c.loop.invariant.2 c.requires.1 seen c.in_err-write_all.ensures.front,
    )

pub loop-preserved : goal.loop-preserved
loop-preserved g c =
    let memory = c.args.regions.now in
    let whole = text_at memory c.args.by c.args.from c.args.most in
    let front = c.loop.invariant.0 in
    let part = take c.gather-count.result c.gather-count.new.piece in (
      front ++ part,
      seen_on whole memory c.args.by c.loop.rest.at c.loop.rest.left c.gather-count.new.rest.at c.gather-count.new.rest.left front part c.loop.invariant.1 c.gather-count.ensures.passed,
      all_on _ _ _ front part c.loop.invariant.2 c.in_ok-write_all.ensures.all,
      omega (arith, c.in_ok-write_all.ensures.rises, c.loop.invariant.3),
    )
