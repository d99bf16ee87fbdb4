use Rattle.std.proofs.Common.{rules}
use Rattle.std.specs.Vec.Iter.{into_iter_items}
use Rattle.ob_judge.specs.Declarations.{procedures_part}
use Rattle.judged_modules.specs.steps.Procedures.{plain_each_procedure}
use Rattle.check_types.proofs.steps.Answering.{exit}
use Rattle.check_making.proofs.Growing.{grows_on}
use Rattle.check_modules.proofs.Walked.{walks_on, walk_stops, walk_ends}
use Rattle.check_modules.proofs.declarations.procedures.Goals as goal

pub loop-next-preserved : goal.loop-next-preserved
loop-next-preserved c =
    let r = c.args.round.now in
    let i = c.loop-next.invariant in
    let e = c.in_ok-judged.ensures in
    let old = c.requires.under_way in
    let next = walks_on r old.so_far (procedures_part r.source.now (plain_each_procedure c.args.each.items) old.making) c.args.state.now.declaring.types.table c.loop-next.state (into_iter_items c.loop-next.next-iterator)
    (i.at old.so_far old.making old.represents old.upright) c.procedure-judged.new.state c.in-Some.next (into_iter_items c.next.new.self) c.in-Some.ensures.steps.0 e.judged (λ n at upright. e.legal old.so_far n at upright) in
    record {
      under_way = record { settled = e.settled; so_far = old.so_far; making = next.making; represents = next.represents; upright = next.upright };
      later = record { grows = grows_on c.args.state.now.declaring.types.table c.loop-next.state.declaring.types.table c.procedure-judged.new.state.declaring.types.table i.later.grows e.later.grows; few = e.later.few };
      at = λ k m represents up.
          walks_on r k (procedures_part r.source.now (plain_each_procedure c.args.each.items) m) c.args.state.now.declaring.types.table c.loop-next.state (into_iter_items c.loop-next.next-iterator)
          (i.at k m represents up) c.procedure-judged.new.state c.in-Some.next (into_iter_items c.next.new.self) c.in-Some.ensures.steps.0 e.judged (λ n at upright. e.legal k n at upright);
    }

pub returns-in_err-judged-clause-judged : goal.returns-in_err-judged-clause-judged
returns-in_err-judged-clause-judged c = λ k m represents up.
    let r = c.args.round.now in
    exit _ c.from_residual.ensures.1
    (walk_stops r k (procedures_part r.source.now (plain_each_procedure c.args.each.items) m) c.args.state.now.declaring.types.table c.loop-next.state (into_iter_items c.loop-next.next-iterator)
    (c.loop-next.invariant.at k m represents up) c.procedure-judged.new.state c.in-Some.next (into_iter_items c.next.new.self) c.in-Some.ensures.steps.0 c.in_err-judged.ensures.judged)

pub returns-clause-judged : goal.returns-clause-judged
returns-clause-judged c = λ k m represents up.
    let r = c.args.round.now in
    walk_ends r k (procedures_part r.source.now (plain_each_procedure c.args.each.items) m) c.args.state.now.declaring.types.table c.loop-next.state (into_iter_items c.loop-next.next-iterator)
    (c.loop-next.invariant.at k m represents up) (search rules)

pub returns-clause-legal : goal.returns-clause-legal
returns-clause-legal c = λ k m represents up. (c.loop-next.invariant.at k m represents up).legal
