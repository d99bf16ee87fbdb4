use Rattle.std.proofs.Common.{refl, ◌∙◌, subst, arith}
use Rattle.std.proofs.lemmas.List.{drop_all}
use Rattle.check_types.proofs.steps.Answering.{exit, Judging}
use Rattle.check_declared.proofs.Parts.{StateMakes}
use Rattle.check_declared.proofs.Names.{stand_from, stand_first, stand_next, stand_stop, stand_done}
use Rattle.check_declared.proofs.type_parts.names.stand_more.Goals as goal

pub loop-next-init : goal.loop-next-init
loop-next-init c = record { settled = c.requires; types = refl; judged = λ m makes. stand_first c.args.round.now c.args.state.now m makes c.args.more.now }

pub loop-next-preserved : goal.loop-next-preserved
loop-next-preserved c =
    let r = c.args.round.now in
    let xs = c.args.more.now in
    record {
      settled = c.in_ok-stand.ensures.settled;
      types = c.in_ok-stand.ensures.types ∙ c.loop-next.invariant.types;
      judged = λ m makes.
          stand_next r (stand_from r (tt, m) xs) c.loop-next.state c.stand.new.self xs c.loop-next.next-index _ c.loop-next-test.true (c.loop-next.invariant.judged m makes)
          (λ n k. c.in_ok-stand.ensures.judged n k);
    }

pub returns-in_err-stand-clause-judged : goal.returns-in_err-stand-clause-judged
returns-in_err-stand-clause-judged c = λ m makes.
    let r = c.args.round.now in
    let xs = c.args.more.now in
    exit _ c.from_residual.ensures.1
    (stand_stop r (stand_from r (tt, m) xs) c.loop-next.state c.stand.new.self xs c.loop-next.next-index _ _ c.loop-next-test.true (c.loop-next.invariant.judged m makes)
    (λ n k. c.in_err-stand.ensures.judged n k))

pub returns-clause-judged : goal.returns-clause-judged
returns-clause-judged c = λ m makes.
    let r = c.args.round.now in
    let xs = c.args.more.now in
    let past = c.loop-next-test.false in
    stand_done r (stand_from r (tt, m) xs) c.loop-next.state
    (subst (Judging (StateMakes r) (stand_from r) (stand_from r (tt, m) xs) c.loop-next.state) (drop_all c.loop-next.next-index xs (omega (arith, past))) (c.loop-next.invariant.judged m makes))
