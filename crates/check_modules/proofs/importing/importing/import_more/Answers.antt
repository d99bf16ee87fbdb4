use Rattle.std.proofs.Common.{refl, ◌∙◌, subst, arith}
use Rattle.std.proofs.lemmas.List.{drop_all}
use Rattle.check_types.proofs.steps.Answering.{exit, Judging}
use Rattle.check_modules.proofs.importing.ImportSteps.{StateMakes, imports_from, imports_first, imports_next, imports_stop, imports_done}
use Rattle.check_modules.proofs.importing.importing.import_more.Goals as goal

pub loop-next-init : goal.loop-next-init
loop-next-init c = record { settled = c.requires; types = refl; judged = λ m makes. imports_first c.args.round.now c.args.state.now m makes c.args.more.now }

pub loop-next-preserved : goal.loop-next-preserved
loop-next-preserved c =
    let r = c.args.round.now in
    let xs = c.args.more.now in
    record {
      settled = c.in_ok-import_one.ensures.settled;
      types = c.in_ok-import_one.ensures.types ∙ c.loop-next.invariant.types;
      judged = λ m makes.
          imports_next r (imports_from r (tt, m) xs) c.loop-next.state c.import_one.new.state xs c.loop-next.next-index _ c.loop-next-test.true (c.loop-next.invariant.judged m makes)
          (λ n k. c.in_ok-import_one.ensures.judged n k);
    }

pub returns-in_err-import_one-clause-judged : goal.returns-in_err-import_one-clause-judged
returns-in_err-import_one-clause-judged c = λ m makes.
    let r = c.args.round.now in
    let xs = c.args.more.now in
    exit _ c.from_residual.ensures.1
    (imports_stop r (imports_from r (tt, m) xs) c.loop-next.state c.import_one.new.state xs c.loop-next.next-index _ _ c.loop-next-test.true (c.loop-next.invariant.judged m makes)
    (λ n k. c.in_err-import_one.ensures.judged n k))

pub returns-clause-judged : goal.returns-clause-judged
returns-clause-judged c = λ m makes.
    let r = c.args.round.now in
    let xs = c.args.more.now in
    let past = c.loop-next-test.false in
    imports_done r (imports_from r (tt, m) xs) c.loop-next.state
    (subst (Judging (StateMakes r) (imports_from r) (imports_from r (tt, m) xs) c.loop-next.state) (drop_all c.loop-next.next-index xs (omega (arith, past))) (c.loop-next.invariant.judged m makes))
