use Rattle.std.proofs.Common.{refl, sym, ap, ◌∙◌, subst, map, get_or, arith}
use Rattle.std.proofs.lemmas.List.{drop_all, length-map}
use Rattle.ob_judge.specs.Declarations.{each, forward_base}
use Rattle.check_types.proofs.steps.Answering.{exit, Judging, as_judged}
use Rattle.check_making.specs.Making.{forward_of}
use Rattle.check_making.proofs.Growing.{grows_on}
use Rattle.check_declared.proofs.Parts.{StateMakes}
use Rattle.check_declared.proofs.type_parts.Bases.{as_before, as_many, mapped_at, pointer_below, bases_from, base_item, bases_first, bases_next, bases_stop, bases_done, there_now}
use Rattle.check_declared.proofs.type_parts.forward.forward_bases.Goals as goal

pub loop-i-init : goal.loop-i-init
loop-i-init c = record {
  stands = c.requires.stands;
  grows = record { entry = λ n e h. h; shape = λ e h. refl };
  legal = λ legal. legal;
  same = record { forward = refl; bases = refl };
  judged = λ m makes. bases_first c.args.round.now c.args.state.now m makes (map forward_of c.args.state.now.forward.items);
}

pub waiting_at-forward-requires : goal.waiting_at-forward-requires
waiting_at-forward-requires c =
    let l = c.loop-i-test.true in
    let e = c.waiting-i-end.ensures in
    let k = as_many c.loop-i.state.forward.items c.args.state.now.forward.items c.loop-i.invariant.same.forward in
    omega (arith, l, e, k)

pub forward_base-requires-clause-there : goal.forward_base-requires-clause-there
forward_base-requires-clause-there c =
    pointer_below _ c.loop-i.state.forward.items (there_now c.args.state.now c.loop-i.state c.loop-i.invariant.same c.requires.there) c.loop-i.i c.waiting_at-forward.result c.waiting_at-forward.ensures

pub loop-i-preserved : goal.loop-i-preserved
loop-i-preserved c =
    let r = c.args.round.now in
    let s = c.loop-i.state in
    let t = c.forward_base.new.state in
    let fs = map forward_of c.args.state.now.forward.items in
    let same = c.loop-i.invariant.same in
    let next = as_before r s t (forward_of c.waiting_at-forward.result) c.loop-i.invariant.stands c.in_ok-forward_base.ensures.judged in
    let l = c.loop-i-test.true in
    let e = c.waiting-i-end.ensures in
    let k = length-map c.args.state.now.forward.items forward_of in
    let at = ap (λ xs. get_or xs c.loop-i.i (forward_of c.waiting_at-forward.result)) (sym same.forward) ∙ mapped_at s.forward.items c.loop-i.i c.waiting_at-forward.result (forward_of c.waiting_at-forward.result) c.waiting_at-forward.ensures in
    record {
      stands = c.in_ok-forward_base.ensures.stands;
      grows = grows_on c.args.state.now.types.table s.types.table t.types.table c.loop-i.invariant.grows c.in_ok-forward_base.ensures.grows;
      legal = λ legal. c.in_ok-forward_base.ensures.legal (c.loop-i.invariant.legal legal);
      same = record { forward = next.forward ∙ same.forward; bases = next.bases ∙ same.bases };
      judged = λ m makes.
          bases_next r (bases_from r (tt, m) fs) s t fs c.loop-i.i (forward_of c.waiting_at-forward.result) (omega (arith, l, e, k)) (c.loop-i.invariant.judged m makes)
          (λ n h. as_judged (ap (base_item r (tt, n)) at) (c.in_ok-forward_base.ensures.judged n h));
    }

pub returns-in_err-forward_base-clause-judged : goal.returns-in_err-forward_base-clause-judged
returns-in_err-forward_base-clause-judged c = λ m makes.
    let r = c.args.round.now in
    let s = c.loop-i.state in
    let t = c.forward_base.new.state in
    let fs = map forward_of c.args.state.now.forward.items in
    let same = c.loop-i.invariant.same in
    let l = c.loop-i-test.true in
    let e = c.waiting-i-end.ensures in
    let k = length-map c.args.state.now.forward.items forward_of in
    let at = ap (λ xs. get_or xs c.loop-i.i (forward_of c.waiting_at-forward.result)) (sym same.forward) ∙ mapped_at s.forward.items c.loop-i.i c.waiting_at-forward.result (forward_of c.waiting_at-forward.result) c.waiting_at-forward.ensures in
    exit _ c.from_residual.ensures.1
    (as_judged (ap (λ xs. each (forward_base r.source.now) xs m) makes.forward)
    (bases_stop r (bases_from r (tt, m) fs) s t fs c.loop-i.i (forward_of c.waiting_at-forward.result) _ (omega (arith, l, e, k)) (c.loop-i.invariant.judged m makes)
    (λ n h. as_judged (ap (base_item r (tt, n)) at) (c.in_err-forward_base.ensures.judged n h))))

pub returns-clause-judged : goal.returns-clause-judged
returns-clause-judged c = λ m makes.
    let r = c.args.round.now in
    let fs = map forward_of c.args.state.now.forward.items in
    let past = c.loop-i-test.false in
    let e = c.waiting-i-end.ensures in
    let k = length-map c.args.state.now.forward.items forward_of in
    as_judged (ap (λ xs. each (forward_base r.source.now) xs m) makes.forward)
    (bases_done r (bases_from r (tt, m) fs) c.loop-i.state
    (subst (Judging (StateMakes r) (bases_from r) (bases_from r (tt, m) fs) c.loop-i.state) (drop_all c.loop-i.i fs (omega (arith, past, e, k))) (c.loop-i.invariant.judged m makes)))
