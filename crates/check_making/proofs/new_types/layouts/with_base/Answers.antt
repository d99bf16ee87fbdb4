use Rattle.std.proofs.Common.{length, subst, Ok, Err, arith}
use Rattle.std.specs.Prelude.{nat_le, slice_get}
use Rattle.ob_judge.specs.Judged.{Keeps, ◌>>◌, rule}
use Rattle.ob_judge.specs.Scopes.{place}
use Rattle.ob_judge.specs.Types as T
use Rattle.check_types.specs.steps.Answers.{Answers}
use Rattle.check_types.proofs.steps.Answering.{exit, goes_on, stop, as_judged}
use Rattle.check_making.proofs.parameters.Answering.{no_memory}
use Rattle.check_making.specs.new_types.Layouts.{IsBegun, IsBegunFrom, base_number}
use Rattle.check_making.proofs.new_types.LayoutsSoFar.{base_split, line_known, base_begun, deep, shallow}
use Rattle.check_making.proofs.new_types.layouts.with_base.Goals as goal

pub returns-in_err-r : goal.returns-in_err-r
returns-in_err-r c = λ m makes.
    exit _ c.from_residual.ensures.1 (as_judged (base_split c.args.round.now.source.now c.args.tree.now m.world) (stop _ _ (c.in_err-r.ensures m makes)))

pub returns-in_err-layout : goal.returns-in_err-layout
returns-in_err-layout c = λ m makes. exit _ c.from_residual-in_err-layout.ensures.1 (no_memory _ c.in_err-layout.ensures.memory)

pub returns-then-len-gt15 : goal.returns-then-len-gt15
returns-then-len-gt15 c = λ m makes.
    let r = c.args.round.now in
    let s = c.args.state.now in
    let from = subst (λ ls. IsBegunFrom c.in_ok-layout.layout (slice_get ls c.in_ok-r.r)) c.deref.ensures.value c.in_ok-layout.ensures.begun in
    let many = c.if-len-gt15.true in
    as_judged (base_split r.source.now c.args.tree.now m.world)
    (goes_on (base_number r.source.now c.args.tree.now m.world) _ (c.in_ok-r.ensures m makes) (λ n e.
    subst (λ k. Answers (IsBegun s) (rule 42 (place r.source.now c.args.tree.now.name.name) (nat_le (length (T.layout_of (slice_get m.world.known.records k)).line) 15) >> Keeps (T.layout_of (slice_get m.world.known.records k))) (Err c.fault.result)) e
    (deep (T.layout_of (slice_get m.world.known.records c.in_ok-r.r)) (length c.in_ok-layout.layout.line.items) (line_known r s m makes c.in_ok-r.r c.in_ok-layout.layout from) (omega (arith, many)) c.fault.ensures)))

pub returns : goal.returns
returns c = λ m makes.
    let r = c.args.round.now in
    let s = c.args.state.now in
    let from = subst (λ ls. IsBegunFrom c.in_ok-layout.layout (slice_get ls c.in_ok-r.r)) c.deref.ensures.value c.in_ok-layout.ensures.begun in
    let few = c.if-len-gt15.false in
    as_judged (base_split r.source.now c.args.tree.now m.world)
    (goes_on (base_number r.source.now c.args.tree.now m.world) _ (c.in_ok-r.ensures m makes) (λ n e.
    subst (λ k. Answers (IsBegun s) (rule 42 (place r.source.now c.args.tree.now.name.name) (nat_le (length (T.layout_of (slice_get m.world.known.records k)).line) 15) >> Keeps (T.layout_of (slice_get m.world.known.records k))) (Ok c.in_ok-layout.layout)) e
    (shallow (place r.source.now c.args.tree.now.name.name) (T.layout_of (slice_get m.world.known.records c.in_ok-r.r)) (length c.in_ok-layout.layout.line.items) (line_known r s m makes c.in_ok-r.r c.in_ok-layout.layout from) (omega (arith, few))
    (base_begun r s m makes c.in_ok-r.r c.in_ok-layout.layout from c.requires.built (omega (arith, few))))))
