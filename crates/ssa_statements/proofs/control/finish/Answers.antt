use Rattle.std.proofs.Common.{◌≡◌, length, refl, sym, subst, arith}
use Rattle.ssa_statements.specs.Meeting.{Meets, FinishesAll}
use Rattle.ssa_statements.proofs.Finishing.{finishes_push, none_left}
use Rattle.ssa_statements.proofs.control.finish.Goals as goal

pub loop-frame-preserved : goal.loop-frame-preserved
loop-frame-preserved c = λ z y.
    let f = c.in-Some.frame in
    let meets = subst (λ xs. Meets c.loop-frame.b c.meet.new.b f.out xs f.moment f.freq) c.as_slice.ensures.value c.in_ok-meet.ensures in
    c.loop-frame.invariant z (subst (λ l. FinishesAll l c.loop-frame.b z) (sym c.in-Some.ensures.items) (finishes_push c.pop.new.self.items f c.loop-frame.b c.meet.new.b z meets y))

pub returns : goal.returns
returns c =
    let len : length c.loop-frame.frames.items ≡ 0 = omega (arith, c.in_default.ensures.cases.0, c.loop-frame.frames.ok.0) in
    c.loop-frame.invariant c.loop-frame.b (subst (λ l. FinishesAll l c.loop-frame.b c.loop-frame.b) (sym (none_left c.loop-frame.frames.items len)) refl)
