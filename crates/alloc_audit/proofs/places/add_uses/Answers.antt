use Rattle.std.proofs.Common.{ap, ◌∙◌}
use Rattle.loc_state.specs.Homed.{all_inserted}
use Rattle.alloc_audit.proofs.Placing.{uses_at}
use Rattle.alloc_audit.proofs.places.add_uses.Goals as goal

pub loop-lir-preserved : goal.loop-lir-preserved
loop-lir-preserved c = uses_at c.args.lirs.now c.loop-lir.lir-index c.lir-item.result c.loop-lir.reads c.add_all.new.reads _ c.loop-lir-test.true c.lir-item.is (c.in_ok-add_all.ensures ∙ ap (λ xs. all_inserted xs c.loop-lir.reads) c.as_slice.ensures) c.loop-lir.invariant
