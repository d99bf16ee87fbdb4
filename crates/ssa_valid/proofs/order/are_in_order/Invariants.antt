use Rattle.std.proofs.Common.{◌≡◌, drop, map}
use Rattle.ssa_core.specs.Procedures.{operation_of}
use Rattle.ssa_valid.specs.Order.{read_by, in_order}
use Rattle.ssa_valid.proofs.order.are_in_order.Given as goal

abbrev pub invariant-loop-op : goal.invariant-loop-op
invariant-loop-op l = (in_order l.stamps (map operation_of (drop l.op-index l.ops)) l.block ≡ in_order l.initial.stamps (map operation_of l.ops) l.block) × (read_by l.stamps (map operation_of (drop l.op-index l.ops)) l.block ≡ read_by l.initial.stamps (map operation_of l.ops) l.block)
