use Rattle.std.proofs.Common.{◌≡◌, ◌≤◌, length, map}
use Rattle.lir_core.specs.Flows.{operation_of}
use Rattle.alloc_audit.specs.Holdings.{room_in}
use Rattle.alloc_audit.proofs.Looping.{LinesSo}
use Rattle.alloc_audit.proofs.walk.walk_lines.Given as goal

abbrev pub invariant-loop-line : goal.invariant-loop-line
invariant-loop-line l = record {
  count : l.at ≡ l.line-index;
  used : l.state.used ≤ length l.named;
  room : room_in l.values l.state ≡ room_in l.values l.initial.state;
  so : LinesSo l.values (map operation_of l.lirs) l.named l.lines l.line-index l.initial.state l.state;
}
