use Rattle.std.proofs.Common.{length, ◌-◌, ◌≤◌, take}
use Rattle.outside.specs.Sink.{TookAll}
use Rattle.outside.proofs.writing.write_all.Given as goal

abbrev pub invariant-loop-done : goal.invariant-loop-done
invariant-loop-done g l = record {
  within : l.done ≤ length l.bytes;
  took : TookAll (g.S.Sink.account l.initial.sink) (g.S.Sink.account l.sink) (take l.done l.bytes);
  rises : (g.S.Sink.account l.initial.sink).faults ≤ (g.S.Sink.account l.sink).faults;
}

abbrev pub decreases-loop-done : goal.decreases-loop-done
decreases-loop-done g l = length l.bytes - l.done
