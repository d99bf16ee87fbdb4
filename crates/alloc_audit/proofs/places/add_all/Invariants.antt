use Rattle.std.proofs.Common.{◌≡◌, drop}
use Rattle.loc_state.specs.Homed.{all_inserted}
use Rattle.alloc_audit.proofs.places.add_all.Given as goal

abbrev pub invariant-loop-value : goal.invariant-loop-value
invariant-loop-value l = all_inserted (drop l.value-index l.values) l.reads ≡ all_inserted l.values l.initial.reads
