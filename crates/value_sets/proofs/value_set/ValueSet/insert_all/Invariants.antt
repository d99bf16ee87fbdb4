use Rattle.std.proofs.Common.{◌≡◌, drop}
use Rattle.loc_state.specs.Homed.{all_inserted}
use Rattle.value_sets.proofs.value_set.ValueSet.insert_all.Given as goal

abbrev pub invariant-loop-value : goal.invariant-loop-value
invariant-loop-value l = all_inserted (drop l.value-index l.values) l.self ≡ all_inserted l.values l.fn.self
