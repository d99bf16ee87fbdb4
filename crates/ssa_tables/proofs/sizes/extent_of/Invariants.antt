use Rattle.std.proofs.Common.{◌≡◌, ◌<◌, ◌*◌, ◌%◌, ◌^◌, length, true}
use Rattle.ob_types.specs.Trees.{wide, bytes, data_tree}
use Rattle.ssa_tables.proofs.Levels.{levels}
use Rattle.ssa_tables.proofs.sizes.extent_of.Given as goal

abbrev pub invariant-loop-length : goal.invariant-loop-length
invariant-loop-length l = record {
  there : l.at < length l.types.kinds;
  counted : (l.count * bytes l.types l.at) % 2 ^ 64 ≡ bytes l.types l.k % 2 ^ 64;
  wide : wide true (data_tree l.types l.at) ≡ wide true (data_tree l.types l.k);
}

abbrev pub decreases-loop-length : goal.decreases-loop-length
decreases-loop-length l = levels l.types l.at
