use Rattle.std.proofs.Common.{◌≡◌, ◌++◌, ◌*◌}
use Rattle.std.specs.Prelude.{filter}
use Rattle.run_laws.specs.Layers.{places_from}
use Rattle.lir_core.specs.Rows.{is_in}
use Rattle.value_sets.proofs.words.push_all.Given as goal

abbrev pub invariant-loop-at : goal.invariant-loop-at
invariant-loop-at l = l.list.items ≡ l.fn.list.items ++ filter (is_in l.words) (places_from 0 (l.at * 64))
