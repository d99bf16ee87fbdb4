-- Flows that are small enough for instructions.
use Rattle.std.specs.Prelude.{◌≡◌, ◌<◌, ◌≤◌, true}
use Rattle.std.specs.List.{list_all}
use Rattle.size_limits.specs.Limits.{most_values}
use Rattle.lir_core.specs.declared.flow.Flow.{Flow}
use Rattle.link_blocks.specs.Fits.{trap_fits}

-- few values, few local data, and traps whose kinds have 16 bits
pub record IsModest (f : Flow) : Type 0 where
  pub values : f.values ≤ most_values
  pub local_bytes : f.local_bytes < 16777216
  pub kinds : list_all (λ n. trap_fits n.end) f.nodes ≡ true
