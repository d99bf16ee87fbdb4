-- Numbers of operations have 64 bits, and kinds of traps 16.
use Rattle.std.specs.Prelude.{◌^◌, ◌&&◌, Bool, true, List, nat_lt}
use Rattle.std.specs.List.{list_all}
use Rattle.block_runs.specs.declared.code.Code.{Code}
use Rattle.block_runs.specs.declared.code.Code.TheVariants.{Const}
use Rattle.lir_core.specs.declared.flow.Lir.{Lir}
use Rattle.lir_core.specs.declared.flow.Node.{Node}
use Rattle.link_blocks.specs.Fits.{trap_fits}

abbrev pub has_number : Code → Bool
has_number (Const n) = nat_lt n (2 ^ 64)
has_number _ = true

abbrev pub lirs_number : List Lir → Bool
lirs_number xs = list_all (λ x. has_number x.template) xs

abbrev pub node_numbers : List Node → Bool
node_numbers ns = list_all (λ n. trap_fits n.end && lirs_number n.lirs) ns
