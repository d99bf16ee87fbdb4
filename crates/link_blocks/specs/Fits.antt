-- Numbers and registers that fit the fields of instructions.
use Rattle.std.specs.Prelude.{ℕ, ◌^◌, nat_lt, ◌&&◌, Bool, true, List, get_or, if◌then◌else◌}
use Rattle.std.specs.List.{list_all}
use Rattle.block_runs.specs.declared.code.Code.{Code}
use Rattle.block_runs.specs.declared.code.Code.TheVariants.{Global, Local, Plus, Arg, IsPtr, IsTag, GuardPtr, GuardTag, Svc}
use Rattle.block_runs.specs.declared.end.End.{End}
use Rattle.block_runs.specs.declared.end.End.TheVariants.{Trap}
use Rattle.lir_core.specs.declared.flow.Flow.{Flow}
use Rattle.lir_core.specs.declared.flow.Lir.{Lir}
use Rattle.lir_core.specs.declared.flow.Node.{Node}
use Rattle.lir_core.specs.declared.places.TraceOut.{TraceOut}

-- a call has 24 argument words at most, four of them in registers
abbrev pub most_outs : ℕ
most_outs = 20

-- a number of 24 bits, a level of 12, one of 25 argument words, or a service of 16 bits
abbrev pub number_fits : Code → Bool
number_fits (Global n) = nat_lt n 16777216
number_fits (Local n) = nat_lt n 16777216
number_fits (Plus n) = nat_lt n 16777216
number_fits (Arg n) = nat_lt n 25
number_fits (IsPtr j) = nat_lt j 4096
number_fits (IsTag j) = nat_lt j 4096
number_fits (GuardPtr j) = nat_lt j 4096
number_fits (GuardTag j) = nat_lt j 4096
number_fits (Svc n) = nat_lt n 65536
number_fits _ = true

-- a trap's kind of 16 bits
abbrev pub trap_fits : End → Bool
trap_fits (Trap kind) = nat_lt kind 65536
trap_fits _ = true

abbrev pub lirs_fit : List Lir → Bool
lirs_fit xs = list_all (λ x. number_fits x.template) xs

abbrev pub node_fits : Node → Bool
node_fits n = trap_fits n.end && lirs_fit n.lirs

abbrev pub numbers_fit : Flow → Bool
numbers_fit f = list_all (λ n. node_fits n) f.nodes

-- registers below 16
abbrev pub row_fits : List ℕ → Bool
row_fits row = list_all (λ r. nat_lt r 16) row

abbrev pub rows_fit : List (List ℕ) → Bool
rows_fit rows = list_all (λ row. row_fits row) rows

abbrev pub registers_fit : List TraceOut → Bool
registers_fit outs = list_all (λ o. rows_fit o.regs) outs

-- the register that is named there, below 16; else X0
abbrev pub low_register : ℕ → ℕ
low_register r = if nat_lt r 16 then r else 0

abbrev pub register_in : List ℕ → ℕ → ℕ
register_in named i = low_register (get_or named i 0)
