-- A program's data fits the image.
use Rattle.std.proofs.Common.{◌≡◌, ℕ, ◌+◌, ◌<◌, ◌≤◌, List, length, Bool, true, false, None, sym, ap, ap₂, ◌∙◌, subst, arith}
use Rattle.std.specs.Prelude.{if◌then◌else◌}
use Rattle.a64_memory.specs.Areas.{data_base}
use Rattle.ob_types.specs.declared.program.Program.{Program}
use Rattle.ssa_lowered.specs.Limits.{limit_of}
use Rattle.ssa_exprs.specs.declared.tables.ProgramTables.{ProgramTables}
use Rattle.ssa_tables.specs.Faults.{first_limit}
use Rattle.ssa_tables.specs.Shared.{ServesAll}
use Rattle.ssa_tables.proofs.Limits.{first_within, few_descriptors}
use Rattle.ssa_tables.proofs.constants.Counted.{constants_length, constants_whole}
use Rattle.ssa_tables.proofs.Rooms.{globals_length, globals_whole}
use Rattle.ssa_build.proofs.Within.{few_procedures, few_globals, few_constants}
use Rattle.ssa_core.specs.declared.procedure.Proc.{Proc}
use Rattle.ssa_lowered.specs.Data.{layout}
use Rattle.ssa_lowered.specs.Lowered.{lowered}
use Rattle.placed_code.specs.declared.data.ProcName.{ProcName}
use Rattle.placed_code.specs.declared.data.ImageData.{ImageData}
use Rattle.link_plan.specs.Linked.{DataFits}
use Rattle.lowered_runs.specs.Claims.{data_bytes, constants_of}
use Rattle.compiled_runs.specs.Compiled.{flags_of, procedure_names, data_of}
use Rattle.compiled_runs.proofs.Telling.{names_length}
use Rattle.compiled_runs.proofs.Whole.{lowered_each}

flag_small : (b : Bool) → (if b then 1 else 0) < 2
flag_small true = omega arith
flag_small false = omega arith

module _ (p : Program) (none : limit_of p ≡ None) where
  pub first_none : first_limit p ≡ None
  first_none = first_within p (few_procedures p none) (few_globals p none)

  pub descriptors_are : (t : ProgramTables) → ServesAll t p → t.descriptors ≡ data_bytes p
  descriptors_are t serves =
      let there = serves.descriptor 0 in
      let few = few_descriptors t p serves first_none in
      omega (arith, there, few)

  globals_few : data_bytes p ≤ 8388608
  globals_few = let a = globals_length p in let b = few_globals p none in omega (arith, a, b)

  constants_few : length (constants_of p) ≤ 2097152
  constants_few = let a = constants_length p data_base in let b = few_constants p none in omega (arith, a, b)

  pub room : (data_bytes p ≤ 0x800000) × (data_bytes p + length (constants_of p) ≤ 0x10000000)
  room = let a = globals_few in let b = constants_few in (omega (arith, a), omega (arith, a, b))

  -- the constants stand where the number of an operation can say it
  pub near : data_bytes p + length (constants_of p) ≤ 0x1000000
  near = let a = globals_few in let b = constants_few in omega (arith, a, b)

  pub data_fits : DataFits (data_of p)
  data_fits = record {
    one_flag = flag_small p.imports_in;
    few_globals = globals_few;
    few_constants = constants_few;
    few_names = let n = names_length p.procedures in let few = few_procedures p none in omega (arith, n, few);
    whole_globals = globals_whole p;
    whole_constants = constants_whole p data_base;
  }

-- data is the program's by its parts
pub data_is : (p : Program) (flags globals : ℕ) (constants : List ℕ) (names : List ProcName) → flags ≡ flags_of p → globals ≡ data_bytes p → constants ≡ constants_of p → names ≡ procedure_names p
    → record { flags = flags; globals = globals; constants = constants; names = names } ≡ data_of p
data_is p flags globals constants names f g c n =
    ap₂ (λ x y. record { flags = x; globals = y; constants = constants; names = names }) f g
    ∙ ap₂ (λ x y. record { flags = flags_of p; globals = data_bytes p; constants = x; names = y }) c n

-- data that is the program's fits too
pub data_fits_as : (p : Program) → limit_of p ≡ None → (extra : ImageData) → extra ≡ data_of p → DataFits extra
data_fits_as p none extra is = subst DataFits (sym is) (data_fits p none)

-- each procedure has a name
pub all_named : (p : Program) (procs : List Proc) (extra : ImageData) → procs ≡ lowered p → extra ≡ data_of p → length extra.names ≡ length procs
all_named p procs extra same is =
    ap (λ (x : ImageData). length x.names) is ∙ names_length p.procedures ∙ sym (lowered_each p (layout p.types) 0 p.procedures) ∙ sym (ap (λ (xs : List Proc). length xs) same)
