-- Which limits of data are passed.
use Rattle.std.proofs.Common.{◌≡◌, ℕ, ◌+◌, ◌*◌, ◌<◌, ◌≤◌, min, List, [], ◌∷◌, map, length, Bool, true, false, ltb, Option, Some, None, refl, sym, ap, ap₂, ◌∙◌, arith}
use Rattle.std.specs.Prelude.{if◌then◌else◌}
use Rattle.std.specs.List.{sum_by}
use Rattle.std.proofs.lemmas.Bool.{lt-ltb}
use Rattle.std.proofs.lemmas.List.Sums.{sum_by-cons}
use Rattle.ob_types.specs.Layout.{cells_of_all}
use Rattle.ob_types.specs.Meaning.{locals_of, texts_of}
use Rattle.ob_types.specs.Table.{Table}
use Rattle.ob_types.specs.declared.program.Module.{Module}
use Rattle.ob_types.specs.declared.program.Procedure.{Procedure}
use Rattle.ob_types.specs.declared.program.Program.{Program}
use Rattle.ob_types.proofs.Tests.{none_some}
use Rattle.ssa_lowered.specs.Data.{within}
use Rattle.ssa_lowered.specs.Limits.{Limit, or_else, global_cells, constant_cells}
use Rattle.ssa_exprs.specs.declared.tables.ProgramTables.{ProgramTables}
use Rattle.ssa_tables.specs.Faults.{first_limit, last_limit}
use Rattle.ssa_tables.specs.Local.{pair_of, declared_in, local_limit}
use Rattle.ssa_tables.specs.Places.{finish, module_finish, type_cells_by, string_cells}
use Rattle.ssa_tables.specs.Shared.{ServesAll}
use Rattle.ssa_tables.specs.declared.locals.Variable.{Variable}
use Rattle.ob_types.specs.Layout.{cells}
use Rattle.ssa_tables.proofs.Placing.{finish_is, module_finish_is, not_less}
use Rattle.ssa_tables.proofs.Rooms.{globals_length}
use Rattle.ssa_tables.proofs.Variables.{declared_types, declared_cells_are}

abbrev told : ℕ → Bool → Option Limit
told n over = if over then Some (record { number = n; index = 0 }) else None

pub globals_passed : (p : Program) → length p.procedures ≤ 4096 → 1048576 < global_cells p → first_limit p ≡ Some (record { number = 53; index = 0 })
globals_passed p le lt = ap₂ (λ a b. or_else (told 52 a) (told 53 b)) (not_less 4096 (length p.procedures) le) (lt-ltb 1048576 (global_cells p) lt)

pub first_within : (p : Program) → length p.procedures ≤ 4096 → global_cells p ≤ 1048576 → first_limit p ≡ None
first_within p le few = ap₂ (λ a b. or_else (told 52 a) (told 53 b)) (not_less 4096 (length p.procedures) le) (not_less 1048576 (global_cells p) few)

few_globals : (p : Program) → first_limit p ≡ None → global_cells p ≤ 1048576
few_globals p h = by (ltb 4096 (length p.procedures)) (ltb 1048576 (global_cells p)) refl refl
  where
    less_or_not : (a b : ℕ) → ltb a b ≡ false → b ≤ a
    less_or_not a b is = grind (arith, is)

    by : (a b : Bool) → ltb 4096 (length p.procedures) ≡ a → ltb 1048576 (global_cells p) ≡ b → global_cells p ≤ 1048576
    by a false is at = less_or_not 1048576 (global_cells p) at
    by true true is at = none_some (record { number = 52; index = 0 }) (sym h ∙ ap₂ (λ x y. or_else (told 52 x) (told 53 y)) is at)
    by false true is at = none_some (record { number = 53; index = 0 }) (sym h ∙ ap₂ (λ x y. or_else (told 52 x) (told 53 y)) is at)

-- the cells of the variables of all modules
module _ (p : Program) (counts : List ℕ) (counted : (k : ℕ) → type_cells_by counts k ≡ cells p.types k) where
  counts_are : (ks : List ℕ) → sum_by (type_cells_by counts) ks ≡ cells_of_all p.types ks
  counts_are [] = refl
  counts_are (k ∷ ks) = sum_by-cons (type_cells_by counts) k ks ∙ ap₂ (λ a b. a + b) (counted k) (counts_are ks) ∙ sym (sum_by-cons (λ x. x) (cells p.types k) (map (cells p.types) ks))

  abbrev counts_in : Module → ℕ
  counts_in m = sum_by (type_cells_by counts) m.variables

  all_counts : (ms : List Module) → sum_by counts_in ms ≡ sum_by (λ m. cells_of_all p.types m.variables) ms
  all_counts [] = refl
  all_counts (m ∷ ms) = sum_by-cons counts_in m ms ∙ ap₂ (λ a b. a + b) (counts_are m.variables) (all_counts ms) ∙ sym (sum_by-cons (λ (x : Module). cells_of_all p.types x.variables) m ms)

  pub module_cells_are : module_finish (type_cells_by counts) 1 p.modules ≡ within (global_cells p)
  module_cells_are = let e = all_counts p.modules in module_finish_is (type_cells_by counts) 1 p.modules (omega arith) ∙ omega (arith, e)

-- those of descriptors and strings
pub constants_counted : (p : Program) (first n : ℕ) → first ≡ min (16 * length p.types.records) 16777215 → n ≡ finish string_cells first (texts_of p.procedures) → n ≡ min (constant_cells p) 16777215
constants_counted p first n is are =
    let e = are ∙ finish_is string_cells first (texts_of p.procedures) (omega (arith, is)) in
    omega (arith, is, e)

pub constants_passed : (p : Program) (n : ℕ) → n ≡ min (constant_cells p) 16777215 → 262144 < n → last_limit p ≡ Some (record { number = 58; index = 0 })
constants_passed p n is lt = ap (told 58) (lt-ltb 262144 (constant_cells p) (omega (arith, is, lt)))

pub constants_within : (p : Program) (n : ℕ) → n ≡ min (constant_cells p) 16777215 → n ≤ 262144 → last_limit p ≡ None
constants_within p n is le = ap (told 58) (not_less 262144 (constant_cells p) (omega (arith, is, le)))

-- where few cells are globals, these end early
pub few_descriptors : (x : ProgramTables) (p : Program) → ServesAll x p → first_limit p ≡ None → x.descriptors ≤ 8388608
few_descriptors x p serves first =
    let a = serves.descriptor 0 in
    let b = globals_length p in
    let c = few_globals p first in
    omega (arith, a, b, c)

-- a procedure's variables
module _ (t : Table) (counts : List ℕ) (counted : (k : ℕ) → type_cells_by counts k ≡ cells t k) (p : Program) (f : ℕ) (q : Procedure) (of_table : p.types ≡ t) (vs : List Variable) (declared : map pair_of vs ≡ declared_in q) where
  all_cells : finish (λ (v : Variable). type_cells_by counts v.type_number) 0 vs ≡ within (cells_of_all p.types (locals_of q))
  all_cells = declared_cells_are t counts counted vs ∙ ap₂ (λ u ks. within (cells_of_all u ks)) (sym of_table) (declared_types q vs declared)

  abbrev told_of : Bool → Option Limit
  told_of over = if over then Some (record { number = 59; index = f }) else None

  pub locals_passed : 1048576 < finish (λ (v : Variable). type_cells_by counts v.type_number) 0 vs → local_limit p f q ≡ Some (record { number = 59; index = f })
  locals_passed lt = let a = all_cells in ap told_of (lt-ltb 1048576 (cells_of_all p.types (locals_of q)) (omega (arith, a, lt)))

  pub locals_within : finish (λ (v : Variable). type_cells_by counts v.type_number) 0 vs ≤ 1048576 → local_limit p f q ≡ None
  locals_within le = let a = all_cells in ap told_of (not_less 1048576 (cells_of_all p.types (locals_of q)) (omega (arith, a, le)))
