-- Which limit lowering passes first.
use Rattle.std.specs.Prelude.{ℕ, suc, ◌+◌, ◌*◌, List, [], ◌∷◌, length, sum_by, nat_le, nat_lt, option_to_list, Bool, Option, Some, None, if◌then◌else◌}
use Rattle.std.specs.List.{list_any}
use Rattle.size_limits.specs.Limits.{most_values, most_blocks}
use Rattle.ob_types.specs.Layout.{cells_of_all}
use Rattle.ob_types.specs.Meaning.{locals_of, texts_of}
use Rattle.ob_types.specs.declared.program.Procedure.{Procedure}
use Rattle.ob_types.specs.declared.program.Program.{Program}
use Rattle.ssa_lowered.specs.Data.{Layout, layout}
use Rattle.ssa_lowered.specs.Pieces.{Piece, Appends, Closes}
use Rattle.ssa_lowered.specs.Lowered.{made_of}

-- a limit that is passed, by its number, and the procedure's number where it is one of a procedure, else 0
pub record Limit : Type 0 where
  pub number : ℕ
  pub index : ℕ

-- one of these is a value past the last one that a procedure may have
abbrev pub too_many : List ℕ → Bool
too_many vs = list_any (λ v. nat_le most_values v) vs

-- too many values (50) or blocks (51): which comes first, where a block is begun before its parameters are made
abbrev pub passed : List Piece → Option ℕ
passed [] = None
passed (Appends b i op ∷ more) = if too_many (option_to_list op.def) then Some 50 else passed more
passed (Closes b i end start ∷ more) = if nat_le most_blocks (suc b) then Some 51 else if too_many start.params then Some 50 else passed more

abbrev pub or_else : Option Limit → Option Limit → Option Limit
or_else None b = b
or_else (Some a) b = Some a

abbrev pub at_procedure : ℕ → Option ℕ → Option Limit
at_procedure f None = None
at_procedure f (Some n) = Some (record { number = n; index = f })

-- a limit of the whole program, passed or not
abbrev pub passes : ℕ → Bool → Option Limit
passes n over = if over then Some (record { number = n; index = 0 }) else None

-- of a procedure: over 1,048,576 cells of local data (59), values, blocks
abbrev pub limit_in : Program → Layout → ℕ → Procedure → Option Limit
limit_in p l f q = if nat_lt 1048576 (cells_of_all p.types (locals_of q)) then Some (record { number = 59; index = f }) else at_procedure f (passed (made_of p l f q).pieces)

abbrev pub limits_from : Program → Layout → ℕ → List Procedure → Option Limit
limits_from p l f [] = None
limits_from p l f (q ∷ qs) = or_else (limit_in p l f q) (limits_from p l (suc f) qs)

-- the cells of the globals: In.Done's, and those of each module's variables
abbrev pub global_cells : Program → ℕ
global_cells p = suc (sum_by (λ m. cells_of_all p.types m.variables) p.modules)

-- the cells of the constants: 16 for each record type, and one for each character of a string and its 0X
abbrev pub constant_cells : Program → ℕ
constant_cells p = 16 * length p.types.records + sum_by (λ xs. suc (length xs)) (texts_of p.procedures)

-- over 4,096 procedures (52), over 1,048,576 cells of globals (53), procedure by procedure, over 262,144 cells of constants (58)
abbrev pub limit_by : Layout → Program → Option Limit
limit_by l p =
    or_else (passes 52 (nat_lt 4096 (length p.procedures)))
    (or_else (passes 53 (nat_lt 1048576 (global_cells p)))
    (or_else (limits_from p l 0 p.procedures)
    (passes 58 (nat_lt 262144 (constant_cells p)))))

abbrev pub limit_of : Program → Option Limit
limit_of p = limit_by (layout p.types) p
