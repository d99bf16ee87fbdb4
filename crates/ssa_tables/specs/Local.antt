-- A procedure's variables, as code holds them, and their places.
use Rattle.std.specs.Prelude.{◌≡◌, ℕ, suc, ◌+◌, ◌-◌, ◌++◌, List, [], ◌∷◌, map, Bool, true, false, nat_lt, if◌then◌else◌, Option, Some, None, slice_set}
use Rattle.ob_types.specs.Layout.{kind_of, cells_of_all}
use Rattle.ob_types.specs.Meaning.{locals_of}
use Rattle.ob_types.specs.Table.{Table}
use Rattle.ob_types.specs.declared.types.Mode.{Mode}
use Rattle.ob_types.specs.declared.types.Mode.TheVariants.{Record as OfRecord, Open as OfOpen}
use Rattle.ob_types.specs.declared.types.Formal.{Formal}
use Rattle.ob_types.specs.declared.program.Procedure.{Procedure}
use Rattle.ob_types.specs.declared.program.Program.{Program}
use Rattle.ssa_lowered.specs.Data.{layout, within}
use Rattle.ssa_lowered.specs.Limits.{Limit}
use Rattle.ssa_lowered.specs.Lowered.{here_of, zeroed_bytes}
use Rattle.ssa_lowered.specs.Variables.{Site, Register, Memory, is_structured, value_parameters, words_by}
use Rattle.ssa_lowered.specs.Variables.{Variable as VariableThere}
use Rattle.ssa_exprs.specs.declared.named.Named.{Named}
use Rattle.ssa_exprs.specs.declared.named.Named.TheVariants.{At, Beside}
use Rattle.ssa_tables.specs.Places.{room_by}
use Rattle.ssa_tables.specs.declared.locals.Variable.{Variable}
use Rattle.ssa_tables.specs.declared.locals.Locals.{Locals}
use Rattle.ssa_tables.specs.declared.locals.Ends.{Ends}

-- a variable's type and argument word, which is what is declared
abbrev pub pair_of : Variable → ℕ × Option ℕ
pair_of v = (v.type_number, v.word)

abbrev pub declared_in : Procedure → List (ℕ × Option ℕ)
declared_in q = value_parameters 0 q.formals ++ map (λ k. (k, None)) q.locals

-- where it is
abbrev pub site_of : Option ℕ → Site
site_of None = Register
site_of (Some n) = Memory n

abbrev pub seen : Variable → VariableThere
seen v = record { type_number = v.type_number; word = v.word; site = site_of v.place }

-- these marks, and one at each number of a list
abbrev pub marked : List ℕ → List Bool → List Bool
marked [] ms = ms
marked (x ∷ xs) ms = marked xs (slice_set ms x true)

-- where the next structured variable and the next scalar stand; which of the two a variable is, and what then comes next
abbrev pub place_in : (structured lent : Bool) → Ends → Option ℕ
place_in true lent e = Some e.structured
place_in false true e = Some e.scalar
place_in false false e = None

abbrev pub ends_behind : (structured lent : Bool) → ℕ → Ends → Ends
ends_behind true lent room e = record e { structured = within (e.structured + room) }
ends_behind false true room e = record e { scalar = within (e.scalar + 8) }
ends_behind false false room e = e

module _ (t : Table) (sizes : List ℕ) where
  abbrev pub structured_size : Variable → ℕ
  structured_size v = if is_structured (kind_of t v.type_number) then room_by sizes v.type_number else 0

  -- variables with their places, by a mark for each whose address is made
  abbrev pub placed_by : List Bool → Ends → List Variable → List Variable
  placed_by (m ∷ ms) e (v ∷ vs) =
      record v { place = place_in (is_structured (kind_of t v.type_number)) m e }
      ∷ placed_by ms (ends_behind (is_structured (kind_of t v.type_number)) m (room_by sizes v.type_number) e) vs
  placed_by _ e _ = []

  abbrev pub ends_by : List Bool → Ends → List Variable → Ends
  ends_by (m ∷ ms) e (v ∷ vs) = ends_by ms (ends_behind (is_structured (kind_of t v.type_number)) m (room_by sizes v.type_number) e) vs
  ends_by _ e _ = e

-- the variables of a procedure of a program, their cells, and the bytes of its local data
pub record AreLocals (x : Locals) (p : Program) (f : ℕ) (q : Procedure) : Type 0 where
  pub variables : map seen x.variables ≡ (here_of p (layout p.types) f q).variables
  pub cells : x.cells ≡ cells_of_all p.types (locals_of q)
  pub bytes : x.bytes ≡ (here_of p (layout p.types) f q).bytes
  pub structured : x.structured ≡ zeroed_bytes p (layout p.types) q

-- the limit of a procedure's local data
abbrev pub local_limit : Program → ℕ → Procedure → Option Limit
local_limit p f q = if nat_lt 1048576 (cells_of_all p.types (locals_of q)) then Some (record { number = 59; index = f }) else None

-- the distance from the end of the local data
abbrev pub distance : ℕ → Option ℕ → Option ℕ
distance bytes None = None
distance bytes (Some n) = Some (bytes - n)

-- what parameters name, the first of which begins at an argument word
abbrev pub name_by : Mode → ℕ → Named
name_by OfRecord w = Beside w (suc w)
name_by OfOpen w = Beside w (suc w)
name_by _ w = At w

abbrev pub parameters_from : ℕ → List Formal → List Named
parameters_from w [] = []
parameters_from w (x ∷ xs) = name_by x.mode w ∷ parameters_from (w + words_by x.mode) xs
