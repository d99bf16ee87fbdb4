-- The meaning as a function of a program's form: of whole programs.
use Rattle.std.specs.Prelude.{ℕ, zero, suc, ◌+◌, List, [], ◌∷◌, ◌++◌, map, take, length, sum, sum_by, flat_map, filter, replicate, Bool, false, ◌||◌, ◌==◌, Option, Some, None, slice_index_or}
use Rattle.run_laws.specs.Runs.{Outcome}
use Rattle.run_laws.specs.Turns.{outcome}
use Rattle.ob_types.specs.Layout.{or_base, base_cells}
use Rattle.ob_types.specs.Store.{Cell, Bits, Store, Trap}
use Rattle.ob_types.specs.Meaning.{is_value}
use Rattle.ob_judge.specs.Shapes.{Shape, Array, Open, Record, Nothing}
use Rattle.ob_judge.specs.Image as I
use Rattle.one_lowering.proofs.Sizes.{shape_cells}
use Rattle.one_lowering.proofs.Whole.{blank, no_module}
use Rattle.one_meaning.proofs.Meant.{Asked, Invoked, mean_bodies}

-- what stands for a procedure that isn't there
abbrev pub no_form : I.Procedure
no_form = record { module_number = 0; line = 0; is_body = false; formals = []; result = Nothing; locals = []; texts = []; body = I.no_statement; answer = None }

-- the types of scalar value parameters and local variables
abbrev pub local_shapes : I.Procedure → List Shape
local_shapes q = map (λ (x : I.Formal). x.shape) (filter (λ (x : I.Formal). is_value x.mode) q.formals) ++ q.locals

-- the cells of a variable that is an array or a record
abbrev pub structured_in : Shape → ℕ → ℕ
structured_in (Array n s) cells = cells
structured_in (Open s) cells = cells
structured_in (Record r) cells = cells
structured_in s cells = 0

-- the record types, modules and procedures of the form, and the strings of each procedure
module _ (i : I.Program) (texts : List (List (List ℕ))) where
  abbrev pub record_at : ℕ → I.RecordType
  record_at r = slice_index_or i.records r blank

  abbrev pub counted : ℕ → ℕ
  counted r = (record_at r).cells

  abbrev pub size : Shape → ℕ
  size s = shape_cells counted s

  abbrev pub sizes : List Shape → ℕ
  sizes ss = sum (map size ss)

  abbrev pub fields_in : ℕ → List Shape
  fields_in r = map (λ f. f.shape) (record_at r).fields

  abbrev pub place : ℕ → ℕ → ℕ
  place r n = base_cells (record_at r).base counted + sizes (take n (fields_in r))

  abbrev pub extends_within : ℕ → ℕ → ℕ → Bool
  extends_within zero r b = r == b
  extends_within (suc depth) r b = r == b || or_base (record_at r).base (λ a. extends_within depth a b)

  abbrev pub variables_in : ℕ → List Shape
  variables_in m = (slice_index_or i.modules m no_module).variables

  abbrev pub procedure_at : ℕ → I.Procedure
  procedure_at f = slice_index_or i.procedures f no_form

  abbrev pub asked : Asked
  asked = record {
    size = size;
    whole = counted;
    place = place;
    extends = extends_within (length i.records);
    global = λ m v. sizes (take v (variables_in m));
    local = λ f v. sizes (take v (local_shapes (procedure_at f)));
    text = λ f k. length (flat_map (λ ts. ts) (take f texts)) + k;
  }

  abbrev pub zeroed : List Shape → ℕ
  zeroed ss = sum_by (λ s. structured_in s (size s)) ss

  abbrev pub invoked_at : ℕ → Invoked
  invoked_at f = record { form = procedure_at f; zeroed = zeroed (procedure_at f).locals; own = sizes (procedure_at f).locals }

  abbrev pub zeros : List Shape → List Cell
  zeros ss = replicate (sizes ss) (Bits 0)

  abbrev pub mean_start : List ℕ → Store
  mean_start input = record {
    globals = (Bits 0 ∷ []) ∷ map (λ (m : I.Module). zeros m.variables) i.modules;
    frames = [];
    heap = [];
    tags = [];
    strings = map (λ xs. map Bits xs ++ Bits 0 ∷ []) (flat_map (λ ts. ts) texts);
    input = input;
  }

  abbrev pub mean_program : List ℕ → ℕ → Outcome Trap
  mean_program input n = outcome (mean_bodies asked invoked_at n i.modules (record { store = mean_start input; out = []; turns = n }))
