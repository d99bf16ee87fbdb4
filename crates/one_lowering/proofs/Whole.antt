-- Lowering as a function of a program's form: of whole procedures, over what the program's types, modules and strings are.
use Rattle.std.specs.Prelude.{ℕ, zero, suc, ◌+◌, ◌-◌, ◌*◌, ◌==◌, ◌&&◌, List, [], ◌∷◌, ◌++◌, map, take, length, sum, sum_by, flat_map, filter, replicate, nat_lt, Bool, true, false, not, cond, Option, Some, None, slice_get, slice_index_or, if◌then◌else◌}
use Rattle.std.specs.Int.{to_le_bytes, w64}
use Rattle.std.specs.List.{list_any}
use Rattle.ob_types.specs.Trees.{round_up, no_extent, with_part}
use Rattle.ob_types.specs.declared.types.Extent.{Extent}
use Rattle.ob_types.specs.Meaning.{is_value}
use Rattle.block_runs.specs.declared.end.End.TheVariants.{Return}
use Rattle.block_runs.specs.declared.code.Code.TheVariants.{Local as LocalAt}
use Rattle.ssa_core.specs.declared.procedure.Proc.{Proc}
use Rattle.ssa_lowered.specs.Data.{rounded, within}
use Rattle.ssa_lowered.specs.Pieces.{Low, Made, give, ◌>>=◌, skip, emits, Mask, rest, numbers, blocks_of}
use Rattle.ssa_lowered.specs.Values.{const, Named, At, Held, local_at, store}
use Rattle.ssa_lowered.specs.Statements.{Deed}
use Rattle.ssa_lowered.specs.Variables.{either, words_by, Site, Register, Memory, further, zeroing, first_value, first_of}
use Rattle.ssa_lowered.specs.Lowered.{by_mode, entry, at_entry}
use Rattle.ssa_lowered.specs.Constants.{base_by}
use Rattle.ssa_lowered.specs.Limits.{Limit, passed, or_else, at_procedure, passes}
use Rattle.ob_judge.specs.Shapes.{Shape, Nothing}
use Rattle.ob_judge.specs.Image as I
use Rattle.one_lowering.proofs.Sizes.{shape_cells, small_shape, shape_extent, structured_shape}
use Rattle.one_lowering.proofs.Middle.{Asked, lent_statements, lent_answer, low_statements, low_answer}

-- what a string takes: a byte for each character and its 0X, so that the next one begins at a multiple of 8
abbrev pub string_room : List ℕ → ℕ
string_room cs = rounded (suc (length cs))

-- the record types, the modules, and the strings of each procedure
pub record Facts : Type 0 where
  pub records : List I.RecordType
  pub modules : List I.Module
  pub texts : List (List (List ℕ))

abbrev pub blank : I.RecordType
blank = record { module_number = 0; base = None; level = 0; fields = []; cells = 0; extent = no_extent }

abbrev pub no_module : I.Module
no_module = record { name = []; objects = []; variables = []; body = 0 }

abbrev pub word_count : List I.Formal → ℕ
word_count xs = sum_by (λ (x : I.Formal). words_by x.mode) xs

-- the types of scalar value parameters and local variables
abbrev pub local_shapes : I.Procedure → List Shape
local_shapes q = map (λ (x : I.Formal). x.shape) (filter (λ (x : I.Formal). is_value x.mode) q.formals) ++ q.locals

abbrev pub value_slots : ℕ → List I.Formal → List (Shape × Option ℕ)
value_slots w [] = []
value_slots w (x ∷ xs) = (if is_value x.mode then (x.shape, Some w) ∷ [] else []) ++ value_slots (w + words_by x.mode) xs

-- a variable: its word, whether it is an array or a record, whether it takes one byte, and where it is
pub record Slot : Type 0 where
  pub word : Option ℕ
  pub structured : Bool
  pub small : Bool
  pub site : Site

abbrev pub in_register : Site → Bool
in_register Register = true
in_register (Memory n) = false

abbrev pub no_slot : Slot
no_slot = record { word = None; structured = false; small = false; site = Register }

abbrev pub local_by : ℕ → Site → ℕ → Low Named
local_by bytes Register x = give (Held x)
local_by bytes (Memory n) x = local_at (bytes - n)

abbrev pub parameter_by : Option I.Formal → ℕ → Low Named
parameter_by (Some x) w = give (by_mode x.mode w)
parameter_by None w = do
  a ← const 0
  give (At a)

abbrev pub store_slot : ℕ → Slot → Site → Deed
store_slot all v Register = skip
store_slot all v (Memory n) =
    if v.structured then skip
    else do
      a ← emits (LocalAt (all - n)) []
      u ← first_value v.word
      store v.small a u

abbrev pub store_slots : ℕ → List Slot → Deed
store_slots all [] = skip
store_slots all (v ∷ vs) = store_slot all v v.site >>= λ _. store_slots all vs

abbrev pub open_slots : List Slot → Low (List ℕ)
open_slots [] = give []
open_slots (v ∷ vs) = do
  u ← first_of v.word v.site
  more ← open_slots vs
  give (u ∷ more)

abbrev pub enter : List ℕ → Deed
enter env c = record { pieces = []; result = tt; after = record c { env = env } }

module _ (x : Facts) where
  abbrev pub record_at : ℕ → I.RecordType
  record_at r = slice_index_or x.records r blank

  abbrev pub counted : ℕ → ℕ
  counted r = (record_at r).cells

  abbrev pub cells_in : Shape → ℕ
  cells_in s = shape_cells counted s

  -- what a record type and what a type takes in memory
  abbrev pub taken : ℕ → Extent
  taken r = (record_at r).extent

  abbrev pub extent_in : Shape → Extent
  extent_in s = shape_extent taken s

  abbrev pub size : Shape → ℕ
  size s = (extent_in s).bytes

  abbrev pub fields_in : ℕ → List Shape
  fields_in r = map (λ f. f.shape) (record_at r).fields

  -- what the base takes, where there is one
  abbrev pub base_extent : Option ℕ → Extent
  base_extent None = no_extent
  base_extent (Some b) = taken b

  -- what some part and fields behind it take, one behind the other
  abbrev pub with_parts : Extent → List Shape → Extent
  with_parts x [] = x
  with_parts x (s ∷ ss) = with_parts (with_part x (extent_in s)) ss

  -- a field stands behind the base and the fields before it, at a multiple of 8 where it has a part of eight bytes
  abbrev pub place : ℕ → ℕ → ℕ
  place r i = round_up (extent_in (slice_index_or (fields_in r) i Nothing)).wide (with_parts (base_extent (record_at r).base) (take i (fields_in r))).bytes

  abbrev pub room : Shape → ℕ
  room s = rounded (size s)

  abbrev pub rooms : List Shape → ℕ
  rooms ss = sum (map room ss)

  abbrev pub modules_room : ℕ → ℕ
  modules_room m = sum_by (λ (y : I.Module). rooms y.variables) (take m x.modules)

  abbrev pub variables_in : ℕ → List Shape
  variables_in m = (slice_index_or x.modules m no_module).variables

  abbrev pub global_place : ℕ → ℕ → ℕ
  global_place m v = 8 + (modules_room m + rooms (take v (variables_in m)))

  abbrev pub all_globals : ℕ
  all_globals = 8 + modules_room (length x.modules)

  abbrev pub descriptor_place : ℕ → ℕ
  descriptor_place r = all_globals + 128 * r

  abbrev pub strings : List (List ℕ)
  strings = flat_map (λ ts. ts) x.texts

  abbrev pub string_place : ℕ → ℕ
  string_place k = descriptor_place (length x.records) + sum_by string_room (take k strings)

  abbrev pub use_place : ℕ → ℕ → ℕ
  use_place f k = string_place (length (flat_map (λ ts. ts) (take f x.texts)) + k)

  -- ---- constants

  abbrev pub ancestor_within : ℕ → ℕ → ℕ → Option ℕ
  ancestor_within zero j r = None
  ancestor_within (suc depth) j r = if (record_at r).level == j then Some r else base_by (record_at r).base (ancestor_within depth j)

  abbrev pub address_of : ℕ → Option ℕ → ℕ
  address_of globals None = 0
  address_of globals (Some r) = globals + descriptor_place r

  abbrev pub descriptor_bytes : ℕ → ℕ → List ℕ
  descriptor_bytes globals r = flat_map (λ j. to_le_bytes w64 (address_of globals (ancestor_within (suc (length x.records)) j r))) (numbers 0 16)

  -- ---- a procedure

  abbrev pub structured_room : List Shape → ℕ
  structured_room ss = sum_by (λ s. if structured_shape s then room s else 0) ss

  abbrev pub scalars_lent : Mask → List Shape → ℕ
  scalars_lent lent [] = 0
  scalars_lent lent (s ∷ ss) = cond (lent 0 && not (structured_shape s)) 1 0 + scalars_lent (rest lent) ss

  abbrev pub placed : Mask → (structured scalar : ℕ) → List (Shape × Option ℕ) → List Slot
  placed lent a b [] = []
  placed lent a b (y ∷ ys) =
      if structured_shape y.0 then record { word = y.1; structured = structured_shape y.0; small = small_shape y.0; site = Memory a } ∷ placed (rest lent) (a + room y.0) b ys
      else if lent 0 then record { word = y.1; structured = structured_shape y.0; small = small_shape y.0; site = Memory b } ∷ placed (rest lent) a (b + 8) ys
      else record { word = y.1; structured = structured_shape y.0; small = small_shape y.0; site = Register } ∷ placed (rest lent) a b ys

  module _ (f : ℕ) (q : I.Procedure) where
    abbrev pub lent_in : Mask
    lent_in = either (lent_statements q.body) (lent_answer q.answer)

    abbrev pub zeroed : ℕ
    zeroed = structured_room (local_shapes q)

    abbrev pub slots : List Slot
    slots = placed lent_in 0 zeroed (value_slots 0 q.formals ++ map (λ s. (s, None)) q.locals)

    abbrev pub bytes : ℕ
    bytes = zeroed + 8 * scalars_lent lent_in (local_shapes q)

    abbrev pub site_of : ℕ → Site
    site_of v = (slice_index_or slots v no_slot).site

    abbrev pub asked : Asked
    asked = record {
      size = size;
      whole = counted;
      whole_bytes = λ r. (taken r).bytes;
      level = λ r. (record_at r).level;
      place = place;
      descriptor = λ r. within (descriptor_place r);
      global = global_place;
      text = λ k. within (use_place f k);
      parameter = λ k. parameter_by (slice_get q.formals k) (word_count (take k q.formals));
      local = λ v. local_by bytes (site_of v) v;
      register = λ v. in_register (site_of v);
    }

    abbrev pub low_whole : (words : ℕ) → Low (Option ℕ)
    low_whole words = do
      _ ← further 4 (words - 4)
      _ ← zeroing (list_any structured_shape q.locals) bytes zeroed
      _ ← store_slots bytes slots
      env ← open_slots slots
      _ ← enter env
      _ ← low_statements asked q.body
      low_answer asked q.answer

    abbrev pub low_made : Made (Option ℕ)
    low_made = low_whole (word_count q.formals) (at_entry (word_count q.formals))

    abbrev pub low_procedure : Proc
    low_procedure = record {
      blocks = blocks_of (entry (word_count q.formals)) [] (Return low_made.result) low_made.pieces;
      values = low_made.after.values;
      args = word_count q.formals;
      counted = not q.is_body;
      local_cells = sum (map cells_in (local_shapes q));
      local_bytes = bytes;
    }

  abbrev pub low_procedures : ℕ → List I.Procedure → List Proc
  low_procedures f [] = []
  low_procedures f (q ∷ qs) = low_procedure f q ∷ low_procedures (suc f) qs

-- the facts of a program with these strings
abbrev pub facts_of : I.Program → List (List (List ℕ)) → Facts
facts_of p texts = record { records = p.records; modules = p.modules; texts = texts }

abbrev pub low_program : I.Program → List (List (List ℕ)) → List Proc
low_program p texts = low_procedures (facts_of p texts) 0 p.procedures

-- a string, its 0X, and zeros up to a multiple of eight bytes
abbrev pub string_bytes : List ℕ → List ℕ
string_bytes cs = (cs ++ 0 ∷ []) ++ replicate (string_room cs - suc (length cs)) 0

-- descriptors and strings
abbrev pub low_constants : Facts → (globals : ℕ) → List ℕ
low_constants x globals = flat_map (descriptor_bytes x globals) (numbers 0 (length x.records)) ++ flat_map string_bytes (strings x)

---- Limits

module _ (x : Facts) where
  abbrev pub low_limit_in : ℕ → I.Procedure → Option Limit
  low_limit_in f q =
      if nat_lt 1048576 (sum (map (cells_in x) (local_shapes q))) then Some (record { number = 59; index = f })
      else at_procedure f (passed (low_made x f q).pieces)

  abbrev pub low_limits_from : ℕ → List I.Procedure → Option Limit
  low_limits_from f [] = None
  low_limits_from f (q ∷ qs) = or_else (low_limit_in f q) (low_limits_from (suc f) qs)

  abbrev pub low_global_cells : ℕ
  low_global_cells = suc (sum_by (λ (m : I.Module). sum (map (cells_in x) m.variables)) x.modules)

  abbrev pub low_constant_cells : ℕ
  low_constant_cells = 16 * length x.records + sum_by (λ cs. suc (length cs)) (strings x)

abbrev pub low_limit : I.Program → List (List (List ℕ)) → Option Limit
low_limit p texts =
    or_else (passes 52 (nat_lt 4096 (length p.procedures)))
    (or_else (passes 53 (nat_lt 1048576 (low_global_cells (facts_of p texts))))
    (or_else (low_limits_from (facts_of p texts) 0 p.procedures)
    (passes 58 (nat_lt 262144 (low_constant_cells (facts_of p texts))))))
