-- How a program begins: the memory, and where things stand in it.
use Rattle.std.specs.Prelude.{◌≡◌, ℕ, zero, suc, ◌+◌, ◌-◌, ◌*◌, ◌/◌, ◌%◌, ◌<◌, ◌==◌, ◌&&◌, List, [], ◌∷◌, ◌++◌, length, replicate, Bool, nat_le, nat_lt, Option, Some, None, if◌then◌else◌}
use Rattle.a64_memory.specs.Memory.{Area, shapes}
use Rattle.a64_memory.specs.Areas.{data_base, local_base, heap_base, local_bytes, heap_bytes, zeroed}
use Rattle.ob_types.specs.Meaning.{texts_of}
use Rattle.ob_types.specs.declared.program.Program.{Program}
use Rattle.ssa_lowered.specs.Constants.{ancestor, address_of}
use Rattle.ssa_lowered.specs.Constants.{constants as own_constants}
use Rattle.ssa_lowered.specs.Data.{Layout, global_at, globals_room, descriptor_at, text_at}
use Rattle.held_stores.specs.Places.{Ground, Active}

-- globals of so many bytes, all 0, with the constants behind them; empty local data and an empty heap
abbrev pub first_memory : ℕ → List ℕ → List Area
first_memory globals constants = record { base = data_base; bytes = replicate globals 0 ++ constants } ∷ zeroed local_base local_bytes ∷ zeroed heap_base heap_bytes ∷ []

module _ (p : Program) (l : Layout) where
  abbrev pub global_from : ℕ → ℕ → ℕ
  global_from zero v = data_base
  global_from (suc m) v = data_base + global_at p l m v

  -- cell k of all descriptors
  abbrev pub descriptor_cell : ℕ → ℕ
  descriptor_cell k = address_of p l data_base (ancestor p.types (k % 16) (k / 16))

  -- what stands at an address that is a descriptor's cell's
  abbrev pub entry_from : ℕ → Option ℕ
  entry_from x =
      if nat_le (data_base + globals_room p l) x && (nat_lt x (data_base + globals_room p l + 128 * length p.types.records) && ((x - (data_base + globals_room p l)) % 8 == 0))
      then Some (descriptor_cell ((x - (data_base + globals_room p l)) / 8))
      else None

  -- where there are record types or strings, the constants are the program's own
  pub record ConstantsAre (constants : List ℕ) : Type 0 where
    pub same : 0 < length p.types.records + length (texts_of p.procedures) → constants ≡ own_constants p l data_base

abbrev pub first_ground : Program → (packed : Bool) → Layout → (code : ℕ → Option ℕ) → (constants : List ℕ) → Ground
first_ground p packed l code constants = record {
  program = p;
  packed = packed;
  global = λ o v. global_from p l o v;
  string = λ o. data_base + text_at p l o;
  descriptor = λ r. data_base + descriptor_at p l r;
  entry = λ x. entry_from p l x;
  code = code;
  areas = shapes (first_memory (globals_room p l) constants);
}

-- no call is active
abbrev pub no_calls : Active
no_calls = record { types = []; slot = λ o v. None; cells = []; local = local_base }
