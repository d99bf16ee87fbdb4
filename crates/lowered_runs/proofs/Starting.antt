-- How a program begins, lowered by a layout: memory holds the first store.
use Rattle.std.proofs.Common.{◌≡◌, ℕ, ◌+◌, ◌^◌, ◌<◌, ◌≤◌, List, [], length, Bool, true, false, cond, Option, Some, None, ap, arith}
use Rattle.std.specs.Prelude.{nat_lt, flat_map}
use Rattle.a64_memory.specs.Memory.{shapes, AreBytes}
use Rattle.a64_memory.specs.Areas.{data_base, local_base}
use Rattle.block_runs.specs.Blocks.{Procedure}
use Rattle.block_runs.specs.First.{first_state, first_world}
use Rattle.block_runs.specs.Points.{all_points}
use Rattle.ob_types.specs.Meaning.{start, texts_of}
use Rattle.ob_types.specs.Store.{Store}
use Rattle.ob_types.specs.WellFormed.{declarations_fine}
use Rattle.ob_types.specs.declared.program.Program.{Program}
use Rattle.ob_types.proofs.Tests.{none_some}
use Rattle.ssa_core.specs.Procedures.{procedures}
use Rattle.ssa_lowered.specs.Constants.{ancestor, address_of, text_bytes}
use Rattle.ssa_lowered.specs.Data.{Layout, IsLayout, globals_room, descriptor_at, text_at, within}
use Rattle.ssa_lowered.specs.Lowered.{procs_from}
use Rattle.held_stores.specs.First.{ConstantsAre, first_ground, first_memory, no_calls, global_from, entry_from}
use Rattle.held_stores.proofs.Starting.{first_held}
use Rattle.held_stores.proofs.Texts.{descriptors, length_descriptors}
use Rattle.std.proofs.lemmas.List.{length-append}
use Rattle.held_stores.specs.Held.{Held as HeldBy}
use Rattle.lowered_runs.specs.Words.{Whole, Level, Held, AreInput}
use Rattle.lowered_runs.specs.Claims.{ConstantsStandBy}
use Rattle.lowered_runs.proofs.Ancestors.{cell_below}

module _ (p : Program) (packed : Bool) (lay : Layout) (input : List ℕ) where
  abbrev pub code_by : List Procedure
  code_by = procedures (procs_from p lay 0 p.procedures)

  -- what the whole program is, with no procedure's object yet
  abbrev pub whole_of : (code : ℕ → ℕ) (constants : List ℕ) → ℕ → Whole
  whole_of code constants n = record {
    program = p;
    packed = packed;
    layout = lay;
    procedures = code_by;
    code = code;
    global = λ o v. global_from p lay o v;
    string = λ o. data_base + text_at p lay o;
    descriptor = λ r. data_base + within (descriptor_at p lay r);
    entry = λ x. entry_from p lay x;
    areas = shapes (first_memory (globals_room p lay) constants);
    points = all_points code_by;
    first = first_state (globals_room p lay) constants input;
    turns = n;
  }

  -- a module's body, the j-th
  abbrev pub body_level : ℕ → ℕ → Store → Level
  body_level q j s = record { proc = q; args = []; arguments = []; callers = []; body = j; local = local_base; sizes = []; frame = 0; slot = λ o v. None; types = []; count = 0; in_register = λ x. false; cell = λ x. 0; store = s }

  module _ (code : ℕ → ℕ) (constants : List ℕ) (n : ℕ) (laid : IsLayout packed p.types lay) (small : globals_room p lay + length constants ≤ 0x10000000) (are : AreBytes constants) (bytes : AreInput input)
      (standing : 0 < length p.types.records + length (texts_of p.procedures) → ConstantsStandBy p lay constants) (declared : declarations_fine p ≡ true) (q j : ℕ) where
    abbrev w : Whole
    w = whole_of code constants n

    abbrev coded : ℕ → Option ℕ
    coded f = cond (nat_lt f (length code_by)) (Some (code f)) None

    constants_are : ConstantsAre p lay constants
    constants_are = record { same = λ some. (standing some).same }

    low : (r i : ℕ) → r < length p.types.records → i < 16 → address_of p lay data_base (ancestor p.types i r) < 2 ^ 64
    low r i lt less =
        let b = cell_below p lay declared data_base i r lt in
        let stand = standing (omega (arith, lt)) in
        let same = ap (λ (bs : List ℕ). length bs) stand.same in
        let many = length_descriptors p lay data_base in
        let all = length-append (descriptors p lay data_base) (flat_map (text_bytes lay) (texts_of p.procedures)) in
        omega (arith, b, small, same, many, all)

    abbrev first : HeldBy (first_ground p packed lay coded constants) no_calls (start p input) (first_memory (globals_room p lay) constants)
    first = first_held p packed lay laid coded constants input small are constants_are low bytes

    -- there are no objects with tags yet
    pub first_held_by : Held w (body_level q j (start p input)) (start p input) (first_world (globals_room p lay) constants input).memory
    first_held_by = record {
      room = record {
        apart = λ t u x m y i a b. first.room.apart t u x m y i a b;
        lies = λ t x m a. first.room.lies t x m a;
        below = λ t x m a. first.room.below t x m a;
        heap_few = first.room.heap_few;
        heap_covered = λ x m lo hi. first.room.heap_covered x m lo hi;
        local_begins = first.room.local_begins;
        local_ends = first.room.local_ends;
        local_few = first.room.local_few;
        local_covered = λ x m lo hi. first.room.local_covered x m lo hi;
      };
      frames = first.frames;
      areas = first.areas;
      rises = first.rises;
      bytes = first.bytes;
      holds = λ a o v c b x f value node at is. first.holds a o v c b x f value node at is;
      tags = λ o t x is at. none_some t is;
      entries = λ x y e. first.entries x y e;
      tagged = first.tagged;
      counted = first.counted;
      zeros = λ x m le ends. first.zeros x m le ends;
      input = first.input;
    }
