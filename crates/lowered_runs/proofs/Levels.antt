-- What holds while a call runs: where its variables and parameters are.
use Rattle.std.proofs.Common.{◌≡◌, ℕ, suc, ◌+◌, ◌*◌, ◌<◌, ◌⊎◌, List, [], length, take, true, false, slice_get, Some}
use Rattle.std.specs.Prelude.{◌-◌, ◌==◌, slice_index_or}
use Rattle.wrapping_numbers.specs.Numbers.{sub64}
use Rattle.a64_memory.specs.Areas.{data_base}
use Rattle.ob_types.specs.Forms.{Small, Truth}
use Rattle.ob_types.specs.Layout.{kind_of, record_of, cells_of_all, extends}
use Rattle.ob_types.specs.Trees.{Array, Scalar, data_tree}
use Rattle.ob_types.specs.Meaning.{procedure_of, locals_of, globals_of, texts_of}
use Rattle.ob_types.specs.Store.{Globals, Strings, Handed}
use Rattle.ob_types.specs.Store.{Store as Objects, Here as Running}
use Rattle.ob_types.specs.WellFormed
use Rattle.ob_types.specs.WellFormed.{Named as Thing}
use Rattle.ob_types.specs.declared.program.Program.{Program}
use Rattle.ssa_lowered.specs.Data.{Layout, global_at, descriptor_at, text_at, within}
use Rattle.ssa_lowered.specs.Variables.{Register, Memory, is_structured, none, words_of}
use Rattle.ssa_lowered.specs.Lowered.{Here, here_of, variable_of, by_mode}
use Rattle.lowered_runs.specs.Words.{Whole, Level, local, AddressIs}
use Rattle.lowered_runs.proofs.Follows.{Fact, Steady}
use Rattle.lowered_runs.proofs.Designators.{NamedIs, steady_named}

-- the cell of a record type's descriptor at the level of another one
pub record Tells (w : Whole) (t r : ℕ) : Type 0 where
  pub cell : ℕ
  pub there : w.entry (w.descriptor t + 8 * (record_of w.program.types r).level) ≡ Some cell
  pub tells : (cell == w.descriptor r) ≡ extends w.program.types t r

-- it is the other one's descriptor just where the former extends it
pub record TellsExtensions (w : Whole) : Type 0 where
  pub by : (t r : ℕ) → t < length w.program.types.records → r < length w.program.types.records → Tells w t r

module _ (w : Whole) (l : Level) where
  abbrev pub program : Program
  program = w.program

  abbrev pub lay : Layout
  lay = w.layout

  abbrev pub here : Here
  here = here_of program lay l.proc (procedure_of program l.proc)

  abbrev pub running : Running
  running = record { procedure = l.proc; frame = l.frame; arguments = l.arguments }

  abbrev pub locals : List ℕ
  locals = locals_of (procedure_of program l.proc)

  -- where a local variable is
  abbrev pub LocalIs : ℕ → ℕ → Type 0
  LocalIs x k = (((variable_of program lay here x).site ≡ Register) × (l.in_register x ≡ true) × (is_structured (kind_of program.types k) ≡ false))
      ⊎ ((n : ℕ) × ((variable_of program lay here x).site ≡ Memory n) × (l.in_register x ≡ false) × ((s : Objects) → AddressIs w l (local l x) (data_tree program.types k) (sub64 l.local (here.bytes - n)) s))

  -- where variables and descriptors are
  pub record Variables : Type 0 where
    pub cell : (x : ℕ) → l.cell x ≡ cells_of_all program.types (take x locals)
    pub count : l.count ≡ length locals
    pub local : (x k : ℕ) → slice_get locals x ≡ Some k → LocalIs x k
    pub global : (m v k : ℕ) → slice_get (globals_of program m) v ≡ Some k → (s : Objects) → AddressIs w l (record { area = Globals; object = suc m; cell = cells_of_all program.types (take v (globals_of program m)) }) (data_tree program.types k) (data_base + global_at program lay m v) s
    pub descriptor : (r : ℕ) → w.descriptor r ≡ data_base + within (descriptor_at program lay r)
    pub text : (o : ℕ) (xs : List ℕ) → slice_get (texts_of program.procedures) o ≡ Some xs → (s : Objects) → AddressIs w l (record { area = Strings; object = o; cell = 0 }) (Array (suc (length xs)) (Scalar Small)) (data_base + within (text_at program lay o)) s
    pub types : slice_index_or l.types l.frame [] ≡ locals
    pub tells : TellsExtensions w
    pub done : (s : Objects) → AddressIs w l (record { area = Globals; object = 0; cell = 0 }) (Scalar Truth) (data_base + 0) s

  -- parameters that are addresses have their words
  abbrev pub Given : Fact
  Given n f s = (k : ℕ) (x : _) (h : Handed) (d : Thing) → slice_get (procedure_of program l.proc).formals k ≡ Some x → slice_get l.arguments k ≡ Some h → WellFormed.parameter_by program x.mode x.type_number x.variable ≡ Some d
      → NamedIs w l none d h (by_mode x.mode (words_of (take k (procedure_of program l.proc).formals))) n f s

  pub steady_given : Steady w l Given
  steady_given = record { by = λ n m f g s t le same later given k x h d at is by. (steady_named w l none d h (by_mode x.mode (words_of (take k (procedure_of program l.proc).formals)))).by n m f g s t le same later (given k x h d at is by) }
