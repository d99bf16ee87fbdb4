-- What is claimed of a program that can run, from what its procedures do by a layout.
use Rattle.std.proofs.Common.{◌≡◌, ℕ, ◌+◌, ◌<◌, List, [], ◌∷◌, length, Bool, true, false, not, ◌||◌, refl, arith}
use Rattle.ob_types.specs.Meaning.{texts_of}
use Rattle.ob_types.specs.WellFormed.{is_empty}
use Rattle.ob_types.specs.declared.program.Program.{Program}
use Rattle.ob_types.specs.declared.types.RecordType.{RecordType}
use Rattle.ssa_lowered.specs.Data.{Layout, is_packed, layout}
use Rattle.ssa_lowered.proofs.Layouts.{packed_by_trees}
use Rattle.lowered_runs.specs.Claims.{CanRun, CanRunBy, KeepsUp, KeepsUpBy, has_constants}
use Rattle.lowered_runs.proofs.Programs.{keeps_up_by}

-- where there are record types or strings, there are constants
some_constants : (p : Program) → 0 < length p.types.records + length (texts_of p.procedures) → has_constants p ≡ true
some_constants p some = by p.types.records (texts_of p.procedures) some
  where
    by : (rs : List RecordType) (ts : List (List ℕ)) → 0 < length rs + length ts → (not (is_empty rs) || not (is_empty ts)) ≡ true
    by [] [] lt = absurd (omega (arith, lt))
    by [] (t ∷ ts) lt = refl
    by (r ∷ rs) ts lt = refl

pub keeps_up_in : (p : Program) (packed : Bool) (l : Layout) (input constants : List ℕ) (code : ℕ → ℕ) (n : ℕ) → CanRunBy p packed l input constants code → KeepsUpBy p l input constants code n
keeps_up_in p packed l input constants code n h = keeps_up_by p packed l h.laid h.character input code constants n h.fine h.numbers h.places h.room h.bytes (λ some. h.stands (some_constants p some))

-- in the layout in use
pub keeps_up : (p : Program) (input constants : List ℕ) (code : ℕ → ℕ) (n : ℕ) → CanRun p input constants code → KeepsUp p input constants code n
keeps_up p input constants code n h = keeps_up_in p is_packed (layout p.types) input constants code n (record {
  laid = packed_by_trees p.types;
  character = refl;
  fine = h.fine;
  numbers = h.numbers;
  bytes = h.bytes;
  places = h.places;
  room = h.room;
  stands = λ has. let s = h.stands has in record { same = s.same; near = s.near };
})
