-- When all that is in scope between declarations stands for something well-formed in the whole program.
use Rattle.std.specs.Prelude.{◌≡◌, ◌<◌, ℕ, List, [], ◌∷◌, true, Option, Some, slice_get}
use Rattle.ob_judge.specs.Shapes.{Shape, Added, Layout, contains}
use Rattle.ob_judge.specs.Shapes.{Field as FieldOf}
use Rattle.ob_judge.specs.Image.{Global}
use Rattle.ob_judge.specs.Scopes.{Object, AVariable, Entry, KnownModule, World, is_visible}
use Rattle.judged_well.specs.Standing.{is_whole, is_own, good, ObjectStands}
use Rattle.judged_modules.specs.Final.{Final, setting_in}

-- a type that variables may have
abbrev pub IsGood : Final → Shape → Type 0
IsGood w s = (good (setting_in w 0) s ≡ true) × (is_whole s ≡ true)

-- a variable of this module, or of one of its procedures
abbrev pub IsInModule : Final → (module_number : ℕ) → Object → Type 0
IsInModule w n (AVariable v) = is_own (setting_in w 0) n v.place ≡ true
IsInModule w n o = Unit {0}

-- a variable of an earlier module
abbrev pub IsEarlier : (module_number : ℕ) → Object → Type 0
IsEarlier n (AVariable v) = (m : ℕ) × (j : ℕ) × (v.place ≡ Global m j) × (m < n)
IsEarlier n o = Unit {0}

-- in each procedure that sees it
abbrev pub IsKept : Final → (module_number : ℕ) → Object → Type 0
IsKept w n o = (f : ℕ) → is_visible (Some f) o ≡ true → ObjectStands (setting_in w f) o × IsInModule w n o

-- everywhere
abbrev pub IsOffered : Final → (module_number : ℕ) → Object → Type 0
IsOffered w n o = ((f : ℕ) → ObjectStands (setting_in w f) o) × IsEarlier n o

-- what holds of all objects of these scopes
abbrev pub AllNames : (Object → Type 0) → List (List ℕ → Option Entry) → Type 0
AllNames P [] = Unit {0}
AllNames P (l ∷ ls) = ((q : List ℕ) (x : Entry) → l q ≡ Some x → P x.object) × AllNames P ls

-- a field of a record type with this line, among these record types: one of the line adds it, and it is of a type that variables may have
pub record FieldKept (w : Final) (records : List Layout) (line : List ℕ) (f : FieldOf) : Type 0 where
  pub among : contains f.adder line ≡ true
  pub adds : Layout
  pub there : slice_get records f.adder ≡ Some adds
  pub added : Added
  pub stands : slice_get adds.added f.number ≡ Some added
  pub shape : added.shape ≡ f.shape
  pub good : IsGood w f.shape

pub record Sound (w : Final) (v : World) : Type 0 where
  pub names : AllNames (IsKept w v.module_number) v.levels
  pub members : (n : ℕ) (m : KnownModule) → slice_get v.modules n ≡ Some m → (q : List ℕ) (x : Entry) → m.names q ≡ Some x → IsOffered w v.module_number x.object
  pub fields : (r : ℕ) (l : Layout) (q : List ℕ) (f : FieldOf) → slice_get v.known.records r ≡ Some l → l.fields q ≡ Some f → FieldKept w v.known.records l.line f
  pub narrowed : v.narrowed ≡ []

-- what is seen in this procedure, or between procedures, is seen in procedure f
pub record IsHere (procedure : Option ℕ) (f : ℕ) : Type 0 where
  pub seen : (o : Object) → is_visible procedure o ≡ true → is_visible (Some f) o ≡ true
