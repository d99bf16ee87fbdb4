-- Types, and what is known of types, of which all record types are of a sort.
use Rattle.std.specs.Prelude.{◌≡◌, ℕ, List, Some, slice_get}
use Rattle.ob_judge.specs.Shapes.{Shape, Array, Open, Record, Procedure, Formals, none, one, Layout}
use Rattle.ob_judge.specs.Shapes.{Field as FieldOf}
use Rattle.ob_judge.specs.Image.{Constant, Bits}
use Rattle.ob_judge.specs.Scopes.{Object, AConstant, AType, AVariable, AProcedure, Entry, KnownModule, Narrowing, World}
use Rattle.judged_modules.specs.Sound.{AllNames}
use Rattle.judged_modules.specs.Lists.{Each}

-- a type, with its parts
abbrev mutual
  pub RecordsAmong : (ℕ → Type 0) → Shape → Type 0
  RecordsAmong P (Array m a) = RecordsAmong P a
  RecordsAmong P (Open a) = RecordsAmong P a
  RecordsAmong P (Record r) = P r
  RecordsAmong P (Procedure ps s) = AllRecordsAmong P ps × RecordsAmong P s
  RecordsAmong P s = Unit {0}

  -- the types of all parameters
  pub AllRecordsAmong : (ℕ → Type 0) → Formals → Type 0
  AllRecordsAmong P none = Unit {0}
  AllRecordsAmong P (one v s ps) = RecordsAmong P s × AllRecordsAmong P ps

abbrev pub ConstantRecords : (ℕ → Type 0) → Constant → Type 0
ConstantRecords P (Bits s bits) = RecordsAmong P s
ConstantRecords P c = Unit {0}

-- what a name stands for
abbrev pub ObjectRecords : (ℕ → Type 0) → Object → Type 0
ObjectRecords P (AConstant c) = ConstantRecords P c
ObjectRecords P (AType s) = RecordsAmong P s
ObjectRecords P (AVariable v) = RecordsAmong P v.shape
ObjectRecords P (AProcedure f s is_local) = RecordsAmong P s
ObjectRecords P o = Unit {0}

-- all names of a module
abbrev pub OffersRecords : (ℕ → Type 0) → KnownModule → Type 0
OffersRecords P m = (q : List ℕ) (x : Entry) → m.names q ≡ Some x → ObjectRecords P x.object

-- all fields of a record type
abbrev pub FieldsRecords : (ℕ → Type 0) → Layout → Type 0
FieldsRecords P l = (q : List ℕ) (f : FieldOf) → l.fields q ≡ Some f → RecordsAmong P f.shape

abbrev pub NarrowingRecords : (ℕ → Type 0) → Narrowing → Type 0
NarrowingRecords P x = RecordsAmong P x.shape

-- all that is in scope
pub record RecordsInScope (P : ℕ → Type 0) (w : World) : Type 0 where
  pub names : AllNames (ObjectRecords P) w.levels
  pub members : (k : ℕ) (m : KnownModule) → slice_get w.modules k ≡ Some m → OffersRecords P m
  pub fields : (r : ℕ) (l : Layout) → slice_get w.known.records r ≡ Some l → FieldsRecords P l
  pub narrowed : Each (NarrowingRecords P) w.narrowed
