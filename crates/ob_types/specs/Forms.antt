-- What the cells of a type are for: the forms that their values have.
use Rattle.std.specs.Prelude.{ℕ, zero, suc, ◌+◌, List, [], ◌∷◌, ◌++◌, length, Bool, true, false, ◌&&◌, Option, Some, None}
use Rattle.ob_types.specs.Layout.{kind_of, record_of, types_of}
use Rattle.ob_types.specs.declared.types.TypeKind.{TypeKind}
use Rattle.ob_types.specs.declared.types.TypeKind.TheVariants.{Int, Char, Byte, Array}
use Rattle.ob_types.specs.declared.types.TypeKind.TheVariants.{Bool as Boolean, Set as SetOf, Record as RecordOf, Pointer as PointerTo, Procedure as ProcedureOf}
use Rattle.ob_types.specs.Table.{Table}

-- what a cell or a value is: 0, which is NIL too; 0 or 1; a number below 256; one below 2 ^ 64; a pointer to this record or an extension of it; a procedure of this type; this procedure
pub data Form : Type 0 where
  Zero : Form
  Truth : Form
  Small : Form
  Number : Form
  ToRecord : (r : ℕ) → Form
  Routines : (k : ℕ) → Form
  Exactly : (f : ℕ) → Form

-- the form of a scalar type's cell
abbrev pub scalar_form : TypeKind → Option Form
scalar_form Int = Some Number
scalar_form Boolean = Some Truth
scalar_form SetOf = Some Number
scalar_form Char = Some Small
scalar_form Byte = Some Small
scalar_form (PointerTo r) = Some (ToRecord r)
scalar_form (ProcedureOf k) = Some (Routines k)
scalar_form _ = None

-- so many copies of a list, one after the other
abbrev pub repeated : {A : Type 0} → ℕ → List A → List A
repeated zero xs = []
repeated (suc n) xs = xs ++ repeated n xs

-- the lists of all these, one after the other
abbrev pub joined : {A : Type 0} → (ℕ → List A) → List ℕ → List A
joined f [] = []
joined f (k ∷ ks) = f k ++ joined f ks

abbrev pub base_forms : Option ℕ → (ℕ → List Form) → List Form
base_forms None forms = []
base_forms (Some b) forms = forms b

abbrev pub form_or_zero : Option Form → Form
form_or_zero None = Zero
form_or_zero (Some f) = f

abbrev pub forms_by : (ℕ → List Form) → (ℕ → List Form) → TypeKind → List Form
forms_by forms whole (Array (Some n) element) = repeated n (forms element)
forms_by forms whole (RecordOf r) = whole r
forms_by forms whole kind = form_or_zero (scalar_form kind) ∷ []

-- a test of each
abbrev pub all : {A : Type 0} → (A → Bool) → List A → Bool
all test [] = true
all test (x ∷ xs) = test x && all test xs

-- a test of each number below this
abbrev pub all_below : ℕ → (ℕ → Bool) → Bool
all_below zero test = true
all_below (suc n) test = test n && all_below n test

abbrev pub nests_by : (ℕ → Bool) → (ℕ → Bool) → TypeKind → Bool
nests_by nests whole (Array (Some n) element) = nests element
nests_by nests whole (RecordOf r) = whole r
nests_by nests whole _ = true

abbrev pub if_base : Option ℕ → (ℕ → Bool) → Bool
if_base None test = true
if_base (Some b) test = test b

module _ (t : Table) where
  -- the forms of a type's and of a record's cells, types nested at most so deep
  abbrev mutual
    pub forms_within : ℕ → ℕ → List Form
    forms_within zero k = []
    forms_within (suc depth) k = forms_by (forms_within depth) (record_forms_within depth) (kind_of t k)

    pub record_forms_within : ℕ → ℕ → List Form
    record_forms_within zero r = []
    record_forms_within (suc depth) r = base_forms (record_of t r).base (record_forms_within depth) ++ joined (forms_within depth) (types_of (record_of t r).fields)

  -- a type and a record are nested at most so deep
  abbrev mutual
    pub nests : ℕ → ℕ → Bool
    nests zero k = false
    nests (suc depth) k = nests_by (nests depth) (record_nests depth) (kind_of t k)

    pub record_nests : ℕ → ℕ → Bool
    record_nests zero r = false
    record_nests (suc depth) r = if_base (record_of t r).base (record_nests depth) && all (nests depth) (types_of (record_of t r).fields)

  -- a record's bases end after at most so many
  abbrev pub rooted : ℕ → ℕ → Bool
  rooted zero r = false
  rooted (suc depth) r = if_base (record_of t r).base (rooted depth)

  -- the forms of a type's cells, and of a record type's: no type is nested deeper than there are types
  unfoldable pub forms : ℕ → List Form
  forms k = forms_within (suc (length t.kinds + length t.records)) k

  unfoldable pub record_forms : ℕ → List Form
  record_forms r = record_forms_within (suc (length t.kinds + length t.records)) r

-- no type is nested in itself, and no record is its own base
abbrev pub types_fine : Table → Bool
types_fine t = all_below (length t.kinds) (nests t (suc (length t.kinds + length t.records)))
    && (all_below (length t.records) (record_nests t (suc (length t.kinds + length t.records)))
    && all_below (length t.records) (rooted t (suc (length t.records))))
