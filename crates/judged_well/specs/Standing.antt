-- What the judgement's operands, objects and worlds stand for in a setting, where they stand for something well-formed.
use Rattle.std.specs.Prelude.{◌≡◌, ◌<◌, ◌^◌, ◌+◌, ℕ, ℤ, suc, List, length, Bool, true, false, not, ◌&&◌, ◌||◌, ◌==◌, nat_lt, Option, Some, None, is_some, slice_get}
use Rattle.wrapping_numbers.specs.Numbers.{unsigned}
use Rattle.ob_types.specs.Forms.{all}
use Rattle.ob_symbol.specs.declared.symbol.Kind.TheVariants as TheKind
use Rattle.ob_judge.specs.Shapes.{Shape, Integer, Boolean, Nil, Nothing, Array, Open, Record, Pointer, Procedure, Formals, none, one, is_scalar, Field as FieldOf, base_of, record_extends}
use Rattle.ob_judge.specs.Shapes.{Text as TextShape}
use Rattle.ob_judge.specs.Image.{Expr, Literal, Result, Place, Done, Global, Local, Parameter, Call, Constant, Bits}
use Rattle.ob_judge.specs.Image.{Chars as TheChars}
use Rattle.ob_judge.specs.Scopes.{Home, ReadOnly, Tagged, Variable, Imported, Object, AConstant, AType, AVariable, AProcedure, Entry, Narrowing, World, Source, look_up, is_visible, symbol_at}
use Rattle.ob_judge.specs.Operands.{What, Named as ThePlace, Valued, Chars, Code, Proper, Use, AsVariable, Operand, is_narrowed, form as form_of}
use Rattle.ob_judge.specs.Names.{Stage, Whole, Partly, Ended, names_of, narrowing_of}
use Rattle.ob_judge.specs.Parts.{fields_of, is_procedure}
use Rattle.ob_judge.specs.Assignments.{is_call}
use Rattle.judged_well.specs.Forms.{Form, Zero, Small, ToRecord, Routines, Named, InDone, Of, OpenOf, Dynamic, is_writable, is_dynamic}
use Rattle.judged_well.specs.Setting.{Setting}
use Rattle.judged_well.specs.Typing.{suits, scalar, outline, form, named, pointer, call_suits, fine}

-- the type of a variable that isn't an open array
abbrev pub is_whole : Shape → Bool
is_whole (Open a) = false
is_whole Nothing = false
is_whole Nil = false
is_whole (TextShape n) = false
is_whole s = true

-- no value has an array's or a record's type
abbrev pub is_compound : Shape → Bool
is_compound (Array n a) = true
is_compound (Open a) = true
is_compound (Record r) = true
is_compound s = false

-- a type that a value may have
abbrev pub is_plain : Shape → Bool
is_plain Nothing = false
is_plain s = not (is_compound s)

-- of a parameter
abbrev pub is_formal : Shape → Bool
is_formal (Open a) = true
is_formal s = is_whole s

-- of a result
abbrev pub is_result : Shape → Bool
is_result Nothing = true
is_result s = is_whole s && is_scalar s

-- a string: bytes, few enough for an array
abbrev pub are_characters : List ℕ → Bool
are_characters cs = all (λ c. nat_lt c 256) cs && nat_lt (suc (length cs)) (2 ^ 32)

-- a text and its symbols, as a reader has them
pub record IsRead (p : Source) : Type 0 where
  pub bytes : all (λ c. nat_lt c 256) p.bytes ≡ true
  pub few : length p.bytes + 2 < 2 ^ 32
  pub numbers : (i : ℕ) (z : ℤ) → (symbol_at p i).kind ≡ TheKind.Int z → unsigned z < 2 ^ 64
  pub chars : (i n : ℕ) → (symbol_at p i).kind ≡ TheKind.Char n → n < 256

-- what a place of this type names
pub data Fits : Named → Shape → Type 0 where
  as_done : Fits InDone Boolean
  as_whole : (s : Shape) → (w : Bool) → is_whole s ≡ true → Fits (Of s w) s
  as_open : (a : Shape) → (w : Bool) → Fits (OpenOf a w) (Open a)
  as_record : (r : ℕ) → Fits (Dynamic r) (Record r)

-- how a variable that names this may be used
abbrev pub Claims : Use → Named → Type 0
Claims (AsVariable r t n) d = (r ≡ false → is_writable d ≡ true) × (t ≡ true → is_dynamic d ≡ true)
Claims u d = Unit {0}

abbrev pub HomeClaims : Home → Named → Type 0
HomeClaims ReadOnly d = Unit {0}
HomeClaims Tagged d = is_dynamic d ≡ true
HomeClaims h d = is_writable d ≡ true

-- a value is used as a variable only where it is the guard of a narrowed pointer
abbrev pub ValueClaims : Use → Shape → Type 0
ValueClaims (AsVariable r t n) (Pointer k) = n ≡ true
ValueClaims (AsVariable r t n) s = ⊥
ValueClaims u s = Unit {0}

abbrev pub IsNoVariable : Use → Type 0
IsNoVariable (AsVariable r t n) = ⊥
IsNoVariable u = Unit {0}

module _ (e : Setting) where
  -- a type whose parts are such: array lengths are counted, elements are whole, pointer types point to record types
  abbrev mutual
    pub good : Shape → Bool
    good (Array n a) = nat_lt n (2 ^ 32) && (is_whole a && good a)
    good (Open a) = is_whole a && good a
    good (Pointer n) = is_some (e.target n)
    good (Procedure ps s) = goods ps && (is_result s && good s)
    good s = true

    pub goods : Formals → Bool
    goods none = true
    goods (one v s ps) = is_formal s && (good s && goods ps)

  -- a value of this form is of a scalar type of that form: NIL and numbers aren't pointers or procedures
  abbrev pub near : Form → Form → Bool
  near Zero (ToRecord r) = false
  near Zero (Routines ps s) = false
  near f g = suits e f g

  abbrev pub near_for : Option Form → Option Form → Bool
  near_for (Some f) (Some g) = near f g
  near_for f g = false

  -- the form of an operand's type as a value: a string's is that of its first character
  abbrev pub value_form : Shape → Option Form
  value_form Nil = Some Zero
  value_form (TextShape n) = Some Small
  value_form s = scalar e s

  -- a value of this type; of none: a call without a result; a string is none
  abbrev pub IsValue : Shape → Expr → Type 0
  IsValue Nothing x = (c : Call) × (x ≡ Result c) × (call_suits e (outline e) c ≡ true)
  IsValue (TextShape n) x = ⊥
  IsValue s x = near_for (form e (outline e) x) (value_form s) ≡ true

  abbrev pub StandsAs : Shape → Use → What → Type 0
  StandsAs s u (ThePlace d) = (n : Named) × (named e (outline e) d ≡ Some n) × Fits n s × Claims u n
  StandsAs s u (Valued x) = IsValue s x × ValueClaims u s
  StandsAs s u (Chars cs) = (s ≡ TextShape (length cs)) × (are_characters cs ≡ true) × IsNoVariable u
  StandsAs s u (Code f l) = (ps : Formals) × (r : Shape) × (s ≡ Procedure ps r) × (e.heading f ≡ Some (ps, r)) × IsNoVariable u
  StandsAs s u (Proper d) = (s ≡ Nothing) × (fine e (outline e) d ≡ true) × IsNoVariable u

  -- an operand
  pub record Stands (x : Operand) : Type 0 where
    pub does : StandsAs x.shape x.use_ x.what
    pub good : good x.shape ≡ true

  -- an operand that may be followed, where it is a pointer
  abbrev pub FollowsTo : Option ℕ → Option Form → Type 0
  FollowsTo (Some r) (Some (ToRecord f)) = f ≡ r
  FollowsTo o f = ⊥

  abbrev pub FollowsAs : Shape → Expr → Type 0
  FollowsAs (Pointer n) x = FollowsTo (e.target n) (pointer e (outline e) x)
  FollowsAs s x = Unit {0}

  -- a place is used as a variable, and no value is a procedure
  abbrev pub IsUsed : Shape → Use → What → Type 0
  IsUsed s (AsVariable r t n) (ThePlace d) = Unit {0}
  IsUsed s u (ThePlace d) = ⊥
  IsUsed s u (Valued x) = is_procedure s ≡ false
  IsUsed s u what = Unit {0}

  pub record IsBegun (x : Operand) : Type 0 where
    pub stands : Stands x
    pub follows : FollowsAs x.shape (form_of x)
    pub used : IsUsed x.shape x.use_ x.what

  -- what is last: a call, or no procedure; it isn't narrowed
  abbrev pub IsLast : Operand → Type 0
  IsLast x = ((is_call x.what || not (is_procedure x.shape)) && not (is_narrowed x)) ≡ true

  abbrev pub ConstantStands : Constant → Type 0
  ConstantStands (Bits s n) = IsValue s (Literal n) × (good s ≡ true)
  ConstantStands (TheChars cs) = are_characters cs ≡ true

  pub record VariableStands (v : Variable) : Type 0 where
    pub names : Named
    pub are : named e (outline e) v.place ≡ Some names
    pub fits : Fits names v.shape
    pub claims : HomeClaims v.home names
    -- none of type INTEGER is read-only at home
    pub integer : v.shape ≡ Integer → is_writable names ≡ true
    pub good : good v.shape ≡ true

  abbrev pub ObjectStands : Object → Type 0
  ObjectStands (AConstant c) = ConstantStands c
  ObjectStands (AType s) = (good s ≡ true) × (is_whole s ≡ true)
  ObjectStands (AVariable v) = VariableStands v
  ObjectStands (AProcedure f s l) = (ps : Formals) × (r : Shape) × (s ≡ Procedure ps r) × (e.heading f ≡ Some (ps, r)) × (good s ≡ true)
  ObjectStands o = Unit {0}

  abbrev pub StageStands : Stage → Type 0
  StageStands (Whole o) = ObjectStands o
  StageStands (Partly x) = IsBegun x
  StageStands (Ended x) = Stands x × IsLast x

  -- the variable in a part of a CASE on types
  pub data NarrowsTo (tag : ℕ) : Named → Shape → Type 0 where
    to_pointer : (k m : ℕ) → (w : Bool) → e.target m ≡ Some tag → NarrowsTo tag (Of (Pointer k) w) (Pointer m)
    to_record : (r : ℕ) → e.is_record tag ≡ true → NarrowsTo tag (Dynamic r) (Record tag)

  pub record NarrowStands (d : Place) (n : Narrowing) : Type 0 where
    pub names : Named
    pub are : named e (outline e) d ≡ Some names
    pub to : NarrowsTo n.tag names n.shape

  -- a field of record type r
  pub record FieldStands (r : ℕ) (f : FieldOf) : Type 0 where
    pub there : e.field f.adder f.number ≡ Some f.shape
    pub of : e.extends r f.adder ≡ true
    pub good : good f.shape ≡ true
    pub whole : is_whole f.shape ≡ true

  -- what a name stands for isn't narrowed
  abbrev pub IsUnnarrowed : Source → World → Object → Type 0
  IsUnnarrowed p w (AVariable v) = narrowing_of v.place w.narrowed ≡ None
  IsUnnarrowed p w o = Unit {0}

  -- a variable of this procedure or module, and one of another module
  abbrev pub is_own : ℕ → Place → Bool
  is_own here (Global m v) = m == here
  is_own here (Local v) = true
  is_own here (Parameter k) = true
  is_own here d = false

  abbrev pub is_foreign : ℕ → Place → Bool
  is_foreign here (Global m v) = not (m == here)
  is_foreign here Done = true
  is_foreign here d = false

  abbrev pub IsOwn : World → Object → Type 0
  IsOwn w (AVariable v) = is_own w.module_number v.place ≡ true
  IsOwn w o = Unit {0}

  abbrev pub IsForeign : World → Object → Type 0
  IsForeign w (AVariable v) = is_foreign w.module_number v.place ≡ true
  IsForeign w o = Unit {0}

  -- a world all of whose entries stand for something well-formed
  pub record Right (p : Source) (w : World) : Type 0 where
    pub names : (name : List ℕ) (x : Entry) → look_up name w.levels ≡ Some x → is_visible w.procedure x.object ≡ true → ObjectStands x.object × IsOwn w x.object
    pub members : (m : Imported) (name : List ℕ) (x : Entry) → names_of p w m name ≡ Some x → ObjectStands x.object × IsUnnarrowed p w x.object × IsForeign w x.object
    pub extends : (a b : ℕ) → record_extends w.known a b ≡ true → e.extends a b ≡ true
    pub there : (a b : ℕ) → record_extends w.known a b ≡ true → e.is_record a ≡ true
    pub targets : (n r : ℕ) → base_of (slice_get w.known.bases n) ≡ Some r → e.target n ≡ Some r
    pub fields : (r : ℕ) (name : List ℕ) (f : FieldOf) → fields_of (slice_get w.known.records r) name ≡ Some f → FieldStands r f
    pub narrowed : (d : Place) (n : Narrowing) → narrowing_of d w.narrowed ≡ Some n → NarrowStands d n
