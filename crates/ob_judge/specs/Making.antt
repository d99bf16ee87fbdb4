-- What declarations make, part after part: the scope, what is known of types, and the procedures.
use Rattle.std.specs.Prelude.{ℕ, List, [], ◌∷◌, ◌++◌, length, Bool, true, false, ◌||◌, Option, Some, None, slice_set}
use Rattle.std.specs.Str.{bytes_eq}
use Rattle.ob_judge.specs.Judged.{Judged, Keeps, ◌>>=◌}
use Rattle.ob_types.specs.Trees.{no_extent}
use Rattle.ob_judge.specs.Shapes.{Shape, Nothing, Field, Layout, Known}
use Rattle.ob_judge.specs.Image.{Place, Global, no_statement, Declared, Entity, OfConstant, OfType, OfVariable, OfProcedure, Procedure}
use Rattle.ob_judge.specs.Scopes.{Object, AConstant, AType, AVariable, AProcedure, Entry, World, no_names, declare}

-- what is judged in; whether this is a TYPE part, and its pointer types whose base isn't declared yet; the names that
-- stand in the open scope; how many scalar value parameters it has, and its variables; the names that the module
-- declares; all procedures so far; whether In was imported
pub record Making : Type 0 where
  pub imports_in : Bool
  pub world : World
  pub is_type_part : Bool
  pub forward : List (ℕ × ℕ)
  pub standing : List (List ℕ)
  pub values : ℕ
  pub variables : List Shape
  pub objects : List Declared
  pub procedures : List Procedure

-- a part that gives something and leaves the scope as it then is
abbrev pub Part : Type 0 → Type 0
Part A = Making → Judged (A × Making)

infixl 10 ◌>>>◌
abbrev pub ◌>>>◌ : {A B : Type 0} → Part A → (A → Part B) → Part B
(m >>> f) s = m s >>= λ r. f r.0 r.1

abbrev pub give : {A : Type 0} → A → Part A
give a s = Keeps (a, s)

-- a judgement in the scope as it is
abbrev pub here : {A : Type 0} → (World → Judged A) → Part A
here j s = j s.world >>= λ a. Keeps (a, s)

-- a change of what is made
abbrev pub become : (Making → Making) → Part (Unit {0})
become f s = Keeps (tt, f s)

abbrev pub ask : {A : Type 0} → (Making → A) → Part A
ask f s = Keeps (f s, s)

abbrev pub is_among : List ℕ → List (List ℕ) → Bool
is_among name [] = false
is_among name (n ∷ ns) = bytes_eq name n || is_among name ns

abbrev pub declare_last : List ℕ → Entry → List (List ℕ → Option Entry) → List (List ℕ → Option Entry)
declare_last name e [] = []
declare_last name e (l ∷ []) = declare name e l ∷ []
declare_last name e (l ∷ k ∷ ls) = l ∷ declare_last name e (k ∷ ls)

-- in the scope round the innermost one
abbrev pub declare_outer : List ℕ → Entry → List (List ℕ → Option Entry) → List (List ℕ → Option Entry)
declare_outer name e [] = []
declare_outer name e (l ∷ []) = l ∷ []
declare_outer name e (l ∷ k ∷ []) = declare name e l ∷ k ∷ []
declare_outer name e (l ∷ k ∷ m ∷ ls) = l ∷ declare_outer name e (k ∷ m ∷ ls)

abbrev pub last_names : List (List ℕ → Option Entry) → List ℕ → Option Entry
last_names [] q = None
last_names (l ∷ []) q = l q
last_names (l ∷ k ∷ ls) q = last_names (k ∷ ls) q

abbrev pub without_last : List (List ℕ → Option Entry) → List (List ℕ → Option Entry)
without_last [] = []
without_last (l ∷ []) = []
without_last (l ∷ k ∷ ls) = l ∷ without_last (k ∷ ls)

-- ---- what parts make

-- a variable's place among those of its module
abbrev pub variable_number : Place → ℕ
variable_number (Global m n) = n
variable_number d = 0

-- what a name of a module stands for, as the program has it
abbrev pub entity_of : Object → Option Entity
entity_of (AConstant c) = Some (OfConstant c)
entity_of (AType s) = Some (OfType s)
entity_of (AVariable v) = Some (OfVariable (variable_number v.place))
entity_of (AProcedure n s is_local) = Some (OfProcedure n)
entity_of o = None

abbrev pub declared_as : List ℕ → Bool → Option Entity → List Declared
declared_as name exported None = []
declared_as name exported (Some e) = record { name = name; exported = exported; entity = e } ∷ []

-- one more name of the module
abbrev pub offer : List ℕ → Entry → Making → Making
offer name e s = record s { objects = s.objects ++ declared_as name e.exported (entity_of e.object) }

-- a name of a procedure isn't one of the module
abbrev pub offer_if : Bool → List ℕ → Entry → Making → Making
offer_if true name e s = offer name e s
offer_if false name e s = s

abbrev pub with_levels : (List (List ℕ → Option Entry) → List (List ℕ → Option Entry)) → Making → Making
with_levels f s = record s { world = record s.world { levels = f s.world.levels } }

abbrev pub with_known : (Known → Known) → Making → Making
with_known f s = record s { world = record s.world { known = f s.world.known } }

abbrev pub no_fields : List ℕ → Option Field
no_fields q = None

abbrev pub no_layout : Layout
no_layout = record { module_number = 0; line = []; added = []; fields = no_fields; cells = 0; extent = no_extent }

-- a record or pointer type takes the next number where its word stands
abbrev pub new_record : Part ℕ
new_record = ask (λ s. length s.world.known.records) >>> λ n.
    become (with_known (λ k. record k { records = k.records ++ no_layout ∷ [] })) >>> λ _. give n

abbrev pub new_pointer : Part ℕ
new_pointer = ask (λ s. length s.world.known.bases) >>> λ n.
    become (with_known (λ k. record k { bases = k.bases ++ None ∷ [] })) >>> λ _. give n

abbrev pub set_record : ℕ → Layout → Part (Unit {0})
set_record n l = become (with_known (λ k. record k { records = slice_set k.records n l }))

abbrev pub set_base : ℕ → ℕ → Part (Unit {0})
set_base pointer r = become (with_known (λ k. record k { bases = slice_set k.bases pointer (Some r) }))

abbrev pub later : ℕ → ℕ → Part (Unit {0})
later pointer name = become (λ s. record s { forward = s.forward ++ (pointer, name) ∷ [] })

abbrev pub no_procedure : Procedure
no_procedure = record {
  module_number = 0;
  line = 0;
  is_body = false;
  formals = [];
  result = Nothing;
  locals = [];
  texts = [];
  body = no_statement;
  answer = None;
}

-- a procedure takes the next number where its heading stands
abbrev pub new_procedure : Part ℕ
new_procedure = ask (λ s. length s.procedures) >>> λ f.
    become (λ s. record s { procedures = s.procedures ++ no_procedure ∷ [] }) >>> λ _. give f

abbrev pub set_procedure : ℕ → Procedure → Part (Unit {0})
set_procedure f q = become (λ s. record s { procedures = slice_set s.procedures f q })

-- a part in a new scope, that of procedure f
abbrev pub within_procedure : {A : Type 0} → ℕ → Part A → Part A
within_procedure f m s = m (record s { world = record s.world { levels = s.world.levels ++ no_names ∷ []; procedure = Some f }; standing = []; values = 0; variables = [] }) >>= λ r.
    Keeps (r.0, record s { world = record s.world { levels = without_last r.1.world.levels; known = r.1.world.known }; objects = r.1.objects; procedures = r.1.procedures })

-- a part that leaves all as it was
abbrev pub aside : {A : Type 0} → Part A → Part A
aside m s = m (record s { standing = [] }) >>= λ r. Keeps (r.0, s)
