-- Names that stand and names that are known; parameters and results judged (Oberon-07 report, sections 4 and 10.1).
use Rattle.std.specs.Prelude.{ℕ, suc, ◌+◌, List, [], ◌∷◌, ◌++◌, length, Bool, true, false, not, if◌then◌else◌, nat_le, Option, Some, None, is_some, is_none}
use Rattle.ob_syntax.specs.Syntax as S
use Rattle.ob_syntax.specs.declared.names.Qualident.{Qualident}
use Rattle.ob_syntax.specs.declared.names.Identdef.{Identdef}
use Rattle.ob_syntax.specs.declared.names.NextIdentdef.{NextIdentdef}
use Rattle.ob_syntax.specs.declared.names.NextIdent.{NextIdent}
use Rattle.ob_syntax.specs.declared.types.ResultType.{ResultType}
use Rattle.ob_types.specs.declared.types.Mode.{Mode}
use Rattle.ob_types.specs.declared.types.Mode.TheVariants as TheMode
use Rattle.ob_judge.specs.Judged.{Judged, Keeps, ◌>>=◌, ◌>>◌, rule}
use Rattle.ob_judge.specs.Shapes.{Shape, Open, Record, Nothing, Formals, none, one, is_scalar}
use Rattle.ob_judge.specs.Image.{Local, Parameter, Formal}
use Rattle.ob_judge.specs.Scopes.{Object, AVariable, Home, Free, ReadOnly, Tagged, World, Source, place, spelled}
use Rattle.ob_judge.specs.Names.{type_named, member_symbol}
use Rattle.ob_judge.specs.Making.{Part, ◌>>>◌, give, here, become, ask, with_levels, declare_last, is_among, offer_if}

abbrev pub next_names : List NextIdent → List ℕ
next_names [] = []
next_names (n ∷ ns) = n.name ∷ next_names ns

abbrev pub next_list : List NextIdentdef → List Identdef
next_list [] = []
next_list (x ∷ xs) = x.name ∷ next_list xs

abbrev pub idents_list : S.Idents → List Identdef
idents_list x = x.first ∷ next_list x.more

abbrev pub symbols_of : List Identdef → List ℕ
symbols_of [] = []
symbols_of (x ∷ xs) = x.name ∷ symbols_of xs

-- parameters so far: their kinds and types, how they are handed over, their argument words
pub record Listed : Type 0 where
  pub formals : Formals
  pub parameters : List Formal
  pub words : ℕ

abbrev pub no_parameters : Listed
no_parameters = record { formals = none; parameters = []; words = 0 }

abbrev pub words_of : Bool → Shape → ℕ
words_of is_var (Open a) = 2
words_of true (Record n) = 2
words_of is_var a = 1

abbrev pub append : Formals → Bool → Shape → Formals
append none v s = one v s none
append (one u t more) v s = one u t (append more v s)

abbrev pub opened : Bool → Shape → Shape
opened true s = Open s
opened false s = s

abbrev pub mode_of : (is_var : Bool) → Shape → Mode
mode_of v (Open a) = TheMode.Open
mode_of true (Record n) = TheMode.Record
mode_of true s = TheMode.Place
mode_of false s = if is_scalar s then TheMode.Value else TheMode.Place

abbrev pub is_value : Mode → Bool
is_value TheMode.Value = true
is_value m = false

-- a value parameter of array or record type is read-only, a VAR record parameter has a dynamic type
abbrev pub parameter_home : Bool → Shape → Home
parameter_home true (Record n) = Tagged
parameter_home true s = Free
parameter_home false s = if is_scalar s then Free else ReadOnly

abbrev pub listed : Bool → Shape → Listed → Listed
listed v s l = record {
  formals = append l.formals v s;
  parameters = l.parameters ++ record { mode = mode_of v s; variable = v; shape = s } ∷ [];
  words = l.words + words_of v s;
}

-- a parameter is known in its procedure; a scalar value parameter is a local variable
abbrev pub parameter_variable : Bool → Shape → (values number : ℕ) → World → Object
parameter_variable v s values number w = AVariable (record {
  shape = s;
  place = if is_value (mode_of v s) then Local values else Parameter number;
  home = parameter_home v s;
  owner = w.module_number;
  procedure = w.procedure;
})

module _ (p : Source) where
  -- 36: a name stands twice in the open scope
  abbrev pub stand : List ℕ → Part (Unit {0})
  stand [] = give tt
  stand (i ∷ is) =
      ask (λ s. s.standing) >>> λ names.
      here (λ w. rule 36 (place p i) (not (is_among (spelled p i) names))) >>> λ _.
      become (λ s. record s { standing = spelled p i ∷ s.standing }) >>> λ _. stand is

  -- a name is known from here on
  abbrev pub declared : Identdef → Object → Part (Unit {0})
  declared x o =
      here (λ w. Keeps (record { object = o; exported = is_some x.star })) >>> λ e.
      become (with_levels (declare_last (spelled p x.name) e)) >>> λ _.
      ask (λ s. is_none s.world.procedure) >>> λ of_module. become (offer_if of_module (spelled p x.name) e)

  abbrev pub type_at : (number : ℕ) → Qualident → World → Judged Shape
  type_at number q w = type_named p w number q.name (member_symbol q.member)

  -- ---- parameters

  abbrev pub declare_parameter : (known_here : Bool) → ℕ → Bool → Shape → ℕ → Part (Unit {0})
  declare_parameter false i v s number = give tt
  declare_parameter true i v s number =
      ask (λ m. m.values) >>> λ values.
      here (λ w. Keeps (parameter_variable v s values number w)) >>> λ o.
      become (with_levels (declare_last (spelled p i) (record { object = o; exported = false }))) >>> λ _.
      become (λ m. record m { values = if is_value (mode_of v s) then suc m.values else m.values })

  -- 40 at a parameter past 24 argument words
  abbrev pub add_parameters : Bool → Bool → Shape → List ℕ → Listed → Part Listed
  add_parameters known_here v s [] l = give l
  add_parameters known_here v s (i ∷ is) l =
      here (λ w. rule 40 (place p i) (nat_le (l.words + words_of v s) 24)) >>> λ _.
      declare_parameter known_here i v s (length l.parameters) >>> λ _.
      add_parameters known_here v s is (listed v s l)

  -- `[VAR] ident {"," ident} ":" [ARRAY OF] qualident`
  abbrev pub section : Bool → S.Section → Listed → Part Listed
  section known_here x l =
      stand (x.first ∷ next_names x.more) >>> λ _.
      here (type_at 31 x.of) >>> λ s.
      add_parameters known_here (is_some x.var_word) (opened (is_some x.open_array) s) (x.first ∷ next_names x.more) l

  abbrev pub next_sections : Bool → List S.NextSection → Listed → Part Listed
  next_sections known_here [] l = give l
  next_sections known_here (x ∷ xs) l = section known_here x.section l >>> λ m. next_sections known_here xs m

  abbrev pub sections : Bool → Option S.Sections → Part Listed
  sections known_here None = give no_parameters
  sections known_here (Some x) = section known_here x.first no_parameters >>> λ m. next_sections known_here x.more m

  -- the result's type, which is a scalar type
  abbrev pub result_shape : Option ResultType → World → Judged Shape
  result_shape None w = Keeps Nothing
  result_shape (Some r) w = do
    s ← type_at 31 r.name w
    rule 31 (place p r.name.name) (is_scalar s)
    Keeps s

  -- what a procedure takes and gives; its parameters' names are known in its scope, those of a procedure type aren't
  abbrev pub formal_part : Bool → Option S.Formals → Part (Listed × Shape)
  formal_part known_here None = give (no_parameters, Nothing)
  formal_part known_here (Some f) = sections known_here f.sections >>> λ l. here (result_shape f.result) >>> λ r.
      give (l, r)
