-- Variables that are declared.
use Rattle.std.proofs.Common.{◌≡◌, ℕ, ◌+◌, List, [], ◌∷◌, ◌++◌, length, map, Option, Some, None, Ok, Err, Vec, Global, refl, sym, ap, ap₂, ◌∙◌, subst}
use Rattle.std.proofs.lemmas.List.{map-append}
use Rattle.std.proofs.lemmas.List.{length-map}
use Rattle.ob_syntax.specs.declared.names.Identdef.{Identdef}
use Rattle.ob_types.specs.Table.{Table}
use Rattle.ob_judge.specs.Judged.{Judged, Keeps, Breaks, ◌>>=◌}
use Rattle.ob_judge.specs.Shapes.{Shape}
use Rattle.ob_judge.specs.Scopes.{Object, AVariable, World}
use Rattle.ob_judge.specs.Making.{Making}
use Rattle.ob_judge.specs.Parameters.{declared}
use Rattle.ob_judge.specs.Declarations.{variable_part, home_here, place_here}
use Rattle.check_types.specs.steps.Answers.{Answers}
use Rattle.check_types.specs.declared.steps.fault.CheckFault.{CheckFault}
use Rattle.check_types.proofs.steps.Answering.{stop}
use Rattle.check_types.specs.declared.types.TypeRef.{TypeRef}
use Rattle.check_types.specs.declared.table.TypeTable.{TypeTable}
use Rattle.check_types.specs.TypeMeaning.{type_shape}
use Rattle.check_types.specs.declared.names.scope.Named.TheVariants as TheNamed
use Rattle.check_types.specs.names.Meaning.{home_of, place_of, object_of}
use Rattle.table_builder.specs.Entries.{IsElement}
use Rattle.check_making.specs.declared.making.Declaring.{Declaring}
use Rattle.check_making.specs.declared.making.Surroundings.{Surroundings}
use Rattle.check_making.specs.Staying.{NamedStays}
use Rattle.check_making.specs.Making.{table_of, strings_of, AreNumbered, Makes, IsSettled}
use Rattle.check_making.specs.Parts.{Made}
use Rattle.check_declared.specs.Variables.{place_of_next, home_of_next, variable_here}

-- a variable's type stays, so it does
pub variable_stays : (t : TypeTable) (strings : List (List ℕ)) (unit : ℕ) (procedure : Option ℕ) (of : TypeRef) (n : ℕ) → IsElement t.entries.items of → NamedStays t strings (TheNamed.Variable (variable_here unit procedure of n))
variable_stays t strings unit procedure of n h = record {
  object = λ u more g.
      ap (λ (s : Shape). AVariable (record { shape = s; place = place_of (place_of_next procedure unit n); home = home_of (home_of_next procedure); owner = unit; procedure = procedure })) (g.shape of h.numbered);
}

-- what the judgement makes of the next variable
abbrev pub judged_variable : Shape → (unit number : ℕ) → Option ℕ → Object
judged_variable s unit number procedure = AVariable (record { shape = s; place = place_here procedure unit number; home = home_here procedure; owner = unit; procedure = procedure })

variable_is : (t : Table) (strings : List (List ℕ)) (unit n : ℕ) (procedure : Option ℕ) (of : TypeRef) → object_of t strings (TheNamed.Variable (variable_here unit procedure of n)) ≡ judged_variable (type_shape t of) unit n procedure
variable_is t strings unit n None of = refl
variable_is t strings unit n (Some f) of = refl

-- the state with one more variable
numbered_more : (es ks : List TypeRef) (k : TypeRef) → AreNumbered es ks → IsElement es k → AreNumbered es (ks ++ k ∷ [])
numbered_more es [] k h e = (e, tt)
numbered_more es (j ∷ ks) k h e = (h.0, numbered_more es ks k h.1 e)

module _ (r : Surroundings) (s : Declaring) (of : TypeRef) (variables : Vec TypeRef Global) (is : variables.items ≡ s.variables.items ++ of ∷ []) where
  abbrev pub with_variable : Declaring
  with_variable = record s { variables = variables }

  pub settled_variable : IsSettled r s → IsElement s.types.table.entries.items of → IsSettled r with_variable
  settled_variable ok e = record {
    built = ok.built;
    levels = ok.levels;
    modules = ok.modules;
    types = ok.types;
    members = ok.members;
    variables = subst (AreNumbered s.types.table.entries.items) (sym is) (numbered_more s.types.table.entries.items s.variables.items of ok.variables e);
    objects = ok.objects;
    open_scope = ok.open_scope;
    places = ok.places;
    own_text = ok.own_text;
  }

  makes_variable : (m : Making) → Makes r s m → Makes r with_variable (record m { variables = m.variables ++ type_shape (table_of s) of ∷ [] })
  makes_variable m makes = record {
    imports_in = makes.imports_in;
    world = makes.world;
    is_type_part = makes.is_type_part;
    forward = makes.forward;
    standing = makes.standing;
    values = makes.values;
    variables = ap (λ ks. ks ++ type_shape (table_of s) of ∷ []) makes.variables
        ∙ sym (ap (map (type_shape (table_of s))) is ∙ map-append (type_shape (table_of s)) s.variables.items (of ∷ []));
    objects = makes.objects;
  }

  -- behind its declaration
  after : (shape : Shape) → type_shape (table_of s) of ≡ shape → (j : Judged (Unit {0} × Making)) → Answers (Made r s) j (Ok tt) → Answers (Made r with_variable) (j >>= λ a. Keeps (tt, record a.1 { variables = (a.1).variables ++ shape ∷ [] })) (Ok tt)
  after shape same (Keeps a) h = record { by = record { makes = subst (λ z. Makes r with_variable (record a.1 { variables = (a.1).variables ++ z ∷ [] })) same (makes_variable a.1 (h.by).makes) } }
  after shape same (Breaks n at) h = absurd h.by

-- the number of the next variable
abbrev pub next_of : Making → ℕ
next_of m = m.values + length m.variables

-- a variable is declared
module _ (r : Surroundings) (s : Declaring) (of : TypeRef) (x : Identdef) (m : Making) (makes : Makes r s m) (n : ℕ) (at : n ≡ s.values + length s.variables.items) where
  judged_same : object_of (table_of s) (strings_of s) (TheNamed.Variable (variable_here r.module_number s.procedure of n)) ≡ judged_variable (type_shape (table_of s) of) m.world.module_number (next_of m) m.world.procedure
  judged_same =
      variable_is (table_of s) (strings_of s) r.module_number n s.procedure of
      ∙ ap (λ k. judged_variable (type_shape (table_of s) of) r.module_number k s.procedure) (at ∙ sym (ap₂ (λ a b. a + b) makes.values (ap (λ ks. length ks) makes.variables ∙ length-map s.variables.items (type_shape (table_of s)))))
      ∙ sym (ap (λ (w : World). judged_variable (type_shape (table_of s) of) w.module_number (next_of m) w.procedure) makes.world)

  pub variable_made : (u : Declaring) (variables : Vec TypeRef Global) → u.types ≡ s.types → variables.items ≡ u.variables.items ++ of ∷ []
      → Answers (Made r u) (declared r.source.now x (object_of (table_of s) (strings_of s) (TheNamed.Variable (variable_here r.module_number s.procedure of n))) m) (Ok tt)
      → Answers (Made r (record u { variables = variables })) (variable_part r.source.now (type_shape (table_of s) of) x m) (Ok tt)
  variable_made u variables same is h =
      after r u of variables is (type_shape (table_of s) of) (ap (λ z. type_shape z.table.types of) same) (declared r.source.now x (judged_variable (type_shape (table_of s) of) m.world.module_number (next_of m) m.world.procedure) m)
      (subst (λ o. Answers (Made r u) (declared r.source.now x o m) (Ok tt)) judged_same h)

  refused_after : {u t : Declaring} {e : CheckFault} (shape : Shape) (j : Judged (Unit {0} × Making)) → Answers (Made r u) j (Err e) → Answers (Made r t) (j >>= λ a. Keeps (tt, record a.1 { variables = (a.1).variables ++ shape ∷ [] })) (Err e)
  refused_after shape j h = stop j _ h

  pub variable_refused : (u t : Declaring) (e : CheckFault) → Answers (Made r u) (declared r.source.now x (object_of (table_of s) (strings_of s) (TheNamed.Variable (variable_here r.module_number s.procedure of n))) m) (Err e)
      → Answers (Made r t) (variable_part r.source.now (type_shape (table_of s) of) x m) (Err e)
  variable_refused u t e h =
      refused_after (type_shape (table_of s) of) (declared r.source.now x (judged_variable (type_shape (table_of s) of) m.world.module_number (next_of m) m.world.procedure) m)
      (subst (λ o. Answers (Made r u) (declared r.source.now x o m) (Err e)) judged_same h)
