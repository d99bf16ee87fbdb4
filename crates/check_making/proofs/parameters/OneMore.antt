-- One parameter more.
use Rattle.std.proofs.Common.{◌≡◌, ℕ, ◌+◌, ◌<◌, List, [], ◌∷◌, ◌++◌, length, Bool, true, false, Some, None, Result, Ok, Err, refl, sym, ap, ap₂, ◌∙◌, subst}
use Rattle.std.specs.Prelude.{nat_le, if◌then◌else◌, IfOk, IfErr}
use Rattle.ob_syntax.specs.declared.names.NextIdent.{NextIdent}
use Rattle.check_types.specs.declared.steps.fault.CheckFault.TheVariants.{Memory}
use Rattle.ob_judge.specs.Parameters.{next_names}
use Rattle.std.proofs.lemmas.List.{map-append}
use Rattle.ob_types.specs.declared.types.Formal.{Formal}
use Rattle.ob_types.specs.declared.types.Mode.{Mode}
use Rattle.ob_types.proofs.Tests.{none_some, some_same}
use Rattle.ob_judge.specs.Judged.{Judged, Keeps, Breaks, ◌>>=◌, rule}
use Rattle.ob_judge.specs.Shapes.{Shape, one}
use Rattle.ob_judge.specs.Image.{Formal as FormalOf}
use Rattle.ob_judge.specs.Scopes.{AVariable, Source, place}
use Rattle.ob_judge.specs.Making.{Making}
use Rattle.ob_judge.specs.Parameters.{Listed, append, words_of, mode_of, listed, declare_parameter, add_parameters}
use Rattle.judged_tree.specs.TypeShapes.{shape_at, shape_of, shapes_of, formals_shape}
use Rattle.judged_tree.specs.Tables.{are_before}
use Rattle.judged_tree.specs.Plain.{plain_formal}
use Rattle.check_types.specs.steps.Answers.{Answers}
use Rattle.check_types.specs.declared.steps.fault.CheckFault.{CheckFault}
use Rattle.check_making.proofs.parameters.Answering.{then_then, no_memory}
use Rattle.check_types.specs.declared.types.TypeRef.{TypeRef}
use Rattle.check_types.specs.declared.table.TypeTable.{TypeTable}
use Rattle.check_types.specs.TypeMeaning.{type_shape}
use Rattle.check_types.specs.names.Meaning.{place_of, home_of}
use Rattle.check_types.specs.declared.names.scope.Variable.{Variable}
use Rattle.check_types.specs.declared.names.scope.Named.TheVariants as TheNamed
use Rattle.table_builder.specs.Entries.{IsNumbered}
use Rattle.check_making.specs.declared.making.Declaring.{Declaring}
use Rattle.check_making.specs.declared.making.Surroundings.{Surroundings}
use Rattle.check_making.specs.Staying.{NamedStays}
use Rattle.check_making.specs.Making.{table_of, Makes}
use Rattle.check_making.specs.Parts.{Gave}
use Rattle.check_making.specs.declared.parameters.parameters.Listed.{Listed as ListedHere}
use Rattle.check_making.specs.parameters.Listed.{IsListed, IsListedIn}

-- ---- a choice of two

pub some_if : (b : Bool) (a w : ℕ) → Some w ≡ (if b then Some a else None) → (b ≡ true) × (w ≡ a)
some_if true a w h = (refl, some_same w a h)
some_if false a w h = none_some w (sym h)

pub none_if : (b : Bool) (a : ℕ) → None ≡ (if b then Some a else None) → b ≡ false
none_if true a h = none_some a h
none_if false a h = refl

-- ---- lists with one parameter more

formals_more : (shapes : List Shape) (xs : List Formal) (x : Formal) → formals_shape shapes (xs ++ x ∷ []) ≡ append (formals_shape shapes xs) x.variable (shape_at shapes x.type_number)
formals_more shapes [] x = refl
formals_more shapes (y ∷ xs) x = ap (λ ps. one y.variable (shape_at shapes y.type_number) ps) (formals_more shapes xs x)

before_more : (k : ℕ) (xs : List Formal) (x : Formal) → are_before k xs → x.type_number < k → are_before k (xs ++ x ∷ [])
before_more k [] x h l = (l, tt)
before_more k (y ∷ xs) x h l = (h.0, before_more k xs x h.1 l)

pub one_more : (t : TypeTable) (l : ListedHere) (x : Listed) (v : Bool) (s : Shape) (mode : Mode) (n words : ℕ) → IsListed t l x → mode ≡ mode_of v s → shape_of t.types n ≡ s → n < length t.entries.items → words ≡ l.words + words_of v s
    → IsListed t (record { formals = l.formals ++ record { mode = mode; variable = v; type_number = n } ∷ []; words = words }) (listed v s x)
one_more t l x v s mode n words h m e within w =
    let f : Formal = record { mode = mode; variable = v; type_number = n } in
    record {
      formals = ap (λ ps. append ps v s) h.formals ∙ ap (append (formals_shape (shapes_of t.types) l.formals) v) (sym e) ∙ sym (formals_more (shapes_of t.types) l.formals f);
      parameters = ap₂ (λ (fs : List FormalOf) (y : FormalOf). fs ++ y ∷ []) h.parameters (ap₂ (λ (k : Mode) (z : Shape). record { mode = k; variable = v; shape = z }) (sym m) (sym e))
          ∙ sym (map-append (plain_formal t.types) l.formals (f ∷ []));
      words = ap (λ k. k + words_of v s) h.words ∙ sym w;
      before = before_more (length t.entries.items) l.formals f h.before within;
    }

-- ---- one parameter judged

module _ (p : Source) (known_here v : Bool) (s : Shape) (i : ℕ) (x : Listed) (m : Making) where
  abbrev declared_here : Judged (Unit {0} × Making)
  declared_here = declare_parameter p known_here i v s (length x.parameters) m

  abbrev after : Bool → Judged (Listed × Making)
  after b = (rule 40 (place p i) b >>= λ a. Keeps (a, m)) >>= λ (q : Unit {0} × Making). declare_parameter p known_here i v s (length x.parameters) q.1 >>= λ (r : Unit {0} × Making). Keeps (listed v s x, r.1)

  pub parameter_past : nat_le (x.words + words_of v s) 24 ≡ false → add_parameters p known_here v s (i ∷ []) x m ≡ Breaks 40 (place p i)
  parameter_past e = ap after e

  pub parameter_within : nat_le (x.words + words_of v s) 24 ≡ true → add_parameters p known_here v s (i ∷ []) x m ≡ (declared_here >>= λ (r : Unit {0} × Making). Keeps (listed v s x, r.1))
  parameter_within e = ap after e

  module _ (is : List ℕ) where
    abbrev both : Bool → Judged (Listed × Making)
    both b = (rule 40 (place p i) b >>= λ a. Keeps (a, m)) >>= λ (q : Unit {0} × Making). declare_parameter p known_here i v s (length x.parameters) q.1 >>= λ (r : Unit {0} × Making). add_parameters p known_here v s is (listed v s x) r.1

    split : (b : Bool) → both b ≡ (after b >>= λ z. add_parameters p known_here v s is z.0 z.1)
    split true = then_then declared_here (λ (r : Unit {0} × Making). Keeps (listed v s x, r.1)) (λ (z : Listed × Making). add_parameters p known_here v s is z.0 z.1)
    split false = refl

    -- the first, and then the others
    pub parameters_law : add_parameters p known_here v s (i ∷ is) x m ≡ (add_parameters p known_here v s (i ∷ []) x m >>= λ z. add_parameters p known_here v s is z.0 z.1)
    parameters_law = split (nat_le (x.words + words_of v s) 24)

-- ---- its variable

pub variable_stays : (t : TypeTable) (strings : List (List ℕ)) (v : Variable) (of : TypeRef) → v.of ≡ of → IsNumbered t.entries.items of → NamedStays t strings (TheNamed.Variable v)
variable_stays t strings v of is h = record {
  object = λ u more g.
      let k : IsNumbered t.entries.items v.of = subst (IsNumbered t.entries.items) (sym is) h in
      ap (λ (s : Shape). AVariable (record { shape = s; place = place_of v.place; home = home_of v.home; owner = v.owner; procedure = v.procedure })) (g.shape v.of k);
}

-- ---- a state and parameters so far

pub record StandsFor (r : Surroundings) (b : Declaring × ListedHere) (a : Listed × Making) : Type 0 where
  pub listed : IsListedIn b.0 b.1 a.0
  pub makes : Makes r b.0 a.1

pub stands_for : {r : Surroundings} {t : Declaring} {l : ListedHere} (m : Judged (Listed × Making)) → Answers (Gave (IsListedIn t) r t) m (Ok l) → Answers (StandsFor r) m (Ok (t, l))
stands_for (Keeps a) h = record { by = record { listed = (h.by).value; makes = (h.by).makes } }
stands_for (Breaks n at) h = absurd h.by

pub listed_left : {r : Surroundings} (t : Declaring) (l : ListedHere) (a : Listed × Making) → StandsFor r (t, l) a → Answers (Gave (IsListedIn t) r t) (Keeps a) (Ok l)
listed_left t l a h = record { by = record { value = h.listed; makes = h.makes } }

-- ---- one parameter more, in code

module _ (r : Surroundings) (s t : Declaring) (same : t.types ≡ s.types) (of : TypeRef) (v : Bool) (l : ListedHere) (x : Listed) where
  pub formed : (result : Result ListedHere CheckFault) → IsListedIn s l x → IfOk result (λ k. (y : Listed) → IsListedIn t l y → IsListedIn t k (listed v (type_shape (table_of t) of) y)) → IfErr result (λ e. e ≡ Memory) → (n : Making) → Makes r t n
      → Answers (Gave (IsListedIn t) r t) (Keeps (listed v (type_shape (table_of s) of) x, n)) result
  formed (Ok k) h f g n makes = record {
    by = record {
      value = subst (λ z. IsListedIn t k (listed v (type_shape z.table.types of) x)) same (f x (subst (λ z. IsListed z.table l x) (sym same) h));
      makes = makes;
    };
  }
  formed (Err e) h f g n makes = no_memory (Keeps (listed v (type_shape (table_of s) of) x, n)) g

module _ (p : Source) (known_here v : Bool) (s : Shape) where
  abbrev pub parameters_from : Listed × Making → List NextIdent → Judged (Listed × Making)
  parameters_from a xs = add_parameters p known_here v s (next_names xs) a.0 a.1

  abbrev pub parameter_item : Listed × Making → NextIdent → Judged (Listed × Making)
  parameter_item a x = add_parameters p known_here v s (x.name ∷ []) a.0 a.1

  pub parameters_step : (a : Listed × Making) (x : NextIdent) (xs : List NextIdent) → parameters_from a (x ∷ xs) ≡ (parameter_item a x >>= λ z. parameters_from z xs)
  parameters_step a x xs = parameters_law p known_here v s x.name a.0 a.1 (next_names xs)

  -- the same type in a state of the same types
  pub item_as : {r : Surroundings} {new : Declaring} {result : Result ListedHere CheckFault} (u w : Declaring) (of : TypeRef) → u.types ≡ w.types → (a : Listed × Making) (is : List ℕ)
      → Answers (Gave (IsListedIn new) r new) (add_parameters p known_here v (type_shape (table_of u) of) is a.0 a.1) result → Answers (Gave (IsListedIn new) r new) (add_parameters p known_here v (type_shape (table_of w) of) is a.0 a.1) result
  item_as {r} {new} {result} u w of same a is h = subst (λ z. Answers (Gave (IsListedIn new) r new) (add_parameters p known_here v (type_shape z.table.types of) is a.0 a.1) result) same h
