-- Declarations, procedures and modules judged only add to what was made, and leave what is there.
use Rattle.std.proofs.Common.{◌≡◌, ℕ, ◌+◌, ◌<◌, ◌≤◌, List, [], ◌∷◌, ◌++◌, length, Bool, true, false, Some, refl, ap, sym, ◌∙◌, subst, arith}
use Rattle.std.specs.Prelude.{slice_get, slice_set, is_some, is_none}
use Rattle.ob_syntax.specs.Syntax as S
use Rattle.ob_syntax.specs.declared.names.Identdef.{Identdef}
use Rattle.ob_judge.specs.Judged.{Judged, Keeps, Breaks, ◌>>=◌, some}
use Rattle.ob_judge.specs.Shapes.{Shape}
use Rattle.ob_judge.specs.Scopes.{Object, AConstant, AType, AVariable, Entry, Source, place, spelled}
use Rattle.ob_judge.specs.Expressions.{constant}
use Rattle.ob_judge.specs.Cases.{entry_object}
use Rattle.ob_judge.specs.Making.{Making, Part, with_levels, with_known, declare_last, last_names, offer_if}
use Rattle.ob_judge.specs.Parameters.{declared, idents_list, symbols_of}
use Rattle.ob_judge.specs.Types.{record_object}
use Rattle.ob_judge.specs.Declarations.{home_here, place_here, each, const_part, type_decl_part, forward_base, types_part, variable_part, var_part}
use Rattle.judged_well.specs.Gives.{Gives}
use Rattle.judged_well.proofs.Judging.{keeps, breaks, weaken, and_then}
use Rattle.judged_modules.specs.Agrees.{records_of, bases_of}
use Rattle.judged_modules.proofs.Lists.{get_append, get_within, set_other, set_length}
use Rattle.judged_modules.specs.Lines.{AllLines}
use Rattle.judged_modules.proofs.Growing.{Grows, self, onward}
use Rattle.judged_modules.specs.Lists.{Each}
use Rattle.judged_modules.proofs.TypesGrow.{each_map, GrowsIn, calm, still, follows, InTo, i_next, i_stand, i_type}

abbrev pub To : {A : Type 0} → Making → A × Making → Type 0
To s r = Grows s r.1

pub g_next : {A B : Type 0} {s : Making} {m : Judged (A × Making)} {f : A × Making → Judged (B × Making)} → Gives (To s) m → ((r : A × Making) → Gives (To r.1) (f r)) → Gives (To s) (m >>= f)
g_next {s = s} g next = and_then g (λ r h. weaken (next r) (λ q k. onward s r.1 q.1 h k))

pub g_look : {A : Type 0} (m : Judged A) (s : Making) → Gives (To s) (m >>= λ a. Keeps (a, s))
g_look (Keeps a) s = keeps (To s) (a, s) (self s)
g_look (Breaks n at) s = breaks (To s) n at

pub g_from : {A : Type 0} {m : Judged (A × Making)} (s u : Making) → Grows s u → Gives (To u) m → Gives (To s) m
g_from s u h g = weaken g (λ q k. onward s u q.1 h k)

pub g_in : {A : Type 0} {m : Judged (A × Making)} (s : Making) → Gives (InTo s) m → Gives (To s) m
g_in s g = weaken g (λ q k. k.grown)

-- ---- names

pub offered_in : (b : Bool) (name : List ℕ) (e : Entry) (s u : Making) → GrowsIn s u → GrowsIn s (offer_if b name e u)
offered_in true name e s u h = follows s u (offer_if true name e u) h (calm u _ refl refl refl refl refl refl refl refl)
offered_in false name e s u h = h

module _ (p : Source) where
  pub i_declared : (x : Identdef) (o : Object) (s : Making) → Gives (InTo s) (declared p x o s)
  i_declared x o s =
      let e : Entry = record { object = o; exported = is_some x.star } in
      let u = with_levels (declare_last (spelled p x.name) e) s in
      keeps (InTo s) (tt, offer_if (is_none s.world.procedure) (spelled p x.name) e u) (offered_in (is_none s.world.procedure) (spelled p x.name) e s u (calm s u refl refl refl refl refl refl refl refl))

  pub g_const : (d : S.ConstDecl) (s : Making) → Gives (To s) (const_part p d s)
  g_const d s = g_next (g_in s (i_stand p (d.name.name ∷ []) s)) (λ r. g_next (g_look (constant p r.1.world d.value) r.1) (λ c. g_in c.1 (i_declared d.name (AConstant c.0) c.1)))

  i_type_decl : (d : S.TypeDecl) (s : Making) → Gives (InTo s) (type_decl_part p d s)
  i_type_decl d s = i_next (i_stand p (d.name.name ∷ []) s) (λ r. i_next (i_type p d.is r.1) (λ a. i_declared d.name (AType a.0) a.1))

  pub i_type_decls : (ds : List S.TypeDecl) (s : Making) → Gives (InTo s) (each (type_decl_part p) ds s)
  i_type_decls [] s = keeps (InTo s) (tt, s) (still s)
  i_type_decls (d ∷ ds) s = i_next (i_type_decl d s) (λ r. i_type_decls ds r.1)

  -- ---- the bases at the end of a TYPE part

  pub record SetsBases (fs : List (ℕ × ℕ)) (s t : Making) : Type 0 where
    pub modules : t.world.modules ≡ s.world.modules
    pub levels : t.world.levels ≡ s.world.levels
    pub narrowed : t.world.narrowed ≡ s.world.narrowed
    pub records : records_of t ≡ records_of s
    pub bases_length : length (bases_of t) ≡ length (bases_of s)
    pub bases : (n : ℕ) → Each (λ k. k.0 ≡ n → ⊥) fs → slice_get (bases_of t) n ≡ slice_get (bases_of s) n
    pub procedures : t.procedures ≡ s.procedures
    pub variables : t.variables ≡ s.variables
    pub values : t.values ≡ s.values
    pub procedure : t.world.procedure ≡ s.world.procedure
    pub module_number : t.world.module_number ≡ s.world.module_number

  here_same : {A : Type 0} (m : Judged A) (s : Making) → Gives (λ (r : A × Making). r.1 ≡ s) (m >>= λ a. Keeps (a, s))
  here_same {A = A} (Keeps a) s = keeps (λ (r : A × Making). r.1 ≡ s) (a, s) refl
  here_same {A = A} (Breaks n at) s = breaks (λ (r : A × Making). r.1 ≡ s) n at

  set_one : (k : ℕ × ℕ) (r : ℕ) (s : Making) → SetsBases (k ∷ []) s (with_known (λ x. record x { bases = slice_set x.bases k.0 (Some r) }) s)
  set_one k r s = record {
    modules = refl;
    levels = refl;
    narrowed = refl;
    records = refl;
    bases_length = set_length (bases_of s) k.0 (Some r);
    bases = λ n d. set_other (bases_of s) k.0 n (Some r) (λ e. d.0 (sym e));
    procedures = refl;
    variables = refl;
    values = refl;
    procedure = refl;
    module_number = refl;
  }

  set_more : (k : ℕ × ℕ) (ks : List (ℕ × ℕ)) (s t u : Making) → SetsBases (k ∷ []) s t → SetsBases ks t u → SetsBases (k ∷ ks) s u
  set_more k ks s t u a b = record {
    modules = b.modules ∙ a.modules;
    levels = b.levels ∙ a.levels;
    narrowed = b.narrowed ∙ a.narrowed;
    records = b.records ∙ a.records;
    bases_length = b.bases_length ∙ a.bases_length;
    bases = λ n d. b.bases n d.1 ∙ a.bases n (d.0, tt);
    procedures = b.procedures ∙ a.procedures;
    variables = b.variables ∙ a.variables;
    values = b.values ∙ a.values;
    procedure = b.procedure ∙ a.procedure;
    module_number = b.module_number ∙ a.module_number;
  }

  set_none : (s : Making) → SetsBases [] s s
  set_none s = record { modules = refl; levels = refl; narrowed = refl; records = refl; bases_length = refl; bases = λ n d. refl; procedures = refl; variables = refl; values = refl; procedure = refl; module_number = refl }

  set_forward : (k : ℕ × ℕ) (s : Making) → Gives (λ (r : Unit {0} × Making). SetsBases (k ∷ []) s r.1) (forward_base p k s)
  set_forward k s = and_then (here_same (some 30 (place p k.1) (entry_object (last_names s.world.levels (spelled p k.1)))) s) (λ o a. and_then (here_same (some 31 (place p k.1) (record_object o.0)) o.1) (λ r b.
      keeps (λ (r : Unit {0} × Making). SetsBases (k ∷ []) s r.1) (tt, with_known (λ x. record x { bases = slice_set x.bases k.0 (Some r.0) }) r.1)
      (subst (λ u. SetsBases (k ∷ []) s (with_known (λ x. record x { bases = slice_set x.bases k.0 (Some r.0) }) u)) (sym (b ∙ a)) (set_one k r.0 s))))

  pub set_forwards : (ks : List (ℕ × ℕ)) (s : Making) → Gives (λ (r : Unit {0} × Making). SetsBases ks s r.1) (each (forward_base p) ks s)
  set_forwards [] s = keeps (λ (r : Unit {0} × Making). SetsBases [] s r.1) (tt, s) (set_none s)
  set_forwards (k ∷ ks) s = and_then (set_forward k s) (λ r h. weaken (set_forwards ks r.1) (λ q g. set_more k ks s r.1 q.1 h g))

  -- a TYPE part: what it began with, what it had before its bases were set, and its end
  abbrev pub typing : Making → Making
  typing s = record s { is_type_part = true; forward = [] }

  abbrev pub typed : Making → Making
  typed s = record s { is_type_part = false }

  pub record Typed (s t : Making) : Type 0 where
    pub before : Making
    pub grown : GrowsIn (typing s) before
    pub sets : SetsBases before.forward (typed before) t

  apart : (n k : ℕ) → n < k → k ≡ n → ⊥
  apart n k l e = absurd (omega (arith, l, e))

  pub typed_grows : (s t : Making) → Typed s t → Grows s t
  typed_grows s t h =
      let g = h.grown.grown in
      let b = h.sets in
      record {
        records_more = let a = g.records_more in let e = ap length b.records in omega (arith, a, e);
        records = λ r l. ap (λ xs. slice_get xs r) b.records ∙ g.records r l;
        bases_more = let a = g.bases_more in let e = b.bases_length in omega (arith, a, e);
        bases = λ n l. b.bases n (subst (Each (λ k. k.0 ≡ n → ⊥)) (sym h.grown.forward) (each_map _ (λ k. k.0 ≡ n → ⊥) h.grown.more (λ k w. later_apart n k.0 l w.0) h.grown.waiting)) ∙ g.bases n l;
        procedures_more = let a = g.procedures_more in let e = ap length b.procedures in omega (arith, a, e);
        procedures = λ f l. ap (λ xs. slice_get xs f) b.procedures ∙ g.procedures f l;
        variables = λ v x i. let a = g.variables v x i in (b.values ∙ a.0, ap (λ xs. slice_get xs v) b.variables ∙ a.1);
        procedure = b.procedure ∙ g.procedure;
        module_number = b.module_number ∙ g.module_number;
        lines = λ k. subst AllLines (sym b.records) (g.lines k);
      }
    where
      later_apart : (n k : ℕ) → n < length (bases_of s) → length (bases_of s) ≤ k → k ≡ n → ⊥
      later_apart n k l m e = absurd (omega (arith, l, m, e))

  pub t_typed : (ds : List S.TypeDecl) (s : Making) → Gives (λ (r : Unit {0} × Making). Typed s r.1) (types_part p ds s)
  t_typed ds s = and_then (i_type_decls ds (typing s)) (λ r h. weaken (set_forwards r.1.forward (typed r.1)) (λ q g. record { before = r.1; grown = h; sets = g }))

  -- ---- variables

  pub one_variable : (s : Making) (x : Shape) → Grows s (record s { variables = s.variables ++ x ∷ [] })
  one_variable s x = record {
    records_more = omega arith;
    records = λ r l. refl;
    bases_more = omega arith;
    bases = λ n l. refl;
    procedures_more = omega arith;
    procedures = λ f l. refl;
    variables = λ v y h. (refl, get_append s.variables (x ∷ []) v (get_within s.variables v y h) ∙ h);
    procedure = refl;
    module_number = refl;
    lines = λ h. h;
  }

  pub g_variable : (a : Shape) (x : Identdef) (s : Making) → Gives (To s) (variable_part p a x s)
  g_variable a x s = g_next (g_in s (i_declared x (AVariable (record { shape = a; place = place_here s.world.procedure s.world.module_number (s.values + length s.variables); home = home_here s.world.procedure; owner = s.world.module_number; procedure = s.world.procedure })) s))
      (λ r. keeps (To r.1) (tt, record r.1 { variables = r.1.variables ++ a ∷ [] }) (one_variable r.1 a))

  pub g_variables : (a : Shape) (xs : List Identdef) (s : Making) → Gives (To s) (each (variable_part p a) xs s)
  g_variables a [] s = keeps (To s) (tt, s) (self s)
  g_variables a (x ∷ xs) s = g_next (g_variable a x s) (λ r. g_variables a xs r.1)

  pub g_var : (d : S.VarDecl) (s : Making) → Gives (To s) (var_part p d s)
  g_var d s = g_next (g_in s (i_stand p (symbols_of (idents_list d.names)) s)) (λ r. g_next (g_in r.1 (i_type p d.of r.1)) (λ a. g_variables a.0 (idents_list d.names) a.1))

  pub g_each : {X : Type 0} (f : X → Part (Unit {0})) → ((x : X) (s : Making) → Gives (To s) (f x s)) → (xs : List X) (s : Making) → Gives (To s) (each f xs s)
  g_each f g [] s = keeps (To s) (tt, s) (self s)
  g_each f g (x ∷ xs) s = g_next (g x s) (λ r. g_each f g xs r.1)
