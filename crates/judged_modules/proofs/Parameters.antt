-- Parameters judged: of types that parameters may have, and known in their procedure.
use Rattle.std.proofs.Common.{◌≡◌, ℕ, suc, ◌+◌, List, [], ◌∷◌, ◌++◌, length, Bool, true, false, not, ◌&&◌, Option, Some, None, refl, ap, sym, ◌∙◌, subst, arith, eqb-true}
use Rattle.std.specs.Prelude.{slice_get, nat_le, if◌then◌else◌, is_some, option_map}
use Rattle.ob_types.proofs.Tests.{no, none_some, and_of, and_from}
use Rattle.ob_syntax.specs.Syntax as S
use Rattle.ob_syntax.specs.declared.types.ResultType.{ResultType}
use Rattle.ob_judge.specs.Judged.{Judged, Keeps, Breaks, ◌>>=◌, rule}
use Rattle.ob_judge.specs.Shapes.{Shape, Integer, Boolean, Char, Byte, Set, Nil, Nothing, Array, Open, Record, Pointer, Procedure, Formals, none, one, is_scalar}
use Rattle.ob_judge.specs.Shapes.{Text as TextShape}
use Rattle.ob_judge.specs.Image.{Place, Local, Parameter, Formal}
use Rattle.ob_judge.specs.Scopes.{AVariable, Variable, Home, Free, ReadOnly, Source, place, spelled, is_visible}
use Rattle.ob_judge.specs.Names.{member_symbol, type_named}
use Rattle.ob_judge.specs.Making.{Making, is_among, with_levels, declare_last}
use Rattle.ob_judge.specs.Parameters.{Listed, no_parameters, words_of, append, opened, mode_of, is_value, parameter_home, listed, stand, type_at, parameter_variable, add_parameters, next_names, section, next_sections, sections, result_shape, formal_part}
use Rattle.judged_well.specs.Gives.{Gives}
use Rattle.judged_well.specs.Forms.{Of, OpenOf, Dynamic}
use Rattle.judged_well.specs.Setting.{Setting, IsOrder}
use Rattle.judged_well.specs.Typing.{outline, named, parameter_named}
use Rattle.judged_well.specs.Standing.{is_whole, is_formal, is_result, good, goods, IsRead, as_whole, as_open, as_record, VariableStands, Right}
use Rattle.judged_well.proofs.Judging.{keeps, breaks, weaken, and_then, by_rule}
use Rattle.judged_well.proofs.Naming.{t_type_named}
use Rattle.judged_modules.specs.Final.{Final, setting_in}
use Rattle.judged_modules.specs.Agrees.{Agrees, value_shapes, formals_of, records_of, bases_of}
use Rattle.judged_modules.specs.Sound.{IsGood, IsKept, Sound, IsHere}
use Rattle.judged_modules.proofs.Lists.{get_append, get_last, get_within, append_length}
use Rattle.judged_modules.specs.Lines.{AllLines}
use Rattle.judged_modules.proofs.Growing.{Grows, untouched}
use Rattle.judged_modules.specs.Lists.{Each}
use Rattle.judged_modules.proofs.TypesGrow.{each_append, joined, right_none}
use Rattle.judged_modules.proofs.Righting.{agrees_back, here_in, here_between, right_of}
use Rattle.judged_modules.proofs.Keeping.{given, sound_declared}

-- what formal parts leave as it was: all but the scope and the number of value parameters, and these too where names aren't made known
pub record Heads (b : Bool) (s t : Making) : Type 0 where
  pub records : records_of t ≡ records_of s
  pub bases : bases_of t ≡ bases_of s
  pub procedures : t.procedures ≡ s.procedures
  pub variables : t.variables ≡ s.variables
  pub procedure : t.world.procedure ≡ s.world.procedure
  pub module_number : t.world.module_number ≡ s.world.module_number
  pub values : b ≡ false → t.values ≡ s.values

pub heads_self : (b : Bool) (s : Making) → Heads b s s
heads_self b s = record { records = refl; bases = refl; procedures = refl; variables = refl; procedure = refl; module_number = refl; values = λ h. refl }

pub heads_on : (b : Bool) (s t u : Making) → Heads b s t → Heads b t u → Heads b s u
heads_on b s t u g h = record {
  records = h.records ∙ g.records;
  bases = h.bases ∙ g.bases;
  procedures = h.procedures ∙ g.procedures;
  variables = h.variables ∙ g.variables;
  procedure = h.procedure ∙ g.procedure;
  module_number = h.module_number ∙ g.module_number;
  values = λ i. h.values i ∙ g.values i;
}

-- what agrees at the end agreed before, where no variable is declared yet
pub heads_grow : (b : Bool) (s t : Making) → Heads b s t → s.variables ≡ [] → Grows s t
heads_grow b s t h empty = record {
  records_more = let l = ap length h.records in omega (arith, l);
  records = λ r l. ap (λ xs. slice_get xs r) h.records;
  bases_more = let l = ap length h.bases in omega (arith, l);
  bases = λ n l. ap (λ xs. slice_get xs n) h.bases;
  procedures_more = let l = ap length h.procedures in omega (arith, l);
  procedures = λ f l. ap (λ xs. slice_get xs f) h.procedures;
  variables = λ v x at. none_some x (sym (ap (λ xs. slice_get xs v) empty) ∙ at);
  procedure = h.procedure;
  module_number = h.module_number;
  lines = λ k. subst AllLines (sym h.records) k;
}

pub heads_grows : (b : Bool) (s t : Making) → Heads b s t → (b ≡ true → s.variables ≡ []) → Grows s t
heads_grows true s t h empty = heads_grow true s t h (empty refl)
heads_grows false s t h empty = untouched s t h.records h.bases h.procedures h.variables (h.values refl) h.procedure h.module_number

-- all but the names that stand is as it was
pub record Plain (s t : Making) : Type 0 where
  pub world : t.world ≡ s.world
  pub procedures : t.procedures ≡ s.procedures
  pub variables : t.variables ≡ s.variables
  pub values : t.values ≡ s.values

pub plain_heads : (b : Bool) (s t : Making) → Plain s t → Heads b s t
plain_heads b s t h = record {
  records = ap (λ v. v.known.records) h.world;
  bases = ap (λ v. v.known.bases) h.world;
  procedures = h.procedures;
  variables = h.variables;
  procedure = ap (λ v. v.procedure) h.world;
  module_number = ap (λ v. v.module_number) h.world;
  values = λ i. h.values;
}

pub look_as : {A : Type 0} (m : Judged A) (s : Making) → Gives (λ (r : A × Making). (r.1 ≡ s) × (m ≡ Keeps r.0)) (m >>= λ a. Keeps (a, s))
look_as {A = A} (Keeps a) s = keeps (λ (r : A × Making). (r.1 ≡ s) × (Keeps a ≡ Keeps r.0)) (a, s) (refl, refl)
look_as {A = A} (Breaks n at) s = breaks (λ (r : A × Making). (r.1 ≡ s) × (Breaks n at ≡ Keeps r.0)) n at

pub stand_plain : (p : Source) (xs : List ℕ) (s : Making) → Gives (λ (r : Unit {0} × Making). Plain s r.1) (stand p xs s)
stand_plain p [] s = keeps (λ (r : Unit {0} × Making). Plain s r.1) (tt, s) (record { world = refl; procedures = refl; variables = refl; values = refl })
stand_plain p (i ∷ is) s = and_then (look_as (rule 36 (place p i) (not (is_among (spelled p i) s.standing))) s) (λ r h.
    weaken (stand_plain p is (record (r.1) { standing = spelled p i ∷ (r.1).standing })) (λ q k. record {
      world = k.world ∙ ap (λ u. u.world) h.0;
      procedures = k.procedures ∙ ap (λ u. u.procedures) h.0;
      variables = k.variables ∙ ap (λ u. u.variables) h.0;
      values = k.values ∙ ap (λ u. u.values) h.0;
    }))

-- the whole tells the parameters of procedure f
pub record HasParameters (w : Final) (f : ℕ) (xs : List Formal) : Type 0 where
  pub parameter : (k : ℕ) (x : Formal) → slice_get xs k ≡ Some x → w.parameter f k ≡ Some (x.variable, x.shape)
  pub value : (v : ℕ) (a : Shape) → slice_get (value_shapes xs) v ≡ Some a → w.variable f v ≡ Some a

values_append : (xs ys : List Formal) → value_shapes (xs ++ ys) ≡ value_shapes xs ++ value_shapes ys
values_append [] ys = refl
values_append (x ∷ xs) ys = by (is_value x.mode) (values_append xs ys)
  where
    by : (b : Bool) → value_shapes (xs ++ ys) ≡ value_shapes xs ++ value_shapes ys
        → (if b then (x.shape ∷ value_shapes (xs ++ ys)) else value_shapes (xs ++ ys)) ≡ (if b then (x.shape ∷ value_shapes xs) else value_shapes xs) ++ value_shapes ys
    by true h = ap (λ zs. x.shape ∷ zs) h
    by false h = h

pub parameters_back : (w : Final) (f : ℕ) (xs more : List Formal) → HasParameters w f (xs ++ more) → HasParameters w f xs
parameters_back w f xs more h = record {
  parameter = λ k x at. h.parameter k x (get_append xs more k (get_within xs k x at) ∙ at);
  value = λ v a at. h.value v a (ap (λ zs. slice_get zs v) (values_append xs more) ∙ get_append (value_shapes xs) (value_shapes more) v (get_within (value_shapes xs) v a at) ∙ at);
}

-- a type that parameters may have
abbrev pub IsParameterType : Final → Shape → Type 0
IsParameterType w a = (is_formal a ≡ true) × (good (setting_in w 0) a ≡ true)

abbrev pub IsListedFormal : Final → Formal → Type 0
IsListedFormal w x = (x.mode ≡ mode_of x.variable x.shape) × IsParameterType w x.shape

-- parameters so far: of types that they may have, and said twice
pub record IsListed (w : Final) (l : Listed) : Type 0 where
  pub goods : goods (setting_in w 0) l.formals ≡ true
  pub same : formals_of l.parameters ≡ l.formals
  pub each : Each (IsListedFormal w) l.parameters

-- ---- a parameter's variable

module _ (w : Final) (f : ℕ) where
  abbrev e : Setting
  e = setting_in w f

  abbrev variable_of : Shape → Place → Home → ℕ → Option ℕ → Variable
  variable_of a d h n o = record { shape = a; place = d; home = h; owner = n; procedure = o }

  written : (a : Shape) (d : Place) (n : ℕ) (o : Option ℕ) → is_whole a ≡ true → good e a ≡ true → named e (outline e) d ≡ Some (Of a true) → VariableStands e (variable_of a d Free n o)
  written a d n o whole g h = record { names = Of a true; are = h; fits = as_whole a true whole; claims = refl; integer = λ i. refl; good = g }

  read : (a : Shape) (d : Place) (n : ℕ) (o : Option ℕ) → is_whole a ≡ true → good e a ≡ true → (a ≡ Integer → ⊥) → named e (outline e) d ≡ Some (Of a false) → VariableStands e (variable_of a d ReadOnly n o)
  read a d n o whole g other h = record { names = Of a false; are = h; fits = as_whole a false whole; claims = tt; integer = λ i. absurd (other i); good = g }

  -- a VAR parameter of a type that is no open array and no record type; a scalar value parameter
  scalar_var : (a : Shape) (k n : ℕ) (o : Option ℕ) → is_whole a ≡ true → good e a ≡ true → parameter_named (Some (true, a)) ≡ Some (Of a true) → w.parameter f k ≡ Some (true, a) → VariableStands e (variable_of a (Parameter k) Free n o)
  scalar_var a k n o whole g by h = written a (Parameter k) n o whole g (ap parameter_named h ∙ by)

  scalar_value : (a : Shape) (v n : ℕ) (o : Option ℕ) → is_whole a ≡ true → good e a ≡ true → w.variable f v ≡ Some a → VariableStands e (variable_of a (Local v) Free n o)
  scalar_value a v n o whole g h = written a (Local v) n o whole g (ap (λ q. option_map (λ s. Of s true) q) h)

  pub parameter_stands : (v : Bool) (a : Shape) (values k n : ℕ) (o : Option ℕ) → is_formal a ≡ true → good e a ≡ true → w.parameter f k ≡ Some (v, a) → (is_value (mode_of v a) ≡ true → w.variable f values ≡ Some a)
      → VariableStands e (variable_of a (if is_value (mode_of v a) then Local values else Parameter k) (parameter_home v a) n o)
  parameter_stands true (Open c) values k n o i g h l = record { names = OpenOf c true; are = ap parameter_named h; fits = as_open c true; claims = refl; integer = λ j. absurd (let z = j in cc); good = g }
  parameter_stands false (Open c) values k n o i g h l = record { names = OpenOf c false; are = ap parameter_named h; fits = as_open c false; claims = tt; integer = λ j. absurd (let z = j in cc); good = g }
  parameter_stands true (Record r) values k n o i g h l = record { names = Dynamic r; are = ap parameter_named h; fits = as_record r; claims = refl; integer = λ j. absurd (let z = j in cc); good = g }
  parameter_stands false (Record r) values k n o i g h l = read (Record r) (Parameter k) n o refl g (λ j. absurd (let z = j in cc)) (ap parameter_named h)
  parameter_stands true (Array m c) values k n o i g h l = scalar_var (Array m c) k n o refl g refl h
  parameter_stands false (Array m c) values k n o i g h l = read (Array m c) (Parameter k) n o refl g (λ j. absurd (let z = j in cc)) (ap parameter_named h)
  parameter_stands true Integer values k n o i g h l = scalar_var Integer k n o refl g refl h
  parameter_stands false Integer values k n o i g h l = scalar_value Integer values n o refl g (l refl)
  parameter_stands true Boolean values k n o i g h l = scalar_var Boolean k n o refl g refl h
  parameter_stands false Boolean values k n o i g h l = scalar_value Boolean values n o refl g (l refl)
  parameter_stands true Char values k n o i g h l = scalar_var Char k n o refl g refl h
  parameter_stands false Char values k n o i g h l = scalar_value Char values n o refl g (l refl)
  parameter_stands true Byte values k n o i g h l = scalar_var Byte k n o refl g refl h
  parameter_stands false Byte values k n o i g h l = scalar_value Byte values n o refl g (l refl)
  parameter_stands true Set values k n o i g h l = scalar_var Set k n o refl g refl h
  parameter_stands false Set values k n o i g h l = scalar_value Set values n o refl g (l refl)
  parameter_stands true (Pointer m) values k n o i g h l = scalar_var (Pointer m) k n o refl g refl h
  parameter_stands false (Pointer m) values k n o i g h l = scalar_value (Pointer m) values n o refl g (l refl)
  parameter_stands true (Procedure ps s) values k n o i g h l = scalar_var (Procedure ps s) k n o refl g refl h
  parameter_stands false (Procedure ps s) values k n o i g h l = scalar_value (Procedure ps s) values n o refl g (l refl)
  parameter_stands v Nil values k n o i g h l = no i
  parameter_stands v Nothing values k n o i g h l = no i
  parameter_stands v (TextShape m) values k n o i g h l = no i

-- ---- lists of parameters

module _ (w : Final) where
  goods_append : (ps : Formals) (v : Bool) (a : Shape) → goods (setting_in w 0) ps ≡ true → IsParameterType w a → goods (setting_in w 0) (append ps v a) ≡ true
  goods_append none v a h k = and_from (is_formal a) (good (setting_in w 0) a && true) k.0 (and_from (good (setting_in w 0) a) true k.1 refl)
  goods_append (one u b more) v a h k =
      let x = and_of (is_formal b) (good (setting_in w 0) b && goods (setting_in w 0) more) h in
      let y = and_of (good (setting_in w 0) b) (goods (setting_in w 0) more) x.1 in
      and_from (is_formal b) (good (setting_in w 0) b && goods (setting_in w 0) (append more v a)) x.0 (and_from (good (setting_in w 0) b) (goods (setting_in w 0) (append more v a)) y.0 (goods_append more v a y.1 k))

  formals_append : (xs : List Formal) (y : Formal) → formals_of (xs ++ y ∷ []) ≡ append (formals_of xs) y.variable y.shape
  formals_append [] y = refl
  formals_append (x ∷ xs) y = ap (λ ps. one x.variable x.shape ps) (formals_append xs y)

  pub listed_more : (v : Bool) (a : Shape) (l : Listed) → IsParameterType w a → IsListed w l → IsListed w (listed v a l)
  listed_more v a l k h =
      let x : Formal = record { mode = mode_of v a; variable = v; shape = a } in
      record {
        goods = goods_append l.formals v a h.goods k;
        same = formals_append l.parameters x ∙ ap (λ ps. append ps v a) h.same;
        each = each_append (IsListedFormal w) l.parameters (x ∷ []) h.each ((refl, k), tt);
      }

  pub no_listed : IsListed w no_parameters
  no_listed = record { goods = refl; same = refl; each = tt }

  -- what judging some parameters gives, from l on: names are made known in procedure f, or aren't
  abbrev pub Knows : Bool → ℕ → Listed → Making → Listed → Type 0
  Knows b f l s m = b ≡ true → (s.world.procedure ≡ Some f) × (s.variables ≡ []) × (s.values ≡ length (value_shapes l.parameters)) × HasParameters w f m.parameters

  pub record Lists (b : Bool) (f : ℕ) (Before : Type 0) (l : Listed) (s : Making) (r : Listed × Making) : Type 0 where
    pub heads : Heads b s r.1
    pub more : List Formal
    pub prefix : (r.0).parameters ≡ l.parameters ++ more
    pub values : (b ≡ true → s.values ≡ length (value_shapes l.parameters)) → b ≡ true → (r.1).values ≡ length (value_shapes (r.0).parameters)
    pub sound : Before → IsListed w l → Agrees w r.1 → Sound w s.world → Knows b f l s r.0 → Sound w (r.1).world × IsListed w r.0 × (b ≡ true → (r.1).values ≡ length (value_shapes (r.0).parameters))

  pub l_next : {b : Bool} {f : ℕ} {Before : Type 0} {l : Listed} {s : Making} {m : Judged (Listed × Making)} {g : Listed × Making → Judged (Listed × Making)}
      → Gives (Lists b f Before l s) m → ((r : Listed × Making) → Gives (Lists b f Before r.0 r.1) (g r)) → Gives (Lists b f Before l s) (m >>= g)
  l_next {b = b} {f = f} {l = l} {s = s} first next = and_then first (λ r h. weaken (next r) (λ q k. record {
    heads = heads_on b s r.1 q.1 h.heads k.heads;
    more = h.more ++ k.more;
    prefix = k.prefix ∙ ap (λ xs. xs ++ k.more) h.prefix ∙ joined l.parameters h.more k.more;
    values = λ i. k.values (h.values i);
    sound = λ before listed agrees sound knows.
        let back = heads_grows b r.1 q.1 k.heads (λ i. h.heads.variables ∙ (knows i).1) in
        let a = h.sound before listed (agrees_back w r.1 q.1 back agrees) sound (λ i. ((knows i).0, (knows i).1, (knows i).2, parameters_back w f (r.0).parameters k.more (subst (HasParameters w f) k.prefix (knows i).3))) in
        k.sound before a.1 agrees a.0 (λ i. (h.heads.procedure ∙ (knows i).0, h.heads.variables ∙ (knows i).1, a.2 i, (knows i).3));
  }))

  module _ (p : Source) where
    -- the parameter's name is known
    abbrev known_from : ℕ → Bool → Shape → Listed → Making → Making
    known_from i v a l s = record (with_levels (declare_last (spelled p i) (record { object = parameter_variable v a s.values (length l.parameters) s.world; exported = false })) s) { values = if is_value (mode_of v a) then suc s.values else s.values }

    abbrev new : Bool → Shape → Formal
    new v a = record { mode = mode_of v a; variable = v; shape = a }

    one_value : (b : Bool) (a : Shape) (xs : List Shape) (n : ℕ) → n ≡ length xs → (if b then suc n else n) ≡ length (xs ++ (if b then (a ∷ []) else []))
    one_value true a xs n h = let k = append_length xs (a ∷ []) in omega (arith, h, k)
    one_value false a xs n h = let k = append_length xs [] in omega (arith, h, k)

    own_place : (b : Bool) (n values k : ℕ) → Rattle.judged_well.specs.Standing.is_own (setting_in w 0) n (if b then Local values else Parameter k) ≡ true
    own_place true n values k = refl
    own_place false n values k = refl

    value_last : (b : Bool) (a : Shape) (xs : List Shape) → b ≡ true → slice_get (xs ++ (if b then (a ∷ []) else [])) (length xs) ≡ Some a
    value_last true a xs h = get_last xs a
    value_last false a xs h = no h

    kept : (f : ℕ) (v : Bool) (a : Shape) (l : Listed) (s : Making) → IsParameterType w a → s.world.procedure ≡ Some f → s.values ≡ length (value_shapes l.parameters) → HasParameters w f (l.parameters ++ new v a ∷ [])
        → IsKept w s.world.module_number (parameter_variable v a s.values (length l.parameters) s.world)
    kept f v a l s kind here values has g seen =
        let same : f ≡ g = eqb-true f g (subst (λ o. is_visible (Some g) (AVariable (record { shape = a; place = if is_value (mode_of v a) then Local s.values else Parameter (length l.parameters); home = parameter_home v a; owner = s.world.module_number; procedure = o })) ≡ true) here seen) in (
          subst (λ n. VariableStands (setting_in w n) (record { shape = a; place = if is_value (mode_of v a) then Local s.values else Parameter (length l.parameters); home = parameter_home v a; owner = s.world.module_number; procedure = s.world.procedure })) same
              (parameter_stands w f v a s.values (length l.parameters) s.world.module_number s.world.procedure kind.0 kind.1 (has.parameter (length l.parameters) (new v a) (get_last l.parameters (new v a)))
              (λ i. ap (w.variable f) values ∙ has.value (length (value_shapes l.parameters)) a (ap (λ xs. slice_get xs (length (value_shapes l.parameters))) (values_append l.parameters (new v a ∷ [])) ∙ value_last (is_value (mode_of v a)) a (value_shapes l.parameters) i))),
          own_place (is_value (mode_of v a)) s.world.module_number s.values (length l.parameters),
        )

    pub l_add : (b : Bool) (f : ℕ) {Before : Type 0} (v : Bool) (a : Shape) → (Before → IsParameterType w a) → (is : List ℕ) (l : Listed) (s : Making) → Gives (Lists b f Before l s) (add_parameters p b v a is l s)
    l_add b f v a kind [] l s = keeps (Lists b f _ l s) (l, s) (record { heads = heads_self b s; more = []; prefix = right_none l.parameters; values = λ i. i; sound = λ before listed agrees sound knows. (sound, listed, λ i. (knows i).2) })
    l_add false f v a kind (i ∷ is) l s = and_then (look_as (rule 40 (place p i) (nat_le (l.words + words_of v a) 24)) s) (λ r h. weaken (l_add false f v a kind is (listed v a l) r.1) (λ q k. record {
      heads = subst (λ u. Heads false u q.1) h.0 k.heads;
      values = λ i j. no j;
      more = new v a ∷ k.more;
      prefix = k.prefix ∙ joined l.parameters (new v a ∷ []) k.more;
      sound = λ before listed agrees sound knows. k.sound before (listed_more v a l (kind before) listed) agrees (subst (λ u. Sound w u.world) (sym h.0) sound) (λ i. no i);
    }))
    l_add true f v a kind (i ∷ is) l s = and_then (look_as (rule 40 (place p i) (nat_le (l.words + words_of v a) 24)) s) (λ r h. weaken (l_add true f v a kind is (listed v a l) (known_from i v a l r.1)) (λ q k. record {
      heads = heads_on true s (known_from i v a l r.1) q.1 (subst (λ u. Heads true u (known_from i v a l r.1)) h.0 (record { records = refl; bases = refl; procedures = refl; variables = refl; procedure = refl; module_number = refl; values = λ j. no (sym j) })) k.heads;
      values = λ i. k.values (λ j. one_value (is_value (mode_of v a)) a (value_shapes l.parameters) (r.1).values (ap (λ u. u.values) h.0 ∙ i j) ∙ ap length (sym (values_append l.parameters (new v a ∷ []))));
      more = new v a ∷ k.more;
      prefix = k.prefix ∙ joined l.parameters (new v a ∷ []) k.more;
      sound = λ before listed agrees sound knows.
          let n = knows refl in
          let has = parameters_back w f (l.parameters ++ new v a ∷ []) k.more (subst (HasParameters w f) k.prefix n.3) in
          let here = ap (λ u. u.world.procedure) h.0 ∙ n.0 in
          let values = ap (λ u. u.values) h.0 ∙ n.2 in
          let again = subst (λ u. Sound w u.world) (sym h.0) sound in
          k.sound before (listed_more v a l (kind before) listed) agrees
          (sound_declared w (r.1).world (spelled p i) (record { object = parameter_variable v a (r.1).values (length l.parameters) (r.1).world; exported = false }) (kept f v a l r.1 (kind before) here values has) again)
          (λ j. (here, ap (λ u. u.variables) h.0 ∙ n.1, one_value (is_value (mode_of v a)) a (value_shapes l.parameters) (r.1).values values ∙ ap length (sym (values_append l.parameters (new v a ∷ []))), n.3));
    }))

    -- ---- sections

    abbrev pub at_of : Option ℕ → ℕ
    at_of None = 0
    at_of (Some f) = f

    pub here_at : (o : Option ℕ) → IsHere o (at_of o)
    here_at None = here_between w 0
    here_at (Some f) = here_in w f

    module _ (order : (f : ℕ) → IsOrder (setting_in w f)) where
      pub good_type : (number : ℕ) (name : ℕ) (i : Option ℕ) (s : Making) → Agrees w s → Sound w s.world → Gives (IsGood w) (type_named p s.world number name i)
      good_type number name i s agrees sound =
          let f = at_of s.world.procedure in
          t_type_named (setting_in w f) (order f) p s.world (right_of w p s agrees sound f (here_at s.world.procedure)) number name i

      opened_good : (b : Bool) (a : Shape) → IsGood w a → IsParameterType w (opened b a)
      opened_good true a h = (refl, and_from (is_whole a) (good (setting_in w 0) a) h.1 h.0)
      opened_good false (Open c) h = no h.1
      opened_good false Integer h = (h.1, h.0)
      opened_good false a h = (h.1, h.0)

      pub l_section : (b : Bool) (f : ℕ) {Before : Type 0} (x : S.Section) (l : Listed) (s : Making) → Gives (Lists b f Before l s) (section p b x l s)
      l_section b f x l s = and_then (stand_plain p (x.first ∷ next_names x.more) s) (λ r h. and_then (look_as (type_at p 31 x.of (r.1).world) r.1) (λ a k.
          weaken (l_add b f (is_some x.var_word) (opened (is_some x.open_array) a.0) (λ g. opened_good (is_some x.open_array) a.0 g) (x.first ∷ next_names x.more) l a.1) (λ q j. record {
            heads = heads_on b s r.1 q.1 (plain_heads b s r.1 h) (subst (λ u. Heads b u q.1) k.0 j.heads);
            more = j.more;
            prefix = j.prefix;
            values = λ i. j.values (λ x. ap (λ u. u.values) k.0 ∙ h.values ∙ i x);
            sound = λ before listed agrees sound knows.
                let empty = λ (i : b ≡ true). ap (λ u. u.variables) k.0 ∙ h.variables ∙ (knows i).1 in
                let back = subst (Agrees w) k.0 (agrees_back w a.1 q.1 (heads_grows b a.1 q.1 j.heads empty) agrees) in
                let again = subst (Sound w) (sym h.world) sound in
                j.sound (given a.0 (good_type 31 (x.of).name (member_symbol (x.of).member) r.1 back again) k.1) listed agrees (subst (λ u. Sound w u.world) (sym k.0) again)
                (λ i. (ap (λ u. u.world.procedure) k.0 ∙ ap (λ v. v.procedure) h.world ∙ (knows i).0, empty i, ap (λ u. u.values) k.0 ∙ h.values ∙ (knows i).2, (knows i).3));
          })))

      pub l_sections : (b : Bool) (f : ℕ) {Before : Type 0} (xs : List S.NextSection) (l : Listed) (s : Making) → Gives (Lists b f Before l s) (next_sections p b xs l s)
      l_sections b f [] l s = keeps (Lists b f _ l s) (l, s) (record { heads = heads_self b s; more = []; prefix = right_none l.parameters; values = λ i. i; sound = λ before listed agrees sound knows. (sound, listed, λ i. (knows i).2) })
      l_sections b f (x ∷ xs) l s = l_next (l_section b f x.section l s) (λ r. l_sections b f xs r.0 r.1)

      pub l_all : (b : Bool) (f : ℕ) {Before : Type 0} (x : Option S.Sections) (s : Making) → Gives (Lists b f Before no_parameters s) (sections p b x s)
      l_all b f None s = keeps (Lists b f _ no_parameters s) (no_parameters, s) (record { heads = heads_self b s; more = []; prefix = refl; values = λ i. i; sound = λ before listed agrees sound knows. (sound, listed, λ i. (knows i).2) })
      l_all b f (Some x) s = l_next (l_section b f x.first no_parameters s) (λ r. l_sections b f x.more r.0 r.1)

      -- ---- results

      abbrev pub IsResultType : Shape → Type 0
      IsResultType a = (is_result a ≡ true) × (good (setting_in w 0) a ≡ true)

      result_of : (a : Shape) → is_whole a ≡ true → is_scalar a ≡ true → is_result a ≡ true
      result_of Nothing h k = refl
      result_of Integer h k = refl
      result_of a h k = and_from (is_whole a) (is_scalar a) h k

      result_good : (r : Option ResultType) (s : Making) → Agrees w s → Sound w s.world → Gives IsResultType (result_shape p r s.world)
      result_good None s agrees sound = keeps IsResultType Nothing (refl, refl)
      result_good (Some r) s agrees sound = and_then (good_type 31 (r.name).name (member_symbol (r.name).member) s agrees sound) (λ a h.
          by_rule 31 (place p (r.name).name) (is_scalar a) (λ k. keeps IsResultType a (result_of a h.1 k, h.0)))

      -- what formal parts give: what a procedure takes and gives
      pub record Forms (b : Bool) (f : ℕ) (s : Making) (r : (Listed × Shape) × Making) : Type 0 where
        pub heads : Heads b s r.1
        pub values : (b ≡ true → s.values ≡ 0) → b ≡ true → (r.1).values ≡ length (value_shapes ((r.0).0).parameters)
        pub sound : Agrees w r.1 → Sound w s.world → Knows b f no_parameters s (r.0).0 → Sound w (r.1).world × IsListed w (r.0).0 × IsResultType (r.0).1 × (b ≡ true → (r.1).values ≡ length (value_shapes ((r.0).0).parameters))

      pub l_formals : (b : Bool) (f : ℕ) (x : Option S.Formals) (s : Making) → Gives (Forms b f s) (formal_part p b x s)
      l_formals b f None s = keeps (Forms b f s) ((no_parameters, Nothing), s) (record { heads = heads_self b s; values = λ i. i; sound = λ agrees sound knows. (sound, no_listed, (refl, refl), λ i. (knows i).2) })
      l_formals b f (Some x) s = and_then (l_all b f {Before = Unit {0}} x.sections s) (λ r h. and_then (look_as (result_shape p x.result (r.1).world) r.1) (λ a k.
          keeps (Forms b f s) ((r.0, a.0), a.1) (record {
            heads = subst (λ u. Heads b s u) (sym k.0) h.heads;
            values = λ i x. ap (λ u. u.values) k.0 ∙ h.values i x;
            sound = λ agrees sound knows.
                let here = subst (Agrees w) k.0 agrees in
                let g = h.sound tt no_listed here sound knows in
                (subst (λ u. Sound w u.world) (sym k.0) g.0, g.1, given a.0 (result_good x.result r.1 here g.0) k.1, λ i. ap (λ u. u.values) k.0 ∙ g.2 i);
          })))
