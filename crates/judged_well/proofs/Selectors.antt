-- What a CASE is on, and its labels.
use Rattle.std.proofs.Common.{◌≡◌, ℕ, List, [], ◌∷◌, Bool, true, false, not, ◌||◌, Option, Some, None, refl, sym, ap, ◌∙◌, subst}
use Rattle.std.specs.Prelude.{if◌then◌else◌, slice_get}
use Rattle.ob_types.proofs.Tests.{no, none_some, some_same}
use Rattle.ob_syntax.specs.Syntax as S
use Rattle.ob_syntax.specs.declared.statements.NextRange.{NextRange}
use Rattle.ob_syntax.specs.declared.statements.Range.{Range}
use Rattle.ob_syntax.specs.declared.expressions.Sign.{Sign}
use Rattle.ob_judge.specs.Shapes.{Shape, Integer, Char, Byte, Record, Pointer, extends, is_pointer, is_number, target_of, base_of, based_on}
use Rattle.ob_judge.specs.Image.{Place}
use Rattle.ob_judge.specs.Scopes.{Home, Free, ReadOnly, Tagged, OfModule, Variable, Narrowing, Object, AConstant, AType, AVariable, AProcedure, World, Source, look_up, is_visible, place, spelled}
use Rattle.ob_judge.specs.Operands.{Operand, is_constant, is_tagged_home, is_tagged, whole_variable, of_constant, designator_of}
use Rattle.ob_judge.specs.Symbols.{bare}
use Rattle.ob_judge.specs.Names.{Whole, named, finished, variable_read, narrowed_to, narrowing_of}
use Rattle.ob_judge.specs.Parts.{is_nothing}
use Rattle.ob_judge.specs.Expressions.{expression, factor}
use Rattle.ob_judge.specs.Cases.{SelectorOf, OnInteger, OnChar, OnType, label_object, label_type, label_symbol, no_high, type_label, type_labels, case_variable, entry_object, named_alone, on_values, selector_of, tag_of}
use Rattle.judged_well.specs.Gives.{Gives}
use Rattle.judged_well.specs.Forms.{Named, Of, Dynamic, is_dynamic}
use Rattle.judged_well.specs.Setting.{Setting, IsOrder}
use Rattle.judged_well.specs.Typing.{outline, designated}
use Rattle.judged_well.specs.Typing.{named as names}
use Rattle.judged_well.specs.Standing.{Fits, as_done, as_whole, as_open, as_record, HomeClaims, is_own, IsOwn, IsBegun, VariableStands, ObjectStands, NarrowsTo, to_pointer, to_record, Right}
use Rattle.judged_well.proofs.Judging.{keeps, breaks, weaken, and_then, by_rule, by_some, anything, by_unit}
use Rattle.judged_well.specs.Standing.{is_compound}
use Rattle.judged_well.proofs.Selecting.{t_tagged}
use Rattle.judged_well.proofs.Naming.{t_variable_read}

module _ (e : Setting) (order : IsOrder e) (p : Source) (w : World) (right : Right e p w) where
  -- ---- an expression that is the name of a variable

  abbrev pub IsRead : ℕ → Operand → Type 0
  IsRead name y = (v : Variable) → entry_object (look_up (spelled p name) w.levels) ≡ Some (AVariable v) → VariableStands e v × (is_own e w.module_number v.place ≡ true) × (y ≡ variable_read p w v)

  abbrev Found : ℕ → Object → Type 0
  Found name o = (v : Variable) → entry_object (look_up (spelled p name) w.levels) ≡ Some (AVariable v) → (o ≡ AVariable v) × VariableStands e v × (is_own e w.module_number v.place ≡ true)

  named_found : (name : ℕ) → Gives (Found name) (named p w name)
  named_found name = by_some 30 (place p name) (look_up (spelled p name) w.levels) (λ x is.
      by_rule 34 (place p name) (is_visible w.procedure x.object) (λ seen.
      keeps (Found name) x.object (λ v at.
      let same = some_same x.object (AVariable v) (ap (λ o. entry_object o) (sym is) ∙ at) in
      let h = right.names (spelled p name) x is seen in
      (same, subst (λ o. ObjectStands e o) same h.0, subst (λ o. IsOwn e w o) same h.1))))

  finished_found : (name at : ℕ) (o : Object) → Found name o → Gives (IsRead name) (finished p w at (Whole o))
  finished_found name at (AVariable u) h = keeps (IsRead name) (variable_read p w u) (λ v is. let k = h v is in (k.1, k.2, ap (λ x. variable_read p w x) (same u v k.0)))
    where
      same : (u v : Variable) → AVariable u ≡ AVariable v → u ≡ v
      same u v h = cc
  finished_found name at (AConstant c) h = keeps (IsRead name) (of_constant c) (λ v is. absurd (let z = (h v is).0 in cc))
  finished_found name at (AProcedure f s l) h = weaken (anything (finished p w at (Whole (AProcedure f s l)))) (λ y z v is. absurd (let z = (h v is).0 in cc))
  finished_found name at (AType s) h = breaks (IsRead name) 31 at
  finished_found name at _ h = breaks (IsRead name) 31 at

  factor_found : (name : ℕ) → Gives (IsRead name) (factor p w (S.Designated name S.no_selector))
  factor_found name = and_then (named_found name) (λ o h. and_then (finished_found name (place p name) o h) (λ x k.
      by_rule 31 (place p name) (not (is_nothing x.shape)) (λ a. by_rule 32 (place p name) (not w.constant || is_constant x) (λ b. keeps (IsRead name) x k))))

  abbrev IsBare : Option (ℕ × Option ℕ) → Operand → Type 0
  IsBare (Some q) y = elim (q.1) as (λ _. Type 0) [ None ↦ IsRead q.0 y | Some i ↦ Unit {0} ]
  IsBare None y = Unit {0}

  bare_parts : (sign : Option Sign) (terms : S.Addeds) (factors : S.Multiplieds) (f : S.Factor) → Gives (IsBare (bare (S.only (S.simple sign (S.term f factors) terms)))) (expression p w (S.only (S.simple sign (S.term f factors) terms)))
  bare_parts None S.no_term S.no_factor (S.Designated name S.no_selector) =
      and_then (and_then (factor_found name) (λ y h. keeps (IsRead name) y h)) (λ y h. keeps (IsRead name) y h)
  bare_parts (Some s) terms factors f = anything (expression p w (S.only (S.simple (Some s) (S.term f factors) terms)))
  bare_parts None (S.added o t rest) factors f = anything (expression p w (S.only (S.simple None (S.term f factors) (S.added o t rest))))
  bare_parts None S.no_term (S.multiplied o t rest) f = anything (expression p w (S.only (S.simple None (S.term f (S.multiplied o t rest)) S.no_term)))
  bare_parts None S.no_term S.no_factor (S.Designated name (S.selected (S.Field a b) S.no_selector)) = anything (expression p w (S.only (S.simple None (S.term (S.Designated name (S.selected (S.Field a b) S.no_selector)) S.no_factor) S.no_term)))
  bare_parts None S.no_term S.no_factor (S.Designated name (S.selected (S.Field a b) (S.selected c d))) = anything (expression p w (S.only (S.simple None (S.term (S.Designated name (S.selected (S.Field a b) (S.selected c d))) S.no_factor) S.no_term)))
  bare_parts None S.no_term S.no_factor (S.Designated name (S.selected s rest)) = anything (expression p w (S.only (S.simple None (S.term (S.Designated name (S.selected s rest)) S.no_factor) S.no_term)))
  bare_parts None S.no_term S.no_factor f = anything (expression p w (S.only (S.simple None (S.term f S.no_factor) S.no_term)))

  t_bare : (x : S.Expression) → Gives (IsBare (bare x)) (expression p w x)
  t_bare (S.only (S.simple sign (S.term f factors) terms)) = bare_parts sign terms factors f
  t_bare (S.compared a b c) = anything (expression p w (S.compared a b c))

  -- ---- what a CASE is on

  -- the variable of a CASE on types, and the operand that reads it
  pub data IsCase (x : Operand) : Named → Shape → Type 0 where
    of_pointer : (k j : ℕ) → (c : Bool) → IsCase x (Of (Pointer k) c) (Pointer j)
    of_record : (r j : ℕ) → (n : Named) → designated e (outline e) (designator_of x) ≡ Some n → is_dynamic n ≡ true → IsCase x (Dynamic r) (Record j)

  pub record IsTyped (x : Operand) (d : Place) (s : Shape) : Type 0 where
    pub is : x.shape ≡ s
    pub names_it : Named
    pub are : names e (outline e) d ≡ Some names_it
    pub own : is_own e w.module_number d ≡ true
    pub case : IsCase x names_it s

  abbrev pub IsSelector : Operand → SelectorOf → Type 0
  IsSelector x OnInteger = is_number x.shape ≡ true
  IsSelector x OnChar = x.shape ≡ Char
  IsSelector x (OnType d s) = IsTyped x d s

  -- a variable that is narrowed keeps the kind of its type
  abbrev Kind : Named → Operand → Type 0
  Kind (Of (Pointer k) c) y = (j : ℕ) × (y.shape ≡ Pointer j)
  Kind (Dynamic r) y = (j : ℕ) × (y.shape ≡ Record j) × (is_tagged y ≡ true)
  Kind n y = ⊥

  pointer_there : (tag k : ℕ) (c : Bool) (u : Shape) → NarrowsTo e tag (Of (Pointer k) c) u → (j : ℕ) × (u ≡ Pointer j)
  pointer_there tag k c u (to_pointer m j x t) = (j, refl)

  record_there : (tag r : ℕ) (u : Shape) → NarrowsTo e tag (Dynamic r) u → (j : ℕ) × (u ≡ Record j)
  record_there tag r u (to_record k h) = (tag, refl)

  kind_of_read : (x : Operand) (m : Named) (s : Shape) → x.shape ≡ s → (is_pointer s ≡ false → (is_dynamic m ≡ true) × (is_tagged x ≡ true)) → Fits m s → (o : Option Narrowing) → ((n : Narrowing) → o ≡ Some n → NarrowsTo e n.tag m n.shape)
      → Kind m (narrowed_to x (is_pointer s) o)
  kind_of_read x m s i d (as_whole (Pointer k) c h) None to = (k, i)
  kind_of_read x m s i d (as_whole (Pointer k) c h) (Some n) to = pointer_there n.tag k c n.shape (to n refl)
  kind_of_read x m s i d (as_record r) None to = (r, i, (d refl).1)
  kind_of_read x m s i d (as_record r) (Some n) to = let h = record_there n.tag r n.shape (to n refl) in (h.0, h.1, refl)
  kind_of_read x m s i d as_done o to = no (d refl).0
  kind_of_read x m s i d (as_open a c) o to = no (d refl).0
  kind_of_read x m s i d (as_whole _ c h) o to = no (d refl).0

  tagged_variable : (v : Variable) → (h : VariableStands e v) → (is_pointer v.shape || is_tagged_home v.home) ≡ true → is_pointer v.shape ≡ false → (is_dynamic h.names ≡ true) × (is_tagged (whole_variable w v) ≡ true)
  tagged_variable v h c i = by v.home h.claims refl (ap (λ b. b || is_tagged_home v.home) (sym i) ∙ c)
    where
      by : (k : Home) → HomeClaims k h.names → v.home ≡ k → is_tagged_home v.home ≡ true → (is_dynamic h.names ≡ true) × (is_tagged (whole_variable w v) ≡ true)
      by Tagged d j t = (d, t)
      by Free d j t = no (sym (ap is_tagged_home j) ∙ t)
      by ReadOnly d j t = no (sym (ap is_tagged_home j) ∙ t)
      by OfModule d j t = no (sym (ap is_tagged_home j) ∙ t)

  case_of_kind : (n : Named) (y : Operand) → IsBegun e y → Kind n y → IsCase y n y.shape
  case_of_kind (Of (Pointer k) c) y b h = subst (λ s. IsCase y (Of (Pointer k) c) s) (sym h.1) (of_pointer k h.0 c)
  case_of_kind (Dynamic r) y b h =
      let t = t_tagged e order p w right y b.stands h.2 (ap is_compound h.1) in
      subst (λ s. IsCase y (Dynamic r) s) (sym h.1) (of_record r h.0 t.0 t.2 t.3)
  case_of_kind (Of Integer c) y b h = absurd h
  case_of_kind (Of _ c) y b h = absurd h
  case_of_kind _ y b h = absurd h

  read_case : (v : Variable) → (h : VariableStands e v) → (is_pointer v.shape || is_tagged_home v.home) ≡ true → (y : Operand) → y ≡ variable_read p w v → IsBegun e y → IsCase y h.names y.shape
  read_case v h c y is b = case_of_kind h.names y b (subst (λ z. Kind h.names z) (sym is)
      (kind_of_read (whole_variable w v) h.names v.shape refl (tagged_variable v h c) h.fits (narrowing_of v.place w.narrowed)
      (λ n at. let k = right.narrowed v.place n at in subst (λ m. NarrowsTo e n.tag m n.shape) (some_same k.names h.names (sym k.are ∙ h.are)) k.to)))

  t_typed : (v : Variable) → VariableStands e v → is_own e w.module_number v.place ≡ true → (is_pointer v.shape || is_tagged_home v.home) ≡ true → (y : Operand) → y ≡ variable_read p w v → IsTyped y v.place y.shape
  t_typed v h own c y is = record { is = refl; names_it = h.names; are = h.are; own = own; case = read_case v h c y is (subst (λ z. IsBegun e z) (sym is) (t_variable_read e order p w right v h)) }

  on_value : (x : Operand) (s : SelectorOf) → on_values x.shape ≡ Some s → IsSelector x s
  on_value x s is = by x.shape refl is
    where
      number : (u : Shape) → x.shape ≡ u → is_number u ≡ true → Some OnInteger ≡ Some s → IsSelector x s
      number u i n h = subst (IsSelector x) (some_same OnInteger s h) (ap is_number i ∙ n)

      by : (u : Shape) → x.shape ≡ u → on_values u ≡ Some s → IsSelector x s
      by Integer i h = number Integer i refl h
      by Byte i h = number Byte i refl h
      by Char i h = subst (IsSelector x) (some_same OnChar s h) i
      by _ i h = none_some s h

  chosen : (x : Operand) (o : Option Place) (s : SelectorOf) → ((d : Place) → o ≡ Some d → IsTyped x d x.shape) → selector_of o x.shape ≡ Some s → IsSelector x s
  chosen x (Some d) s typed is = subst (IsSelector x) (some_same (OnType d x.shape) s is) (typed d refl)
  chosen x None s typed is = on_value x s is

  from_object : (x : Operand) (o : Option Object) → ((v : Variable) → o ≡ Some (AVariable v) → VariableStands e v × (is_own e w.module_number v.place ≡ true) × (x ≡ variable_read p w v)) → (d : Place) → case_variable o ≡ Some d → IsTyped x d x.shape
  from_object x (Some (AVariable v)) h d is = by (is_pointer v.shape || is_tagged_home v.home) refl is
    where
      by : (c : Bool) → (is_pointer v.shape || is_tagged_home v.home) ≡ c → (if c then Some v.place else None) ≡ Some d → IsTyped x d x.shape
      by true c i = let k = h v refl in subst (λ q. IsTyped x q x.shape) (some_same v.place d i) (t_typed v k.0 k.1 c x k.2)
      by false c i = none_some d i
  from_object x (Some (AConstant c)) h d is = none_some d is
  from_object x (Some _) h d is = none_some d is
  from_object x None h d is = none_some d is

  selected_by : (q : Option (ℕ × Option ℕ)) (x : Operand) → IsBare q x → (s : SelectorOf) → selector_of (case_variable (named_alone p w q)) x.shape ≡ Some s → IsSelector x s
  selected_by None x h s is = on_value x s is
  selected_by (Some (name, Some i)) x h s is = on_value x s is
  selected_by (Some (name, None)) x h s is = chosen x (case_variable (entry_object (look_up (spelled p name) w.levels))) s (from_object x (entry_object (look_up (spelled p name) w.levels)) h) is

  pub t_selector : (x : S.Expression) → Gives (λ y. (s : SelectorOf) → selector_of (case_variable (named_alone p w (bare x))) y.shape ≡ Some s → IsSelector y s) (expression p w x)
  t_selector x = weaken (t_bare x) (λ y h s is. selected_by (bare x) y h s is)

  -- ---- labels of types

  abbrev Extends : Shape → Shape → Type 0
  Extends s t = extends w.known t s ≡ true

  t_type_label : (s : Shape) (first : Bool) (r : Range) → Gives (Extends s) (type_label p w s first r)
  t_type_label s first r = and_then (anything (label_object p w r.low)) (λ o z. by_some 39 (place p (label_symbol r.low)) (label_type o) (λ t is.
      by_rule 39 (place p (label_symbol r.low)) (extends w.known t s) (λ h. by_unit (no_high p w (place p (label_symbol r.low)) r.high) (by_rule 39 (place p (label_symbol r.low)) first (λ one. keeps (Extends s) t h)))))

  pub t_type_labels : (s : Shape) (first : Range) (more : List NextRange) → Gives (Extends s) (type_labels p w s first more)
  t_type_labels s first [] = t_type_label s true first
  t_type_labels s first (r ∷ rs) = and_then (anything (type_label p w s true first)) (λ t z. t_type_label s false r.range)

  -- and the guard in such a part
  pub t_narrows : (x : Operand) (n : Named) (s t : Shape) → IsCase x n s → extends w.known t s ≡ true → NarrowsTo e (tag_of w.known t) n t
  t_narrows x n s (Pointer m) (of_pointer k j c) h = by (base_of (slice_get w.known.bases m)) refl h
    where
      by : (o : Option ℕ) → base_of (slice_get w.known.bases m) ≡ o → based_on w.known o (target_of w.known (Pointer j)) ≡ true → NarrowsTo e (elim o as (λ _. ℕ) [ Some r ↦ r | None ↦ 0 ]) (Of (Pointer k) c) (Pointer m)
      by (Some r) i h = to_pointer k m c (right.targets m r i)
      by None i h = no h
  t_narrows x n s (Record m) (of_record r j d a b) h = to_record r (right.there m j h)
  t_narrows x n s (Pointer m) (of_record r j d a b) h = no h
  t_narrows x n s (Record m) (of_pointer k j c) h = no h
  t_narrows x n s Integer (of_pointer k j c) h = no h
  t_narrows x n s _ (of_pointer k j c) h = no h
  t_narrows x n s Integer (of_record r j d a b) h = no h
  t_narrows x n s _ (of_record r j d a b) h = no h
