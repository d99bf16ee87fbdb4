-- Names: what they stand for, and as operands.
use Rattle.std.proofs.Common.{◌≡◌, ℕ, zero, suc, ◌^◌, Bool, true, false, not, ◌||◌, Option, Some, None, refl, sym, ap, ◌∙◌, subst, ap₂}
use Rattle.std.specs.Prelude.{nat_lt, is_some, option_map}
use Rattle.ob_types.specs.WellFormed.{provided, holds_of}
use Rattle.ob_types.proofs.Tests.{no, none_some, some_same, and_of}
use Rattle.ob_judge.specs.Shapes.{Shape, Record, Pointer, Procedure, Integer, Formals, is_pointer}
use Rattle.ob_judge.specs.Image.{Literal, Routine, Place, Narrow, Constant, Bits}
use Rattle.ob_judge.specs.Image.{Chars as TheChars}
use Rattle.ob_judge.specs.Scopes.{Home, Free, ReadOnly, Tagged, OfModule, Variable, Imported, Object, AConstant, AType, AVariable, AProcedure, AModule, Narrowing, World, Source, look_up, is_visible, place, spelled}
use Rattle.ob_judge.specs.Operands.{Code, AsVariable, AsValue, Operand, operand, place_of, read_only_by, is_narrowed, is_tagged_home, whole_variable, of_constant}
use Rattle.ob_judge.specs.Names.{Stage, Whole, Partly, Ended, named, names_of, member, member_of_object, qualified, type_of_object, type_named, narrowing_of, narrowed_to, variable_read, object_operand, begun, finished}
use Rattle.ob_judge.specs.Parts.{is_procedure}
use Rattle.ob_judge.specs.Assignments.{is_call}
use Rattle.judged_well.specs.Forms.{Form, Zero, Truth, Small, Number, ToRecord, Routines, Exactly, Named, Dynamic, is_number, literal, literal_by, is_writable, is_dynamic}
use Rattle.judged_well.specs.Setting.{Setting, IsOrder}
use Rattle.judged_well.specs.Typing.{outline, pointer}
use Rattle.judged_well.specs.Typing.{named as names}
use Rattle.judged_well.specs.Standing.{is_whole, Fits, as_done, as_whole, as_open, as_record, HomeClaims, Stands, IsBegun, IsValue, FollowsAs, FollowsTo, near_for, good, ConstantStands, VariableStands, ObjectStands, StageStands, NarrowsTo, to_pointer, to_record, IsUnnarrowed, Right, IsOwn}
use Rattle.judged_well.specs.Gives.{Gives}
use Rattle.judged_well.proofs.Judging.{keeps, breaks, weaken, and_then, by_rule, by_some, at_last}
use Rattle.judged_well.proofs.Selecting.{place_begun, t_guard, guard_value}

module _ (e : Setting) (order : IsOrder e) (p : Source) (w : World) (right : Right e p w) where
  pub t_named : (i : ℕ) → Gives (ObjectStands e) (named p w i)
  t_named i = by_some 30 (place p i) (look_up (spelled p i) w.levels) (λ x is.
      by_rule 34 (place p i) (is_visible w.procedure x.object) (λ seen. keeps (ObjectStands e) x.object (right.names (spelled p i) x is seen).0))

  -- of this module, or of the procedure
  pub t_named_own : (i : ℕ) → Gives (λ o. ObjectStands e o × IsOwn e w o) (named p w i)
  t_named_own i = by_some 30 (place p i) (look_up (spelled p i) w.levels) (λ x is.
      by_rule 34 (place p i) (is_visible w.procedure x.object) (λ seen. keeps (λ o. ObjectStands e o × IsOwn e w o) x.object (right.names (spelled p i) x is seen)))

  -- of another module: what it stands for isn't narrowed
  pub t_member : (m : Imported) (i : ℕ) → Gives (λ o. ObjectStands e o × IsUnnarrowed e p w o) (member p w m i)
  t_member m i = by_some 30 (place p i) (names_of p w m (spelled p i)) (λ x is.
      by_rule 34 (place p i) x.exported (λ seen. let h = right.members m (spelled p i) x is in keeps (λ o. ObjectStands e o × IsUnnarrowed e p w o) x.object (h.0, h.1)))

  t_member_of : (name i : ℕ) (o : Object) → ObjectStands e o → Gives (ObjectStands e) (member_of_object p w name i o)
  t_member_of name i (AModule m) h = weaken (t_member m i) (λ o k. k.0)
  t_member_of name i (AConstant c) h = breaks (ObjectStands e) 31 (place p name)
  t_member_of name i _ h = breaks (ObjectStands e) 31 (place p name)

  pub t_qualified : (name : ℕ) (i : Option ℕ) → Gives (ObjectStands e) (qualified p w name i)
  t_qualified name None = t_named name
  t_qualified name (Some i) = and_then (t_named name) (λ o h. t_member_of name i o h)

  abbrev pub IsType : Shape → Type 0
  IsType s = (good e s ≡ true) × (is_whole s ≡ true)

  type_of : (o : Object) → ObjectStands e o → (s : Shape) → type_of_object o ≡ Some s → IsType s
  type_of (AType u) h s is = subst IsType (some_same u s is) h
  type_of (AConstant c) h s is = none_some s is
  type_of _ h s is = none_some s is

  pub t_type_named : (number name : ℕ) (i : Option ℕ) → Gives IsType (type_named p w number name i)
  t_type_named number name i = and_then (t_qualified name i) (λ o h. at_last number (place p name) (type_of_object o) (λ s is. type_of o h s is))

  -- ---- names as operands

  abbrev the : Place → Option Named
  the d = names e (outline e) d

  home_claims : (v : Variable) (n : Named) (h : Home) → HomeClaims h n → (read_only_by w v h ≡ false → is_writable n ≡ true) × (is_tagged_home h ≡ true → is_dynamic n ≡ true)
  home_claims v n Free c = (λ i. c, λ i. no i)
  home_claims v n ReadOnly c = (λ i. no (sym i), λ i. no i)
  home_claims v n OfModule c = (λ i. c, λ i. no i)
  home_claims v n Tagged c = (λ i. written n c, λ i. c)
    where
      written : (n : Named) → is_dynamic n ≡ true → is_writable n ≡ true
      written (Dynamic r) c = refl
      written _ c = no c

  pub t_whole_variable : (v : Variable) → VariableStands e v → IsBegun e (whole_variable w v)
  t_whole_variable v h = let c = home_claims v h.names v.home h.claims in
      place_begun e order p w right v.shape v.place (read_only_by w v v.home) (is_tagged_home v.home) false h.names h.are h.fits h.good c.0 c.1

  -- a variable in a part of a CASE on types
  narrowed_begun : (x : Operand) → IsBegun e x → (m : Named) (s u : Shape) (tag : ℕ) (d : Place) → x.shape ≡ s → the (place_of x) ≡ Some m → Fits m s → NarrowsTo e tag m u
      → IsBegun e (narrowed_to x (is_pointer s) (Some (record { variable = d; shape = u; tag = tag })))
  narrowed_begun x b m s u tag d i at (as_whole (Pointer k) c h) (to_pointer n j v t) =
      t_guard e order p w right x b (ap is_pointer i) j tag t (AsVariable false false true) refl (guard_value e order p w right x b.stands (ap is_pointer i) j tag t, refl)
  narrowed_begun x b m s u tag d i at (as_record r) (to_record k there) =
      place_begun e order p w right (Record tag) (Narrow (place_of x) tag) false true true (Dynamic tag) (ap₂ (λ c o. provided c (provided (holds_of is_dynamic o) (Some (Dynamic tag)))) there at) (as_record tag) refl (λ z. refl) (λ z. refl)
  narrowed_begun x b m s u tag d i at as_done k = elim k [ ]
  narrowed_begun x b m s u tag d i at (as_whole _ w h) k = elim k [ ]
  narrowed_begun x b m s u tag d i at (as_open a w) k = elim k [ ]

  t_narrowed : (v : Variable) → VariableStands e v → (o : Option Narrowing) → narrowing_of v.place w.narrowed ≡ o → IsBegun e (narrowed_to (whole_variable w v) (is_pointer v.shape) o)
  t_narrowed v h None is = t_whole_variable v h
  t_narrowed v h (Some n) is =
      let k = right.narrowed v.place n is in
      let same = some_same k.names h.names (sym k.are ∙ h.are) in
      narrowed_begun (whole_variable w v) (t_whole_variable v h) h.names v.shape n.shape n.tag n.variable refl h.are h.fits (subst (λ m. NarrowsTo e n.tag m n.shape) same k.to)

  pub t_variable_read : (v : Variable) → VariableStands e v → IsBegun e (variable_read p w v)
  t_variable_read v h = t_narrowed v h (narrowing_of v.place w.narrowed) refl

  -- a literal is no pointer and no procedure
  abbrev is_reference_form : Form → Bool
  is_reference_form (ToRecord r) = true
  is_reference_form (Routines ps s) = true
  is_reference_form _ = false

  literal_is : (n : ℕ) → holds_of is_number (literal n) ≡ is_some (literal n)
  literal_is zero = refl
  literal_is (suc zero) = refl
  literal_is (suc (suc n)) = by (nat_lt (suc (suc n)) 256) (nat_lt (suc (suc n)) (2 ^ 64))
    where
      by : (a b : Bool) → holds_of is_number (literal_by a b) ≡ is_some (literal_by a b)
      by true b = refl
      by false true = refl
      by false false = refl

  none_near : (o : Option Form) → near_for e o None ≡ false
  none_near None = refl
  none_near (Some f) = refl

  number_or_none : (o : Option Form) → holds_of is_number o ≡ is_some o → (g : Form) → is_reference_form g ≡ true → near_for e o (Some g) ≡ false
  number_or_none None i g h = refl
  number_or_none (Some Zero) i (ToRecord r) h = refl
  number_or_none (Some Zero) i (Routines ps s) h = refl
  number_or_none (Some Truth) i (ToRecord r) h = refl
  number_or_none (Some Truth) i (Routines ps s) h = refl
  number_or_none (Some Small) i (ToRecord r) h = refl
  number_or_none (Some Small) i (Routines ps s) h = refl
  number_or_none (Some Number) i (ToRecord r) h = refl
  number_or_none (Some Number) i (Routines ps s) h = refl
  number_or_none (Some (ToRecord r)) i g h = no i
  number_or_none (Some (Routines ps s)) i g h = no i
  number_or_none (Some (Exactly f)) i g h = no i
  number_or_none _ i _ h = no h

  literal_code : (n : ℕ) (s : Shape) → IsValue e s (Literal n) → is_procedure s ≡ false
  literal_code n (Procedure ps s) h = no (sym (number_or_none (literal n) (literal_is n) (Routines ps s) refl) ∙ h)
  literal_code n Integer h = refl
  literal_code n _ h = refl

  literal_follows : (n : ℕ) (s : Shape) → IsValue e s (Literal n) → FollowsAs e s (Literal n)
  literal_follows n (Pointer k) h = by (e.target k) h
    where
      by : (o : Option ℕ) → near_for e (literal n) (option_map (λ r. ToRecord r) o) ≡ true → FollowsTo e o (pointer e (outline e) (Literal n))
      by None h = no (sym (none_near (literal n)) ∙ h)
      by (Some r) h = no (sym (number_or_none (literal n) (literal_is n) (ToRecord r) refl) ∙ h)
  literal_follows n Integer h = tt
  literal_follows n _ h = tt

  t_constant : (c : Constant) → ConstantStands e c → IsBegun e (of_constant c)
  t_constant (Bits s n) h = record { stands = record { does = (h.0, tt); good = h.1 }; follows = literal_follows n s h.0; used = literal_code n s h.0 }
  t_constant (TheChars cs) h = record { stands = record { does = (refl, h, tt); good = refl }; follows = tt; used = tt }

  pub t_object : (at : ℕ) (o : Object) → ObjectStands e o → Gives (IsBegun e) (object_operand p w at o)
  t_object at (AConstant c) h = keeps (IsBegun e) (of_constant c) (t_constant c h)
  t_object at (AVariable v) h = keeps (IsBegun e) (variable_read p w v) (t_variable_read v h)
  t_object at (AProcedure f s l) h = keeps (IsBegun e) (operand s (Code f l) AsValue) (record { stands = record { does = (h.0, h.1, h.2, h.3, tt); good = h.4 }; follows = procedure_follows s h.0 h.1 h.2 f; used = tt })
    where
      procedure_follows : (s : Shape) (ps : Formals) (r : Shape) → s ≡ Procedure ps r → (f : ℕ) → FollowsAs e s (Routine f)
      procedure_follows (Pointer n) ps r i f = absurd (let z = i in cc)
      procedure_follows Integer ps r i f = tt
      procedure_follows _ ps r i f = tt
  t_object at (AType s) h = breaks (IsBegun e) 31 at
  t_object at _ h = breaks (IsBegun e) 31 at

  pub t_begun : (at : ℕ) (s : Stage) → StageStands e s → Gives (IsBegun e) (begun p w at s)
  t_begun at (Whole o) h = t_object at o h
  t_begun at (Partly x) h = keeps (IsBegun e) x h
  t_begun at (Ended x) h = breaks (IsBegun e) 31 at

  -- a designator as a whole: what is no call is begun
  pub record IsFinished (x : Operand) : Type 0 where
    pub stands : Stands e x
    pub begun : (is_call x.what || not (is_procedure x.shape)) ≡ false → IsBegun e x

  finished_begun : (x : Operand) → IsBegun e x → IsFinished x
  finished_begun x h = record { stands = h.stands; begun = λ i. h }

  pub t_finished : (at : ℕ) (s : Stage) → StageStands e s → Gives IsFinished (finished p w at s)
  t_finished at (Whole o) h = weaken (t_object at o h) finished_begun
  t_finished at (Partly x) h = keeps IsFinished x (finished_begun x h)
  t_finished at (Ended x) h = keeps IsFinished x (record { stands = h.0; begun = λ i. no (sym i ∙ (and_of (is_call x.what || not (is_procedure x.shape)) (not (is_narrowed x)) h.1).0) })
