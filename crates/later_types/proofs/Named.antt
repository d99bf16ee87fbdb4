-- Names: what they stand for, and as operands, alike where more types are known.
use Rattle.std.proofs.Common.{◌≡◌, ℕ, List, [], ◌∷◌, Bool, true, false, Option, Some, None, refl, subst}
use Rattle.std.specs.Prelude.{if◌then◌else◌}
use Rattle.ob_types.proofs.Tests.{none_some, some_same}
use Rattle.ob_judge.specs.Shapes.{Shape, Known, is_pointer}
use Rattle.ob_judge.specs.Image.{Place, Constant}
use Rattle.ob_judge.specs.Image.{Bits as TheBits, Chars as TheChars}
use Rattle.ob_judge.specs.Scopes.{Object, AConstant, AType, AVariable, AProcedure, AModule, Variable, Imported, TheOut, Narrowing, World, Source, place}
use Rattle.ob_judge.specs.Operands.{Operand, whole_variable, of_constant}
use Rattle.ob_judge.specs.Names.{Stage, Whole, Partly, Ended, named, member, member_of_object, qualified, type_of_object, type_named, is_place, narrowing_of, narrowed_to, variable_read, object_operand, begun, finished}
use Rattle.judged_well.proofs.Judging.{at_last, gives_both}
use Rattle.judged_modules.specs.Lists.{Each}
use Rattle.judged_outlines.specs.Among.{NarrowingAmong}
use Rattle.judged_outlines.proofs.Named.{a_named as points_named, a_member as points_member}
use Rattle.later_types.specs.Records.{NarrowingRecords}
use Rattle.later_types.proofs.Scoped.{records_named, records_member}
use Rattle.later_types.proofs.Alike.{Alike, alone, alike_keeps, alike_breaks, behind}
use Rattle.later_types.proofs.Within.{Within, ObjectWithin, OperandWithin, Ready, more}

narrowing_there : (A : Narrowing → Type 0) (d : Place) (ns : List Narrowing) → Each A ns → (x : Narrowing) → narrowing_of d ns ≡ Some x → A x
narrowing_there A d [] all x h = none_some x h
narrowing_there A d (y ∷ ys) all x h = by (narrowing_there A d ys all.1 x) (is_place d y.variable) h
  where
    by : (narrowing_of d ys ≡ Some x → A x) → (b : Bool) → (if b then Some y else narrowing_of d ys) ≡ Some x → A x
    by rest true i = subst A (some_same y x i) all.0
    by rest false i = rest i

module _ (P : ℕ → Type 0) (n : ℕ) (p : Source) (w : World) (later : Known) (ready : Ready P n w later) where
  abbrev In : Object → Type 0
  In = ObjectWithin P n

  abbrev Op : Operand → Type 0
  Op = OperandWithin P n

  pub a_named : (i : ℕ) → Alike (ObjectWithin P n) (named p w i) (named p (more w later) i)
  a_named i = alone (gives_both (points_named n p w ready.among i) (records_named P p w ready.scope i))

  pub a_member : (m : Imported) (i : ℕ) → Alike (ObjectWithin P n) (member p w m i) (member p (more w later) m i)
  a_member TheOut i = alone (gives_both (points_member n p w ready.among TheOut i) (records_member P p w ready.scope TheOut i))
  a_member m i = alone (gives_both (points_member n p w ready.among m i) (records_member P p w ready.scope m i))

  a_member_of : (name i : ℕ) (o : Object) → Alike (ObjectWithin P n) (member_of_object p w name i o) (member_of_object p (more w later) name i o)
  a_member_of name i (AModule m) = a_member m i
  a_member_of name i _ = alike_breaks In 31 (place p name)

  pub a_qualified : (name : ℕ) (i : Option ℕ) → Alike (ObjectWithin P n) (qualified p w name i) (qualified p (more w later) name i)
  a_qualified name None = a_named name
  a_qualified name (Some i) = behind (a_named name) (λ o h. a_member_of name i o)

  type_of : (o : Object) → In o → (s : Shape) → type_of_object o ≡ Some s → Within P n s
  type_of (AType u) h s is = subst (Within P n) (some_same u s is) h
  type_of _ h s is = none_some s is

  pub a_type_named : (number name : ℕ) (i : Option ℕ) → Alike (Within P n) (type_named p w number name i) (type_named p (more w later) number name i)
  a_type_named number name i = behind (a_qualified name i) (λ o h. alone (at_last number (place p name) (type_of_object o) (λ s is. type_of o h s is)))

  -- ---- names as operands

  narrowed_within : (x : Operand) → Op x → (is_pointer_ : Bool) (o : Option Narrowing) → ((k : Narrowing) → o ≡ Some k → Within P n k.shape) → Op (narrowed_to x is_pointer_ o)
  narrowed_within x h b None all = h
  narrowed_within x h true (Some k) all = all k refl
  narrowed_within x h false (Some k) all = all k refl

  pub whole_within : (v : Variable) → ObjectWithin P n (AVariable v) → OperandWithin P n (whole_variable w v)
  whole_within v h = ((h.0).0, h.1)

  variable_within : (v : Variable) → In (AVariable v) → Op (variable_read p w v)
  variable_within v h = narrowed_within (whole_variable w v) (whole_within v h) (is_pointer v.shape) (narrowing_of v.place w.narrowed) (λ k is.
      (narrowing_there (NarrowingAmong n) v.place w.narrowed ready.among.narrowed k is, narrowing_there (NarrowingRecords P) v.place w.narrowed ready.scope.narrowed k is))

  constant_within : (c : Constant) → In (AConstant c) → Op (of_constant c)
  constant_within (TheBits s bits) h = h
  constant_within (TheChars cs) h = (tt, tt)

  a_object : (at : ℕ) (o : Object) → In o → Alike (OperandWithin P n) (object_operand p w at o) (object_operand p (more w later) at o)
  a_object at (AConstant c) h = alike_keeps Op (of_constant c) (constant_within c h)
  a_object at (AVariable v) h = alike_keeps Op (variable_read p w v) (variable_within v h)
  a_object at (AProcedure f s is_local) h = alike_keeps Op _ h
  a_object at _ h = alike_breaks Op 31 at

  -- what a designator has come to
  abbrev pub StageWithin : Stage → Type 0
  StageWithin (Whole o) = ObjectWithin P n o
  StageWithin (Partly x) = OperandWithin P n x
  StageWithin (Ended x) = OperandWithin P n x

  pub a_begun : (at : ℕ) (s : Stage) → StageWithin s → Alike (OperandWithin P n) (begun p w at s) (begun p (more w later) at s)
  a_begun at (Whole o) h = a_object at o h
  a_begun at (Partly x) h = alike_keeps Op x h
  a_begun at (Ended x) h = alike_breaks Op 31 at

  pub a_finished : (at : ℕ) (s : Stage) → StageWithin s → Alike (OperandWithin P n) (finished p w at s) (finished p (more w later) at s)
  a_finished at (Whole o) h = a_object at o h
  a_finished at (Partly x) h = alike_keeps Op x h
  a_finished at (Ended x) h = alike_keeps Op x h
