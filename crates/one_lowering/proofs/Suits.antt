-- What is well-formed has parts that are.
use Rattle.std.proofs.Common.{◌≡◌, ℕ, List, [], ◌∷◌, Bool, true, false, Option, Some, None, refl}
use Rattle.std.specs.Prelude.{is_some, slice_get}
use Rattle.ob_types.specs.Forms.{Form, Zero, Truth, Small, Number, ToRecord, Routines, Exactly}
use Rattle.ob_types.specs.LegalTypes.{is_record_type}
use Rattle.ob_types.specs.WellFormed
use Rattle.ob_types.specs.WellFormed.{provided, with_some, holds_of, gives_number, gives_truth, gives_pointer, is_number, is_truth, binary_form, Named, Of, Dynamic, is_writable, pointed}
use Rattle.ob_types.specs.Layout.{record_of, types_of, signature_of}
use Rattle.ob_types.specs.declared.types.Formal.{Formal}
use Rattle.ob_types.specs.declared.types.Mode.{Mode}
use Rattle.ob_types.specs.declared.types.Mode.TheVariants.{Place}
use Rattle.ob_types.specs.declared.types.Mode.TheVariants.{Value as AsValue, Record as AsRecord, Open as AsOpen}
use Rattle.ob_types.specs.declared.tree.Binary.{Binary}
use Rattle.ob_types.specs.declared.program.Program.{Program}
use Rattle.ob_types.specs.declared.statements.Checked.{Checked}
use Rattle.ob_types.specs.declared.tree.Expr.{Expr, Row_of-Link, end_of-Link, more_of-Link}
use Rattle.ob_types.specs.declared.tree.Link.{Link, Operate, And, Or, Element, Elements'}
use Rattle.ob_types.specs.declared.tree.Designator.{Row_of-Selector, end_of-Selector, more_of-Selector}
use Rattle.ob_types.specs.declared.tree.Selector.{Selector, Index, Field, Dereference, Narrow}
use Rattle.ob_types.proofs.Tests.{no}

-- there is one
abbrev pub Is : {A : Type 0} → Option A → Type 0
Is o = is_some o ≡ true

pub of_provided : {A : Type 0} (b : Bool) (o : Option A) → Is (provided b o) → (b ≡ true) × Is o
of_provided true o h = (refl, h)
of_provided false o h = no h

pub of_with : {A B : Type 0} (o : Option A) (f : A → Option B) → Is (with_some o f) → (a : A) × (o ≡ Some a) × Is (f a)
of_with None f h = no h
of_with (Some a) f h = (a, refl, h)

pub with_is : {A B : Type 0} (o : Option A) (f : A → Option B) → Is (with_some o f) → Is o
with_is None f h = no h
with_is (Some a) f h = refl

pub of_holds : {A : Type 0} (test : A → Bool) (o : Option A) → holds_of test o ≡ true → (a : A) × (o ≡ Some a) × (test a ≡ true)
of_holds test None h = no h
of_holds test (Some a) h = (a, refl, h)

pub holds_is : {A : Type 0} (test : A → Bool) (o : Option A) → holds_of test o ≡ true → Is o
holds_is test None h = no h
holds_is test (Some a) h = refl

module _ (p : Program) (f : ℕ) where
  pub given_is : (a b : Option Form) → WellFormed.given_for p a b ≡ true → Is a
  given_is None b h = no h
  given_is (Some a) b h = refl

  pub guarded_is : (rs : List ℕ) (o : Option Form) → Is (WellFormed.guarded_form p rs o) → Is o
  guarded_is [] o h = h
  guarded_is (r ∷ rs) o h =
      let a = guarded_is rs (provided (is_record_type p.types r) (provided (gives_pointer o) (Some (ToRecord r)))) h in
      let b = of_provided (is_record_type p.types r) (provided (gives_pointer o) (Some (ToRecord r))) a in
      holds_is WellFormed.is_pointer o (of_provided (gives_pointer o) (Some (ToRecord r)) b.1).0

  ---- What a chain begins with

  number_is : (o : Option Form) → gives_number o ≡ true → Is o
  number_is o h = holds_is is_number o h

  truth_is : (o : Option Form) → gives_truth o ≡ true → Is o
  truth_is o h = holds_is is_truth o h

  -- of a link: what it stands behind, and its own part
  link_parts : (k : Link) (o : Option Form) → Is (WellFormed.link_form p f k o) → Is o
  link_parts (Operate op y) o h = number_is o (of_provided (gives_number o) (provided (gives_number (WellFormed.form p f y)) (Some (binary_form op))) h).0
  link_parts (And y) o h = truth_is o (of_provided (gives_truth o) (provided (gives_truth (WellFormed.form p f y)) (Some Truth)) h).0
  link_parts (Or y) o h = truth_is o (of_provided (gives_truth o) (provided (gives_truth (WellFormed.form p f y)) (Some Truth)) h).0
  link_parts (Element y) o h = number_is o (of_provided (gives_number o) (provided (gives_number (WellFormed.form p f y)) (Some Number)) h).0
  link_parts (Elements' _ y _ z) o h = number_is o (of_provided (gives_number o) (provided (gives_number (WellFormed.form p f y)) (provided (gives_number (WellFormed.form p f z)) (Some Number))) h).0

  pub linked_is : {m : _} (row : Row_of-Link m) (o : Option Form) → Is (WellFormed.linked_form p f row o) → Is o
  linked_is end_of-Link o h = h
  linked_is (more_of-Link k more) o h = link_parts k o (linked_is more (WellFormed.link_form p f k o) h)

  pub operand_is : (op : Binary) (y : Expr) (o : Option Form) → Is (WellFormed.link_form p f (Operate op y) o) → Is (WellFormed.form p f y)
  operand_is op y o h = number_is (WellFormed.form p f y) (of_provided (gives_number (WellFormed.form p f y)) (Some (binary_form op)) (of_provided (gives_number o) (provided (gives_number (WellFormed.form p f y)) (Some (binary_form op))) h).1).0

  pub condition_is : (y : Expr) (o : Option Form) → Is (WellFormed.link_form p f (And y) o) → Is (WellFormed.form p f y)
  condition_is y o h = truth_is (WellFormed.form p f y) (of_provided (gives_truth (WellFormed.form p f y)) (Some Truth) (of_provided (gives_truth o) (provided (gives_truth (WellFormed.form p f y)) (Some Truth)) h).1).0

  pub element_is : (y : Expr) (o : Option Form) → Is (WellFormed.link_form p f (Element y) o) → Is (WellFormed.form p f y)
  element_is y o h = number_is (WellFormed.form p f y) (of_provided (gives_number (WellFormed.form p f y)) (Some Number) (of_provided (gives_number o) (provided (gives_number (WellFormed.form p f y)) (Some Number)) h).1).0

  pub elements_are : (b : _) (y : Expr) (c : _) (z : Expr) (o : Option Form) → Is (WellFormed.link_form p f (Elements' b y c z) o) → Is (WellFormed.form p f y) × Is (WellFormed.form p f z)
  elements_are b y c z o h =
      let last = provided (gives_number (WellFormed.form p f z)) (Some Number) in
      let a = of_provided (gives_number (WellFormed.form p f y)) last (of_provided (gives_number o) (provided (gives_number (WellFormed.form p f y)) last) h).1 in
      (number_is (WellFormed.form p f y) a.0, number_is (WellFormed.form p f z) (of_provided (gives_number (WellFormed.form p f z)) (Some Number) a.1).0)

  ---- What selectors begin with

  select_is : (s : Selector) (o : Option Named) → Is (WellFormed.select_named p f s o) → Is o
  select_is (Index n element x) o h = with_is o (λ t. provided (WellFormed.array_of p element n t) (provided (gives_number (WellFormed.form p f x)) (Some (Of element (is_writable t))))) h
  select_is (Field r field) o h = with_is o (λ t. provided (WellFormed.has_record p r t) (with_some (slice_get (types_of (record_of p.types r).fields) field) (λ k. Some (Of k (is_writable t))))) h
  select_is (Dereference rs) o h = with_is o (WellFormed.scalar_in p) (guarded_is rs (with_some o (WellFormed.scalar_in p)) (with_is (WellFormed.guarded_form p rs (with_some o (WellFormed.scalar_in p))) pointed h))
  select_is (Narrow r) o h =
      let inner = provided (holds_of (WellFormed.is_dynamic p) o) (Some (Dynamic r)) in
      holds_is (WellFormed.is_dynamic p) o (of_provided (holds_of (WellFormed.is_dynamic p) o) (Some (Dynamic r)) (of_provided (is_record_type p.types r) inner h).1).0

  pub selected_is : {m : _} (row : Row_of-Selector m) (o : Option Named) → Is (WellFormed.selected_named p f row o) → Is o
  selected_is end_of-Selector o h = h
  selected_is (more_of-Selector s more) o h = select_is s o (selected_is more (WellFormed.select_named p f s o) h)

  pub index_is : (n : Option ℕ) (element : ℕ) (x : Expr) (o : Option Named) → Is (WellFormed.select_named p f (Index n element x) o) → Is (WellFormed.form p f x)
  index_is n element x o h =
      let a = of_with o (λ t. provided (WellFormed.array_of p element n t) (provided (gives_number (WellFormed.form p f x)) (Some (Of element (is_writable t))))) h in
      let inner = provided (gives_number (WellFormed.form p f x)) (Some (Of element (is_writable a.0))) in
      number_is (WellFormed.form p f x) (of_provided (gives_number (WellFormed.form p f x)) (Some (Of element (is_writable a.0))) (of_provided (WellFormed.array_of p element n a.0) inner a.2).1).0

  -- a field is one of its record type's
  pub field_is : (r i : ℕ) (o : Option Named) → Is (WellFormed.select_named p f (Field r i) o) → (k : ℕ) × (slice_get (types_of (record_of p.types r).fields) i ≡ Some k)
  field_is r i o h =
      let field = slice_get (types_of (record_of p.types r).fields) i in
      let a = of_with o (λ t. provided (WellFormed.has_record p r t) (with_some field (λ k. Some (Of k (is_writable t))))) h in
      let inner = with_some field (λ k. Some (Of k (is_writable a.0))) in
      let b = of_with field (λ k. Some (Of k (is_writable a.0))) (of_provided (WellFormed.has_record p r a.0) inner a.2).1 in
      (b.0, b.1)

  ---- Whole expressions

  pub checked_is : (x : Checked) → Is (WellFormed.checked_form p f x) → Is (WellFormed.form p f x.form)
  checked_is x h = (of_provided (WellFormed.kind_suits p x.kind (WellFormed.form p f x.form)) (WellFormed.form p f x.form) h).1

  pub number_checked : (x : Checked) → gives_number (WellFormed.checked_form p f x) ≡ true → Is (WellFormed.form p f x.form)
  number_checked x h = checked_is x (number_is (WellFormed.checked_form p f x) h)

  ---- Arguments

  -- what an argument's mode says of its part
  pub value_part : (m : Mode) (x y : Option Form) → WellFormed.value_suits p m x y ≡ true → Is x
  value_part AsValue x y h = given_is x y h
  value_part Place x y h = no h
  value_part AsRecord x y h = no h
  value_part AsOpen x y h = no h

  pub place_part : (m : Mode) (k : ℕ) (w : Bool) (d : Option Named) → WellFormed.place_argument p m k w d ≡ true → Is d
  place_part AsValue k w d h = no h
  place_part Place k w d h = holds_is (WellFormed.place_suits p k w) d h
  place_part AsRecord k w d h = no h
  place_part AsOpen k w d h = no h

  pub record_part : (m : Mode) (b : Option ℕ) (r : ℕ) (d : Option Named) → WellFormed.record_argument p m b r d ≡ true → Is d
  record_part AsValue b r d h = no h
  record_part Place b r d h = no h
  record_part AsRecord None r d h = no h
  record_part AsRecord (Some b) r d h = holds_is (WellFormed.record_suits p b r) d h
  record_part AsOpen b r d h = no h

  pub open_part : (m : Mode) (e : Option ℕ) (w : Bool) (n : Option ℕ) (d : Option Named) → WellFormed.open_argument p m e w n d ≡ true → Is d
  open_part AsValue e w n d h = no h
  open_part Place e w n d h = no h
  open_part AsRecord e w n d h = no h
  open_part AsOpen None w n d h = no h
  open_part AsOpen (Some e) w n d h = holds_is (WellFormed.open_suits p e w n) d h

  -- a call through a value: its arguments are those of some procedure type
  pub through_part : (suit : List Formal → Bool) (x : Form) → WellFormed.suits_through p suit x ≡ true → (k : ℕ) × (suit (signature_of p.types k).formals ≡ true)
  through_part suit (Routines k) h = (k, h)
  through_part suit Zero h = no h
  through_part suit Truth h = no h
  through_part suit Small h = no h
  through_part suit Number h = no h
  through_part suit (ToRecord r) h = no h
  through_part suit (Exactly g) h = no h
