-- A checked tree is well-formed where its image is: by recursion on the tree.
use Rattle.std.proofs.Common.{◌≡◌, ℕ, zero, suc, ◌+◌, ◌<◌, List, [], ◌∷◌, ◌++◌, length, take, Bool, true, false, ◌&&◌, ◌||◌, ◌==◌, Option, Some, None, refl, sym, ap, ◌∙◌, subst, arith}
use Rattle.std.specs.Prelude.{if◌then◌else◌, slice_get, slice_index_or, option_map, is_some}
use Rattle.std.proofs.lemmas.List.{length-append}
use Rattle.ob_types.specs.declared.types.Mode.{Mode}
use Rattle.ob_types.specs.declared.types.Mode.TheVariants as TheMode
use Rattle.ob_types.specs.declared.types.Formal.{Formal}
use Rattle.ob_types.specs.declared.tree.Binary.{Binary}
use Rattle.ob_types.specs.declared.tree.Binary.TheVariants as TheBinary
use Rattle.ob_types.specs.declared.tree.Unary.{Unary}
use Rattle.ob_types.specs.declared.tree.Unary.TheVariants as TheUnary
use Rattle.ob_types.specs.declared.tree.Expr.{Expr, Literal, Routine, Load, Guard', Unary', Chain', Compare', CompareTexts', In', IsPointer', IsParameter, Byte', Length, Call', Row_of-Link, end_of-Link, more_of-Link}
use Rattle.ob_types.specs.declared.tree.Link.{Link, Operate, And, Or, Element, Elements'}
use Rattle.ob_types.specs.declared.tree.Base.{Base}
use Rattle.ob_types.specs.declared.tree.Base.TheVariants as TheBase
use Rattle.ob_types.specs.declared.tree.Designator.{Designator, Whole, Part', Row_of-Selector, end_of-Selector, more_of-Selector}
use Rattle.ob_types.specs.declared.tree.Selector.{Selector, Index, Field, Dereference, Narrow}
use Rattle.ob_types.specs.declared.tree.Call.{Call, Direct', Indirect', Row_of-Argument, end_of-Argument, more_of-Argument}
use Rattle.ob_types.specs.declared.tree.Argument.{Argument, ByValue, ByPlace, ByRecord, ByOpen}
use Rattle.ob_types.specs.declared.statements.Checked.{Checked}
use Rattle.ob_types.specs.declared.program.Procedure.{Procedure}
use Rattle.ob_types.specs.declared.program.Program.{Program}
use Rattle.ob_types.specs.Layout.{kind_of, record_of, types_of}
use Rattle.ob_types.specs.Meaning.{no_procedure, procedure_of, globals_of, locals_of, texts_of, text_number, kind_in, length_of_kind, record_of_kind}
use Rattle.ob_types.specs.WellFormed as W
use Rattle.ob_types.specs.WellFormed.{provided, holds_of, with_some, callable}
use Rattle.ob_types.specs.Forms as F
use Rattle.ob_types.proofs.Tests.{no, none_some, some_same, and_from}
use Rattle.ob_judge.specs.Shapes.{Shape, Formals}
use Rattle.ob_judge.specs.Parameters.{mode_of}
use Rattle.ob_judge.specs.Image as I
use Rattle.judged_tree.specs.TypeShapes.{formals_shape, shapes_of, shape_of, shape_of_kind}
use Rattle.judged_tree.specs.Plain.{guarded, pointer_at, text_place, plain_base, plain_expr, plain_links, plain_link, plain_designator, plain_selectors, plain_selector, plain_call, plain_arguments, plain_argument, plain_checked}
use Rattle.judged_well.specs.Forms.{Form, Truth, Small, Number, ToRecord, Named, Of, OpenOf, Dynamic, Characters, gives_number, gives_truth, gives_pointer, is_number, is_truth, is_pointer, comparable, unary_form, binary_form, is_writable, is_dynamic, pointed, Exactly}
use Rattle.judged_well.specs.Typing.{are_bytes, form, designated, named, pointer, call_suits, call_form, all_suit, argument_suits, checked_form, scalar, scalar_in, of_shape, array_of, has_record, parameter_by, parameter_named, is_text, any_array, length_in, record_written, record_by, open_element, place_suits, record_suits, open_suits, is_shape, value_suits, place_argument, record_argument, open_argument, suits_through, result_through, shape_suits}
use Rattle.judged_well.specs.OfProgram.{AreFormals, IsFaithful, IsInside}
use Rattle.judged_well.proofs.Entries.{numbers_there, there_of}
use Rattle.judged_well.proofs.Forming.{Below, below_provided, below_with, below_holds, and_both, truth_form, small_form, number_form, record_form, routines_form, exactly_form, number_is, truth_is, pointer_is, comparable_is, literal_is, signature_is, set, Relates, given_is, scalar_is, kind_suits_is}
use Rattle.judged_well.proofs.Designating.{IsNamed, named_done, named_of, named_open, named_dynamic, named_characters, writable_is, dynamic_is, scalar_named, record_of_shape, open_of_shape, array_is, array_some, text_is, any_is, has_record_is, length_is, record_is, of_kind_is}
use Rattle.ob_types.specs.LegalTypes.{is_record_type}

-- a procedure's k-th use of a string among those of all
text_at : (qs : List Procedure) (f k : ℕ) (cs : List ℕ) → slice_get (slice_index_or qs f no_procedure).texts k ≡ Some cs → slice_get (texts_of qs) (length (texts_of (take f qs)) + k) ≡ Some cs
text_at [] f k cs h = none_some cs h
text_at (q ∷ qs) zero k cs h = let e : k ≡ 0 + k = omega arith in subst (λ m. slice_get (q.texts ++ texts_of qs) m ≡ Some cs) e (first q.texts (texts_of qs) k h)
  where
    first : (xs ys : List (List ℕ)) (k : ℕ) → slice_get xs k ≡ Some cs → slice_get (xs ++ ys) k ≡ Some cs
    first [] ys k h = none_some cs h
    first (x ∷ xs) ys zero h = h
    first (x ∷ xs) ys (suc k) h = first xs ys k h
text_at (q ∷ qs) (suc f) k cs h =
    behind q.texts (texts_of qs) (length (texts_of (take f qs)) + k) (length (texts_of (take (suc f) (q ∷ qs))) + k) (let e = length-append q.texts (texts_of (take f qs)) in omega (arith, e)) (text_at qs f k cs h)
  where
    behind : (xs ys : List (List ℕ)) (i j : ℕ) → j ≡ length xs + i → slice_get ys i ≡ Some cs → slice_get (xs ++ ys) j ≡ Some cs
    behind [] ys i j e h = let same : j ≡ i = omega (arith, e) in subst (λ m. slice_get ys m ≡ Some cs) (sym same) h
    behind (x ∷ xs) ys i zero e h = absurd (omega (arith, e))
    behind (x ∷ xs) ys i (suc j) e h = behind xs ys i j (omega (arith, e)) h

module _ (p : Program) (ok : IsFaithful p.types) (inside : IsInside p) (at : ℕ) where
  abbrev texts : List (List ℕ)
  texts = (procedure_of p at).texts

  abbrev shape : ℕ → Shape
  shape k = shape_of p.types k

  abbrev as_written : Shape → Shape
  as_written s = s

  abbrev IsOf : F.Form → Form → Type 0
  IsOf = Relates p ok inside at

  abbrev Names : W.Named → Named → Type 0
  Names = IsNamed p ok inside at

  abbrev formed : I.Expr → Option Form
  formed x = form (set p ok inside at) as_written x

  abbrev place : I.Place → Option Named
  place d = named (set p ok inside at) as_written d

  -- ---- where a designator begins

  get_formal : (xs : List Formal) → AreFormals p.types xs → (k : ℕ) (x : Formal) → slice_get xs k ≡ Some x → (x.type_number < length p.types.kinds) × (x.mode ≡ mode_of x.variable (shape x.type_number))
  get_formal [] h k x i = none_some x i
  get_formal (y ∷ ys) h zero x i = subst (λ z. (z.type_number < length p.types.kinds) × (z.mode ≡ mode_of z.variable (shape z.type_number))) (some_same y x i) (h.0, h.1)
  get_formal (y ∷ ys) h (suc k) x i = get_formal ys h.2 k x i

  variable_is : (o : Option ℕ) → ((k : ℕ) → o ≡ Some k → k < length p.types.kinds) → Below Names (with_some o (λ k. Some (W.Of k true))) (option_map (λ s. Of s true) (option_map shape o))
  variable_is None h = tt
  variable_is (Some k) h = named_of k true (h k refl)

  parameter_mode : (m : Mode) (k : ℕ) (w : Bool) → k < length p.types.kinds → Below Names (W.parameter_by p m k w) (parameter_by m (shape k) w)
  parameter_mode TheMode.Value k w l = tt
  parameter_mode TheMode.Place k w l = named_of k w l
  parameter_mode TheMode.Record k w l = by (record_by (shape k)) refl
    where
      by : (o : Option ℕ) → record_by (shape k) ≡ o → Below Names (with_some (W.record_by (kind_of p.types k)) (λ r. Some (W.Dynamic r))) (option_map (λ r. Dynamic r) o)
      by None i = tt
      by (Some r) i = subst (λ o. Below Names (with_some o (λ r. Some (W.Dynamic r))) (Some (Dynamic r))) (sym (record_of_shape p ok inside at k r i)) (named_dynamic r)
  parameter_mode TheMode.Open k w l = by (open_element (shape k)) refl
    where
      by : (o : Option Shape) → open_element (shape k) ≡ o → Below Names (with_some (W.open_element (kind_of p.types k)) (λ a. Some (W.OpenOf a w))) (option_map (λ s. OpenOf s w) o)
      by None i = tt
      by (Some s) i =
          let a = open_of_shape p ok inside at k s i in
          subst (λ o. Below Names (with_some o (λ a. Some (W.OpenOf a w))) (Some (OpenOf s w))) (sym a.1) (subst (λ u. Below Names (Some (W.OpenOf a.0 w)) (Some (OpenOf u w))) a.2 (named_open a.0 w a.3))

  parameter_is : (k : ℕ) (o : Option Formal) → slice_get (procedure_of p at).formals k ≡ o → Below Names (with_some o (λ x. W.parameter_by p x.mode x.type_number x.variable)) (parameter_named (option_map (λ x. (x.variable, shape x.type_number)) o))
  parameter_is k None i = tt
  parameter_is k (Some x) i =
      let h = get_formal (procedure_of p at).formals (inside.formals at) k x i in
      subst (λ m. Below Names (W.parameter_by p m x.type_number x.variable) (parameter_by (mode_of x.variable (shape x.type_number)) (shape x.type_number) x.variable)) (sym h.1) (parameter_mode (mode_of x.variable (shape x.type_number)) x.type_number x.variable h.0)

  text_is_there : (k : ℕ) (o : Option (List ℕ)) → slice_get texts k ≡ o → Below Names (with_some (slice_get (texts_of p.procedures) (text_number p at k)) (λ xs. Some (W.Characters (suc (length xs))))) (place (text_place o))
  text_is_there k None i = nothing_below (is_record_type p.types 0)
    where
      nothing_below : (b : Bool) → Below Names (with_some (slice_get (texts_of p.procedures) (text_number p at k)) (λ xs. Some (W.Characters (suc (length xs))))) (provided b None)
      nothing_below true = tt
      nothing_below false = tt
  text_is_there k (Some cs) i = subst (λ o. Below Names (with_some o (λ xs. Some (W.Characters (suc (length xs))))) (provided (are_bytes cs) (Some (Characters (suc (length cs)))))) (sym (text_at p.procedures at k cs i)) (by (are_bytes cs))
    where
      by : (b : Bool) → Below Names (Some (W.Characters (suc (length cs)))) (provided b (Some (Characters (suc (length cs)))))
      by true = named_characters (suc (length cs))
      by false = tt

  s_base : (b : Base) → Below Names (W.base_named p at b) (place (plain_base p.types texts b))
  s_base TheBase.Done = named_done
  s_base (TheBase.Global m v) = variable_is (slice_get (globals_of p m) v) (λ k i. inside.global m v k i)
  s_base (TheBase.Local v) = variable_is (slice_get (locals_of (procedure_of p at)) v) (λ k i. inside.variable at v k i)
  s_base (TheBase.Parameter k) = parameter_is k (slice_get (procedure_of p at).formals k) refl
  s_base (TheBase.Text k) = text_is_there k (slice_get texts k) refl

  -- a record type that is there
  s_there : {A B : Type 0} (R : A → B → Type 0) (r : ℕ) (o : Option A) (q : Option B) → Below R o q → Below R (provided (is_record_type p.types r) o) (provided (is_record_type p.types r) q)
  s_there R r o q h = below_provided R (is_record_type p.types r) (is_record_type p.types r) o q (λ i. i) (λ i. h)

  -- ---- guards

  s_guarded : (tags : List ℕ) (o : Option F.Form) (x : I.Expr) → Below IsOf o (formed x) → Below IsOf (W.guarded_form p tags o) (formed (guarded tags x))
  s_guarded [] o x h = h
  s_guarded (r ∷ rs) o x h = s_guarded rs (provided (is_record_type p.types r) (provided (W.gives_pointer o) (Some (F.ToRecord r)))) (I.Guard x r) (s_there IsOf r (provided (W.gives_pointer o) (Some (F.ToRecord r))) (provided (gives_pointer (formed x)) (Some (ToRecord r))) (below_provided IsOf (W.gives_pointer o) (gives_pointer (formed x)) (Some (F.ToRecord r)) (Some (ToRecord r)) (below_holds IsOf o (formed x) W.is_pointer is_pointer h (pointer_is p.types)) (λ i. record_form r)))

  s_followed : (tags : List ℕ) (o : Option F.Form) (x : I.Expr) → Below IsOf o (pointer (set p ok inside at) as_written x) → Below IsOf (W.guarded_form p tags o) (pointer (set p ok inside at) as_written (guarded tags x))
  s_followed [] o x h = h
  s_followed (r ∷ rs) o x h = s_followed rs (provided (is_record_type p.types r) (provided (W.gives_pointer o) (Some (F.ToRecord r)))) (I.Guard x r) (s_there IsOf r (provided (W.gives_pointer o) (Some (F.ToRecord r))) (provided (gives_pointer (pointer (set p ok inside at) as_written x)) (Some (ToRecord r))) (below_provided IsOf (W.gives_pointer o) (gives_pointer (pointer (set p ok inside at) as_written x)) (Some (F.ToRecord r)) (Some (ToRecord r)) (below_holds IsOf o (pointer (set p ok inside at) as_written x) W.is_pointer is_pointer h (pointer_is p.types)) (λ i. record_form r)))

  s_pointed : (f : F.Form) (g : Form) → IsOf f g → Below Names (W.pointed f) (pointed g)
  s_pointed f g (record_form r) = named_dynamic r
  s_pointed f g _ = tt

  -- ---- tests of forms

  s_number : (o : Option F.Form) (q : Option Form) → Below IsOf o q → gives_number q ≡ true → W.gives_number o ≡ true
  s_number o q h = below_holds IsOf o q W.is_number is_number h (number_is p.types)

  s_truth : (o : Option F.Form) (q : Option Form) → Below IsOf o q → gives_truth q ≡ true → W.gives_truth o ≡ true
  s_truth o q h = below_holds IsOf o q W.is_truth is_truth h (truth_is p.types)

  s_pointer : (o : Option F.Form) (q : Option Form) → Below IsOf o q → gives_pointer q ≡ true → W.gives_pointer o ≡ true
  s_pointer o q h = below_holds IsOf o q W.is_pointer is_pointer h (pointer_is p.types)

  s_unary : (op : Unary) → IsOf (W.unary_form op) (unary_form op)
  s_unary TheUnary.Not = truth_form
  s_unary TheUnary.Odd = truth_form
  s_unary TheUnary.Negate = number_form
  s_unary _ = number_form

  s_binary : (op : Binary) → IsOf (W.binary_form op) (binary_form op)
  s_binary TheBinary.Subset = truth_form
  s_binary TheBinary.Superset = truth_form
  s_binary TheBinary.Add = number_form
  s_binary _ = number_form

  -- two tests and a form
  s_two : (a b : Bool) (c d : Bool) (f : F.Form) (g : Form) → (b ≡ true → a ≡ true) → (d ≡ true → c ≡ true) → IsOf f g → Below IsOf (provided a (provided c (Some f))) (provided b (provided d (Some g)))
  s_two a b c d f g h k r = below_provided IsOf a b (provided c (Some f)) (provided d (Some g)) h (λ i. below_provided IsOf c d (Some f) (Some g) k (λ j. r))

  s_one : (a b : Bool) (f : F.Form) (g : Form) → (b ≡ true → a ≡ true) → IsOf f g → Below IsOf (provided a (Some f)) (provided b (Some g))
  s_one a b f g h r = below_provided IsOf a b (Some f) (Some g) h (λ i. r)

  -- ---- what is written beside a designator

  pub written_length : (d : Designator) → length_of_kind (kind_in d) ≡ length_in (set p ok inside at) as_written (plain_designator p.types texts d)
  written_length (Whole b kind) = length_is p ok inside at kind
  written_length (Part' _ b kind v row) = length_is p ok inside at kind

  pub written_record : (d : Designator) → record_of_kind (kind_in d) ≡ record_written (set p ok inside at) as_written (plain_designator p.types texts d)
  written_record (Whole b kind) = record_is p ok inside at kind
  written_record (Part' _ b kind v row) = record_is p ok inside at kind

  s_text : (d : Designator) → Below Names (W.named p at d) (designated (set p ok inside at) as_written (plain_designator p.types texts d))
      → holds_of (is_text (length_in (set p ok inside at) as_written (plain_designator p.types texts d))) (designated (set p ok inside at) as_written (plain_designator p.types texts d)) ≡ true → holds_of (W.is_text p (length_of_kind (kind_in d))) (W.named p at d) ≡ true
  s_text d h i = below_holds Names (W.named p at d) (designated (set p ok inside at) as_written (plain_designator p.types texts d)) (W.is_text p (length_of_kind (kind_in d))) (is_text (length_in (set p ok inside at) as_written (plain_designator p.types texts d))) h
      (λ a b r t. subst (λ n. W.is_text p n a ≡ true) (sym (written_length d)) (text_is p ok inside at (length_in (set p ok inside at) as_written (plain_designator p.types texts d)) a b r t)) i

  -- ---- selectors, once their parts are known

  s_index : (n : Option ℕ) (element : ℕ) (o : Option W.Named) (q : I.Place) (a b : Bool) → Below Names o (place q) → (b ≡ true → a ≡ true)
      → Below Names (with_some o (λ t. provided (W.array_of p element n t) (provided a (Some (W.Of element (W.is_writable t)))))) (with_some (place q) (λ t. provided (array_of (shape element) n t) (provided b (Some (Of (shape element) (is_writable t))))))
  s_index n element o q a b h k = below_with Names Names o (place q) (λ t. provided (W.array_of p element n t) (provided a (Some (W.Of element (W.is_writable t))))) (λ t. provided (array_of (shape element) n t) (provided b (Some (Of (shape element) (is_writable t))))) h
      (λ d c r. below_provided Names (W.array_of p element n d) (array_of (shape element) n c) (provided a (Some (W.Of element (W.is_writable d)))) (provided b (Some (Of (shape element) (is_writable c)))) (array_is p ok inside at element n d c r)
      (λ i. below_provided Names a b (Some (W.Of element (W.is_writable d))) (Some (Of (shape element) (is_writable c))) k
      (λ j. subst (λ w. Names (W.Of element (W.is_writable d)) (Of (shape element) w)) (sym (writable_is p ok inside at d c r)) (named_of element (W.is_writable d) (there_of p.types ok element (array_some p ok inside at (shape element) n d c r i))))))

  s_field : (r field : ℕ) (o : Option W.Named) (q : I.Place) → Below Names o (place q)
      → Below Names (with_some o (λ t. provided (W.has_record p r t) (with_some (slice_get (types_of (record_of p.types r).fields) field) (λ k. Some (W.Of k (W.is_writable t)))))) (place (I.Field q r field))
  s_field r field o q h = below_with Names Names o (place q) (λ t. provided (W.has_record p r t) (with_some (slice_get (types_of (record_of p.types r).fields) field) (λ k. Some (W.Of k (W.is_writable t))))) (λ t. provided (has_record (set p ok inside at) r t) (option_map (λ s. Of s (is_writable t)) ((set p ok inside at).field r field))) h
      (λ d c k. below_provided Names (W.has_record p r d) (has_record (set p ok inside at) r c) (with_some (slice_get (types_of (record_of p.types r).fields) field) (λ k. Some (W.Of k (W.is_writable d)))) (option_map (λ s. Of s (is_writable c)) ((set p ok inside at).field r field)) (has_record_is p ok inside at r d c k)
      (λ i. by d c k (slice_get (types_of (record_of p.types r).fields) field) refl))
    where
      by : (d : W.Named) (c : Named) → Names d c → (f : Option ℕ) → slice_get (types_of (record_of p.types r).fields) field ≡ f → Below Names (with_some f (λ k. Some (W.Of k (W.is_writable d)))) (option_map (λ s. Of s (is_writable c)) (option_map shape f))
      by d c k None i = tt
      by d c k (Some l) i = subst (λ w. Names (W.Of l (W.is_writable d)) (Of (shape l) w)) (sym (writable_is p ok inside at d c k)) (named_of l (W.is_writable d) (ok.field r field l i))

  s_dereference : (tags : List ℕ) (o : Option W.Named) (q : I.Place) → Below Names o (place q) → Below Names (with_some (W.guarded_form p tags (with_some o (W.scalar_in p))) W.pointed) (place (I.Dereference (guarded tags (pointer_at q))))
  s_dereference tags o q h = below_with IsOf Names (W.guarded_form p tags (with_some o (W.scalar_in p))) (pointer (set p ok inside at) as_written (guarded tags (pointer_at q))) W.pointed pointed
      (s_followed tags (with_some o (W.scalar_in p)) (pointer_at q) (below_with Names IsOf o (place q) (W.scalar_in p) (scalar_in (set p ok inside at)) h (scalar_named p ok inside at))) s_pointed

  s_narrow : (r : ℕ) (o : Option W.Named) (q : I.Place) → Below Names o (place q) → Below Names (provided (is_record_type p.types r) (provided (holds_of (W.is_dynamic p) o) (Some (W.Dynamic r)))) (place (I.Narrow q r))
  s_narrow r o q h = s_there Names r (provided (holds_of (W.is_dynamic p) o) (Some (W.Dynamic r))) (provided (holds_of is_dynamic (place q)) (Some (Dynamic r))) (below_provided Names (holds_of (W.is_dynamic p) o) (holds_of is_dynamic (place q)) (Some (W.Dynamic r)) (Some (Dynamic r)) (below_holds Names o (place q) (W.is_dynamic p) is_dynamic h (dynamic_is p ok inside at)) (λ i. named_dynamic r))

  -- ---- arguments, once they are known

  s_is_kind : (k : ℕ) → k < length p.types.kinds → (d : W.Named) (c : Named) → Names d c → is_shape (shape k) c ≡ true → W.is_kind p k d ≡ true
  s_is_kind k l d c (named_of j w m) h = numbers_there p.types ok j k m l h
  s_is_kind k l d c named_done h = no h
  s_is_kind k l d c (named_open a w m) h = no h
  s_is_kind k l d c (named_dynamic r) h = no h
  s_is_kind k l d c (named_characters n) h = no h

  or_both : (a b c d : Bool) → (b ≡ true → a ≡ true) → (d ≡ true → c ≡ true) → (b || d) ≡ true → (a || c) ≡ true
  or_both true b c d f g h = refl
  or_both false true c d f g h = no (f refl)
  or_both false false c d f g h = g h

  s_static : (k : ℕ) (d : W.Named) (c : Named) → Names d c → holds_of (λ r. has_record (set p ok inside at) r c) (record_by (shape k)) ≡ true → holds_of (λ r. W.has_record p r d) (W.record_by (kind_of p.types k)) ≡ true
  s_static k d c r h = by (record_by (shape k)) refl h
    where
      by : (o : Option ℕ) → record_by (shape k) ≡ o → holds_of (λ x. has_record (set p ok inside at) x c) o ≡ true → holds_of (λ x. W.has_record p x d) (W.record_by (kind_of p.types k)) ≡ true
      by None i h = no h
      by (Some x) i h = ap (λ o. holds_of (λ x. W.has_record p x d) o) (record_of_shape p ok inside at k x i) ∙ has_record_is p ok inside at x d c r h

  s_place_suits : (k : ℕ) → k < length p.types.kinds → (v : Bool) (d : W.Named) (c : Named) → Names d c → place_suits (set p ok inside at) (shape k) v c ≡ true → W.place_suits p k v d ≡ true
  s_place_suits k l true d c r h = and_both (W.is_kind p k d) (is_shape (shape k) c) (W.is_writable d) (is_writable c) (s_is_kind k l d c r) (λ i. sym (writable_is p ok inside at d c r) ∙ i) h
  s_place_suits k l false d c r h = or_both (W.is_kind p k d) (is_shape (shape k) c) (holds_of (λ x. W.has_record p x d) (W.record_by (kind_of p.types k))) (holds_of (λ x. has_record (set p ok inside at) x c) (record_by (shape k))) (s_is_kind k l d c r) (s_static k d c r) h

  s_record_suits : (b r : ℕ) (d : W.Named) (c : Named) → Names d c → record_suits (set p ok inside at) b r c ≡ true → W.record_suits p b r d ≡ true
  s_record_suits b r d c (named_of k true l) h = by (record_by (shape k)) refl h
    where
      by : (o : Option ℕ) → record_by (shape k) ≡ o → holds_of (λ x. x == r && (set p ok inside at).extends x b) o ≡ true → W.record_suits p b r (W.Of k true) ≡ true
      by None i h = no h
      by (Some x) i h = ap (λ o. holds_of (λ x. x == r && (set p ok inside at).extends x b) o) (record_of_shape p ok inside at k x i) ∙ h
  s_record_suits b r d c (named_of k false l) h = no h
  s_record_suits b r d c (named_dynamic s) h = h
  s_record_suits b r d c named_done h = no h
  s_record_suits b r d c (named_open a w m) h = no h
  s_record_suits b r d c (named_characters n) h = no h

  s_open_suits : (a : ℕ) (v : Bool) (n : Option ℕ) (d : W.Named) (c : Named) → Names d c → open_suits (shape a) v n c ≡ true → W.open_suits p a v n d ≡ true
  s_open_suits a true n d c r h = and_both (W.array_of p a n d) (array_of (shape a) n c) (W.is_writable d) (is_writable c) (array_is p ok inside at a n d c r) (λ i. sym (writable_is p ok inside at d c r) ∙ i) h
  s_open_suits a false n d c r h = array_is p ok inside at a n d c r h

  s_value : (m : Mode) (k : ℕ) (o : Option F.Form) (q : Option Form) → Below IsOf o q → value_suits (set p ok inside at) m q (scalar (set p ok inside at) (shape k)) ≡ true → W.value_suits p m o (W.form_of p k) ≡ true
  s_value TheMode.Value k o q h i = given_is p ok inside at o q (W.form_of p k) (scalar (set p ok inside at) (shape k)) h (scalar_is p ok inside at k) i
  s_value TheMode.Place k o q h i = no i
  s_value _ k o q h i = no i

  s_place : (m : Mode) (k : ℕ) → k < length p.types.kinds → (v : Bool) (o : Option W.Named) (q : Option Named) → Below Names o q → place_argument (set p ok inside at) m (shape k) v q ≡ true → W.place_argument p m k v o ≡ true
  s_place TheMode.Place k l v o q h i = below_holds Names o q (W.place_suits p k v) (place_suits (set p ok inside at) (shape k) v) h (s_place_suits k l v) i
  s_place TheMode.Value k l v o q h i = no i
  s_place _ k l v o q h i = no i

  s_record : (m : Mode) (k r : ℕ) (o : Option W.Named) (q : Option Named) → Below Names o q → record_argument (set p ok inside at) m (record_by (shape k)) r q ≡ true → W.record_argument p m (W.record_by (kind_of p.types k)) r o ≡ true
  s_record TheMode.Record k r o q h i = by (record_by (shape k)) refl i
    where
      by : (b : Option ℕ) → record_by (shape k) ≡ b → record_argument (set p ok inside at) TheMode.Record b r q ≡ true → W.record_argument p TheMode.Record (W.record_by (kind_of p.types k)) r o ≡ true
      by None j i = no i
      by (Some b) j i = subst (λ z. W.record_argument p TheMode.Record z r o ≡ true) (sym (record_of_shape p ok inside at k b j)) (below_holds Names o q (W.record_suits p b r) (record_suits (set p ok inside at) b r) h (s_record_suits b r) i)
  s_record TheMode.Value k r o q h i = no i
  s_record _ k r o q h i = no i

  s_open : (m : Mode) (k : ℕ) (v : Bool) (n : Option ℕ) (o : Option W.Named) (q : Option Named) → Below Names o q → open_argument (set p ok inside at) m (open_element (shape k)) v n q ≡ true → W.open_argument p m (W.open_element (kind_of p.types k)) v n o ≡ true
  s_open TheMode.Open k v n o q h i = by (open_element (shape k)) refl i
    where
      by : (s : Option Shape) → open_element (shape k) ≡ s → open_argument (set p ok inside at) TheMode.Open s v n q ≡ true → W.open_argument p TheMode.Open (W.open_element (kind_of p.types k)) v n o ≡ true
      by None j i = no i
      by (Some s) j i =
          let a = open_of_shape p ok inside at k s j in
          subst (λ z. W.open_argument p TheMode.Open z v n o ≡ true) (sym a.1)
          (below_holds Names o q (W.open_suits p a.0 v n) (open_suits (shape a.0) v n) h (s_open_suits a.0 v n) (subst (λ u. holds_of (open_suits u v n) q ≡ true) (sym a.2) i))
  s_open TheMode.Value k v n o q h i = no i
  s_open _ k v n o q h i = no i

  -- ---- calls, once their arguments are known

  abbrev Suiting : (List Formal → Bool) → (Formals → Bool) → Type 0
  Suiting test tested = (xs : List Formal) → AreFormals p.types xs → tested (formals_shape (shapes_of p.types) xs) ≡ true → test xs ≡ true

  direct_suits : (f : ℕ) (test : List Formal → Bool) (tested : Formals → Bool) → Suiting test tested → holds_of (λ k. tested k.0) ((set p ok inside at).heading f) ≡ true → (callable p f && test (procedure_of p f).formals) ≡ true
  direct_suits f test tested suiting h = by (callable p f) refl h
    where
      by : (b : Bool) → callable p f ≡ b → holds_of {A = Formals × Shape} (λ k. tested k.0) (if b then Some (formals_shape (shapes_of p.types) (procedure_of p f).formals, shape (procedure_of p f).result) else None) ≡ true → (callable p f && test (procedure_of p f).formals) ≡ true
      by true i h = and_from (callable p f) (test (procedure_of p f).formals) i (suiting (procedure_of p f).formals (inside.formals f) h)
      by false i h = no h

  through : (test : List Formal → Bool) (tested : Formals → Bool) → Suiting test tested → (f : F.Form) (g : Form) → IsOf f g → suits_through (set p ok inside at) tested g ≡ true → W.suits_through p test f ≡ true
  through test tested suiting f g (routines_form k x i) h = subst (λ z. test z.formals ≡ true) (sym (signature_is p.types ok k x i)) (suiting x.formals (ok.formals k x i) h)
  through test tested suiting f g truth_form h = no h
  through test tested suiting f g _ h = no h

  direct_result : (f : ℕ) → Below IsOf (W.form_of p (procedure_of p f).result) (with_some ((set p ok inside at).heading f) (λ k. scalar (set p ok inside at) k.1))
  direct_result f = by (callable p f)
    where
      by : (b : Bool) → Below IsOf (W.form_of p (procedure_of p f).result) (with_some {A = Formals × Shape} (if b then Some (formals_shape (shapes_of p.types) (procedure_of p f).formals, shape (procedure_of p f).result) else None) (λ k. scalar (set p ok inside at) k.1))
      by true = scalar_is p ok inside at (procedure_of p f).result
      by false = tt

  result_of : (f : F.Form) (g : Form) → IsOf f g → Below IsOf (W.result_through p f) (result_through (set p ok inside at) g)
  result_of f g (routines_form k x i) = subst (λ z. Below IsOf (W.form_of p z.result) (scalar (set p ok inside at) (shape x.result))) (sym (signature_is p.types ok k x i)) (scalar_is p ok inside at x.result)
  result_of f g truth_form = tt
  result_of f g _ = tt

  heading_callable : (b : Bool) (h : Formals × Shape) → is_some (if b then Some h else None) ≡ true → b ≡ true
  heading_callable true h i = refl
  heading_callable false h i = i

  -- ---- the tree

  mutual
    pub s_expr : (x : Expr) → Below IsOf (W.form p at x) (formed (plain_expr p.types texts x))
    s_expr (Literal n) = literal_is p.types n
    s_expr (Routine f) = s_one (callable p f) (is_some ((set p ok inside at).heading f)) (F.Exactly f) (Exactly f) (heading_callable (callable p f) (formals_shape (shapes_of p.types) (procedure_of p f).formals, shape (procedure_of p f).result)) (exactly_form f)
    s_expr (Load d) = below_with Names IsOf (W.named p at d) (designated (set p ok inside at) as_written (plain_designator p.types texts d)) (W.scalar_in p) (scalar_in (set p ok inside at)) (s_designator d) (scalar_named p ok inside at)
    s_expr (Guard' _ d tags) = s_guarded tags (with_some (W.named p at d) (W.scalar_in p)) (I.Load (plain_designator p.types texts d))
        (below_with Names IsOf (W.named p at d) (designated (set p ok inside at) as_written (plain_designator p.types texts d)) (W.scalar_in p) (scalar_in (set p ok inside at)) (s_designator d) (scalar_named p ok inside at))
    s_expr (Unary' op v x) = s_one (W.gives_number (W.form p at x)) (gives_number (formed (plain_expr p.types texts x))) (W.unary_form op) (unary_form op) (s_number (W.form p at x) (formed (plain_expr p.types texts x)) (s_expr x)) (s_unary op)
    s_expr (Chain' v x u links) = s_links links (W.form p at x) (plain_expr p.types texts x) (s_expr x)
    s_expr (Compare' r v x u y) = below_with IsOf IsOf (W.form p at x) (formed (plain_expr p.types texts x)) (λ a. with_some (W.form p at y) (λ b. provided (W.comparable r a b) (Some F.Truth))) (λ a. with_some (formed (plain_expr p.types texts y)) (λ b. provided (comparable r a b) (Some Truth))) (s_expr x)
        (λ a c h. below_with IsOf IsOf (W.form p at y) (formed (plain_expr p.types texts y)) (λ b. provided (W.comparable r a b) (Some F.Truth)) (λ b. provided (comparable r c b) (Some Truth)) (s_expr y)
        (λ b d k. s_one (W.comparable r a b) (comparable r c d) F.Truth Truth (comparable_is p.types r a c b d h k) truth_form))
    s_expr (CompareTexts' r v d u f) = s_two (holds_of (W.is_text p (length_of_kind (kind_in d))) (W.named p at d)) (holds_of (is_text (length_in (set p ok inside at) as_written (plain_designator p.types texts d))) (designated (set p ok inside at) as_written (plain_designator p.types texts d)))
        (holds_of (W.is_text p (length_of_kind (kind_in f))) (W.named p at f)) (holds_of (is_text (length_in (set p ok inside at) as_written (plain_designator p.types texts f))) (designated (set p ok inside at) as_written (plain_designator p.types texts f))) F.Truth Truth (s_text d (s_designator d)) (s_text f (s_designator f)) truth_form
    s_expr (In' v x u y) = s_two (W.gives_number (W.form p at x)) (gives_number (formed (plain_expr p.types texts x))) (W.gives_number (W.form p at y)) (gives_number (formed (plain_expr p.types texts y))) F.Truth Truth (s_number (W.form p at x) (formed (plain_expr p.types texts x)) (s_expr x)) (s_number (W.form p at y) (formed (plain_expr p.types texts y)) (s_expr y)) truth_form
    s_expr (IsPointer' v x r) = s_there IsOf r (provided (W.gives_pointer (W.form p at x)) (Some F.Truth)) (provided (gives_pointer (formed (plain_expr p.types texts x))) (Some Truth)) (s_one (W.gives_pointer (W.form p at x)) (gives_pointer (formed (plain_expr p.types texts x))) F.Truth Truth (s_pointer (W.form p at x) (formed (plain_expr p.types texts x)) (s_expr x)) truth_form)
    s_expr (IsParameter d r) = s_there IsOf r (provided (holds_of (W.is_dynamic p) (W.named p at d)) (Some F.Truth)) (provided (holds_of is_dynamic (designated (set p ok inside at) as_written (plain_designator p.types texts d))) (Some Truth)) (s_one (holds_of (W.is_dynamic p) (W.named p at d)) (holds_of is_dynamic (designated (set p ok inside at) as_written (plain_designator p.types texts d))) F.Truth Truth
        (below_holds Names (W.named p at d) (designated (set p ok inside at) as_written (plain_designator p.types texts d)) (W.is_dynamic p) is_dynamic (s_designator d) (dynamic_is p ok inside at)) truth_form)
    s_expr (Byte' v x) = s_one (W.gives_number (W.form p at x)) (gives_number (formed (plain_expr p.types texts x))) F.Small Small (s_number (W.form p at x) (formed (plain_expr p.types texts x)) (s_expr x)) small_form
    s_expr (Length d) = s_one (holds_of (W.any_array p (length_of_kind (kind_in d))) (W.named p at d)) (holds_of (any_array (length_in (set p ok inside at) as_written (plain_designator p.types texts d))) (designated (set p ok inside at) as_written (plain_designator p.types texts d))) F.Number Number
        (below_holds Names (W.named p at d) (designated (set p ok inside at) as_written (plain_designator p.types texts d)) (W.any_array p (length_of_kind (kind_in d))) (any_array (length_in (set p ok inside at) as_written (plain_designator p.types texts d))) (s_designator d)
        (λ a b r t. subst (λ n. W.any_array p n a ≡ true) (sym (written_length d)) (any_is p ok inside at (length_in (set p ok inside at) as_written (plain_designator p.types texts d)) a b r t))) number_form
    s_expr (Call' v c) = below_provided IsOf (W.call_suits p at c) (call_suits (set p ok inside at) as_written (plain_call p.types texts c)) (W.call_form p at c) (call_form (set p ok inside at) as_written (plain_call p.types texts c)) (s_call c) (λ i. s_result c)

    s_links : {m : _} → (row : Row_of-Link m) (o : Option F.Form) (x : I.Expr) → Below IsOf o (formed x) → Below IsOf (W.linked_form p at row o) (formed (plain_links p.types texts row x))
    s_links end_of-Link o x h = h
    s_links (more_of-Link l rest) o x h = s_links rest (W.link_form p at l o) (I.Linked x (plain_link p.types texts l)) (s_link l o x h)

    s_link : (l : Link) (o : Option F.Form) (x : I.Expr) → Below IsOf o (formed x) → Below IsOf (W.link_form p at l o) (formed (I.Linked x (plain_link p.types texts l)))
    s_link (Operate op y) o x h = s_two (W.gives_number o) (gives_number (formed x)) (W.gives_number (W.form p at y)) (gives_number (formed (plain_expr p.types texts y))) (W.binary_form op) (binary_form op) (s_number o (formed x) h) (s_number (W.form p at y) (formed (plain_expr p.types texts y)) (s_expr y)) (s_binary op)
    s_link (And y) o x h = s_two (W.gives_truth o) (gives_truth (formed x)) (W.gives_truth (W.form p at y)) (gives_truth (formed (plain_expr p.types texts y))) F.Truth Truth (s_truth o (formed x) h) (s_truth (W.form p at y) (formed (plain_expr p.types texts y)) (s_expr y)) truth_form
    s_link (Or y) o x h = s_two (W.gives_truth o) (gives_truth (formed x)) (W.gives_truth (W.form p at y)) (gives_truth (formed (plain_expr p.types texts y))) F.Truth Truth (s_truth o (formed x) h) (s_truth (W.form p at y) (formed (plain_expr p.types texts y)) (s_expr y)) truth_form
    s_link (Element y) o x h = s_two (W.gives_number o) (gives_number (formed x)) (W.gives_number (W.form p at y)) (gives_number (formed (plain_expr p.types texts y))) F.Number Number (s_number o (formed x) h) (s_number (W.form p at y) (formed (plain_expr p.types texts y)) (s_expr y)) number_form
    s_link (Elements' _ y _ z) o x h = below_provided IsOf (W.gives_number o) (gives_number (formed x)) (provided (W.gives_number (W.form p at y)) (provided (W.gives_number (W.form p at z)) (Some F.Number))) (provided (gives_number (formed (plain_expr p.types texts y))) (provided (gives_number (formed (plain_expr p.types texts z))) (Some Number))) (s_number o (formed x) h)
        (λ i. s_two (W.gives_number (W.form p at y)) (gives_number (formed (plain_expr p.types texts y))) (W.gives_number (W.form p at z)) (gives_number (formed (plain_expr p.types texts z))) F.Number Number (s_number (W.form p at y) (formed (plain_expr p.types texts y)) (s_expr y)) (s_number (W.form p at z) (formed (plain_expr p.types texts z)) (s_expr z)) number_form)

    pub s_designator : (d : Designator) → Below Names (W.named p at d) (designated (set p ok inside at) as_written (plain_designator p.types texts d))
    s_designator (Whole b kind) = below_with Names Names (W.base_named p at b) (place (plain_base p.types texts b)) (W.of_kind p kind) (of_shape (set p ok inside at) (shape_of_kind p.types kind)) (s_base b) (of_kind_is p ok inside at kind)
    s_designator (Part' _ b kind v row) = below_with Names Names (W.selected_named p at row (W.base_named p at b)) (place (plain_selectors p.types texts row (plain_base p.types texts b))) (W.of_kind p kind) (of_shape (set p ok inside at) (shape_of_kind p.types kind)) (s_selectors row (W.base_named p at b) (plain_base p.types texts b) (s_base b)) (of_kind_is p ok inside at kind)

    s_selectors : {m : _} → (row : Row_of-Selector m) (o : Option W.Named) (q : I.Place) → Below Names o (place q) → Below Names (W.selected_named p at row o) (place (plain_selectors p.types texts row q))
    s_selectors end_of-Selector o q h = h
    s_selectors (more_of-Selector s rest) o q h = s_selectors rest (W.select_named p at s o) (plain_selector p.types texts s q) (s_selector s o q h)

    s_selector : (s : Selector) (o : Option W.Named) (q : I.Place) → Below Names o (place q) → Below Names (W.select_named p at s o) (place (plain_selector p.types texts s q))
    s_selector (Index n element x) o q h = s_index n element o q (W.gives_number (W.form p at x)) (gives_number (formed (plain_expr p.types texts x))) h (s_number (W.form p at x) (formed (plain_expr p.types texts x)) (s_expr x))
    s_selector (Field r field) o q h = s_field r field o q h
    s_selector (Dereference tags) o q h = s_dereference tags o q h
    s_selector (Narrow r) o q h = s_narrow r o q h

    pub s_call : (c : Call) → call_suits (set p ok inside at) as_written (plain_call p.types texts c) ≡ true → W.call_suits p at c ≡ true
    s_call (Direct' f v xs) h = direct_suits f (W.all_suit p at xs) (all_suit (set p ok inside at) as_written (plain_arguments p.types texts xs)) (s_arguments xs) h
    s_call (Indirect' d v xs) h = below_holds IsOf (with_some (W.named p at d) (W.scalar_in p)) (with_some (designated (set p ok inside at) as_written (plain_designator p.types texts d)) (scalar_in (set p ok inside at))) (W.suits_through p (W.all_suit p at xs)) (suits_through (set p ok inside at) (all_suit (set p ok inside at) as_written (plain_arguments p.types texts xs)))
        (below_with Names IsOf (W.named p at d) (designated (set p ok inside at) as_written (plain_designator p.types texts d)) (W.scalar_in p) (scalar_in (set p ok inside at)) (s_designator d) (scalar_named p ok inside at))
        (λ f g r t. through (W.all_suit p at xs) (all_suit (set p ok inside at) as_written (plain_arguments p.types texts xs)) (s_arguments xs) f g r t) h

    s_result : (c : Call) → Below IsOf (W.call_form p at c) (call_form (set p ok inside at) as_written (plain_call p.types texts c))
    s_result (Direct' f v xs) = direct_result f
    s_result (Indirect' d v xs) = below_with IsOf IsOf (with_some (W.named p at d) (W.scalar_in p)) (with_some (designated (set p ok inside at) as_written (plain_designator p.types texts d)) (scalar_in (set p ok inside at))) (W.result_through p) (result_through (set p ok inside at))
        (below_with Names IsOf (W.named p at d) (designated (set p ok inside at) as_written (plain_designator p.types texts d)) (W.scalar_in p) (scalar_in (set p ok inside at)) (s_designator d) (scalar_named p ok inside at)) result_of

    s_arguments : {m : _} → (row : Row_of-Argument m) (xs : List Formal) → AreFormals p.types xs → all_suit (set p ok inside at) as_written (plain_arguments p.types texts row) (formals_shape (shapes_of p.types) xs) ≡ true → W.all_suit p at row xs ≡ true
    s_arguments end_of-Argument [] a h = refl
    s_arguments end_of-Argument (x ∷ xs) a h = no h
    s_arguments (more_of-Argument y rest) [] a h = no h
    s_arguments (more_of-Argument y rest) (x ∷ xs) a h = and_both (W.argument_suits p at y x) (argument_suits (set p ok inside at) as_written (plain_argument p.types texts y) x.variable (shape x.type_number)) (W.all_suit p at rest xs) (all_suit (set p ok inside at) as_written (plain_arguments p.types texts rest) (formals_shape (shapes_of p.types) xs))
        (s_argument y x a.0 a.1) (s_arguments rest xs a.2) h

    s_argument : (y : Argument) (x : Formal) → x.type_number < length p.types.kinds → x.mode ≡ mode_of x.variable (shape x.type_number) → argument_suits (set p ok inside at) as_written (plain_argument p.types texts y) x.variable (shape x.type_number) ≡ true → W.argument_suits p at y x ≡ true
    s_argument (ByValue y) x l m h = subst (λ k. W.value_suits p k (W.form p at y) (W.form_of p x.type_number) ≡ true) (sym m) (s_value (mode_of x.variable (shape x.type_number)) x.type_number (W.form p at y) (formed (plain_expr p.types texts y)) (s_expr y) h)
    s_argument (ByPlace d) x l m h = subst (λ k. W.place_argument p k x.type_number x.variable (W.named p at d) ≡ true) (sym m) (s_place (mode_of x.variable (shape x.type_number)) x.type_number l x.variable (W.named p at d) (designated (set p ok inside at) as_written (plain_designator p.types texts d)) (s_designator d) h)
    s_argument (ByRecord d) x l m h = subst (λ k. W.record_argument p k (W.record_by (kind_of p.types x.type_number)) (record_of_kind (kind_in d)) (W.named p at d) ≡ true) (sym m)
        (subst (λ r. W.record_argument p (mode_of x.variable (shape x.type_number)) (W.record_by (kind_of p.types x.type_number)) r (W.named p at d) ≡ true) (sym (written_record d))
        (s_record (mode_of x.variable (shape x.type_number)) x.type_number (record_written (set p ok inside at) as_written (plain_designator p.types texts d)) (W.named p at d) (designated (set p ok inside at) as_written (plain_designator p.types texts d)) (s_designator d) h))
    s_argument (ByOpen d) x l m h = subst (λ k. W.open_argument p k (W.open_element (kind_of p.types x.type_number)) x.variable (length_of_kind (kind_in d)) (W.named p at d) ≡ true) (sym m)
        (subst (λ n. W.open_argument p (mode_of x.variable (shape x.type_number)) (W.open_element (kind_of p.types x.type_number)) x.variable n (W.named p at d) ≡ true) (sym (written_length d))
        (s_open (mode_of x.variable (shape x.type_number)) x.type_number x.variable (length_in (set p ok inside at) as_written (plain_designator p.types texts d)) (W.named p at d) (designated (set p ok inside at) as_written (plain_designator p.types texts d)) (s_designator d) h))

  -- ---- whole expressions

  pub s_checked : (x : Checked) → Below IsOf (W.checked_form p at x) (checked_form (set p ok inside at) as_written (plain_checked p.types texts x))
  s_checked x = below_provided IsOf (W.kind_suits p x.kind (W.form p at x.form)) (shape_suits (set p ok inside at) (shape_of_kind p.types x.kind) (formed (plain_expr p.types texts x.form))) (W.form p at x.form) (formed (plain_expr p.types texts x.form))
      (kind_suits_is p ok inside at (W.form p at x.form) (formed (plain_expr p.types texts x.form)) (s_expr x.form) x.kind) (λ i. s_expr x.form)
