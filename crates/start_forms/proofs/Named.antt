-- Well-formed expressions and designators name record types of the table.
use Rattle.std.proofs.Common.{◌≡◌, ℕ, suc, ◌<◌, ◌≤◌, List, [], ◌∷◌, length, true, Option, Some, sym, ap, ◌∙◌, subst, arith, slice_get, ◌⊎◌, inl, inr}
use Rattle.std.proofs.lemmas.List.{get_or_past}
use Rattle.ob_types.specs.Layout.{kind_of, record_of, types_of, signature_of, no_record_type}
use Rattle.ob_types.specs.LegalTypes.{is_record_type, types_legal}
use Rattle.ob_types.specs.Meaning.{procedure_of, texts_of, text_number, kind_in, length_of_kind, record_of_kind}
use Rattle.ob_types.specs.declared.types.Formal.{Formal}
use Rattle.ob_types.specs.declared.tree.Expr.{Expr, Literal, Routine, Load, Guard', Unary', Chain', Compare', CompareTexts', In', IsPointer', IsParameter, Byte', Length, Call', Row_of-Link, end_of-Link, more_of-Link}
use Rattle.ob_types.specs.declared.tree.Link.{Link, Operate, Element, Elements'}
use Rattle.ob_types.specs.declared.tree.Link.{And as AndLink, Or as OrLink}
use Rattle.ob_types.specs.declared.tree.Base.{Base}
use Rattle.ob_types.specs.declared.tree.Base.TheVariants.{Done, Global, Local, Parameter, Text}
use Rattle.ob_types.specs.declared.tree.Designator.{Designator, Whole, Part', Row_of-Selector, end_of-Selector, more_of-Selector}
use Rattle.ob_types.specs.declared.tree.Selector.{Selector, Index, Field, Dereference, Narrow}
use Rattle.ob_types.specs.declared.tree.Call.{Row_of-Argument, end_of-Argument, more_of-Argument, Direct', Indirect'}
use Rattle.ob_types.specs.declared.tree.Call.{Call as CallForm}
use Rattle.ob_types.specs.declared.tree.Argument.{Argument, ByValue, ByPlace, ByRecord, ByOpen}
use Rattle.ob_types.specs.declared.program.Program.{Program}
use Rattle.ob_types.specs.Forms.{Form, ToRecord, Truth, Small, Number}
use Rattle.ob_types.specs.WellFormed
use Rattle.ob_types.specs.WellFormed.{Named as Thing, Of, Dynamic, Characters, provided, with_some, holds_of, gives_number, gives_pointer, is_number, is_writable}
use Rattle.ob_types.proofs.Tests.{no, none_some, and_of, less_or_past}
use Rattle.ob_judge.specs.Image as I
use Rattle.judged_tree.specs.Plain
use Rattle.judged_tree.specs.Plain.{pointer_at, text_place, plain_base, plain_expr, plain_links, plain_link, plain_designator, plain_selectors, plain_selector, plain_call, plain_arguments, plain_argument}
use Rattle.moved_lowering.specs.Within.{InExpr, InLink, InNamed, InPlace, InCall, InArgument, InArguments}
use Rattle.one_lowering.specs.Forms.{tally}
use Rattle.one_lowering.proofs.Expressions.{tally_at, in_list}
use Rattle.one_lowering.proofs.Suits.{Is, of_provided, of_with, with_is, of_holds, holds_is, guarded_is, linked_is, operand_is, condition_is, element_is, elements_are, selected_is, index_is, field_is, value_part, place_part, record_part, open_part, through_part}
use Rattle.start_forms.proofs.Shapes.{many, record_below, shapes_within}

-- in a program with a legal table, in one of its procedures
module _ (p : Program) (legal : types_legal p.types ≡ true) (f : ℕ) where
  abbrev pub n : ℕ
  n = many p.types

  abbrev pub Sensible : Expr → Type 0
  Sensible x = Is (WellFormed.form p f x)

  abbrev pub Nameable : Designator → Type 0
  Nameable d = Is (WellFormed.named p f d)

  -- the numbers of uses, in the place of strings
  abbrev pub uses : List (List ℕ)
  uses = tally 0 (length (texts_of p.procedures))

  base_within : (b : Base) → Is (WellFormed.base_named p f b) → InPlace n (plain_base p.types uses b)
  base_within Done h = tt
  base_within (Global m v) h = tt
  base_within (Local x) h = tt
  base_within (Parameter k) h = tt
  base_within (Text k) h =
      let there = in_list (texts_of p.procedures) (text_number p f k) (with_is (slice_get (texts_of p.procedures) (text_number p f k)) (λ xs. Some (Characters (suc (length xs)))) h) in
      let at = tally_at (length (texts_of p.procedures)) 0 k (omega (arith, there)) in
      subst (λ o. InPlace n (text_place o)) (sym at) tt

  -- guards, the first innermost
  guards_within : (rs : List ℕ) (o : Option Form) → Is (WellFormed.guarded_form p rs o) → (x : I.Expr) → InExpr n x → InExpr n (Plain.guarded rs x)
  guards_within [] o h x i = i
  guards_within (r ∷ rs) o h x i =
      let inner = provided (gives_pointer o) (Some (ToRecord r)) in
      let here = guarded_is p f rs (provided (is_record_type p.types r) inner) h in
      let b = of_provided (is_record_type p.types r) inner here in
      guards_within rs (provided (is_record_type p.types r) inner) h (I.Guard x r) (i, record_below p.types r b.0)

  -- what has a field is a record type of the table
  has_field : (r i k : ℕ) → slice_get (types_of (record_of p.types r).fields) i ≡ Some k → r < n
  has_field r i k at = by (less_or_past r n)
    where
      by : (r < n) ⊎ (n ≤ r) → r < n
      by (inl l) = l
      by (inr l) = none_some k (sym (ap (λ t. slice_get (types_of t.fields) i) (get_or_past p.types.records r no_record_type l)) ∙ at)

  mutual
    pub expr_within : (x : Expr) → Sensible x → InExpr n (plain_expr p.types uses x)
    expr_within (Literal b) h = tt
    expr_within (Routine g) h = tt
    expr_within (Load d) h = named_within d (with_is (WellFormed.named p f d) (WellFormed.scalar_in p) h)
    expr_within (Guard' _ d rs) h =
        let o = with_some (WellFormed.named p f d) (WellFormed.scalar_in p) in
        guards_within rs o h (I.Load (plain_designator p.types uses d)) (named_within d (with_is (WellFormed.named p f d) (WellFormed.scalar_in p) (guarded_is p f rs o h)))
    expr_within (Unary' op _ x) h = expr_within x (holds_is is_number (WellFormed.form p f x) (of_provided (gives_number (WellFormed.form p f x)) (Some (WellFormed.unary_form op)) h).0)
    expr_within (Chain' _ x _ links) h = links_within links (WellFormed.form p f x) h (plain_expr p.types uses x) (expr_within x (linked_is p f links (WellFormed.form p f x) h))
    expr_within (Compare' r _ x _ y) h =
        let b = of_with (WellFormed.form p f x) (λ b. with_some (WellFormed.form p f y) (λ c. provided (WellFormed.comparable r b c) (Some Truth))) h in
        let i = with_is (WellFormed.form p f x) (λ b. with_some (WellFormed.form p f y) (λ c. provided (WellFormed.comparable r b c) (Some Truth))) h in
        let j = with_is (WellFormed.form p f y) (λ c. provided (WellFormed.comparable r b.0 c) (Some Truth)) b.2 in
        (expr_within x i, expr_within y j)
    expr_within (CompareTexts' r _ d _ e) h =
        let second = provided (holds_of (WellFormed.is_text p (length_of_kind (kind_in e))) (WellFormed.named p f e)) (Some Truth) in
        let b = of_provided (holds_of (WellFormed.is_text p (length_of_kind (kind_in d))) (WellFormed.named p f d)) second h in
        let c = of_provided (holds_of (WellFormed.is_text p (length_of_kind (kind_in e))) (WellFormed.named p f e)) (Some Truth) b.1 in (
          named_within d (holds_is (WellFormed.is_text p (length_of_kind (kind_in d))) (WellFormed.named p f d) b.0),
          named_within e (holds_is (WellFormed.is_text p (length_of_kind (kind_in e))) (WellFormed.named p f e) c.0),
        )
    expr_within (In' _ x _ s) h =
        let b = of_provided (gives_number (WellFormed.form p f x)) (provided (gives_number (WellFormed.form p f s)) (Some Truth)) h in
        let c = of_provided (gives_number (WellFormed.form p f s)) (Some Truth) b.1 in
        (expr_within x (holds_is is_number (WellFormed.form p f x) b.0), expr_within s (holds_is is_number (WellFormed.form p f s) c.0))
    expr_within (IsPointer' _ x r) h =
        let b = of_provided (is_record_type p.types r) (provided (gives_pointer (WellFormed.form p f x)) (Some Truth)) h in
        let c = of_provided (gives_pointer (WellFormed.form p f x)) (Some Truth) b.1 in
        (expr_within x (holds_is WellFormed.is_pointer (WellFormed.form p f x) c.0), record_below p.types r b.0)
    expr_within (IsParameter d r) h =
        let b = of_provided (is_record_type p.types r) (provided (holds_of (WellFormed.is_dynamic p) (WellFormed.named p f d)) (Some Truth)) h in
        let c = of_provided (holds_of (WellFormed.is_dynamic p) (WellFormed.named p f d)) (Some Truth) b.1 in
        (named_within d (holds_is (WellFormed.is_dynamic p) (WellFormed.named p f d) c.0), record_below p.types r b.0)
    expr_within (Byte' _ x) h = expr_within x (holds_is is_number (WellFormed.form p f x) (of_provided (gives_number (WellFormed.form p f x)) (Some Small) h).0)
    expr_within (Length d) h =
        let b = of_provided (holds_of (WellFormed.any_array p (length_of_kind (kind_in d))) (WellFormed.named p f d)) (Some Number) h in
        named_within d (holds_is (WellFormed.any_array p (length_of_kind (kind_in d))) (WellFormed.named p f d) b.0)
    expr_within (Call' _ c) h = call_within c (of_provided (WellFormed.call_suits p f c) (WellFormed.call_form p f c) h).0

    links_within : {m : _} (row : Row_of-Link m) (o : Option Form) → Is (WellFormed.linked_form p f row o) → (y : I.Expr) → InExpr n y → InExpr n (plain_links p.types uses row y)
    links_within end_of-Link o h y i = i
    links_within (more_of-Link k more) o h y i =
        links_within more (WellFormed.link_form p f k o) h (I.Linked y (plain_link p.types uses k)) (i, link_within k o (linked_is p f more (WellFormed.link_form p f k o) h))

    link_within : (k : Link) (o : Option Form) → Is (WellFormed.link_form p f k o) → InLink n (plain_link p.types uses k)
    link_within (Operate op y) o h = expr_within y (operand_is p f op y o h)
    link_within (AndLink y) o h = expr_within y (condition_is p f y o h)
    link_within (OrLink y) o h = expr_within y (condition_is p f y o h)
    link_within (Element y) o h = expr_within y (element_is p f y o h)
    link_within (Elements' b y c z) o h = let r = elements_are p f b y c z o h in (expr_within y r.0, expr_within z r.1)

    pub named_within : (d : Designator) → Nameable d → InNamed n (plain_designator p.types uses d)
    named_within (Whole b k) h = base_within b (with_is (WellFormed.base_named p f b) (WellFormed.of_kind p k) h)
    named_within (Part' _ b k _ row) h =
        let base = WellFormed.base_named p f b in
        let all = with_is (WellFormed.selected_named p f row base) (WellFormed.of_kind p k) h in
        selected_within row base all (plain_base p.types uses b) (base_within b (selected_is p f row base all))

    selected_within : {m : _} (row : Row_of-Selector m) (o : Option Thing) → Is (WellFormed.selected_named p f row o) → (place : I.Place) → InPlace n place → InPlace n (plain_selectors p.types uses row place)
    selected_within end_of-Selector o h place i = i
    selected_within (more_of-Selector s more) o h place i =
        selected_within more (WellFormed.select_named p f s o) h (plain_selector p.types uses s place) (select_within s o (selected_is p f more (WellFormed.select_named p f s o) h) place i)

    select_within : (s : Selector) (o : Option Thing) → Is (WellFormed.select_named p f s o) → (place : I.Place) → InPlace n place → InPlace n (plain_selector p.types uses s place)
    select_within (Index m e x) o h place i = (i, shapes_within p.types legal e, expr_within x (index_is p f m e x o h))
    select_within (Field r number) o h place i = let it = field_is p f r number o h in (i, has_field r number it.0 it.1)
    select_within (Dereference rs) o h place i =
        let x = with_some o (WellFormed.scalar_in p) in
        guards_within rs x (with_is (WellFormed.guarded_form p rs x) WellFormed.pointed h) (pointer_at place) i
    select_within (Narrow r) o h place i =
        let b = of_provided (is_record_type p.types r) (provided (holds_of (WellFormed.is_dynamic p) o) (Some (Dynamic r))) h in
        (i, record_below p.types r b.0)

    pub call_within : (c : CallForm) → WellFormed.call_suits p f c ≡ true → InCall n (plain_call p.types uses c)
    call_within (Direct' g _ row) h =
        let formals = (procedure_of p g).formals in
        arguments_within row formals (and_of (WellFormed.callable p g) (WellFormed.all_suit p f row formals) h).1
    call_within (Indirect' d _ row) h =
        let o = with_some (WellFormed.named p f d) (WellFormed.scalar_in p) in
        let b = of_holds (WellFormed.suits_through p (WellFormed.all_suit p f row)) o h in
        let k = through_part p f (WellFormed.all_suit p f row) b.0 b.2 in (
          named_within d (with_is (WellFormed.named p f d) (WellFormed.scalar_in p) (holds_is (WellFormed.suits_through p (WellFormed.all_suit p f row)) o h)),
          arguments_within row (signature_of p.types k.0).formals k.1,
        )

    argument_within : (x : Argument) (y : Formal) → WellFormed.argument_suits p f x y ≡ true → InArgument n (plain_argument p.types uses x)
    argument_within (ByValue e) y h = expr_within e (value_part p f y.mode (WellFormed.form p f e) (WellFormed.form_of p y.type_number) h)
    argument_within (ByPlace d) y h = named_within d (place_part p f y.mode y.type_number y.variable (WellFormed.named p f d) h)
    argument_within (ByRecord d) y h = named_within d (record_part p f y.mode (WellFormed.record_by (kind_of p.types y.type_number)) (record_of_kind (kind_in d)) (WellFormed.named p f d) h)
    argument_within (ByOpen d) y h = named_within d (open_part p f y.mode (WellFormed.open_element (kind_of p.types y.type_number)) y.variable (length_of_kind (kind_in d)) (WellFormed.named p f d) h)

    arguments_within : {m : _} (row : Row_of-Argument m) (xs : List Formal) → WellFormed.all_suit p f row xs ≡ true → InArguments n (plain_arguments p.types uses row)
    arguments_within end_of-Argument xs h = tt
    arguments_within (more_of-Argument x more) [] h = no h
    arguments_within (more_of-Argument x more) (y ∷ ys) h =
        let q = and_of (WellFormed.argument_suits p f x y) (WellFormed.all_suit p f more ys) h in
        (argument_within x y q.0, arguments_within more ys q.1)
