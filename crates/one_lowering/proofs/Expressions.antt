-- What expressions become is told by their form.
use Rattle.std.proofs.Common.{◌≡◌, ℕ, zero, suc, ◌+◌, ◌<◌, List, [], ◌∷◌, length, true, false, Option, Some, None, refl, sym, ap, ap₂, ◌∙◌, slice_get, arith}
use Rattle.ob_types.specs.Layout.{kind_of, record_of, types_of, record_cells}
use Rattle.ob_types.specs.Meaning.{procedure_of, texts_of, text_number, kind_in, length_of_kind, record_of_kind}
use Rattle.ob_types.specs.declared.types.Formal.{Formal}
use Rattle.ob_types.specs.declared.tree.Expr.{Expr, Literal, Routine, Load, Guard', Unary', Chain', Compare', CompareTexts', In', IsPointer', IsParameter, Byte', Length, Call', Row_of-Link, end_of-Link, more_of-Link}
use Rattle.ob_types.specs.declared.tree.Link.{Link, Operate, Element, Elements'}
use Rattle.ob_types.specs.declared.tree.Link.{And as AndLink, Or as OrLink}
use Rattle.ob_types.specs.declared.tree.Base.{Base}
use Rattle.ob_types.specs.declared.tree.Base.TheVariants.{Done, Global, Local, Parameter, Text}
use Rattle.ob_types.specs.declared.tree.Designator.{Designator, Whole, Part', Row_of-Selector, end_of-Selector, more_of-Selector}
use Rattle.ob_types.specs.declared.tree.Selector.{Selector, Index, Field, Dereference, Narrow}
use Rattle.ob_types.specs.declared.tree.Call.{Row_of-Argument, end_of-Argument, more_of-Argument, Direct', Indirect'}
use Rattle.ob_types.specs.declared.tree.Call.{Call as CallForm}
use Rattle.ob_types.specs.declared.tree.Argument.{Argument, ByValue, ByPlace, ByRecord, ByOpen}
use Rattle.ob_types.specs.declared.program.Program.{Program}
use Rattle.ob_types.specs.Forms.{Form, Truth, Small, Number}
use Rattle.ob_types.specs.LegalTypes.{is_record_type}
use Rattle.ob_types.specs.Layout.{signature_of}
use Rattle.ob_types.specs.WellFormed
use Rattle.ob_types.specs.WellFormed.{Named as Thing, Of, Characters, provided, with_some, holds_of, gives_number, gives_pointer, is_number, is_writable}
use Rattle.ob_types.proofs.Tests.{no, and_of}
use Rattle.ssa_lowered.specs.Data.{layout, takes_a_byte, within, global_at, descriptor_at, text_at}
use Rattle.ssa_lowered.specs.Pieces.{Low, ◌>>=◌}
use Rattle.ssa_lowered.specs.Control.{fork_and, fork_or, Lowers, valued, tested}
use Rattle.ssa_lowered.specs.Values.{Named, data_at, element, field, dereferenced, narrowed, binary, texts_compared, guarded, contained, with_element, with_range, is_pointer, is_tag, tag_of, as_byte, length_of, by_word, address, by_record, by_open, also, call, call_at, with_result, home_of, load}
use Rattle.ssa_lowered.specs.Lowered
use Rattle.ssa_lowered.specs.Lowered.{Here, variable_of, local_by, in_register, all_guarded, one_of, expr, linked, link, named, selected, select, called, argument, arguments}
use Rattle.ob_judge.specs.Image as I
use Rattle.judged_tree.specs.TypeShapes.{shape_of}
use Rattle.judged_tree.specs.Plain
use Rattle.judged_tree.specs.Plain.{pointer_at, text_place, plain_base, plain_expr, plain_links, plain_link, plain_designator, plain_selectors, plain_selector, plain_call, plain_arguments, plain_argument}
use Rattle.one_lowering.specs.Forms.{is_closed, tally}
use Rattle.one_lowering.proofs.Sizes.{same_small, same_length, same_record}
use Rattle.one_lowering.proofs.Middle.{Asked, character, compare, small_in, length_in, record_in, low_expr, low_link, low_named, low_place, low_call, low_argument, low_arguments}
use Rattle.one_lowering.proofs.Suits.{Is, of_provided, of_with, with_is, of_holds, holds_is, guarded_is, linked_is, operand_is, condition_is, element_is, elements_are, selected_is, index_is, field_is, value_part, place_part, record_part, open_part, through_part}
use Rattle.one_lowering.proofs.Sound.{AreClosed, SoundIf, sound_base, sound_select, element_closed}

-- a program says what is asked of it in a procedure
pub record Answers (p : Program) (here : Here) (a : Asked) : Type 0 where
  pub level : (r : ℕ) → (record_of p.types r).level ≡ a.level r
  pub descriptor : (r : ℕ) → within (descriptor_at p (layout p.types) r) ≡ a.descriptor r
  pub global : (m v : ℕ) → global_at p (layout p.types) m v ≡ a.global m v
  pub text : (k : ℕ) → within (text_at p (layout p.types) (text_number p here.number k)) ≡ a.text k
  pub parameter : (k : ℕ) → Lowered.parameter p (layout p.types) here k ≡ a.parameter k
  pub local : (x : ℕ) → local_by p (layout p.types) here (variable_of p (layout p.types) here x).site x ≡ a.local x
  pub register : (x : ℕ) → in_register p (layout p.types) here (variable_of p (layout p.types) here x).site ≡ a.register x
  pub size : (k : ℕ) → is_closed (shape_of p.types k) ≡ true → (layout p.types).bytes k ≡ a.size (shape_of p.types k)
  pub whole : (r : ℕ) → record_cells p.types r ≡ a.whole r
  pub whole_bytes : (r : ℕ) → (layout p.types).record_bytes r ≡ a.whole_bytes r
  pub place : (r i k : ℕ) → slice_get (types_of (record_of p.types r).fields) i ≡ Some k → (layout p.types).offset r i ≡ a.place r i

pub tally_at : (n i k : ℕ) → k < n → slice_get (tally i n) k ≡ Some ((i + k) ∷ [])
tally_at zero i k l = absurd (omega (arith, l))
tally_at (suc n) i zero l = ap (λ m. Some (m ∷ [])) (plus_zero i)
  where
    plus_zero : (m : ℕ) → m ≡ m + 0
    plus_zero m = omega arith
tally_at (suc n) i (suc k) l = tally_at n (suc i) k (omega (arith, l)) ∙ ap (λ m. Some (m ∷ [])) (moved i k)
  where
    moved : (i k : ℕ) → suc i + k ≡ i + suc k
    moved i k = omega arith

pub in_list : {A : Type 0} (xs : List A) (i : ℕ) → Is (slice_get xs i) → i < length xs
in_list [] i h = no h
in_list (x ∷ xs) zero h = omega arith
in_list (x ∷ xs) (suc i) h = let l = in_list xs i h in omega (arith, l)

module _ (p : Program) (here : Here) (a : Asked) (answers : Answers p here a) (closed : AreClosed p here.number) where
  abbrev f : ℕ
  f = here.number

  -- the numbers of uses, in the place of strings
  abbrev pub uses : List (List ℕ)
  uses = tally 0 (length (texts_of p.procedures))

  abbrev pub Sensible : Expr → Type 0
  Sensible x = Is (WellFormed.form p f x)

  abbrev pub Nameable : Designator → Type 0
  Nameable d = Is (WellFormed.named p f d)

  -- where a designator begins
  same_base : (b : Base) → Is (WellFormed.base_named p f b) → Lowered.based p (layout p.types) here b ≡ low_place a (plain_base p.types uses b)
  same_base Done h = refl
  same_base (Global m v) h = ap (λ n. data_at n) (answers.global m v)
  same_base (Local x) h = answers.local x
  same_base (Parameter k) h = answers.parameter k
  same_base (Text k) h =
      let there = in_list (texts_of p.procedures) (text_number p f k) (with_is (slice_get (texts_of p.procedures) (text_number p f k)) (λ xs. Some (Characters (suc (length xs)))) h) in
      let at = tally_at (length (texts_of p.procedures)) 0 k (omega (arith, there)) in
      ap (λ n. data_at n) (answers.text k) ∙ sym (ap (λ o. low_place a (text_place o)) at ∙ ap (λ n. data_at (a.text n)) (zero_plus k))
    where
      zero_plus : (n : ℕ) → 0 + n ≡ n
      zero_plus n = omega arith

  -- guards, the first innermost
  same_guards : (rs : List ℕ) (x : Low ℕ) (y : I.Expr) → valued x ≡ low_expr a y → valued (all_guarded p (layout p.types) here rs x) ≡ low_expr a (Plain.guarded rs y)
  same_guards [] x y e = e
  same_guards (r ∷ rs) x y e =
      same_guards rs (guarded x (within (descriptor_at p (layout p.types) r)) (record_of p.types r).level) (I.Guard y r)
      (λ k. valued (guarded (e k).value (answers.descriptor r k) (answers.level r k)))

  pub small_same : (d : Designator) → takes_a_byte (kind_in d) ≡ small_in (plain_designator p.types uses d)
  small_same (Whole b kind) = same_small p.types kind
  small_same (Part' _ b kind _ row) = same_small p.types kind

  same_loaded : (d : Designator) → named p (layout p.types) here d ≡ low_named a (plain_designator p.types uses d)
      → valued (load (home_of (named p (layout p.types) here d) (takes_a_byte (kind_in d)))) ≡ low_expr a (I.Load (plain_designator p.types uses d))
  same_loaded d e = λ k. valued (load (home_of (e k) (small_same d k)))

  pub length_same : (d : Designator) → length_of_kind (kind_in d) ≡ length_in (plain_designator p.types uses d)
  length_same (Whole b kind) = same_length p.types kind
  length_same (Part' _ b kind _ row) = same_length p.types kind

  pub record_same : (d : Designator) → record_of_kind (kind_in d) ≡ record_in (plain_designator p.types uses d)
  record_same (Whole b kind) = same_record p.types kind
  record_same (Part' _ b kind _ row) = same_record p.types kind

  mutual
    pub same_expr : (x : Expr) → Sensible x → expr p (layout p.types) here x ≡ low_expr a (plain_expr p.types uses x)
    same_expr (Literal n) h = refl
    same_expr (Routine g) h = refl
    same_expr (Load d) h = same_loaded d (same_named d (with_is (WellFormed.named p f d) (WellFormed.scalar_in p) h))
    same_expr (Guard' _ d rs) h =
        let o = with_some (WellFormed.named p f d) (WellFormed.scalar_in p) in
        same_guards rs (load (home_of (named p (layout p.types) here d) (takes_a_byte (kind_in d)))) (I.Load (plain_designator p.types uses d))
        (same_loaded d (same_named d (with_is (WellFormed.named p f d) (WellFormed.scalar_in p) (guarded_is p f rs o h))))
    same_expr (Unary' op _ x) h =
        ap (λ y. one_of op y) (same_expr x (holds_is is_number (WellFormed.form p f x) (of_provided (gives_number (WellFormed.form p f x)) (Some (WellFormed.unary_form op)) h).0))
    same_expr (Chain' _ x _ links) h =
        same_linked links (WellFormed.form p f x) h (expr p (layout p.types) here x) (plain_expr p.types uses x) (same_expr x (linked_is p f links (WellFormed.form p f x) h))
    same_expr (Compare' r _ x _ y) h =
        let b = of_with (WellFormed.form p f x) (λ b. with_some (WellFormed.form p f y) (λ c. provided (WellFormed.comparable r b c) (Some Truth))) h in
        let i = with_is (WellFormed.form p f x) (λ b. with_some (WellFormed.form p f y) (λ c. provided (WellFormed.comparable r b c) (Some Truth))) h in
        let j = with_is (WellFormed.form p f y) (λ c. provided (WellFormed.comparable r b.0 c) (Some Truth)) b.2 in
        ap₂ (λ u v. compare r u v) (same_expr x i) (same_expr y j)
    same_expr (CompareTexts' r _ d _ e) h =
        let second = provided (holds_of (WellFormed.is_text p (length_of_kind (kind_in e))) (WellFormed.named p f e)) (Some Truth) in
        let b = of_provided (holds_of (WellFormed.is_text p (length_of_kind (kind_in d))) (WellFormed.named p f d)) second h in
        let c = of_provided (holds_of (WellFormed.is_text p (length_of_kind (kind_in e))) (WellFormed.named p f e)) (Some Truth) b.1 in
        let u = same_named d (holds_is (WellFormed.is_text p (length_of_kind (kind_in d))) (WellFormed.named p f d) b.0) in
        let v = same_named e (holds_is (WellFormed.is_text p (length_of_kind (kind_in e))) (WellFormed.named p f e) c.0) in
        λ k. valued (texts_compared character r (u k) (length_same d k) (v k) (length_same e k))
    same_expr (In' _ x _ s) h =
        let b = of_provided (gives_number (WellFormed.form p f x)) (provided (gives_number (WellFormed.form p f s)) (Some Truth)) h in
        let c = of_provided (gives_number (WellFormed.form p f s)) (Some Truth) b.1 in
        ap₂ (λ u v. valued (contained u.value v.value)) (same_expr x (holds_is is_number (WellFormed.form p f x) b.0)) (same_expr s (holds_is is_number (WellFormed.form p f s) c.0))
    same_expr (IsPointer' _ x r) h =
        let b = of_provided (is_record_type p.types r) (provided (gives_pointer (WellFormed.form p f x)) (Some Truth)) h in
        let c = of_provided (gives_pointer (WellFormed.form p f x)) (Some Truth) b.1 in
        let u = same_expr x (holds_is WellFormed.is_pointer (WellFormed.form p f x) c.0) in
        λ k. valued ((u k).value >>= is_pointer (answers.descriptor r k) (answers.level r k))
    same_expr (IsParameter d r) h =
        let b = of_provided (is_record_type p.types r) (provided (holds_of (WellFormed.is_dynamic p) (WellFormed.named p f d)) (Some Truth)) h in
        let c = of_provided (holds_of (WellFormed.is_dynamic p) (WellFormed.named p f d)) (Some Truth) b.1 in
        let u = same_named d (holds_is (WellFormed.is_dynamic p) (WellFormed.named p f d) c.0) in
        λ k. valued (tag_of (u k) >>= is_tag (answers.descriptor r k) (answers.level r k))
    same_expr (Byte' _ x) h =
        ap (λ u. valued (as_byte u.value)) (same_expr x (holds_is is_number (WellFormed.form p f x) (of_provided (gives_number (WellFormed.form p f x)) (Some Small) h).0))
    same_expr (Length d) h =
        let b = of_provided (holds_of (WellFormed.any_array p (length_of_kind (kind_in d))) (WellFormed.named p f d)) (Some Number) h in
        ap₂ (λ u n. valued (length_of u n)) (same_named d (holds_is (WellFormed.any_array p (length_of_kind (kind_in d))) (WellFormed.named p f d) b.0)) (length_same d)
    same_expr (Call' _ c) h = ap (λ u. valued (with_result u)) (same_called c (of_provided (WellFormed.call_suits p f c) (WellFormed.call_form p f c) h).0)

    same_linked : {m : _} (row : Row_of-Link m) (o : Option Form) → Is (WellFormed.linked_form p f row o) → (x : Lowers) (y : I.Expr) → x ≡ low_expr a y
        → linked p (layout p.types) here row x ≡ low_expr a (plain_links p.types uses row y)
    same_linked end_of-Link o h x y e = e
    same_linked (more_of-Link k more) o h x y e =
        same_linked more (WellFormed.link_form p f k o) h (link p (layout p.types) here k x) (I.Linked y (plain_link p.types uses k))
        (same_link k o (linked_is p f more (WellFormed.link_form p f k o) h) x ∙ ap (λ z. low_link a (plain_link p.types uses k) z) e)

    same_link : (k : Link) (o : Option Form) → Is (WellFormed.link_form p f k o) → (x : Lowers) → link p (layout p.types) here k x ≡ low_link a (plain_link p.types uses k) x
    same_link (Operate op y) o h x = ap (λ v. valued (binary op x.value v.value)) (same_expr y (operand_is p f op y o h))
    same_link (AndLink y) o h x = ap (λ v. tested (fork_and x.test v.test)) (same_expr y (condition_is p f y o h))
    same_link (OrLink y) o h x = ap (λ v. tested (fork_or x.test v.test)) (same_expr y (condition_is p f y o h))
    same_link (Element y) o h x = ap (λ v. valued (with_element x.value v.value)) (same_expr y (element_is p f y o h))
    same_link (Elements' b y c z) o h x = let r = elements_are p f b y c z o h in ap₂ (λ u v. valued (with_range x.value u.value v.value)) (same_expr y r.0) (same_expr z r.1)

    pub same_named : (d : Designator) → Nameable d → named p (layout p.types) here d ≡ low_named a (plain_designator p.types uses d)
    same_named (Whole b k) h = same_base b (with_is (WellFormed.base_named p f b) (WellFormed.of_kind p k) h)
    same_named (Part' _ b k _ row) h =
        let base = WellFormed.base_named p f b in
        let all = with_is (WellFormed.selected_named p f row base) (WellFormed.of_kind p k) h in
        same_selected row base (sound_base p f closed b) all (Lowered.based p (layout p.types) here b) (plain_base p.types uses b) (same_base b (selected_is p f row base all))

    same_selected : {m : _} (row : Row_of-Selector m) (o : Option Thing) → SoundIf p o → Is (WellFormed.selected_named p f row o) → (d : Low Named) (place : I.Place) → d ≡ low_place a place
        → selected p (layout p.types) here row d ≡ low_place a (plain_selectors p.types uses row place)
    same_selected end_of-Selector o sound h d place e = e
    same_selected (more_of-Selector s more) o sound h d place e =
        same_selected more (WellFormed.select_named p f s o) (sound_select p f closed s o sound) h (select p (layout p.types) here s d) (plain_selector p.types uses s place)
        (same_select s o sound (selected_is p f more (WellFormed.select_named p f s o) h) d place e)

    same_select : (s : Selector) (o : Option Thing) → SoundIf p o → Is (WellFormed.select_named p f s o) → (d : Low Named) (place : I.Place) → d ≡ low_place a place
        → select p (layout p.types) here s d ≡ low_place a (plain_selector p.types uses s place)
    same_select (Index n e x) None sound h d place i = no h
    same_select (Index n e x) (Some t) sound h d place i =
        let last = provided (gives_number (WellFormed.form p f x)) (Some (Of e (is_writable t))) in
        let array = (of_provided (WellFormed.array_of p e n t) last h).0 in
        let size = answers.size e (element_closed p e n t sound array) in
        let index = same_expr x (index_is p f n e x (Some t) h) in
        λ k. element (i k) n (size k) (index k).value
    same_select (Field r number) o sound h d place i = let it = field_is p f r number o h in ap₂ (λ u n. field u n) i (answers.place r number it.0 it.1)
    same_select (Dereference rs) o sound h d place i =
        ap (λ u. dereferenced u.value) (same_guards rs (load (home_of d false)) (pointer_at place) (λ k. valued (load (home_of (i k) false))))
    same_select (Narrow r) o sound h d place i = λ k. narrowed (i k) (answers.descriptor r k) (answers.level r k)

    pub same_called : (c : CallForm) → WellFormed.call_suits p f c ≡ true → called p (layout p.types) here c ≡ low_call a (plain_call p.types uses c)
    same_called (Direct' g _ row) h =
        let formals = (procedure_of p g).formals in
        ap (λ u. call g u) (same_arguments row formals (and_of (WellFormed.callable p g) (WellFormed.all_suit p f row formals) h).1)
    same_called (Indirect' d _ row) h =
        let o = with_some (WellFormed.named p f d) (WellFormed.scalar_in p) in
        let b = of_holds (WellFormed.suits_through p (WellFormed.all_suit p f row)) o h in
        let k = through_part p f (WellFormed.all_suit p f row) b.0 b.2 in
        let it = same_named d (with_is (WellFormed.named p f d) (WellFormed.scalar_in p) (holds_is (WellFormed.suits_through p (WellFormed.all_suit p f row)) o h)) in
        let xs = same_arguments row (signature_of p.types k.0).formals k.1 in
        λ j. call_at (load (home_of (it j) (small_same d j))) (xs j)

    same_argument : (x : Argument) (y : Formal) → WellFormed.argument_suits p f x y ≡ true → argument p (layout p.types) here x ≡ low_argument a (plain_argument p.types uses x)
    same_argument (ByValue e) y h = ap (λ u. by_word u.value) (same_expr e (value_part p f y.mode (WellFormed.form p f e) (WellFormed.form_of p y.type_number) h))
    same_argument (ByPlace d) y h = ap (λ u. by_word (address u)) (same_named d (place_part p f y.mode y.type_number y.variable (WellFormed.named p f d) h))
    same_argument (ByRecord d) y h =
        ap₂ (λ u n. by_record u n) (same_named d (record_part p f y.mode (WellFormed.record_by (kind_of p.types y.type_number)) (record_of_kind (kind_in d)) (WellFormed.named p f d) h))
        (answers.descriptor (record_of_kind (kind_in d)) ∙ ap (λ r. a.descriptor r) (record_same d))
    same_argument (ByOpen d) y h =
        ap₂ (λ u n. by_open u n) (same_named d (open_part p f y.mode (WellFormed.open_element (kind_of p.types y.type_number)) y.variable (length_of_kind (kind_in d)) (WellFormed.named p f d) h))
        (length_same d)

    same_arguments : {m : _} (row : Row_of-Argument m) (xs : List Formal) → WellFormed.all_suit p f row xs ≡ true → arguments p (layout p.types) here row ≡ low_arguments a (plain_arguments p.types uses row)
    same_arguments end_of-Argument xs h = refl
    same_arguments (more_of-Argument x more) [] h = no h
    same_arguments (more_of-Argument x more) (y ∷ ys) h =
        let q = and_of (WellFormed.argument_suits p f x y) (WellFormed.all_suit p f more ys) h in
        ap₂ (λ u v. also u v) (same_argument x y q.0) (same_arguments more ys q.1)
