-- Whole designators and what calls hand over: nodes, where what was handed over is.
use Rattle.std.proofs.Common.{◌≡◌, ℕ, zero, suc, List, [], ◌∷◌, ◌++◌, map, length, take, Bool, true, false, ◌&&◌, Option, Some, None, refl, sym, ap, ◌∙◌, subst, arith, inl, inr, eqb-true}
use Rattle.std.specs.Prelude.{slice_get, slice_index_or, ◌==◌}
use Rattle.std.proofs.lemmas.List.Sums.{sum_by-cons}
use Rattle.ob_types.specs.Layout.{kind_of, cells_of_all, extends}
use Rattle.ob_types.specs.Layout.{cells as cells_of}
use Rattle.ob_types.specs.Store.{Cell, Globals, Frames, Strings, Address, Act, Handed, At, Sized, Tagged, Value, Here, address_in}
use Rattle.ob_types.specs.Expressions.{load, by_value, by_place, with_tag, by_record, by_open, Calls}
use Rattle.ob_types.specs.Statements.{done}
use Rattle.ob_types.specs.Meaning.{procedure_of, globals_of, locals_of, texts_of, text_number, kind_in, length_of_kind, record_of_kind, variable_of, base_of, value, designated, selected, select, argument, arguments}
use Rattle.ob_types.specs.declared.types.TypeKind.{TypeKind}
use Rattle.ob_types.specs.declared.types.Mode.{Mode}
use Rattle.ob_types.specs.declared.types.Mode.TheVariants.{Place}
use Rattle.ob_types.specs.declared.types.Mode.TheVariants.{Value as OfValue, Record as OfRecord, Open as OfOpen}
use Rattle.ob_types.specs.declared.types.Formal.{Formal}
use Rattle.ob_types.specs.declared.tree.Base.{Base}
use Rattle.ob_types.specs.declared.tree.Base.TheVariants.{Done, Global, Local, Parameter, Text}
use Rattle.ob_types.specs.declared.tree.Designator.{Designator, Whole, Part', Row_of-Selector, end_of-Selector, more_of-Selector}
use Rattle.ob_types.specs.declared.tree.Selector.{Selector, Index, Field, Dereference, Narrow}
use Rattle.ob_types.specs.declared.tree.Argument.{Argument, ByValue, ByPlace, ByRecord, ByOpen}
use Rattle.ob_types.specs.declared.tree.Call.{Row_of-Argument, end_of-Argument, more_of-Argument}
use Rattle.ob_types.specs.declared.program.Module.{Module}
use Rattle.ob_types.specs.declared.program.Program.{Program}
use Rattle.ob_types.specs.Forms.{Form, Truth, Small, joined, types_fine, forms}
use Rattle.ob_types.specs.WellFormed
use Rattle.ob_types.specs.WellFormed.{Named, Cells, Of, OpenOf, Dynamic, Characters, provided, holds_of, with_some, is_writable, open_element, record_by}
use Rattle.ob_types.proofs.Tests.{none_some, some_same, no, and_of}
use Rattle.ob_sound.proofs.Typed.{Any, Older, Sound, older_trans, s_bind, s_give, s_given, s_older, s_weaker}
use Rattle.ob_sound.proofs.Constructs.{Points, holds_is, m_guards, m_load, or_split, record_is, with_is}
use Rattle.ob_sound.proofs.Handing.{AllTaken, CallsSound, open_parts}
use Rattle.ob_sound.proofs.Tree.{t_base, t_named, t_select, t_value}
use Rattle.ob_types.specs.Trees.{Scalar, Array, Record, data_tree, record_row}
use Rattle.object_nodes.specs.Nodes.{Node, VariableNode}
use Rattle.object_nodes.proofs.Meeting.{node_self}
use Rattle.ob_types.proofs.DataTrees.{cells_are, record_data_tree}
use Rattle.object_nodes.specs.Named.{global_trees, string_trees, IsNode, NamesNode, TakenNode, AllNodes}
use Rattle.object_nodes.proofs.Designators.{GivesNode, Both, node_older, named_older, n_both, n_field, n_index, n_narrowed, n_object, n_of, n_provided, n_some, node_push, record_node, s_address, s_spanned, element_tree, element_trees}

module _ (p : Program) (packed : Bool) where
  -- a variable behind those before it
  own_variable : (ks : List ℕ) (v k : ℕ) → slice_get ks v ≡ Some k → VariableNode packed (map (data_tree p.types) ks) v (cells_of_all p.types (take v ks)) 0 (data_tree p.types k)
  own_variable [] v k at = none_some k at
  own_variable (l ∷ ls) zero k at = subst (λ k. Node packed (data_tree p.types l) 0 0 (data_tree p.types k)) (some_same l k at) (node_self packed (data_tree p.types l))
  own_variable (l ∷ ls) (suc v) k at =
      let a = sum_by-cons (λ n. n) (cells_of p.types l) (map (cells_of p.types) (take v ls)) in
      let b = cells_are p.types l in
      (cells_of_all p.types (take v ls), own_variable ls v k at, omega (arith, a, b))

  global_of : (us : List Module) (m : ℕ) → slice_index_or (map (λ m. map (data_tree p.types) m.variables) us) m [] ≡ map (data_tree p.types) (slice_index_or us m (record { name = []; objects = []; variables = []; body = 0 })).variables
  global_of [] m = refl
  global_of (u ∷ us) zero = refl
  global_of (u ∷ us) (suc m) = global_of us m

  globals_are : (m : ℕ) → slice_index_or (global_trees p) (suc m) [] ≡ map (data_tree p.types) (globals_of p m)
  unfolding global_trees
  globals_are m = global_of p.modules m

  string_of : (ts : List (List ℕ)) (k : ℕ) (xs : List ℕ) → slice_get ts k ≡ Some xs → slice_index_or (map (λ xs. Array (suc (length xs)) (Scalar Small) ∷ []) ts) k [] ≡ Array (suc (length xs)) (Scalar Small) ∷ []
  string_of [] k xs at = none_some xs at
  string_of (t ∷ ts) zero xs at = ap (λ t. Array (suc (length t)) (Scalar Small) ∷ []) (some_same t xs at)
  string_of (t ∷ ts) (suc k) xs at = string_of ts k xs at

  strings_are : (k : ℕ) (xs : List ℕ) → slice_get (texts_of p.procedures) k ≡ Some xs → slice_index_or (string_trees p) k [] ≡ Array (suc (length xs)) (Scalar Small) ∷ []
  unfolding string_trees
  strings_are k xs at = string_of (texts_of p.procedures) k xs at

  module _ (fine : types_fine p.types ≡ true) (vs : List (List ℕ)) where
    pub taken_node_older : (tags more : List ℕ) → Older tags more → (m : Mode) (kind : ℕ) (h : Handed) → TakenNode p packed vs tags m kind h → TakenNode p packed vs more m kind h
    taken_node_older tags more e OfValue kind (Value c) t = tt
    taken_node_older tags more e Place kind (At a) t = node_older p packed vs tags more e a (data_tree p.types kind) t
    taken_node_older tags more e OfRecord kind (Tagged a s) t = node_older p packed vs tags more e a (Record (record_row p.types s)) t
    taken_node_older tags more e OfOpen kind (Sized a n) t = λ k is. node_older p packed vs tags more e a (Array n (data_tree p.types k)) (t k is)
    taken_node_older tags more e _ kind _ t = absurd t

    pub all_nodes_older : (tags more : List ℕ) → Older tags more → (xs : List Formal) (hs : List Handed) → AllNodes p packed vs tags xs hs → AllNodes p packed vs more xs hs
    all_nodes_older tags more e [] [] t = tt
    all_nodes_older tags more e (x ∷ xs) (h ∷ hs) t = (taken_node_older tags more e x.mode x.type_number h t.0, all_nodes_older tags more e xs hs t.1)
    all_nodes_older tags more e [] (h ∷ hs) t = absurd t
    all_nodes_older tags more e (x ∷ xs) [] t = absurd t

    pub taken_node_at : (tags : List ℕ) (xs : List Formal) (hs : List Handed) → AllNodes p packed vs tags xs hs → (i : ℕ) (x : Formal) → slice_get xs i ≡ Some x → (h : Handed) × (slice_get hs i ≡ Some h) × TakenNode p packed vs tags x.mode x.type_number h
    taken_node_at tags [] hs t i x at = none_some x at
    taken_node_at tags (y ∷ ys) [] t i x at = absurd t
    taken_node_at tags (y ∷ ys) (h ∷ hs) t zero x at = (h, refl, subst (λ z. TakenNode p packed vs tags z.mode z.type_number h) (some_same y x at) t.0)
    taken_node_at tags (y ∷ ys) (h ∷ hs) t (suc i) x at = taken_node_at tags ys hs t.1 i x at

    -- inside its procedure a parameter names the node that was taken
    pub parameter_nodes : (tags : List ℕ) (m : Mode) (kind : ℕ) (w : Bool) (h : Handed) (n : Named) → WellFormed.parameter_by p m kind w ≡ Some n → TakenNode p packed vs tags m kind h → NamesNode p packed vs tags n h
    parameter_nodes tags OfValue kind w h n is t = none_some n is
    parameter_nodes tags Place kind w (At a) n is t = subst (λ n. NamesNode p packed vs tags n (At a)) (some_same (Of kind w) n is) t
    parameter_nodes tags OfRecord kind w (Tagged a s) n is t = let r = with_is p fine (record_by (kind_of p.types kind)) (λ r. Some (Dynamic r)) n is in subst (λ n. NamesNode p packed vs tags n (Tagged a s)) (some_same (Dynamic r.0) n r.2) t
    parameter_nodes tags OfOpen kind w (Sized a l) n is t = let e = with_is p fine (open_element (kind_of p.types kind)) (λ e. Some (OpenOf e w)) n is in subst (λ n. NamesNode p packed vs tags n (Sized a l)) (some_same (OpenOf e.0 w) n e.2) (t e.0 e.1)
    parameter_nodes tags _ kind w _ n is t = absurd t

    -- what each kind of argument hands over

    a_by_value : {fs : List (List Form)} {tags : List ℕ} {x : Act Cell} (m : Mode) (kind : ℕ) (o : Option Form) → WellFormed.value_suits p m o (WellFormed.form_of p kind) ≡ true → Sound p fs tags (Any p) x → Sound p fs tags (λ t h. TakenNode p packed vs t m kind h) (by_value x)
    a_by_value OfValue kind o h q = s_bind p q (λ more c e f. s_give p (Value c) (λ most e2. tt))
    a_by_value Place kind o h q = no h
    a_by_value OfRecord kind o h q = no h
    a_by_value OfOpen kind o h q = no h

    kind_node : (fs : List (List Form)) (n : Named) (k : ℕ) → WellFormed.is_kind p k n ≡ true → (more : List ℕ) (h : Handed) → Both p packed fine vs fs n more h → (a : Address) × (address_in h ≡ Some a) × IsNode p packed vs more a (data_tree p.types k)
    kind_node fs (Of l w) k is more (At a) x = (a, refl, subst (λ m. IsNode p packed vs more a (data_tree p.types m)) (eqb-true l k is) x.1)
    kind_node fs (Cells f w) k is more h x = no is
    kind_node fs (OpenOf e w) k is more h x = no is
    kind_node fs (Dynamic r) k is more h x = no is
    kind_node fs (Characters n) k is more h x = no is
    kind_node fs _ k is more _ x = absurd x.0

    a_of_kind : {fs : List (List Form)} {tags : List ℕ} {d : Act Handed} (k : ℕ) (n : Named) → WellFormed.is_kind p k n ≡ true → Sound p fs tags (Both p packed fine vs fs n) d → Sound p fs tags (λ t h. TakenNode p packed vs t Place k h) (by_place d)
    a_of_kind {fs = fs} k n is q = s_bind p (s_address p packed fine vs (Both p packed fine vs fs n) (data_tree p.types k) (kind_node fs n k is) q) (λ more a e part. s_give p (At a) (λ most e2. node_older p packed vs more most e2 a (data_tree p.types k) part))

    a_place_by : {fs : List (List Form)} {tags : List ℕ} {d : Act Handed} (k : ℕ) (w : Bool) (n : Named) → WellFormed.place_suits p k w n ≡ true → Sound p fs tags (Both p packed fine vs fs n) d → Sound p fs tags (λ t h. TakenNode p packed vs t Place k h) (by_place d)
    a_place_by k true n h q = a_of_kind k n (and_of (WellFormed.is_kind p k n) (is_writable n) h).0 q
    a_place_by {fs = fs} k false n h q = elim (or_split p fine (WellFormed.is_kind p k n) (holds_of (λ r. WellFormed.has_record p r n) (record_by (kind_of p.types k))) h) [
      | inl same ↦ a_of_kind k n same q
      | inr has ↦ (let r = holds_is p fine (λ r. WellFormed.has_record p r n) (record_by (kind_of p.types k)) has in
          s_bind p (s_address p packed fine vs (Both p packed fine vs fs n) (Record (record_row p.types r.0)) (record_node p packed fine vs fs n r.0 r.2) q)
          (λ more a e part. s_give p (At a) (λ most e2. subst (λ s. IsNode p packed vs most a s) (sym (record_data_tree p.types fine k r.0 (record_is p fine (kind_of p.types k) r.0 r.1))) (node_older p packed vs more most e2 a (Record (record_row p.types r.0)) part))))
    ]

    a_by_place : {fs : List (List Form)} {tags : List ℕ} {d : Act Handed} (m : Mode) (k : ℕ) (w : Bool) (o : Option Named) → WellFormed.place_argument p m k w o ≡ true → Points p fine fs tags o d → GivesNode p packed fine vs fs tags o d → Sound p fs tags (λ t h. TakenNode p packed vs t m k h) (by_place d)
    a_by_place Place k w o h q z = let n = holds_is p fine (WellFormed.place_suits p k w) o h in a_place_by k w n.0 n.2 (n_both p packed fine vs o n.0 n.1 q z)
    a_by_place OfValue k w o h q z = no h
    a_by_place OfRecord k w o h q z = no h
    a_by_place OfOpen k w o h q z = no h

    tagged_node : (tags : List ℕ) (b r : ℕ) (n : Named) (h : Handed) → WellFormed.record_suits p b r n ≡ true → NamesNode p packed vs tags n h → (a : Address) × (t : ℕ) × (with_tag h r ≡ Some (Tagged a t)) × IsNode p packed vs tags a (Record (record_row p.types t))
    tagged_node tags b r (Of k true) (At a) h part =
        let s = holds_is p fine (λ s. s == r && extends p.types s b) (record_by (kind_of p.types k)) h in
        let parts = and_of (s.0 == r) (extends p.types s.0 b) s.2 in
        (a, r, refl, subst (λ m. IsNode p packed vs tags a (Record (record_row p.types m))) (eqb-true s.0 r parts.0) (subst (λ z. IsNode p packed vs tags a z) (record_data_tree p.types fine k s.0 (record_is p fine (kind_of p.types k) s.0 s.1)) part))
    tagged_node tags b r (Dynamic s) (Tagged a t) h part = (a, t, refl, part)
    tagged_node tags b r (Of k false) x h part = no h
    tagged_node tags b r (Cells f w) x h part = no h
    tagged_node tags b r (OpenOf e w) x h part = no h
    tagged_node tags b r (Characters m) x h part = no h
    tagged_node tags b r _ _ h part = absurd part

    a_by_record : {fs : List (List Form)} {tags : List ℕ} {d : Act Handed} (m : Mode) (kind r : ℕ) (l : Option ℕ) (o : Option Named) → WellFormed.record_argument p m l r o ≡ true → GivesNode p packed fine vs fs tags o d → Sound p fs tags (λ t h. TakenNode p packed vs t m kind h) (by_record d r)
    a_by_record OfRecord kind r None o h z = no h
    a_by_record OfRecord kind r (Some b) o h z =
        let n = holds_is p fine (WellFormed.record_suits p b r) o h in
        s_bind p (z.sound n.0 n.1) (λ more x e part. let g = tagged_node more b r n.0 x n.2 part in
        s_given p (with_tag x r) (Tagged g.0 g.1) g.2 (λ most e2. node_older p packed vs more most e2 g.0 (Record (record_row p.types g.1)) g.3))
    a_by_record OfValue kind r l o h z = no h
    a_by_record Place kind r l o h z = no h
    a_by_record OfOpen kind r l o h z = no h

    a_by_open : {fs : List (List Form)} {tags : List ℕ} {d : Act Handed} (m : Mode) (kind : ℕ) (w : Bool) (n : Option ℕ) (o : Option Named) → WellFormed.open_argument p m (open_element (kind_of p.types kind)) w n o ≡ true → Points p fine fs tags o d → GivesNode p packed fine vs fs tags o d → Sound p fs tags (λ t h. TakenNode p packed vs t m kind h) (by_open d n)
    a_by_open {fs = fs} {tags = tags} {d = d} OfOpen kind w n o h q z = by (open_element (kind_of p.types kind)) refl h
      where
        by : (l : Option ℕ) → open_element (kind_of p.types kind) ≡ l → WellFormed.open_argument p OfOpen l w n o ≡ true → Sound p fs tags (λ t h. TakenNode p packed vs t OfOpen kind h) (by_open d n)
        by None is h = no h
        by (Some e) is h =
            let x = holds_is p fine (WellFormed.open_suits p e w n) o h in
            let parts = open_parts p fine e w n x.0 x.2 in
            let el = holds_is p fine (λ y. WellFormed.is_element p y e) (WellFormed.elements_in p x.0 n) parts.0 in
            s_bind p (s_spanned p packed fine vs x.0 n el.0 el.1 (n_both p packed fine vs o x.0 x.1 q z)) (λ more a e1 elems. s_give p (Sized a.at a.length) (λ most e2 l isl.
            subst (λ y. IsNode p packed vs most a.at (Array a.length (data_tree p.types y))) (some_same e l (sym is ∙ isl)) (subst (λ s. IsNode p packed vs most a.at (Array a.length s)) (element_trees p packed fine vs el.0 e el.2) (node_older p packed vs more most e2 a.at (Array a.length (element_tree p packed fine vs el.0)) elems.1))))
    a_by_open OfValue kind w n o h q z = no h
    a_by_open Place kind w n o h q z = no h
    a_by_open OfRecord kind w n o h q z = no h

    -- in a procedure whose parameters were handed over as nodes
    module _ (calls : Calls) (sound_calls : CallsSound p fine calls) (here : Here) (fs : List (List Form)) (tags : List ℕ)
        (frame : slice_index_or fs here.frame [] ≡ joined (forms p.types) (locals_of (procedure_of p here.procedure)))
        (args : AllTaken p fine fs tags (procedure_of p here.procedure).formals here.arguments)
        (own : slice_index_or vs here.frame [] ≡ locals_of (procedure_of p here.procedure))
        (handed : AllNodes p packed vs tags (procedure_of p here.procedure).formals here.arguments) where
      b_done : (more : List ℕ) → IsNode p packed vs more done (Scalar Truth)
      unfolding global_trees
      b_done more = (0, 0, node_self packed (Scalar Truth))

      -- where a designator begins
      pub b_base : (b : Base) → GivesNode p packed fine vs fs tags (WellFormed.base_named p here.procedure b) (base_of p calls here b)
      b_base Done = n_of p packed fine vs (Cells Truth false) (s_give p (At done) (λ more e. b_done more))
      b_base (Global m v) = n_some p packed fine vs (slice_get (globals_of p m) v) (λ k. Some (Of k true)) (λ k at. n_of p packed fine vs (Of k true) (s_give p (variable_of p Globals (suc m) (globals_of p m) v) (λ more e.
          (v, 0, subst (λ ss. VariableNode packed ss v (cells_of_all p.types (take v (globals_of p m))) 0 (data_tree p.types k)) (sym (globals_are m)) (own_variable (globals_of p m) v k at)))))
      b_base (Local v) = n_some p packed fine vs (slice_get (locals_of (procedure_of p here.procedure)) v) (λ k. Some (Of k true)) (λ k at. n_of p packed fine vs (Of k true) (s_give p (variable_of p Frames here.frame (locals_of (procedure_of p here.procedure)) v) (λ more e.
          (v, 0, subst (λ ks. VariableNode packed (map (data_tree p.types) ks) v (cells_of_all p.types (take v (locals_of (procedure_of p here.procedure)))) 0 (data_tree p.types k)) (sym own) (own_variable (locals_of (procedure_of p here.procedure)) v k at)))))
      b_base (Parameter i) = n_some p packed fine vs (slice_get (procedure_of p here.procedure).formals i) (λ x. WellFormed.parameter_by p x.mode x.type_number x.variable) (λ x at. record {
        sound = λ n is. let t = taken_node_at tags (procedure_of p here.procedure).formals here.arguments handed i x at in
            s_given p (slice_get here.arguments i) t.0 t.1 (λ more e. named_older p packed vs tags more e n t.0 (parameter_nodes tags x.mode x.type_number x.variable t.0 n is t.2));
      })
      b_base (Text i) = n_some p packed fine vs (slice_get (texts_of p.procedures) (text_number p here.procedure i)) (λ xs. Some (Characters (suc (length xs)))) (λ xs at. n_of p packed fine vs (Characters (suc (length xs))) (s_give p (At (record { area = Strings; object = text_number p here.procedure i; cell = 0 })) (λ more e.
          (0, 0, subst (λ ss. VariableNode packed ss 0 0 0 (Array (suc (length xs)) (Scalar Small))) (sym (strings_are (text_number p here.procedure i) xs at)) (node_self packed (Array (suc (length xs)) (Scalar Small)))))))

      -- it has the type that it says
      b_kind : {d : Act Handed} (kind : TypeKind) (o : Option Named) → GivesNode p packed fine vs fs tags o d → GivesNode p packed fine vs fs tags (with_some o (WellFormed.of_kind p kind)) d
      b_kind kind o z = n_some p packed fine vs o (WellFormed.of_kind p kind) (λ n is. n_provided p packed fine vs (WellFormed.has_kind p kind n) (Some n) (λ _. n_of p packed fine vs n (z.sound n is)))

      pub b_select : (s : Selector) (o : Option Named) (d : Act Handed) → Points p fine fs tags o d → GivesNode p packed fine vs fs tags o d → GivesNode p packed fine vs fs tags (WellFormed.select_named p here.procedure s o) (select p calls here s d)
      b_select (Index n element x) o d q z = n_index p packed fine vs here.procedure n element o (WellFormed.form p here.procedure x) q z (t_value p fine calls sound_calls here fs tags frame args x)
      b_select (Field r field) o d q z = n_field p packed fine vs r field o q z
      b_select (Dereference rs) o d q z = n_object p packed fine vs here.procedure (WellFormed.guarded_form p rs (with_some o (WellFormed.scalar_in p))) (m_guards p fine here.procedure rs (with_some o (WellFormed.scalar_in p)) (load d) (m_load p fine o q))
      b_select (Narrow r) o d q z = n_narrowed p packed fine vs here.procedure r o z

      pub b_selected : (m : _) (row : Row_of-Selector m) (o : Option Named) (d : Act Handed) → Points p fine fs tags o d → GivesNode p packed fine vs fs tags o d → GivesNode p packed fine vs fs tags (WellFormed.selected_named p here.procedure row o) (selected p calls here row d)
      b_selected m end_of-Selector o d q z = z
      b_selected m (more_of-Selector s rest) o d q z = b_selected _ rest (WellFormed.select_named p here.procedure s o) (select p calls here s d) (t_select p fine calls sound_calls here fs tags frame args s o d q) (b_select s o d q z)

      -- what a designator names is a node
      pub b_named : (d : Designator) → GivesNode p packed fine vs fs tags (WellFormed.named p here.procedure d) (designated p calls here d)
      b_named (Whole b kind) = b_kind kind (WellFormed.base_named p here.procedure b) (b_base b)
      b_named (Part' _ b kind _ selectors) = b_kind kind (WellFormed.selected_named p here.procedure selectors (WellFormed.base_named p here.procedure b)) (b_selected _ selectors (WellFormed.base_named p here.procedure b) (base_of p calls here b) (t_base p fine calls sound_calls here fs tags frame args b) (b_base b))

      -- what an argument hands over is a node
      pub b_argument : (a : Argument) (x : Formal) → WellFormed.argument_suits p here.procedure a x ≡ true → Sound p fs tags (λ t h. TakenNode p packed vs t x.mode x.type_number h) (argument p calls here a)
      b_argument (ByValue e) x h = a_by_value x.mode x.type_number (WellFormed.form p here.procedure e) h (value_any e x.mode x.type_number h)
        where
          value_any : (e : _) (m : Mode) (kind : ℕ) → WellFormed.value_suits p m (WellFormed.form p here.procedure e) (WellFormed.form_of p kind) ≡ true → Sound p fs tags (Any p) (value p calls here e)
          value_any e OfValue kind h = by (WellFormed.form p here.procedure e) refl h
            where
              by : (o : Option Form) → WellFormed.form p here.procedure e ≡ o → WellFormed.given_for p o (WellFormed.form_of p kind) ≡ true → Sound p fs tags (Any p) (value p calls here e)
              by None is h = no h
              by (Some k) is h = s_weaker p (λ t c f. tt) ((t_value p fine calls sound_calls here fs tags frame args e).sound k is)
          value_any e Place kind h = no h
          value_any e OfRecord kind h = no h
          value_any e OfOpen kind h = no h
      b_argument (ByPlace d) x h = a_by_place x.mode x.type_number x.variable (WellFormed.named p here.procedure d) h (t_named p fine calls sound_calls here fs tags frame args d) (b_named d)
      b_argument (ByRecord d) x h = a_by_record x.mode x.type_number (record_of_kind (kind_in d)) (record_by (kind_of p.types x.type_number)) (WellFormed.named p here.procedure d) h (b_named d)
      b_argument (ByOpen d) x h = a_by_open x.mode x.type_number x.variable (length_of_kind (kind_in d)) (WellFormed.named p here.procedure d) h (t_named p fine calls sound_calls here fs tags frame args d) (b_named d)

      pub b_arguments : (m : _) (row : Row_of-Argument m) (xs : List Formal) → WellFormed.all_suit p here.procedure row xs ≡ true → Sound p fs tags (λ t hs. AllNodes p packed vs t xs hs) (arguments p calls here row)
      b_arguments m end_of-Argument [] h = s_give p [] (λ _ _. tt)
      b_arguments m end_of-Argument (x ∷ xs) h = no h
      b_arguments m (more_of-Argument a rest) [] h = no h
      b_arguments m (more_of-Argument a rest) (x ∷ xs) h =
          let parts = and_of (WellFormed.argument_suits p here.procedure a x) (WellFormed.all_suit p here.procedure rest xs) h in
          s_bind p (b_argument a x parts.0) (λ t1 y e1 t. s_bind p (s_older p e1 (b_arguments _ rest xs parts.1)) (λ t2 ys e2 ts. s_give p (y ∷ ys) (λ t3 e3. (taken_node_older t1 t3 (older_trans t1 t2 t3 e2 e3) x.mode x.type_number y t, all_nodes_older t2 t3 e3 xs ys ts))))

  -- what was handed over is a node for the call that takes it too
  pub taken_node_push : (vs : List (List ℕ)) (own : List ℕ) (tags : List ℕ) (m : Mode) (kind : ℕ) (h : Handed) → TakenNode p packed vs tags m kind h → TakenNode p packed (vs ++ own ∷ []) tags m kind h
  taken_node_push vs own tags OfValue kind (Value c) t = tt
  taken_node_push vs own tags Place kind (At a) t = node_push p packed vs own tags a (data_tree p.types kind) t
  taken_node_push vs own tags OfRecord kind (Tagged a s) t = node_push p packed vs own tags a (Record (record_row p.types s)) t
  taken_node_push vs own tags OfOpen kind (Sized a n) t = λ k is. node_push p packed vs own tags a (Array n (data_tree p.types k)) (t k is)
  taken_node_push vs own tags _ kind _ t = absurd t

  pub all_nodes_push : (vs : List (List ℕ)) (own : List ℕ) (tags : List ℕ) (xs : List Formal) (hs : List Handed) → AllNodes p packed vs tags xs hs → AllNodes p packed (vs ++ own ∷ []) tags xs hs
  all_nodes_push vs own tags [] [] t = tt
  all_nodes_push vs own tags (x ∷ xs) (h ∷ hs) t = (taken_node_push vs own tags x.mode x.type_number h t.0, all_nodes_push vs own tags xs hs t.1)
  all_nodes_push vs own tags [] (h ∷ hs) t = absurd t
  all_nodes_push vs own tags (x ∷ xs) [] t = absurd t
