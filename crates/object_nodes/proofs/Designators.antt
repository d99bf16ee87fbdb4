-- What a designator names is a node of its object's tree: construct by construct, over the meaning's combinators.
use Rattle.std.proofs.Common.{◌≡◌, ℕ, zero, suc, ◌+◌, ◌*◌, ◌^◌, ◌<◌, List, [], ◌∷◌, ◌++◌, map, Bool, true, ◌&&◌, Option, Some, None, refl, sym, ap, ◌∙◌, subst, arith, inr, eqb-true}
use Rattle.std.specs.Prelude.{slice_get, slice_index_or, ◌==◌, nat_lt}
use Rattle.run_laws.specs.Turns.{Ending, Gives, Fails, Spent, ◌>>=◌, give}
use Rattle.ob_types.specs.Layout.{kind_of, record_of, types_of, field_place, extends}
use Rattle.ob_types.specs.Layout.{cells as cells_of}
use Rattle.ob_types.specs.Store.{Cell, Bits, Pointer, Code, Area, Globals, Frames, Heap, Strings, Address, Store, Trap, Act, given, Handed, At, Sized, Tagged, Value, Span, past, address_in, span_in, tag_in, unless, object_in, tag_of, place, span}
use Rattle.ob_types.specs.Operators.{inside}
use Rattle.ob_types.specs.Expressions.{element_place, field_of, object_of, narrowed}
use Rattle.ob_types.specs.declared.types.TypeKind.{TypeKind}
use Rattle.ob_types.specs.declared.types.TypeKind.TheVariants.{Char}
use Rattle.ob_types.specs.declared.types.TypeKind.TheVariants.{Array as ArrayOf}
use Rattle.ob_types.specs.declared.program.Program.{Program}
use Rattle.ob_types.specs.Forms.{Form, Small, ToRecord, scalar_form, types_fine}
use Rattle.ob_types.specs.LegalTypes.{is_record_type}
use Rattle.ob_types.specs.WellFormed
use Rattle.ob_types.specs.WellFormed.{Named, Cells, Of, OpenOf, Dynamic, Characters, Elementary, Letter, provided, holds_of, with_some, gives_number, is_writable, element_by, record_by, is_char, pointed}
use Rattle.ob_types.proofs.Tests.{none_some, some_same, no, and_of}
use Rattle.ob_sound.proofs.Tables.{extends_trans}
use Rattle.ob_sound.proofs.Numbers.{inside_lt}
use Rattle.ob_sound.proofs.Typed.{Fits, Good, HasForm, Names, Older, Sound, Spanned, element_is, older_trans, provided_is, s_bind, s_give, s_given, s_older, s_tag_of, s_trap, s_unless, s_weaker}
use Rattle.ob_sound.proofs.Constructs.{Means, Points, holds_is, n_bits, pointed_is, record_is, s_span, with_is}
use Rattle.ob_types.specs.Trees.{DataTree, Scalar, Array, Record, tree_cells, tree_bytes, data_tree, record_row}
use Rattle.object_nodes.specs.Nodes.{Node, VariableNode}
use Rattle.object_nodes.specs.Named.{heap_trees, object_trees, IsNode, NamesNode}
use Rattle.object_nodes.proofs.Meeting.{node_self, variable_node}
use Rattle.ob_types.proofs.DataTrees.{cells_are, array_data_tree, record_data_tree, scalar_data_tree}
use Rattle.object_nodes.proofs.Trees.{byte_place, field_node, base_node}

module _ (p : Program) (packed : Bool) where
  pub trees_older : (vs : List (List ℕ)) (tags more : List ℕ) → Older tags more → (area : Area) (o v c b : ℕ) (s : DataTree) → VariableNode packed (object_trees p vs tags area o) v c b s → VariableNode packed (object_trees p vs more area o) v c b s
  trees_older vs tags more e Globals o v c b s h = h
  trees_older vs tags more e Frames o v c b s h = h
  trees_older vs tags more e Strings o v c b s h = h
  trees_older vs tags more e Heap o v c b s h = by_tag (slice_get tags o) refl
    where
      by_tag : (t : Option ℕ) → slice_get tags o ≡ t → VariableNode packed (heap_trees p (slice_get more o)) v c b s
      by_tag None at = absurd (subst (λ t. VariableNode packed (heap_trees p t) v c b s) at h)
      by_tag (Some t) at = subst (λ u. VariableNode packed (heap_trees p u) v c b s) (sym (e o t at)) (subst (λ u. VariableNode packed (heap_trees p u) v c b s) at h)

  pub node_older : (vs : List (List ℕ)) (tags more : List ℕ) → Older tags more → (a : Address) (s : DataTree) → IsNode p packed vs tags a s → IsNode p packed vs more a s
  node_older vs tags more e a s h = (h.0, h.1, trees_older vs tags more e a.area a.object h.0 a.cell h.1 s h.2)

  pub node_in : (vs : List (List ℕ)) (tags : List ℕ) (a : Address) (s : DataTree) (c o : ℕ) (u : DataTree) → IsNode p packed vs tags a s → Node packed s c o u → IsNode p packed vs tags (past a c) u
  node_in vs tags a s c o u h n = (h.0, h.1 + o, variable_node packed (object_trees p vs tags a.area a.object) h.0 a.cell h.1 s c o u (a.cell + c) h.2 n refl)

  pub node_here : (vs : List (List ℕ)) (tags : List ℕ) (a : Address) (s u : DataTree) → IsNode p packed vs tags a s → Node packed s 0 0 u → IsNode p packed vs tags a u
  node_here vs tags a s u h n = (h.0, h.1 + 0, variable_node packed (object_trees p vs tags a.area a.object) h.0 a.cell h.1 s 0 0 u a.cell h.2 n (omega arith))

  -- one more call
  pub trees_push : (vs : List (List ℕ)) (own : List ℕ) (tags : List ℕ) (area : Area) (o v c b : ℕ) (s : DataTree) → VariableNode packed (object_trees p vs tags area o) v c b s → VariableNode packed (object_trees p (vs ++ own ∷ []) tags area o) v c b s
  trees_push vs own tags Globals o v c b s h = h
  trees_push vs own tags Heap o v c b s h = h
  trees_push vs own tags Strings o v c b s h = h
  trees_push vs own tags Frames o v c b s h = by vs o h
    where
      by : (vs : List (List ℕ)) (o : ℕ) → VariableNode packed (map (data_tree p.types) (slice_index_or vs o [])) v c b s → VariableNode packed (map (data_tree p.types) (slice_index_or (vs ++ own ∷ []) o [])) v c b s
      by [] o h = absurd h
      by (ks ∷ vs) zero h = h
      by (ks ∷ vs) (suc o) h = by vs o h

  pub node_push : (vs : List (List ℕ)) (own : List ℕ) (tags : List ℕ) (a : Address) (s : DataTree) → IsNode p packed vs tags a s → IsNode p packed (vs ++ own ∷ []) tags a s
  node_push vs own tags a s h = (h.0, h.1, trees_push vs own tags a.area a.object h.0 a.cell h.1 s h.2)

  pub named_older : (vs : List (List ℕ)) (tags more : List ℕ) → Older tags more → (d : Named) (h : Handed) → NamesNode p packed vs tags d h → NamesNode p packed vs more d h
  named_older vs tags more e (Cells f w) (At a) h = node_older vs tags more e a (Scalar f) h
  named_older vs tags more e (Of k w) (At a) h = node_older vs tags more e a (data_tree p.types k) h
  named_older vs tags more e (OpenOf k w) (Sized a n) h = node_older vs tags more e a (Array n (data_tree p.types k)) h
  named_older vs tags more e (Dynamic r) (Tagged a t) h = node_older vs tags more e a (Record (record_row p.types t)) h
  named_older vs tags more e (Characters n) (At a) h = node_older vs tags more e a (Array n (Scalar Small)) h
  named_older vs tags more e _ _ h = absurd h

  -- what is sound twice gives both

  both_good : {A : Type 0} (fs : List (List Form)) (tags : List ℕ) (P Q : List ℕ → A → Type 0) (e : Ending Store Trap A) → Good p fs P tags e → Good p fs Q tags e → Good p fs (λ t a. P t a × Q t a) tags e
  both_good fs tags P Q (Gives a t) f g = (f.0, f.1, (f.2, g.2))
  both_good fs tags P Q (Fails trap out) f g = f
  both_good fs tags P Q (Spent out) f g = f

  pub s_both : {A : Type 0} {fs : List (List Form)} {tags : List ℕ} {P Q : List ℕ → A → Type 0} {m : Act A} → Sound p fs tags P m → Sound p fs tags Q m → Sound p fs tags (λ t a. P t a × Q t a) m
  s_both {fs = fs} {P = P} {Q = Q} {m = m} f g = record { by = λ s x typed. both_good fs s.store.tags P Q (m s) (f.by s x typed) (g.by s x typed) }

  module _ (fine : types_fine p.types ≡ true) (vs : List (List ℕ)) where
    pub record GivesNode (fs : List (List Form)) (tags : List ℕ) (o : Option Named) (d : Act Handed) : Type 0 where
      pub sound : (n : Named) → o ≡ Some n → Sound p fs tags (λ t h. NamesNode p packed vs t n h) d

    abbrev pub Both : List (List Form) → Named → List ℕ → Handed → Type 0
    Both fs n tags h = Names p fs tags n h × NamesNode p packed vs tags n h

    pub n_both : {fs : List (List Form)} {tags : List ℕ} {d : Act Handed} (o : Option Named) (n : Named) → o ≡ Some n → Points p fine fs tags o d → GivesNode fs tags o d → Sound p fs tags (Both fs n) d
    n_both o n is q z = s_both (q.sound n is) (z.sound n is)

    pub n_of : {fs : List (List Form)} {tags : List ℕ} {x : Act Handed} (k : Named) → Sound p fs tags (λ t h. NamesNode p packed vs t k h) x → GivesNode fs tags (Some k) x
    n_of {fs = fs} {tags = tags} {x = x} k q = record { sound = λ l is. subst (λ k. Sound p fs tags (λ t h. NamesNode p packed vs t k h) x) (some_same k l is) q }

    pub n_provided : {fs : List (List Form)} {tags : List ℕ} {x : Act Handed} (b : Bool) (o : Option Named) → (b ≡ true → GivesNode fs tags o x) → GivesNode fs tags (provided b o) x
    n_provided b o h = record { sound = λ k is. let a = provided_is p b o k is in (h a.0).sound k a.1 }

    pub n_some : {A : Type 0} {fs : List (List Form)} {tags : List ℕ} {x : Act Handed} (o : Option A) (f : A → Option Named) → ((a : A) → o ≡ Some a → GivesNode fs tags (f a) x) → GivesNode fs tags (with_some o f) x
    n_some o f h = record { sound = λ k is. let a = with_is p fine o f k is in (h a.0 a.1).sound k a.2 }

    -- the address of a node
    pub s_address : {fs : List (List Form)} {tags : List ℕ} {d : Act Handed} (P : List ℕ → Handed → Type 0) (s : DataTree) → ((more : List ℕ) (h : Handed) → P more h → (a : Address) × (address_in h ≡ Some a) × IsNode p packed vs more a s) → Sound p fs tags P d → Sound p fs tags (λ t a. IsNode p packed vs t a s) (place d)
    s_address P s find q = s_bind p q (λ more h e x. let f = find more h x in s_given p (address_in h) f.0 f.1 (λ most e2. node_older vs more most e2 f.0 s f.2))

    -- a field

    pub record_node : (fs : List (List Form)) (n : Named) (r : ℕ) → WellFormed.has_record p r n ≡ true → (more : List ℕ) (h : Handed) → Both fs n more h → (a : Address) × (address_in h ≡ Some a) × IsNode p packed vs more a (Record (record_row p.types r))
    record_node fs (Of k w) r has more (At a) x =
        let s = holds_is p fine (λ s. extends p.types s r) (record_by (kind_of p.types k)) has in
        (a, refl, node_here vs more a (Record (record_row p.types s.0)) (Record (record_row p.types r)) (subst (λ z. IsNode p packed vs more a z) (record_data_tree p.types fine k s.0 (record_is p fine (kind_of p.types k) s.0 s.1)) x.1) (base_node p.types fine packed s.0 r s.2))
    record_node fs (Dynamic s) r has more (Tagged a t) x = (a, refl, node_here vs more a (Record (record_row p.types t)) (Record (record_row p.types r)) x.1 (base_node p.types fine packed t r (extends_trans p.types fine t s r x.0.1 has)))
    record_node fs (Cells f w) r has more h x = no has
    record_node fs (OpenOf e w) r has more h x = no has
    record_node fs (Characters n) r has more h x = no has
    record_node fs _ r has more _ x = absurd x.0

    pub n_field : {fs : List (List Form)} {tags : List ℕ} {d : Act Handed} (r field : ℕ) (o : Option Named) → Points p fine fs tags o d → GivesNode fs tags o d
        → GivesNode fs tags (with_some o (λ t. provided (WellFormed.has_record p r t) (with_some (slice_get (types_of (record_of p.types r).fields) field) (λ k. Some (Of k (is_writable t)))))) (field_of d (field_place p.types r field))
    n_field {fs = fs} r field o q z = n_some o (λ t. provided (WellFormed.has_record p r t) (with_some (slice_get (types_of (record_of p.types r).fields) field) (λ k. Some (Of k (is_writable t))))) (λ n is. n_provided (WellFormed.has_record p r n) (with_some (slice_get (types_of (record_of p.types r).fields) field) (λ k. Some (Of k (is_writable n)))) (λ has. n_some (slice_get (types_of (record_of p.types r).fields) field) (λ k. Some (Of k (is_writable n))) (λ k at.
        n_of (Of k (is_writable n)) (s_bind p (s_address (Both fs n) (Record (record_row p.types r)) (record_node fs n r has) (n_both o n is q z)) (λ more a e part. s_give p (At (past a (field_place p.types r field))) (λ most e2.
        node_in vs most a (Record (record_row p.types r)) (field_place p.types r field) (byte_place p.types packed r field k) (data_tree p.types k) (node_older vs more most e2 a (Record (record_row p.types r)) part) (field_node p.types fine packed r field k at)))))))

    -- an element

    abbrev pub element_tree : Elementary → DataTree
    element_tree (WellFormed.OfType k) = data_tree p.types k
    element_tree Letter = Scalar Small

    pub element_trees : (el : Elementary) (e : ℕ) → WellFormed.is_element p el e ≡ true → element_tree el ≡ data_tree p.types e
    element_trees (WellFormed.OfType k) e h = ap (data_tree p.types) (eqb-true k e h)
    element_trees Letter e h = sym (scalar_data_tree p.types fine e Small (char_form (kind_of p.types e) h))
      where
        char_form : (kind : TypeKind) → is_char kind ≡ true → scalar_form kind ≡ Some Small
        char_form Char h = refl
        char_form _ h = no h

    -- an array's address and length
    abbrev pub Spread : Elementary → List ℕ → Span → Type 0
    Spread el tags s = IsNode p packed vs tags s.at (Array s.length (element_tree el))

    pub s_spread : {fs : List (List Form)} {tags : List ℕ} {d : Act Handed} (n : Named) (l : Option ℕ) (el : Elementary) → WellFormed.elements_in p n l ≡ Some el → Sound p fs tags (Both fs n) d → Sound p fs tags (Spread el) (span d l)
    s_spread {fs = fs} (Of k w) (Some n) el is q =
        let e = element_is p (kind_of p.types k) n el is in
        s_bind p (s_address (Both fs (Of k w)) (Array n (element_tree el)) (λ more h x. by e more h x) q)
        (λ more a e2 part. s_give p (record { at = a; length = n }) (λ most e3. node_older vs more most e3 a (Array n (element_tree el)) part))
      where
        by : (e : ℕ) × (kind_of p.types k ≡ ArrayOf (Some n) e) × (WellFormed.OfType e ≡ el) × (n < 2 ^ 32) → (more : List ℕ) (h : Handed) → Both fs (Of k w) more h → (a : Address) × (address_in h ≡ Some a) × IsNode p packed vs more a (Array n (element_tree el))
        by e more (At a) x = (a, refl, subst (λ z. IsNode p packed vs more a z) (array_data_tree p.types fine k n e.0 e.1 ∙ ap (λ y. Array n (element_tree y)) e.2) x.1)
        by e more (Sized a m) x = absurd x.0
        by e more (Tagged a t) x = absurd x.0
        by e more (Value c) x = absurd x.0
    s_spread {fs = fs} (OpenOf e w) None el is q = s_bind p q (λ more h e2 x. by more h x)
      where
        by : (more : List ℕ) (h : Handed) → Both fs (OpenOf e w) more h → Sound p fs more (Spread el) (given (span_in h))
        by more (Sized a n) x = s_give p (record { at = a; length = n }) (λ most e3. node_older vs more most e3 a (Array n (element_tree el)) (subst (λ y. IsNode p packed vs more a (Array n (element_tree y))) (some_same (WellFormed.OfType e) el is) x.1))
        by more (At a) x = absurd x.0
        by more (Tagged a t) x = absurd x.0
        by more (Value c) x = absurd x.0
    s_spread {fs = fs} (Characters m) (Some n) el is q =
        let a = provided_is p (m == n && nat_lt n (2 ^ 32)) (Some Letter) el is in
        let b = and_of (m == n) (nat_lt n (2 ^ 32)) a.0 in
        s_bind p (s_address (Both fs (Characters m)) (Array n (element_tree el)) (λ more h x. by (eqb-true m n b.0) (some_same Letter el a.1) more h x) q)
        (λ more a e2 part. s_give p (record { at = a; length = n }) (λ most e3. node_older vs more most e3 a (Array n (element_tree el)) part))
      where
        by : m ≡ n → Letter ≡ el → (more : List ℕ) (h : Handed) → Both fs (Characters m) more h → (a : Address) × (address_in h ≡ Some a) × IsNode p packed vs more a (Array n (element_tree el))
        by e l more (At a) x = (a, refl, subst (λ y. IsNode p packed vs more a (Array n (element_tree y))) l (subst (λ k. IsNode p packed vs more a (Array k (Scalar Small))) e x.1))
        by e l more (Sized a k) x = absurd x.0
        by e l more (Tagged a t) x = absurd x.0
        by e l more (Value c) x = absurd x.0
    s_spread (Of k w) None el is q = none_some el is
    s_spread (OpenOf e w) (Some n) el is q = none_some el is
    s_spread (Characters m) None el is q = none_some el is
    s_spread (Cells f w) l el is q = none_some el (by l is)
      where
        by : (l : Option ℕ) → WellFormed.elements_in p (Cells f w) l ≡ Some el → None ≡ Some el
        by None e = e
        by (Some n) e = e
    s_spread (Dynamic r) l el is q = none_some el (by l is)
      where
        by : (l : Option ℕ) → WellFormed.elements_in p (Dynamic r) l ≡ Some el → None ≡ Some el
        by None e = e
        by (Some n) e = e

    -- an array's address and length, where its cells have their forms too
    pub s_spanned : {fs : List (List Form)} {tags : List ℕ} {d : Act Handed} (n : Named) (l : Option ℕ) (el : Elementary) → WellFormed.elements_in p n l ≡ Some el → Sound p fs tags (Both fs n) d → Sound p fs tags (λ t s. Spanned p fs el (is_writable n) t s × Spread el t s) (span d l)
    s_spanned n l el is q = s_both (s_span p fine n l el is (s_weaker p (λ t h x. x.0) q)) (s_spread n l el is q)

    pub element_node : (n i : ℕ) (s : DataTree) → i < n → Node packed (Array n s) (i * tree_cells s) (i * tree_bytes packed s) s
    element_node n i s lt = inr (i, 0, 0, lt, node_self packed s, omega arith, omega arith)

    pub n_index : {fs : List (List Form)} {tags : List ℕ} {d : Act Handed} {x : Act Cell} (f : ℕ) (n : Option ℕ) (element : ℕ) (o : Option Named) (l : Option Form) → Points p fine fs tags o d → GivesNode fs tags o d → Means p fine fs tags l x
        → GivesNode fs tags (with_some o (λ t. provided (WellFormed.array_of p element n t) (provided (gives_number l) (Some (Of element (is_writable t)))))) (element_place f d n (cells_of p.types element) x)
    n_index {fs = fs} f n element o l q z r = n_some o (λ t. provided (WellFormed.array_of p element n t) (provided (gives_number l) (Some (Of element (is_writable t))))) (λ c is. n_provided (WellFormed.array_of p element n c) (provided (gives_number l) (Some (Of element (is_writable c)))) (λ h. n_provided (gives_number l) (Some (Of element (is_writable c))) (λ g.
        let el = holds_is p fine (λ x. WellFormed.is_element p x element) (WellFormed.elements_in p c n) h in
        n_of (Of element (is_writable c)) (s_bind p (s_spanned c n el.0 el.1 (n_both o c is q z)) (λ t1 a e1 elems. s_bind p (s_older p e1 (n_bits p fine l g r)) (λ t2 i e2 li. s_bind p (s_unless p f 1 (inside i a.length)) (λ t3 u e3 ok.
        s_give p (At (past a.at (i * cells_of p.types element))) (λ t4 e4. by a i t4 (inside_lt i a.length li (let y = elems.0.2 in omega (arith, y)) ok)
        (subst (λ s. IsNode p packed vs t4 a.at (Array a.length s)) (element_trees el.0 element el.2) (node_older vs t1 t4 (older_trans t1 t2 t4 e2 (older_trans t2 t3 t4 e3 e4)) a.at (Array a.length (element_tree el.0)) elems.1))))))))))
      where
        by : (a : Span) (i : ℕ) (t : List ℕ) → i < a.length → IsNode p packed vs t a.at (Array a.length (data_tree p.types element)) → IsNode p packed vs t (past a.at (i * cells_of p.types element)) (data_tree p.types element)
        by a i t less part =
            subst (λ c. IsNode p packed vs t (past a.at (i * c)) (data_tree p.types element)) (sym (cells_are p.types element))
            (node_in vs t a.at (Array a.length (data_tree p.types element)) (i * tree_cells (data_tree p.types element)) (i * tree_bytes packed (data_tree p.types element)) (data_tree p.types element) part (element_node a.length i (data_tree p.types element) less))

    -- a pointer's object

    pub s_object_node : {fs : List (List Form)} {tags : List ℕ} (f r : ℕ) (c : Cell) → Fits p tags (ToRecord r) c → Sound p fs tags (λ t h. NamesNode p packed vs t (Dynamic r) h) (object_in f c >>= λ o. tag_of o >>= λ t. give (Tagged (record { area = Heap; object = o; cell = 0 }) t))
    s_object_node f r (Bits zero) g = s_trap p 2 f
    s_object_node f r (Bits (suc n)) g = absurd (omega (arith, g))
    s_object_node f r (Code h) g = absurd g
    s_object_node {fs = fs} f r (Pointer o) g = s_bind p (s_tag_of p o g.0 g.1) (λ more t e is. s_give p (Tagged (record { area = Heap; object = o; cell = 0 }) t) (λ most e2.
        (0, 0, subst (λ u. VariableNode packed (heap_trees p u) 0 0 0 (Record (record_row p.types t))) (sym (e2 o t is.0)) (node_self packed (Record (record_row p.types t))))))

    pub n_object : {fs : List (List Form)} {tags : List ℕ} {x : Act Cell} (f : ℕ) (o : Option Form) → Means p fine fs tags o x → GivesNode fs tags (with_some o pointed) (object_of f x)
    n_object {fs = fs} {tags = tags} {x = x} f o q = n_some o pointed (λ k is. record {
      sound = λ n has. let z = pointed_is p fine k n has in
          subst (λ m. Sound p fs tags (λ t h. NamesNode p packed vs t m h) (object_of f x)) (sym z.2) (s_bind p (subst (λ m. Sound p fs tags (HasForm p m) x) z.1 (q.sound k is)) (λ more c e g. s_object_node f z.0 c g));
    })

    -- a guarded parameter

    pub s_narrowed_node : {fs : List (List Form)} {tags : List ℕ} (f r s : ℕ) (h : Handed) → NamesNode p packed vs tags (Dynamic s) h → Sound p fs tags (λ t h. NamesNode p packed vs t (Dynamic r) h) (given (tag_in h) >>= λ t. unless f 3 (extends p.types t r) >>= λ _. give h)
    s_narrowed_node {tags = tags} f r s (Tagged a t) x = s_bind p (s_unless p f 3 (extends p.types t r)) (λ more u e ok. s_give p (Tagged a t) (λ most e2. node_older vs tags most (older_trans tags more most e e2) a (Record (record_row p.types t)) x))
    s_narrowed_node f r s (At a) x = absurd x
    s_narrowed_node f r s (Sized a m) x = absurd x
    s_narrowed_node f r s (Value c) x = absurd x

    dynamic_is : (n : Named) → WellFormed.is_dynamic p n ≡ true → (r : ℕ) × (n ≡ Dynamic r)
    dynamic_is (Dynamic r) h = (r, refl)
    dynamic_is (Cells f w) h = no h
    dynamic_is (Of k w) h = no h
    dynamic_is (OpenOf e w) h = no h
    dynamic_is (Characters n) h = no h

    pub n_narrowed : {fs : List (List Form)} {tags : List ℕ} {d : Act Handed} (f r : ℕ) (o : Option Named) → GivesNode fs tags o d → GivesNode fs tags (provided (is_record_type p.types r) (provided (holds_of (WellFormed.is_dynamic p) o) (Some (Dynamic r)))) (narrowed f (extends p.types) d r)
    n_narrowed {fs = fs} {tags = tags} {d = d} f r o z = n_provided (is_record_type p.types r) (provided (holds_of (WellFormed.is_dynamic p) o) (Some (Dynamic r))) (λ g. n_provided (holds_of (WellFormed.is_dynamic p) o) (Some (Dynamic r)) (λ h.
        let n = holds_is p fine (WellFormed.is_dynamic p) o h in
        let s = dynamic_is n.0 n.2 in
        n_of (Dynamic r) (s_bind p (subst (λ m. Sound p fs tags (λ t h. NamesNode p packed vs t m h) d) s.1 (z.sound n.0 n.1)) (λ more x e part. s_narrowed_node f r s.0 x part))))
