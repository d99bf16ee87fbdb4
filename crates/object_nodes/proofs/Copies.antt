-- What is copied and where it is copied to are one, or lie apart: no cell is written before it is read.
use Rattle.std.proofs.Common.{◌≡◌, ℕ, ◌+◌, ◌<◌, ◌≤◌, ◌⊎◌, ⊎_elim, inl, inr, List, Bool, true, ◌&&◌, Option, sym, subst, arith, leb-true}
use Rattle.std.specs.Prelude.{nat_le}
use Rattle.run_laws.specs.Turns.{◌>>=◌, give}
use Rattle.ob_types.specs.Store.{Address, Act, Handed, Span, can_write, unless, place, span}
use Rattle.ob_types.specs.declared.program.Program.{Program}
use Rattle.ob_types.specs.Forms.{Form, types_fine}
use Rattle.ob_types.specs.WellFormed
use Rattle.ob_types.specs.WellFormed.{Named, holds_of, is_writable}
use Rattle.ob_types.proofs.Tests.{and_of}
use Rattle.ob_sound.proofs.Typed.{Sound, older_trans, s_bind, s_give, s_older, s_unless}
use Rattle.ob_sound.proofs.Constructs.{Points, holds_is, s_record}
use Rattle.ob_types.specs.Trees.{DataTree, Array, Record, tree_cells, data_tree, record_row}
use Rattle.object_nodes.specs.AtOnce.{IsAhead}
use Rattle.object_nodes.specs.Nodes.{LieApart, VariableNode}
use Rattle.object_nodes.proofs.Meeting.{tree_levels, same_levels, variables_meet}
use Rattle.object_nodes.specs.Named.{object_trees, IsNode}
use Rattle.object_nodes.proofs.Designators.{GivesNode, Both, node_older, n_both, element_tree, element_trees, record_node, s_address, s_both, s_spanned, s_spread}

module _ (p : Program) (packed : Bool) (vs : List (List ℕ)) where
  -- two nodes of one object with as many levels: one, or apart in cells; of one variable, in bytes too
  abbrev pub OneOrApart : (v c o : ℕ) → DataTree → (w d q : ℕ) → DataTree → Type 0
  OneOrApart v c o s w d q u = ((v ≡ w) × (((c ≡ d) × (o ≡ q) × (s ≡ u)) ⊎ LieApart packed c o s d q u)) ⊎ (((v < w) × (c + tree_cells s ≤ d)) ⊎ ((w < v) × (d + tree_cells u ≤ c)))

  pub addresses_meet : (tags : List ℕ) (a b : Address) (s u : DataTree) (x : IsNode p packed vs tags a s) (y : IsNode p packed vs tags b u) → tree_levels s ≡ tree_levels u → a.area ≡ b.area → a.object ≡ b.object → OneOrApart x.0 a.cell x.1 s y.0 b.cell y.1 u
  addresses_meet tags a b s u x y same area object =
      let there = subst (λ o. VariableNode packed (object_trees p vs tags a.area o) y.0 b.cell y.1 u) (sym object) (subst (λ z. VariableNode packed (object_trees p vs tags z b.object) y.0 b.cell y.1 u) (sym area) y.2) in
      ⊎_elim
      (λ h. inl (h.0, same_levels packed a.cell x.1 s b.cell y.1 u same h.1))
      (λ h. inr h)
      (variables_meet packed (object_trees p vs tags a.area a.object) x.0 a.cell x.1 s y.0 b.cell y.1 u x.2 there)

  ahead_by : (v c o : ℕ) (s : DataTree) (w d q : ℕ) (u : DataTree) (n : ℕ) → n ≤ tree_cells u → OneOrApart v c o s w d q u → (i j : ℕ) → j < i → i < n → c + j ≡ d + i → ⊥
  ahead_by v c o s w d q u n few (inl (e, inl h)) i j less lt at = let x = h.0 in absurd (omega (arith, x, less, at))
  ahead_by v c o s w d q u n few (inl (e, inr (inl h))) i j less lt at = let x = h.0 in absurd (omega (arith, x, less, at))
  ahead_by v c o s w d q u n few (inl (e, inr (inr h))) i j less lt at = let x = h.0 in absurd (omega (arith, x, less, lt, few, at))
  ahead_by v c o s w d q u n few (inr (inl h)) i j less lt at = let x = h.1 in absurd (omega (arith, x, less, at))
  ahead_by v c o s w d q u n few (inr (inr h)) i j less lt at = let x = h.1 in absurd (omega (arith, x, less, lt, few, at))

  pub ahead_of : (tags : List ℕ) (to from : Address) (s u : DataTree) (n : ℕ) → IsNode p packed vs tags to s → IsNode p packed vs tags from u → tree_levels s ≡ tree_levels u → n ≤ tree_cells u → IsAhead n to from
  ahead_of tags to from s u n x y same few = record { apart = λ i j less lt area object at. ahead_by x.0 to.cell x.1 s y.0 from.cell y.1 u n few (addresses_meet tags to from s u x y same area object) i j less lt at }

  module _ (fine : types_fine p.types ≡ true) where
    -- the two addresses of a copy: nodes, of which the first may be written, and has room

    unfoldable pub array_ends : ℕ → Act Handed → Option ℕ → Act Handed → Option ℕ → Act (Span × Span)
    array_ends f d n e m = span d n >>= λ to. span e m >>= λ from. unless f 12 (nat_le from.length to.length) >>= λ _. give (to, from)

    abbrev pub ArraysMeet : ℕ → List ℕ → Span × Span → Type 0
    ArraysMeet element tags x = IsNode p packed vs tags x.0.at (Array x.0.length (data_tree p.types element)) × IsNode p packed vs tags x.1.at (Array x.1.length (data_tree p.types element)) × (x.1.length ≤ x.0.length) × (can_write x.0.at.area ≡ true)

    pub c_array : {fs : List (List Form)} {tags : List ℕ} {d e : Act Handed} (f : ℕ) (n m : Option ℕ) (element : ℕ) (o l : Option Named) → holds_of (WellFormed.may_copy p f element n) o ≡ true → holds_of (WellFormed.array_of p element m) l ≡ true
        → Points p fine fs tags o d → GivesNode p packed fine vs fs tags o d → Points p fine fs tags l e → GivesNode p packed fine vs fs tags l e → Sound p fs tags (ArraysMeet element) (array_ends f d n e m)
    unfolding array_ends
    c_array {fs = fs} {tags = tags} f n m element o l ho hl q z r y =
        let a = holds_is p fine (WellFormed.may_copy p f element n) o ho in
        let may = and_of (is_writable a.0) (WellFormed.array_of p element n a.0) a.2 in
        let b = holds_is p fine (WellFormed.array_of p element m) l hl in
        let x = holds_is p fine (λ x. WellFormed.is_element p x element) (WellFormed.elements_in p a.0 n) may.1 in
        let w = holds_is p fine (λ x. WellFormed.is_element p x element) (WellFormed.elements_in p b.0 m) b.2 in
        s_bind p (s_spanned p packed fine vs a.0 n x.0 x.1 (n_both p packed fine vs o a.0 a.1 q z)) (λ t1 to e1 at1.
        s_bind p (s_older p e1 (s_spread p packed fine vs b.0 m w.0 w.1 (n_both p packed fine vs l b.0 b.1 r y))) (λ t2 from e2 at2.
        s_bind p (s_unless p f 12 (nat_le from.length to.length)) (λ t3 u e3 ok. s_give p (to, from) (λ t4 e4.
        let first = subst (λ s. IsNode p packed vs t4 to.at (Array to.length s)) (element_trees p packed fine vs x.0 element x.2) (node_older p packed vs t1 t4 (older_trans t1 t2 t4 e2 (older_trans t2 t3 t4 e3 e4)) to.at (Array to.length (element_tree p packed fine vs x.0)) at1.1) in
        let second = subst (λ s. IsNode p packed vs t4 from.at (Array from.length s)) (element_trees p packed fine vs w.0 element w.2) (node_older p packed vs t2 t4 (older_trans t2 t3 t4 e3 e4) from.at (Array from.length (element_tree p packed fine vs w.0)) at2) in
        (first, second, leb-true from.length to.length ok, at1.0.1 may.0)))))

    unfoldable pub record_ends : Act Handed → Act Handed → Act (Address × Address)
    record_ends d e = place d >>= λ to. place e >>= λ from. give (to, from)

    abbrev pub RecordsMeet : ℕ → List ℕ → Address × Address → Type 0
    RecordsMeet r tags x = IsNode p packed vs tags x.0 (Record (record_row p.types r)) × IsNode p packed vs tags x.1 (Record (record_row p.types r)) × (can_write x.0.area ≡ true)

    pub c_record : {fs : List (List Form)} {tags : List ℕ} {d e : Act Handed} (r : ℕ) (o l : Option Named) → holds_of (λ t. is_writable t && WellFormed.has_record p r t) o ≡ true → holds_of (WellFormed.has_record p r) l ≡ true
        → Points p fine fs tags o d → GivesNode p packed fine vs fs tags o d → Points p fine fs tags l e → GivesNode p packed fine vs fs tags l e → Sound p fs tags (RecordsMeet r) (record_ends d e)
    unfolding record_ends
    c_record {fs = fs} {tags = tags} r o l ho hl q z s y =
        let a = holds_is p fine (λ t. is_writable t && WellFormed.has_record p r t) o ho in
        let may = and_of (is_writable a.0) (WellFormed.has_record p r a.0) a.2 in
        let b = holds_is p fine (WellFormed.has_record p r) l hl in
        s_bind p (s_both p packed (s_address p packed fine vs (Both p packed fine vs fs a.0) (Record (record_row p.types r)) (record_node p packed fine vs fs a.0 r may.1) (n_both p packed fine vs o a.0 a.1 q z)) (s_record p fine a.0 r may.1 (q.sound a.0 a.1))) (λ t1 to e1 at1.
        s_bind p (s_older p e1 (s_address p packed fine vs (Both p packed fine vs fs b.0) (Record (record_row p.types r)) (record_node p packed fine vs fs b.0 r b.2) (n_both p packed fine vs l b.0 b.1 s y))) (λ t2 from e2 at2. s_give p (to, from) (λ t3 e3.
        (node_older p packed vs t1 t3 (older_trans t1 t2 t3 e2 e3) to (Record (record_row p.types r)) at1.0, node_older p packed vs t2 t3 e3 from (Record (record_row p.types r)) at2, at1.1.1 may.0))))
