-- The copies of a well-formed procedure's body: both sides are nodes, and all their cells are there.
use Rattle.std.proofs.Common.{◌≡◌, ℕ, zero, suc, ◌+◌, ◌<◌, ◌≤◌, List, [], ◌∷◌, length, Bool, true, ◌&&◌, Some, refl, arith}
use Rattle.std.specs.Prelude.{slice_get, slice_index_or}
use Rattle.ob_types.specs.Store.{Address, Store, Here, can_write}
use Rattle.run_laws.specs.Turns.{State}
use Rattle.ob_types.specs.Expressions.{Calls}
use Rattle.ob_types.specs.Statements.{copy_cells}
use Rattle.ob_types.specs.Meaning.{procedure_of, locals_of, kind_in, length_of_kind, element_kind, record_of_kind, designated}
use Rattle.ob_types.specs.declared.tree.Designator.{Designator}
use Rattle.ob_types.specs.declared.statements.Stmt.{CopyArray, CopyRecord}
use Rattle.ob_types.specs.declared.program.Program.{Program}
use Rattle.ob_types.specs.Forms.{Form, joined, types_fine, forms}
use Rattle.ob_types.specs.WellFormed
use Rattle.ob_types.specs.WellFormed.{Named, holds_of, is_writable, lengths_fit}
use Rattle.ob_types.proofs.Tests.{and_of}
use Rattle.ob_sound.proofs.Typed.{Sound, Typed}
use Rattle.ob_sound.proofs.Handing.{AllTaken, CallsSound}
use Rattle.ob_sound.proofs.Tree.{t_named}
use Rattle.ob_types.specs.Trees.{DataTree, tree_cells, tree_forms}
use Rattle.object_nodes.specs.AtOnce.{CellsThere, copy_at_once}
use Rattle.object_nodes.proofs.AtOnce.{at_once}
use Rattle.object_nodes.proofs.Trees.{cells_forms}
use Rattle.object_nodes.specs.Named.{IsNode, AllNodes}
use Rattle.object_nodes.proofs.Standing.{node_stands}
use Rattle.object_nodes.proofs.Meeting.{tree_levels}
use Rattle.object_nodes.proofs.Copies.{ahead_of, ArraysMeet, RecordsMeet, array_ends, record_ends, c_array, c_record}
use Rattle.object_nodes.proofs.Handed.{b_named}

some_at : (xs : List Form) (i : ℕ) → i < length xs → (f : Form) × (slice_get xs i ≡ Some f)
some_at [] i lt = absurd (omega (arith, lt))
some_at (x ∷ xs) zero lt = (x, refl)
some_at (x ∷ xs) (suc i) lt = some_at xs i (omega (arith, lt))

module _ (p : Program) (packed : Bool) where
  -- a node's cells are there
  pub node_there : (fs : List (List Form)) (vs : List (List ℕ)) → ((o : ℕ) → slice_index_or fs o [] ≡ joined (forms p.types) (slice_index_or vs o []))
      → (s : Store) → Typed p fs s → (a : Address) (t : DataTree) (n : ℕ) → n ≤ tree_cells t → IsNode p packed vs s.tags a t → CellsThere n a s
  node_there fs vs own s typed a t n few part = record {
    cell = λ i lt.
        let e = cells_forms t in
        let f = some_at (tree_forms t) i (omega (arith, lt, few, e)) in
        let c = typed.cells (record a { cell = a.cell + i }) f.0 (node_stands p packed fs vs s.tags own a t part i f.0 f.1) in
        (c.0, c.1);
  }

  -- so what is copied from a node to one with as many levels is copied at once, behind all turns
  pub node_copy : (fs : List (List Form)) (vs : List (List ℕ)) → ((o : ℕ) → slice_index_or fs o [] ≡ joined (forms p.types) (slice_index_or vs o []))
      → (s : State Store) → Typed p fs s.store → (to from : Address) (t u : DataTree) (n : ℕ) → IsNode p packed vs s.store.tags to t → IsNode p packed vs s.store.tags from u → tree_levels t ≡ tree_levels u → n ≤ tree_cells t → n ≤ tree_cells u → can_write to.area ≡ true
      → copy_cells n to from s ≡ copy_at_once n to from s
  node_copy fs vs own s typed to from t u n x y same few fit may =
      at_once n to from s.store (node_there fs vs own s.store typed to t n few x) (node_there fs vs own s.store typed from u n fit y) may (ahead_of p packed vs s.store.tags to from t u n x y same fit) s.out s.turns

  module _ (fine : types_fine p.types ≡ true) (vs : List (List ℕ)) (calls : Calls) (sound_calls : CallsSound p fine calls) (here : Here) (fs : List (List Form)) (tags : List ℕ)
      (frame : slice_index_or fs here.frame [] ≡ joined (forms p.types) (locals_of (procedure_of p here.procedure)))
      (args : AllTaken p fine fs tags (procedure_of p here.procedure).formals here.arguments)
      (own : slice_index_or vs here.frame [] ≡ locals_of (procedure_of p here.procedure))
      (handed : AllNodes p packed vs tags (procedure_of p here.procedure).formals here.arguments) where
    pub array_copies : (d e : Designator) → WellFormed.fine p here.procedure (CopyArray d e) ≡ true
        → Sound p fs tags (ArraysMeet p packed vs fine (element_kind (kind_in d))) (array_ends p packed vs fine here.procedure (designated p calls here d) (length_of_kind (kind_in d)) (designated p calls here e) (length_of_kind (kind_in e)))
    array_copies d e h =
        let element = element_kind (kind_in d) in
        let n = length_of_kind (kind_in d) in let m = length_of_kind (kind_in e) in
        let to = WellFormed.named p here.procedure d in let from = WellFormed.named p here.procedure e in
        let a = and_of (lengths_fit n m) (holds_of (WellFormed.may_copy p here.procedure element n) to && holds_of (WellFormed.array_of p element m) from) h in
        let b = and_of (holds_of (WellFormed.may_copy p here.procedure element n) to) (holds_of (WellFormed.array_of p element m) from) a.1 in
        c_array p packed vs fine here.procedure n m element to from b.0 b.1
        (t_named p fine calls sound_calls here fs tags frame args d) (b_named p packed fine vs calls sound_calls here fs tags frame args own handed d)
        (t_named p fine calls sound_calls here fs tags frame args e) (b_named p packed fine vs calls sound_calls here fs tags frame args own handed e)

    pub record_copies : (d e : Designator) → WellFormed.fine p here.procedure (CopyRecord d e) ≡ true
        → Sound p fs tags (RecordsMeet p packed vs fine (record_of_kind (kind_in d))) (record_ends p packed vs fine (designated p calls here d) (designated p calls here e))
    record_copies d e h =
        let r = record_of_kind (kind_in d) in
        let to = WellFormed.named p here.procedure d in let from = WellFormed.named p here.procedure e in
        let a = and_of (holds_of (λ t. is_writable t && WellFormed.has_record p r t) to) (holds_of (WellFormed.has_record p r) from) h in
        c_record p packed vs fine r to from a.0 a.1
        (t_named p fine calls sound_calls here fs tags frame args d) (b_named p packed fine vs calls sound_calls here fs tags frame args own handed d)
        (t_named p fine calls sound_calls here fs tags frame args e) (b_named p packed fine vs calls sound_calls here fs tags frame args own handed e)
