-- A copy in a well-formed procedure is one at once: both sides are named, all turns are spent, and then all cells are copied.
use Rattle.std.proofs.Common.{◌≡◌, ℕ, zero, suc, ◌*◌, List, [], Bool, true, false, Option, refl, sym, ap, ◌∙◌, arith}
use Rattle.std.specs.Prelude.{slice_index_or, nat_le}
use Rattle.run_laws.specs.Turns.{State, Ending, Gives, Fails, Spent, after, ◌>>=◌, give, spend, spend_of}
use Rattle.ob_types.specs.Layout.{record_cells}
use Rattle.ob_types.specs.Layout.{cells as cells_of}
use Rattle.ob_types.specs.Store.{Address, Store, Trap, Act, Handed, Span, Here, unless, place, span}
use Rattle.ob_types.specs.Expressions.{Calls}
use Rattle.ob_types.specs.Statements.{Deed, copy, copy_cells, copy_array, copy_record}
use Rattle.ob_types.specs.Meaning.{procedure_of, locals_of, kind_in, length_of_kind, element_kind, record_of_kind, designated}
use Rattle.ob_types.specs.declared.tree.Designator.{Designator}
use Rattle.ob_types.specs.declared.statements.Stmt.{CopyArray, CopyRecord}
use Rattle.ob_types.specs.declared.program.Program.{Program}
use Rattle.ob_types.specs.Forms.{Form, joined, types_fine, forms}
use Rattle.ob_types.specs.WellFormed
use Rattle.ob_sound.proofs.Typed.{Good, Typed, older_refl}
use Rattle.ob_sound.proofs.Handing.{AllTaken, CallsSound}
use Rattle.ob_types.specs.Trees.{Array, Record, tree_cells, data_tree, record_row}
use Rattle.object_nodes.specs.AtOnce.{copy_at_once, copy_array_at_once, copy_record_at_once}
use Rattle.object_nodes.specs.Named.{AllNodes}
use Rattle.object_nodes.proofs.Meeting.{times_below}
use Rattle.ob_types.proofs.DataTrees.{cells_are, record_cells_are}
use Rattle.object_nodes.proofs.Copies.{ArraysMeet, RecordsMeet, array_ends, record_ends}
use Rattle.object_nodes.proofs.Bodies.{node_copy, array_copies, record_copies}

-- what comes next may be put together with what comes before
assoc : {A B C : Type 0} (e : Ending Store Trap A) (f : A → Act B) (g : B → Act C) → after (after e f) g ≡ after e (λ a t. after (f a t) g)
assoc (Gives a t) f g = refl
assoc (Fails trap out) f g = refl
assoc (Spent out) f g = refl

each_same : {A B : Type 0} (e : Ending Store Trap A) (f g : A → Act B) → ((a : A) (t : State Store) → f a t ≡ g a t) → after e f ≡ after e g
each_same (Gives a t) f g h = h a t
each_same (Fails trap out) f g h = refl
each_same (Spent out) f g h = refl

unless_then : {A B : Type 0} (f k : ℕ) (b : Bool) (a : A) (g : A → Act B) (t : State Store) → after ((unless f k b >>= λ _. give a) t) g ≡ (unless f k b >>= λ _. g a) t
unless_then f k true a g t = refl
unless_then f k false a g t = refl

-- a turn, and then what is the same
turn_same : (n : ℕ) (t : State Store) (f g : Deed) → ((k : ℕ) → f (record t { turns = k }) ≡ g (record t { turns = k })) → after (spend_of n t) (λ u. f) ≡ after (spend_of n t) (λ u. g)
turn_same zero t f g h = refl
turn_same (suc n) t f g h = h n

module _ (p : Program) (packed : Bool) where
  -- the same behind a part that is sound
  good_same : {A B : Type 0} (fs : List (List Form)) (tags : List ℕ) (P : List ℕ → A → Type 0) (e : Ending Store Trap A) (f g : A → Act B) → Good p fs P tags e → ((a : A) (t : State Store) → Typed p fs t.store → P t.store.tags a → f a t ≡ g a t) → after e f ≡ after e g
  good_same fs tags P (Gives a t) f g h same = same a t h.0 h.2
  good_same fs tags P (Fails trap out) f g h same = refl
  good_same fs tags P (Spent out) f g h same = refl

  module _ (fine : types_fine p.types ≡ true) (vs : List (List ℕ)) where
    array_ends_then : (f : ℕ) (d : Act Handed) (n : Option ℕ) (e : Act Handed) (m : Option ℕ) (g : Span × Span → Deed) (s : State Store)
        → after (array_ends p packed vs fine f d n e m s) g ≡ (span d n >>= λ to. span e m >>= λ from. unless f 12 (nat_le from.length to.length) >>= λ _. g (to, from)) s
    unfolding array_ends
    array_ends_then f d n e m g s =
        assoc (span d n s) (λ to. span e m >>= λ from. unless f 12 (nat_le from.length to.length) >>= λ _. give (to, from)) g
        ∙ each_same (span d n s) (λ to t. after ((span e m >>= λ from. unless f 12 (nat_le from.length to.length) >>= λ _. give (to, from)) t) g) (λ to. span e m >>= λ from. unless f 12 (nat_le from.length to.length) >>= λ _. g (to, from)) (λ to t.
        assoc (span e m t) (λ from. unless f 12 (nat_le from.length to.length) >>= λ _. give (to, from)) g
        ∙ each_same (span e m t) (λ from u. after ((unless f 12 (nat_le from.length to.length) >>= λ _. give (to, from)) u) g) (λ from. unless f 12 (nat_le from.length to.length) >>= λ _. g (to, from)) (λ from u.
        unless_then f 12 (nat_le from.length to.length) (to, from) g u))

    record_ends_then : (d e : Act Handed) (g : Address × Address → Deed) (s : State Store) → after (record_ends p packed vs fine d e s) g ≡ (place d >>= λ to. place e >>= λ from. g (to, from)) s
    unfolding record_ends
    record_ends_then d e g s =
        assoc (place d s) (λ to. place e >>= λ from. give (to, from)) g
        ∙ each_same (place d s) (λ to t. after ((place e >>= λ from. give (to, from)) t) g) (λ to. place e >>= λ from. g (to, from)) (λ to t. assoc (place e t) (λ from. give (to, from)) g)

    module _ (calls : Calls) (sound_calls : CallsSound p fine calls) (here : Here) (fs : List (List Form)) (s : State Store) (typed : Typed p fs s.store)
        (stand : (o : ℕ) → slice_index_or fs o [] ≡ joined (forms p.types) (slice_index_or vs o []))
        (frame : slice_index_or fs here.frame [] ≡ joined (forms p.types) (locals_of (procedure_of p here.procedure)))
        (args : AllTaken p fine fs s.store.tags (procedure_of p here.procedure).formals here.arguments)
        (own : slice_index_or vs here.frame [] ≡ locals_of (procedure_of p here.procedure))
        (handed : AllNodes p packed vs s.store.tags (procedure_of p here.procedure).formals here.arguments) where
      pub array_at_once : (d e : Designator) → WellFormed.fine p here.procedure (CopyArray d e) ≡ true
          → copy_array here.procedure (designated p calls here d) (length_of_kind (kind_in d)) (designated p calls here e) (length_of_kind (kind_in e)) (cells_of p.types (element_kind (kind_in d))) s
          ≡ copy_array_at_once here.procedure (designated p calls here d) (length_of_kind (kind_in d)) (designated p calls here e) (length_of_kind (kind_in e)) (cells_of p.types (element_kind (kind_in d))) s
      array_at_once d e h =
          let f = here.procedure in let x = designated p calls here d in let y = designated p calls here e in
          let n = length_of_kind (kind_in d) in let m = length_of_kind (kind_in e) in let k = element_kind (kind_in d) in
          let slow : Span × Span → Deed = (λ z. copy (z.1.length * cells_of p.types k) z.0.at z.1.at) in
          let fast : Span × Span → Deed = (λ z. spend >>= λ _. copy_at_once (z.1.length * cells_of p.types k) z.0.at z.1.at) in
          sym (array_ends_then f x n y m slow s)
          ∙ good_same fs s.store.tags (ArraysMeet p packed vs fine k) (array_ends p packed vs fine f x n y m s) slow fast ((array_copies p packed fine vs calls sound_calls here fs s.store.tags frame args own handed d e h).by s (older_refl s.store.tags) typed)
          (λ z t ok meet. turn_same t.turns t (copy_cells (z.1.length * cells_of p.types k) z.0.at z.1.at) (copy_at_once (z.1.length * cells_of p.types k) z.0.at z.1.at) (λ j.
          let c = ap (λ c. z.1.length * c) (cells_are p.types k) in
          let b = times_below (tree_cells (data_tree p.types k)) z.1.length z.0.length meet.2 in
          node_copy p packed fs vs stand (record t { turns = j }) ok z.0.at z.1.at (Array z.0.length (data_tree p.types k)) (Array z.1.length (data_tree p.types k)) (z.1.length * cells_of p.types k) meet.0 meet.1 refl (omega (arith, c, b)) (omega (arith, c)) meet.3))
          ∙ array_ends_then f x n y m fast s

      pub record_at_once : (d e : Designator) → WellFormed.fine p here.procedure (CopyRecord d e) ≡ true
          → copy_record (designated p calls here d) (designated p calls here e) (record_cells p.types (record_of_kind (kind_in d))) s
          ≡ copy_record_at_once (designated p calls here d) (designated p calls here e) (record_cells p.types (record_of_kind (kind_in d))) s
      record_at_once d e h =
          let x = designated p calls here d in let y = designated p calls here e in let r = record_of_kind (kind_in d) in
          let slow : Address × Address → Deed = (λ z. copy (record_cells p.types r) z.0 z.1) in
          let fast : Address × Address → Deed = (λ z. spend >>= λ _. copy_at_once (record_cells p.types r) z.0 z.1) in
          sym (record_ends_then x y slow s)
          ∙ good_same fs s.store.tags (RecordsMeet p packed vs fine r) (record_ends p packed vs fine x y s) slow fast ((record_copies p packed fine vs calls sound_calls here fs s.store.tags frame args own handed d e h).by s (older_refl s.store.tags) typed)
          (λ z t ok meet. turn_same t.turns t (copy_cells (record_cells p.types r) z.0 z.1) (copy_at_once (record_cells p.types r) z.0 z.1) (λ j.
          let c = record_cells_are p.types r in
          node_copy p packed fs vs stand (record t { turns = j }) ok z.0 z.1 (Record (record_row p.types r)) (Record (record_row p.types r)) (record_cells p.types r) meet.0 meet.1 refl (omega (arith, c)) (omega (arith, c)) meet.2))
          ∙ record_ends_then x y fast s
