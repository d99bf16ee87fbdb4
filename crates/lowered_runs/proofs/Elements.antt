-- Elements of arrays.
use Rattle.std.proofs.Common.{◌≡◌, ℕ, zero, suc, ◌+◌, ◌*◌, ◌%◌, ◌^◌, ◌<◌, ◌≤◌, ◌⊎◌, List, [], ◌∷◌, Bool, true, false, inl, inr, refl, sym, ap, ap₂, ◌∙◌, subst, arith, Option, Some, None}
use Rattle.std.specs.Prelude.{if◌then◌else◌, nat_lt}
use Rattle.std.proofs.lemmas.Bool.Decides.{nat_tests}
use Rattle.run_laws.specs.Turns.{Ending, Gives, Fails, Spent, after, ◌>>=◌, give}
use Rattle.run_laws.specs.Turns.{State as Moment}
use Rattle.a64_memory.specs.Memory.{Area}
use Rattle.wrapping_numbers.specs.Numbers.{add64, madd64}
use Rattle.block_runs.specs.declared.code.Code.TheVariants.{Const, Plus, Load, MulAdd, Below}
use Rattle.block_runs.specs.Steps.{set}
use Rattle.block_runs.specs.Effects.{Gives as Yields, Fails as Refuses}
use Rattle.ob_types.specs.Store.{Cell, Bits, Senseless, Heap, Address, Handed, Sized, Tagged, Value, Act, Trap, Span, given, address_in, span_in, span, past, bits, unless}
use Rattle.ob_types.specs.Store.{Store as Objects, At as Addressed}
use Rattle.ob_types.specs.Operators.{inside}
use Rattle.ob_types.specs.Expressions.{element_place, field_of, length_of}
use Rattle.ob_types.specs.Trees.{DataTree, Array, tree_cells, tree_bytes, data_tree}
use Rattle.ob_types.specs.WellFormed.{OpenOf}
use Rattle.ob_types.specs.WellFormed.{Named as Thing}
use Rattle.ssa_lowered.specs.Pieces.{Low, Mask, emits, does}
use Rattle.ssa_lowered.specs.Pieces.{◌>>=◌ as ◌>>>◌, give as gives}
use Rattle.ssa_lowered.specs.Values.{Named, At, Beside, Object, const, element, field, length_in, past as lower_past, length_of as lower_length, address_in as lower_address}
use Rattle.ssa_lowered.specs.Values.{Held as InRegister}
use Rattle.object_nodes.specs.Nodes.{Node}
use Rattle.object_nodes.proofs.Meeting.{node_self, node_bytes, variable_node}
use Rattle.held_stores.specs.Places.{trees}
use Rattle.lowered_runs.specs.Words.{Whole, Level, ground, active, Held, AddressIs}
use Rattle.lowered_runs.proofs.Stores.{address_later, address_few, object_below}
use Rattle.lowered_runs.proofs.Values.{put_here}
use Rattle.lowered_runs.proofs.Follows.{Fact, And as Both, Steady, steady_and, Grows, grows_bind, grows_give, grows_emits, grows_does, Follows, follows_bind, follows_give, follows_then, follows_known, follows_emits, follows_does, follows_seen, follows_never, acts_give, acts_trap, acts_senseless, effect_at, Acts}
use Rattle.lowered_runs.proofs.Exprs.{CellIs, NumberIs, steady_number, follows_bits}
use Rattle.lowered_runs.proofs.Numbers.{inside_same}
use Rattle.lowered_runs.proofs.Sets.{follows_same}
use Rattle.lowered_runs.proofs.Forks.{after_after}
use Rattle.lowered_runs.proofs.Designators.{tree_of, object_tree, is_single, NamedIs, SecondFits, DesignatorIs, steady_designator, grows_address, RowIs, object_row, follows_address}

-- the bytes of an element are among those of its array
pub under : (n b i : ℕ) → i < n → i * b + b ≤ n * b
under zero b i lt = absurd (omega (arith, lt))
under (suc n) b zero lt = grind (arith)
under (suc n) b (suc i) lt = let h = under n b i (omega (arith, lt)) in let e = next n b in let f = next i b in omega (arith, h, e, f)
  where
    next : (n b : ℕ) → suc n * b ≡ b + n * b
    next n b = grind (arith)

module _ (w : Whole) (l : Level) where
  -- a number that was made
  abbrev pub ConstIs : ℕ → ℕ → Fact
  ConstIs x i n f s = (i < n) × (f i ≡ x)

  pub steady_const : (x i : ℕ) → Steady w l (ConstIs x i)
  steady_const x i = record { by = λ n m f g s t le same later h. let lt = h.0 in (omega (arith, le, lt), same i h.0 ∙ h.1) }

  pub follows_const : {need fuel : ℕ} {mask : Mask} {K : Fact} (x : ℕ) → Follows w l need fuel mask K (λ (u : Unit {0}) i. ConstIs x i) (give tt) (const x)
  follows_const x = follows_emits w l (Const x) [] (λ n f m s held known. acts_give w l tt x held refl refl (omega arith, put_here n x f))

  abbrev Less : ℕ → ℕ → Fact
  Less a b n f s = a < b

  steady_less : (a b : ℕ) → Steady w l (Less a b)
  steady_less a b = record { by = λ n m f g s t le same later h. h }

  -- the test of an index
  follows_below : {need fuel : ℕ} {mask : Mask} {K : Fact} (a i n j : ℕ) → n < 2 ^ 63 → Follows w l need fuel mask (Both (Both K (NumberIs w l a i)) (ConstIs n j)) (λ (u v : Unit {0}). Less a n) (unless l.proc 1 (inside a n)) (does Below (i ∷ j ∷ []))
  follows_below {K = K} a i n j few = follows_does w l Below (i ∷ j ∷ []) (λ v f m s held known.
      by v f m s held (ap₂ (λ x y. if nat_lt x y then Yields 0 else Refuses 1) known.0.1.1.0 known.1.1) (inside_same a n known.0.1.1.1 few) (nat_lt a n) refl)
    where
      less : (a b : ℕ) → nat_lt a b ≡ true → a < b
      less a b h = grind (arith, nat_tests)

      by : (v : ℕ) (f : ℕ → ℕ) (m : List Area) (s : Moment Objects) → Held w l s.store m → effect_at w l f m s.store Below (i ∷ j ∷ []) ≡ (if nat_lt a n then Yields 0 else Refuses 1) → nat_lt a n ≡ inside a n → (b : Bool) → nat_lt a n ≡ b
          → Acts w l (λ (u : Unit {0}) x t. a < n) (unless l.proc 1 (inside a n) s) s m (effect_at w l f m s.store Below (i ∷ j ∷ []))
      by v f m s held e same true is = acts_give w l tt 0 held (ap (λ b. unless l.proc 1 b s) (sym same ∙ is)) (e ∙ ap (λ b. if b then Yields 0 else Refuses 1) is) (less a n is)
      by v f m s held e same false is = acts_trap w l 1 (ap (λ b. unless l.proc 1 b s) (sym same ∙ is)) (e ∙ ap (λ b. if b then Yields 0 else Refuses 1) is)

  -- a part of what stands at an address, so many cells and bytes on
  pub part_at : (a : Address) (t u : DataTree) (c o x y : ℕ) (s : Objects) → Node w.packed t c o u → AddressIs w l a t x s → y ≡ x + o → AddressIs w l (past a c) u y s
  part_at a t u c o x y s node at is = record {
    variable = at.variable;
    byte = at.byte + o;
    from = at.from;
    node = variable_node w.packed (trees (ground w) (active l) s.tags a.area a.object) at.variable a.cell at.byte t c o u (a.cell + c) at.node node refl;
    begins = at.begins;
    is = let e = at.is in omega (arith, e, is);
  }

  -- an element
  pub element_node : (n i : ℕ) (e : DataTree) → i < n → Node w.packed (Array n e) (i * tree_cells e) (i * tree_bytes w.packed e) e
  element_node n i e lt = inr (i, 0, 0, lt, node_self w.packed e, omega arith, omega arith)

  part_is : (a : Address) (n : ℕ) (e : DataTree) (c size i x y : ℕ) (s : Objects) → c ≡ tree_cells e → size ≡ tree_bytes w.packed e → i < n → x + n * tree_bytes w.packed e < 2 ^ 63 → AddressIs w l a (Array n e) x s → y ≡ madd64 i size x → AddressIs w l (past a (i * c)) e y s
  part_is a n e c size i x y s cells bytes lt few at is =
      let inside = under n (tree_bytes w.packed e) i lt in
      let same = ap (λ b. i * b) bytes in
      part_at a (Array n e) e (i * c) (i * tree_bytes w.packed e) x y s
      (subst (λ k. Node w.packed (Array n e) (i * k) (i * tree_bytes w.packed e) e) (sym cells) (element_node n i e lt)) at
      (by x y (i * size) (i * tree_bytes w.packed e) (n * tree_bytes w.packed e) (tree_bytes w.packed e) is same inside few)
    where
      by : (x y k o all b : ℕ) → y ≡ (x + k % 2 ^ 64) % 2 ^ 64 → k ≡ o → o + b ≤ all → x + all < 2 ^ 63 → y ≡ x + o
      by x y k o all b e f g h = omega (arith, e, f, g, h)

  ---- Arrays with their lengths

  -- the length of an array is its type's, or stands in a parameter's second word
  abbrev pub LengthIn : Option ℕ → ℕ → Named → Fact
  LengthIn (Some m) k v n f s = k ≡ m
  LengthIn None k (Beside i j) n f s = (j < n) × (f j ≡ k)
  LengthIn None k _ n f s = ⊥

  pub steady_length : (o : Option ℕ) (k : ℕ) (v : Named) → Steady w l (LengthIn o k v)
  steady_length (Some m) k v = record { by = λ n u f g s t le same later h. h }
  steady_length None k (Beside i j) = record { by = λ n u f g s t le same later h. let lt = h.0 in (omega (arith, le, lt), same j h.0 ∙ h.1) }
  steady_length None k (At i) = record { by = λ n u f g s t le same later h. h }
  steady_length None k (Object i) = record { by = λ n u f g s t le same later h. h }
  steady_length None k (InRegister x) = record { by = λ n u f g s t le same later h. h }

  -- value i is the address of an array of elements with a tree, which is named so
  abbrev pub SpanIs : Option ℕ → DataTree → Named → Span → ℕ → Fact
  SpanIs o e v a i n f s = (i < n) × AddressIs w l a.at (Array a.length e) (f i) s × (a.length < 2 ^ 32) × LengthIn o a.length v n f s

  pub steady_span : (o : Option ℕ) (e : DataTree) (v : Named) (a : Span) (i : ℕ) → Steady w l (SpanIs o e v a i)
  steady_span o e v a i = record {
    by = λ n u f g s t le same later h.
        let lt = h.0 in (
          omega (arith, le, lt),
          subst (λ x. AddressIs w l a.at (Array a.length e) x t) (sym (same i h.0)) (address_later w l a.at (Array a.length e) (f i) s t later h.1),
          h.2,
          (steady_length o a.length v).by n u f g s t le same later h.3,
        );
  }

  -- an array that was named, with its length
  abbrev pub span_by : Option ℕ → Handed → Act Span
  span_by None h = given (span_in h)
  span_by (Some n) h = given (address_in h) >>= λ a. give (record { at = a; length = n })

  pub spanned_same : {C : Type 0} (d : Act Handed) (o : Option ℕ) (go : Span → Act C) (s : Moment Objects) → (d >>= λ h. span_by o h >>= go) s ≡ (span d o >>= go) s
  spanned_same d None go s = sym (after_after (d s) (λ h. given (span_in h)) go)
  spanned_same d (Some n) go s =
      sym (after_after (d s) (λ h. span_by (Some n) h) go)
      ∙ ap (λ e. after e go) (sym (after_after (d s) (λ h. given (address_in h)) (λ a. give (record { at = a; length = n }))))

  -- one of known length
  pub follows_known_span : {need fuel : ℕ} {mask : Mask} {K : Fact} (own : Mask) (d : Thing) (h : Handed) (v : Named) (n : ℕ) (e : DataTree) → Steady w l K → tree_of w l d h ≡ Array n e → is_single w l d ≡ false → n < 2 ^ 32
      → Follows w l need fuel mask (Both K (DesignatorIs w l own d h v)) (SpanIs (Some n) e v) (span_by (Some n) h) (lower_address v 0)
  follows_known_span {K = K} own d h v n e steady whole many few = follows_then w l {h = λ a. give (record { at = a; length = n })} (steady_and w l steady (steady_designator w l own d h v))
      (follows_known w l {K = Both K (NamedIs w l own d h v)} (λ m f s k. (k.0, k.1.0)) (follows_address w l own d h v (inl many)))
      (λ a i m f s known at. inl (record { at = a; length = n }, refl, (at.0, subst (λ t. AddressIs w l a t (f i) s.store) whole at.1, few, refl)))

  -- an open array: an address without a length makes no sense
  pub follows_open_span : {need fuel : ℕ} {mask : Mask} {K : Fact} (own : Mask) (e : ℕ) (may : Bool) (h : Handed) (v : Named)
      → Follows w l need fuel mask (Both K (DesignatorIs w l own (OpenOf e may) h v)) (SpanIs None (data_tree w.program.types e) v) (span_by None h) (lower_address v 0)
  follows_open_span own e may h (At i) = follows_seen w l i (λ n f s m held typed known. absurd (no_length h known.1.0.1.0 known.1.0.1.1 known.1.1))
    where
      no_length : (h : Handed) (a : Address) → h ≡ Addressed a → SecondFits w l (OpenOf e may) h → ⊥
      no_length h a is fits = subst (λ x. SecondFits w l (OpenOf e may) x) is fits
  follows_open_span own e may h (Beside i j) = follows_seen w l i (λ n f s m held typed known. by h n f s known.1)
    where
      same : (a b : Address) → Some a ≡ Some b → b ≡ a
      same a b e = cc

      by : (h : Handed) (n : ℕ) (f : ℕ → ℕ) (s : Moment Objects) → DesignatorIs w l own (OpenOf e may) h (Beside i j) n f s.store → ((a : Span) × (span_by None h s ≡ Gives a s) × SpanIs None (data_tree w.program.types e) (Beside i j) a i n f s.store) ⊎ (span_by None h s ≡ Fails Senseless s.out)
      by (Sized a k) n f s g = inl (
        record { at = a; length = k },
        refl,
        (
          g.0.0,
          subst (λ b. AddressIs w l b (Array k (data_tree w.program.types e)) (f i) s.store) (same a g.0.1.1.0 g.0.1.1.1) g.0.1.1.2,
          g.1,
          (g.0.1.0, g.0.1.1.3),
        ),
      )
      by (Addressed a) n f s g = inr refl
      by (Tagged a t) n f s g = inr refl
      by (Value c) n f s g = inr refl
  follows_open_span own e may h (Object i) = follows_emits w l (Plus (8 + 0)) (i ∷ []) (λ n f m s held known. acts_senseless w l (ap (λ x. given (span_in x) s) known.1.0.1.2))
  follows_open_span own e may h (InRegister x) = follows_never w l (λ n f s g. differ g.1.0.4) (grows_address w l (InRegister x) 0)
    where
      differ : false ≡ true → ⊥
      differ e = cc

  -- its length as a number
  pub follows_length_in : {need fuel : ℕ} {mask : Mask} {K : Fact} (o : Option ℕ) (k : ℕ) (v : Named) → Follows w l need fuel mask (Both K (LengthIn o k v)) (λ (u : Unit {0}) i. ConstIs k i) (give tt) (length_in o v)
  follows_length_in (Some m) k v = follows_emits w l (Const m) [] (λ n f memory s held known. acts_give w l tt m held refl refl (omega arith, put_here n m f ∙ sym known.1))
  follows_length_in None k (Beside i j) = follows_seen w l j (λ n f s m held typed known. inl (tt, refl, known.1))
  follows_length_in None k (At i) = follows_never w l (λ n f s g. g.1) (grows_emits w l (Const 0) [])
  follows_length_in None k (Object i) = follows_never w l (λ n f s g. g.1) (grows_emits w l Load (i ∷ []))
  follows_length_in None k (InRegister x) = follows_never w l (λ n f s g. g.1) (grows_emits w l (Const 0) [])

  pub grows_length_in : (o : Option ℕ) (v : Named) → Grows w l (length_in o v)
  grows_length_in (Some m) v = grows_emits w l (Const m) []
  grows_length_in None (Beside i j) = grows_give w l j
  grows_length_in None (At i) = grows_emits w l (Const 0) []
  grows_length_in None (Object i) = grows_emits w l Load (i ∷ [])
  grows_length_in None (InRegister x) = grows_emits w l (Const 0) []

  ---- Elements

  module _ (o : Option ℕ) (e : DataTree) (c size : ℕ) (cells_are : c ≡ tree_cells e) (bytes_are : size ≡ tree_bytes w.packed e) (x : Act Cell) (t : Low ℕ) where
    abbrev indexed : Span → Act Handed
    indexed a = bits x >>= λ k. unless l.proc 1 (inside k a.length) >>= λ _. give (Addressed (past a.at (k * c)))

    abbrev placed_at : ℕ → ℕ → Low Named
    placed_at i j = const size >>> λ b. emits MulAdd (j ∷ b ∷ i ∷ []) >>> λ y. gives (At y)

    abbrev tested_at : ℕ → ℕ → ℕ → Low Named
    tested_at i j z = does Below (j ∷ z ∷ []) >>> λ _. placed_at i j

    abbrev indexed_at : Named → ℕ → Low Named
    indexed_at v i = t >>> λ j. length_in o v >>> λ z. tested_at i j z

    grows_placed : (i j : ℕ) → Grows w l (placed_at i j)
    grows_placed i j = grows_bind w l (grows_emits w l (Const size) []) (λ b. grows_bind w l (grows_emits w l MulAdd (j ∷ b ∷ i ∷ [])) (λ y. grows_give w l (At y)))

    grows_tested : (i j z : ℕ) → Grows w l (tested_at i j z)
    grows_tested i j z = grows_bind w l (grows_does w l Below (j ∷ z ∷ [])) (λ u. grows_placed i j)

    grows_behind : (v : Named) (i j : ℕ) → Grows w l (length_in o v >>> λ z. tested_at i j z)
    grows_behind v i j = grows_bind w l (grows_length_in o v) (λ z. grows_tested i j z)

    grows_indexed : Grows w l t → (v : Named) (i : ℕ) → Grows w l (indexed_at v i)
    grows_indexed two v i = grows_bind w l two (λ j. grows_behind v i j)

    -- the element's address, where the index is tested
    follows_placed : {need fuel : ℕ} {mask : Mask} {K : Fact} (other : Mask) (d : Thing) (v : Named) (a : Span) (i k j : ℕ) → Steady w l K → ((b : Address) → tree_of w l d (Addressed b) ≡ e)
        → Follows w l need fuel mask (Both (Both (Both K (SpanIs o e v a i)) (NumberIs w l k j)) (Less k a.length)) (NamedIs w l other d) (give (Addressed (past a.at (k * c)))) (placed_at i j)
    follows_placed {K = K} other d v a i k j steady short =
        let known = steady_and w l (steady_and w l (steady_and w l steady (steady_span o e v a i)) (steady_number w l k j)) (steady_less k a.length) in
        follows_bind w l {m = give tt} {h = λ (u : Unit {0}). give (Addressed (past a.at (k * c)))} known (follows_const size) (λ b. grows_bind w l (grows_emits w l MulAdd (j ∷ b ∷ i ∷ [])) (λ y. grows_give w l (At y)))
        (λ u b. follows_bind w l {m = give tt} {h = λ (u : Unit {0}). give (Addressed (past a.at (k * c)))} (steady_and w l known (steady_const size b))
        (follows_emits w l {R = λ (u : Unit {0}) y. RowIs w l e (past a.at (k * c)) y} MulAdd (j ∷ b ∷ i ∷ []) (λ n f m s held g. acts_give w l tt (madd64 (f j) (f b) (f i)) held refl refl (
          omega arith,
          part_is a.at a.length e c size k (f i) (set_at n f (madd64 (f j) (f b) (f i))) s.store cells_are bytes_are g.0.1 (address_few w l s.store m a.at (Array a.length e) (f i) held g.0.0.0.1.1) g.0.0.0.1.1
              (put_here n (madd64 (f j) (f b) (f i)) f ∙ ap₂ (λ x y. madd64 x y (f i)) g.0.0.1.1.0 g.1.1),
        )))
        (λ y. grows_give w l (At y))
        (λ u y. follows_give w l (Addressed (past a.at (k * c))) (At y) (λ n f s g. (g.1.0, (past a.at (k * c), refl, subst (λ t. AddressIs w l (past a.at (k * c)) t (f y) s) (sym (short (past a.at (k * c)))) g.1.1)))))
      where
        set_at : ℕ → (ℕ → ℕ) → ℕ → ℕ
        set_at v f x = set f v x v

    follows_indexed : {need fuel : ℕ} {mask : Mask} {K : Fact} (other : Mask) (d : Thing) (v : Named) (a : Span) (i : ℕ) → Steady w l K → ((b : Address) → tree_of w l d (Addressed b) ≡ e) → a.length < 2 ^ 32 → Follows w l need fuel mask K (CellIs w l) x t
        → Follows w l need fuel mask (Both K (SpanIs o e v a i)) (NamedIs w l other d) (indexed a) (indexed_at v i)
    follows_indexed {K = K} other d v a i steady short few two =
        let known = steady_and w l steady (steady_span o e v a i) in
        follows_bind w l known (follows_known w l (λ n f s k. k.0) (follows_bits w l steady two)) (λ j. grows_behind v i j)
        (λ k j. follows_bind w l {m = give tt} {h = λ (u : Unit {0}). unless l.proc 1 (inside k a.length) >>= λ _. give (Addressed (past a.at (k * c)))} (steady_and w l known (steady_number w l k j))
        (follows_known w l {K = Both K (LengthIn o a.length v)} (λ n f s g. (g.0.0, g.0.1.3)) (follows_length_in o a.length v)) (λ z. grows_tested i j z)
        (λ u z. follows_bind w l (steady_and w l (steady_and w l known (steady_number w l k j)) (steady_const a.length z)) (follows_below k j a.length z (omega (arith, few))) (λ u. grows_placed i j)
        (λ u y. follows_known w l (λ n f s g. (g.0.0, g.1)) (follows_placed other d v a i k j steady short))))

    pub follows_element_place : {need fuel : ℕ} {mask : Mask} {K : Fact} {A : Handed → Named → Fact} {q : Low Named} (other : Mask) (d : Thing) (place_of : Act Handed) → Steady w l K → ((h : Handed) (v : Named) → Steady w l (A h v)) → ((b : Address) → tree_of w l d (Addressed b) ≡ e)
        → ((h : Handed) (v : Named) → Follows w l need fuel mask (Both K (A h v)) (SpanIs o e v) (span_by o h) (lower_address v 0)) → Follows w l need fuel mask K A place_of q → Follows w l need fuel mask K (CellIs w l) x t → Follows w l need fuel mask K (NamedIs w l other d) (element_place l.proc place_of o c x) (element q o size t)
    follows_element_place {need} {fuel} {mask} {K} {A} other d place_of steady steady_array short spans one two =
        follows_same w l (place_of >>= λ h. span_by o h >>= indexed) (element_place l.proc place_of o c x) (spanned_same place_of o indexed)
        (follows_bind w l steady one (λ v. grows_bind w l (grows_address w l v 0) (λ i. grows_indexed two.grows v i))
        (λ h v. follows_bind w l (steady_and w l steady (steady_array h v)) (spans h v) (λ i. grows_indexed two.grows v i) (λ a i. behind_span h v a i)))
      where
        behind_span : (h : Handed) (v : Named) (a : Span) (i : ℕ) → Follows w l need fuel mask (Both (Both K (A h v)) (SpanIs o e v a i)) (NamedIs w l other d) (indexed a) (indexed_at v i)
        behind_span h v a i = record {
          grows = grows_indexed two.grows v i;
          by = λ most g at f s room free le needs few stands fits within known typed r.
              (follows_indexed other d v a i (steady_and w l steady (steady_array h v)) short known.1.2 (follows_known w l (λ n f s k. k.0) two)).by most g at f s room free le needs few stands fits within known typed r;
        }

  ---- Fields

  -- an address that is known
  abbrev Placed : DataTree → Handed → ℕ → Fact
  Placed t h i n f s = (i < n) × ((a : Address) × (address_in h ≡ Some a) × AddressIs w l a t (f i) s)

  abbrev placed_past : ℕ → Handed → Act Address
  placed_past m h = given (address_in h) >>= λ a. give (past a m)

  follows_past : {need fuel : ℕ} {mask : Mask} {K : Fact} (h : Handed) (i m x : ℕ) (t u : DataTree) → Node w.packed t m x u → Follows w l need fuel mask (Both K (Placed t h i)) (RowIs w l u) (placed_past m h) (lower_past i x)
  follows_past h i m zero t u node = follows_seen w l i (λ n f s held_in held typed g.
      let at = g.1.1 in
      inl (past at.0 m, ap (λ o. after (given o s) (λ a. give (past a m))) at.1, (g.1.0, part_at at.0 t u m 0 (f i) (f i) s.store node at.2 (omega arith))))
  follows_past h i m (suc x) t u node = follows_emits w l (Plus (suc x)) (i ∷ []) (λ n f held_in s held g.
      let at = g.1.1 in
      let few = address_few w l s.store held_in at.0 t (f i) held at.2 in
      let fits = node_bytes w.packed t m (suc x) u node in
      acts_give w l (past at.0 m) (add64 (f i) (suc x)) held (ap (λ o. after (given o s) (λ a. give (past a m))) at.1) refl
      (omega arith, part_at at.0 t u m (suc x) (f i) (set_at n f (add64 (f i) (suc x))) s.store node at.2 (put_here n (add64 (f i) (suc x)) f ∙ omega (arith, few, fits))))
    where
      set_at : ℕ → (ℕ → ℕ) → ℕ → ℕ
      set_at v f x = set f v x v

  follows_field_at : {need fuel : ℕ} {mask : Mask} {K : Fact} (own : Mask) (d : Thing) (h : Handed) (v : Named) (m x : ℕ) (u : DataTree) → Node w.packed (tree_of w l d h) m x u → is_single w l d ≡ false → Follows w l need fuel mask (Both K (NamedIs w l own d h v)) (RowIs w l u) (placed_past m h) (lower_address v x)
  follows_field_at own d h (At i) m x u node many = follows_known w l (λ n f s k. (k.0, (k.1.0, (k.1.1.0, ap address_in k.1.1.1, k.1.1.2)))) (follows_past h i m x (tree_of w l d h) u node)
  follows_field_at own d h (Beside i j) m x u node many = follows_known w l (λ n f s k. (k.0, (k.1.0, (k.1.1.1.0, k.1.1.1.1, k.1.1.1.2)))) (follows_past h i m x (tree_of w l d h) u node)
  follows_field_at own d h (Object i) m x u node many = follows_emits w l (Plus (8 + x)) (i ∷ []) (λ n f held_in s held g.
      let z = g.1.1 in
      let a : Address = record { area = Heap; object = z.0; cell = 0 } in
      let row = subst (λ t. AddressIs w l a t (add64 (f i) 8) s.store) (object_tree w l d h z.0 z.1 z.2 z.5) (object_row w l s.store held_in z.0 z.1 (f i) held z.3 z.4) in
      let few = address_few w l s.store held_in a (tree_of w l d h) (add64 (f i) 8) held row in
      let low = object_below w l s.store held_in z.0 (f i) held z.4 in
      let fits = node_bytes w.packed (tree_of w l d h) m x u node in
      acts_give w l (past a m) (add64 (f i) (8 + x)) held (ap (λ x. after (given (address_in x) s) (λ a. give (past a m))) z.2) refl
      (omega arith, part_at a (tree_of w l d h) u m x (add64 (f i) 8) (set_at n f (add64 (f i) (8 + x))) s.store node row (put_here n (add64 (f i) (8 + x)) f ∙ omega (arith, few, fits, low))))
    where
      set_at : ℕ → (ℕ → ℕ) → ℕ → ℕ
      set_at v f x = set f v x v
  follows_field_at own d h (InRegister x) m o u node many = follows_never w l (λ n f s g. differ (sym g.1.4 ∙ many)) (grows_address w l (InRegister x) o)
    where
      differ : true ≡ false → ⊥
      differ e = cc

  pub follows_field_place : {need fuel : ℕ} {mask : Mask} {K : Fact} {q : Low Named} (own other : Mask) (d : Thing) (e : Thing) (place_of : Act Handed) (m x : ℕ) (u : DataTree) → Steady w l K → ((h : Handed) → SecondFits w l d h → Node w.packed (tree_of w l d h) m x u) → is_single w l d ≡ false → ((a : Address) → tree_of w l e (Addressed a) ≡ u)
      → Follows w l need fuel mask K (DesignatorIs w l own d) place_of q → Follows w l need fuel mask K (NamedIs w l other e) (field_of place_of m) (field q x)
  follows_field_place {need} {fuel} {mask} {K} {q} own other d e place_of m x u steady part many short one =
      follows_same w l (place_of >>= λ h. placed_past m h >>= λ a. give (Addressed a)) (field_of place_of m) (λ s. regroup (place_of s))
      (follows_bind w l steady one (λ v. grows_bind w l (grows_address w l v x) (λ i. grows_give w l (At i)))
      (λ h v. follows_bind w l (steady_and w l steady (steady_designator w l own d h v)) (field_at h v) (λ i. grows_give w l (At i))
      (λ a i. follows_give w l (Addressed a) (At i) (λ n f s g. (g.1.0, (a, refl, subst (λ t. AddressIs w l a t (f i) s) (sym (short a)) g.1.1))))))
    where
      field_at : (h : Handed) (v : Named) → Follows w l need fuel mask (Both K (DesignatorIs w l own d h v)) (RowIs w l u) (placed_past m h) (lower_address v x)
      field_at h v = record {
        grows = grows_address w l v x;
        by = λ most g b f s room free le needs few stands fits within known typed r.
            (follows_field_at {K = K} own d h v m x u (part h known.1.1) many).by most g b f s room free le needs few stands fits within (known.0, known.1.0) typed r;
      }

      regroup : (e : Ending Objects Trap Handed) → after e (λ h. placed_past m h >>= λ a. give (Addressed a)) ≡ after (after e (λ h. given (address_in h))) (λ a. give (Addressed (past a m)))
      regroup (Gives h s) = by (address_in h)
        where
          by : (o : Option Address) → after (after (given o s) (λ a. give (past a m))) (λ a. give (Addressed a)) ≡ after (given o s) (λ a. give (Addressed (past a m)))
          by None = refl
          by (Some a) = refl
      regroup (Fails trap out) = refl
      regroup (Spent out) = refl

  ---- Lengths

  pub follows_length : {need fuel : ℕ} {mask : Mask} {K : Fact} {A : Handed → Named → Fact} {q : Low Named} (o : Option ℕ) (e : DataTree) (place_of : Act Handed) → Steady w l K → ((h : Handed) (v : Named) → Steady w l (A h v))
      → ((h : Handed) (v : Named) → Follows w l need fuel mask (Both K (A h v)) (SpanIs o e v) (span_by o h) (lower_address v 0)) → Follows w l need fuel mask K A place_of q → Follows w l need fuel mask K (CellIs w l) (length_of place_of o) (lower_length q o)
  follows_length {need} {fuel} {mask} {K} {A} o e place_of steady steady_array spans one =
      follows_same w l (place_of >>= λ h. span_by o h >>= λ a. give (Bits a.length)) (length_of place_of o) (spanned_same place_of o (λ a. give (Bits a.length)))
      (follows_bind w l steady one (λ v. grows_bind w l (grows_address w l v 0) (λ i. grows_length_in o v))
      (λ h v. follows_bind w l (steady_and w l steady (steady_array h v)) (spans h v) (λ i. grows_length_in o v)
      (λ a i. let known = steady_and w l (steady_and w l steady (steady_array h v)) (steady_span o e v a i) in
      follows_then w l {m = give tt} {h = λ (u : Unit {0}). give (Bits a.length)} known (follows_known w l {K = Both K (LengthIn o a.length v)} (λ n f s g. (g.0.0, g.1.3)) (follows_length_in o a.length v))
      (λ u z n f s g at. let few = g.1.2 in inl (Bits a.length, refl, (at.0, (at.1, omega (arith, few))))))))
