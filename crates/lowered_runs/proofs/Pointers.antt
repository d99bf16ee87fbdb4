-- Objects of the heap: what pointers lead to, and NEW.
use Rattle.std.proofs.Common.{◌≡◌, ◌≢◌, ℕ, zero, suc, ◌+◌, ◌-◌, ◌*◌, ◌^◌, ◌<◌, ◌≤◌, ◌⊎◌, List, [], ◌∷◌, ◌++◌, length, Bool, true, false, cond, not, slice_get, inl, inr, refl, sym, ap, ap₂, ◌∙◌, arith, Option, Some, None, ne_eqb}
use Rattle.std.specs.Prelude.{◌==◌, if◌then◌else◌, nat_lt, nat_le, replicate, sum_by}
use Rattle.std.proofs.lemmas.Bool.Decides.{nat_tests}
use Rattle.std.proofs.lemmas.List.Sums.{sum_by_push}
use Rattle.run_laws.specs.Turns.{Ending, Gives, Fails, Spent, after, give, ◌>>=◌, look}
use Rattle.run_laws.specs.Turns.{State as At}
use Rattle.a64_memory.specs.Memory.{Area, store8}
use Rattle.wrapping_numbers.specs.Numbers.{add64}
use Rattle.a64_memory.specs.Areas.{data_base, heap_base, heap_words}
use Rattle.block_runs.specs.declared.code.Code.TheVariants.{Const, Global, NotNil, New}
use Rattle.block_runs.specs.Effects.{Does}
use Rattle.block_runs.specs.Effects.{Gives as Yields, Fails as Refuses, made as made_of}
use Rattle.block_runs.specs.Steps.{set}
use Rattle.ob_types.specs.Forms.{record_forms}
use Rattle.ob_types.specs.Store.{Cell, Bits, Pointer, Code, Heap, Address, Store, Handed, Tagged, Trap, Senseless, Act, given, object_in, tag_of, place, put, unless}
use Rattle.ob_types.specs.Expressions.{object_of}
use Rattle.ob_types.specs.Statements.{heap_cells, made, new}
use Rattle.ob_types.specs.WellFormed.{Dynamic}
use Rattle.ob_sound.proofs.Typed.{typed_made}
use Rattle.ssa_lowered.specs.Pieces.{Low, Mask, emits, does}
use Rattle.ssa_lowered.specs.Pieces.{◌>>=◌ as ◌>>>◌}
use Rattle.ssa_lowered.specs.Values.{Object, Home, const, dereferenced}
use Rattle.ssa_lowered.specs.Values.{change as lower_change}
use Rattle.ssa_lowered.specs.Statements.{new as lower_new}
use Rattle.object_nodes.specs.Running.{forms_of_all}
use Rattle.ob_types.specs.Trees.{row_cells, record_row}
use Rattle.held_stores.specs.Changes.{with_object}
use Rattle.held_stores.specs.Places.{next, object_cells, object_room}
use Rattle.held_stores.specs.Places.{place as place_of}
use Rattle.held_stores.proofs.Allocation.{held_with, later_with, next_with, place_new, tag_covered, with_tag}
use Rattle.held_stores.proofs.Pieces.{next_ends, place_above}
use Rattle.held_stores.proofs.Stores.{heap_counts}
use Rattle.lowered_runs.specs.Words.{Whole, Level, Right, ground, active, Apart, Held}
use Rattle.lowered_runs.proofs.Values.{put_here}
use Rattle.lowered_runs.proofs.Ready.{world_of}
use Rattle.lowered_runs.proofs.Follows.{Fact, And as Both, Steady, steady_and, Grows, grows_bind, grows_give, grows_emits, grows_does, Follows, FollowsTo, follows_bind, follows_seen, follows_known, follows_less, follows_emits, follows_does, Acts, ActsTo, acts_give, acts_trap, acts_senseless, effect_at}
use Rattle.lowered_runs.proofs.Exprs.{CellIs, steady_cell}
use Rattle.lowered_runs.proofs.Homes.{HomeIs, steady_home, grows_change, follows_change, Nothing_more}
use Rattle.lowered_runs.proofs.Designators.{NamedIs}
use Rattle.lowered_runs.proofs.Elements.{ConstIs, steady_const, follows_const}
use Rattle.lowered_runs.proofs.Deeds.{follows_same_to}

module _ (w : Whole) (l : Level) where
  -- value i is a pointer to an object
  abbrev pub ObjectIs : ℕ → ℕ → Fact
  ObjectIs o i = CellIs w l (Pointer o) i

  -- NIL traps
  follows_object_in : {need fuel : ℕ} {mask : Mask} {K : Fact} (c : Cell) (i : ℕ) → Follows w l need fuel mask (Both K (CellIs w l c i)) (λ o (u : Unit {0}). ObjectIs o i) (object_in l.proc c) (does NotNil (i ∷ []))
  follows_object_in c i = follows_does w l NotNil (i ∷ []) (λ n f m s held known. by c n f m s held known.1)
    where
      says : (f : ℕ → ℕ) (m : List Area) (s : Store) → effect_at w l f m s NotNil (i ∷ []) ≡ (if not (f i == 0) then Yields 0 else Refuses 2)
      says f m s = refl

      some : (x : ℕ) → heap_base ≤ x → x ≢ 0
      some x le z = absurd (omega (arith, le, z))

      by : (c : Cell) (n : ℕ) (f : ℕ → ℕ) (m : List Area) (s : At Store) → Held w l s.store m → CellIs w l c i n f s.store → Acts w l (λ o x t. ObjectIs o i n f t) (object_in l.proc c s) s m (effect_at w l f m s.store NotNil (i ∷ []))
      by (Pointer o) n f m s held h = acts_give w l o 0 held refl
          (says f m s.store ∙ ap (λ b. if not b then Yields 0 else Refuses 2) (ne_eqb (f i) 0 (some (f i) (place_above (ground w) s.store.tags o (f i) h.1)))) h
      by (Bits zero) n f m s held h = acts_trap w l 2 refl (says f m s.store ∙ ap (λ x. if not (x == 0) then Yields 0 else Refuses 2) h.1.0)
      by (Bits (suc j)) n f m s held h = acts_senseless w l refl
      by (Code g) n f m s held h = acts_senseless w l refl

  -- the object with its dynamic type
  follows_tag_of : {need fuel : ℕ} {mask own : Mask} {K : Fact} (r o i : ℕ) → Follows w l need fuel mask (Both K (ObjectIs o i)) (NamedIs w l own (Dynamic r)) (λ s. after (tag_of o s) (λ t. give (Tagged (record { area = Heap; object = o; cell = 0 }) t))) (λ c. record { pieces = []; result = Object i; after = c })
  follows_tag_of {own = own} r o i = follows_seen w l (Object i) (λ n f s m held typed known. by n f s known.1 (slice_get s.store.tags o) refl)
    where
      by : (n : ℕ) (f : ℕ → ℕ) (s : At Store) → ObjectIs o i n f s.store → (k : Option ℕ) → slice_get s.store.tags o ≡ k
          → ((h : Handed) × (after (tag_of o s) (λ t. give (Tagged (record { area = Heap; object = o; cell = 0 }) t)) ≡ Gives h s) × NamedIs w l own (Dynamic r) h (Object i) n f s.store) ⊎ (after (tag_of o s) (λ t. give (Tagged (record { area = Heap; object = o; cell = 0 }) t)) ≡ Fails Senseless s.out)
      by n f s known (Some t) e = inl (Tagged (record { area = Heap; object = o; cell = 0 }) t, ap (λ k. after (given k s) (λ t. give (Tagged (record { area = Heap; object = o; cell = 0 }) t))) e, (known.0, (o, t, refl, e, known.1, tt)))
      by n f s known None e = inr (ap (λ k. after (given k s) (λ t. give (Tagged (record { area = Heap; object = o; cell = 0 }) t))) e)

  -- a pointer's object
  pub follows_object : {need fuel : ℕ} {mask : Mask} {K : Fact} {x : Act Cell} {q : Low ℕ} (own : Mask) (r : ℕ) → Steady w l K → Follows w l need fuel mask K (CellIs w l) x q → Follows w l need fuel mask K (NamedIs w l own (Dynamic r)) (object_of l.proc x) (dereferenced q)
  follows_object own r steady one = follows_bind w l steady one (λ i. grows_bind w l (grows_does w l NotNil (i ∷ [])) (λ u. grows_give w l (Object i)))
      (λ c i. follows_bind w l (steady_and w l steady (steady_cell w l c i)) (follows_object_in c i) (λ u. grows_give w l (Object i))
      (λ o u. follows_tag_of {own = own} r o i))

  ---- NEW

  -- an object of so many cells is taken, where there is room
  abbrev taken_for : ℕ → ℕ → ℕ → List (List Cell) → Act ℕ
  taken_for f k tag heap = unless f 10 (nat_le (heap_cells heap + suc k) 8388608) >>= λ _. made (replicate k (Bits 0)) tag >>= λ _. give (length heap)

  abbrev taken : ℕ → ℕ → ℕ → Act ℕ
  taken f k tag = look (λ s. s.heap) >>= taken_for f k tag

  new_same : (f tag k : ℕ) (d : Act Handed) (s : At Store) → (place d >>= λ a. taken f k tag >>= λ o. put a (Pointer o)) s ≡ new f d tag k s
  new_same f tag k d s = by (place d s)
    where
      by_test : (a : Address) (t : At Store) (b : Bool) → after ((unless f 10 b >>= λ _. made (replicate k (Bits 0)) tag >>= λ _. give (length t.store.heap)) t) (λ o. put a (Pointer o)) ≡ (unless f 10 b >>= λ _. made (replicate k (Bits 0)) tag >>= λ _. put a (Pointer (length t.store.heap))) t
      by_test a t true = refl
      by_test a t false = refl

      by : (e : Ending Store Trap Address) → after e (λ a. taken f k tag >>= λ o. put a (Pointer o)) ≡ after e (λ a. look (λ s. s.heap) >>= λ heap. unless f 10 (nat_le (heap_cells heap + suc k) 8388608) >>= λ _. made (replicate k (Bits 0)) tag >>= λ _. put a (Pointer (length heap)))
      by (Gives a t) = by_test a t (nat_le (heap_cells t.store.heap + suc k) 8388608)
      by (Fails trap out) = refl
      by (Spent out) = refl

  -- what the operation reads: the object's cells and bytes with its tag's, and its descriptor
  abbrev Sized_as : ℕ → ℕ → ℕ → ℕ → ℕ → Fact
  Sized_as k tag n b g = Both (Both (ConstIs w l (suc k) n) (ConstIs w l (object_room (ground w) tag) b)) (ConstIs w l (w.descriptor tag) g)

  -- how many cells the objects of the heap have, with their tags
  abbrev cells_taken : List ℕ → ℕ
  cells_taken tags = sum_by (object_cells (ground w)) tags

  follows_taken : {need fuel : ℕ} {mask : Mask} {K : Fact} (k tag n b g : ℕ) → k ≡ length (record_forms w.program.types tag) → k ≡ row_cells (record_row w.program.types tag) → tag < length w.program.types.records → w.descriptor tag < 2 ^ 64
      → Follows w l need fuel mask (Both K (Sized_as k tag n b g)) ObjectIs (taken l.proc k tag) (emits New (n ∷ b ∷ g ∷ []))
  follows_taken k tag n b g long row record_type few = follows_emits w l New (n ∷ b ∷ g ∷ []) (λ v f m s held known. by v f m s held known.1.0.0.1 known.1.0.1.1 known.1.1.1 (nat_le (heap_cells s.store.heap + suc k) 8388608) refl)
    where
      says : (f : ℕ → ℕ) (m : List Area) (s : Store) (x y z : ℕ) → f n ≡ x → f b ≡ y → f g ≡ z → effect_at w l f m s New (n ∷ b ∷ g ∷ []) ≡ (if nat_lt (heap_words - cells_taken s.tags) x then Refuses 10 else made_of (world_of w l m s) x y (store8 m (next (ground w) s.tags) z))
      says f m s x y z e h i = ap (λ x. if nat_lt (heap_words - cells_taken s.tags) x then Refuses 10 else made_of (world_of w l m s) x (f b) (store8 m (next (ground w) s.tags) (f g))) e
          ∙ ap₂ (λ y z. if nat_lt (heap_words - cells_taken s.tags) x then Refuses 10 else made_of (world_of w l m s) x y (store8 m (next (ground w) s.tags) z)) h i

      by : (v : ℕ) (f : ℕ → ℕ) (m : List Area) (s : At Store) → Held w l s.store m → f n ≡ suc k → f b ≡ object_room (ground w) tag → f g ≡ w.descriptor tag → (t : Bool) → nat_le (heap_cells s.store.heap + suc k) 8388608 ≡ t
          → ActsTo w l true (λ o x t. ObjectIs o v (suc v) (set f v x) t) (taken l.proc k tag s) s m (effect_at w l f m s.store New (n ∷ b ∷ g ∷ []))
      by v f m s held e h i false is = acts_trap w l 10 (ap (λ t. (unless l.proc 10 t >>= λ _. made (replicate k (Bits 0)) tag >>= λ _. give (length s.store.heap)) s) is)
          (says f m s.store (suc k) (object_room (ground w) tag) (w.descriptor tag) e h i ∙ ap (λ t. if t then Refuses 10 else made_of (world_of w l m s.store) (suc k) (object_room (ground w) tag) (store8 m (next (ground w) s.store.tags) (w.descriptor tag))) (none_left (cells_taken s.store.tags) (heap_cells s.store.heap) (heap_counts (ground w) (active l) s.store m held) is))
        where
          none_left : (x y : ℕ) → y ≡ x → nat_le (y + suc k) 8388608 ≡ false → nat_lt (heap_words - x) (suc k) ≡ true
          none_left x y e is = grind (arith, nat_tests)
      by v f m s held e h i true is =
          let taken_now = heap_counts (ground w) (active l) s.store m held in
          let fits : cells_taken s.store.tags + object_cells (ground w) tag ≤ heap_words = room_left (cells_taken s.store.tags) (heap_cells s.store.heap) (row_cells (record_row w.program.types tag)) taken_now row is in
          let old = with_object s.store k tag in
          let tagged = with_tag (ground w) (active l) s.store m k tag held fits record_type few row in
          let new_held = held_with (ground w) (active l) s.store m k tag held fits record_type few row in
          let size = sum_by_push (object_cells (ground w)) s.store.tags tag in
          inl (record {
            a = length s.store.heap;
            state = record s { store = old };
            memory = tagged;
            bytes = [];
            x = next (ground w) s.store.tags;
            gives = ap (λ t. (unless l.proc 10 t >>= λ _. made (replicate k (Bits 0)) tag >>= λ _. give (length s.store.heap)) s) is;
            does = inl (says f m s.store (suc k) (object_room (ground w) tag) (w.descriptor tag) e h i
                ∙ ap (λ t. if t then Refuses 10 else made_of (world_of w l m s.store) (suc k) (object_room (ground w) tag) (store8 m (next (ground w) s.store.tags) (w.descriptor tag))) (some_left (cells_taken s.store.tags) (heap_cells s.store.heap) taken_now is)
                ∙ ap (λ t. made_of (world_of w l m s.store) (suc k) (object_room (ground w) tag) (cond t (Some tagged) None)) (tag_covered (ground w) (active l) s.store m k tag held fits record_type few row)
                ∙ ap₂ (λ x y. Does [] (record (world_of w l tagged s.store) { next = x; free = y }) (next (ground w) s.store.tags))
                (next_is (next (ground w) s.store.tags) (object_room (ground w) tag) (next (ground w) (s.store.tags ++ tag ∷ [])) (next_with (ground w) s.store.tags tag) (next_ends (ground w) (active l) (s.store.tags ++ tag ∷ []) new_held.room))
                (free_is (cells_taken s.store.tags) (cells_taken (s.store.tags ++ tag ∷ [])) (row_cells (record_row w.program.types tag)) row size));
            turns = refl;
            out = append_nothing s.out;
            held = new_held;
            later = later_with (ground w) (active l) l.frame s.store k tag;
            registers = λ y lt r c is. is;
            is = (omega arith, ap (place_of (ground w) (s.store.tags ++ tag ∷ [])) (sym held.tagged) ∙ place_new (ground w) s.store.tags tag ∙ ap (λ x. Some x) (sym (put_here v (next (ground w) s.store.tags) f)));
            typed = λ typed. typed_made w.program (forms_of_all w.program l.types) s.store tag k long typed;
          })
        where
          some_left : (x y : ℕ) → y ≡ x → nat_le (y + suc k) 8388608 ≡ true → nat_lt (heap_words - x) (suc k) ≡ false
          some_left x y e is = grind (arith, nat_tests)

          room_left : (x y r : ℕ) → y ≡ x → k ≡ r → nat_le (y + suc k) 8388608 ≡ true → x + suc r ≤ heap_words
          room_left x y r e same is = grind (arith, nat_tests)

          next_is : (x b y : ℕ) → y ≡ x + b → y ≤ heap_base + 8 * heap_words → add64 x b ≡ y
          next_is x b y e le = omega (arith, e, le)

          free_is : (x y r : ℕ) → k ≡ r → y ≡ x + suc r → heap_words - x - suc k ≡ heap_words - y
          free_is x y r same e = omega (arith, same, e)

          append_nothing : (xs : List ℕ) → xs ≡ xs ++ []
          append_nothing [] = refl
          append_nothing (x ∷ xs) = ap (λ ys. x ∷ ys) (append_nothing xs)

  pub follows_new : {need fuel : ℕ} {mask : Mask} {K : Fact} {q : Low Home} (right : Right w) (apart : Apart w l) (own : Mask) (d : Act Handed) (k tag at size : ℕ) → w.descriptor tag ≡ data_base + at → at < 2 ^ 32 → k ≡ length (record_forms w.program.types tag) → k ≡ row_cells (record_row w.program.types tag) → size + 8 ≡ object_room (ground w) tag → tag < length w.program.types.records → Steady w l K → ((x : ℕ) → own x ≡ true → l.in_register x ≡ true → mask x ≡ true)
      → Follows w l need fuel mask K (HomeIs w l own false) (place d) q → FollowsTo w l false need fuel mask K (Nothing_more w l) (new l.proc d tag k) (lower_new q k size at)
  follows_new {need} {fuel} {mask} {K} {q} right apart own d k tag at size place_is small long row bytes_are record_type steady masked one =
      follows_same_to w l (place d >>= λ a. taken l.proc k tag >>= λ o. put a (Pointer o)) (new l.proc d tag k) (new_same l.proc tag k d)
      (follows_bind w l steady one grows_all
      (λ a h. let known = steady_and w l steady (steady_home w l own false a h) in
      follows_bind w l {m = give tt} {h = λ (u : Unit {0}). rest a} known (follows_less w l (λ u i n f s c. (c.0, more (f i) c.1)) (follows_const w l (k + 1))) (λ n. grows_from_bytes h n)
      (λ u n. follows_bind w l {m = give tt} {h = λ (u : Unit {0}). rest a} (steady_and w l known (steady_const w l (suc k) n)) (follows_less w l (λ u i n f s c. (c.0, c.1 ∙ bytes_are)) (follows_const w l (size + 8))) (λ b. grows_from_tag h n b)
      (λ u b. follows_bind w l {m = give tt} {h = λ (u : Unit {0}). rest a} (steady_and w l (steady_and w l known (steady_const w l (suc k) n)) (steady_const w l (object_room (ground w) tag) b))
      (follows_emits w l {R = λ (u : Unit {0}) g. ConstIs w l (w.descriptor tag) g} (Global at) [] (λ v f m s held c. acts_give w l tt (data_base + at) held refl refl (omega arith, put_here v (data_base + at) f ∙ sym place_is))) (λ g. grows_from_new h n b g)
      (λ u g. follows_bind w l (steady_and w l (steady_and w l (steady_and w l known (steady_const w l (suc k) n)) (steady_const w l (object_room (ground w) tag) b)) (steady_const w l (w.descriptor tag) g))
      (follows_known w l (λ v f s c. (c.0.0.0, ((c.0.0.1, c.0.1), c.1))) (follows_taken k tag n b g long row record_type (omega (arith, place_is, small)))) (λ p. grows_change w l h p)
      (λ o p. follows_known w l (λ v f s c. ((c.0.0.0.0.0, c.0.0.0.0.1), c.1)) (follows_change w l right apart own false a (Pointer o) h p masked (λ n f s k. tt))))))))
    where
      rest : Address → Act (Unit {0})
      rest a = taken l.proc k tag >>= λ o. put a (Pointer o)

      more : (x : ℕ) → x ≡ k + 1 → x ≡ suc k
      more x e = omega (arith, e)

      grows_from_new : (h : Home) (n b g : ℕ) → Grows w l (emits New (n ∷ b ∷ g ∷ []) >>> λ p. lower_change h p)
      grows_from_new h n b g = grows_bind w l (grows_emits w l New (n ∷ b ∷ g ∷ [])) (λ p. grows_change w l h p)

      grows_from_tag : (h : Home) (n b : ℕ) → Grows w l (emits (Global at) [] >>> λ g. emits New (n ∷ b ∷ g ∷ []) >>> λ p. lower_change h p)
      grows_from_tag h n b = grows_bind w l (grows_emits w l (Global at) []) (λ g. grows_from_new h n b g)

      grows_from_bytes : (h : Home) (n : ℕ) → Grows w l (const (size + 8) >>> λ b. emits (Global at) [] >>> λ g. emits New (n ∷ b ∷ g ∷ []) >>> λ p. lower_change h p)
      grows_from_bytes h n = grows_bind w l (grows_emits w l (Const (size + 8)) []) (λ b. grows_from_tag h n b)

      grows_all : (h : Home) → Grows w l (const (k + 1) >>> λ n. const (size + 8) >>> λ b. emits (Global at) [] >>> λ g. emits New (n ∷ b ∷ g ∷ []) >>> λ p. lower_change h p)
      grows_all h = grows_bind w l (grows_emits w l (Const (k + 1)) []) (λ n. grows_from_bytes h n)
