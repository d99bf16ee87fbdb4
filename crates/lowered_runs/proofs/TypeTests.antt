-- Dynamic types: guards and tests of pointers and of VAR record parameters.
use Rattle.std.proofs.Common.{◌≡◌, ◌≢◌, ℕ, zero, suc, ◌+◌, ◌*◌, ◌<◌, ◌≤◌, ◌⊎◌, List, [], ◌∷◌, length, Bool, true, false, cond, slice_get, inl, inr, refl, sym, ap, ◌∙◌, subst, arith, Option, Some, None, ne_eqb}
use Rattle.std.specs.Prelude.{◌==◌, if◌then◌else◌}
use Rattle.run_laws.specs.Turns.{Gives, Fails, after, give, ◌>>=◌}
use Rattle.run_laws.specs.Turns.{State as At}
use Rattle.a64_memory.specs.Memory.{Area, covered, loaded8, load8}
use Rattle.a64_memory.proofs.Shapes.{covers-shapes}
use Rattle.a64_memory.proofs.Blocks.{covers-top}
use Rattle.wrapping_numbers.specs.Numbers.{add64}
use Rattle.a64_memory.specs.Areas.{data_base, heap_base}
use Rattle.block_runs.specs.declared.code.Code.TheVariants.{Const, Global, Load, IsPtr, IsTag, GuardPtr, GuardTag}
use Rattle.block_runs.specs.Effects.{Effect, given_at, level as level_of, unless as refuses_unless}
use Rattle.block_runs.specs.Effects.{Gives as Yields, Fails as Refuses}
use Rattle.block_runs.specs.Effects.{truth as truth_of}
use Rattle.block_runs.specs.Steps.{set}
use Rattle.ob_types.specs.Layout.{record_of, extends}
use Rattle.ob_types.specs.Store.{Cell, Bits, Pointer, Store, Handed, Sized, Tagged, Value, Senseless, Act, given, object_in, tag_of, tag_in, dynamic_in, unless}
use Rattle.ob_types.specs.Store.{Code as Procedure, At as Addressed}
use Rattle.ob_types.specs.Operators.{truth}
use Rattle.ob_types.specs.Expressions.{guarded, narrowed, pointer_type, parameter_type, is_of, type_test}
use Rattle.ob_types.specs.WellFormed.{Dynamic}
use Rattle.ob_types.proofs.Tests.{none_some, some_same}
use Rattle.ob_sound.proofs.Numbers.{truth_lt}
use Rattle.ssa_lowered.specs.Pieces.{Low, Mask, emits, does}
use Rattle.ssa_lowered.specs.Pieces.{◌>>=◌ as ◌>>>◌, give as gives}
use Rattle.ssa_lowered.specs.Values.{Named, Beside, Object, Held as InRegister, At as AtAddress, second, is_pointer, is_tag}
use Rattle.ssa_lowered.specs.Values.{guarded as lower_guarded, narrowed as lower_narrowed, tag_of as lower_tag}
use Rattle.held_stores.specs.Places.{Entry, TagOf}
use Rattle.held_stores.proofs.Pieces.{place_above}
use Rattle.lowered_runs.specs.Words.{Whole, Level, Right, ground, ValueIs, Held}
use Rattle.lowered_runs.proofs.Stores.{value_later}
use Rattle.lowered_runs.proofs.Values.{put_here}
use Rattle.lowered_runs.proofs.Follows.{Fact, And as Both, Anything, Steady, steady_and, steady_fixed, Grows, grows_bind, grows_give, grows_emits, grows_does, Follows, follows_bind, follows_then, follows_found, follows_give, follows_seen, follows_known, follows_emits, follows_does, follows_never, Acts, acts_give, acts_trap, acts_senseless, effect_at}
use Rattle.lowered_runs.proofs.Forks.{after_after}
use Rattle.lowered_runs.proofs.Exprs.{CellIs, steady_cell, made_bits}
use Rattle.lowered_runs.proofs.Sets.{follows_same}
use Rattle.lowered_runs.proofs.Designators.{SecondIs, SecondFits, NamedIs, DesignatorIs, steady_designator}
use Rattle.lowered_runs.proofs.Elements.{ConstIs, steady_const}
use Rattle.lowered_runs.proofs.Levels.{Tells, Variables}

module _ (w : Whole) (l : Level) (right : Right w) (vars : Variables w l) where
  abbrev many : ℕ
  many = length w.program.types.records

  abbrev pub rank : ℕ → ℕ
  rank r = (record_of w.program.types r).level

  abbrev IsExtension : ℕ → ℕ → Bool
  IsExtension = extends w.program.types

  ---- The words that are read

  -- the cell of a descriptor at a record type's level
  level_says : (s : Store) (m : List Area) (t r x : ℕ) (on : ℕ → Effect) → Held w l s m → (d : Tells w t r) → x ≡ w.descriptor t → level_of m (rank r) x on ≡ on d.cell
  level_says s m t r x on held d is =
      let y = w.descriptor t + 8 * rank r in
      let cover = covers-shapes m y 8 ∙ ap (λ ss. covered ss y 8) held.areas ∙ held.room.lies (Entry y) y 8 (d.cell, d.there, refl, refl) in
      let top = covers-top m 0 y 8 held.rises cover in
      let at : add64 x (8 * rank r) ≡ y = omega (arith, is, top) in
      ap (λ a. given_at a (load8 m a) on) at ∙ ap (λ b. given_at y (cond b (Some (loaded8 m y)) None) on) cover ∙ ap on (held.entries y d.cell d.there)

  -- of an object's descriptor, where a pointer isn't NIL
  object_says : (s : Store) (m : List Area) (o t r x : ℕ) (none : Effect) (on : ℕ → Effect) → Held w l s m → ValueIs w s.tags (Pointer o) x → slice_get s.tags o ≡ Some t → (d : Tells w t r)
      → (if x == 0 then none else given_at x (load8 m x) (λ tag. level_of m (rank r) tag on)) ≡ on d.cell
  object_says s m o t r x none on held is tag d =
      let cover = covers-shapes m x 8 ∙ ap (λ ss. covered ss x 8) held.areas ∙ held.room.lies (TagOf o) x 8 (is, refl) in
      ap (λ b. if b then none else given_at x (load8 m x) (λ tag. level_of m (rank r) tag on)) (ne_eqb x 0 (some x (place_above (ground w) s.tags o x is)))
      ∙ ap (λ b. given_at x (cond b (Some (loaded8 m x)) None) (λ tag. level_of m (rank r) tag on)) cover
      ∙ level_says s m t r (loaded8 m x) on held d (held.tags o t x tag is).0
    where
      some : (x : ℕ) → heap_base ≤ x → x ≢ 0
      some x le z = absurd (omega (arith, le, z))

  -- the record type of an object is in the table
  object_there : (s : Store) (m : List Area) (o t i : ℕ) → Held w l s m → slice_get s.tags o ≡ Some t → (ValueIs w s.tags (Pointer o) i) → t < many
  object_there s m o t i held tag is = (held.tags o t i tag is).1

  ---- Guards of pointers

  abbrev tested : Cell → ℕ → Act (Unit {0})
  tested c r = object_in l.proc c >>= λ o. tag_of o >>= λ t. unless l.proc 3 (IsExtension t r)

  follows_tested : {need fuel : ℕ} {mask : Mask} {K : Fact} (c : Cell) (i g r : ℕ) → r < many → Follows w l need fuel mask (Both (Both K (CellIs w l c i)) (ConstIs w l (w.descriptor r) g)) (λ (u v : Unit {0}). Anything) (tested c r) (does (GuardPtr (rank r)) (i ∷ g ∷ []))
  follows_tested c i g r there = follows_does w l (GuardPtr (rank r)) (i ∷ g ∷ []) (λ n f m s held known. by c n f m s held known.0.1 known.1.1)
    where
      says : (f : ℕ → ℕ) (m : List Area) (s : Store) → effect_at w l f m s (GuardPtr (rank r)) (i ∷ g ∷ []) ≡ (if f i == 0 then Refuses 2 else given_at (f i) (load8 m (f i)) (λ tag. level_of m (rank r) tag (λ t. refuses_unless (t == f g) 3)))
      says f m s = refl

      by : (c : Cell) (n : ℕ) (f : ℕ → ℕ) (m : List Area) (s : At Store) → Held w l s.store m → CellIs w l c i n f s.store → f g ≡ w.descriptor r → Acts w l (λ (u : Unit {0}) x t. Unit {0}) (tested c r s) s m (effect_at w l f m s.store (GuardPtr (rank r)) (i ∷ g ∷ []))
      by (Pointer o) n f m s held h is = by_tag (slice_get s.store.tags o) refl
        where
          by_test : (t : ℕ) → slice_get s.store.tags o ≡ Some t → (d : Tells w t r) → (b : Bool) → IsExtension t r ≡ b → Acts w l (λ (u : Unit {0}) x t. Unit {0}) (tested (Pointer o) r s) s m (effect_at w l f m s.store (GuardPtr (rank r)) (i ∷ g ∷ []))
          by_test t e d b it = by_answer b (ap (λ k. after (given k s) (λ t. unless l.proc 3 (IsExtension t r))) e ∙ ap (λ b. unless l.proc 3 b s) it)
              (says f m s.store ∙ object_says s.store m o t r (f i) (Refuses 2) (λ t. refuses_unless (t == f g) 3) held h.1 e d ∙ ap (λ y. refuses_unless (d.cell == y) 3) is ∙ ap (λ b. refuses_unless b 3) (d.tells ∙ it))
            where
              by_answer : (b : Bool) → tested (Pointer o) r s ≡ unless l.proc 3 b s → effect_at w l f m s.store (GuardPtr (rank r)) (i ∷ g ∷ []) ≡ refuses_unless b 3 → Acts w l (λ (u : Unit {0}) x t. Unit {0}) (tested (Pointer o) r s) s m (effect_at w l f m s.store (GuardPtr (rank r)) (i ∷ g ∷ []))
              by_answer true gives doing = acts_give w l tt 0 held gives doing tt
              by_answer false gives doing = acts_trap w l 3 gives doing

          by_tag : (k : Option ℕ) → slice_get s.store.tags o ≡ k → Acts w l (λ (u : Unit {0}) x t. Unit {0}) (tested (Pointer o) r s) s m (effect_at w l f m s.store (GuardPtr (rank r)) (i ∷ g ∷ []))
          by_tag None e = acts_senseless w l (ap (λ k. after (given k s) (λ t. unless l.proc 3 (IsExtension t r))) e)
          by_tag (Some t) e = by_test t e (vars.tells.by t r (object_there s.store m o t (f i) held e h.1) there) (IsExtension t r) refl
      by (Bits zero) n f m s held h is = acts_trap w l 2 refl (says f m s.store ∙ ap (λ x. if x == 0 then Refuses 2 else given_at x (load8 m x) (λ tag. level_of m (rank r) tag (λ t. refuses_unless (t == f g) 3))) h.1.0)
      by (Bits (suc j)) n f m s held h is = acts_senseless w l refl
      by (Procedure k) n f m s held h is = acts_senseless w l refl

  -- the address of a descriptor
  follows_descriptor : {need fuel : ℕ} {mask : Mask} {K : Fact} (r at : ℕ) → w.descriptor r ≡ data_base + at → Follows w l need fuel mask K (λ (u : Unit {0}) g. ConstIs w l (w.descriptor r) g) (give tt) (emits (Global at) [])
  follows_descriptor r at placed = follows_emits w l (Global at) [] (λ n f m s held known. acts_give w l tt (data_base + at) held refl refl (omega arith, put_here n (data_base + at) f ∙ sym placed))

  grows_guarded : (i at j : ℕ) → Grows w l (emits (Global at) [] >>> λ g. does (GuardPtr j) (i ∷ g ∷ []) >>> λ u. gives i)
  grows_guarded i at j = grows_bind w l (grows_emits w l (Global at) []) (λ g. grows_bind w l (grows_does w l (GuardPtr j) (i ∷ g ∷ [])) (λ u. grows_give w l i))

  -- a guard traps where NIL or where the object's type is another
  pub follows_guarded : {need fuel : ℕ} {mask : Mask} {K : Fact} {x : Act Cell} {q : Low ℕ} (r at : ℕ) → r < many → w.descriptor r ≡ data_base + at → Steady w l K → Follows w l need fuel mask K (CellIs w l) x q → Follows w l need fuel mask K (CellIs w l) (guarded l.proc IsExtension x r) (lower_guarded q at (rank r))
  follows_guarded {need} {fuel} {mask} {K} r at there placed steady one = follows_bind w l steady one (λ i. grows_guarded i at (rank r))
      (λ c i. follows_same w l (tested c r >>= λ v. give c) (object_in l.proc c >>= λ o. tag_of o >>= λ t. unless l.proc 3 (IsExtension t r) >>= λ u. give c) (λ s. regroup c s)
      (follows_bind w l {m = give tt} {h = λ (u : Unit {0}). tested c r >>= λ v. give c} (steady_and w l steady (steady_cell w l c i)) (follows_descriptor r at placed) (λ g. grows_bind w l (grows_does w l (GuardPtr (rank r)) (i ∷ g ∷ [])) (λ u. grows_give w l i))
      (λ u g. follows_bind w l (steady_and w l (steady_and w l steady (steady_cell w l c i)) (steady_const w l (w.descriptor r) g)) (follows_tested c i g r there) (λ u. grows_give w l i)
      (λ u v. follows_give w l c i (λ n f s k. k.0.0.1)))))
    where
      regroup : (c : Cell) (s : At Store) → (tested c r >>= λ v. give c) s ≡ (object_in l.proc c >>= λ o. tag_of o >>= λ t. unless l.proc 3 (IsExtension t r) >>= λ u. give c) s
      regroup (Pointer o) s = after_after (given (slice_get s.store.tags o) s) (λ t. unless l.proc 3 (IsExtension t r)) (λ v. give (Pointer o))
      regroup (Bits zero) s = refl
      regroup (Bits (suc j)) s = refl
      regroup (Procedure k) s = refl

  ---- Dynamic types

  -- of a pointer's object: NIL has none
  abbrev pub PointerType : Option ℕ → ℕ → Fact
  PointerType None i n f s = (i < n) × (f i ≡ 0)
  PointerType (Some t) i n f s = (i < n) × ((o : ℕ) × (slice_get s.tags o ≡ Some t) × ValueIs w s.tags (Pointer o) (f i))

  pub steady_pointer_type : (t : Option ℕ) (i : ℕ) → Steady w l (PointerType t i)
  steady_pointer_type None i = record { by = λ n m f g s u le same later h. let lt = h.0 in (omega (arith, le, lt), same i h.0 ∙ h.1) }
  steady_pointer_type (Some t) i = record {
    by = λ n m f g s u le same later h.
        let lt = h.0 in (omega (arith, le, lt), (h.1.0, later.tag h.1.0 t h.1.1, subst (λ x. ValueIs w u.tags (Pointer h.1.0) x) (sym (same i h.0)) (value_later w l s u (Pointer h.1.0) (f i) later h.1.2)));
  }

  pub follows_pointer_type : {need fuel : ℕ} {mask : Mask} {K : Fact} {x : Act Cell} {q : Low ℕ} → Steady w l K → Follows w l need fuel mask K (CellIs w l) x q → Follows w l need fuel mask K PointerType (pointer_type x) q
  follows_pointer_type {K = K} steady one = follows_then w l steady one by
    where
      by_tag : (o i n : ℕ) (f : ℕ → ℕ) (s : At Store) → CellIs w l (Pointer o) i n f s.store → (k : Option ℕ) → slice_get s.store.tags o ≡ k → ((t : Option ℕ) × (dynamic_in (Pointer o) s ≡ Gives t s) × PointerType t i n f s.store) ⊎ (dynamic_in (Pointer o) s ≡ Fails Senseless s.out)
      by_tag o i n f s h None e = inr (ap (λ k. after (given k s) (λ t. give (Some t))) e)
      by_tag o i n f s h (Some t) e = inl (Some t, ap (λ k. after (given k s) (λ t. give (Some t))) e, (h.0, (o, e, h.1)))

      by : (c : Cell) (i n : ℕ) (f : ℕ → ℕ) (s : At Store) → K n f s.store → CellIs w l c i n f s.store → ((t : Option ℕ) × (dynamic_in c s ≡ Gives t s) × PointerType t i n f s.store) ⊎ (dynamic_in c s ≡ Fails Senseless s.out)
      by (Bits zero) i n f s known h = inl (None, refl, (h.0, h.1.0))
      by (Bits (suc j)) i n f s known h = inr refl
      by (Pointer o) i n f s known h = by_tag o i n f s h (slice_get s.store.tags o) refl
      by (Procedure k) i n f s known h = inr refl

  -- whether it is of a record type
  abbrev pub answer : Option ℕ → ℕ → Act Cell
  answer t r = give (Bits (truth (is_of IsExtension t r)))

  pub grows_is_pointer : (at j i : ℕ) → Grows w l (is_pointer at j i)
  grows_is_pointer at j i = grows_bind w l (grows_emits w l (Global at) []) (λ g. grows_emits w l (IsPtr j) (i ∷ g ∷ []))

  pub follows_is_pointer : {need fuel : ℕ} {mask : Mask} {K : Fact} (t : Option ℕ) (i r at : ℕ) → r < many → w.descriptor r ≡ data_base + at → Steady w l K → Follows w l need fuel mask (Both K (PointerType t i)) (CellIs w l) (answer t r) (is_pointer at (rank r) i)
  follows_is_pointer {need} {fuel} {mask} {K} t i r at there placed steady = follows_bind w l {m = give tt} {h = λ (u : Unit {0}). answer t r} (steady_and w l steady (steady_pointer_type t i)) (follows_descriptor r at placed) (λ g. grows_emits w l (IsPtr (rank r)) (i ∷ g ∷ []))
      (λ u g. follows_emits w l (IsPtr (rank r)) (i ∷ g ∷ []) (λ n f m s held known. by g n f m s held t known.0.1 known.1.1))
    where
      says : (g : ℕ) (f : ℕ → ℕ) (m : List Area) (s : Store) → effect_at w l f m s (IsPtr (rank r)) (i ∷ g ∷ []) ≡ (if f i == 0 then Yields (truth_of (0 == f g)) else given_at (f i) (load8 m (f i)) (λ tag. level_of m (rank r) tag (λ t. Yields (truth_of (t == f g)))))
      says g f m s = refl

      truths : (b : Bool) → truth_of b ≡ truth b
      truths true = refl
      truths false = refl

      by : (g n : ℕ) (f : ℕ → ℕ) (m : List Area) (s : At Store) → Held w l s.store m → (t : Option ℕ) → PointerType t i n f s.store → f g ≡ w.descriptor r → Acts w l (λ c x u. CellIs w l c n (suc n) (set f n x) u) (answer t r s) s m (effect_at w l f m s.store (IsPtr (rank r)) (i ∷ g ∷ []))
      by g n f m s held None h is =
          let none : (0 == f g) ≡ false = ne_eqb 0 (f g) (λ e. absurd (omega (arith, e, is, placed))) in
          acts_give w l (Bits 0) 0 held refl
          (says g f m s.store ∙ ap (λ x. if x == 0 then Yields (truth_of (0 == f g)) else given_at x (load8 m x) (λ tag. level_of m (rank r) tag (λ t. Yields (truth_of (t == f g))))) h.1 ∙ ap (λ b. Yields (truth_of b)) none)
          (made_bits w l n 0 0 f s.store refl (omega arith))
      by g n f m s held (Some t) h is =
          let d = vars.tells.by t r (object_there s.store m h.1.0 t (f i) held h.1.1 h.1.2) there in
          acts_give w l (Bits (truth (IsExtension t r))) (truth (IsExtension t r)) held refl
          (says g f m s.store ∙ object_says s.store m h.1.0 t r (f i) (Yields (truth_of (0 == f g))) (λ t. Yields (truth_of (t == f g))) held h.1.2 h.1.1 d ∙ ap (λ y. Yields (truth_of (d.cell == y))) is ∙ ap (λ b. Yields (truth_of b)) d.tells ∙ ap (λ x. Yields x) (truths (IsExtension t r)))
          (made_bits w l n (truth (IsExtension t r)) (truth (IsExtension t r)) f s.store refl (truth_lt (IsExtension t r)))

  -- of a VAR record parameter
  abbrev pub ParameterType : Option ℕ → ℕ → Fact
  ParameterType None i n f s = ⊥
  ParameterType (Some t) i n f s = (i < n) × ((f i ≡ w.descriptor t) × (t < many))

  pub steady_parameter_type : (t : Option ℕ) (i : ℕ) → Steady w l (ParameterType t i)
  steady_parameter_type None i = record { by = λ n m f g s u le same later h. h }
  steady_parameter_type (Some t) i = record { by = λ n m f g s u le same later h. let lt = h.0 in (omega (arith, le, lt), (same i h.0 ∙ h.1.0, h.1.1)) }

  pub grows_is_tag : (at j i : ℕ) → Grows w l (is_tag at j i)
  grows_is_tag at j i = grows_bind w l (grows_emits w l (Global at) []) (λ g. grows_emits w l (IsTag j) (i ∷ g ∷ []))

  pub follows_is_tag : {need fuel : ℕ} {mask : Mask} {K : Fact} (t : Option ℕ) (i r at : ℕ) → r < many → w.descriptor r ≡ data_base + at → Steady w l K → Follows w l need fuel mask (Both K (ParameterType t i)) (CellIs w l) (answer t r) (is_tag at (rank r) i)
  follows_is_tag {need} {fuel} {mask} {K} t i r at there placed steady = follows_bind w l {m = give tt} {h = λ (u : Unit {0}). answer t r} (steady_and w l steady (steady_parameter_type t i)) (follows_descriptor r at placed) (λ g. grows_emits w l (IsTag (rank r)) (i ∷ g ∷ []))
      (λ u g. follows_emits w l (IsTag (rank r)) (i ∷ g ∷ []) (λ n f m s held known. by g n f m s held t known.0.1 known.1.1))
    where
      says : (g : ℕ) (f : ℕ → ℕ) (m : List Area) (s : Store) → effect_at w l f m s (IsTag (rank r)) (i ∷ g ∷ []) ≡ level_of m (rank r) (f i) (λ t. Yields (truth_of (t == f g)))
      says g f m s = refl

      truths : (b : Bool) → truth_of b ≡ truth b
      truths true = refl
      truths false = refl

      by : (g n : ℕ) (f : ℕ → ℕ) (m : List Area) (s : At Store) → Held w l s.store m → (t : Option ℕ) → ParameterType t i n f s.store → f g ≡ w.descriptor r → Acts w l (λ c x u. CellIs w l c n (suc n) (set f n x) u) (answer t r s) s m (effect_at w l f m s.store (IsTag (rank r)) (i ∷ g ∷ []))
      by g n f m s held None h is = absurd h
      by g n f m s held (Some t) h is =
          let d = vars.tells.by t r h.1.1 there in
          acts_give w l (Bits (truth (IsExtension t r))) (truth (IsExtension t r)) held refl
          (says g f m s.store ∙ level_says s.store m t r (f i) (λ t. Yields (truth_of (t == f g))) held d h.1.0 ∙ ap (λ y. Yields (truth_of (d.cell == y))) is ∙ ap (λ b. Yields (truth_of b)) d.tells ∙ ap (λ x. Yields x) (truths (IsExtension t r)))
          (made_bits w l n (truth (IsExtension t r)) (truth (IsExtension t r)) f s.store refl (truth_lt (IsExtension t r)))

  -- IS
  pub follows_type_test : {need fuel : ℕ} {mask : Mask} {K : Fact} {x : Act (Option ℕ)} {q : Low ℕ} (TypeIs : Option ℕ → ℕ → Fact) (is : ℕ → ℕ → ℕ → Low ℕ) (r at : ℕ) → Steady w l K → ((at j i : ℕ) → Grows w l (is at j i))
      → ((t : Option ℕ) (i : ℕ) → Follows w l need fuel mask (Both K (TypeIs t i)) (CellIs w l) (answer t r) (is at (rank r) i)) → Follows w l need fuel mask K TypeIs x q → Follows w l need fuel mask K (CellIs w l) (type_test IsExtension x r) (q >>> is at (rank r))
  follows_type_test TypeIs is r at steady grows tells one = follows_bind w l steady one (λ i. grows at (rank r) i) tells

  ---- Tags

  -- what goes with a record whose dynamic type is known to be an extension
  pub grows_second : (v : Named) → Grows w l (second v)
  grows_second (AtAddress i) = grows_emits w l (Const 0) []
  grows_second (Beside i j) = grows_give w l j
  grows_second (Object i) = grows_emits w l Load (i ∷ [])
  grows_second (InRegister x) = grows_emits w l (Const 0) []

  abbrev TagIs : ℕ → ℕ → Fact
  TagIs t i = ParameterType (Some t) i

  follows_second : {need fuel : ℕ} {mask : Mask} {K : Fact} (own : Mask) (b : ℕ) (h : Handed) (v : Named) → b < many → Follows w l need fuel mask (Both K (DesignatorIs w l own (Dynamic b) h v)) TagIs (given (tag_in h)) (second v)
  follows_second own b h (AtAddress i) there = follows_never w l (λ n f s k. subst (λ h. SecondFits w l (Dynamic b) h) k.1.0.1.1 k.1.1) (grows_second (AtAddress i))
  follows_second own b h (Beside i j) there = follows_seen w l j (λ n f s m held typed known. by h n f s known.1.0.1.1.3 known.1.1 known.1.0.1.0)
    where
      by : (h : Handed) (n : ℕ) (f : ℕ → ℕ) (s : At Store) → SecondIs w l h (f j) → SecondFits w l (Dynamic b) h → j < n → ((t : ℕ) × (given (tag_in h) s ≡ Gives t s) × TagIs t j n f s.store) ⊎ (given (tag_in h) s ≡ Fails Senseless s.out)
      by (Tagged a t) n f s is fits lt = inl (t, refl, (lt, (is, right.extension_there t b there fits)))
      by (Addressed a) n f s is fits lt = absurd fits
      by (Sized a k) n f s is fits lt = absurd fits
      by (Value c) n f s is fits lt = absurd fits
  follows_second own b h (Object i) there = follows_emits w l Load (i ∷ []) (λ n f m s held known.
      let z = known.1.0.1 in
      let cover = covers-shapes m (f i) 8 ∙ ap (λ ss. covered ss (f i) 8) held.areas ∙ held.room.lies (TagOf z.0) (f i) 8 (z.4, refl) in
      acts_give w l z.1 (loaded8 m (f i)) held (ap (λ h. given (tag_in h) s) z.2) (ap (λ b. given_at (f i) (cond b (Some (loaded8 m (f i))) None) Yields) cover)
      (omega arith, (put_here n (loaded8 m (f i)) f ∙ (held.tags z.0 z.1 (f i) z.3 z.4).0, object_there s.store m z.0 z.1 (f i) held z.3 z.4)))
  follows_second own b h (InRegister x) there = follows_never w l (λ n f s k. differ k.1.0.4) (grows_second (InRegister x))
    where
      differ : false ≡ true → ⊥
      differ e = cc

  pub follows_parameter_type : {need fuel : ℕ} {mask : Mask} {K : Fact} {q : Low Named} (own : Mask) (b : ℕ) (d : Act Handed) → b < many → Steady w l K → Follows w l need fuel mask K (DesignatorIs w l own (Dynamic b)) d q → Follows w l need fuel mask K ParameterType (parameter_type d) (lower_tag q)
  follows_parameter_type own b d there steady one = follows_bind w l steady one (λ v. grows_second v)
      (λ h v. follows_then w l (steady_and w l steady (steady_designator w l own (Dynamic b) h v)) (follows_second own b h v there) (λ t i n f s known is. inl (Some t, refl, is)))

  ---- Guards of VAR record parameters

  follows_tag_tested : {need fuel : ℕ} {mask : Mask} {K : Fact} (t i g r : ℕ) → r < many → Follows w l need fuel mask (Both (Both K (TagIs t i)) (ConstIs w l (w.descriptor r) g)) (λ (u v : Unit {0}) n f s. IsExtension t r ≡ true) (unless l.proc 3 (IsExtension t r)) (does (GuardTag (rank r)) (i ∷ g ∷ []))
  follows_tag_tested t i g r there = follows_does w l (GuardTag (rank r)) (i ∷ g ∷ []) (λ n f m s held known. by f m s held (vars.tells.by t r known.0.1.1.1 there) known.0.1.1.0 known.1.1 (IsExtension t r) refl)
    where
      says : (f : ℕ → ℕ) (m : List Area) (s : Store) → effect_at w l f m s (GuardTag (rank r)) (i ∷ g ∷ []) ≡ level_of m (rank r) (f i) (λ t. refuses_unless (t == f g) 3)
      says f m s = refl

      by : (f : ℕ → ℕ) (m : List Area) (s : At Store) → Held w l s.store m → (d : Tells w t r) → f i ≡ w.descriptor t → f g ≡ w.descriptor r → (b : Bool) → IsExtension t r ≡ b
          → Acts w l (λ (u : Unit {0}) x v. IsExtension t r ≡ true) (unless l.proc 3 (IsExtension t r) s) s m (effect_at w l f m s.store (GuardTag (rank r)) (i ∷ g ∷ []))
      by f m s held d e is b it = by_answer b it (says f m s.store ∙ level_says s.store m t r (f i) (λ t. refuses_unless (t == f g) 3) held d e ∙ ap (λ y. refuses_unless (d.cell == y) 3) is ∙ ap (λ b. refuses_unless b 3) (d.tells ∙ it))
        where
          by_answer : (b : Bool) → IsExtension t r ≡ b → effect_at w l f m s.store (GuardTag (rank r)) (i ∷ g ∷ []) ≡ refuses_unless b 3 → Acts w l (λ (u : Unit {0}) x v. IsExtension t r ≡ true) (unless l.proc 3 (IsExtension t r) s) s m (effect_at w l f m s.store (GuardTag (rank r)) (i ∷ g ∷ []))
          by_answer true it doing = acts_give w l tt 0 held (ap (λ b. unless l.proc 3 b s) it) doing it
          by_answer false it doing = acts_trap w l 3 (ap (λ b. unless l.proc 3 b s) it) doing

  -- what is named by a record type is named by another one of the same object, and is no variable in a register
  renamed : (own other : Mask) (b r : ℕ) (h : Handed) (v : Named) (n : ℕ) (f : ℕ → ℕ) (s : Store) → NamedIs w l own (Dynamic b) h v n f s → NamedIs w l other (Dynamic r) h v n f s
  renamed own other b r (Addressed a) (AtAddress i) n f s k = k
  renamed own other b r (Sized a m) (AtAddress i) n f s k = k
  renamed own other b r (Tagged a t) (AtAddress i) n f s k = k
  renamed own other b r (Value c) (AtAddress i) n f s k = k
  renamed own other b r (Addressed a) (Beside i j) n f s k = k
  renamed own other b r (Sized a m) (Beside i j) n f s k = k
  renamed own other b r (Tagged a t) (Beside i j) n f s k = k
  renamed own other b r (Value c) (Beside i j) n f s k = k
  renamed own other b r h (Object i) n f s k = k
  renamed own other b r h (InRegister x) n f s k = absurd (differ k.4)
    where
      differ : false ≡ true → ⊥
      differ e = cc

  tagged_fits : (r t : ℕ) (h : Handed) → tag_in h ≡ Some t → IsExtension t r ≡ true → SecondFits w l (Dynamic r) h
  tagged_fits r t (Tagged a k) is fits = subst (λ k. IsExtension k r ≡ true) (sym (some_same k t is)) fits
  tagged_fits r t (Addressed a) is fits = none_some t is
  tagged_fits r t (Sized a m) is fits = none_some t is
  tagged_fits r t (Value c) is fits = none_some t is

  grows_narrowed : (v : Named) (at j : ℕ) → Grows w l (second v >>> λ t. emits (Global at) [] >>> λ g. does (GuardTag j) (t ∷ g ∷ []) >>> λ u. gives v)
  grows_narrowed v at j = grows_bind w l (grows_second v) (λ t. grows_checked v at j t)
    where
      grows_checked : (v : Named) (at j t : ℕ) → Grows w l (emits (Global at) [] >>> λ g. does (GuardTag j) (t ∷ g ∷ []) >>> λ u. gives v)
      grows_checked v at j t = grows_bind w l (grows_emits w l (Global at) []) (λ g. grows_bind w l (grows_does w l (GuardTag j) (t ∷ g ∷ [])) (λ u. grows_give w l v))

  pub follows_narrowed : {need fuel : ℕ} {mask : Mask} {K : Fact} {q : Low Named} (own other : Mask) (b r at : ℕ) (d : Act Handed) → b < many → r < many → w.descriptor r ≡ data_base + at → Steady w l K → Follows w l need fuel mask K (DesignatorIs w l own (Dynamic b)) d q
      → Follows w l need fuel mask K (DesignatorIs w l other (Dynamic r)) (narrowed l.proc IsExtension d r) (lower_narrowed q at (rank r))
  follows_narrowed {need} {fuel} {mask} {K} own other b r at d known_type there placed steady one = follows_bind w l steady one (λ v. grows_narrowed v at (rank r))
      (λ h v. let known = steady_and w l steady (steady_designator w l own (Dynamic b) h v) in
      follows_bind w l known (follows_found w l (tag_in h) (follows_second own b h v known_type)) (λ i. grows_bind w l (grows_emits w l (Global at) []) (λ g. grows_bind w l (grows_does w l (GuardTag (rank r)) (i ∷ g ∷ [])) (λ u. grows_give w l v)))
      (λ t i. let more = steady_and w l known (steady_and w l (steady_parameter_type (Some t) i) (steady_fixed w l (tag_in h ≡ Some t))) in
      follows_bind w l {m = give tt} {h = λ (u : Unit {0}). unless l.proc 3 (IsExtension t r) >>= λ u. give h} more (follows_descriptor r at placed) (λ g. grows_bind w l (grows_does w l (GuardTag (rank r)) (i ∷ g ∷ [])) (λ u. grows_give w l v))
      (λ u g. follows_bind w l (steady_and w l more (steady_const w l (w.descriptor r) g)) (follows_known w l (λ n f s k. ((k.0.0, k.0.1.0), k.1)) (follows_tag_tested t i g r there)) (λ u. grows_give w l v)
      (λ x y. follows_give w l h v (λ n f s k. (renamed own other b r h v n f s k.0.0.0.1.0, tagged_fits r t h k.0.0.1.1 k.1))))))
