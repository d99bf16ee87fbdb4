-- Objects that come and go.
use Rattle.std.proofs.Common.{◌≡◌, ◌≢◌, ℕ, ◌+◌, ◌<◌, ◌≤◌, ◌⊎◌, ⊎_elim, inl, inr, List, Bool, true, false, cond, nat_eq, refl, sym, ap, ap₂, ◌∙◌, subst, arith, Option, Some, None, eq-eqb, ne_eqb}
use Rattle.std.proofs.lemmas.Bool.{cases_eq}
use Rattle.a64_memory.specs.Memory.{Area, covers}
use Rattle.a64_memory.proofs.Blocks.{covers-part}
use Rattle.ob_types.specs.Trees.{scalar_bytes}
use Rattle.object_bytes.specs.Layouts.{Spot, Body, Fine}
use Rattle.object_bytes.specs.Objects.{Cell, Number, Pointer, Routine, Tag, Objects, create, Placing, with_new, without, Means, Grows, load, Clear, Kept, Spare, Zeros}
use Rattle.object_bytes.proofs.Kept.{clear_within, clear_swap, clear_join, means_grows, span_some, load_zero}

some_or_none : {x : ℕ} {w : Option ℕ} → w ≡ Some x → w ≡ None → ⊥
some_or_none e f = cc

some_one : {x y : ℕ} {w : Option ℕ} → w ≡ Some x → w ≡ Some y → x ≡ y
some_one e f = cc

-- a number's place before and after one more object is there
pub at_new : (w : ℕ → Option ℕ) (k a j b : ℕ) → cond (nat_eq j k) (Some a) (w j) ≡ Some b → ((j ≡ k) × (a ≡ b)) ⊎ ((j ≢ k) × (w j ≡ Some b))
at_new w k a j b e = ⊎_elim
    (λ (s : j ≡ k). let f : Some a ≡ Some b = sym (ap (λ t. cond t (Some a) (w j)) (eq-eqb j k s)) ∙ e in inl (s, sym (some_one f refl)))
    (λ (n : j ≢ k). inr (n, sym (ap (λ t. cond t (Some a) (w j)) (ne_eqb j k n)) ∙ e))
    (cases_eq j k)

at_old : (w : ℕ → Option ℕ) (k a j b : ℕ) → w k ≡ None → w j ≡ Some b → cond (nat_eq j k) (Some a) (w j) ≡ Some b
at_old w k a j b none e = ap (λ t. cond t (Some a) (w j)) (ne_eqb j k (λ s. some_or_none (ap w (sym s) ∙ e) none)) ∙ e

pub grows_new : (named : Bool) (k a : ℕ) (p : Placing) → p.place k ≡ None → p.heap k ≡ None → Grows p (with_new named k a p)
grows_new true k a p u v = record { place = λ j b e. at_old p.place k a j b u e; heap = λ j b e. at_old p.heap k a j b v e; code = λ j b e. e; descriptor = λ j b e. e }
grows_new false k a p u v = record { place = λ j b e. at_old p.place k a j b u e; heap = λ j b e. e; code = λ j b e. e; descriptor = λ j b e. e }

pub place_new : (named : Bool) (k a : ℕ) (p : Placing) → (with_new named k a p).place k ≡ Some a
place_new named k a p = ap (λ t. cond t (Some a) (p.place k)) (eq-eqb k k refl)

module _ (o : Objects) (k : ℕ) (f : Body) (cells : ℕ → Cell) where
  pub form_here : (j : ℕ) → j ≡ k → (create k f cells o).form j ≡ f
  form_here j e = ap (λ t. cond t f (o.form j)) (eq-eqb j k e)

  pub form_else : (j : ℕ) → j ≢ k → (create k f cells o).form j ≡ o.form j
  form_else j n = ap (λ t. cond t f (o.form j)) (ne_eqb j k n)

  pub cell_here : (j c : ℕ) → j ≡ k → (create k f cells o).cell j c ≡ cells c
  cell_here j c e = ap (λ t. cond t (cells c) (o.cell j c)) (eq-eqb j k e)

  pub cell_else : (j c : ℕ) → j ≢ k → (create k f cells o).cell j c ≡ o.cell j c
  cell_else j c n = ap (λ t. cond t (cells c) (o.cell j c)) (ne_eqb j k n)

  module _ (named : Bool) (a : ℕ) (p : Placing) (m : List Area) (h : Kept o p m) (fresh : p.place k ≡ None) (unnamed : p.heap k ≡ None) (spare : Spare o p m a f.bytes) where
    new_apart : (i j x y : ℕ) → i ≢ j → (with_new named k a p).place i ≡ Some x → (with_new named k a p).place j ≡ Some y → Clear x ((create k f cells o).form i).bytes y ((create k f cells o).form j).bytes
    new_apart i j x y ne u v = ⊎_elim
        (λ (e : (i ≡ k) × (a ≡ x)). ⊎_elim
        (λ (g : (j ≡ k) × (a ≡ y)). absurd (ne (e.0 ∙ sym g.0)))
        (λ (g : (j ≢ k) × (p.place j ≡ Some y)).
        subst (λ w. Clear x w.bytes y ((create k f cells o).form j).bytes) (sym (form_here i e.0))
        (subst (λ w. Clear x f.bytes y w.bytes) (sym (form_else j g.0))
        (subst (λ w. Clear w f.bytes y (o.form j).bytes) e.1 (clear_swap y (o.form j).bytes a f.bytes (spare.apart j y g.1)))))
        (at_new p.place k a j y v))
        (λ (e : (i ≢ k) × (p.place i ≡ Some x)).
        subst (λ w. Clear x w.bytes y ((create k f cells o).form j).bytes) (sym (form_else i e.0))
        (⊎_elim
        (λ (g : (j ≡ k) × (a ≡ y)).
        subst (λ w. Clear x (o.form i).bytes y w.bytes) (sym (form_here j g.0))
        (subst (λ w. Clear x (o.form i).bytes w f.bytes) g.1 (spare.apart i x e.1)))
        (λ (g : (j ≢ k) × (p.place j ≡ Some y)).
        subst (λ w. Clear x (o.form i).bytes y w.bytes) (sym (form_else j g.0)) (h.apart i j x y ne e.1 g.1))
        (at_new p.place k a j y v)))
        (at_new p.place k a i x u)

    named_new : (named : Bool) → 0 < a → (j x : ℕ) → (with_new named k a p).heap j ≡ Some x → ((with_new named k a p).place j ≡ Some x) × (0 < x)
    named_new true some j x e = ⊎_elim
        (λ (g : (j ≡ k) × (a ≡ x)). (ap (λ t. cond t (Some a) (p.place j)) (eq-eqb j k g.0) ∙ ap Some g.1, subst (λ n. 0 < n) g.1 some))
        (λ (g : (j ≢ k) × (p.heap j ≡ Some x)). (at_old p.place k a j x fresh (h.pointed j x g.1).0, (h.pointed j x g.1).1))
        (at_new p.heap k a j x e)
    named_new false some j x e = (at_old p.place k a j x fresh (h.pointed j x e).0, (h.pointed j x e).1)

    -- one more object, in spare memory that has its cells
    pub kept_create : 0 < a → Fine f → ((c : ℕ) (s : Spot) → f.spot c ≡ Some s → Means (with_new named k a p) (cells c) (load s.small m (a + s.at))) → Kept (create k f cells o) (with_new named k a p) m
    kept_create some good holds = record {
      holds = λ j b c s bt js. ⊎_elim
          (λ (e : (j ≡ k) × (a ≡ b)).
          subst (λ v. Means (with_new named k a p) v (load s.small m (b + s.at))) (sym (cell_here j c e.0))
          (subst (λ x. Means (with_new named k a p) (cells c) (load s.small m (x + s.at))) e.1
          (holds c s (ap (λ g. g.spot c) (sym (form_here j e.0)) ∙ js))))
          (λ (e : (j ≢ k) × (p.place j ≡ Some b)).
          subst (λ v. Means (with_new named k a p) v (load s.small m (b + s.at))) (sym (cell_else j c e.0))
          (means_grows p (with_new named k a p) (o.cell j c) (load s.small m (b + s.at)) (grows_new named k a p fresh unnamed)
          (h.holds j b c s e.1 (ap (λ g. g.spot c) (sym (form_else j e.0)) ∙ js))))
          (at_new p.place k a j b bt);
      room = λ j b bt. ⊎_elim
          (λ (e : (j ≡ k) × (a ≡ b)). ap₂ (λ x g. covers m x g.bytes) (sym e.1) (form_here j e.0) ∙ spare.room)
          (λ (e : (j ≢ k) × (p.place j ≡ Some b)). ap (λ g. covers m b g.bytes) (form_else j e.0) ∙ h.room j b e.1)
          (at_new p.place k a j b bt);
      fine = λ j b bt. ⊎_elim
          (λ (e : (j ≡ k) × (a ≡ b)). subst (λ g. Fine g) (sym (form_here j e.0)) good)
          (λ (e : (j ≢ k) × (p.place j ≡ Some b)). subst (λ g. Fine g) (sym (form_else j e.0)) (h.fine j b e.1))
          (at_new p.place k a j b bt);
      apart = new_apart;
      pointed = named_new named some;
      areas = h.areas;
      bytes = h.bytes;
    }

    -- other spare memory stays spare
    pub spare_create : (q n : ℕ) → Spare o p m q n → Clear a f.bytes q n → Spare (create k f cells o) (with_new named k a p) m q n
    spare_create q n other clear = record {
      room = other.room;
      apart = λ j b bt. ⊎_elim
          (λ (e : (j ≡ k) × (a ≡ b)). subst (λ g. Clear b g.bytes q n) (sym (form_here j e.0)) (subst (λ x. Clear x f.bytes q n) e.1 clear))
          (λ (e : (j ≢ k) × (p.place j ≡ Some b)). subst (λ g. Clear b g.bytes q n) (sym (form_else j e.0)) (other.apart j b e.1))
          (at_new p.place k a j b bt);
    }

-- a part of spare memory
pub spare_part : (o : Objects) (p : Placing) (m : List Area) (q n r i : ℕ) → Spare o p m q n → q ≤ r → r + i ≤ q + n → Spare o p m r i
spare_part o p m q n r i h le fits = record {
  room = covers-part m q n r i h.room le fits;
  apart = λ k a e. clear_within a (o.form k).bytes q n a (o.form k).bytes r i (h.apart k a e) (omega arith) (omega arith) le fits;
}

pub zeros_part : (m : List Area) (q n r i : ℕ) → Zeros m q n → q ≤ r → r + i ≤ q + n → Zeros m r i
zeros_part m q n r i h le fits = record { at = λ x l a b c. h.at x l (omega (arith, a, le)) (omega (arith, b, fits)) c }

-- a scalar in zeros is zero
pub zero_scalar : (m : List Area) (a : ℕ) (f : Body) (c : ℕ) (s : Spot) → Fine f → Zeros m a f.bytes → f.spot c ≡ Some s → load s.small m (a + s.at) ≡ 0
zero_scalar m a f c s good z is =
    let g = good.within c s is in
    load_zero s.small m (a + s.at) (z.at (a + s.at) (scalar_bytes s.small) (omega arith) (omega (arith, g)) (span_some s.small))

-- an object that is gone
gone : (w : ℕ → Option ℕ) (k j b : ℕ) → cond (nat_eq j k) None (w j) ≡ Some b → (j ≢ k) × (w j ≡ Some b)
gone w k j b e = ⊎_elim
    (λ (s : j ≡ k). let f : None ≡ Some b = sym (ap (λ t. cond t None (w j)) (eq-eqb j k s)) ∙ e in absurd (some_or_none {w = None} f refl))
    (λ (n : j ≢ k). (n, sym (ap (λ t. cond t None (w j)) (ne_eqb j k n)) ∙ e))
    (cases_eq j k)

pub place_without : (k j b : ℕ) (p : Placing) → (without k p).place j ≡ Some b → (j ≢ k) × (p.place j ≡ Some b)
place_without k j b p e = gone p.place k j b e

pub means_without : (k : ℕ) (p : Placing) (v : Cell) (x : ℕ) → Means p v x → Means (without k p) v x
means_without k p (Number n) x h = h
means_without k p (Pointer j) x h = h
means_without k p (Routine f) x h = h
means_without k p (Tag t) x h = h

stays : (w : ℕ → Option ℕ) (k j b : ℕ) → j ≢ k → w j ≡ Some b → cond (nat_eq j k) None (w j) ≡ Some b
stays w k j b ne e = ap (λ t. cond t None (w j)) (ne_eqb j k ne) ∙ e

-- an object goes that no pointer may name
pub kept_without : (o : Objects) (p : Placing) (m : List Area) (k : ℕ) → Kept o p m → p.heap k ≡ None → Kept o (without k p) m
kept_without o p m k h unnamed = record {
  holds = λ j b c s bt js. means_without k p (o.cell j c) (load s.small m (b + s.at)) (h.holds j b c s (place_without k j b p bt).1 js);
  room = λ j b bt. h.room j b (place_without k j b p bt).1;
  fine = λ j b bt. h.fine j b (place_without k j b p bt).1;
  apart = λ i j a b ne u v. h.apart i j a b ne (place_without k i a p u).1 (place_without k j b p v).1;
  pointed = λ j x e. (stays p.place k j x (λ s. some_or_none (ap p.heap (sym s) ∙ e) unnamed) (h.pointed j x e).0, (h.pointed j x e).1);
  areas = h.areas;
  bytes = h.bytes;
}

-- its bytes, and spare memory behind them, are spare again
pub spare_without : (o : Objects) (p : Placing) (m : List Area) (k a n : ℕ) → Kept o p m → p.place k ≡ Some a → Spare o p m (a + (o.form k).bytes) n → covers m a ((o.form k).bytes + n) ≡ true → Spare o (without k p) m a ((o.form k).bytes + n)
spare_without o p m k a n h at behind room = record {
  room = room;
  apart = λ j b bt. let g = place_without k j b p bt in clear_join b (o.form j).bytes a (o.form k).bytes n (h.apart j k b a g.0 g.1 at) (behind.apart j b g.1);
}

-- for what was there before it came, nothing has changed
pub grows_without : (k a : ℕ) (p q : Placing) → p.place k ≡ None → Grows (with_new false k a p) q → p.heap k ≡ None → Grows p (without k q)
grows_without k a p q fresh g unnamed = record {
  place = λ j b e. stays q.place k j b (λ s. some_or_none (ap p.place (sym s) ∙ e) fresh) (g.place j b (at_old p.place k a j b fresh e));
  heap = λ j b e. g.heap j b e;
  code = λ j b e. g.code j b e;
  descriptor = λ j b e. g.descriptor j b e;
}

-- two pointers are equal where their numbers are
pub pointers_one : (o : Objects) (p : Placing) (m : List Area) (i j x : ℕ) → Kept o p m → p.heap i ≡ Some x → p.heap j ≡ Some x → 0 < (o.form i).bytes → 0 < (o.form j).bytes → i ≡ j
pointers_one o p m i j x h u v some more = ⊎_elim
    (λ (e : i ≡ j). e)
    (λ (n : i ≢ j). absurd ((h.apart i j x x n (h.pointed i x u).0 (h.pointed j x v).0).at x (omega arith) (omega (arith, some)) (omega arith) (omega (arith, more))))
    (cases_eq i j)
