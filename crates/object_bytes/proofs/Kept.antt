-- Memory goes on holding the objects: over stores, new objects, objects that go, and copies.
use Rattle.std.proofs.Common.{◌≡◌, ◌≢◌, ℕ, ◌+◌, ◌^◌, ◌%◌, ◌<◌, ◌≤◌, ◌⊎◌, ⊎_elim, inl, inr, List, [], ◌∷◌, replicate, get_or, Bool, true, false, cond, ◌&&◌, nat_eq, sym, ap, ap₂, ◌∙◌, subst, arith, Option, Some, eq-eqb, ne_eqb, mod-eq_of_lt, w64}
use Rattle.std.proofs.lemmas.Bool.{cases_lt, cases_eq}
use Rattle.std.specs.Int.{from_le_bytes, to_le_bytes}
use Rattle.a64_memory.specs.Memory.{Area, covers, bytes_at, IsRising, IsOfBytes}
use Rattle.a64_memory.proofs.Stores.{covers-with_bytes, rising-with_bytes, of_bytes-with_bytes, bytes_at-with_bytes_apart}
use Rattle.a64_memory.proofs.Cells.{loaded8-stored8_same, loaded1-stored1_same, loaded8-stored8_apart, loaded8-stored1_apart, loaded1-stored8_apart, loaded1-stored1_apart, bytes_of_1, bytes_of_8}
use Rattle.a64_memory.proofs.Blocks.{covers-part}
use Rattle.ob_types.specs.Trees.{scalar_bytes}
use Rattle.object_nodes.specs.Addresses.{Sides}
use Rattle.object_bytes.specs.Layouts.{Spot}
use Rattle.object_bytes.specs.Objects.{Cell, Number, Pointer, Routine, Tag, Objects, write, Placing, Means, Grows, load, store, limit, Clear, Kept, Spare, Zeros}

-- stores by width
pub covers_store : (b : Bool) (m : List Area) (p v q n : ℕ) → covers (store b m p v) q n ≡ covers m q n
covers_store true m p v q n = covers-with_bytes m p (v % 2 ^ 8 ∷ []) q n
covers_store false m p v q n = covers-with_bytes m p (to_le_bytes w64 v) q n

pub areas_store : (b : Bool) (m : List Area) (p v : ℕ) → IsRising 0 m → IsRising 0 (store b m p v)
areas_store true m p v r = rising-with_bytes m 0 p (v % 2 ^ 8 ∷ []) r
areas_store false m p v r = rising-with_bytes m 0 p (to_le_bytes w64 v) r

pub bytes_store : (b : Bool) (m : List Area) (p v : ℕ) → IsOfBytes m → IsOfBytes (store b m p v)
bytes_store true m p v r = of_bytes-with_bytes m p (v % 2 ^ 8 ∷ []) (bytes_of_1 v) r
bytes_store false m p v r = of_bytes-with_bytes m p (to_le_bytes w64 v) (bytes_of_8 v) r

pub load_same : (b : Bool) (m : List Area) (p v : ℕ) → covers m p (scalar_bytes b) ≡ true → v < limit b → load b (store b m p v) p ≡ v
load_same true m p v c lt = loaded1-stored1_same m p v c ∙ mod-eq_of_lt lt
load_same false m p v c lt = loaded8-stored8_same m p v c lt

pub load_apart : (b d : Bool) (m : List Area) (p v q : ℕ) → Sides q (scalar_bytes d) p (scalar_bytes b) → load d (store b m p v) q ≡ load d m q
load_apart true true m p v q c = loaded1-stored1_apart m p v q c
load_apart true false m p v q c = loaded8-stored1_apart m p v q c
load_apart false true m p v q c = loaded1-stored8_apart m p v q c
load_apart false false m p v q c = loaded8-stored8_apart m p v q c

pub bytes_apart : (b : Bool) (m : List Area) (p v q n : ℕ) → Sides q n p (scalar_bytes b) → bytes_at (store b m p v) q n ≡ bytes_at m q n
bytes_apart true m p v q n c = bytes_at-with_bytes_apart m p (v % 2 ^ 8 ∷ []) q n c
bytes_apart false m p v q n c = bytes_at-with_bytes_apart m p (to_le_bytes w64 v) q n c

-- a load is of its bytes alone
pub load_bytes : (b : Bool) (m t : List Area) (q r : ℕ) → bytes_at m q (scalar_bytes b) ≡ bytes_at t r (scalar_bytes b) → load b m q ≡ load b t r
load_bytes true m t q r e = ap (λ l. get_or l 0 0) e
load_bytes false m t q r e = ap (from_le_bytes w64) e

pub load_zero : (b : Bool) (m : List Area) (q : ℕ) → bytes_at m q (scalar_bytes b) ≡ replicate (scalar_bytes b) 0 → load b m q ≡ 0
load_zero true m q e = ap (λ l. get_or l 0 0) e
load_zero false m q e = ap (from_le_bytes w64) e

-- parts of clear blocks are clear
pub clear_within : (a l q n b k r i : ℕ) → Clear a l q n → a ≤ b → b + k ≤ a + l → q ≤ r → r + i ≤ q + n → Clear b k r i
clear_within a l q n b k r i h e f g u = record { at = λ x c d s v. h.at x (omega (arith, c, e)) (omega (arith, d, f)) (omega (arith, s, g)) (omega (arith, v, u)) }

pub clear_swap : (a l q n : ℕ) → Clear a l q n → Clear q n a l
clear_swap a l q n h = record { at = λ x c d s v. h.at x s v c d }

pub clear_sides : (a l q n : ℕ) → 0 < l → 0 < n → Clear a l q n → Sides a l q n
clear_sides a l q n some more h = ⊎_elim
    (λ (f : q < a + l). ⊎_elim
    (λ (g : a < q + n). ⊎_elim
    (λ (le : a < q). absurd (h.at q (omega (arith, le)) f (omega arith) (omega (arith, more))))
    (λ (ge : q ≤ a). absurd (h.at a (omega arith) (omega (arith, some)) ge g))
    (cases_lt a q))
    (λ (g : q + n ≤ a). inr g)
    (cases_lt a (q + n)))
    (λ (f : a + l ≤ q). inl f)
    (cases_lt q (a + l))

pub sides_clear : (a l q n : ℕ) → Sides a l q n → Clear a l q n
sides_clear a l q n (inl h) = record { at = λ x c d s v. absurd (omega (arith, h, c, d, s, v)) }
sides_clear a l q n (inr h) = record { at = λ x c d s v. absurd (omega (arith, h, c, d, s, v)) }

-- two clear neighbours
pub clear_join : (a l q n k : ℕ) → Clear a l q n → Clear a l (q + n) k → Clear a l q (n + k)
clear_join a l q n k h g = record { at = λ x c d s v. ⊎_elim (λ (lt : x < q + n). h.at x c d s lt) (λ (ge : q + n ≤ x). g.at x c d ge (omega (arith, v))) (cases_lt x (q + n)) }

pub span_some : (b : Bool) → 0 < scalar_bytes b
span_some true = omega arith
span_some false = omega arith

pub means_grows : (p q : Placing) (v : Cell) (x : ℕ) → Grows p q → Means p v x → Means q v x
means_grows p q (Number n) x g h = h
means_grows p q (Pointer k) x g h = g.heap k x h
means_grows p q (Routine f) x g h = g.code f x h
means_grows p q (Tag t) x g h = g.descriptor t x h

pub grows_refl : (p : Placing) → Grows p p
grows_refl p = record { place = λ k x h. h; heap = λ k x h. h; code = λ k x h. h; descriptor = λ k x h. h }

pub grows_on : (p q r : Placing) → Grows p q → Grows q r → Grows p r
grows_on p q r a b = record { place = λ k x h. b.place k x (a.place k x h); heap = λ k x h. b.heap k x (a.heap k x h); code = λ k x h. b.code k x (a.code k x h); descriptor = λ k x h. b.descriptor k x (a.descriptor k x h) }

-- a scalar of an object lies in its bytes
pub scalar_room : (o : Objects) (p : Placing) (m : List Area) (k a c : ℕ) (s : Spot) → Kept o p m → p.place k ≡ Some a → (o.form k).spot c ≡ Some s → covers m (a + s.at) (scalar_bytes s.small) ≡ true
scalar_room o p m k a c s h at is =
    let g1 = (h.fine k a at).within c s is in
    covers-part m a (o.form k).bytes (a + s.at) (scalar_bytes s.small) (h.room k a at) (omega arith) (omega (arith, g1))

one_place : {x y : ℕ} {w : Option ℕ} → w ≡ Some x → w ≡ Some y → x ≡ y
one_place e f = cc

one_spot : {x y : Spot} {w : Option Spot} → w ≡ Some x → w ≡ Some y → x ≡ y
one_spot e f = cc

-- another scalar, of this object or another, shares no byte with this one
scalars_apart : (o : Objects) (p : Placing) (m : List Area) (k a c : ℕ) (s : Spot) (j b d : ℕ) (t : Spot) → Kept o p m
    → p.place k ≡ Some a → (o.form k).spot c ≡ Some s → p.place j ≡ Some b → (o.form j).spot d ≡ Some t
    → (j ≢ k) ⊎ ((j ≡ k) × (d ≢ c)) → Sides (b + t.at) (scalar_bytes t.small) (a + s.at) (scalar_bytes s.small)
scalars_apart o p m k a c s j b d t h at is bt js (inl ne) =
    let f = (h.fine k a at).within c s is in
    let g = (h.fine j b bt).within d t js in
    clear_sides (b + t.at) (scalar_bytes t.small) (a + s.at) (scalar_bytes s.small) (span_some t.small) (span_some s.small)
    (clear_within b (o.form j).bytes a (o.form k).bytes (b + t.at) (scalar_bytes t.small) (a + s.at) (scalar_bytes s.small) (h.apart j k b a ne bt at) (omega arith) (omega (arith, g)) (omega arith) (omega (arith, f)))
scalars_apart o p m k a c s j b d t h at is bt js (inr both) =
    let same = both.0 in
    let e : b ≡ a = one_place bt (ap p.place same ∙ at) in
    let js' : (o.form k).spot d ≡ Some t = ap (λ i. (o.form i).spot d) (sym same) ∙ js in
    beyond (h.fine k a at).apart e js'
  where
    beyond : ((c d : ℕ) (s t : Spot) → c ≢ d → (o.form k).spot c ≡ Some s → (o.form k).spot d ≡ Some t → Sides s.at (scalar_bytes s.small) t.at (scalar_bytes t.small)) → b ≡ a → (o.form k).spot d ≡ Some t → Sides (b + t.at) (scalar_bytes t.small) (a + s.at) (scalar_bytes s.small)
    beyond sides e js' = ⊎_elim (λ g. inl (omega (arith, g, e))) (λ g. inr (omega (arith, g, e))) (sides d c t s both.1 js' is)

pub here_or_not : (j d k c : ℕ) → ((j ≡ k) × (d ≡ c)) ⊎ ((j ≢ k) ⊎ ((j ≡ k) × (d ≢ c)))
here_or_not j d k c = ⊎_elim
    (λ (e : j ≡ k). ⊎_elim (λ (f : d ≡ c). inl (e, f)) (λ (f : d ≢ c). inr (inr (e, f))) (cases_eq d c))
    (λ (e : j ≢ k). inr (inl e))
    (cases_eq j k)

pub test_same : (j d k c : ℕ) → j ≡ k → d ≡ c → (nat_eq j k && nat_eq d c) ≡ true
test_same j d k c e f = ap₂ (λ a b. a && b) (eq-eqb j k e) (eq-eqb d c f)

pub test_else : (j d k c : ℕ) → (j ≢ k) ⊎ ((j ≡ k) × (d ≢ c)) → (nat_eq j k && nat_eq d c) ≡ false
test_else j d k c (inl e) = ap (λ a. a && nat_eq d c) (ne_eqb j k e)
test_else j d k c (inr e) = ap₂ (λ a b. a && b) (eq-eqb j k e.0) (ne_eqb d c e.1)

-- a load of a cell
pub kept_load : (o : Objects) (p : Placing) (m : List Area) (k a c : ℕ) (s : Spot) → Kept o p m → p.place k ≡ Some a → (o.form k).spot c ≡ Some s → Means p (o.cell k c) (load s.small m (a + s.at))
kept_load o p m k a c s h at is = h.holds k a c s at is

-- a store of a cell
pub kept_store : (o : Objects) (p : Placing) (m : List Area) (k a c : ℕ) (s : Spot) (v : Cell) (x : ℕ) → Kept o p m → p.place k ≡ Some a → (o.form k).spot c ≡ Some s → Means p v x → x < limit s.small → Kept (write k c v o) p (store s.small m (a + s.at) x)
kept_store o p m k a c s v x h at is means lt = record {
  holds = λ j b d t bt js. ⊎_elim
      (λ (e : (j ≡ k) × (d ≡ c)).
      let f : b ≡ a = one_place bt (ap p.place e.0 ∙ at) in
      let g : t ≡ s = one_spot js (ap₂ (λ i z. (o.form i).spot z) e.0 e.1 ∙ is) in
      subst (λ w. Means p w (load t.small (store s.small m (a + s.at) x) (b + t.at))) (sym (ap (λ z. cond z v (o.cell j d)) (test_same j d k c e.0 e.1)))
      (subst (λ n. Means p v n) (sym (ap₂ (λ u z. load z.small (store s.small m (a + s.at) x) (u + z.at)) f g ∙ load_same s.small m (a + s.at) x (scalar_room o p m k a c s h at is) lt)) means))
      (λ (e : (j ≢ k) ⊎ ((j ≡ k) × (d ≢ c))).
      subst (λ w. Means p w (load t.small (store s.small m (a + s.at) x) (b + t.at))) (sym (ap (λ z. cond z v (o.cell j d)) (test_else j d k c e)))
      (subst (λ n. Means p (o.cell j d) n) (sym (load_apart s.small t.small m (a + s.at) x (b + t.at) (scalars_apart o p m k a c s j b d t h at is bt js e))) (h.holds j b d t bt js)))
      (here_or_not j d k c);
  room = λ j b bt. covers_store s.small m (a + s.at) x b (o.form j).bytes ∙ h.room j b bt;
  fine = h.fine;
  apart = h.apart;
  pointed = h.pointed;
  areas = areas_store s.small m (a + s.at) x h.areas;
  bytes = bytes_store s.small m (a + s.at) x h.bytes;
}

-- a store into an object leaves spare memory as it was
pub spare_store : (o : Objects) (p : Placing) (m : List Area) (k c : ℕ) (b : Bool) (v : Cell) (y x q n : ℕ) → Spare o p m q n → Spare (write k c v o) p (store b m y x) q n
spare_store o p m k c b v y x q n h = record { room = covers_store b m y x q n ∙ h.room; apart = h.apart }

pub zeros_store : (o : Objects) (p : Placing) (m : List Area) (k a c : ℕ) (s : Spot) (x q n : ℕ) → Kept o p m → p.place k ≡ Some a → (o.form k).spot c ≡ Some s → Spare o p m q n → Zeros m q n → Zeros (store s.small m (a + s.at) x) q n
zeros_store o p m k a c s x q n h at is spare z = record {
  at = λ r i le fits some.
      let g = (h.fine k a at).within c s is in
      bytes_apart s.small m (a + s.at) x r i
      (clear_sides r i (a + s.at) (scalar_bytes s.small) some (span_some s.small)
      (clear_within q n a (o.form k).bytes r i (a + s.at) (scalar_bytes s.small) (clear_swap a (o.form k).bytes q n (spare.apart k a at)) le fits (omega arith) (omega (arith, g))))
      ∙ z.at r i le fits some;
}
