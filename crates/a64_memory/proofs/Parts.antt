-- A memory with one area apart from the rest, such as the one of all frames: loads and stores in it and beside it.
use Rattle.std.proofs.Common.{◌≡◌, ℕ, get_or, ◌+◌, ◌<◌, ◌≤◌, ◌%◌, ◌^◌, ◌⊎◌, List, [], ◌∷◌, ◌++◌, length, Bool, true, false, ◌||◌, cond, Some, None, refl, sym, ap, ◌∙◌, subst, w64, lit<}
use Rattle.std.specs.Int.{from_le_bytes, to_le_bytes}
use Rattle.a64_memory.specs.Memory.{Area, lies, covers, bytes_at, written, with_bytes, loaded1, loaded8, stored1, stored8, load1, load8, store1, store8, IsRising}
use Rattle.a64_memory.proofs.Stores.{rising-with_bytes}
use Rattle.a64_memory.proofs.Cells.{loaded8-stored8_same, loaded8-stored8_apart, rising-stored8}
use Rattle.a64_memory.proofs.Beside.{covers_among, bytes_among, store_among, covers_beside, bytes_beside, store_beside, in_area, not_in_area}

-- the number at an address of an area, and the area with another number there
abbrev pub held : Area → ℕ → ℕ
held s p = loaded8 (s ∷ []) p

abbrev pub with_held : Area → ℕ → ℕ → Area
with_held s p v = written s p (to_le_bytes w64 v)

one_area : (s : Area) (p v : ℕ) → lies s p 8 ≡ true → with_held s p v ∷ [] ≡ stored8 (s ∷ []) p v
one_area s p v h = sym (ap (λ b. cond b (written s p (to_le_bytes w64 v) ∷ []) (s ∷ [])) h)

pub held_same : (s : Area) (p v : ℕ) → lies s p 8 ≡ true → v < 2 ^ 64 → held (with_held s p v) p ≡ v
held_same s p v h small = ap (λ (m : List Area). loaded8 m p) (one_area s p v h) ∙ loaded8-stored8_same (s ∷ []) p v (ap (λ b. b || false) h) small

pub held_apart : (s : Area) (p v q : ℕ) → lies s p 8 ≡ true → (q + 8 ≤ p) ⊎ (p + 8 ≤ q) → held (with_held s p v) q ≡ held s q
held_apart s p v q h d = ap (λ (m : List Area). loaded8 m q) (one_area s p v h) ∙ loaded8-stored8_apart (s ∷ []) p v q d

-- the whole memory is the rest of it with the area s among its areas, one above the other
pub record HasArea (rest : List Area) (s : Area) (whole : List Area) : Type 0 where
  pub below : List Area
  pub above : List Area
  pub without : rest ≡ below ++ above
  pub among : whole ≡ below ++ s ∷ above
  pub rises : IsRising 0 whole

module _ (m : List Area) (s : Area) (a : List Area) (has : HasArea m s a) where
  -- a load and a store of eight bytes in the area
  covers_area : (p : ℕ) → lies s p 8 ≡ true → covers a p 8 ≡ true
  covers_area p h = ap (λ (x : List Area). covers x p 8) has.among ∙ covers_among has.below has.above s p 8 h

  not_below : (p : ℕ) → lies s p 8 ≡ true → covers has.below p 8 ≡ false
  not_below p h = in_area has.below has.above s 0 p 8 (subst (λ (x : List Area). IsRising 0 x) has.among has.rises) h (lit< tt)

  pub load_area : (p : ℕ) → lies s p 8 ≡ true → load8 a p ≡ Some (held s p)
  load_area p h =
      ap (λ (b : Bool). cond b (Some (loaded8 a p)) None) (covers_area p h)
      ∙ ap (λ (x : List Area). Some (loaded8 x p)) has.among
      ∙ ap (λ (bs : List ℕ). Some (from_le_bytes w64 bs)) (bytes_among has.below has.above s p 8 (not_below p h) h)

  pub store_area : (p v : ℕ) → lies s p 8 ≡ true → store8 a p v ≡ Some (stored8 a p v)
  store_area p v h = ap (λ (b : Bool). cond b (Some (stored8 a p v)) None) (covers_area p h)

  pub area_stored : (p v : ℕ) → lies s p 8 ≡ true → HasArea m (with_held s p v) (stored8 a p v)
  area_stored p v h = record {
    below = has.below;
    above = has.above;
    without = has.without;
    among = ap (λ (x : List Area). stored8 x p v) has.among ∙ store_among has.below has.above s p (to_le_bytes w64 v) (not_below p h) h;
    rises = rising-stored8 a 0 p v has.rises;
  }

  -- what is loaded and stored in the rest is so in the whole, beside the area
  beside : (p n : ℕ) → 0 < n → covers m p n ≡ true → lies s p n ≡ false
  beside p n some c = not_in_area has.below has.above s 0 p n (subst (λ (x : List Area). IsRising 0 x) has.among has.rises) (ap (λ (x : List Area). covers x p n) (sym has.without) ∙ c) some

  covered_too : (p n : ℕ) → 0 < n → covers m p n ≡ true → covers a p n ≡ true
  covered_too p n some c = ap (λ (x : List Area). covers x p n) has.among ∙ covers_beside has.below has.above s p n (beside p n some c) ∙ ap (λ (x : List Area). covers x p n) (sym has.without) ∙ c

  bytes_too : (p n : ℕ) → 0 < n → covers m p n ≡ true → bytes_at a p n ≡ bytes_at m p n
  bytes_too p n some c =
      ap (λ (x : List Area). bytes_at x p n) has.among
      ∙ bytes_beside has.below has.above s p n (beside p n some c)
      ∙ ap (λ (x : List Area). bytes_at x p n) (sym has.without)

  pub load_rest : (p x : ℕ) → load8 m p ≡ Some x → load8 a p ≡ Some x
  load_rest p x e = at (covers m p 8) refl e
    where
      at : (b : Bool) → covers m p 8 ≡ b → cond b (Some (loaded8 m p)) None ≡ Some x → load8 a p ≡ Some x
      at true c e = ap (λ (b : Bool). cond b (Some (loaded8 a p)) None) (covered_too p 8 (lit< tt) c) ∙ ap (λ (bs : List ℕ). Some (from_le_bytes w64 bs)) (bytes_too p 8 (lit< tt) c) ∙ e
      at false c e = cc

  pub load_rest_byte : (p x : ℕ) → load1 m p ≡ Some x → load1 a p ≡ Some x
  load_rest_byte p x e = at (covers m p 1) refl e
    where
      at : (b : Bool) → covers m p 1 ≡ b → cond b (Some (loaded1 m p)) None ≡ Some x → load1 a p ≡ Some x
      at true c e = ap (λ (b : Bool). cond b (Some (loaded1 a p)) None) (covered_too p 1 (lit< tt) c) ∙ ap (λ (bs : List ℕ). Some (get_or bs 0 0)) (bytes_too p 1 (lit< tt) c) ∙ e
      at false c e = cc

  stored_too : (p : ℕ) (bs : List ℕ) → 0 < length bs → covers m p (length bs) ≡ true → HasArea (with_bytes m p bs) s (with_bytes a p bs)
  stored_too p bs some c =
      let r = store_beside has.below has.above s p bs (beside p (length bs) some c) in
      record {
        below = r.below;
        above = r.above;
        without = ap (λ (x : List Area). with_bytes x p bs) has.without ∙ r.without;
        among = ap (λ (x : List Area). with_bytes x p bs) has.among ∙ r.among;
        rises = rising-with_bytes a 0 p bs has.rises;
      }

  pub store_rest : (p v : ℕ) (t : List Area) → store8 m p v ≡ Some t → (after : List Area) × (store8 a p v ≡ Some after) × HasArea t s after
  store_rest p v t e = at (covers m p 8) refl e
    where
      at : (b : Bool) → covers m p 8 ≡ b → cond b (Some (stored8 m p v)) None ≡ Some t → (after : List Area) × (store8 a p v ≡ Some after) × HasArea t s after
      at true c e =
          let same : stored8 m p v ≡ t = cc in
          let r = stored_too p (to_le_bytes w64 v) (lit< tt) c in
          (stored8 a p v, ap (λ (b : Bool). cond b (Some (stored8 a p v)) None) (covered_too p 8 (lit< tt) c), subst (λ (x : List Area). HasArea x s (stored8 a p v)) same r)
      at false c e = cc

  pub store_rest_byte : (p v : ℕ) (t : List Area) → store1 m p v ≡ Some t → (after : List Area) × (store1 a p v ≡ Some after) × HasArea t s after
  store_rest_byte p v t e = at (covers m p 1) refl e
    where
      at : (b : Bool) → covers m p 1 ≡ b → cond b (Some (stored1 m p v)) None ≡ Some t → (after : List Area) × (store1 a p v ≡ Some after) × HasArea t s after
      at true c e =
          let same : stored1 m p v ≡ t = cc in
          let r = stored_too p (v % 2 ^ 8 ∷ []) (lit< tt) c in
          (stored1 a p v, ap (λ (b : Bool). cond b (Some (stored1 a p v)) None) (covered_too p 1 (lit< tt) c), subst (λ (x : List Area). HasArea x s (stored1 a p v)) same r)
      at false c e = cc
