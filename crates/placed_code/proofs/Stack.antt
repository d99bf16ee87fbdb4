-- The stack: one area of the machine's memory, of which the flows' memory knows nothing.
use Rattle.std.proofs.Common.{◌≡◌, ℕ, zero, suc, get_or, Option, ◌+◌, ◌*◌, ◌<◌, ◌≤◌, ◌%◌, ◌^◌, List, [], ◌∷◌, ◌++◌, length, Bool, true, false, cond, Some, None, refl, arith, sym, ap, ◌∙◌, subst, w64, lit<}
use Rattle.std.specs.Int.{from_le_bytes, to_le_bytes}
use Rattle.std.proofs.lemmas.Bool.Decides.{nat_tests}
use Rattle.a64_memory.specs.Memory.{Area, lies, covers, bytes_at, written, with_bytes, loaded1, loaded8, stored1, stored8, load1, load8, store1, store8, IsRising}
use Rattle.wrapping_numbers.specs.Numbers.{add64}
use Rattle.a64_memory.specs.Areas.{frames_base, frames_bytes}
use Rattle.a64_memory.specs.Texts.{Text, Bytes, Outside, before, text_with, text_at}
use Rattle.placed_code.specs.Words.{most_frame}
use Rattle.a64_memory.proofs.Stores.{length-written, rising-with_bytes}
use Rattle.a64_memory.proofs.Cells.{rising-stored8}
use Rattle.a64_memory.proofs.Beside.{covers_among, bytes_among, store_among, covers_beside, bytes_beside, store_beside, in_area, not_in_area}

-- the number at an address of the stack, and the stack with another number there
abbrev pub held : Area → ℕ → ℕ
held s p = loaded8 (s ∷ []) p

abbrev pub with_held : Area → ℕ → ℕ → Area
with_held s p v = written s p (to_le_bytes w64 v)

one_area : (s : Area) (p v : ℕ) → lies s p 8 ≡ true → with_held s p v ∷ [] ≡ stored8 (s ∷ []) p v
one_area s p v h = sym (ap (λ b. cond b (written s p (to_le_bytes w64 v) ∷ []) (s ∷ [])) h)

-- the flows' memory, and the machine's, which is the same with the stack among its areas
pub record Memories (flows : List Area) (s : Area) (machine : List Area) : Type 0 where
  pub below : List Area
  pub above : List Area
  pub without : flows ≡ below ++ above
  pub among : machine ≡ below ++ s ∷ above
  pub rises : IsRising 0 machine

module _ (m : List Area) (s : Area) (a : List Area) (ms : Memories m s a) where
  covers_stack : (p : ℕ) → lies s p 8 ≡ true → covers a p 8 ≡ true
  covers_stack p h = ap (λ (x : List Area). covers x p 8) ms.among ∙ covers_among ms.below ms.above s p 8 h

  not_below : (p : ℕ) → lies s p 8 ≡ true → covers ms.below p 8 ≡ false
  not_below p h = in_area ms.below ms.above s 0 p 8 (subst (λ (x : List Area). IsRising 0 x) ms.among ms.rises) h (lit< tt)

  pub load_stack : (p : ℕ) → lies s p 8 ≡ true → load8 a p ≡ Some (held s p)
  load_stack p h =
      ap (λ (b : Bool). cond b (Some (loaded8 a p)) None) (covers_stack p h)
      ∙ ap (λ (x : List Area). Some (loaded8 x p)) ms.among
      ∙ ap (λ (bs : List ℕ). Some (from_le_bytes w64 bs)) (bytes_among ms.below ms.above s p 8 (not_below p h) h)

  pub store_stack : (p v : ℕ) → lies s p 8 ≡ true → store8 a p v ≡ Some (stored8 a p v)
  store_stack p v h = ap (λ (b : Bool). cond b (Some (stored8 a p v)) None) (covers_stack p h)

  pub memories_stored : (p v : ℕ) → lies s p 8 ≡ true → Memories m (with_held s p v) (stored8 a p v)
  memories_stored p v h = record {
    below = ms.below;
    above = ms.above;
    without = ms.without;
    among = ap (λ (x : List Area). stored8 x p v) ms.among ∙ store_among ms.below ms.above s p (to_le_bytes w64 v) (not_below p h) h;
    rises = rising-stored8 a 0 p v ms.rises;
  }

  -- what the flows load and store, the machine does too, beside the stack
  beside : (p n : ℕ) → 0 < n → covers m p n ≡ true → lies s p n ≡ false
  beside p n some c = not_in_area ms.below ms.above s 0 p n (subst (λ (x : List Area). IsRising 0 x) ms.among ms.rises) (ap (λ (x : List Area). covers x p n) (sym ms.without) ∙ c) some

  covered_too : (p n : ℕ) → 0 < n → covers m p n ≡ true → covers a p n ≡ true
  covered_too p n some c = ap (λ (x : List Area). covers x p n) ms.among ∙ covers_beside ms.below ms.above s p n (beside p n some c) ∙ ap (λ (x : List Area). covers x p n) (sym ms.without) ∙ c

  bytes_too : (p n : ℕ) → 0 < n → covers m p n ≡ true → bytes_at a p n ≡ bytes_at m p n
  bytes_too p n some c =
      ap (λ (x : List Area). bytes_at x p n) ms.among
      ∙ bytes_beside ms.below ms.above s p n (beside p n some c)
      ∙ ap (λ (x : List Area). bytes_at x p n) (sym ms.without)

  pub load_flows : (p x : ℕ) → load8 m p ≡ Some x → load8 a p ≡ Some x
  load_flows p x e = at (covers m p 8) refl e
    where
      at : (b : Bool) → covers m p 8 ≡ b → cond b (Some (loaded8 m p)) None ≡ Some x → load8 a p ≡ Some x
      at true c e = ap (λ (b : Bool). cond b (Some (loaded8 a p)) None) (covered_too p 8 (lit< tt) c) ∙ ap (λ (bs : List ℕ). Some (from_le_bytes w64 bs)) (bytes_too p 8 (lit< tt) c) ∙ e
      at false c e = cc

  pub load_flows_byte : (p x : ℕ) → load1 m p ≡ Some x → load1 a p ≡ Some x
  load_flows_byte p x e = at (covers m p 1) refl e
    where
      at : (b : Bool) → covers m p 1 ≡ b → cond b (Some (loaded1 m p)) None ≡ Some x → load1 a p ≡ Some x
      at true c e = ap (λ (b : Bool). cond b (Some (loaded1 a p)) None) (covered_too p 1 (lit< tt) c) ∙ ap (λ (bs : List ℕ). Some (get_or bs 0 0)) (bytes_too p 1 (lit< tt) c) ∙ e
      at false c e = cc

  pub record StoredToo (t : List Area) (p : ℕ) (bs : List ℕ) : Type 0 where
    pub memories : Memories t s (with_bytes a p bs)

  stored_too : (p : ℕ) (bs : List ℕ) → 0 < length bs → covers m p (length bs) ≡ true → StoredToo (with_bytes m p bs) p bs
  stored_too p bs some c =
      let r = store_beside ms.below ms.above s p bs (beside p (length bs) some c) in
      record {
        memories = record {
          below = r.below;
          above = r.above;
          without = ap (λ (x : List Area). with_bytes x p bs) ms.without ∙ r.without;
          among = ap (λ (x : List Area). with_bytes x p bs) ms.among ∙ r.among;
          rises = rising-with_bytes a 0 p bs ms.rises;
        };
      }

  pub store_flows : (p v : ℕ) (t : List Area) → store8 m p v ≡ Some t → (after : List Area) × (store8 a p v ≡ Some after) × Memories t s after
  store_flows p v t e = at (covers m p 8) refl e
    where
      at : (b : Bool) → covers m p 8 ≡ b → cond b (Some (stored8 m p v)) None ≡ Some t → (after : List Area) × (store8 a p v ≡ Some after) × Memories t s after
      at true c e =
          let same : stored8 m p v ≡ t = cc in
          let r = stored_too p (to_le_bytes w64 v) (lit< tt) c in
          (stored8 a p v, ap (λ (b : Bool). cond b (Some (stored8 a p v)) None) (covered_too p 8 (lit< tt) c), subst (λ (x : List Area). Memories x s (stored8 a p v)) same r.memories)
      at false c e = cc

  pub store_flows_byte : (p v : ℕ) (t : List Area) → store1 m p v ≡ Some t → (after : List Area) × (store1 a p v ≡ Some after) × Memories t s after
  store_flows_byte p v t e = at (covers m p 1) refl e
    where
      at : (b : Bool) → covers m p 1 ≡ b → cond b (Some (stored1 m p v)) None ≡ Some t → (after : List Area) × (store1 a p v ≡ Some after) × Memories t s after
      at true c e =
          let same : stored1 m p v ≡ t = cc in
          let r = stored_too p (v % 2 ^ 8 ∷ []) (lit< tt) c in
          (stored1 a p v, ap (λ (b : Bool). cond b (Some (stored1 a p v)) None) (covered_too p 1 (lit< tt) c), subst (λ (x : List Area). Memories x s (stored1 a p v)) same r.memories)
      at false c e = cc

  -- a text that lies in the flows' memory is the same in the machine's
  pub text_flows : (by most p : ℕ) (bytes : List ℕ) → text_at m by p most ≡ Bytes bytes → text_at a by p most ≡ Bytes bytes
  text_flows by zero p bytes e = let same : [] ≡ bytes = cc in ap Bytes same
  text_flows by (suc most) p bytes e = at (λ xs e. text_flows by most (add64 p by) xs e) (load1 m p) refl e
    where
      after : (t : Text) (n : ℕ) (bs : List ℕ) → before n t ≡ Bytes bs → (xs : List ℕ) × (t ≡ Bytes xs) × (n ∷ xs ≡ bs)
      after (Bytes xs) n bs e = (xs, refl, cc)
      after (Outside z) n bs e = cc

      at : ((xs : List ℕ) → text_at m by (add64 p by) most ≡ Bytes xs → text_at a by (add64 p by) most ≡ Bytes xs) → (o : Option ℕ) → load1 m p ≡ o → text_with o p (text_at m by (add64 p by) most) ≡ Bytes bytes → text_at a by p (suc most) ≡ Bytes bytes
      at rest None i e = cc
      at rest (Some zero) i e =
          let same : [] ≡ bytes = cc in
          ap (λ (o : Option ℕ). text_with o p (text_at a by (add64 p by) most)) (load_flows_byte p zero i) ∙ ap Bytes same
      at rest (Some (suc n)) i e =
          let r = after (text_at m by (add64 p by) most) (suc n) bytes e in
          let same = rest r.0 r.1 in
          ap (λ (o : Option ℕ). text_with o p (text_at a by (add64 p by) most)) (load_flows_byte p (suc n) i) ∙ ap (before (suc n)) same ∙ ap Bytes r.2

-- the stack's place, and so many slots in it from an address on
pub record Space (frame : ℕ) (s : Area) (low slots : ℕ) : Type 0 where
  pub base : s.base ≡ frames_base
  pub size : length s.bytes ≡ frames_bytes frame
  pub small : frame ≤ most_frame
  pub bottom : frames_base ≤ low
  pub top : low + 8 * slots ≤ frames_base + frames_bytes frame

module _ (frame : ℕ) (s : Area) (low slots : ℕ) (sp : Space frame s low slots) where
  pub slot_lies : (j : ℕ) → j < slots → lies s (low + 8 * j) 8 ≡ true
  slot_lies j h = let a = sp.base in let b = sp.size in let c = sp.bottom in let d = sp.top in grind (arith, nat_tests)

  pub slot_address : (j : ℕ) → j < slots → (low + 8 * j) % 2 ^ 64 ≡ low + 8 * j
  slot_address j h = let b = sp.small in let d = sp.top in omega (arith, h, b, d)

  pub space_stored : (p v : ℕ) → lies s p 8 ≡ true → Space frame (with_held s p v) low slots
  space_stored p v h = record { base = sp.base; size = length-written s p (to_le_bytes w64 v) h ∙ sp.size; small = sp.small; bottom = sp.bottom; top = sp.top }
