-- Loads and stores of eight bytes and of one.
use Rattle.std.proofs.Common.{◌≡◌, ℕ, zero, suc, ◌+◌, ◌*◌, ◌/◌, ◌%◌, ◌^◌, ◌<◌, ◌≤◌, ◌⊎◌, ⊎_elim, inl, inr, List, [], ◌∷◌, get_or, Bool, true, false, cond, ◌==◌, Some, None, refl, arith, sym, ap, ap₂, ◌∙◌, eq-eqb, ne_eqb, w64}
use Rattle.std.proofs.lemmas.Bool.{cases_lt, cases_eq, cond-true, cond-false}
use Rattle.std.proofs.lemmas.Nat.{from_le_bytes-to_le_bytes_8}
use Rattle.std.specs.Int.{from_le_bytes, to_le_bytes}
use Rattle.a64_memory.specs.Memory.{Area, covers, loaded8, loaded1, stored8, stored1, load8, load1, store8, store1, IsRising, AreBytes, IsOfBytes, shapes}
use Rattle.a64_memory.proofs.Stores.{shapes-with_bytes, covers-with_bytes, rising-with_bytes, of_bytes-with_bytes, bytes_at-with_bytes_same, bytes_at-with_bytes_apart}

-- a load of what was stored
pub loaded8-stored8_same : (m : List Area) (p v : ℕ) → covers m p 8 ≡ true → v < 2 ^ 64 → loaded8 (stored8 m p v) p ≡ v
loaded8-stored8_same m p v c h = ap (from_le_bytes w64) (bytes_at-with_bytes_same m p (to_le_bytes w64 v) c) ∙ from_le_bytes-to_le_bytes_8 v h

pub loaded1-stored1_same : (m : List Area) (p v : ℕ) → covers m p 1 ≡ true → loaded1 (stored1 m p v) p ≡ v % 2 ^ 8
loaded1-stored1_same m p v c = ap (λ l. get_or l 0 0) (bytes_at-with_bytes_same m p (v % 2 ^ 8 ∷ []) c)

-- a load that shares no byte with the store
pub loaded8-stored8_apart : (m : List Area) (p v q : ℕ) → (q + 8 ≤ p) ⊎ (p + 8 ≤ q) → loaded8 (stored8 m p v) q ≡ loaded8 m q
loaded8-stored8_apart m p v q d = ap (from_le_bytes w64) (bytes_at-with_bytes_apart m p (to_le_bytes w64 v) q 8 d)

pub loaded8-stored1_apart : (m : List Area) (p v q : ℕ) → (q + 8 ≤ p) ⊎ (p + 1 ≤ q) → loaded8 (stored1 m p v) q ≡ loaded8 m q
loaded8-stored1_apart m p v q d = ap (from_le_bytes w64) (bytes_at-with_bytes_apart m p (v % 2 ^ 8 ∷ []) q 8 d)

pub loaded1-stored8_apart : (m : List Area) (p v q : ℕ) → (q + 1 ≤ p) ⊎ (p + 8 ≤ q) → loaded1 (stored8 m p v) q ≡ loaded1 m q
loaded1-stored8_apart m p v q d = ap (λ l. get_or l 0 0) (bytes_at-with_bytes_apart m p (to_le_bytes w64 v) q 1 d)

pub loaded1-stored1_apart : (m : List Area) (p v q : ℕ) → (q + 1 ≤ p) ⊎ (p + 1 ≤ q) → loaded1 (stored1 m p v) q ≡ loaded1 m q
loaded1-stored1_apart m p v q d = ap (λ l. get_or l 0 0) (bytes_at-with_bytes_apart m p (v % 2 ^ 8 ∷ []) q 1 d)

-- cells of eight bytes from an address on
pub loaded8-stored8_cell : (m : List Area) (p i j v : ℕ) → covers m (p + 8 * i) 8 ≡ true → v < 2 ^ 64 → loaded8 (stored8 m (p + 8 * i) v) (p + 8 * j) ≡ cond (i == j) v (loaded8 m (p + 8 * j))
loaded8-stored8_cell m p i j v c h = ⊎_elim
    (λ (e : i ≡ j). ap (λ k. loaded8 (stored8 m (p + 8 * i) v) (p + 8 * k)) (sym e) ∙ loaded8-stored8_same m (p + 8 * i) v c h ∙ sym (cond-true (i == j) v (loaded8 m (p + 8 * j)) (eq-eqb i j e)))
    (λ (e : i ≡ j → ⊥). loaded8-stored8_apart m (p + 8 * i) v (p + 8 * j) (sides e) ∙ sym (cond-false (i == j) v (loaded8 m (p + 8 * j)) (ne_eqb i j e)))
    (cases_eq i j)
  where
    sides : (i ≡ j → ⊥) → (p + 8 * j + 8 ≤ p + 8 * i) ⊎ (p + 8 * i + 8 ≤ p + 8 * j)
    sides e = ⊎_elim (λ (l : i < j). inr (omega arith)) (λ (l : j ≤ i). inl (omega arith)) (cases_lt i j)

-- the same of loads and stores that can fail
given8 : (m : List Area) (p v : ℕ) (t : List Area) → store8 m p v ≡ Some t → (covers m p 8 ≡ true) × (t ≡ stored8 m p v)
given8 m p v t e = at (covers m p 8) e
  where
    at : (b : Bool) → cond b (Some (stored8 m p v)) None ≡ Some t → (b ≡ true) × (t ≡ stored8 m p v)
    at true e = (refl, cc)
    at false e = cc

given1 : (m : List Area) (p v : ℕ) (t : List Area) → store1 m p v ≡ Some t → (covers m p 1 ≡ true) × (t ≡ stored1 m p v)
given1 m p v t e = at (covers m p 1) e
  where
    at : (b : Bool) → cond b (Some (stored1 m p v)) None ≡ Some t → (b ≡ true) × (t ≡ stored1 m p v)
    at true e = (refl, cc)
    at false e = cc

pub load8-stored8_same : (m : List Area) (p v : ℕ) → covers m p 8 ≡ true → v < 2 ^ 64 → load8 (stored8 m p v) p ≡ Some v
load8-stored8_same m p v c h =
    cond-true (covers (stored8 m p v) p 8) (Some (loaded8 (stored8 m p v) p)) None (covers-with_bytes m p (to_le_bytes w64 v) p 8 ∙ c)
    ∙ ap Some (loaded8-stored8_same m p v c h)

pub load8-stored8_apart : (m : List Area) (p v q : ℕ) → (q + 8 ≤ p) ⊎ (p + 8 ≤ q) → load8 (stored8 m p v) q ≡ load8 m q
load8-stored8_apart m p v q d = ap₂ (λ b l. cond b (Some l) None) (covers-with_bytes m p (to_le_bytes w64 v) q 8) (loaded8-stored8_apart m p v q d)

pub load8-store8_same : (m : List Area) (p v : ℕ) (t : List Area) → v < 2 ^ 64 → store8 m p v ≡ Some t → load8 t p ≡ Some v
load8-store8_same m p v t h e = let g = given8 m p v t e in ap (λ t. load8 t p) g.1 ∙ load8-stored8_same m p v g.0 h

pub load8-store8_apart : (m : List Area) (p v q : ℕ) (t : List Area) → store8 m p v ≡ Some t → (q + 8 ≤ p) ⊎ (p + 8 ≤ q) → load8 t q ≡ load8 m q
load8-store8_apart m p v q t e d = let g = given8 m p v t e in ap (λ t. load8 t q) g.1 ∙ load8-stored8_apart m p v q d

pub load1-stored1_same : (m : List Area) (p v : ℕ) → covers m p 1 ≡ true → load1 (stored1 m p v) p ≡ Some (v % 2 ^ 8)
load1-stored1_same m p v c =
    cond-true (covers (stored1 m p v) p 1) (Some (loaded1 (stored1 m p v) p)) None (covers-with_bytes m p (v % 2 ^ 8 ∷ []) p 1 ∙ c)
    ∙ ap Some (loaded1-stored1_same m p v c)

pub load1-stored1_apart : (m : List Area) (p v q : ℕ) → (q + 1 ≤ p) ⊎ (p + 1 ≤ q) → load1 (stored1 m p v) q ≡ load1 m q
load1-stored1_apart m p v q d = ap₂ (λ b l. cond b (Some l) None) (covers-with_bytes m p (v % 2 ^ 8 ∷ []) q 1) (loaded1-stored1_apart m p v q d)

pub load1-store1_same : (m : List Area) (p v : ℕ) (t : List Area) → store1 m p v ≡ Some t → load1 t p ≡ Some (v % 2 ^ 8)
load1-store1_same m p v t e = let g = given1 m p v t e in ap (λ t. load1 t p) g.1 ∙ load1-stored1_same m p v g.0

pub load1-store1_apart : (m : List Area) (p v q : ℕ) (t : List Area) → store1 m p v ≡ Some t → (q + 1 ≤ p) ⊎ (p + 1 ≤ q) → load1 t q ≡ load1 m q
load1-store1_apart m p v q t e d = let g = given1 m p v t e in ap (λ t. load1 t q) g.1 ∙ load1-stored1_apart m p v q d

-- what stays over a store
pub shapes-stored8 : (m : List Area) (p v : ℕ) → shapes (stored8 m p v) ≡ shapes m
shapes-stored8 m p v = shapes-with_bytes m p (to_le_bytes w64 v)

pub shapes-stored1 : (m : List Area) (p v : ℕ) → shapes (stored1 m p v) ≡ shapes m
shapes-stored1 m p v = shapes-with_bytes m p (v % 2 ^ 8 ∷ [])

pub covers-stored8 : (m : List Area) (p v q k : ℕ) → covers (stored8 m p v) q k ≡ covers m q k
covers-stored8 m p v q k = covers-with_bytes m p (to_le_bytes w64 v) q k

pub covers-stored1 : (m : List Area) (p v q k : ℕ) → covers (stored1 m p v) q k ≡ covers m q k
covers-stored1 m p v q k = covers-with_bytes m p (v % 2 ^ 8 ∷ []) q k

pub rising-stored8 : (m : List Area) (low p v : ℕ) → IsRising low m → IsRising low (stored8 m p v)
rising-stored8 m low p v r = rising-with_bytes m low p (to_le_bytes w64 v) r

pub rising-stored1 : (m : List Area) (low p v : ℕ) → IsRising low m → IsRising low (stored1 m p v)
rising-stored1 m low p v r = rising-with_bytes m low p (v % 2 ^ 8 ∷ []) r

-- a number's bytes are bytes
pub no_bytes : AreBytes []
no_bytes i = omega arith

pub more_bytes : (b : ℕ) (bs : List ℕ) → b < 2 ^ 8 → AreBytes bs → AreBytes (b ∷ bs)
more_bytes b bs h s zero = h
more_bytes b bs h s (suc i) = s i

low_byte : (v : ℕ) → v % 2 ^ 8 < 2 ^ 8
low_byte v = omega arith

pub bytes_of_1 : (v : ℕ) → AreBytes (v % 2 ^ 8 ∷ [])
bytes_of_1 v = more_bytes (v % 2 ^ 8) [] (low_byte v) no_bytes

pub bytes_of_8 : (v : ℕ) → AreBytes (to_le_bytes w64 v)
bytes_of_8 v zero = low_byte v
bytes_of_8 v (suc zero) = low_byte (v / 2 ^ 8)
bytes_of_8 v (suc (suc zero)) = low_byte (v / 2 ^ 16)
bytes_of_8 v (suc (suc (suc zero))) = low_byte (v / 2 ^ 24)
bytes_of_8 v (suc (suc (suc (suc zero)))) = low_byte (v / 2 ^ 32)
bytes_of_8 v (suc (suc (suc (suc (suc zero))))) = low_byte (v / 2 ^ 40)
bytes_of_8 v (suc (suc (suc (suc (suc (suc zero)))))) = low_byte (v / 2 ^ 48)
bytes_of_8 v (suc (suc (suc (suc (suc (suc (suc zero))))))) = low_byte (v / 2 ^ 56)
bytes_of_8 v (suc (suc (suc (suc (suc (suc (suc (suc i)))))))) = no_bytes i

pub of_bytes-stored8 : (m : List Area) (p v : ℕ) → IsOfBytes m → IsOfBytes (stored8 m p v)
of_bytes-stored8 m p v s = of_bytes-with_bytes m p (to_le_bytes w64 v) (bytes_of_8 v) s

pub of_bytes-stored1 : (m : List Area) (p v : ℕ) → IsOfBytes m → IsOfBytes (stored1 m p v)
of_bytes-stored1 m p v s = of_bytes-with_bytes m p (v % 2 ^ 8 ∷ []) (bytes_of_1 v) s
