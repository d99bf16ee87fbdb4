-- Stores of objects, and what it means that bytes hold one.
use Rattle.std.specs.Prelude.{◌≡◌, ◌≢◌, ℕ, ◌+◌, ◌-◌, ◌^◌, ◌<◌, ◌≤◌, List, replicate, Bool, true, false, cond, ◌&&◌, nat_eq, nat_le, nat_lt, Option, Some, None}
use Rattle.a64_memory.specs.Memory.{Area, covers, bytes_at, loaded8, loaded1, stored8, stored1, IsRising, IsOfBytes}
use Rattle.object_bytes.specs.Layouts.{Spot, Body, Fine}

-- what a cell has
pub data Cell : Type 0 where
  Number : ℕ → Cell
  Pointer : (object : ℕ) → Cell
  Routine : (procedure : ℕ) → Cell
  Tag : (type : ℕ) → Cell

-- objects by number, each with its cells by number; an object on the heap has its tag as cell 0
pub record Objects : Type 0 where
  pub form : ℕ → Body
  pub cell : ℕ → ℕ → Cell

abbrev pub write : ℕ → ℕ → Cell → Objects → Objects
write k c v o = record { form = o.form; cell = λ j d. cond (nat_eq j k && nat_eq d c) v (o.cell j d) }

-- one more object, under a number that no object has
abbrev pub create : ℕ → Body → (ℕ → Cell) → Objects → Objects
create k f cells o = record { form = λ j. cond (nat_eq j k) f (o.form j); cell = λ j d. cond (nat_eq j k) (cells d) (o.cell j d) }

-- n cells from cell c of object j to cell d of object k
abbrev pub copied : ℕ → ℕ → ℕ → ℕ → ℕ → Objects → Objects
copied k d j c n o = record { form = o.form; cell = λ i e. cond (nat_eq i k && (nat_le d e && nat_lt e (d + n))) (o.cell j (c + (e - d))) (o.cell i e) }

-- the addresses of live objects, of those that pointers may name, of procedures and of descriptors
pub record Placing : Type 0 where
  pub place : ℕ → Option ℕ
  pub heap : ℕ → Option ℕ
  pub code : ℕ → Option ℕ
  pub descriptor : ℕ → Option ℕ

-- one more object, which pointers may name or not
abbrev pub with_new : Bool → ℕ → ℕ → Placing → Placing
with_new named k a p = record p { place = λ j. cond (nat_eq j k) (Some a) (p.place j); heap = λ j. cond (named && nat_eq j k) (Some a) (p.heap j) }

abbrev pub without : ℕ → Placing → Placing
without k p = record p { place = λ j. cond (nat_eq j k) None (p.place j) }

-- the number that stands for what a cell has
abbrev pub Means : Placing → Cell → ℕ → Type 0
Means p (Number n) x = x ≡ n
Means p (Pointer k) x = p.heap k ≡ Some x
Means p (Routine f) x = p.code f ≡ Some x
Means p (Tag t) x = p.descriptor t ≡ Some x

-- later places: no object that was there is gone
pub record Grows (p q : Placing) : Type 0 where
  pub place : (k x : ℕ) → p.place k ≡ Some x → q.place k ≡ Some x
  pub heap : (k x : ℕ) → p.heap k ≡ Some x → q.heap k ≡ Some x
  pub code : (k x : ℕ) → p.code k ≡ Some x → q.code k ≡ Some x
  pub descriptor : (k x : ℕ) → p.descriptor k ≡ Some x → q.descriptor k ≡ Some x

-- a scalar, loaded and stored by its width
abbrev pub load : Bool → List Area → ℕ → ℕ
load true m x = loaded1 m x
load false m x = loaded8 m x

abbrev pub store : Bool → List Area → ℕ → ℕ → List Area
store true m x v = stored1 m x v
store false m x v = stored8 m x v

-- a number fits a scalar
abbrev pub limit : Bool → ℕ
limit true = 2 ^ 8
limit false = 2 ^ 64

-- the n bytes at q share none with the l bytes at a
pub record Clear (a l q n : ℕ) : Type 0 where
  pub at : (x : ℕ) → a ≤ x → x < a + l → q ≤ x → x < q + n → ⊥

-- the memory holds the objects where they are placed
pub record Kept (o : Objects) (p : Placing) (m : List Area) : Type 0 where
  pub holds : (k a c : ℕ) (s : Spot) → p.place k ≡ Some a → (o.form k).spot c ≡ Some s → Means p (o.cell k c) (load s.small m (a + s.at))
  pub room : (k a : ℕ) → p.place k ≡ Some a → covers m a (o.form k).bytes ≡ true
  pub fine : (k a : ℕ) → p.place k ≡ Some a → Fine (o.form k)
  pub apart : (j k a b : ℕ) → j ≢ k → p.place j ≡ Some a → p.place k ≡ Some b → Clear a (o.form j).bytes b (o.form k).bytes
  pub pointed : (k x : ℕ) → p.heap k ≡ Some x → (p.place k ≡ Some x) × (0 < x)
  pub areas : IsRising 0 m
  pub bytes : IsOfBytes m

-- memory that no object has
pub record Spare (o : Objects) (p : Placing) (m : List Area) (q n : ℕ) : Type 0 where
  pub room : covers m q n ≡ true
  pub apart : (k a : ℕ) → p.place k ≡ Some a → Clear a (o.form k).bytes q n

-- zeros, read in any piece
pub record Zeros (m : List Area) (q n : ℕ) : Type 0 where
  pub at : (r i : ℕ) → q ≤ r → r + i ≤ q + n → 0 < i → bytes_at m r i ≡ replicate i 0
