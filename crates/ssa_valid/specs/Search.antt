-- The search from a value's reads against the edges.
use Rattle.std.specs.Prelude.{◌≡◌, ℕ, ◌<◌, ◌≤◌, ◌==◌, ◌↔◌, IsTrue, Bool, true, false, not, ◌&&◌, cond, List, [], ◌∷◌, ◌++◌, length, Option, slice_index}
use Rattle.block_runs.specs.Blocks.{CodeBlock, block_at, successors}
use Rattle.block_runs.specs.Live.{has, block_makes, Live}
use Rattle.block_runs.specs.Valid.{block_reads}
use Rattle.ssa_valid.specs.declared.search.Search.{Search}
use Rattle.ssa_valid.specs.Order.{is_stamped, is_new, stamped}
use Rattle.ssa_valid.specs.Tables.{row_at}

---- Steps

-- the blocks with the last value that was found live into each, and those before which is still to be looked
pub record Marks : Type 0 where
  pub live : List (Option ℕ)
  pub pending : List ℕ

abbrev pub marks_of : Search → Marks
marks_of s = record { live = s.live; pending = s.pending.items }

-- a value joins block n: the block doesn't make it and isn't marked yet
abbrev pub joins : ℕ → ℕ → ℕ → List (Option ℕ) → Bool
joins maker v n live = not (maker == n) && is_new live n v

abbrev pub marked : ℕ → ℕ → ℕ → Marks → Marks
marked maker v n s = record {
  live = cond (joins maker v n s.live) (stamped s.live n v) s.live;
  pending = cond (joins maker v n s.live) (s.pending ++ n ∷ []) s.pending;
}

abbrev pub all_marked : ℕ → ℕ → List ℕ → Marks → Marks
all_marked maker v [] s = s
all_marked maker v (n ∷ ns) s = all_marked maker v ns (marked maker v n s)

---- What the search knows and keeps

abbrev pub makes : List CodeBlock → ℕ → ℕ → Bool
makes bls n v = has (block_makes (block_at bls n)) v

abbrev pub reads_in : List CodeBlock → ℕ → ℕ → Bool
reads_in bls n v = has (block_reads (block_at bls n)) v

abbrev pub leads : List CodeBlock → ℕ → ℕ → Bool
leads bls to n = has (successors (block_at bls n).end) to

-- the block that makes value v, and the blocks that lead to each
pub record IsKnown (bls : List CodeBlock) (sources : List (List ℕ)) (maker v : ℕ) : Type 0 where
  pub made_by : (n : ℕ) → n < length bls → (maker == n) ≡ makes bls n v
  pub led_by : (m n : ℕ) → m < length bls → has (row_at sources m) n ≡ leads bls m n

-- marks that are right so far: what is marked is live, and so are the blocks before it, unless they make the value or it is open; stamps are this value's or earlier ones'
pub record IsRight (bls : List CodeBlock) (v : ℕ) (live : List (Option ℕ)) (open_blocks : List ℕ) : Type 0 where
  pub size : length live ≡ length bls
  pub earlier : (n w : ℕ) → is_stamped live n w ≡ true → w ≤ v
  pub sound : (n : ℕ) → is_stamped live n v ≡ true → Live bls v n
  pub had : (m : ℕ) → has open_blocks m ≡ true → is_stamped live m v ≡ true
  pub closed : (m n : ℕ) → is_stamped live m v ≡ true → leads bls m n ≡ true → makes bls n v ≡ false → has open_blocks m ≡ false → is_stamped live n v ≡ true

abbrev pub Grows : ℕ → List (Option ℕ) → List (Option ℕ) → Type 0
Grows v old new = (n : ℕ) → is_stamped old n v ≡ true → is_stamped new n v ≡ true

-- nothing is pending, and all stamps are of values below v
pub record IsReady (bls : List CodeBlock) (v : ℕ) (s : Marks) : Type 0 where
  pub size : length s.live ≡ length bls
  pub none_open : s.pending ≡ []
  pub earlier : (n w : ℕ) → is_stamped s.live n w ≡ true → w < v

---- What parts of the search promise

-- from the pending blocks on
pub record Explored (bls : List CodeBlock) (v : ℕ) (old new : Marks) : Type 0 where
  pub none_open : new.pending ≡ []
  pub right : IsRight bls v new.live []
  pub grows : Grows v old.live new.live

abbrev pub Explores : List (List ℕ) → ℕ → ℕ → Marks → Marks → Type 0
Explores sources maker v old new = (bls : List CodeBlock) → IsKnown bls sources maker v → IsRight bls v old.live old.pending → Explored bls v old new

-- these blocks read value v, and it isn't live into one that makes it
pub record IsRead (bls : List CodeBlock) (readers : List ℕ) (v : ℕ) : Type 0 where
  pub read_by : (n : ℕ) → has readers n ≡ reads_in bls n v
  pub own : (n : ℕ) → makes bls n v ≡ true → Live bls v n → ⊥

pub record Found (bls : List CodeBlock) (v : ℕ) (found : Bool) (new : Marks) : Type 0 where
  pub answer : IsTrue found ↔ Live bls v 0
  pub next : (w : ℕ) → v < w → IsReady bls w new

abbrev pub Finds : List (List ℕ) → List ℕ → ℕ → ℕ → Marks → Bool → Marks → Type 0
Finds sources readers maker v old found new = (bls : List CodeBlock) → IsKnown bls sources maker v → IsRead bls readers v → IsReady bls v old → Found bls v found new

-- all values
pub record AreKnown (bls : List CodeBlock) (makers : List ℕ) : Type 0 where
  pub made_by : (n v : ℕ) → n < length bls → v < length makers → (slice_index makers v == n) ≡ makes bls n v
  pub own : (n v : ℕ) → makes bls n v ≡ true → Live bls v n → ⊥

pub record AreListed (bls : List CodeBlock) (sources readers : List (List ℕ)) (values : ℕ) : Type 0 where
  pub led_by : (m n : ℕ) → m < length bls → has (row_at sources m) n ≡ leads bls m n
  pub read_by : (n v : ℕ) → v < values → has (row_at readers v) n ≡ reads_in bls n v

abbrev pub IsFree : List CodeBlock → ℕ → Type 0
IsFree bls values = (v : ℕ) → v < values → Live bls v 0 → ⊥

abbrev pub Settles : List (List ℕ) → List (List ℕ) → List ℕ → Marks → Bool → Type 0
Settles sources readers makers s free = (bls : List CodeBlock) → AreKnown bls makers → AreListed bls sources readers (length makers) → IsReady bls 0 s → IsTrue free ↔ IsFree bls (length makers)

abbrev pub Decides : List CodeBlock → List ℕ → Bool → Type 0
Decides bls makers free = AreKnown bls makers → IsTrue free ↔ IsFree bls (length makers)
