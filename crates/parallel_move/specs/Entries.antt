-- The table of moves by which they are put in order.
use Rattle.std.specs.Prelude.{◌≡◌, ℕ, zero, suc, ◌+◌, ◌-◌, ◌<◌, nat_lt, ◌==◌, ◌&&◌, Bool, true, false, not, cond, List, [], ◌∷◌, ◌++◌, length, Option, Some, None, slice_set, slice_index_or}
use Rattle.lir_core.specs.declared.places.Place.{Place}
use Rattle.lir_core.specs.declared.places.Place.TheVariants.{Reg}
use Rattle.lir_core.specs.declared.places.Move.{Move}
use Rattle.lir_core.specs.Spots.{Spot, same, spot}
use Rattle.parallel_move.specs.declared.step.Step.{Step}
use Rattle.parallel_move.specs.declared.entry.Entry.{Entry}
use Rattle.parallel_move.specs.Order.{Pending, from_spot, ordered}

abbrev pub no_entry : Entry
no_entry = record { to = Reg 0; from = Reg 0; writer = None; readers = 0; saved = false; made = false }

abbrev pub entry_at : List Entry → ℕ → Entry
entry_at es i = slice_index_or es i no_entry

-- X16 has what the destination of a move had
abbrev pub is_saved : List Entry → Option ℕ → Bool
is_saved es None = false
is_saved es (Some i) = (entry_at es i).saved

abbrev pub pending_in : List Entry → Entry → Pending
pending_in es e = record { to = e.to; from = cond (is_saved es e.writer) None (Some e.from) }

---- The moves that are left

abbrev pub slot : List Entry → ℕ → Option Pending
slot es i = cond (entry_at es i).made None (Some (pending_in es (entry_at es i)))

abbrev pub in_front : Option Pending → List Pending → List Pending
in_front None ms = ms
in_front (Some m) ms = m ∷ ms

-- what a table has at k numbers from i on
abbrev pub listed : (ℕ → Option Pending) → ℕ → ℕ → List Pending
listed table i zero = []
listed table i (suc k) = in_front (table i) (listed table (suc i) k)

abbrev pub left : List Entry → List Pending
left es = listed (slot es) 0 (length es)

-- how many moves have a spot as their source
abbrev pub one : Bool → ℕ
one b = cond b 1 0

abbrev pub reads : List Pending → Spot → ℕ
reads [] p = 0
reads (m ∷ ms) p = one (same (from_spot m.from) p) + reads ms p

-- a move that is left, and whose destination no other reads
abbrev pub is_free : Entry → Bool
is_free e = not e.made && e.readers == 0

-- the next move, if there is one before a bound and it is free
abbrev pub free_before : List Entry → ℕ → Option ℕ → Option ℕ
free_before es bound None = None
free_before es bound (Some i) = cond (nat_lt i bound && is_free (entry_at es i)) (Some i) None

---- Steps on the table

abbrev pub unread : List Entry → Option ℕ → List Entry
unread es None = es
unread es (Some j) = slice_set es j (record (entry_at es j) { readers = (entry_at es j).readers - 1 })

-- a move reads its source no more, if it is a place
abbrev pub released : List Entry → Option ℕ → List Entry
released es writer = cond (is_saved es writer) es (unread es writer)

abbrev pub closed : List Entry → ℕ → List Entry
closed es i = slice_set es i (record (entry_at es i) { made = true })

abbrev pub made_at : List Entry → ℕ → List Entry
made_at es i = closed (released es (entry_at es i).writer) i

abbrev pub saved_at : List Entry → ℕ → List Entry
saved_at es i = slice_set es i (record (entry_at es i) { saved = true; readers = 0 })

---- What the table keeps

-- the move that writes a place, if one does
abbrev pub IsWriter : List Entry → Place → Option ℕ → Type 0
IsWriter es from None = (j : ℕ) → j < length es → same (spot (entry_at es j).to) (spot from) ≡ false
IsWriter es from (Some j) = (j < length es) × (same (spot (entry_at es j).to) (spot from) ≡ true)

pub record IsLinked (es : List Entry) : Type 0 where
  pub distinct : (i j : ℕ) → i < length es → j < length es → same (spot (entry_at es i).to) (spot (entry_at es j).to) ≡ true → i ≡ j
  pub writers : (i : ℕ) → i < length es → IsWriter es (entry_at es i).from (entry_at es i).writer

abbrev pub IsCounted : List Entry → Type 0
IsCounted es = (i : ℕ) → i < length es → (entry_at es i).readers ≡ reads (left es) (spot (entry_at es i).to)

-- the steps so far, and those of the moves that are left, are `all`
pub record Ordering (all : List Step) (es : List Entry) (steps : List Step) : Type 0 where
  pub linked : IsLinked es
  pub counted : IsCounted es
  pub sequence : steps ++ ordered (length (left es)) (left es) ≡ all

-- no move before a bound is free but one
abbrev pub OnlyFree : List Entry → ℕ → Option ℕ → Type 0
OnlyFree es bound next = (j : ℕ) → j < bound → is_free (entry_at es j) ≡ true → next ≡ Some j

abbrev pub NoneFree : List Entry → ℕ → Type 0
NoneFree es bound = (j : ℕ) → j < bound → is_free (entry_at es j) ≡ false

abbrev pub AllMade : List Entry → ℕ → Type 0
AllMade es bound = (j : ℕ) → j < bound → (entry_at es j).made ≡ true

-- what was made stays made
abbrev pub StayMade : List Entry → List Entry → Type 0
StayMade before after = (length after ≡ length before) × ((j : ℕ) → (entry_at before j).made ≡ true → (entry_at after j).made ≡ true)

-- made from a first move on, as long as each frees the next
abbrev pub MakesAlong : Option ℕ → ℕ → List Entry → List Step → List Entry → List Step → Type 0
MakesAlong first bound before done after steps = (all : List Step) → Ordering all before done → OnlyFree before bound first → Ordering all after steps × NoneFree after bound

-- made with a cycle broken, where none is free and all before are made
abbrev pub Breaks : ℕ → List Entry → List Step → List Entry → List Step → Type 0
Breaks i before done after steps = (all : List Step) → Ordering all before done → NoneFree before (length before) → AllMade before i → (entry_at before i).made ≡ false
    → Ordering all after steps × NoneFree after (length after)

---- How the table is made

abbrev pub no_move : Move
no_move = record { to = Reg 0; from = Reg 0 }

abbrev pub move_at : List Move → ℕ → Move
move_at ms i = slice_index_or ms i no_move

-- the one of the first k moves that goes to a place, if one does
abbrev pub GoesTo : List Move → ℕ → Place → Option ℕ → Type 0
GoesTo ms k p None = (j : ℕ) → j < k → same (spot (move_at ms j).to) (spot p) ≡ false
GoesTo ms k p (Some j) = (j < k) × (same (spot (move_at ms j).to) (spot p) ≡ true)

abbrev pub AreWriters : List Move → ℕ → (Place → Option ℕ) → Type 0
AreWriters ms k writer = (p : Place) → GoesTo ms k p (writer p)

-- a move's entry, before readers are counted
pub record IsNew (ms : List Move) (m : Move) (e : Entry) : Type 0 where
  pub to : e.to ≡ m.to
  pub from : e.from ≡ m.from
  pub writer : GoesTo ms (length ms) m.from e.writer
  pub unsaved : e.saved ≡ false
  pub unmade : e.made ≡ false

-- the entries of the first k moves
pub record AreNew (ms : List Move) (k : ℕ) (es : List Entry) : Type 0 where
  pub each : length es ≡ k
  pub entry : (i : ℕ) → i < k → IsNew ms (move_at ms i) (entry_at es i)
  pub unread : (i : ℕ) → (entry_at es i).readers ≡ 0

abbrev pub AreUnread : List Entry → Type 0
AreUnread es = (i : ℕ) → (entry_at es i).readers ≡ 0

-- another reader can be counted
abbrev pub FewReaders : List Entry → Type 0
FewReaders es = (i : ℕ) → i < length es → (entry_at es i).readers < 18446744073709551615

abbrev pub with_reader : List Entry → Option ℕ → List Entry
with_reader es None = es
with_reader es (Some j) = slice_set es j (record (entry_at es j) { readers = (entry_at es j).readers + 1 })

abbrev pub is_at : Option ℕ → ℕ → Bool
is_at None j = false
is_at (Some i) j = i == j

-- how many of k moves from the i-th on have the j-th as their writer
abbrev pub written : List Entry → ℕ → ℕ → ℕ → ℕ
written es i zero j = 0
written es i (suc k) j = one (is_at (entry_at es i).writer j) + written es (suc i) k j

-- all but the readers is as it was, and each move has the readers that the first k moves make
pub record AreCounted (k : ℕ) (before after : List Entry) : Type 0 where
  pub each : length after ≡ length before
  pub entry : (j : ℕ) → j < length before → entry_at after j ≡ record (entry_at before j) { readers = written before 0 k j }
