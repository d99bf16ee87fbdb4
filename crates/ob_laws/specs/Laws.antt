-- What every part of every program does to a state: turns are only spent, output and objects are only added.
use Rattle.std.specs.Prelude.{◌≡◌, ◌≤◌, ℕ, List, ◌++◌, map, length}
use Rattle.run_laws.specs.Runs.{StartsWith}
use Rattle.run_laws.specs.Turns.{State, Ending, Gives, Fails, Spent}
use Rattle.ob_types.specs.Store.{Cell, Store, Trap, Act}

-- the sizes of objects
abbrev pub shape : List (List Cell) → List ℕ
shape objects = map (λ cells. length cells) objects

-- t comes later than s: turns are only spent, output and objects are only added, and no object's size or type changes
pub record Later (s t : State Store) : Type 0 where
  pub turns : t.turns ≤ s.turns
  pub out : StartsWith t.out s.out
  pub globals : shape t.store.globals ≡ shape s.store.globals
  pub frames : shape t.store.frames ≡ shape s.store.frames
  pub strings : t.store.strings ≡ s.store.strings
  pub heap : StartsWith (shape t.store.heap) (shape s.store.heap)
  -- the types of what NEW made, and as many as there are objects
  pub tags : StartsWith t.store.tags s.store.tags
  pub tagged : length s.store.tags ≡ length s.store.heap → length t.store.tags ≡ length t.store.heap
  -- what is left of the input is an end of it
  pub used : (xs : List ℕ) × (s.store.input ≡ xs ++ t.store.input)

-- the state that comes out is later; a trap's output, and that of turns used up, begins with what was written
abbrev pub Grows : {A : Type 0} → State Store → Ending Store Trap A → Type 0
Grows s (Gives a t) = Later s t
Grows s (Fails trap out) = StartsWith out s.out
Grows s (Spent out) = StartsWith out s.out

-- from every state
pub record OnlyAdds {A : Type 0} (m : Act A) : Type 0 where
  pub by : (s : State Store) → Grows s (m s)
