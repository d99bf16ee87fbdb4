-- Where values are before an edge, as the tables that find it.
use Rattle.std.specs.Prelude.{◌≡◌, ℕ, ◌≤◌, ◌==◌, ◌&&◌, ◌++◌, Bool, true, false, List, length, unwrap_or, cond, nat_le}
use Rattle.std.specs.Ordering.{nat_cmp}
use Rattle.std.specs.BTreeMap.{BTreeMap, get}
use Rattle.std.specs.BTreeSet.{BTreeSet, contains}
use Rattle.block_runs.specs.Live.{has}
use Rattle.lir_core.specs.declared.places.Move.{Move}
use Rattle.lir_core.specs.declared.places.Place.{Place}
use Rattle.lir_core.specs.declared.places.Places.{Places}
use Rattle.lir_core.specs.Spots.{argument_of, IsRising}
use Rattle.boundary_resolve.specs.declared.moves.Before.{Before}
use Rattle.boundary_resolve.specs.Moves.{register_of, register_or_home, reg_moves, home_moves}

abbrev pub argument_before : Before → ℕ → ℕ
argument_before b v = cond (nat_le (length b.params.now) 8) (argument_of b.params.now b.args.now v) (unwrap_or (get nat_cmp b.arguments v) v)

abbrev pub place_before : Before → ℕ → Place
place_before b v = register_or_home (register_of b.regs.now 0 (argument_before b v)) (argument_before b v)

abbrev pub homed_before : Before → ℕ → Bool
homed_before b v = cond b.rises (has b.homed.now v) (contains nat_cmp b.set v)

abbrev pub stays_before : Before → ℕ → Bool
stays_before b v = homed_before b v && argument_before b v == v

-- the moves to where values are wanted
abbrev pub moves_before : Before → Places → List Move
moves_before b q = reg_moves (place_before b) 0 q.regs ++ home_moves (stays_before b) (place_before b) q.homed

abbrev pub HasFew : Before → Type 0
HasFew b = length b.regs.now ≤ 16

-- the homed values rise, where they are said to
abbrev pub Rises : Before → Type 0
Rises b = b.rises ≡ true → IsRising b.homed.now

abbrev pub HasHomes : List ℕ → BTreeSet ℕ → Type 0
HasHomes values set = (v : ℕ) → contains nat_cmp set v ≡ has values v

abbrev pub HasArguments : List ℕ → List ℕ → BTreeMap ℕ ℕ → Type 0
HasArguments params args arguments = (v : ℕ) → unwrap_or (get nat_cmp arguments v) v ≡ argument_of params args v

-- the tables of some places, parameters and arguments
pub record IsBefore (q : Places) (params args : List ℕ) (b : Before) : Type 0 where
  pub regs : b.regs.now ≡ q.regs
  pub homed : b.homed.now ≡ q.homed
  pub rises : b.rises ≡ true → IsRising q.homed
  pub set : b.rises ≡ false → HasHomes q.homed b.set
  pub arguments : (v : ℕ) → argument_before b v ≡ argument_of params args v
