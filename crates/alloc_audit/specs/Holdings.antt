-- What stands where while a node's lines are walked, as lists; and what lines change in that.
use Rattle.std.specs.Prelude.{ℕ, Bool, cond, List, [], ◌∷◌, map, length, drop, Option, Some, None, slice_set, get_or}
use Rattle.block_runs.specs.Blocks.{Operation}
use Rattle.block_runs.specs.Live.{has}
use Rattle.block_runs.specs.Valid.{is_call}
use Rattle.lir_core.specs.declared.places.Place.{Place}
use Rattle.lir_core.specs.declared.places.Place.TheVariants.{Reg, Home, Out}
use Rattle.lir_core.specs.declared.places.Move.{Move}
use Rattle.lir_core.specs.Spots.{Spot, reg, home, out, target, saved, get}
use Rattle.lir_core.specs.Lines.{Room}
use Rattle.lir_core.specs.Walks.{Walker, without}
use Rattle.loc_state.specs.Homed.{inserted, others}
use Rattle.alloc_audit.specs.declared.walk.Walk.{Walk}

-- what the registers, X25 and the slots have, and which values are homed
pub record Holdings : Type 0 where
  pub regs : List (Option ℕ)
  pub slots : List (Option ℕ)
  pub aim : Option ℕ
  pub homes : List ℕ

abbrev pub holdings_of : Walk → Holdings
holdings_of w = record { regs = w.regs.items; slots = w.slots.items; aim = w.aim; homes = w.homes }

abbrev pub view_at : Holdings → Spot → Option ℕ
view_at h (reg r) = get h.regs r
view_at h (home v) = cond (has h.homes v) (Some v) None
view_at h (out s) = get h.slots s
view_at h target = h.aim
view_at h saved = None

abbrev pub room_at : ℕ → Holdings → Room
room_at values h = record { regs = length h.regs; slots = length h.slots; values = values }

abbrev pub room_in : ℕ → Walk → Room
room_in values w = room_at values (holdings_of w)

-- where `named` are the registers named for the node, of which the first `used` are used up
abbrev pub walker_of : List ℕ → Walk → Walker
walker_of named w = record { next = w.next; named = drop w.used named; view = view_at (holdings_of w) }

---- What lines change

-- a value comes to a place
abbrev pub given : Place → ℕ → Holdings → Holdings
given (Reg r) v h = record h { regs = slice_set h.regs r (Some v) }
given (Home u) v h = record h { homes = inserted u h.homes }
given (Out s) v h = record h { slots = slice_set h.slots s (Some v) }

-- values come to the destinations of moves, the last first
abbrev pub all_given : List Move → List ℕ → Holdings → Holdings
all_given [] vs h = h
all_given (m ∷ ms) [] h = h
all_given (m ∷ ms) (v ∷ vs) h = given m.to v (all_given ms vs h)

-- X0's value goes to a register
abbrev pub result_taken : ℕ → Holdings → Holdings
result_taken r h = record h { regs = slice_set (slice_set h.regs r (get h.regs 0)) 0 None }

abbrev pub aimed : Option ℕ → Holdings → Holdings
aimed o h = record h { aim = o }

-- a call leaves homes alone
abbrev pub emptied : Holdings → Holdings
emptied h = record { regs = map (λ x. None) h.regs; slots = map (λ x. None) h.slots; aim = None; homes = h.homes }

abbrev pub left_by : Bool → Holdings → Holdings
left_by call h = cond call (emptied h) h

-- nothing has a value any more, but a register
abbrev pub made : ℕ → ℕ → Holdings → Holdings
made r v h = record { regs = slice_set (map (without v) h.regs) r (Some v); slots = map (without v) h.slots; aim = without v h.aim; homes = others v h.homes }

abbrev pub maybe_made : ℕ → Option ℕ → Holdings → Holdings
maybe_made r None h = h
maybe_made r (Some v) h = made r v h

-- the register of an operation's definition: X0 for a call, else the one named for it
abbrev pub def_register : Operation → List ℕ → ℕ
def_register op named = cond (is_call op.code) 0 (get_or named (length op.uses) 0)

-- behind an operation
abbrev pub done_by : Operation → List ℕ → Holdings → Holdings
done_by op named h = maybe_made (def_register op named) op.def (left_by (is_call op.code) h)
