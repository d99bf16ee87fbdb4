-- Which trace stands at a place.
use Rattle.std.specs.Prelude.{◌≡◌, ℕ, zero, suc, ◌+◌, ◌<◌, List, [], ◌∷◌, ◌++◌, map, length, Option, None, Some, slice_get, slice_index_or}
use Rattle.std.specs.Option.{option_map}
use Rattle.trace_work.specs.declared.planning.TracePlan.{TracePlan}
use Rattle.trace_work.specs.declared.work.Entry.{Entry}
use Rattle.trace_work.specs.Plans.{IsOrdered}

-- the place of the trace above a plan's trace
abbrev pub above : TracePlan → ℕ → Option ℕ
above p t = option_map (λ n. p.first + n) (slice_index_or p.parents t None)

-- the entry of a plan's trace, where the plan is the one at this place
abbrev pub entry_of : ℕ → TracePlan → ℕ → Entry
entry_of flow p t = record { flow = flow; number = t; parent = above p t }

-- the trace at this place is the entry's, of this plan
pub record IsEntryOf (p : TracePlan) (trace : ℕ) (e : Entry) : Type 0 where
  pub ordered : IsOrdered p
  pub within : e.number < length p.traces
  pub number : trace ≡ p.first + e.number
  pub above : e.parent ≡ above p e.number

pub record IsEntry (plans : List TracePlan) (trace : ℕ) (e : Entry) : Type 0 where
  pub known : e.flow < length plans
  pub of : (p : TracePlan) → slice_get plans e.flow ≡ Some p → IsEntryOf p trace e

-- an entry for each trace of each plan, at its place
pub record AreEntries (plans : List TracePlan) (entries : List Entry) : Type 0 where
  pub each : (trace : ℕ) (e : Entry) → slice_get entries trace ≡ Some e → IsEntry plans trace e
  pub all : (flow : ℕ) (p : TracePlan) (t : ℕ) → slice_get plans flow ≡ Some p → t < length p.traces → slice_get entries (p.first + t) ≡ Some (entry_of flow p t)

-- the entries of the first n traces of the plan at a place
abbrev pub entries_to : ℕ → TracePlan → ℕ → List Entry
entries_to flow p zero = []
entries_to flow p (suc n) = entries_to flow p n ++ entry_of flow p n ∷ []

abbrev pub entries_of : ℕ → TracePlan → List Entry
entries_of flow p = entries_to flow p (length p.traces)

abbrev pub parents_in : List Entry → List (Option ℕ)
parents_in entries = map (λ (e : Entry). e.parent) entries
