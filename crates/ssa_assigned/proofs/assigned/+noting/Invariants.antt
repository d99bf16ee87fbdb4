use Rattle.std.proofs.Common.{◌≡◌, ◌||◌, ℕ, drop}
use Rattle.ssa_assigned.specs.Assigned.{has, assigned_list, assigned_parts, assigned_cases, assigned_types}
use Rattle.ssa_assigned.proofs.assigned.+noting.Given as goal

abbrev pub invariant-note_all-loop-s : goal.invariant-note_all-loop-s
invariant-note_all-loop-s l = (x : ℕ) → has l.found.items x || assigned_list (drop l.s-index l.list) x ≡ has l.initial.found.items x || assigned_list l.list x

abbrev pub invariant-note_cases-loop-part : goal.invariant-note_cases-loop-part
invariant-note_cases-loop-part l = (x : ℕ) → has l.found.items x || assigned_cases (drop l.part-index l.parts) x ≡ has l.initial.found.items x || assigned_cases l.parts x

abbrev pub invariant-note_parts-loop-part : goal.invariant-note_parts-loop-part
invariant-note_parts-loop-part l = (x : ℕ) → has l.found.items x || assigned_parts (drop l.part-index l.parts) x ≡ has l.initial.found.items x || assigned_parts l.parts x

abbrev pub invariant-note_types-loop-part : goal.invariant-note_types-loop-part
invariant-note_types-loop-part l = (x : ℕ) → has l.found.items x || assigned_types (drop l.part-index l.parts) x ≡ has l.initial.found.items x || assigned_types l.parts x
