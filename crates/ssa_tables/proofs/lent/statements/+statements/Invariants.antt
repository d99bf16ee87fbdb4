use Rattle.std.proofs.Common.{◌≡◌, ◌||◌, ℕ, drop}
use Rattle.ssa_assigned.specs.Assigned.{has}
use Rattle.ssa_tables.specs.lent.Lent.{lent_by_statements, lent_by_parts, lent_by_cases, lent_by_types}
use Rattle.ssa_tables.proofs.lent.statements.+statements.Given as goal

abbrev pub invariant-lend_all-loop-s : goal.invariant-lend_all-loop-s
invariant-lend_all-loop-s l = (x : ℕ) → has l.found.items x || lent_by_statements (drop l.s-index l.list) x ≡ has l.initial.found.items x || lent_by_statements l.list x

abbrev pub invariant-lend_parts-loop-part : goal.invariant-lend_parts-loop-part
invariant-lend_parts-loop-part l = (x : ℕ) → has l.found.items x || lent_by_parts (drop l.part-index l.parts) x ≡ has l.initial.found.items x || lent_by_parts l.parts x

abbrev pub invariant-lend_cases-loop-part : goal.invariant-lend_cases-loop-part
invariant-lend_cases-loop-part l = (x : ℕ) → has l.found.items x || lent_by_cases (drop l.part-index l.parts) x ≡ has l.initial.found.items x || lent_by_cases l.parts x

abbrev pub invariant-lend_types-loop-part : goal.invariant-lend_types-loop-part
invariant-lend_types-loop-part l = (x : ℕ) → has l.found.items x || lent_by_types (drop l.part-index l.parts) x ≡ has l.initial.found.items x || lent_by_types l.parts x
