use Rattle.std.proofs.Common.{◌≡◌, ◌++◌, drop}
use Rattle.table_builder.specs.Index.{signature_parts as parts_of}
use Rattle.table_builder.proofs.parts.signature_parts.Given as goal

abbrev pub invariant-loop-formal : goal.invariant-loop-formal
invariant-loop-formal l = parts_of l.formals l.result_type ≡ l.parts.items ++ parts_of (drop l.formal-index l.formals) l.result_type
