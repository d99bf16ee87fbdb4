use Rattle.std.proofs.Common.{◌≡◌, ◌++◌, drop}
use Rattle.ssa_tables.specs.constants.Described.{all_texts}
use Rattle.ssa_tables.proofs.constants.bytes.push_texts.Given as goal

abbrev pub invariant-loop-text : goal.invariant-loop-text
invariant-loop-text l = l.bytes.items ++ all_texts (drop l.text-index l.texts) ≡ l.initial.bytes.items ++ all_texts l.texts
