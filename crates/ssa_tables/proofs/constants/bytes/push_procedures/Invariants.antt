use Rattle.std.proofs.Common.{◌≡◌, ◌++◌, drop}
use Rattle.ob_types.specs.Meaning.{texts_of}
use Rattle.ssa_tables.specs.constants.Described.{all_texts}
use Rattle.ssa_tables.proofs.constants.bytes.push_procedures.Given as goal

abbrev pub invariant-loop-q : goal.invariant-loop-q
invariant-loop-q l = l.bytes.items ++ all_texts (texts_of (drop l.q-index l.procedures)) ≡ l.initial.bytes.items ++ all_texts (texts_of l.procedures)
