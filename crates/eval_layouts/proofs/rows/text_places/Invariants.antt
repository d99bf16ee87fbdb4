use Rattle.std.proofs.Common.{◌≡◌, length, take}
use Rattle.ob_types.specs.Meaning.{texts_of}
use Rattle.eval_layouts.specs.Tables.{TableOf}
use Rattle.eval_layouts.proofs.rows.text_places.Given as goal

abbrev pub invariant-loop-procedure : goal.invariant-loop-procedure
invariant-loop-procedure l = (length l.list.items ≡ l.procedure-index) × TableOf (λ g. length (texts_of (take g l.program.procedures))) l.list.items × (l.count ≡ length (texts_of (take l.procedure-index l.procedure-items)))
