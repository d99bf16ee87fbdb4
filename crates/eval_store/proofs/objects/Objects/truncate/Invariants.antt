use Rattle.std.proofs.Common.{◌≡◌, length, take}
use Rattle.ob_types.specs.Meaning.{cells_in}
use Rattle.eval_store.proofs.objects.Objects.truncate.Given as goal

abbrev pub invariant-loop-self : goal.invariant-loop-self
invariant-loop-self l = (take l.count l.self-inside.objects.items ≡ take l.count l.initial.self-inside.objects.items) × (l.self-inside.cells ≡ cells_in l.self-inside.objects.items)

abbrev pub decreases-loop-self : goal.decreases-loop-self
decreases-loop-self l = length l.self-inside.objects.items
