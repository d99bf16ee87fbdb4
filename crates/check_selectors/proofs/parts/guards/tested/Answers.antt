use Rattle.std.proofs.Common.{◌≡◌, sym, ap, ◌∙◌}
use Rattle.ob_judge.specs.Judged.{Keeps}
use Rattle.ob_judge.specs.Shapes.{Boolean, Record, Pointer}
use Rattle.ob_judge.specs.Scopes.{place}
use Rattle.ob_judge.specs.Operands.{value}
use Rattle.ob_judge.specs.Parts.{tested_tag, guard_of, guarded, test_of, tested}
use Rattle.check_types.proofs.steps.Answering.{there, as_judged}
use Rattle.check_types.specs.TypeMeaning.{type_shape}
use Rattle.check_types.specs.names.Worlds.{table_of, world_of}
use Rattle.check_selectors.proofs.parts.Reached.{refused}
use Rattle.check_selectors.proofs.parts.guards.tested.Goals as goal

pub returns-in-None : goal.returns-in-None
returns-in-None c = λ a h. refused 31 (place c.args.scope.now.source.now c.args.symbol) _ c.fault.ensures (c.in-None.ensures a h.shape h.usage)

pub returns-in-Pointer : goal.returns-in-Pointer
returns-in-Pointer c = λ a h.
    let s = c.args.scope.now in
    as_judged (ap (λ k. tested s.source.now (world_of s) (place s.source.now c.args.symbol) a (type_shape (table_of s) k)) c.in-Pointer.is)
    (there 31 (place s.source.now c.args.symbol) (λ r. Keeps (value Boolean (test_of a (Pointer c.in-Pointer.pointer) r)))
    (ap (λ k. tested_tag s.source.now (world_of s) a (type_shape (table_of s) k)) (sym c.in-Pointer.is) ∙ c.in-Some.ensures a h.shape h.usage) (c.pointer_test.ensures a h))
