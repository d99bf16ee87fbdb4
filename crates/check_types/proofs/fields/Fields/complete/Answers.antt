use Rattle.std.proofs.Common.{map, ap, ap₂, ◌∙◌}
use Rattle.std.specs.Arc.{arc_value}
use Rattle.ob_judge.specs.Scopes.{or_else}
use Rattle.check_types.specs.steps.Maps.{at_bytes}
use Rattle.check_types.specs.Fields.{in_maps}
use Rattle.check_types.proofs.fields.FieldMaps.{map_behind, nothing_in}
use Rattle.check_types.proofs.fields.Fields.complete.Goals as goal

pub returns-clause-same : goal.returns-clause-same
returns-clause-same c = λ q.
    let common = c.args.self.common.items in
    ap₂ or_else (nothing_in c.new-2.result c.new-2.ensures.empty q)
    (ap (λ l. in_maps (map arc_value l) q) c.in_ok-push.ensures.items
    ∙ map_behind common c.in_ok-new.field-0 q
    ∙ ap (λ k. or_else (at_bytes k q) (in_maps (map arc_value common) q)) c.in_ok-new.ensures.ok)
