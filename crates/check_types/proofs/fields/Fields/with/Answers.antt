use Rattle.std.proofs.Common.{ap, ◌∙◌, Some, map}
use Rattle.std.specs.Arc.{arc_value}
use Rattle.std.specs.Str.{bytes_eq}
use Rattle.ob_judge.specs.Scopes.{or_else}
use Rattle.check_types.specs.steps.Maps.{at_bytes}
use Rattle.check_types.specs.Fields.{in_maps}
use Rattle.check_types.proofs.steps.Maps.{at_bytes_after}
use Rattle.check_types.proofs.fields.FieldMaps.{chosen}
use Rattle.check_types.proofs.fields.Fields.with.Goals as goal

pub returns-clause-with : goal.returns-clause-with
returns-clause-with c = λ q.
    let common = in_maps (map arc_value c.args.self.common.items) q in
    ap (λ o. or_else o common) (at_bytes_after c.args.name.items c.args.self.own c.insert.new.self (Some c.args.entry) c.in_ok-insert.ensures.updates q)
    ∙ chosen (bytes_eq c.args.name.items q) c.args.entry (at_bytes c.args.self.own q) common
