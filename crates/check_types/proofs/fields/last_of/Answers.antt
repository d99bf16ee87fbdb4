use Rattle.std.proofs.Common.{◌≡◌, map, take, ap, sym, ◌∙◌}
use Rattle.std.specs.Arc.{arc_value}
use Rattle.std.specs.Prelude.{option_copied}
use Rattle.check_types.specs.steps.Maps.{at_bytes}
use Rattle.check_types.specs.Fields.{in_maps}
use Rattle.check_types.proofs.fields.FieldMaps.{maps_more, or_some, or_other}
use Rattle.check_types.proofs.fields.last_of.Goals as goal
use Rattle.check_types.proofs.fields.last_of.Goals.{in-Some, in_default}

pub loop-fields-preserved : goal.loop-fields-preserved
loop-fields-preserved c =
    let ms = c.args.maps.now in
    let q = c.args.name.now in
    let i = c.loop-fields.fields-index in
    let m = c.fields-item.result in
    let before = in_maps (map arc_value (take i ms)) q in
    let here : option_copied c.get.result ≡ at_bytes (arc_value m) q = c.get.ensures.value ∙ ap (λ k. at_bytes k q) c.deref.ensures in
    let more = maps_more ms i m c.loop-fields-test.true c.fields-item.is q in
    elim c.match-get.branch [
      | in-Some w ↦ w.found-is ∙ or_some (at_bytes (arc_value m) q) w.in-Some.entry.now before (sym here ∙ ap option_copied w.in-Some.is) ∙ sym more
      | in_default w ↦ w.found-is ∙ c.loop-fields.invariant ∙ or_other (at_bytes (arc_value m) q) before (sym here ∙ ap option_copied w.in_default.is) ∙ sym more
    ]
