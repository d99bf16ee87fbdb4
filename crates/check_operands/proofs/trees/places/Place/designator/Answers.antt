use Rattle.std.proofs.Common.{sym, ap, ◌∙◌}
use Rattle.std.specs.Box.{with_value}
use Rattle.ob_types.specs.declared.tree.Access.{roll-Access}
use Rattle.ob_judge.specs.Image as I
use Rattle.judged_tree.specs.TypeShapes.{shape_of_kind}
use Rattle.check_operands.specs.trees.Lists.{access_image, place_image}
use Rattle.check_operands.proofs.trees.Rows.{part_is}
use Rattle.check_operands.proofs.trees.places.Place.designator.Goals as goal

pub returns-in-Part : goal.returns-in-Part
returns-in-Part c = λ t texts.
    let a = c.deref_mut.result.now in
    part_is t texts (with_value c.in-Part.access (roll-Access (record { base = a.base; kind = c.args.kind; selectors = a.selectors })))
    ∙ ap (λ d. I.of_type d (shape_of_kind t c.args.kind)) (ap (access_image t texts) c.deref_mut.ensures.value ∙ sym (ap (place_image t texts) c.in-Part.is))
