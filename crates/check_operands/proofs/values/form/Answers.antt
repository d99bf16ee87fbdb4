use Rattle.std.proofs.Common.{◌≡◌, sym, ap, ◌∙◌}
use Rattle.ob_judge.specs.Image as I
use Rattle.check_operands.specs.trees.Lists.{place_image}
use Rattle.check_types.specs.names.Worlds.{table_of}
use Rattle.check_operands.specs.Operands.{texts_of, bases_of, what_image}
use Rattle.check_operands.proofs.Forms.{kind_is, form_named}
use Rattle.check_operands.proofs.values.form.Goals as goal

pub returns-in-Named : goal.returns-in-Named
returns-in-Named c = λ a h.
    let s = c.args.scope.now in let d = place_image (table_of s) (texts_of s) c.in-Named.place in
    ap I.Load (c.designator.ensures (table_of s) (texts_of s) ∙ ap (I.of_type d) (kind_is (table_of s) (bases_of s) c.args.x.of a.shape c.kind_of.result c.kind_of.ensures h.shape))
    ∙ form_named (bases_of s) a.shape d a.what (ap (what_image (table_of s) (texts_of s)) (sym c.in-Named.is) ∙ h.what)
