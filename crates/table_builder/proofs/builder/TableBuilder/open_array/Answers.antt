use Rattle.std.proofs.Common.{ap, sym, ◌∙◌}
use Rattle.ob_judge.specs.Shapes.{Open}
use Rattle.std.specs.Prelude.{slice_get}
use Rattle.ob_types.proofs.Tests.{some_same}
use Rattle.table_builder.specs.Entries.{is_whole}
use Rattle.table_builder.proofs.Meaning.{meant}
use Rattle.table_builder.proofs.builder.TableBuilder.open_array.Goals as goal

pub returns-clause-shape : goal.returns-clause-shape
returns-clause-shape c =
    ap Open
    (meant _ _ _ c.add_array.ensures.built.sound c.number-number.result c.args.element (c.add_array.ensures.grows.entry c.number-number.result c.args.element c.number-number.ensures.entry)
    ∙ c.add_array.ensures.grows.shape c.args.element c.requires.element.numbered)

pub add_array-requires-clause-elements : goal.add_array-requires-clause-elements
add_array-requires-clause-elements c = λ a e is h.
    let number = some_same c.number-number.result a is in
    let same = some_same c.args.element e (sym c.number-number.ensures.entry ∙ ap (slice_get c.args.self.now.table.entries.items) number ∙ h) in
    ap is_whole (sym same) ∙ c.requires.element.whole
