use Rattle.std.proofs.Common.{◌≡◌, sym, ap, ◌∙◌, [], slice_get, slice_index_or}
use Rattle.judged_tree.specs.Plain.{text_place}
use Rattle.judged_tree.specs.TypeShapes.{shape_of_kind}
use Rattle.ob_judge.specs.Image as I
use Rattle.judged_tree.specs.Outline.{outlined_shape}
use Rattle.check_operands.specs.trees.Lists.{place_image}
use Rattle.check_types.specs.names.Worlds.{table_of}
use Rattle.check_operands.specs.Operands.{texts_of, bases_of, what_image}
use Rattle.check_operands.proofs.Forms.{kind_is, place_named, place_chars, place_valued, place_code, place_proper}
use Rattle.check_operands.proofs.values.designator.Goals as goal

pub returns-in-Named : goal.returns-in-Named
returns-in-Named c = λ a h.
    let s = c.args.scope.now in let d = place_image (table_of s) (texts_of s) c.in-Named.place in
    c.designator.ensures (table_of s) (texts_of s)
    ∙ ap (I.of_type d) (kind_is (table_of s) (bases_of s) c.args.x.of a.shape c.kind_of-kind.result c.kind_of-kind.ensures h.shape)
    ∙ ap (λ z. I.of_type z (outlined_shape (bases_of s) a.shape)) (place_named (bases_of s) d a.what (ap (what_image (table_of s) (texts_of s)) (sym c.in-Named.is) ∙ h.what))

pub returns-in-Chars : goal.returns-in-Chars
returns-in-Chars c = λ a h.
    let s = c.args.scope.now in
    let cs = slice_index_or (texts_of s) c.in-Chars.n [] in
    let place : text_place (slice_get (texts_of s) c.known_text.result) ≡ I.Text cs = ap text_place c.known_text.ensures in
    ap (λ z. I.of_type z (shape_of_kind (table_of s) c.kind_of-kind.result)) place
    ∙ ap (I.of_type (I.Text cs)) (kind_is (table_of s) (bases_of s) c.args.x.of a.shape c.kind_of-kind.result c.kind_of-kind.ensures h.shape)
    ∙ ap (λ z. I.of_type z (outlined_shape (bases_of s) a.shape)) (place_chars (bases_of s) cs a.what (ap (what_image (table_of s) (texts_of s)) (sym c.in-Chars.is) ∙ h.what))

pub returns-in-Valued : goal.returns-in-Valued
returns-in-Valued c = λ a h.
    let s = c.args.scope.now in
    ap (I.of_type I.Done) (kind_is (table_of s) (bases_of s) c.args.x.of a.shape c.kind_of-kind.result c.kind_of-kind.ensures h.shape)
    ∙ ap (λ z. I.of_type z (outlined_shape (bases_of s) a.shape)) (place_valued (bases_of s) _ a.what (ap (what_image (table_of s) (texts_of s)) (sym c.in-Valued.is) ∙ h.what))

pub returns-in-Code : goal.returns-in-Code
returns-in-Code c = λ a h.
    let s = c.args.scope.now in
    ap (I.of_type I.Done) (kind_is (table_of s) (bases_of s) c.args.x.of a.shape c.kind_of-kind.result c.kind_of-kind.ensures h.shape)
    ∙ ap (λ z. I.of_type z (outlined_shape (bases_of s) a.shape)) (place_code (bases_of s) _ _ a.what (ap (what_image (table_of s) (texts_of s)) (sym c.in-Code.is) ∙ h.what))

pub returns : goal.returns
returns c = λ a h.
    let s = c.args.scope.now in
    ap (I.of_type I.Done) (kind_is (table_of s) (bases_of s) c.args.x.of a.shape c.kind_of-kind.result c.kind_of-kind.ensures h.shape)
    ∙ ap (λ z. I.of_type z (outlined_shape (bases_of s) a.shape)) (place_proper (bases_of s) _ a.what (ap (what_image (table_of s) (texts_of s)) (sym c.in-Proper.is) ∙ h.what))
