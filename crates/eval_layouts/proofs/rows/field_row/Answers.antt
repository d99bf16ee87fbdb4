use Rattle.std.proofs.Common.{◌≡◌, List, ℕ, ◌+◌, [], ◌∷◌, ◌++◌, take, sym, ap, subst, ◌∙◌}
use Rattle.std.proofs.lemmas.List.{take_more, map-append}
use Rattle.ob_types.specs.Layout.{types_of}
use Rattle.ob_types.specs.declared.types.Field.{Field}
use Rattle.eval_layouts.specs.Tables.{RowTo}
use Rattle.eval_layouts.proofs.rows.field_row.Goals as goal

pub loop-field-init : goal.loop-field-init
loop-field-init c = c.new-row.ensures c.args.types.now

pub loop-field-preserved : goal.loop-field-preserved
loop-field-preserved c =
    let items = c.as_slice-field-items.result.now in
    let i = c.loop-field.field-index in
    let f = c.field-item.result in
    let P : List ℕ → Type 0 = λ l. RowTo c.args.types.now c.match-declared.first l c.add.new.self.places c.add.new.self.end in
    let more : types_of (take i items) ++ f.type_number ∷ [] ≡ types_of (take (i + 1) items) = sym (ap types_of (take_more items i f c.loop-field-test.true ∙ ap (λ (x : Field). take i items ++ x ∷ []) (sym c.field-item.is)) ∙ map-append (λ (x : Field). x.type_number) (take i items) (f ∷ [])) in
    subst P more (c.in_ok-add.ensures c.args.types.now c.match-declared.first (types_of (take i items)) c.requires.known c.loop-field.invariant)
