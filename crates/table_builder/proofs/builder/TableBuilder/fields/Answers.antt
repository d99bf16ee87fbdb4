use Rattle.std.proofs.Common.{sym, ap, subst, take, ◌++◌, ◌∷◌, [], ◌∙◌, arith}
use Rattle.std.proofs.lemmas.List.{take_more, take_all}
use Rattle.table_builder.specs.Entries.{IsElement}
use Rattle.table_builder.specs.Contents.{AreFields}
use Rattle.table_builder.proofs.Calls.{fields_push, element_at}
use Rattle.table_builder.proofs.builder.TableBuilder.fields.Goals as goal

pub field-requires-clause-element : goal.field-requires-clause-element
field-requires-clause-element c =
    let es = c.args.self.now.table.entries.items in
    subst (λ a. IsElement es a.of) (sym c.one-item.is) (element_at es c.args.added.now c.loop-one.one-index c.one-item.result c.loop-one-test.true c.requires.elements)

pub loop-one-preserved : goal.loop-one-preserved
loop-one-preserved c =
    let es = c.args.self.now.table.entries.items in
    let is = take_more c.args.added.now c.loop-one.one-index c.one-item.result c.loop-one-test.true ∙ ap (λ a. take c.loop-one.one-index c.args.added.now ++ a ∷ []) (sym c.one-item.is) in
    subst (AreFields es c.push.new.self) (sym is)
    (subst (λ fs. AreFields es fs (take c.loop-one.one-index c.args.added.now ++ c.one-item.result ∷ [])) (sym c.in_ok-push.ensures.ok)
    (fields_push es c.in_ok-field.field-0 c.one-item.result c.in_ok-field.ensures c.loop-one.fields (take c.loop-one.one-index c.args.added.now) c.loop-one.invariant))

pub returns : goal.returns
returns c =
    let l = c.loop-one-test.false in
    subst (AreFields c.args.self.now.table.entries.items c.loop-one.fields) (take_all c.loop-one.one-index c.args.added.now (omega (arith, l))) c.loop-one.invariant
