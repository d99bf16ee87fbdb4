use Rattle.std.proofs.Common.{◌++◌, ◌∷◌, [], length, Some, ap, ◌∙◌, arith}
use Rattle.std.specs.Prelude.{slice_get}
use Rattle.std.proofs.lemmas.List.{length-append}
use Rattle.table_builder.specs.Elements.{elements_of}
use Rattle.table_builder.proofs.Lists.{take_long, take_kept, taken, take_next}
use Rattle.table_builder.proofs.elements.note_elements.Goals as goal

pub returns-in_err-push-clause-kept : goal.returns-in_err-push-clause-kept
returns-in_err-push-clause-kept c = λ k l.
    ap (λ xs. slice_get xs k) (c.in_err-push.ensures.items ∙ c.truncate.ensures.items) ∙ taken c.args.elements.now.items c.args.n k l

pub returns-in_err-push-clause-as_many : goal.returns-in_err-push-clause-as_many
returns-in_err-push-clause-as_many c =
    let same = ap (λ xs. length xs) (c.in_err-push.ensures.items ∙ c.truncate.ensures.items) in
    let long = take_long c.args.elements.now.items c.args.n c.requires in
    omega (arith, same, long)

pub returns-clause-kept : goal.returns-clause-kept
returns-clause-kept c = λ k l.
    ap (λ xs. slice_get xs k) (c.in_ok-push.ensures.items ∙ ap (λ xs. xs ++ c.elements_of-one.result ∷ []) c.truncate.ensures.items)
    ∙ take_kept c.args.elements.now.items (c.elements_of-one.result ∷ []) c.args.n k c.requires l

pub returns-clause-as_many : goal.returns-clause-as_many
returns-clause-as_many c =
    let same = ap (λ xs. length xs) c.in_ok-push.ensures.items in
    let more = length-append c.truncate.new.self.items (c.elements_of-one.result ∷ []) in
    let cut = ap (λ xs. length xs) c.truncate.ensures.items in
    let long = take_long c.args.elements.now.items c.args.n c.requires in
    omega (arith, same, more, cut, long)

pub returns-clause-noted : goal.returns-clause-noted
returns-clause-noted c =
    ap (λ xs. slice_get xs c.args.n) (c.in_ok-push.ensures.items ∙ ap (λ xs. xs ++ c.elements_of-one.result ∷ []) c.truncate.ensures.items)
    ∙ take_next c.args.elements.now.items c.args.n c.elements_of-one.result c.requires
    ∙ ap (λ x. Some x) (c.elements_of-one.ensures ∙ ap (λ xs. elements_of xs c.args.n c.args.of) c.as_slice.ensures.value)
