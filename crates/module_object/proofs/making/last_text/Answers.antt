use Rattle.std.proofs.Common.{◌≡◌, sym, ◌∙◌}
use Rattle.module_object.specs.Objects.{last_text}
use Rattle.module_object.proofs.Behind.{last_of, on_ok}
use Rattle.module_object.proofs.making.last_text.Goals as goal

pub returns-in-Some : goal.returns-in-Some
returns-in-Some c =
    let texts = c.args.texts.now in
    on_ok c.from_slice.result (λ list. list ≡ c.as_slice.result.now) (λ list. list ≡ last_text texts)
    (λ list e. e ∙ c.as_slice.ensures ∙ sym (last_of texts c.in-Some.text.now (sym c.in-Some.ensures.value))) c.from_slice.ensures
