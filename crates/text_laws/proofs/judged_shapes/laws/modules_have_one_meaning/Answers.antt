use Rattle.text_laws.proofs.judged_shapes.OneForm.{one_form, one_form_closed}
use Rattle.text_laws.proofs.judged_shapes.laws.modules_have_one_meaning.Goals as goal

pub returns : goal.returns
returns c = λ ms p q x y good well order other input turns.
    let ordered = c.ordered_programs_have_one_form.ensures in
    c.forms_have_one_meaning.ensures p q good well (one_form ordered ms p q x y order other) (one_form_closed ordered ms p q x y order other) input turns
