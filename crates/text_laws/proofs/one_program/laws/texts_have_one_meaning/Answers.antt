use Rattle.text_laws.proofs.one_program.OneProgram.{of_the_same, uses_in_order}
use Rattle.text_laws.proofs.one_program.laws.texts_have_one_meaning.Goals as goal

pub returns : goal.returns
returns c = λ texts p q x y fine also input turns.
    c.modules_have_one_meaning.ensures x.modules p q x.program (of_the_same c.texts_are_read_once.ensures.text texts p q x y) fine also (uses_in_order texts p x) (uses_in_order texts q y) input turns
