use Rattle.judged_modules.proofs.Keeping.{given}
use Rattle.judged_programs.proofs.HeadingsTidy.{h_formals, no_words}
use Rattle.judged_programs.proofs.keeping.parameters_stay_tidy.Goals as goal

pub returns : goal.returns
returns c = λ from p b x s t l a is inside tidy.
    let h = given ((l, a), t) (h_formals from p b x s) is in
    let k = h.lists.tidy tt inside tidy no_words in
    (k.0, k.1, h.result inside tidy)
