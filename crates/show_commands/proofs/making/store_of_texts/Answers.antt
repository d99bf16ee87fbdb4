use Rattle.std.proofs.Common.{map}
use Rattle.show_commands.proofs.Whole.{has_page, no_page}
use Rattle.show_commands.proofs.making.store_of_texts.Goals as goal

pub returns-in-Ok-clause-answers : goal.returns-in-Ok-clause-answers
returns-in-Ok-clause-answers g c = λ left faults output.
    let asked = c.args.asked.now in
    rw c.of.ensures (has_page asked.choice.now asked.policy c.args.out.now (map (λ name. name.now) asked.names.now) c.args.texts.now c.as_slice.result.now c.in-Ok.page.items _ _ _ c.as_slice.ensures.value c.in-Ok.ensures.page
    (c.write_file.ensures.answers left faults output))

pub returns-in-Err-clause-answers : goal.returns-in-Err-clause-answers
returns-in-Err-clause-answers g c = λ left faults output.
    let asked = c.args.asked.now in
    no_page asked.choice.now asked.policy c.args.out.now (map (λ name. name.now) asked.names.now) c.args.texts.now _ c.in-Err.ensures.refused _ _ left faults output
