use Rattle.std.proofs.Common.{◌≤◌, ℕ, List, length, map, sym, subst}
use Rattle.trc_answers.specs.Reading.{AreTextsOf}
use Rattle.trc_answers.proofs.Texts.{few_texts, reads_texts, unread}
use Rattle.trc_texts.proofs.Refusing.{placed_held}
use Rattle.note_commands.specs.Noted.{NotedComeTo, NotesWritten}
use Rattle.note_commands.proofs.building.build_with_notes.Goals as goal

pub write_noted-requires-clause-few : goal.write_noted-requires-clause-few
write_noted-requires-clause-few g c κs within = subst (λ (ts : List (List ℕ)). length ts ≤ 64) (sym c.as_slice.ensures.value) (few_texts _ _ _ c.in-Ok.ensures.texts)

pub returns-in-Ok-clause-answers : goal.returns-in-Ok-clause-answers
returns-in-Ok-clause-answers g c = λ left faults output.
    let held = g.F.Files.held c.args.files.now in
    let names = map (λ name. name.now) c.args.names.now in
    let are = subst (AreTextsOf held names) (sym c.as_slice.ensures.value) c.in-Ok.ensures.texts in
    reads_texts held _ names c.as_slice.result.now _ _ (λ _. NotedComeTo c.args.choice.now (NotesWritten c.args.out.now c.args.name.now)) c.in-Ok.ensures.stays are c.in-Ok.ensures.rises left faults output _ _ (c.write_noted.ensures.answers left faults output)

pub returns-in-Ok-clause-placed : goal.returns-in-Ok-clause-placed
returns-in-Ok-clause-placed g c =
    let held = g.F.Files.held c.args.files.now in
    let names = map (λ name. name.now) c.args.names.now in
    let are = subst (AreTextsOf held names) (sym c.as_slice.ensures.value) c.in-Ok.ensures.texts in
    placed_held held names c.as_slice.result.now _ _ are c.write_noted.ensures.placed

pub returns-in-Err-clause-answers : goal.returns-in-Err-clause-answers
returns-in-Err-clause-answers g c = λ left faults output.
    let held = g.F.Files.held c.args.files.now in
    let names = map (λ name. name.now) c.args.names.now in
    rw c.of.ensures (unread held _ names _ _ _ (λ _. NotedComeTo c.args.choice.now (NotesWritten c.args.out.now c.args.name.now)) c.in-Err.ensures.stays c.in-Err.ensures.fault left faults output)
