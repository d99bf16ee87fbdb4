use Rattle.std.proofs.Common.{map, sym, subst}
use Rattle.std.proofs.lemmas.List.{length-map}
use Rattle.trc_answers.specs.Answers.{Answers, devices}
use Rattle.trc_answers.specs.Reading.{FilesComeTo}
use Rattle.object_commands.specs.note_commands.Noted.{NotedAnewComeTo}
use Rattle.trc_cli.proofs.building.build_noted.Goals as goal

pub returns-in-Some-clause-answers : goal.returns-in-Some-clause-answers
returns-in-Some-clause-answers g c = λ left faults output.
    let held = g.F.Files.held c.args.files.now in
    let names = map (λ name. name.now) c.args.names.now in
    rw c.in-Some.is
    (subst (λ n. Answers (λ _. FilesComeTo held names (NotedAnewComeTo held c.args.choice.now c.args.out.now c.args.notes.now c.in-Some.from.now n))
    (devices held (g.F.Files.faults c.args.files.now) left faults output)
    (devices (g.F.Files.held c.build_anew_with_notes.new.files) (g.F.Files.faults c.build_anew_with_notes.new.files) left faults output) c.build_anew_with_notes.result.cause)
    (sym (length-map c.args.names.now (λ name. name.now))) (c.build_anew_with_notes.ensures.answers left faults output))

pub returns-in-None-clause-answers : goal.returns-in-None-clause-answers
returns-in-None-clause-answers g c = λ left faults output. rw c.in-None.is (c.build_with_notes.ensures.answers left faults output)
