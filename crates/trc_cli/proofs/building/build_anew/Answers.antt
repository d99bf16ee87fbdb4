use Rattle.std.proofs.Common.{◌≤◌, ℕ, List, length, map, sym, subst}
use Rattle.trc_answers.specs.Answers.{Answers, devices}
use Rattle.trc_answers.specs.Reading.{AreTextsOf}
use Rattle.trc_answers.proofs.Texts.{few_texts, reads_texts, unread}
use Rattle.trc_cli.specs.Commands.{AnewComesTo}
use Rattle.object_commands.proofs.trc_texts.Refusing.{placed_held}
use Rattle.trc_cli.proofs.building.build_anew.Goals as goal

pub build_texts_anew-requires-clause-few : goal.build_texts_anew-requires-clause-few
build_texts_anew-requires-clause-few g c κs within = subst (λ (ts : List (List ℕ)). length ts ≤ 64) (sym c.as_slice.ensures.value) (few_texts _ _ _ c.in-Ok.ensures.texts)

pub returns-in-Ok-clause-answers : goal.returns-in-Ok-clause-answers
returns-in-Ok-clause-answers g c = λ left faults output.
    let held = g.F.Files.held c.args.files.now in
    let names = map (λ name. name.now) c.args.names.now in
    let are = subst (AreTextsOf held names) (sym c.as_slice.ensures.value) c.in-Ok.ensures.texts in
    reads_texts held _ names c.as_slice.result.now _ _ (λ _. AnewComesTo held c.args.choice.now c.args.out.now c.args.from.now (length c.args.names.now)) c.in-Ok.ensures.stays are c.in-Ok.ensures.rises left faults output _ _
    (subst (λ h. Answers (λ _. AnewComesTo h c.args.choice.now c.args.out.now c.args.from.now (length c.args.names.now) c.as_slice.result.now)
    (devices (g.F.Files.held c.read_texts.new.files) (g.F.Files.faults c.read_texts.new.files) left faults output)
    (devices (g.F.Files.held c.build_texts_anew.new.files) (g.F.Files.faults c.build_texts_anew.new.files) left faults output) c.build_texts_anew.result.cause)
    c.in-Ok.ensures.stays (c.build_texts_anew.ensures.answers left faults output))

pub returns-in-Ok-clause-placed : goal.returns-in-Ok-clause-placed
returns-in-Ok-clause-placed g c =
    let held = g.F.Files.held c.args.files.now in
    let names = map (λ name. name.now) c.args.names.now in
    let are = subst (AreTextsOf held names) (sym c.as_slice.ensures.value) c.in-Ok.ensures.texts in
    placed_held held names c.as_slice.result.now _ _ are c.build_texts_anew.ensures.placed

pub returns-in-Err-clause-answers : goal.returns-in-Err-clause-answers
returns-in-Err-clause-answers g c = λ left faults output.
    let held = g.F.Files.held c.args.files.now in
    let names = map (λ name. name.now) c.args.names.now in
    rw c.of.ensures (unread held _ names _ _ _ (λ _. AnewComesTo held c.args.choice.now c.args.out.now c.args.from.now (length c.args.names.now)) c.in-Err.ensures.stays c.in-Err.ensures.fault left faults output)
