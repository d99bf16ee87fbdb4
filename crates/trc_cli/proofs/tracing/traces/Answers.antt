use Rattle.std.proofs.Common.{◌≤◌, ℕ, List, length, map, sym, subst}
use Rattle.trc_answers.specs.Reading.{AreTextsOf}
use Rattle.trc_answers.proofs.Texts.{few_texts, reads_texts, unread}
use Rattle.trc_cli.specs.Commands.{TracesComeTo}
use Rattle.object_commands.proofs.trc_texts.Refusing.{placed_held}
use Rattle.trc_cli.proofs.tracing.traces.Goals as goal

pub trace_texts-requires : goal.trace_texts-requires
trace_texts-requires g c = subst (λ (ts : List (List ℕ)). length ts ≤ 64) (sym c.as_slice.ensures.value) (few_texts _ _ _ c.in-Ok.ensures.texts)

pub returns-in-Ok-clause-answers : goal.returns-in-Ok-clause-answers
returns-in-Ok-clause-answers g c = λ left input_faults.
    let held = g.F.Files.held c.args.files.now in
    let names = map (λ name. name.now) c.args.names.now in
    let are = subst (AreTextsOf held names) (sym c.as_slice.ensures.value) c.in-Ok.ensures.texts in
    reads_texts held _ names c.as_slice.result.now _ _ (λ _. TracesComeTo c.args.choice.now) c.in-Ok.ensures.stays are c.in-Ok.ensures.rises left input_faults _ _ _ (c.trace_texts.ensures.answers _ _ left input_faults)

pub returns-in-Ok-clause-placed : goal.returns-in-Ok-clause-placed
returns-in-Ok-clause-placed g c =
    let held = g.F.Files.held c.args.files.now in
    let names = map (λ name. name.now) c.args.names.now in
    let are = subst (AreTextsOf held names) (sym c.as_slice.ensures.value) c.in-Ok.ensures.texts in
    placed_held held names c.as_slice.result.now _ _ are c.trace_texts.ensures.placed

pub returns-in-Err-clause-answers : goal.returns-in-Err-clause-answers
returns-in-Err-clause-answers g c = λ left input_faults.
    let held = g.F.Files.held c.args.files.now in
    let names = map (λ name. name.now) c.args.names.now in
    rw c.of.ensures (unread held _ names _ _ _ (λ _. TracesComeTo c.args.choice.now) c.in-Err.ensures.stays c.in-Err.ensures.fault left input_faults _)
