use Rattle.std.proofs.Common.{◌≤◌, ℕ, List, length, map, sym, subst}
use Rattle.trc_answers.specs.Reading.{AreTextsOf}
use Rattle.trc_answers.proofs.Texts.{few_texts, plain_placed}
use Rattle.trc_texts.proofs.Refusing.{placed_held}
use Rattle.trc_texts.specs.Texts.{IsTextHeld}
use Rattle.note_commands.specs.Audits.{audit_of}
use Rattle.note_commands.proofs.Whole.{below, reads_behind, unread_behind, few_names}
use Rattle.note_commands.proofs.auditing.audit_files.Goals as goal

pub audit_texts-requires-clause-texts : goal.audit_texts-requires-clause-texts
audit_texts-requires-clause-texts g c = subst (λ (ts : List (List ℕ)). length ts ≤ 64) (sym c.as_slice.ensures.value) (few_texts _ _ _ c.in-Ok.ensures.texts)

pub one_behind-requires : goal.one_behind-requires
one_behind-requires g c = below _ (map (λ name. name.now) c.args.names.now) _ _ c.in-Err.cause (few_names c.args.names.now c.requires.modules) c.in-Err.ensures.fault

pub returns-in-Ok-clause-answers : goal.returns-in-Ok-clause-answers
returns-in-Ok-clause-answers g c = λ notes bytes left input_faults there content.
    let held = g.F.Files.held c.args.files.now in
    let names = map (λ name. name.now) c.args.names.now in
    let are = subst (AreTextsOf held names) (sym c.as_slice.ensures.value) c.in-Ok.ensures.texts in
    reads_behind held _ (audit_of c.args.name.now c.args.builder c.args.regs) notes bytes names c.as_slice.result.now _ _ c.in-Ok.ensures.stays there are c.in-Ok.ensures.rises left input_faults _ _ _
    (c.audit_texts.ensures.answers bytes left input_faults content)

pub returns-in-Ok-clause-placed : goal.returns-in-Ok-clause-placed
returns-in-Ok-clause-placed g c =
    let held = g.F.Files.held c.args.files.now in
    let names = map (λ name. name.now) c.args.names.now in
    let are = subst (AreTextsOf held names) (sym c.as_slice.ensures.value) c.in-Ok.ensures.texts in
    placed_held held names c.as_slice.result.now _ _ are c.audit_texts.ensures.placed

pub returns-in-Err-clause-answers : goal.returns-in-Err-clause-answers
returns-in-Err-clause-answers g c = λ notes bytes left input_faults there content.
    let held = g.F.Files.held c.args.files.now in
    let names = map (λ name. name.now) c.args.names.now in
    rw c.of.ensures (unread_behind held _ (audit_of c.args.name.now c.args.builder c.args.regs) notes bytes names _ _ c.in-Err.cause c.one_behind.result c.in-Err.ensures.stays (few_names c.args.names.now c.requires.modules) there c.in-Err.ensures.fault
    c.one_behind.ensures.is left input_faults _)

pub returns-in-Err-clause-placed : goal.returns-in-Err-clause-placed
returns-in-Err-clause-placed g c =
    rw c.of.ensures (plain_placed (IsTextHeld (g.F.Files.held c.args.files.now) (map (λ name. name.now) c.args.names.now)) c.one_behind.result c.of.result.place (c.one_behind.ensures.plain c.in-Err.ensures.plain))
