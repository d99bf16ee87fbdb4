use Rattle.std.proofs.Common.{map, refl}
use Rattle.trc_answers.proofs.Answering.{refuses}
use Rattle.trc_answers.proofs.Texts.{placed_as, plain_placed}
use Rattle.object_commands.specs.Links.{AreTooMany, IsTextOfObject, LinkComesTo}
use Rattle.object_commands.specs.Reading.{IsTextIn}
use Rattle.object_commands.proofs.Files.{few_read, text_read}
use Rattle.object_commands.proofs.Whole.{few_names, many_names, reads_contents, some_names, unread}
use Rattle.object_commands.proofs.linking.link.Goals as goal

pub link_contents-requires : goal.link_contents-requires
link_contents-requires g c =
    let names = c.args.names.now in
    few_read _ (map (λ name. name.now) names) c.in-Ok.read (some_names names c.requires) (few_names names c.if-names-gt-MOST_OBJECTS.false) c.in-Ok.ensures.contents

pub returns-then-names-gt-MOST_OBJECTS-clause-answers : goal.returns-then-names-gt-MOST_OBJECTS-clause-answers
returns-then-names-gt-MOST_OBJECTS-clause-answers g c = λ left faults output.
    let held = g.F.Files.held c.args.files.now in
    let names = map (λ name. name.now) c.args.names.now in
    rw c.of.ensures (refuses (λ _. LinkComesTo held c.args.out.now names) held held _ _ left faults output _ refl (AreTooMany (many_names c.args.names.now c.if-names-gt-MOST_OBJECTS.true) refl))

pub returns-in-Ok-clause-answers : goal.returns-in-Ok-clause-answers
returns-in-Ok-clause-answers g c = λ left faults output.
    let held = g.F.Files.held c.args.files.now in
    let names = map (λ name. name.now) c.args.names.now in
    let read = c.in-Ok.ensures.contents in
    reads_contents held _ c.args.out.now names _ _ c.in-Ok.ensures.stays (few_names c.args.names.now c.if-names-gt-MOST_OBJECTS.false) read.contents read.are_held c.in-Ok.ensures.rises left faults output _ _
    (c.link_contents.ensures.answers read.contents left faults output read.are)

pub returns-in-Ok-clause-placed : goal.returns-in-Ok-clause-placed
returns-in-Ok-clause-placed g c =
    let held = g.F.Files.held c.args.files.now in
    let names = map (λ name. name.now) c.args.names.now in
    placed_as (IsTextIn c.in-Ok.read) (IsTextOfObject held names) c.link_contents.result.cause c.link_contents.result.place (text_read held names c.in-Ok.read c.in-Ok.ensures.contents) c.link_contents.ensures.placed

pub returns-in-Err-clause-answers : goal.returns-in-Err-clause-answers
returns-in-Err-clause-answers g c = λ left faults output.
    let held = g.F.Files.held c.args.files.now in
    let names = map (λ name. name.now) c.args.names.now in
    rw c.of-in-Err.ensures (unread held _ c.args.out.now names _ _ c.in-Err.ensures.stays (few_names c.args.names.now c.if-names-gt-MOST_OBJECTS.false) c.in-Err.cause c.in-Err.ensures.fault left faults output)

pub returns-in-Err-clause-placed : goal.returns-in-Err-clause-placed
returns-in-Err-clause-placed g c =
    rw c.of-in-Err.ensures (plain_placed (IsTextOfObject (g.F.Files.held c.args.files.now) (map (λ name. name.now) c.args.names.now)) c.in-Err.cause c.of-in-Err.result.place c.in-Err.ensures.plain)
