use Rattle.std.proofs.Common.{◌≡◌, ◌+◌, ◌++◌, ap, ◌∙◌, arith}
use Rattle.ob_types.specs.Meaning.{texts_of}
use Rattle.ssa_lowered.specs.Data.{layout, globals_room}
use Rattle.ssa_tables.proofs.Limits.{few_descriptors}
use Rattle.ssa_tables.specs.constants.Described.{all_described, all_texts}
use Rattle.ssa_tables.proofs.constants.Telling.{constants_are}
use Rattle.ssa_tables.proofs.constants.bytes.program_constants.Goals as goal

pub returns : goal.returns
returns c =
    let p = c.args.program.now in
    let first = c.from.result + c.from-2.result in
    let few = few_descriptors c.args.tables.now p c.requires.tables c.requires.within in
    let there = c.requires.tables.descriptor 0 in
    let is : first ≡ c.args.globals + globals_room p (layout p.types) = omega (arith, c.from.ensures, c.from-2.ensures, few, there) in
    c.in_ok-push_procedures.ensures
    ∙ ap (λ l. l ++ all_texts (texts_of c.as_slice.result.now)) (c.in_ok-push_descriptors.ensures ∙ ap (λ l. l ++ all_described p.types first) c.new-bytes.ensures.items)
    ∙ ap (λ qs. all_described p.types first ++ all_texts (texts_of qs)) c.as_slice.ensures
    ∙ constants_are p c.args.globals first is
