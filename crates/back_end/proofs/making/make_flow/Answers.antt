use Rattle.std.proofs.Common.{◌∙◌}
use Rattle.back_end.proofs.Planning.{is_made}
use Rattle.back_end.proofs.making.make_flow.Goals as goal

pub returns-clause-made : goal.returns-clause-made
returns-clause-made c valid =
    let a = c.in_ok-lines.field-0 in
    is_made c.args.choice.now c.requires.fit c.args.flow.now a.lines.items a.outs.items _
    (λ k d few all is. c.in_ok-words.ensures k d few all (record { flow_is = is.flow_is; outs_are = c.as_slice-2.ensures.value ∙ is.outs_are; lines_are = c.as_slice.ensures.value ∙ is.lines_are; sound = is.sound; paths = is.paths }))
    (c.in_ok-lines.ensures.allocated valid)
