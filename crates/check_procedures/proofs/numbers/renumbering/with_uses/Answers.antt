use Rattle.std.proofs.Common.{[], subst}
use Rattle.check_procedures.specs.numbers.Numbering.{KeepsMeaning, numbering_of}
use Rattle.check_procedures.specs.numbers.Readings.{bodies, answers}
use Rattle.check_procedures.proofs.numbers.Keeping.{beside, made_so}
use Rattle.check_procedures.proofs.numbers.renumbering.with_uses.Goals as goal

pub returns : goal.returns
returns c =
    let n = numbering_of c.args.scope.now in
    let body = c.args.body.items in
    let made = c.renumber_statements.new.list.items in
    let uses = c.renumber_statements.new.uses in
    let begun = subst (λ u. KeepsMeaning bodies n (record { tree = body; made = made; before = u; after = uses })) c.new-texts.ensures c.in_ok-renumber_statements.ensures in
    beside n bodies answers body c.from_vec.result _ _ [] uses _ (made_so n bodies body c.from_vec.result made [] uses begun c.from_vec.ensures) c.in_ok-renumber_answer.ensures
