use Rattle.check_making.proofs.parameters.Stages.{stands_by_made}
use Rattle.check_declared.proofs.type_parts.records.begin_fields.Goals as goal

pub returns-clause-stands : goal.returns-clause-stands
returns-clause-stands c =
    let l = c.requires.layout in
    stands_by_made c.requires.stands c.stand_fields.result c.stand_fields.ensures.settled (c.stand_fields.ensures.judged l.layout l.so_far)
