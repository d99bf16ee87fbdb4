use Rattle.std.proofs.Common.{subst, sym}
use Rattle.source_program.specs.Texts.{IsSourceFault}
use Rattle.source_program.proofs.Behind.{next_unread}
use Rattle.source_program.proofs.module.one_more.Goals as goal

pub returns-in-Err-clause-fault : goal.returns-in-Err-clause-fault
returns-in-Err-clause-fault c =
    subst (IsSourceFault c.args.texts.now) (sym c.of_reading.ensures)
    (next_unread c.args.texts.now c.args.index c.args.state c.requires.behind c.args.bytes.now c.requires.own_text c.in-Err.fault c.in-Err.ensures.fault)
