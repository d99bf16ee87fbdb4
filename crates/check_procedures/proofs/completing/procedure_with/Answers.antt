use Rattle.check_procedures.proofs.Finished.{procedure_stands}
use Rattle.check_procedures.proofs.completing.procedure_with.Goals as goal

pub returns : goal.returns
returns c = λ q h m j line is has ended body.
    procedure_stands c.args.round.now c.args.state.now q h m j c.args.line c.args.heading c.number.result c.args.locals c.args.numbered line is has ended body c.requires.formals c.number.ensures.entry
