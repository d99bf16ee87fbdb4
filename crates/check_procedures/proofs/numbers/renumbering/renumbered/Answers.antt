use Rattle.check_procedures.specs.numbers.Numbering.{numbering_of}
use Rattle.check_procedures.proofs.numbers.Wholes.{texts_are, body_is, answer_is, body_stays, answer_stays, uses_in_turn}
use Rattle.check_procedures.proofs.numbers.renumbering.renumbered.Goals as goal

pub returns-in-Ok-clause-texts : goal.returns-in-Ok-clause-texts
returns-in-Ok-clause-texts c =
    texts_are (numbering_of c.args.scope.now) c.args.body.items c.in-Ok.numbered.body c.args.answer c.in-Ok.numbered.answer c.in-Ok.numbered.texts
    (record { whole = c.in-Ok.ensures; all = c.requires.numbers })

pub returns-in-Ok-clause-body : goal.returns-in-Ok-clause-body
returns-in-Ok-clause-body c =
    body_is (numbering_of c.args.scope.now) c.args.body.items c.in-Ok.numbered.body c.args.answer c.in-Ok.numbered.answer c.in-Ok.numbered.texts
    (record { whole = c.in-Ok.ensures; all = c.requires.numbers })

pub returns-in-Ok-clause-answer : goal.returns-in-Ok-clause-answer
returns-in-Ok-clause-answer c =
    answer_is (numbering_of c.args.scope.now) c.args.body.items c.in-Ok.numbered.body c.args.answer c.in-Ok.numbered.answer c.in-Ok.numbered.texts
    (record { whole = c.in-Ok.ensures; all = c.requires.numbers })

pub returns-in-Ok-clause-body_stays : goal.returns-in-Ok-clause-body_stays
returns-in-Ok-clause-body_stays c =
    body_stays (numbering_of c.args.scope.now) c.args.body.items c.in-Ok.numbered.body c.args.answer c.in-Ok.numbered.answer c.in-Ok.numbered.texts
    (record { whole = c.in-Ok.ensures; all = c.requires.numbers })

pub returns-in-Ok-clause-answer_stays : goal.returns-in-Ok-clause-answer_stays
returns-in-Ok-clause-answer_stays c =
    answer_stays (numbering_of c.args.scope.now) c.args.body.items c.in-Ok.numbered.body c.args.answer c.in-Ok.numbered.answer c.in-Ok.numbered.texts
    (record { whole = c.in-Ok.ensures; all = c.requires.numbers })

pub returns-in-Ok-clause-in_turn : goal.returns-in-Ok-clause-in_turn
returns-in-Ok-clause-in_turn c =
    uses_in_turn (numbering_of c.args.scope.now) c.args.body.items c.in-Ok.numbered.body c.args.answer c.in-Ok.numbered.answer c.in-Ok.numbered.texts
    (record { whole = c.in-Ok.ensures; all = c.requires.numbers })
