use Rattle.trc_cli.proofs.building.build_asked.Goals as goal

pub returns-in-Some-clause-answers : goal.returns-in-Some-clause-answers
returns-in-Some-clause-answers g c = λ left faults output. rw c.in-Some.is (c.build_noted.ensures.answers left faults output)

pub returns-in-None-clause-answers : goal.returns-in-None-clause-answers
returns-in-None-clause-answers g c = λ left faults output. rw c.in-None.is (c.build_from.ensures.answers left faults output)
