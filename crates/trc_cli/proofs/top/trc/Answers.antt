use Rattle.trc_cli.proofs.top.trc.Goals as goal

pub returns-clause-answers : goal.returns-clause-answers
returns-clause-answers g c = c.call.ensures.did.answers

pub returns-clause-unread : goal.returns-clause-unread
returns-clause-unread g c = c.call.ensures.did.unread

pub returns-clause-untouched : goal.returns-clause-untouched
returns-clause-untouched g c = c.call.ensures.did.untouched

pub returns-clause-no_fault : goal.returns-clause-no_fault
returns-clause-no_fault g c = c.call.ensures.did.no_fault

pub returns-clause-status : goal.returns-clause-status
returns-clause-status g c = c.call.ensures.did.status

pub returns-clause-told : goal.returns-clause-told
returns-clause-told g c = c.call.ensures.did.told
