use Rattle.std.proofs.Common.{sym, refl}
use Rattle.check_types.proofs.steps.Answering.{goes_on}
use Rattle.check_statements.proofs.cases.Labelling.{there_last, missing_last}
use Rattle.check_statements.proofs.cases.types.type_of_label.Goals as goal

pub returns-in-None : goal.returns-in-None
returns-in-None c = goes_on _ _ c.in_ok-named.ensures (λ o h. missing_last 39 _ (sym (c.in-None.ensures c.args.scope.now o h)) c.fault.ensures)

pub returns-in-Some : goal.returns-in-Some
returns-in-Some c = goes_on _ _ c.in_ok-named.ensures (λ o h. there_last 39 _ (sym (c.in-Some.ensures c.args.scope.now o h)) refl)
