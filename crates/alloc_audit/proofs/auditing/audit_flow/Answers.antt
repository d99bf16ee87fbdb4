use Rattle.alloc_audit.proofs.Verdicts.{known_by}
use Rattle.alloc_audit.proofs.auditing.audit_flow.Goals as goal

pub returns-clause-known : goal.returns-clause-known
returns-clause-known c = known_by c.args.flow.now c.in_ok-rows.rows c.in_ok-rows.ensures
