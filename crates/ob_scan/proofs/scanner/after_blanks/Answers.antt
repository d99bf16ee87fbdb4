use Rattle.std.proofs.Common.{subst, sym, arith}
use Rattle.ob_scan.specs.declared.fault.ScanFault.{ScanFault}
use Rattle.ob_scan.specs.Steps.{BreaksAt}
use Rattle.ob_scan.proofs.Turns.{open_at}
use Rattle.ob_scan.proofs.scanner.after_blanks.Goals as goal

pub returns-in-Err-clause-first : goal.returns-in-Err-clause-first
returns-in-Err-clause-first c = subst (λ (e : ScanFault). BreaksAt c.args.bytes.now c.args.at e) (sym c.fault.ensures) (open_at c.args.bytes.now c.args.at c.in-Err.opening c.requires.inside (omega (arith, c.in-Err.ensures.range.1)) c.in-Err.ensures.past c.in-Err.ensures.comment)
