use Rattle.std.proofs.Common.{refl, subst}
use Rattle.ob_scan.specs.Scans.{IsFirst}
use Rattle.ob_scan.proofs.Once.{one_scan}
use Rattle.ob_read.specs.Texts.{OfSymbols}
use Rattle.ob_read.proofs.reading.symbols_of.Goals as goal

pub returns-in-Err-Fault-clause-fault : goal.returns-in-Err-Fault-clause-fault
returns-in-Err-Fault-clause-fault c =
    let first = subst (IsFirst c.args.bytes.now) c.in-Err-Fault.field-0-is c.in-Err-Fault.ensures.first in (c.requires, OfSymbols first.0 first.1)

pub returns-in-Err-Fault-clause-only : goal.returns-in-Err-Fault-clause-only
returns-in-Err-Fault-clause-only c = λ symbols s.
    let first = subst (IsFirst c.args.bytes.now) c.in-Err-Fault.field-0-is c.in-Err-Fault.ensures.first in
    absurd (let e = (one_scan s first.1 refl refl).1 in cc)
