use Rattle.ob_scan.proofs.Turns.{one_found, two_found}
use Rattle.ob_scan.proofs.scanner.mark.Goals as goal

pub returns-in-Some-clause-found : goal.returns-in-Some-clause-found
returns-in-Some-clause-found c = (two_found c.args.bytes.now c.args.at c.in-Some.mark c.requires.inside c.requires.letter c.requires.digit c.requires.quote c.in-Some.ensures).0

pub returns-in-Some-one_byte-clause-found : goal.returns-in-Some-one_byte-clause-found
returns-in-Some-one_byte-clause-found c = one_found c.args.bytes.now c.args.at c.in-Some-one_byte.mark c.requires.inside c.requires.letter c.requires.digit c.requires.quote c.in-Some-one_byte.ensures c.in-None.ensures
