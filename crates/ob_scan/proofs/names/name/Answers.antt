use Rattle.std.proofs.Common.{arith}
use Rattle.ob_scan.specs.Words.{is_letter_or_digit}
use Rattle.ob_scan.proofs.Turns.{run_at, keyword_found, name_found, name_broke}
use Rattle.ob_scan.proofs.names.name.Goals as goal

pub returns-in-Some-clause-found : goal.returns-in-Some-clause-found
returns-in-Some-clause-found c =
    let k = run_at is_letter_or_digit c.args.bytes.now c.args.at c.class_end-to.result c.requires.inside (omega arith) c.class_end-to.ensures.passing c.class_end-to.ensures.stop in
    keyword_found c.args.bytes.now c.args.at c.class_end-to.result c.in-Some.word k c.requires.letter c.in-Some.ensures

pub returns-then-to-at-le-LONGEST_NAME-clause-found : goal.returns-then-to-at-le-LONGEST_NAME-clause-found
returns-then-to-at-le-LONGEST_NAME-clause-found c =
    let k = run_at is_letter_or_digit c.args.bytes.now c.args.at c.class_end-to.result c.requires.inside (omega arith) c.class_end-to.ensures.passing c.class_end-to.ensures.stop in
    name_found c.args.bytes.now c.args.at c.class_end-to.result k c.requires.letter c.in-None.ensures c.if-to-at-le-LONGEST_NAME.true

pub returns-else-to-at-le-LONGEST_NAME-clause-refused : goal.returns-else-to-at-le-LONGEST_NAME-clause-refused
returns-else-to-at-le-LONGEST_NAME-clause-refused c =
    let k = run_at is_letter_or_digit c.args.bytes.now c.args.at c.class_end-to.result c.requires.inside (omega arith) c.class_end-to.ensures.passing c.class_end-to.ensures.stop in
    name_broke c.args.bytes.now c.args.at c.class_end-to.result k c.requires.letter c.in-None.ensures c.if-to-at-le-LONGEST_NAME.false
