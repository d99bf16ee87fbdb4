use Rattle.std.proofs.Common.{◌-◌, take, drop, arith, ◌∙◌, rules}
use Rattle.std.proofs.lemmas.Int.{to_z-of_z}
use mir.Syntax.{w64}
use mir.Val.{SFits}
use Rattle.ob_scan.specs.Words.{is_digit, is_hexadecimal}
use Rattle.ob_scan.proofs.Longest.{all_hexadecimal}
use Rattle.ob_scan.proofs.Turns.{run_at, run_hexadecimal, run_digits, signed_small, hexadecimal_found, hexadecimal_broke, character_found, character_broke, decimal_found, decimal_broke}
use Rattle.ob_scan.proofs.numbers.number.Goals as goal

pub value_of-requires-clause-digits : goal.value_of-requires-clause-digits
value_of-requires-clause-digits c = run_hexadecimal c.args.bytes.now c.args.at c.class_end-suffix.result (run_at is_hexadecimal c.args.bytes.now c.args.at c.class_end-suffix.result c.requires.inside (omega arith) c.class_end-suffix.ensures.passing c.class_end-suffix.ensures.stop) c.requires.digit

pub value_of-requires-then-has_byte-2-clause-digits : goal.value_of-requires-then-has_byte-2-clause-digits
value_of-requires-then-has_byte-2-clause-digits c = run_hexadecimal c.args.bytes.now c.args.at c.class_end-suffix.result (run_at is_hexadecimal c.args.bytes.now c.args.at c.class_end-suffix.result c.requires.inside (omega arith) c.class_end-suffix.ensures.passing c.class_end-suffix.ensures.stop) c.requires.digit

pub value_of-requires-else-has_byte-2-clause-digits : goal.value_of-requires-else-has_byte-2-clause-digits
value_of-requires-else-has_byte-2-clause-digits c = all_hexadecimal (take (c.class_end-to.result - c.args.at) (drop c.args.at c.args.bytes.now)) (run_digits c.args.bytes.now c.args.at c.class_end-to.result (run_at is_digit c.args.bytes.now c.args.at c.class_end-to.result c.requires.inside (omega arith) c.class_end-to.ensures.passing c.class_end-to.ensures.stop) c.requires.digit)

pub returns-in-Some-clause-found : goal.returns-in-Some-clause-found
returns-in-Some-clause-found c =
    let fits : SFits w64 c.signed_of.result = search rules in
    hexadecimal_found c.args.bytes.now c.args.at c.class_end-suffix.result c.in-Some.n _ (run_at is_hexadecimal c.args.bytes.now c.args.at c.class_end-suffix.result c.requires.inside (omega arith) c.class_end-suffix.ensures.passing c.class_end-suffix.ensures.stop) c.requires.digit c.if-has_byte.ensures c.in-Some.ensures.0 (omega (arith, c.in-Some.ensures.1)) (to_z-of_z w64 c.signed_of.result fits ∙ c.signed_of.ensures)

pub returns-in-None-clause-refused : goal.returns-in-None-clause-refused
returns-in-None-clause-refused c = hexadecimal_broke c.args.bytes.now c.args.at c.class_end-suffix.result (run_at is_hexadecimal c.args.bytes.now c.args.at c.class_end-suffix.result c.requires.inside (omega arith) c.class_end-suffix.ensures.passing c.class_end-suffix.ensures.stop) c.requires.digit c.if-has_byte.ensures (omega (arith, c.in-None.ensures))

pub returns-in-Some-value_of-clause-found : goal.returns-in-Some-value_of-clause-found
returns-in-Some-value_of-clause-found c = character_found c.args.bytes.now c.args.at c.class_end-suffix.result c.in-Some-value_of.code (run_at is_hexadecimal c.args.bytes.now c.args.at c.class_end-suffix.result c.requires.inside (omega arith) c.class_end-suffix.ensures.passing c.class_end-suffix.ensures.stop) c.requires.digit c.if-has_byte-2.ensures c.in-Some-value_of.ensures.0 c.in-Some-value_of.ensures.1

pub returns-in-None-value_of-clause-refused : goal.returns-in-None-value_of-clause-refused
returns-in-None-value_of-clause-refused c = character_broke c.args.bytes.now c.args.at c.class_end-suffix.result (run_at is_hexadecimal c.args.bytes.now c.args.at c.class_end-suffix.result c.requires.inside (omega arith) c.class_end-suffix.ensures.passing c.class_end-suffix.ensures.stop) c.requires.digit c.if-has_byte-2.ensures (omega (arith, c.in-None-value_of.ensures))

pub returns-in-Some-value_of-2-clause-found : goal.returns-in-Some-value_of-2-clause-found
returns-in-Some-value_of-2-clause-found c =
    let fits : SFits w64 c.signed_of-in-Some-value_of-2.result = search rules in
    decimal_found c.args.bytes.now c.args.at c.class_end-suffix.result c.class_end-to.result c.in-Some-value_of-2.n _ (run_at is_hexadecimal c.args.bytes.now c.args.at c.class_end-suffix.result c.requires.inside (omega arith) c.class_end-suffix.ensures.passing c.class_end-suffix.ensures.stop) (run_at is_digit c.args.bytes.now c.args.at c.class_end-to.result c.requires.inside (omega arith) c.class_end-to.ensures.passing c.class_end-to.ensures.stop) c.requires.digit c.if-has_byte.ensures c.if-has_byte-2.ensures c.in-Some-value_of-2.ensures.0 (omega (arith, c.in-Some-value_of-2.ensures.1)) (to_z-of_z w64 c.signed_of-in-Some-value_of-2.result fits ∙ (c.signed_of-in-Some-value_of-2.ensures ∙ signed_small _ (omega (arith, c.in-Some-value_of-2.ensures.1))))

pub returns-in-None-value_of-2-clause-refused : goal.returns-in-None-value_of-2-clause-refused
returns-in-None-value_of-2-clause-refused c = decimal_broke c.args.bytes.now c.args.at c.class_end-suffix.result c.class_end-to.result (run_at is_hexadecimal c.args.bytes.now c.args.at c.class_end-suffix.result c.requires.inside (omega arith) c.class_end-suffix.ensures.passing c.class_end-suffix.ensures.stop) (run_at is_digit c.args.bytes.now c.args.at c.class_end-to.result c.requires.inside (omega arith) c.class_end-to.ensures.passing c.class_end-to.ensures.stop) c.requires.digit c.if-has_byte.ensures c.if-has_byte-2.ensures (omega (arith, c.in-None-value_of-2.ensures))
