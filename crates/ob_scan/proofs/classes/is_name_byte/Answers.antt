use Rattle.std.proofs.Common.{refl, arith}
use Rattle.ob_scan.specs.declared.classes.TheConstants.{NAME_BYTES}
use Rattle.ob_scan.specs.Words.{is_letter_or_digit}
use Rattle.ob_scan.proofs.Bytes.{alike, tells, told_of}
use Rattle.ob_scan.proofs.classes.is_name_byte.Goals as goal

pub returns : goal.returns
unfolding alike tells
returns c = told_of is_letter_or_digit NAME_BYTES c.from.result c.args.b refl (omega arith) (omega arith)
