use Rattle.std.proofs.Common.{refl, arith}
use Rattle.check_modules.proofs.programs.Entities.{text_there, text_past}
use Rattle.check_modules.proofs.programs.objects.text.Goals as goal

pub returns-then-number-places : goal.returns-then-number-places
returns-then-number-places c = λ texts strings places. text_there texts c.args.places.now strings c.args.number _ (record { «module» = 0; from = 0; to = 0 }) c.if-number-places.true refl places

pub returns : goal.returns
returns c = λ texts strings places. let past = c.if-number-places.false in text_past texts c.args.places.now strings c.args.number (omega (arith, past)) places
