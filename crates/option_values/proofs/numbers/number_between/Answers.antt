use Rattle.std.proofs.Common.{◌≡◌, true, rules}
use Rattle.option_values.specs.Numbers.{is_number}
use Rattle.option_values.proofs.Digits.{unread}
use Rattle.option_values.proofs.numbers.number_between.Goals as goal

pub returns-in_default : goal.returns-in_default
returns-in_default c =
    let spells : is_number c.args.text.now ≡ true = search rules in
    let none = unread c.args.least c.args.most c.args.text.now spells c.ranges.most.fits c.in_default.ensures.value.0 in
    record { value = none; least = tt; most = tt }
