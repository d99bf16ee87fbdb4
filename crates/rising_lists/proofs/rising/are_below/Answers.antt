use Rattle.std.proofs.Common.{◌≡◌, ◌-◌, length, Some, rules}
use Rattle.std.specs.Prelude.{slice_get}
use Rattle.std.proofs.lemmas.Bool.{ltb-true}
use Rattle.rising_lists.proofs.Ranks.{last_below}
use Rattle.rising_lists.proofs.rising.are_below.Goals as goal

pub returns-in-Some : goal.returns-in-Some
returns-in-Some c rising is =
    let lookup : slice_get c.args.numbers.now (length c.args.numbers.now - 1) ≡ Some c.in-Some.last.now = search rules in
    last_below c.args.numbers.now c.in-Some.last.now c.args.number lookup (ltb-true _ _ is) rising
