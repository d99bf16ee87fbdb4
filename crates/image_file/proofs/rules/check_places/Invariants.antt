use Rattle.std.proofs.Common.{◌≡◌, ◌+◌, ◌-◌, ◌*◌}
use Rattle.image_file.specs.Rules.{first_of, place_rules}
use Rattle.image_file.proofs.rules.check_places.Given as goal

abbrev pub invariant-loop-i : goal.invariant-loop-i
invariant-loop-i l = first_of (place_rules l.bytes l.words l.from 0 l.count) ≡ first_of (place_rules l.bytes l.words (l.from + 12 * l.i) l.least (l.count - l.i))
