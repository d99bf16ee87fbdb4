use Rattle.std.proofs.Common.{◌≡◌, drop}
use Rattle.std.specs.List.{list_all}
use Rattle.option_values.specs.Numbers.{is_digit}
use Rattle.option_values.proofs.numbers.are_digits.Given as goal

-- the bytes that were looked at are digits
abbrev pub invariant-loop-byte : goal.invariant-loop-byte
invariant-loop-byte l = list_all is_digit l.bytes ≡ list_all is_digit (drop l.byte-index l.bytes)
