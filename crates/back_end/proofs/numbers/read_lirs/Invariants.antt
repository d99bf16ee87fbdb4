use Rattle.std.proofs.Common.{◌≡◌, take, length, true}
use Rattle.back_end.specs.Numbers.{lirs_number}
use Rattle.back_end.proofs.numbers.read_lirs.Given as goal

abbrev pub invariant-loop-lir : goal.invariant-loop-lir
invariant-loop-lir l = record {
  end : l.lir-index-end ≡ length l.lirs;
  read : lirs_number (take l.lir-index l.lirs) ≡ true;
}
