use Rattle.std.proofs.Common.{◌≡◌, ◌+◌, length, drop}
use Rattle.noted_image.proofs.Written.{all_of}
use Rattle.noted_image.proofs.notes.count_all.Given as goal

abbrev pub invariant-loop-own : goal.invariant-loop-own
invariant-loop-own l = record {
  end : l.own-index-end ≡ length l.outs;
  sum : l.count + length (all_of (drop l.own-index l.outs)) ≡ length (all_of l.outs);
}
