use Rattle.std.proofs.Common.{◌≡◌, ◌+◌, ◌≤◌, drop}
use Rattle.a64_encode.specs.Assembly.{count}
use Rattle.a64_encode.proofs.assembling.count_words.Given as goal

abbrev pub invariant-loop-line : goal.invariant-loop-line
invariant-loop-line l = record {
  counted : l.words + count (drop l.line-index l.lines) ≡ count l.lines;
  few : l.words ≤ l.line-index;
}
