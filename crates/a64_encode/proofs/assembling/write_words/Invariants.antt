use Rattle.std.proofs.Common.{◌≡◌, ◌+◌, ◌++◌, drop, length}
use Rattle.a64_encode.specs.Assembly.{count, place, words_from, words, AreNamed}
use Rattle.a64_encode.proofs.assembling.write_words.Given as goal

abbrev pub invariant-loop-line : goal.invariant-loop-line
invariant-loop-line l = record {
  counted : length l.code.items + count (drop l.line-index l.lines) ≡ count l.lines;
  written : l.code.items ++ words_from (place l.lines) (length l.code.items) (drop l.line-index l.lines) ≡ words l.lines;
  named : AreNamed (place l.lines) (drop l.line-index l.lines);
}
