use Rattle.std.proofs.Common.{◌≡◌, ℕ, ◌+◌, drop}
use Rattle.std.specs.Ordering.{nat_cmp}
use Rattle.std.specs.BTreeMap.{get}
use Rattle.a64_encode.specs.Assembly.{count, or_else, place_from, place}
use Rattle.a64_encode.proofs.assembling.places.Given as goal

abbrev pub invariant-loop-line : goal.invariant-loop-line
invariant-loop-line l = record {
  counted : l.next + count (drop l.line-index l.lines) ≡ count l.lines;
  known : (label : ℕ) → or_else (place_from l.next (drop l.line-index l.lines) label) (get nat_cmp l.places label) ≡ place l.lines label;
}
