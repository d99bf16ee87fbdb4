use Rattle.std.proofs.Common.{◌≡◌, drop}
use Rattle.page_parts.specs.Sources.{next_heading}
use Rattle.page_parts.proofs.sources.next_heading.Given as goal

abbrev pub invariant-loop-place : goal.invariant-loop-place
invariant-loop-place l = next_heading l.places l.own l.line l.least ≡ next_heading (drop l.place-index l.places) l.own l.line l.next
