use Rattle.std.proofs.Common.{◌≡◌, ◌++◌, map, drop}
use Rattle.page_parts.specs.Sources.{line_starts}
use Rattle.whole_page.proofs.pages.all_starts.Given as goal

abbrev pub invariant-loop-text : goal.invariant-loop-text
invariant-loop-text l = map (λ v. v.items) l.starts.items ++ map line_starts (drop l.text-index l.texts) ≡ map line_starts l.texts
