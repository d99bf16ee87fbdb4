use Rattle.std.proofs.Common.{◌≡◌, ◌++◌, drop}
use Rattle.explanations.specs.Explained.{lines_of}
use Rattle.explanations.proofs.explaining.put_lines.Given as goal

-- the lines that were appended, and those that are left
abbrev pub invariant-loop-kind : goal.invariant-loop-kind
invariant-loop-kind l = l.initial.text.items ++ lines_of l.pages ≡ l.text.items ++ lines_of (drop l.kind-index l.pages)
