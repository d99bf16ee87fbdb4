use Rattle.std.proofs.Common.{◌≡◌, ◌++◌, map, drop}
use Rattle.whole_page.specs.Choices.{files_text}
use Rattle.whole_page.proofs.choices.put_files.Given as goal

abbrev pub invariant-loop-name : goal.invariant-loop-name
invariant-loop-name l = l.text.items ++ files_text (map (λ name. name.now) (drop l.name-index l.names)) ≡ l.initial.text.items ++ files_text (map (λ name. name.now) l.names)
