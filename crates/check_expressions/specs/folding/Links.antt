-- What the links behind a value do to it, one after the other.
use Rattle.std.specs.Prelude.{ℕ, List, [], ◌∷◌, Option}
use Rattle.ob_types.specs.Table.{Table}
use Rattle.ob_types.specs.declared.tree.Link.{Link}
use Rattle.ob_judge.specs.Operands.{fold_link}
use Rattle.judged_tree.specs.Plain.{plain_link}

abbrev pub value_behind_each : Table → List (List ℕ) → List Link → Option ℕ → Option ℕ
value_behind_each t texts [] o = o
value_behind_each t texts (l ∷ ls) o = value_behind_each t texts ls (fold_link (plain_link t texts l) o)
