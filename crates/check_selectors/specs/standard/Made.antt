-- What standard procedures make, and which of the judgement's it is.
use Rattle.std.specs.Prelude.{◌≡◌}
use Rattle.ob_types.specs.declared.statements.Checked.{Checked}
use Rattle.ob_judge.specs.Image as I
use Rattle.judged_tree.specs.Plain.{plain_checked}
use Rattle.judged_tree.specs.Outline.{outlined_checked}
use Rattle.check_types.specs.declared.names.scope.Scope.{Scope}
use Rattle.check_types.specs.names.Worlds.{table_of}
use Rattle.check_operands.specs.Operands.{texts_of, bases_of}
use Rattle.check_selectors.specs.declared.standard.made.Change.{Change}
use Rattle.check_selectors.specs.declared.standard.made.Change.TheVariants as TheChange

-- this is the whole expression
abbrev pub IsChecked : Scope → Checked → I.Checked → Type 0
IsChecked s x c = plain_checked (table_of s) (texts_of s) x ≡ outlined_checked (bases_of s) c

-- a rule that is kept gives nothing
abbrev pub IsKept : Unit {0} → Unit {0} → Type 0
IsKept x a = Unit {0}

abbrev pub changed_by : Change → I.Designator → I.Checked → I.Statement
changed_by TheChange.Increase = I.Increase
changed_by TheChange.Decrease = I.Decrease
changed_by TheChange.Include = I.Include
changed_by TheChange.Exclude = I.Exclude
