-- Rules that are kept before others, and arguments that are numbers.
use Rattle.std.proofs.Common.{◌≡◌, ℕ, Option, Some, None, option_map, true, Result, Ok, List, refl, ap}
use Rattle.std.specs.Prelude.{is_some}
use Rattle.ob_judge.specs.Judged.{Judged, Keeps, Breaks, ◌>>◌, rule}
use Rattle.ob_judge.specs.Shapes.{is_number}
use Rattle.ob_judge.specs.Image as I
use Rattle.judged_tree.specs.Outline.{outlined_designator, outlined_checked, outlined_statement}
use Rattle.ob_judge.specs.Scopes.{World}
use Rattle.ob_judge.specs.Operands.{checked}
use Rattle.ob_judge.specs.Calls.{Given, number}
use Rattle.check_types.specs.steps.Answers.{Answers}
use Rattle.check_types.specs.declared.steps.fault.CheckFault.{CheckFault}
use Rattle.check_selectors.specs.standard.Made.{IsKept, changed_by}
use Rattle.check_selectors.specs.declared.standard.made.Change.{Change}
use Rattle.check_selectors.specs.declared.standard.made.Change.TheVariants as TheChange

pub kept_so : {A B : Type 0} {S : B → A → Type 0} {r : Result B CheckFault} {u : Unit {0}} (m : Judged (Unit {0})) (n : Judged A) → Answers IsKept m (Ok u) → Answers S n r → Answers S (m >> n) r
kept_so (Keeps a) n h k = k
kept_so (Breaks rule at) n h k = absurd h.by

pub number_is : (w : World) (x : Given) → is_number x.operand.shape ≡ true → number x ≡ Keeps (checked x.operand)
number_is w x h = ap (λ b. rule 31 x.at b >> Keeps (checked x.operand)) h

pub some_mapped : {A B : Type 0} (f : A → B) (o : Option A) → is_some (option_map f o) ≡ is_some o
some_mapped f None = refl
some_mapped f (Some a) = refl

pub changed_outlined : (bases : List (Option ℕ)) (change : Change) (d : I.Designator) (x : I.Checked) →
    changed_by change (outlined_designator bases d) (outlined_checked bases x) ≡ outlined_statement bases (changed_by change d x)
changed_outlined bases TheChange.Increase d x = refl
changed_outlined bases TheChange.Decrease d x = refl
changed_outlined bases TheChange.Include d x = refl
changed_outlined bases TheChange.Exclude d x = refl
