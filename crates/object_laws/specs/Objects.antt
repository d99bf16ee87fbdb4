-- The objects of all modules of a program.
use Rattle.std.specs.Prelude.{◌≡◌, ℕ, suc, List, length, take, Some, slice_get}
use Rattle.module_object.specs.words.alloc_choice.declared.choice.Choice.{Choice}
use Rattle.object_form.specs.declared.object.Object.{Object}
use Rattle.module_object.specs.Objects.{IsObjectOfTexts}

-- one object for each text, that of the first texts up to it, all by one choice
pub record AreObjectsOfTexts (choice : Choice) (texts : List (List ℕ)) (objects : List Object) : Type 0 where
  pub count : length objects ≡ length texts
  pub each : (n : ℕ) (object : Object) → slice_get objects n ≡ Some object → IsObjectOfTexts choice (take (suc n) texts) object
