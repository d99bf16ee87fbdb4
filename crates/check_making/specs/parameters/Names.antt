-- Names that stand, as code holds them.
use Rattle.std.specs.Prelude.{◌≡◌, ℕ, List, Vec, is_some}
use Rattle.std.specs.BTreeMap.{BTreeMap}
use Rattle.std.specs.Global.{Global}
use Rattle.ob_judge.specs.Making.{is_among}
use Rattle.check_types.specs.steps.Maps.{at_bytes}

-- these are the names that stand
abbrev pub AreTheNames : BTreeMap (Vec ℕ Global) ℕ → List (List ℕ) → Type 0
AreTheNames names standing = (q : List ℕ) → is_among q standing ≡ is_some (at_bytes names q)
