-- What holds of that which a judgement gives, if it keeps its rules.
use Rattle.ob_judge.specs.Judged.{Judged, Keeps, Breaks}

abbrev pub GivesAt : {A : Type 0} → (A → Type 0) → Judged A → Type 0
GivesAt P (Keeps a) = P a
GivesAt P (Breaks number at) = Unit {0}

-- if it keeps its rules, then this holds of what it gives
pub record Gives {A : Type 0} (P : A → Type 0) (m : Judged A) : Type 0 where
  pub holds : GivesAt P m
