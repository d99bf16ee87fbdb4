-- Lengths of arrays, one after the other.
use Rattle.std.specs.Prelude.{◌≡◌, ◌∷◌, ◌++◌, ℕ, List, Vec}
use Rattle.std.specs.Global.{Global}
use Rattle.ob_syntax.specs.Syntax as S
use Rattle.ob_judge.specs.Judged.{Judged, Keeps, ◌>>=◌}
use Rattle.ob_judge.specs.Scopes.{World, Source}
use Rattle.ob_judge.specs.Types.{array_length, array_lengths}

-- all lengths of an array
abbrev pub lengths_part : Source → S.Expression → S.NextExpressions → World → Judged (List ℕ)
lengths_part p first more w = do
  n ← array_length p first w
  ns ← array_lengths p more w
  Keeps (n ∷ ns)

-- further lengths behind these
abbrev pub lengths_behind : Source → List ℕ → S.NextExpressions → World → Judged (List ℕ)
lengths_behind p before more w = do
  ns ← array_lengths p more w
  Keeps (before ++ ns)

-- this is the length
abbrev pub IsTheLength : ℕ → ℕ → Type 0
IsTheLength n k = n ≡ k

-- these are the lengths
abbrev pub AreTheLengths : Vec ℕ Global → List ℕ → Type 0
AreTheLengths v ns = v.items ≡ ns
