-- Results of all procedures that the walk by names accepts.
use Rattle.std.specs.Prelude.{◌≡◌, ℕ, suc, ◌+◌, Bool, true, List, [], ◌∷◌, ◌++◌, length}
use Rattle.block_runs.specs.Live.{Live}
use Rattle.lir_core.specs.declared.flow.Flow.{Flow}
use Rattle.lir_core.specs.declared.flow.Trace.{Trace}
use Rattle.lir_core.specs.declared.places.TraceOut.{TraceOut}
use Rattle.lir_core.specs.Flows.{code_nodes, IsValidFlow}
use Rattle.walked_results.specs.Walked.{IsWalked}

-- a flow is valid, and `live` says which values are live into each node of it
pub record IsLive (f : Flow) (live : ℕ → ℕ → Bool) : Type 0 where
  pub valid : IsValidFlow f
  pub exact : (n v : ℕ) → live n v ≡ true → Live (code_nodes f.nodes) v n
  pub whole : (n v : ℕ) → Live (code_nodes f.nodes) v n → live n v ≡ true

abbrev pub AreLive : List Flow → List (ℕ → ℕ → Bool) → Type 0
AreLive [] [] = Unit {0}
AreLive [] (l ∷ ls) = ⊥
AreLive (f ∷ fs) [] = ⊥
AreLive (f ∷ fs) (l ∷ ls) = IsLive f l × AreLive fs ls

-- each trace of a flow, the first of which has number n, has a result with its number that the walk accepts
abbrev pub OwnWalked : ℕ → Flow → ℕ → List Trace → List TraceOut → Type 0
OwnWalked k f n [] [] = Unit {0}
OwnWalked k f n [] (o ∷ os) = ⊥
OwnWalked k f n (t ∷ ts) [] = ⊥
OwnWalked k f n (t ∷ ts) (o ∷ os) = (o.trace ≡ n) × IsWalked k f t o × OwnWalked k f (suc n) ts os

-- the results are the flows' own, one list behind the other
abbrev pub AreWalked : ℕ → ℕ → List Flow → List (List Trace) → List TraceOut → Type 0
AreWalked k n [] cuts outs = outs ≡ []
AreWalked k n (f ∷ fs) [] outs = outs ≡ []
AreWalked k n (f ∷ fs) (ts ∷ cuts) outs = (own : List TraceOut) × (rest : List TraceOut) × (outs ≡ own ++ rest) × OwnWalked k f n ts own × AreWalked k (n + length ts) fs cuts rest
