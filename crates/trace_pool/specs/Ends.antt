-- What a closed pool has.
use Rattle.std.specs.Prelude.{◌≡◌, ℕ, ◌<◌, List, length, Option, Some, None}
use mathlib.Core.Option.{some}
use lib.ListN.{get_elem?}
use Rattle.pool_core.specs.Sums.{times}
use Rattle.trace_pool.specs.declared.parts.Content.{Content}
use Rattle.trace_pool.specs.declared.parts.Content.TheVariants.{Hint, Done}

module _ {H D : Type 0} where
  abbrev pub IsNoResult : Option (Content H D) → Type 0
  IsNoResult None = Unit {0}
  IsNoResult (Some (Hint h)) = Unit {0}
  IsNoResult (Some (Done d)) = ⊥

  abbrev pub done_of : Option (Content H D) → Option D
  done_of None = None
  done_of (Some (Hint h)) = None
  done_of (Some (Done d)) = Some d

  -- the slot of a finished trace has its final result, and the slot of another has no result
  pub record Ended (is_final : ℕ → D → Type 0) (finished : List ℕ) (slots : List (Option (Content H D))) (t : ℕ) : Type 0 where
    pub done : 0 < times t finished → (d : D) × (get_elem? slots t ≡ some (Some (Done d))) × is_final t d
    pub open_yet : times t finished ≡ 0 → (x : Option (Content H D)) × (get_elem? slots t ≡ some x) × IsNoResult x

-- a result for each trace that the seat has finished, which is final, and none for each other
abbrev pub ClosedAs : {D : Type 0} → (ℕ → D → Type 0) → List (Option ℕ) → List ℕ → List (Option D) → Type 0
ClosedAs is_final P finished results = (length results ≡ length P)
    × ((t : ℕ) → t < length P → 0 < times t finished → (d : _) × (get_elem? results t ≡ some (Some d)) × is_final t d)
    × ((t : ℕ) → t < length P → times t finished ≡ 0 → get_elem? results t ≡ some None)

-- each of the first n has its final result, at its number
abbrev pub AreFinalBelow : {D : Type 0} → (ℕ → D → Type 0) → ℕ → List D → Type 0
AreFinalBelow is_final n results = (length results ≡ n) × ((t : ℕ) → t < n → (d : _) × (get_elem? results t ≡ some d) × is_final t d)

-- every trace has its final result, at its number
abbrev pub AreFinal : {D : Type 0} → (ℕ → D → Type 0) → List (Option ℕ) → List D → Type 0
AreFinal is_final P results = AreFinalBelow is_final (length P) results
