-- The places of procedures.
use Rattle.std.specs.Prelude.{ℕ, suc, ◌-◌, ◌<◌, ◌≤◌, nat_le, List, [], ◌∷◌, length, filter, Option, slice_get}
use Rattle.image_form.specs.declared.image.ProcPlace.{ProcPlace}

-- each word is at least `least`, above the word before it, and the number of one of so many code words
abbrev pub RiseBelow : ℕ → ℕ → List ProcPlace → Type 0
RiseBelow words least [] = Unit {0}
RiseBelow words least (place ∷ places) = (least ≤ place.word) × (place.word < words) × RiseBelow words (suc place.word) places

-- the last place whose word is at most w, where there is one
abbrev pub place_before : List ProcPlace → ℕ → Option ProcPlace
place_before places w = let begun = filter (λ (place : ProcPlace). nat_le place.word w) places in slice_get begun (length begun - 1)
