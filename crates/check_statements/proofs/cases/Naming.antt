-- A CASE on a name, and narrowed variables.
use Rattle.std.proofs.Common.{◌≡◌, ℕ, List, [], ◌∷◌, ◌++◌, Option, Some, None, refl, ap}
use Rattle.ob_types.specs.Table.{Table}
use Rattle.ob_judge.specs.Scopes.{World, Source, look_up, spelled}
use Rattle.ob_judge.specs.Scopes as J
use Rattle.ob_judge.specs.Cases.{named_alone, entry_object}
use Rattle.check_types.specs.names.Meaning.{narrowing_of, narrowings_before}
use Rattle.check_types.specs.declared.names.scope.Narrowing.{Narrowing}
use Rattle.check_statements.specs.cases.Selecting.{name_in}

pub alone_is : (p : Source) (w : World) (q : Option (ℕ × Option ℕ)) (n : ℕ) → name_in q ≡ Some n → named_alone p w q ≡ entry_object (look_up (spelled p n) w.levels)
alone_is p w None n h = absurd (let z = h in cc)
alone_is p w (Some (m, None)) n h = let z : m ≡ n = cc in ap (λ k. entry_object (look_up (spelled p k) w.levels)) z
alone_is p w (Some (m, Some i)) n h = absurd (let z = h in cc)

module _ (t : Table) (strings : List (List ℕ)) where
  pub narrowed_last : (before : List J.Narrowing) (ns : List Narrowing) (n : Narrowing) → narrowings_before t strings before (ns ++ n ∷ []) ≡ narrowing_of t strings n ∷ narrowings_before t strings before ns
  narrowed_last before [] n = refl
  narrowed_last before (x ∷ xs) n = narrowed_last (narrowing_of t strings x ∷ before) xs n
