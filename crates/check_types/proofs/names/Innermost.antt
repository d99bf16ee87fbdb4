-- The innermost narrowed variable, by a walk from the outermost.
use Rattle.std.proofs.Common.{◌≡◌, ℕ, ◌+◌, ◌<◌, List, [], ◌∷◌, length, drop, get_or, Bool, true, false, Option, Some, None, option_map, if◌then◌else◌, refl, sym, ap, ◌∙◌}
use Rattle.std.proofs.lemmas.List.{drop_more}
use Rattle.ob_types.specs.Table.{Table}
use Rattle.ob_judge.specs.Scopes.{World, Source, or_else}
use Rattle.ob_judge.specs.Scopes as J
use Rattle.ob_judge.specs.Image.{Place}
use Rattle.ob_judge.specs.Names.{is_place}
use Rattle.ob_judge.specs.Names as Names
use Rattle.check_types.specs.names.Meaning.{narrowing_of, narrowings_before, place_of}
use Rattle.check_types.specs.declared.names.scope.Narrowing.{Narrowing}

else_else : {A : Type 0} (a : Option A) (b : Bool) (n : A) (x : Option A) → or_else (or_else a (if b then Some n else None)) x ≡ or_else a (if b then Some n else x)
else_else (Some a) b n x = refl
else_else None true n x = refl
else_else None false n x = refl

or_none : {A : Type 0} (a : Option A) → a ≡ or_else a None
or_none (Some a) = refl
or_none None = refl

module _ (p : Source) (w : World) (t : Table) (strings : List (List ℕ)) (d : Place) where
  pub found_before : (before : List J.Narrowing) (ns : List Narrowing) →
      Names.narrowing_of d (narrowings_before t strings before ns) ≡ or_else (Names.narrowing_of d (narrowings_before t strings [] ns)) (Names.narrowing_of d before)
  found_before before [] = refl
  found_before before (n ∷ ns) =
      found_before (narrowing_of t strings n ∷ before) ns
      ∙ sym (else_else (Names.narrowing_of d (narrowings_before t strings [] ns)) (is_place d (place_of n.variable)) (narrowing_of t strings n) (Names.narrowing_of d before))
      ∙ ap (λ o. or_else o (Names.narrowing_of d before)) (sym (found_before (narrowing_of t strings n ∷ []) ns))

  -- a round of the walk
  pub found_more : (ns : List Narrowing) (i : ℕ) (n : Narrowing) (found : Option Narrowing) (b : Bool) → i < length ns → is_place d (place_of (get_or ns i n).variable) ≡ b →
      or_else (Names.narrowing_of d (narrowings_before t strings [] (drop i ns))) (option_map (narrowing_of t strings) found)
      ≡ or_else (Names.narrowing_of d (narrowings_before t strings [] (drop (i + 1) ns))) (if b then Some (narrowing_of t strings (get_or ns i n)) else option_map (narrowing_of t strings) found)
  found_more ns i n found b lt e =
      ap (λ l. or_else (Names.narrowing_of d (narrowings_before t strings [] l)) (option_map (narrowing_of t strings) found)) (drop_more ns i n lt)
      ∙ ap (λ o. or_else o (option_map (narrowing_of t strings) found)) (found_before (narrowing_of t strings (get_or ns i n) ∷ []) (drop (i + 1) ns))
      ∙ else_else (Names.narrowing_of d (narrowings_before t strings [] (drop (i + 1) ns))) (is_place d (place_of (get_or ns i n).variable)) (narrowing_of t strings (get_or ns i n)) (option_map (narrowing_of t strings) found)
      ∙ ap (λ c. or_else (Names.narrowing_of d (narrowings_before t strings [] (drop (i + 1) ns))) (if c then Some (narrowing_of t strings (get_or ns i n)) else option_map (narrowing_of t strings) found)) e

  pub at_start : (o : Option J.Narrowing) → o ≡ or_else o None
  at_start o = or_none o
