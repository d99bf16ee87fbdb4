-- Scopes, of which one is taken off, added, or has one more name.
use Rattle.std.proofs.Common.{◌≡◌, ℕ, zero, suc, ◌<◌, ◌-◌, List, [], ◌∷◌, ◌++◌, length, map, take, Option, Some, refl, sym, ap, arith}
use Rattle.std.specs.Prelude.{slice_get, slice_set}
use Rattle.ob_types.specs.Table.{Table}
use Rattle.ob_judge.specs.Scopes.{Entry, declare, no_names}
use Rattle.ob_judge.specs.Making.{declare_outer, without_last}
use Rattle.check_types.specs.declared.table.TypeTable.{TypeTable}
use Rattle.check_types.specs.declared.names.levels.Level.{Level}
use Rattle.check_types.specs.names.Meaning.{names_of}
use Rattle.check_making.specs.Staying.{LevelsStay, LevelStays, AllHaveTypes, NamesHaveTypes}

module _ (t : Table) (strings : List (List ℕ)) where
  -- the last was taken off
  pub names_without : (ls : List Level) (n : ℕ) → n ≡ length ls - 1 → 0 < length ls → (k : List ℕ → Option Entry) → without_last (k ∷ map (names_of t strings) ls) ≡ k ∷ map (names_of t strings) (take n ls)
  names_without [] n e l k = absurd (omega (arith, l))
  names_without (c ∷ []) zero e l k = refl
  names_without (c ∷ []) (suc n) e l k = absurd (omega (arith, e))
  names_without (c ∷ d ∷ ls) zero e l k = absurd (omega (arith, e))
  names_without (c ∷ d ∷ ls) (suc n) e l k = ap (λ fs. k ∷ fs) (names_without (d ∷ ls) n (omega (arith, e)) (omega arith) (names_of t strings c))

  pub have_without : (n : ℕ) (ls : List Level) → AllHaveTypes t (map (names_of t strings) ls) → AllHaveTypes t (map (names_of t strings) (take n ls))
  have_without zero ls h = tt
  have_without (suc n) [] h = tt
  have_without (suc n) (c ∷ ls) h = (h.0, have_without n ls h.1)

  pub have_with : (l : Level) (ls : List Level) → NamesHaveTypes t (names_of t strings l) → AllHaveTypes t (map (names_of t strings) ls) → AllHaveTypes t (map (names_of t strings) (ls ++ l ∷ []))
  have_with l [] k h = (k, tt)
  have_with l (c ∷ ls) k h = (h.0, have_with l ls k h.1)

  -- one without names was added
  pub names_with : (l : Level) → names_of t strings l ≡ no_names → (ls : List Level) → map (names_of t strings) ls ++ no_names ∷ [] ≡ map (names_of t strings) (ls ++ l ∷ [])
  names_with l e [] = ap (λ f. f ∷ []) (sym e)
  names_with l e (c ∷ ls) = ap (λ fs. names_of t strings c ∷ fs) (names_with l e ls)

  -- the one round the innermost has one more name
  pub names_outer : (name : List ℕ) (e : Entry) (level : Level) (ls : List Level) (n : ℕ) → ((l : Level) → slice_get ls n ≡ Some l → names_of t strings level ≡ declare name e (names_of t strings l)) → (k : List ℕ → Option Entry) → n ≡ length ls - 2 → 1 < length ls
      → declare_outer name e (k ∷ map (names_of t strings) ls) ≡ k ∷ map (names_of t strings) (slice_set ls n level)
  names_outer name e level [] n h k at l = absurd (omega (arith, l))
  names_outer name e level (c ∷ []) n h k at l = absurd (omega (arith, l))
  names_outer name e level (c ∷ d ∷ []) zero h k at l = ap (λ f. k ∷ f ∷ names_of t strings d ∷ []) (sym (h c refl))
  names_outer name e level (c ∷ d ∷ []) (suc n) h k at l = absurd (omega (arith, at))
  names_outer name e level (c ∷ d ∷ b ∷ ls) zero h k at l = absurd (omega (arith, at))
  names_outer name e level (c ∷ d ∷ b ∷ ls) (suc n) h k at l =
      ap (λ fs. k ∷ fs) (names_outer name e level (d ∷ b ∷ ls) n (λ a is. h a is) (names_of t strings c) (omega (arith, at)) (omega arith))

module _ (t : TypeTable) (strings : List (List ℕ)) where
  pub stay_without : (n : ℕ) (ls : List Level) → LevelsStay t strings ls → LevelsStay t strings (take n ls)
  stay_without zero ls h = tt
  stay_without (suc n) [] h = tt
  stay_without (suc n) (c ∷ ls) h = (h.0, stay_without n ls h.1)

  pub stay_with : (l : Level) (ls : List Level) → LevelStays t strings l → LevelsStay t strings ls → LevelsStay t strings (ls ++ l ∷ [])
  stay_with l [] k h = (k, tt)
  stay_with l (c ∷ ls) k h = (h.0, stay_with l ls k h.1)
