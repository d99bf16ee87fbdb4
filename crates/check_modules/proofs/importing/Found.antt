-- The first module of a name.
use Rattle.std.proofs.Common.{◌≡◌, ℕ, suc, ◌+◌, ◌<◌, ◌≤◌, List, length, map, drop, get_or, true, false, Option, Some, None, ap, ◌∙◌, arith}
use Rattle.std.specs.Prelude.{if◌then◌else◌}
use Rattle.std.specs.Str.{bytes_eq}
use Rattle.std.proofs.lemmas.List.{drop_more, drop_all}
use Rattle.ob_types.specs.Table.{Table}
use Rattle.ob_judge.specs.Scopes.{Imported, Earlier}
use Rattle.ob_judge.specs.Modules.{module_from}
use Rattle.check_types.specs.declared.names.scope.KnownModule.{KnownModule}
use Rattle.check_types.specs.names.Meaning.{module_of}

module _ (t : Table) (strings : List (List ℕ)) (name : List ℕ) where
  abbrev pub from : ℕ → List KnownModule → Option Imported
  from n ks = module_from n (map (module_of t strings) ks) name

  next : (ks : List KnownModule) (i : ℕ) (d : KnownModule) → i < length ks → from i (drop i ks) ≡ (if bytes_eq (get_or ks i d).name name then Some (Earlier i) else from (i + 1) (drop (i + 1) ks))
  next ks i d l = ap (from i) (drop_more ks i d l) ∙ ap (λ n. if bytes_eq (get_or ks i d).name name then Some (Earlier i) else from n (drop (i + 1) ks)) (up i)
    where
      up : (i : ℕ) → suc i ≡ i + 1
      up i = omega arith

  pub from_next : (ks : List KnownModule) (i : ℕ) (d : KnownModule) → i < length ks → bytes_eq (get_or ks i d).name name ≡ false → from i (drop i ks) ≡ from (i + 1) (drop (i + 1) ks)
  from_next ks i d l e = next ks i d l ∙ ap (λ b. if b then Some (Earlier i) else from (i + 1) (drop (i + 1) ks)) e

  pub from_here : (ks : List KnownModule) (i : ℕ) (d : KnownModule) → i < length ks → bytes_eq (get_or ks i d).name name ≡ true → from i (drop i ks) ≡ Some (Earlier i)
  from_here ks i d l e = next ks i d l ∙ ap (λ b. if b then Some (Earlier i) else from (i + 1) (drop (i + 1) ks)) e

  pub from_past : (ks : List KnownModule) (i : ℕ) → length ks ≤ i → from i (drop i ks) ≡ None
  from_past ks i l = ap (from i) (drop_all i ks l)
