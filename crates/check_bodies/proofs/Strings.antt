-- Names of which none is a constant that is a string.
use Rattle.std.proofs.Common.{◌≡◌, ℕ, List, [], ◌∷◌, map, Bool, true, false, cond, Some, option_map, refl, ap}
use Rattle.std.specs.Prelude.{Vec}
use Rattle.std.specs.BTreeMap.{values}
use Rattle.std.specs.Cmp.Lexicographic.{slice_cmp}
use Rattle.std.specs.Global.{Global}
use Rattle.std.specs.Map.{lookup}
use Rattle.std.specs.Ordering.{nat_cmp, is_eq}
use mathlib.Core.Path.{fun_ext}
use Rattle.ob_types.specs.Table.{Table}
use Rattle.check_types.specs.declared.names.levels.Level.{Level}
use Rattle.check_types.specs.declared.names.scope.Declared.{Declared}
use Rattle.check_types.specs.names.Meaning.{entry_of}
use Rattle.check_bodies.specs.Strings.{AreAlike, EachAlike}

module _ (t : Table) (strings others : List (List ℕ)) (test : Vec ℕ Global → Bool) where
  one_alike : (b : Bool) (e : Vec ℕ Global × Declared) (es : List (Vec ℕ Global × Declared)) → entry_of t strings (e.1) ≡ entry_of t others (e.1)
      → option_map (entry_of t strings) (lookup test es) ≡ option_map (entry_of t others) (lookup test es)
      → option_map (entry_of t strings) (cond b (Some e.1) (lookup test es)) ≡ option_map (entry_of t others) (cond b (Some e.1) (lookup test es))
  one_alike true e es h rest = ap Some h
  one_alike false e es h rest = rest

  found_alike : (es : List (Vec ℕ Global × Declared)) → EachAlike (map (λ e. e.1) es) → option_map (entry_of t strings) (lookup test es) ≡ option_map (entry_of t others) (lookup test es)
  found_alike [] h = refl
  found_alike (e ∷ es) h = one_alike (test e.0) e es (h.0.entry t strings others) (found_alike es h.1)

pub all_alike : (l : Level) → EachAlike (values l.names) → AreAlike l
all_alike l h = record { names = λ t strings others. fun_ext (λ q. found_alike t strings others (λ k. is_eq (slice_cmp nat_cmp q k.items)) l.names.entries h) }
