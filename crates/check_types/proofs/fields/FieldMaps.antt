-- Fields by their names, in several maps.
use Rattle.std.proofs.Common.{◌≡◌, ℕ, ◌+◌, ◌<◌, List, [], ◌∷◌, ◌++◌, length, map, take, get_or, Vec, Global, Bool, true, false, cond, Option, Some, None, refl, sym, ap, ◌∙◌}
use Rattle.std.specs.Arc.{arc_value}
use Rattle.std.specs.declared.sync.Arc.{Arc}
use Rattle.std.specs.BTreeMap.{BTreeMap, IsEmpty, is_at}
use Rattle.std.specs.Map.{lookup}
use Rattle.std.specs.Cmp.Lexicographic.{slice_cmp}
use Rattle.std.specs.Ordering.{nat_cmp}
use Rattle.std.proofs.lemmas.List.{map-append, take_more}
use Rattle.ob_judge.specs.Scopes.{or_else}
use Rattle.check_types.specs.steps.Maps.{at_bytes}
use Rattle.check_types.specs.Fields.{in_maps}

or_none : {A : Type 0} (a : Option A) → a ≡ or_else a None
or_none (Some a) = refl
or_none None = refl

or_or : {A : Type 0} (a b c : Option A) → or_else (or_else a b) c ≡ or_else a (or_else b c)
or_or (Some a) b c = refl
or_or None b c = refl

-- what the first has is what both have, where it has something
pub or_some : {A : Type 0} (a : Option A) (x : A) (b : Option A) → a ≡ Some x → Some x ≡ or_else a b
or_some a x b h = sym (ap (λ o. or_else o b) h)

pub or_other : {A : Type 0} (a b : Option A) → a ≡ None → b ≡ or_else a b
or_other a b h = sym (ap (λ o. or_else o b) h)

pub chosen : {A : Type 0} (b : Bool) (x : A) (o p : Option A) → or_else (cond b (Some x) o) p ≡ cond b (Some x) (or_else o p)
chosen true x o p = refl
chosen false x o p = refl

-- one map more
pub in_maps_more : {X : Type 0} (ms : List (BTreeMap (Vec ℕ Global) X)) (m : BTreeMap (Vec ℕ Global) X) (q : List ℕ) → in_maps (ms ++ m ∷ []) q ≡ or_else (at_bytes m q) (in_maps ms q)
in_maps_more [] m q = or_none (at_bytes m q)
in_maps_more (k ∷ ms) m q = ap (λ o. or_else o (at_bytes k q)) (in_maps_more ms m q) ∙ or_or (at_bytes m q) (in_maps ms q) (at_bytes k q)

-- the next of these maps
pub maps_more : {X : Type 0} (ms : List (Arc (BTreeMap (Vec ℕ Global) X) Global)) (i : ℕ) (m : Arc (BTreeMap (Vec ℕ Global) X) Global) → i < length ms → m ≡ get_or ms i m → (q : List ℕ)
    → in_maps (map arc_value (take (i + 1) ms)) q ≡ or_else (at_bytes (arc_value m) q) (in_maps (map arc_value (take i ms)) q)
maps_more ms i m lt is q =
    ap (λ l. in_maps (map arc_value l) q) (take_more ms i m lt ∙ ap (λ k. take i ms ++ k ∷ []) (sym is))
    ∙ ap (λ l. in_maps l q) (map-append arc_value (take i ms) (m ∷ []))
    ∙ in_maps_more (map arc_value (take i ms)) (arc_value m) q

-- a map behind these
pub map_behind : {X : Type 0} (ms : List (Arc (BTreeMap (Vec ℕ Global) X) Global)) (m : Arc (BTreeMap (Vec ℕ Global) X) Global) (q : List ℕ)
    → in_maps (map arc_value (ms ++ m ∷ [])) q ≡ or_else (at_bytes (arc_value m) q) (in_maps (map arc_value ms) q)
map_behind ms m q = ap (λ l. in_maps l q) (map-append arc_value ms (m ∷ [])) ∙ in_maps_more (map arc_value ms) (arc_value m) q

pub nothing_in : {X : Type 0} (m : BTreeMap (Vec ℕ Global) X) → IsEmpty m → (q : List ℕ) → at_bytes m q ≡ None
nothing_in {X} m h q = ap (λ (es : List (Vec ℕ Global × X)). lookup (is_at (λ (k : Vec ℕ Global). slice_cmp nat_cmp q k.items)) es) h
