-- How many blocks layers have, when a block gets a place.
use Rattle.std.proofs.Common.{◌≡◌, ℕ, suc, zero, ◌+◌, ◌<◌, ◌≤◌, ◌==◌, max, Bool, cond, List, [], ◌∷◌, ◌++◌, map, set, length, get_or, replicate, Option, Some, None, refl, sym, ap, ◌∙◌, arith, ⊎_elim}
use Rattle.std.proofs.lemmas.Bool.{cases_lt, cases_eq, eq-eqb, ne_eqb, lt-ltb, le-ltb, cond-true, cond-false}
use Rattle.std.proofs.lemmas.List.{get_or_past, get_or-set_other, length-set}
use Rattle.std.proofs.lemmas.List.Sums.{sum_by-cons, sum_by-set}
use Rattle.std.proofs.lemmas.Grind.{get_or-set_at}
use Rattle.run_laws.specs.Layers.{places_from}
use Rattle.flow_drawing.specs.declared.places.Place.{Place}
use Rattle.flow_drawing.specs.Layout.{greatest, place_at, below, layer_of, stands_in, width_of, depth_of, widths_of, next_in, counted}
use Rattle.flow_drawing.proofs.Lists.{places_more, tabulated, at_place, length_places, at_least, greatest_max}

abbrev one_if : Bool → ℕ
one_if t = cond t 1 0

---- Layers that there are

-- no block stands below all layers
none_wide : (places : List (Option Place)) (layer m : ℕ) → greatest m (map below places) ≤ layer → width_of places layer ≡ 0
none_wide [] layer m h = refl
none_wide (None ∷ ps) layer m h =
    let first = sum_by-cons (λ x. cond (stands_in layer x) 1 0) None ps in
    let more = none_wide ps layer (max 0 m) h in
    omega (arith, first, more)
none_wide (Some p ∷ ps) layer m h =
    let high = at_least (map below ps) (max (suc p.layer) m) in
    let other : (p.layer ≡ layer → ⊥) = λ e. omega (arith, h, high, e) in
    let no : one_if (p.layer == layer) ≡ 0 = ap one_if (ne_eqb p.layer layer other) in
    let first = sum_by-cons (λ x. cond (stands_in layer x) 1 0) (Some p) ps in
    let more = none_wide ps layer (max (suc p.layer) m) h in
    omega (arith, first, no, more)

pub width_read : (places : List (Option Place)) (layer : ℕ) → get_or (widths_of places) layer 0 ≡ width_of places layer
width_read places layer =
    let each = length_places (width_of places) 0 (depth_of places) in
    let e : 0 + layer ≡ layer = omega arith in
    ⊎_elim
    (λ (l : layer < depth_of places). at_place (width_of places) 0 (depth_of places) layer 0 l ∙ ap (width_of places) e)
    (λ (l : depth_of places ≤ layer). get_or_past (widths_of places) layer 0 (omega (arith, l, each)) ∙ sym (none_wide places layer 0 l))
    (cases_lt layer (depth_of places))

pub below_low : (places : List (Option Place)) (m b : ℕ) → below (get_or places b None) ≤ greatest m (map below places)
below_low [] m b = let e = ap below (get_or_past [] b None (omega arith)) in omega (arith, e)
below_low (p ∷ ps) m zero = let more = at_least (map below ps) (max (below p) m) in omega (arith, more)
below_low (p ∷ ps) m (suc b) = below_low ps (max (below p) m) b

all_low : (places : List (Option Place)) (blocks : List ℕ) (m : ℕ) → m ≤ depth_of places → greatest m (map (λ b. below (place_at places b)) blocks) ≤ depth_of places
all_low places [] m h = h
all_low places (b ∷ bs) m h = let low = below_low places 0 b in all_low places bs (max (below (place_at places b)) m) (omega (arith, h, low))

-- the layer below blocks is one that there is, or the next
pub layer_low : (places lent : List (Option Place)) (blocks : List ℕ) (layer : ℕ) → lent ≡ places → layer ≡ layer_of lent blocks → layer ≤ depth_of places
layer_low places lent blocks layer same is =
    let low = all_low places blocks 0 (omega arith) in
    let here = is ∙ ap (λ (ps : List (Option Place)). layer_of ps blocks) same in
    omega (arith, low, here)

none_deep : (n m : ℕ) → greatest m (map below (replicate n None)) ≡ m
none_deep zero m = refl
none_deep (suc n) m = let e : max 0 m ≡ m = omega arith in none_deep n (max 0 m) ∙ e

-- as long as no block has a place, there is no layer
pub none_counted : (n : ℕ) (widths : List ℕ) (places : List (Option Place)) → widths ≡ [] → places ≡ replicate n None → widths ≡ widths_of places
none_counted n widths places empty is =
    empty ∙ sym (ap (λ (ps : List (Option Place)). widths_of ps) is ∙ ap (λ d. map (width_of (replicate n None)) (places_from 0 d)) (none_deep n 0))

---- One place more

depth_set : (places : List (Option Place)) (b m : ℕ) (p : Place) → b < length places → get_or places b None ≡ None → greatest m (map below (set places b (Some p))) ≡ max (suc p.layer) (greatest m (map below places))
depth_set [] b m p l free = absurd (omega (arith, l))
depth_set (q ∷ qs) zero m p l free =
    let none = ap below free in
    let e : m ≡ max (below q) m = omega (arith, none) in
    greatest_max (map below qs) (suc p.layer) m ∙ ap (λ k. max (suc p.layer) (greatest k (map below qs))) e
depth_set (q ∷ qs) (suc b) m p l free = depth_set qs b (max (below q) m) p (omega (arith, l)) free

pub width_set : (places : List (Option Place)) (b : ℕ) (p : Place) (layer : ℕ) → b < length places → get_or places b None ≡ None → width_of (set places b (Some p)) layer ≡ width_of places layer + one_if (p.layer == layer)
width_set places b p layer l free =
    let one = sum_by-set (λ x. cond (stands_in layer x) 1 0) places b (Some p) None l in
    let no : one_if (stands_in layer (get_or places b None)) ≡ 0 = ap (λ (o : Option Place). one_if (stands_in layer o)) free in
    omega (arith, one, no)

pub width_more : (places : List (Option Place)) (b : ℕ) (p : Place) (layer : ℕ) → b < length places → get_or places b None ≡ None → p.layer ≡ layer → width_of (set places b (Some p)) layer ≡ width_of places layer + 1
width_more places b p layer l free e = width_set places b p layer l free ∙ ap (λ t. width_of places layer + one_if t) (eq-eqb p.layer layer e)

pub width_same : (places : List (Option Place)) (b : ℕ) (p : Place) (layer : ℕ) → b < length places → get_or places b None ≡ None → (p.layer ≡ layer → ⊥) → width_of (set places b (Some p)) layer ≡ width_of places layer
width_same places b p layer l free ne =
    let one = width_set places b p layer l free in
    let no : one_if (p.layer == layer) ≡ 0 = ap one_if (ne_eqb p.layer layer ne) in
    omega (arith, one, no)

module _ (places : List (Option Place)) (b : ℕ) (p : Place) (l : b < length places) (free : get_or places b None ≡ None) where
  abbrev after : List (Option Place)
  after = set places b (Some p)

  abbrev more : ℕ
  more = get_or (widths_of places) p.layer 0 + 1

  each : length (widths_of places) ≡ depth_of places
  each = length_places (width_of places) 0 (depth_of places)

  deep : depth_of after ≡ max (suc p.layer) (depth_of places)
  deep = depth_set places b 0 p l free

  width_at : (k : ℕ) → p.layer < depth_of places → get_or (set (widths_of places) p.layer more) k 0 ≡ width_of after k
  width_at k low = ⊎_elim
      (λ (e : k ≡ p.layer).
      get_or-set_at (widths_of places) p.layer k more 0 e (let n = each in omega (arith, low, n)) ∙ ap (λ n. n + 1) (width_read places p.layer ∙ ap (width_of places) (sym e)) ∙ sym (width_more places b p k l free (sym e)))
      (λ (ne : k ≡ p.layer → ⊥). get_or-set_other (widths_of places) p.layer k more 0 ne ∙ width_read places k ∙ sym (width_same places b p k l free (λ e. ne (sym e))))
      (cases_eq k p.layer)

  in_layer : p.layer < depth_of places → set (widths_of places) p.layer more ≡ widths_of after
  in_layer low =
      let same : length (set (widths_of places) p.layer more) ≡ depth_of after = let d = deep in let n = each in let s = length-set (widths_of places) p.layer more in omega (arith, d, n, s, low) in
      tabulated (width_of after) 0 (set (widths_of places) p.layer more) 0 (λ k _. let e : k ≡ 0 + k = omega arith in width_at k low ∙ ap (width_of after) e)
      ∙ ap (λ n. map (width_of after) (places_from 0 n)) same

  in_next : p.layer ≡ depth_of places → widths_of places ++ 1 ∷ [] ≡ widths_of after
  in_next next =
      let n : depth_of places + 1 ≡ depth_of after = let d = deep in omega (arith, d, next) in
      let others : widths_of places ≡ map (width_of after) (places_from 0 (depth_of places)) =
      tabulated (width_of after) 0 (widths_of places) 0 (λ k low.
      let e : k ≡ 0 + k = omega arith in
      let m = each in
      width_read places k ∙ sym (width_same places b p k l free (λ same. omega (arith, low, m, next, same))) ∙ ap (width_of after) e)
      ∙ ap (λ n. map (width_of after) (places_from 0 n)) each in
      let none = none_wide places (depth_of places) 0 (omega arith) in
      let wide = width_more places b p (depth_of places) l free next in
      let one : 1 ≡ width_of after (depth_of places) = omega (arith, none, wide) in
      ap (λ (ws : List ℕ). ws ++ 1 ∷ []) others ∙ ap (λ w. map (width_of after) (places_from 0 (depth_of places)) ++ w ∷ []) one
      ∙ sym (places_more (width_of after) (depth_of places)) ∙ ap (λ d. map (width_of after) (places_from 0 d)) n

  pub counted_set : p.layer ≤ depth_of places → counted (widths_of places) p.layer ≡ widths_of after
  counted_set within =
      let n = each in
      ⊎_elim
      (λ (low : p.layer < depth_of places). cond-true _ (set (widths_of places) p.layer more) (widths_of places ++ 1 ∷ []) (lt-ltb p.layer (length (widths_of places)) (omega (arith, low, n))) ∙ in_layer low)
      (λ (high : depth_of places ≤ p.layer).
      cond-false _ (set (widths_of places) p.layer more) (widths_of places ++ 1 ∷ []) (le-ltb p.layer (length (widths_of places)) (omega (arith, high, n))) ∙ in_next (omega (arith, within, high)))
      (cases_lt p.layer (depth_of places))

---- In the code

abbrev placed : (layer column : ℕ) → Place
placed layer column = record { layer = layer; column = column }

-- the column that was read is the next one
pub next_column : (places : List (Option Place)) (b layer column : ℕ) (widths lent : List ℕ) → lent ≡ widths → widths ≡ widths_of places → column ≡ get_or lent layer 0
    → set places b (Some (record { layer = layer; column = column })) ≡ set places b (Some (next_in places layer))
next_column places b layer column widths lent same is read =
    let here : column ≡ width_of places layer = read ∙ ap (λ (ws : List ℕ). get_or ws layer 0) (same ∙ is) ∙ width_read places layer in
    ap (λ n. set places b (Some (placed layer n))) here
