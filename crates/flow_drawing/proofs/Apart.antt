-- How boxes and edges lie.
use Rattle.std.proofs.Common.{◌≡◌, ℕ, ◌+◌, ◌*◌, ◌<◌, ◌≤◌, Bool, true, false, List, length, get_or, Option, Some, None, refl, sym, ap, ◌∙◌, subst, arith, ⊎_elim, ◌⊎◌}
use Rattle.std.specs.Prelude.{is_some, option_map}
use Rattle.std.proofs.lemmas.Bool.{cases_lt, cases_order, leb-false}
use Rattle.std.proofs.lemmas.List.{get_or_past, get_or-map, length-map}
use Rattle.lir_core.specs.declared.flow.Node.{Node}
use Rattle.flow_drawing.specs.declared.places.Place.{Place}
use Rattle.flow_drawing.specs.declared.layout.Corner.{Corner}
use Rattle.flow_drawing.specs.Layout.{below, width_of, depth_of, places_of, widths_of, widest, corner_at, corner_of, corners_of}
use Rattle.flow_drawing.specs.Paths.{leads_back, curve_of}
use Rattle.flow_drawing.specs.Boxes.{box_of, IsLeftOf, IsAbove, AreApart, IsWithin, IsOnUpperSide, IsOnLowerSide}
use Rattle.flow_drawing.specs.Boxes.AreApart.{left, right, above, lower}
use Rattle.flow_drawing.proofs.Lists.{length_places, each_at_most}
use Rattle.flow_drawing.proofs.Widths.{width_read, below_low}
use Rattle.flow_drawing.proofs.Tidy.{none_some, some_same, tidy, each}

---- Boxes of places

box_is : (nodes : List Node) (b : ℕ) → box_of nodes b ≡ option_map (corner_of (widths_of (places_of nodes))) (get_or (places_of nodes) b None)
box_is nodes b =
    let long = length-map (places_of nodes) (option_map (corner_of (widths_of (places_of nodes)))) in
    ⊎_elim
    (λ (l : b < length (places_of nodes)). get_or-map (option_map (corner_of (widths_of (places_of nodes)))) (places_of nodes) b None None l)
    (λ (l : length (places_of nodes) ≤ b).
    get_or_past (corners_of (places_of nodes)) b None (omega (arith, l, long)) ∙ sym (ap (option_map (corner_of (widths_of (places_of nodes)))) (get_or_past (places_of nodes) b None l)))
    (cases_lt b (length (places_of nodes)))

pub each_box : (nodes : List Node) (b : ℕ) → b < length nodes → is_some (box_of nodes b) ≡ true
each_box nodes b l = ap (λ (o : Option Corner). is_some o) (box_is nodes b) ∙ both (get_or (places_of nodes) b None) ∙ each nodes b l
  where
    both : (o : Option Place) → is_some (option_map (corner_of (widths_of (places_of nodes))) o) ≡ is_some o
    both None = refl
    both (Some p) = refl

-- a box is that of a place
pub record IsOf (nodes : List Node) (b : ℕ) (c : Corner) : Type 0 where
  pub place : Place
  pub is : get_or (places_of nodes) b None ≡ Some place
  pub corner : c ≡ corner_of (widths_of (places_of nodes)) place

pub of : (nodes : List Node) (b : ℕ) (c : Corner) → box_of nodes b ≡ Some c → IsOf nodes b c
of nodes b c has = cases (get_or (places_of nodes) b None) refl
  where
    cases : (o : Option Place) → get_or (places_of nodes) b None ≡ o → IsOf nodes b c
    cases None is = none_some c (sym (box_is nodes b ∙ ap (option_map (corner_of (widths_of (places_of nodes)))) is) ∙ has)
    cases (Some p) is = record { place = p; is = is; corner = sym (some_same (corner_of (widths_of (places_of nodes)) p) c (sym (box_is nodes b ∙ ap (option_map (corner_of (widths_of (places_of nodes)))) is) ∙ has)) }

---- Within

right_within : (w width c layer : ℕ) → c < width → width ≤ w → (corner_at w width c layer).x + 116 ≤ 68 + 140 * w
right_within w width c layer l k = omega (arith, l, k)

lower_within : (depth layer : ℕ) → layer < depth → 28 + 82 * layer + 46 ≤ 28 + 82 * depth
lower_within depth layer l = omega (arith, l)

layer_within : (nodes : List Node) (b : ℕ) (p : Place) → get_or (places_of nodes) b None ≡ Some p → p.layer < length (widths_of (places_of nodes))
layer_within nodes b p is =
    let low = below_low (places_of nodes) 0 b in
    let here = ap below is in
    let long = length_places (width_of (places_of nodes)) 0 (depth_of (places_of nodes)) in
    omega (arith, low, here, long)

pub within : (nodes : List Node) (b : ℕ) (c : Corner) → box_of nodes b ≡ Some c → IsWithin nodes c
within nodes b c has =
    let o = of nodes b c has in
    let widths = widths_of (places_of nodes) in
    let low = layer_within nodes b o.place o.is in
    let column = (tidy nodes).columns b o.place o.is in
    let read = width_read (places_of nodes) o.place.layer in
    let most = each_at_most (widths_of (places_of nodes)) 0 o.place.layer low in
    subst (IsWithin nodes) (sym o.corner) (record {
      right = right_within (widest widths) (get_or widths o.place.layer 0) o.place.column o.place.layer (omega (arith, column, read)) most;
      lower = lower_within (length widths) o.place.layer low;
    })

---- Apart

left_of : (w width c d layer other : ℕ) → c < d → IsLeftOf (corner_at w width c layer) (corner_at w width d other)
left_of w width c d layer other l = omega (arith, l)

beside : (widths : List ℕ) (p q : Place) → p.layer ≡ q.layer → p.column < q.column → IsLeftOf (corner_of widths p) (corner_of widths q)
beside widths p q same l =
    subst (λ w. IsLeftOf (corner_of widths p) (corner_at (widest widths) w q.column q.layer)) (ap (λ layer. get_or widths layer 0) same)
    (left_of (widest widths) (get_or widths p.layer 0) p.column q.column p.layer q.layer l)

pub over : (widths : List ℕ) (p q : Place) → p.layer < q.layer → IsAbove (corner_of widths p) (corner_of widths q)
over widths p q l = omega (arith, l)

apart_places : (widths : List ℕ) (p q : Place) → (p.layer ≡ q.layer → p.column ≡ q.column → ⊥) → AreApart (corner_of widths p) (corner_of widths q)
apart_places widths p q differ = layers (cases_order p.layer q.layer)
  where
    columns : p.layer ≡ q.layer → (p.column ≡ q.column) ⊎ ((p.column < q.column) ⊎ (q.column < p.column)) → AreApart (corner_of widths p) (corner_of widths q)
    columns same cases = ⊎_elim (λ (e : p.column ≡ q.column). absurd (differ same e))
        (λ (o : (p.column < q.column) ⊎ (q.column < p.column)). ⊎_elim (λ (l : p.column < q.column). left (beside widths p q same l)) (λ (l : q.column < p.column). right (beside widths q p (sym same) l)) o)
        cases

    layers : (p.layer ≡ q.layer) ⊎ ((p.layer < q.layer) ⊎ (q.layer < p.layer)) → AreApart (corner_of widths p) (corner_of widths q)
    layers cases = ⊎_elim (λ (e : p.layer ≡ q.layer). columns e (cases_order p.column q.column))
        (λ (o : (p.layer < q.layer) ⊎ (q.layer < p.layer)). ⊎_elim (λ (l : p.layer < q.layer). above (over widths p q l)) (λ (l : q.layer < p.layer). lower (over widths q p l)) o)
        cases

pub apart : (nodes : List Node) (a b : ℕ) (c d : Corner) → box_of nodes a ≡ Some c → box_of nodes b ≡ Some d → (a ≡ b → ⊥) → AreApart c d
apart nodes a b c d one other ne =
    let o = of nodes a c one in
    let u = of nodes b d other in
    let widths = widths_of (places_of nodes) in
    subst (λ (c : Corner). AreApart c d) (sym o.corner)
    (subst (λ (d : Corner). AreApart (corner_of (widths_of (places_of nodes)) o.place) d) (sym u.corner)
    (apart_places (widths_of (places_of nodes)) o.place u.place (λ layer column. ne ((tidy nodes).differ a b o.place u.place o.is u.is layer column))))

---- Edges

pub starts : (is_back : Bool) (from to : Corner) → IsOnLowerSide (curve_of is_back from to).start from
starts true from to = record { column = record { left = omega arith; right = omega arith }; side = refl }
starts false from to = record { column = record { left = omega arith; right = omega arith }; side = refl }

pub ends : (is_back : Bool) (from to : Corner) → IsOnUpperSide (curve_of is_back from to).end to
ends true from to = record { column = record { left = omega arith; right = omega arith }; side = refl }
ends false from to = record { column = record { left = omega arith; right = omega arith }; side = refl }

pub down : (nodes : List Node) (a b : ℕ) (c d : Corner) → box_of nodes a ≡ Some c → box_of nodes b ≡ Some d → leads_back c d ≡ false → IsAbove c d
down nodes a b c d one other forth =
    let o = of nodes a c one in
    let u = of nodes b d other in
    let from : c.y ≡ 28 + 82 * o.place.layer = ap (λ (c : Corner). c.y) o.corner in
    let to : d.y ≡ 28 + 82 * u.place.layer = ap (λ (c : Corner). c.y) u.corner in
    let less : c.y < d.y = leb-false d.y c.y forth in
    omega (arith, from, to, less)
