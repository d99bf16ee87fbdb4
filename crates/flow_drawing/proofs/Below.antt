-- Blocks stand below their predecessors.
use Rattle.std.proofs.Common.{◌≡◌, ℕ, suc, ◌+◌, ◌<◌, ◌≤◌, ◌==◌, max, Bool, true, false, cond, List, [], ◌∷◌, map, filter, set, length, get_or, replicate, Option, Some, None, refl, sym, ap, ◌∙◌, subst, arith, ⊎_elim}
use Rattle.std.specs.Prelude.{is_some, nat_lt}
use Rattle.std.proofs.lemmas.Bool.{cases_lt, cases_eq, eqb-true, eq-eqb, ltb-true, and_parts, false≢true}
use Rattle.std.proofs.lemmas.List.{get_or_past, get_or-set_other, length-replicate}
use Rattle.std.proofs.lemmas.Grind.{get_or-set_at}
use Rattle.block_runs.specs.Blocks.{successors}
use Rattle.block_runs.specs.Live.{has}
use Rattle.lir_core.specs.declared.flow.Node.{Node}
use Rattle.lir_core.specs.Flows.{node_at, no_node, has_several}
use Rattle.flow_drawing.specs.declared.places.Place.{Place}
use Rattle.flow_drawing.specs.declared.layout.Corner.{Corner}
use Rattle.flow_drawing.specs.Order.{is_one, is_on_edge, leads_into, entries, order_from}
use Rattle.flow_drawing.specs.Layout.{greatest, place_at, below, settle, settle_all, places_of, widths_of, corner_of}
use Rattle.flow_drawing.specs.Boxes.{box_of, IsAbove}
use Rattle.flow_drawing.proofs.Lists.{at_least}
use Rattle.flow_drawing.proofs.Turns.{turn}
use Rattle.flow_drawing.proofs.Tidy.{none_some, some_same, nowhere, next_for, given, by_turn, Stands, stands_all, stands_now, long_turn, long_all}
use Rattle.flow_drawing.proofs.Apart.{of, over}

---- Numbers in lists

at_test : {X : Type 0} (b : Bool) → (b ≡ true → X) → (b ≡ false → X) → X
at_test true when other = when refl
at_test false when other = other refl

no : {X : Type 0} → false ≡ true → X
no e = absurd (false≢true e)

-- a number is the first of a list, or in the rest
has_either : {X : Type 0} (x : ℕ) (xs : List ℕ) (p : ℕ) → has (x ∷ xs) p ≡ true → (x ≡ p → X) → (has xs p ≡ true → X) → X
has_either x xs p h first rest =
    at_test (x == p) (λ e. first (eqb-true x p e)) (λ e. rest (sym (ap (λ t. cond t true (has xs p)) e) ∙ h))

has_more : (x : ℕ) (xs : List ℕ) (p : ℕ) → has xs p ≡ true → has (x ∷ xs) p ≡ true
has_more x xs p h = at_test (x == p) (λ e. ap (λ t. cond t true (has xs p)) e) (λ e. ap (λ t. cond t true (has xs p)) e ∙ h)

has_at_most : (f : ℕ → ℕ) (ps : List ℕ) (m p : ℕ) → has ps p ≡ true → f p ≤ greatest m (map f ps)
has_at_most f [] m p h = no h
has_at_most f (x ∷ ps) m p h =
    let most = at_least (map f ps) (max (f x) m) in
    has_either x ps p h (λ e. let same = ap f e in omega (arith, same, most)) (λ more. has_at_most f ps (max (f x) m) p more)

has_one : (f : ℕ → Bool) (xs : List ℕ) (p : ℕ) → is_one f xs ≡ true → has xs p ≡ true → f p ≡ true
has_one f [] p one h = no one
has_one f (x ∷ []) p one h = has_either x [] p h (λ e. sym (ap f e) ∙ one) (λ none. no none)
has_one f (x ∷ y ∷ ys) p one h = no one

pub record IsPassed (f : ℕ → Bool) (xs : List ℕ) (p : ℕ) : Type 0 where
  pub passes : f p ≡ true
  pub among : has xs p ≡ true

has_filter : (f : ℕ → Bool) (xs : List ℕ) (p : ℕ) → has (filter f xs) p ≡ true → IsPassed f xs p
has_filter f [] p h = no h
has_filter f (x ∷ xs) p h = at_test (f x)
    (λ e.
    has_either x (filter f xs) p (sym (ap (λ t. has (cond t (x ∷ filter f xs) (filter f xs)) p) e) ∙ h)
    (λ same. record { passes = sym (ap f same) ∙ e; among = first same })
    (λ rest. later (has_filter f xs p rest)))
    (λ e. later (has_filter f xs p (sym (ap (λ t. has (cond t (x ∷ filter f xs) (filter f xs)) p) e) ∙ h)))
  where
    later : IsPassed f xs p → IsPassed f (x ∷ xs) p
    later i = record { passes = i.passes; among = has_more x xs p i.among }

    first : x ≡ p → has (x ∷ xs) p ≡ true
    first same = ap (λ t. cond t true (has xs p)) (subst (λ q. (x == q) ≡ true) same (eq-eqb x x refl))

has_entries : (nodes : List Node) (b p : ℕ) (preds : List ℕ) → has (entries nodes b preds) p ≡ true → IsPassed (leads_into nodes b) preds p
has_entries nodes b p preds h = at_test (has_several preds)
    (λ e. has_filter (leads_into nodes b) preds p (sym (ap (λ t. has (cond t (filter (leads_into nodes b) preds) []) p) e) ∙ h))
    (λ e. no (sym (ap (λ t. has (cond t (filter (leads_into nodes b) preds) []) p) e) ∙ h))

---- Below

-- predecessors that come before a block: of smaller numbers, or such as lead into it
data Early (nodes : List Node) (b p : ℕ) : Type 0 where
  smaller : p < b → has (node_at nodes b).preds p ≡ true → Early nodes b p
  entering : has (entries nodes b (node_at nodes b).preds) p ≡ true → Early nodes b p

is_pred : (nodes : List Node) (b p : ℕ) → Early nodes b p → has (node_at nodes b).preds p ≡ true
is_pred nodes b p (smaller _ h) = h
is_pred nodes b p (entering h) = (has_entries nodes b p (node_at nodes b).preds h).among

-- a block has a place above this one
record IsOver (places : List (Option Place)) (p : ℕ) (x : Place) : Type 0 where
  upper : Place
  is : get_or places p None ≡ Some upper
  higher : upper.layer < x.layer

record IsBelow (nodes : List Node) (places : List (Option Place)) : Type 0 where
  each : (b p : ℕ) (x : Place) → get_or places b None ≡ Some x → Early nodes b p → IsOver places p x

-- it stays there when another block gets one
still : (places : List (Option Place)) (b : ℕ) (new : Place) (p : ℕ) (x : Place) → get_or places b None ≡ None → IsOver places p x → IsOver (set places b (Some new)) p x
still places b new p x free o = record {
  upper = o.upper;
  is = get_or-set_other places b p (Some new) None (λ e. none_some o.upper (sym (ap (λ k. get_or places k None) e ∙ free) ∙ o.is)) ∙ o.is;
  higher = o.higher;
}

-- the place that a block gets is below its predecessors
over_next : (nodes : List Node) (places : List (Option Place)) (b p : ℕ) → has (node_at nodes b).preds p ≡ true → Stands places p → IsOver places p (next_for nodes places b)
over_next nodes places b p h stands = cases (get_or places p None) refl
  where
    cases : (o : Option Place) → get_or places p None ≡ o → IsOver places p (next_for nodes places b)
    cases None is = no (sym (ap (λ (o : Option Place). is_some o) is) ∙ stands)
    cases (Some y) is =
        let most = has_at_most (λ q. below (place_at places q)) (node_at nodes b).preds 0 p h in
        let here = ap below is in
        record { upper = y; is = is; higher = omega (arith, most, here) }

below_turn : (nodes : List Node) (places : List (Option Place)) (b : ℕ) → IsBelow nodes places → ((p : ℕ) → Early nodes b p → Stands places p) → IsBelow nodes (settle nodes places b)
below_turn nodes places b h ready = by_turn nodes places b (IsBelow nodes) (λ _. h) (λ _. h) (λ l free. record {
  each = λ a p x is early. ⊎_elim
      (λ (e : a ≡ b).
      let same : next_for nodes places b ≡ x = some_same (next_for nodes places b) x (sym (get_or-set_at places b a (Some (next_for nodes places b)) None e l) ∙ is) in
      let mine : Early nodes b p = subst (λ k. Early nodes k p) e early in
      subst (IsOver (given nodes places b) p) same (still places b (next_for nodes places b) p (next_for nodes places b) free (over_next nodes places b p (is_pred nodes b p mine) (ready p mine))))
      (λ (ne : a ≡ b → ⊥).
      still places b (next_for nodes places b) p x free (h.each a p x (sym (get_or-set_other places b a (Some (next_for nodes places b)) None ne) ∙ is) early))
      (cases_eq a b);
})

---- The turns of all

-- what leads into a block is a block, and its predecessors have smaller numbers than the target
is_entry : (nodes : List Node) (t b : ℕ) → leads_into nodes t b ≡ true → is_one (λ q. nat_lt q t) (node_at nodes b).preds ≡ true
is_entry nodes t b e = (and_parts (is_one (λ q. nat_lt q t) (node_at nodes b).preds) (is_one (λ s. s == t) (successors (node_at nodes b).end)) (and_parts (nat_lt t b) (is_on_edge t (node_at nodes b)) e).1).0

is_block : (nodes : List Node) (t b : ℕ) → leads_into nodes t b ≡ true → b < length nodes
is_block nodes t b e = ⊎_elim (λ (l : b < length nodes). l)
    (λ (l : length nodes ≤ b). no (sym (ap (λ (n : Node). is_one (λ q. nat_lt q t) n.preds) (get_or_past nodes b no_node l)) ∙ is_entry nodes t b e))
    (cases_lt b (length nodes))

below_entry : (nodes : List Node) (places : List (Option Place)) (t b : ℕ) → leads_into nodes t b ≡ true → IsBelow nodes places → ((k : ℕ) → k < t → Stands places k) → IsBelow nodes (settle nodes places b)
below_entry nodes places t b e h stand = below_turn nodes places b h (λ p early.
    stand p (ltb-true p t (has_one (λ q. nat_lt q t) (node_at nodes b).preds p (is_entry nodes t b e) (is_pred nodes b p early))))

below_filtered : (nodes : List Node) (places : List (Option Place)) (t : ℕ) (bs : List ℕ) → IsBelow nodes places → ((k : ℕ) → k < t → Stands places k) → IsBelow nodes (settle_all nodes places (filter (leads_into nodes t) bs))
below_filtered nodes places t [] h stand = h
below_filtered nodes places t (b ∷ bs) h stand =
    at_test (leads_into nodes t b)
    (λ e.
    subst (λ yes. IsBelow nodes (settle_all nodes places (cond yes (b ∷ filter (leads_into nodes t) bs) (filter (leads_into nodes t) bs)))) (sym e)
    (below_filtered nodes (settle nodes places b) t bs (below_entry nodes places t b e h stand) (λ k l. stands_all nodes places (b ∷ []) k (stand k l))))
    (λ e.
    subst (λ yes. IsBelow nodes (settle_all nodes places (cond yes (b ∷ filter (leads_into nodes t) bs) (filter (leads_into nodes t) bs)))) (sym e) (below_filtered nodes places t bs h stand))

below_entries : (nodes : List Node) (places : List (Option Place)) (t : ℕ) (preds : List ℕ) → IsBelow nodes places → ((k : ℕ) → k < t → Stands places k) → IsBelow nodes (settle_all nodes places (entries nodes t preds))
below_entries nodes places t preds h stand = at_test (has_several preds)
    (λ e. subst (λ yes. IsBelow nodes (settle_all nodes places (cond yes (filter (leads_into nodes t) preds) []))) (sym e) (below_filtered nodes places t preds h stand))
    (λ e. subst (λ yes. IsBelow nodes (settle_all nodes places (cond yes (filter (leads_into nodes t) preds) []))) (sym e) h)

stands_each : (nodes : List Node) (places : List (Option Place)) (bs : List ℕ) (p : ℕ) → has bs p ≡ true → p < length places → Stands (settle_all nodes places bs) p
stands_each nodes places [] p h l = no h
stands_each nodes places (b ∷ bs) p h l =
    let long = long_turn nodes places b in
    has_either b bs p h
    (λ e. stands_all nodes (settle nodes places b) bs p (subst (λ k. Stands (settle nodes places k) p) (sym e) (stands_now nodes places p l)))
    (λ more. stands_each nodes (settle nodes places b) bs p more (omega (arith, l, long)))

ready : (nodes : List Node) (places : List (Option Place)) (t : ℕ) → length places ≡ length nodes → ((k : ℕ) → k < t → Stands places k) → (p : ℕ) → Early nodes t p → Stands (settle_all nodes places (entries nodes t (node_at nodes t).preds)) p
ready nodes places t long stand p (smaller l h) = stands_all nodes places (entries nodes t (node_at nodes t).preds) p (stand p l)
ready nodes places t long stand p (entering h) =
    let low = is_block nodes t p (has_entries nodes t p (node_at nodes t).preds h).passes in
    stands_each nodes places (entries nodes t (node_at nodes t).preds) p h (omega (arith, low, long))

below_from : (nodes : List Node) (t : ℕ) (ns : List Node) (places : List (Option Place)) → ((k : ℕ) → k < length ns → get_or ns k no_node ≡ node_at nodes (t + k)) → t + length ns ≤ length nodes → length places ≡ length nodes
    → IsBelow nodes places → ((k : ℕ) → k < t → Stands places k) → IsBelow nodes (settle_all nodes places (order_from nodes t ns))
below_from nodes t [] places same within long h stand = h
below_from nodes t (n ∷ ns) places same within long h stand =
    let e : t + 0 ≡ t = omega arith in
    let is : n ≡ node_at nodes t = same 0 (omega arith) ∙ ap (node_at nodes) e in
    subst (λ (n : Node). IsBelow nodes (settle_all nodes places (order_from nodes t (n ∷ ns)))) (sym is)
    (subst (IsBelow nodes) (sym (turn nodes places t (node_at nodes t) ns))
    (below_from nodes (suc t) ns after (λ k l. let f : t + suc k ≡ suc t + k = omega arith in same (suc k) (omega (arith, l)) ∙ ap (node_at nodes) f) (omega (arith, within))
    (long_turn nodes entered t ∙ long_all nodes places (entries nodes t (node_at nodes t).preds) ∙ long)
    (below_turn nodes entered t (below_entries nodes places t (node_at nodes t).preds h stand) (ready nodes places t long stand))
    stand_after))
  where
    entered : List (Option Place)
    entered = settle_all nodes places (entries nodes t (node_at nodes t).preds)

    after : List (Option Place)
    after = settle nodes entered t

    stand_after : (k : ℕ) → k < suc t → Stands after k
    stand_after k l =
        let many = long_all nodes places (entries nodes t (node_at nodes t).preds) in
        ⊎_elim
        (λ (low : k < t). stands_all nodes entered (t ∷ []) k (stands_all nodes places (entries nodes t (node_at nodes t).preds) k (stand k low)))
        (λ (high : t ≤ k). let e : t ≡ k = omega (arith, l, high) in subst (λ j. Stands after j) e (stands_now nodes entered t (omega (arith, within, long, many))))
        (cases_lt k t)

below_none : (nodes : List Node) (n : ℕ) → IsBelow nodes (replicate n None)
below_none nodes n = record { each = λ b p x is _. none_some x (sym (nowhere n b) ∙ is) }

all_below : (nodes : List Node) → IsBelow nodes (places_of nodes)
all_below nodes =
    below_from nodes 0 nodes (replicate (length nodes) None) (λ k l. let e : k ≡ 0 + k = omega arith in ap (node_at nodes) e) (omega arith) (length-replicate {A = Option Place} (length nodes) None)
    (below_none nodes (length nodes)) (λ k l. absurd (omega (arith, l)))

---- Boxes

early_above : (nodes : List Node) (b p : ℕ) (c d : Corner) → Early nodes b p → box_of nodes p ≡ Some c → box_of nodes b ≡ Some d → IsAbove c d
early_above nodes b p c d early one other =
    let o = of nodes p c one in
    let u = of nodes b d other in
    let v = (all_below nodes).each b p u.place u.is early in
    let same : v.upper ≡ o.place = some_same v.upper o.place (sym v.is ∙ o.is) in
    let layer = ap (λ (p : Place). p.layer) same in
    let higher = v.higher in
    subst (λ (c : Corner). IsAbove c d) (sym o.corner)
    (subst (λ (d : Corner). IsAbove (corner_of (widths_of (places_of nodes)) o.place) d) (sym u.corner)
    (over (widths_of (places_of nodes)) o.place u.place (omega (arith, higher, layer))))

pub smaller_above : (nodes : List Node) (b p : ℕ) (c d : Corner) → p < b → has (node_at nodes b).preds p ≡ true → box_of nodes p ≡ Some c → box_of nodes b ≡ Some d → IsAbove c d
smaller_above nodes b p c d l h = early_above nodes b p c d (smaller l h)

pub entering_above : (nodes : List Node) (b p : ℕ) (c d : Corner) → has (entries nodes b (node_at nodes b).preds) p ≡ true → box_of nodes p ≡ Some c → box_of nodes b ≡ Some d → IsAbove c d
entering_above nodes b p c d h = early_above nodes b p c d (entering h)
