-- Each block gets a place, and no two get the same.
use Rattle.std.proofs.Common.{◌≡◌, ℕ, suc, zero, ◌+◌, ◌<◌, ◌≤◌, true, cond, List, [], ◌∷◌, set, length, get_or, replicate, Option, Some, None, refl, sym, ap, ◌∙◌, subst, arith, ⊎_elim}
use Rattle.std.specs.Prelude.{is_some}
use Rattle.std.proofs.lemmas.Bool.{cases_lt, cases_eq}
use Rattle.std.proofs.lemmas.List.{get_or_past, get_or-replicate, get_or-set_other, length-set, set_past, length-replicate}
use Rattle.std.proofs.lemmas.Grind.{get_or-set_at}
use Rattle.lir_core.specs.declared.flow.Node.{Node}
use Rattle.lir_core.specs.Flows.{node_at}
use Rattle.flow_drawing.specs.declared.places.Place.{Place}
use Rattle.flow_drawing.specs.Order.{entries, order_from, order_of}
use Rattle.flow_drawing.specs.Layout.{layer_of, width_of, next_in, settle, settle_all, places_of}
use Rattle.flow_drawing.proofs.Widths.{width_set, width_more}
use Rattle.flow_drawing.proofs.Turns.{turn}

pub none_some : {A X : Type 0} (x : A) → None ≡ Some x → X
none_some {A = A} x e = absurd (bad e)
  where
    bad : None ≡ Some x → ⊥
    bad e = cc

pub some_same : {A : Type 0} (a b : A) → Some a ≡ Some b → a ≡ b
some_same a b e = cc

---- No two have the same place

-- columns are within layers, and blocks of the same layer have different ones
pub record IsTidy (places : List (Option Place)) : Type 0 where
  pub columns : (b : ℕ) (p : Place) → get_or places b None ≡ Some p → p.column < width_of places p.layer
  pub differ : (a b : ℕ) (p q : Place) → get_or places a None ≡ Some p → get_or places b None ≡ Some q → p.layer ≡ q.layer → p.column ≡ q.column → a ≡ b

pub nowhere : (n b : ℕ) → get_or (replicate {A = Option Place} n None) b None ≡ None
nowhere n b = ⊎_elim
    (λ (l : b < n). get_or-replicate n b None None l)
    (λ (l : n ≤ b). let e = length-replicate {A = Option Place} n None in get_or_past (replicate n None) b None (omega (arith, l, e)))
    (cases_lt b n)

tidy_none : (n : ℕ) → IsTidy (replicate n None)
tidy_none n = record {
  columns = λ b p is. none_some p (sym (nowhere n b) ∙ is);
  differ = λ a b p q is _ _ _. none_some p (sym (nowhere n a) ∙ is);
}

-- a place after a block got the next one in a layer: it is that one, or was there before
data Came (places : List (Option Place)) (b layer a : ℕ) (p : Place) : Type 0 where
  fresh : a ≡ b → p.layer ≡ layer → p.column ≡ width_of places layer → Came places b layer a p
  kept : get_or places a None ≡ Some p → Came places b layer a p

module _ (places : List (Option Place)) (b layer : ℕ) (l : b < length places) (free : get_or places b None ≡ None) where
  abbrev new : Place
  new = next_in places layer

  came : (a : ℕ) (p : Place) → get_or (set places b (Some new)) a None ≡ Some p → Came places b layer a p
  came a p is = ⊎_elim
      (λ (e : a ≡ b).
      let same : new ≡ p = some_same new p (sym (get_or-set_at places b a (Some new) None e l) ∙ is) in
      fresh e (sym (ap (λ (p : Place). p.layer) same)) (sym (ap (λ (p : Place). p.column) same)))
      (λ (ne : a ≡ b → ⊥). kept (sym (get_or-set_other places b a (Some new) None ne) ∙ is))
      (cases_eq a b)

  columned : IsTidy places → (a : ℕ) (p : Place) → Came places b layer a p → p.column < width_of (set places b (Some new)) p.layer
  columned h a p (fresh e at is) =
      let more = width_more places b new p.layer l free (sym at) in
      let same = ap (width_of places) at in
      omega (arith, more, same, is)
  columned h a p (kept is) =
      let had = h.columns a p is in
      let more = width_set places b new p.layer l free in
      omega (arith, had, more)

  apart : IsTidy places → (a c : ℕ) (p q : Place) → Came places b layer a p → Came places b layer c q → p.layer ≡ q.layer → p.column ≡ q.column → a ≡ c
  apart h a c p q (fresh e at is) (fresh f _ _) same column = e ∙ sym f
  apart h a c p q (fresh e at is) (kept was) same column =
      let had = h.columns c q was in
      let wide = ap (width_of places) (sym same ∙ at) in
      absurd (omega (arith, had, wide, is, column))
  apart h a c p q (kept was) (fresh f at is) same column =
      let had = h.columns a p was in
      let wide = ap (width_of places) (same ∙ at) in
      absurd (omega (arith, had, wide, is, column))
  apart h a c p q (kept one) (kept other) same column = h.differ a c p q one other same column

  tidy_set : IsTidy places → IsTidy (set places b (Some new))
  tidy_set h = record {
    columns = λ a p is. columned h a p (came a p is);
    differ = λ a c p q one other. apart h a c p q (came a p one) (came c q other);
  }

---- Turns

-- the place that a block gets, and all places with it
abbrev pub next_for : List Node → List (Option Place) → ℕ → Place
next_for nodes places b = next_in places (layer_of places (node_at nodes b).preds)

abbrev pub given : List Node → List (Option Place) → ℕ → List (Option Place)
given nodes places b = set places b (Some (next_for nodes places b))

-- what holds after a block's turn: it had a place, there is no such block, or it got one
pub by_turn : (nodes : List Node) (places : List (Option Place)) (b : ℕ) (P : List (Option Place) → Type 0) → (is_some (get_or places b None) ≡ true → P places) → (length places ≤ b → P places)
    → (b < length places → get_or places b None ≡ None → P (given nodes places b)) → P (settle nodes places b)
by_turn nodes places b P had past got = cases (get_or places b None) refl
  where
    cases : (o : Option Place) → get_or places b None ≡ o → P (settle nodes places b)
    cases (Some p) is =
        let some = ap (λ (o : Option Place). is_some o) is in
        subst (λ t. P (cond t places (given nodes places b))) (sym some) (had some)
    cases None is =
        subst (λ t. P (cond t places (given nodes places b))) (sym (ap (λ (o : Option Place). is_some o) is))
        (⊎_elim (λ (l : b < length places). got l is) (λ (l : length places ≤ b). subst P (sym (set_past places b (Some (next_for nodes places b)) l)) (past l)) (cases_lt b (length places)))

tidy_turn : (nodes : List Node) (places : List (Option Place)) (b : ℕ) → IsTidy places → IsTidy (settle nodes places b)
tidy_turn nodes places b h = by_turn nodes places b IsTidy (λ _. h) (λ _. h) (λ l free. tidy_set places b (layer_of places (node_at nodes b).preds) l free h)

tidy_all : (nodes : List Node) (places : List (Option Place)) (bs : List ℕ) → IsTidy places → IsTidy (settle_all nodes places bs)
tidy_all nodes places [] h = h
tidy_all nodes places (b ∷ bs) h = tidy_all nodes (settle nodes places b) bs (tidy_turn nodes places b h)

pub tidy : (nodes : List Node) → IsTidy (places_of nodes)
tidy nodes = tidy_all nodes (replicate (length nodes) None) (order_of nodes) (tidy_none (length nodes))

---- Each has a place

pub long_turn : (nodes : List Node) (places : List (Option Place)) (b : ℕ) → length (settle nodes places b) ≡ length places
long_turn nodes places b =
    by_turn nodes places b (λ ps. length ps ≡ length places) (λ _. refl) (λ _. refl) (λ l free. length-set places b (Some (next_for nodes places b)))

pub long_all : (nodes : List Node) (places : List (Option Place)) (bs : List ℕ) → length (settle_all nodes places bs) ≡ length places
long_all nodes places [] = refl
long_all nodes places (b ∷ bs) = long_all nodes (settle nodes places b) bs ∙ long_turn nodes places b

-- a block has a place, which it keeps
abbrev pub Stands : List (Option Place) → ℕ → Type 0
Stands places b = is_some (get_or places b None) ≡ true

stands_new : (places : List (Option Place)) (b a : ℕ) (p : Place) → b < length places → a ≡ b → Stands (set places b (Some p)) a
stands_new places b a p l e = ap (λ (o : Option Place). is_some o) (get_or-set_at places b a (Some p) None e l)

stands_turn : (nodes : List Node) (places : List (Option Place)) (b a : ℕ) → Stands places a → Stands (settle nodes places b) a
stands_turn nodes places b a h =
    by_turn nodes places b (λ ps. Stands ps a) (λ _. h) (λ _. h) (λ l free. ⊎_elim
    (λ (e : a ≡ b). stands_new places b a (next_for nodes places b) l e)
    (λ (ne : a ≡ b → ⊥). ap (λ (o : Option Place). is_some o) (get_or-set_other places b a (Some (next_for nodes places b)) None ne) ∙ h)
    (cases_eq a b))

pub stands_all : (nodes : List Node) (places : List (Option Place)) (bs : List ℕ) (a : ℕ) → Stands places a → Stands (settle_all nodes places bs) a
stands_all nodes places [] a h = h
stands_all nodes places (b ∷ bs) a h = stands_all nodes (settle nodes places b) bs a (stands_turn nodes places b a h)

-- after its turn
pub stands_now : (nodes : List Node) (places : List (Option Place)) (b : ℕ) → b < length places → Stands (settle nodes places b) b
stands_now nodes places b low =
    by_turn nodes places b (λ ps. Stands ps b) (λ h. h) (λ past. absurd (omega (arith, low, past)))
    (λ l free. stands_new places b b (next_for nodes places b) l refl)

each_from : (nodes : List Node) (t : ℕ) (ns : List Node) (places : List (Option Place)) (k : ℕ) → k < length ns → t + length ns ≤ length places → Stands (settle_all nodes places (order_from nodes t ns)) (t + k)
each_from nodes t [] places k l within = absurd (omega (arith, l))
each_from nodes t (n ∷ ns) places zero l within =
    let entered = settle_all nodes places (entries nodes t n.preds) in
    let long = long_all nodes places (entries nodes t n.preds) in
    let e : t ≡ t + 0 = omega arith in
    let here = stands_now nodes (settle_all nodes places (entries nodes t n.preds)) t (omega (arith, within, long)) in
    subst (λ (ps : List (Option Place)). Stands ps (t + 0)) (sym (turn nodes places t n ns))
    (stands_all nodes (settle nodes (settle_all nodes places (entries nodes t n.preds)) t) (order_from nodes (suc t) ns) (t + 0)
    (subst (λ j. Stands (settle nodes (settle_all nodes places (entries nodes t n.preds)) t) j) e here))
each_from nodes t (n ∷ ns) places (suc k) l within =
    let long = long_all nodes places (entries nodes t n.preds) in
    let longer = long_turn nodes (settle_all nodes places (entries nodes t n.preds)) t in
    let e : suc t + k ≡ t + suc k = omega arith in
    let rest = each_from nodes (suc t) ns (settle nodes (settle_all nodes places (entries nodes t n.preds)) t) k (omega (arith, l)) (omega (arith, within, long, longer)) in
    subst (λ (ps : List (Option Place)). Stands ps (t + suc k)) (sym (turn nodes places t n ns))
    (subst (λ j. Stands (settle_all nodes (settle nodes (settle_all nodes places (entries nodes t n.preds)) t) (order_from nodes (suc t) ns)) j) e rest)

pub each : (nodes : List Node) (b : ℕ) → b < length nodes → is_some (get_or (places_of nodes) b None) ≡ true
each nodes b l =
    let e : 0 + b ≡ b = omega arith in
    let long = length-replicate {A = Option Place} (length nodes) None in
    subst (λ j. Stands (places_of nodes) j) e (each_from nodes 0 nodes (replicate (length nodes) None) b l (omega (arith, long)))
