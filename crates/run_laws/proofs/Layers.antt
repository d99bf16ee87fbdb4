-- Layers put together: three systems, systems with invariants, and points of two kinds.
use Rattle.std.proofs.Common.{◌≡◌, ℕ, zero, suc, ◌+◌, List, [], ◌∷◌, ◌++◌, length, map, refl, sym, ap, ◌∙◌, subst, arith, append_assoc}
use Rattle.std.specs.Prelude.{flat_map}
use Rattle.run_laws.specs.Runs.{Step, Moves, Ends, Traps, weigh, Within, System, Walk, Passes}
use Rattle.run_laws.specs.Layers.{CarriesMove, CarriesHalt, CarriesStep, CarriesBy, Stays, Through, Where, Either, Left, Right, of_both, by_kind, places_from, InRow}
use Rattle.run_laws.proofs.Weights.{weigh-append, weigh-map, weigh-flat_map}
use Rattle.run_laws.proofs.Walks.{Walk-one, Walk-append}
use Rattle.run_laws.proofs.Lowering.{Walk-down}

-- a system whose points may have no step, carried out by itself
pub carries_self : {S T P : Type 0} (y : System S T P) (least : P → ℕ) → CarriesBy y y least least (λ p. p ∷ []) (λ s t. s ≡ t) (λ u v. u ≡ v)
carries_self {S} {T} {P} y least = record { each = λ s a sim. subst (λ t. Carried s t (y.step s)) sim (by_step s (y.step s) refl) }
  where
    Carried : S → S → Step S T → Type 0
    Carried s a step = CarriesStep y least least (λ p. p ∷ []) (λ (s t : S). s ≡ t) (λ (u v : T). u ≡ v) (y.at s) a step

    by_step : (s : S) (step : Step S T) → y.step s ≡ step → Carried s s step
    by_step s (Moves w t) e = record { after = t; passed = y.at s ∷ []; walk = Walk-one y s t w e; similar = refl; within = λ h. omega arith; enough = omega arith }
    by_step s Ends e = record { stop = s; passed = []; walk = (refl, refl); halts = e; within = λ h. omega arith }
    by_step s (Traps trap) e = (trap, refl, record { stop = s; passed = []; walk = (refl, refl); halts = e; within = λ h. omega arith })

-- three layers: a system carried out by one that a third carries out
module _ {S T P A B Q C D R : Type 0} (x : System S T P) (y : System A B Q) (z : System C D R) (least : P → ℕ) (fewest : Q → ℕ) (lowest : R → ℕ) (words : P → List Q) (bits : Q → List R) (similar : S → A → Type 0) (alike : A → C → Type 0) (same : T → B → Type 0) (equal : B → D → Type 0) (one : CarriesBy x y least fewest words similar same) (two : CarriesBy y z fewest lowest bits alike equal) where
  down : (p : P) (qs : List Q) (rs : List R) → Within (words p) qs → Within (flat_map bits qs) rs → Within (flat_map bits (words p)) rs
  down p qs rs a b h =
      let e = a (λ q. weigh h (bits q)) in let f = b h in
      omega (arith, e, f, weigh-flat_map h bits qs, weigh-flat_map h bits (words p))

  halt_down : (p : P) (q : Q) (qs : List Q) (rs ss : List R) → Within (words p) (qs ++ q ∷ []) → Within (flat_map bits qs) rs → Within (bits q) ss → Within (flat_map bits (words p)) (rs ++ ss)
  halt_down p q qs rs ss a b c h =
      let e = a (λ q. weigh h (bits q)) in let f = b h in let g = c h in
      omega (arith, e, f, g, weigh-append h rs ss, weigh-append (λ q. weigh h (bits q)) qs (q ∷ []), weigh-flat_map h bits qs, weigh-flat_map h bits (words p))

  stepped : (b : A) (d : C) (up : Step A B) → alike b d → y.step b ≡ up → CarriesStep z fewest lowest bits alike equal (y.at b) d up
  stepped b d up sim e = subst (CarriesStep z fewest lowest bits alike equal (y.at b) d) e (two.each b d sim)

  -- the lowest system's way to where the middle one halts, and its own halt there
  halt_behind : (p : P) (a : A) (c : C) (up : Step A B) (below : Step C D) (halt : CarriesHalt y (words p) a up) (way : CarriesMove z lowest (flat_map bits halt.passed) (weigh fewest halt.passed) c [] (alike halt.stop)) → CarriesHalt z (bits (y.at halt.stop)) way.after below → CarriesHalt z (flat_map bits (words p)) c below
  halt_behind p a c up below halt way last = record {
    stop = last.stop;
    passed = way.passed ++ last.passed;
    walk = Walk-append z way.passed last.passed c way.after last.stop [] [] way.walk last.walk;
    halts = last.halts;
    within = subst (Within (flat_map bits (words p))) (sym (append_assoc way.passed last.passed (z.at last.stop ∷ []))) (halt_down p (y.at halt.stop) halt.passed way.passed (last.passed ++ z.at last.stop ∷ []) halt.within way.within last.within);
  }

  by_step : (p : P) (a : A) (c : C) → alike a c → (step : Step S T) → CarriesStep y least fewest words similar same p a step → CarriesStep z least lowest (λ p. flat_map bits (words p)) (Through similar alike) (Through same equal) p c step
  by_step p a c sim (Moves w t) r =
      let v = Walk-down y z fewest lowest bits alike equal two r.passed a r.after w c sim r.walk in
      let few = r.enough in let few' = v.enough in
      record { after = v.after; passed = v.passed; walk = v.walk; similar = (r.after, r.similar, v.similar); within = down p r.passed v.passed r.within v.within; enough = omega (arith, few, few') }
  by_step p a c sim Ends r =
      let v = Walk-down y z fewest lowest bits alike equal two r.passed a r.stop [] c sim r.walk in
      halt_behind p a c Ends Ends r v (stepped r.stop v.after Ends v.similar r.halts)
  by_step p a c sim (Traps trap) r =
      let halt = r.2 in
      let v = Walk-down y z fewest lowest bits alike equal two halt.passed a halt.stop [] c sim halt.walk in
      let u = stepped halt.stop v.after (Traps r.0) v.similar halt.halts in
      (u.0, (r.0, r.1, u.1), halt_behind p a c (Traps r.0) (Traps u.0) halt v u.2)

  pub carries_through : CarriesBy x z least lowest (λ p. flat_map bits (words p)) (Through similar alike) (Through same equal)
  carries_through = record { each = λ s c sim. by_step (x.at s) sim.0 c sim.2 (x.step s) (one.each s sim.0 sim.1) }

flat_map-flat_map : {P Q R : Type 0} (words : P → List Q) (bits : Q → List R) (h : R → ℕ) (ps : List P) → weigh h (flat_map (λ p. flat_map bits (words p)) ps) ≡ weigh (λ q. weigh h (bits q)) (flat_map words ps)
flat_map-flat_map words bits h [] = refl
flat_map-flat_map words bits h (p ∷ ps) =
    let e = flat_map-flat_map words bits h ps in
    omega (arith, e, weigh-flat_map h bits (words p), weigh-append h (flat_map bits (words p)) (flat_map (λ p. flat_map bits (words p)) ps), weigh-append (λ q. weigh h (bits q)) (words p) (flat_map words ps))

-- the places of two layers fit, if those of each do
pub fits_through : {P Q R : Type 0} (words : P → List Q) (bits : Q → List R) (all : List P) (places : List Q) (slots : List R) → Within places (flat_map words all) → Within slots (flat_map bits places) → Within slots (flat_map (λ p. flat_map bits (words p)) all)
fits_through words bits all places slots one two = λ h.
    let a = one (λ q. weigh h (bits q)) in let b = two h in
    omega (arith, a, b, flat_map-flat_map words bits h all, weigh-flat_map h bits places)

-- an invariant that each step keeps holds at the end of each walk
pub Stays-Walk : {S T P : Type 0} (y : System S T P) (invariant : S → Type 0) → Stays y invariant → (ps : List P) (s t : S) (w : List ℕ) → invariant s → Walk y s ps w t → invariant t
Stays-Walk y invariant stays [] s t w i h = subst invariant (sym h.0) i
Stays-Walk y invariant stays (p ∷ ps) s t w i h = Stays-Walk y invariant stays ps h.after t h.later (stays.step s h.after h.now i h.moves) h.more

-- and at the end of each stretch
pub Stays-Passes : {S T P : Type 0} (y : System S T P) (invariant : S → Type 0) → Stays y invariant → (least : P → ℕ) (all : List P) (k j : ℕ) (s t : S) (w : List ℕ) → invariant s → Passes y least all k j s w t → invariant t
Stays-Passes y invariant stays least all zero j s t w i h = subst invariant (sym h.0) i
Stays-Passes y invariant stays least all (suc k) j s t w i h = Stays-Passes y invariant stays least all k h.rest h.after t h.later (Stays-Walk y invariant stays h.points s h.after h.now i h.walk) h.more

-- a layer may assume of both systems' states what their steps keep
module _ {S T P A B Q : Type 0} (x : System S T P) (y : System A B Q) (least : P → ℕ) (fewest : Q → ℕ) (words : P → List Q) (above : S → Type 0) (below : A → Type 0) (similar : S → A → Type 0) (same : T → B → Type 0) where
  abbrev Carried : (S → A → Type 0) → P → A → Step S T → Type 0
  Carried related p a step = CarriesStep y least fewest words related same p a step

  kept : Stays x above → Stays y below → (s : S) (a : A) → above s → below a → (step : Step S T) → x.step s ≡ step → Carried similar (x.at s) a step → Carried (Where above below similar) (x.at s) a step
  kept up low s a i j (Moves w t) e r = record { after = r.after; passed = r.passed; walk = r.walk; similar = (up.step s t w i e, Stays-Walk y below low r.passed a r.after w j r.walk, r.similar); within = r.within; enough = r.enough }
  kept up low s a i j Ends e r = r
  kept up low s a i j (Traps trap) e r = r

  -- each step may assume both invariants, and need not show them behind it
  pub carries_where : Stays x above → Stays y below → ((s : S) (a : A) → Where above below similar s a → Carried similar (x.at s) a (x.step s)) → CarriesBy x y least fewest words (Where above below similar) same
  carries_where up low each = record { each = λ s a sim. kept up low s a sim.0 sim.1 (x.step s) refl (each s a sim) }

-- points of two kinds
pub weigh-of_both : {P Q : Type 0} (h : Either P Q → ℕ) (ps : List P) (qs : List Q) → weigh h (of_both ps qs) ≡ weigh (λ p. h (Left p)) ps + weigh (λ q. h (Right q)) qs
weigh-of_both h ps qs = weigh-append h (map Left ps) (map Right qs) ∙ ap (λ n. n + weigh h (map Right qs)) (weigh-map h Left ps) ∙ ap (λ n. weigh (λ p. h (Left p)) ps + n) (weigh-map h Right qs)

pub Within-of_both : {P Q : Type 0} (all few : List P) (more less : List Q) → Within all few → Within more less → Within (of_both all more) (of_both few less)
Within-of_both all few more less a b = λ h.
    let x = a (λ p. h (Left p)) in let y = b (λ q. h (Right q)) in
    omega (arith, x, y, weigh-of_both h all more, weigh-of_both h few less)

-- the points of one kind stand among those of both
pub Within-left : {P Q : Type 0} (all few : List P) (more : List Q) → Within all few → Within (of_both all more) (map Left few)
Within-left all few more a = λ h. let x = a (λ p. h (Left p)) in omega (arith, x, weigh-of_both h all more, weigh-map h Left few)

pub Within-right : {P Q : Type 0} (all : List P) (more less : List Q) → Within more less → Within (of_both all more) (map Right less)
Within-right all more less b = λ h. let y = b (λ q. h (Right q)) in omega (arith, y, weigh-of_both h all more, weigh-map h Right less)

-- the words of the points of two kinds fit, if those of each kind fit into its own part
pub fits_both : {P Q R : Type 0} (f : P → List R) (g : Q → List R) (ps : List P) (qs : List Q) (one two : List R) → Within one (flat_map f ps) → Within two (flat_map g qs) → Within (one ++ two) (flat_map (by_kind f g) (of_both ps qs))
fits_both f g ps qs one two a b = λ h.
    let x = a h in let y = b h in
    omega (arith, x, y, weigh-append h one two, weigh-flat_map h f ps, weigh-flat_map h g qs, weigh-flat_map h (by_kind f g) (of_both ps qs), weigh-of_both (λ p. weigh h (by_kind f g p)) ps qs)

-- places in a row
pub length-places_from : (a n : ℕ) → length (places_from a n) ≡ n
length-places_from a zero = refl
length-places_from a (suc n) = let e = length-places_from (suc a) n in omega (arith, e)

pub places_from-append : (a m n : ℕ) → places_from a m ++ places_from (a + m) n ≡ places_from a (m + n)
places_from-append a zero n =
    let e : a + 0 ≡ a = omega arith in let f : n ≡ 0 + n = omega arith in
    ap (λ b. places_from b n) e ∙ ap (places_from a) f
places_from-append a (suc m) n =
    let e : a + suc m ≡ suc a + m = omega arith in let f : suc (m + n) ≡ suc m + n = omega arith in
    ap (λ ps. a ∷ ps) (ap (λ b. places_from (suc a) m ++ places_from b n) e ∙ places_from-append (suc a) m n) ∙ ap (places_from a) f

-- the places of points that stand in a row are in a row, and so none belongs to two of them
pub flat_map-InRow : {P : Type 0} (place width : P → ℕ) (a : ℕ) (ps : List P) → InRow place width a ps → flat_map (λ p. places_from (place p) (width p)) ps ≡ places_from a (weigh width ps)
flat_map-InRow place width a [] row = refl
flat_map-InRow place width a (p ∷ ps) row =
    ap (λ b. places_from b (width p) ++ flat_map (λ q. places_from (place q) (width q)) ps) row.0
    ∙ ap (λ qs. places_from a (width p) ++ qs) (flat_map-InRow place width (a + width p) ps row.1)
    ∙ places_from-append a (width p) (weigh width ps)

pub fits_in_row : {P : Type 0} (place width : P → ℕ) (n : ℕ) (ps : List P) → InRow place width 0 ps → weigh width ps ≡ n → Within (places_from 0 n) (flat_map (λ p. places_from (place p) (width p)) ps)
fits_in_row place width n ps row size = λ h.
    let e = ap (weigh h) (flat_map-InRow place width 0 ps row ∙ ap (places_from 0) size) in omega (arith, e)
