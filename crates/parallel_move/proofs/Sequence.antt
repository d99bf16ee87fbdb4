-- The sequence of steps does what all moves at once do.
use Rattle.std.proofs.Common.{◌≡◌, ◌≢◌, ℕ, zero, suc, ◌<◌, ◌≤◌, Bool, true, false, cond, List, [], ◌∷◌, map, length, Option, Some, None, refl, sym, ap, ap₂, ◌∙◌, subst, arith, ◌⊎◌, inl, inr, ⊎_elim}
use Rattle.std.specs.Prelude.{◌==◌}
use Rattle.std.proofs.lemmas.Bool.Decides.{nat_tests}
use Rattle.std.proofs.lemmas.List.{length-map}
use Rattle.lir_core.specs.declared.places.Place.{Place}
use Rattle.lir_core.specs.declared.places.Place.TheVariants.{Reg, Home, Out}
use Rattle.lir_core.specs.Spots.{Spot, reg, home, out, target, saved, same, spot}
use Rattle.parallel_move.specs.declared.step.Step.TheVariants.{Save}
use Rattle.parallel_move.specs.Steps.{step_source, steps_source}
use Rattle.parallel_move.specs.Order.{Pending, from_spot, step_from, step_of, is_source, Picked, behind, pick, instead, make, round, ordered}

---- Moves all at once

-- where what stands at p behind all moves stood before them
abbrev pub at_once : List Pending → Spot → Spot
at_once [] p = p
at_once (m ∷ ms) p = cond (same p (spot m.to)) (from_spot m.from) (at_once ms p)

-- a move goes to a spot
abbrev pub is_end : List Pending → Spot → Bool
is_end [] p = false
is_end (m ∷ ms) p = cond (same (spot m.to) p) true (is_end ms p)

abbrev pub AreDistinct : List Pending → Type 0
AreDistinct [] = Unit {0}
AreDistinct (m ∷ ms) = (is_end ms (spot m.to) ≡ false) × AreDistinct ms

-- no place is X16
pub is_place : (p : Place) → same (spot p) saved ≡ false
is_place (Reg r) = refl
is_place (Home v) = refl
is_place (Out s) = refl

pub from_place : (p : Place) → same saved (spot p) ≡ false
from_place (Reg r) = refl
from_place (Home v) = refl
from_place (Out s) = refl

-- X16 is no destination
pub no_end : (ms : List Pending) → is_end ms saved ≡ false
no_end [] = refl
no_end (m ∷ ms) = ap (λ b. cond b true (is_end ms saved)) (is_place m.to) ∙ no_end ms

pub step_is : (m : Pending) (q : Spot) → step_source (step_of m) q ≡ cond (same q (spot m.to)) (from_spot m.from) q
step_is m q = at_from m.from
  where
    at_from : (o : Option Place) → step_source (step_from m.to o) q ≡ cond (same q (spot m.to)) (from_spot o) q
    at_from None = refl
    at_from (Some p) = refl

pub saved_spot : (b : Bool) (o : Option Place) → from_spot (cond b None o) ≡ cond b saved (from_spot o)
saved_spot true o = refl
saved_spot false o = refl

---- Spots

numbers_same : (x y : ℕ) → (x == y) ≡ true → x ≡ y
numbers_same x y = grind (arith, nat_tests)

test_same : (x : ℕ) → (x == x) ≡ true
test_same x = grind (arith, nat_tests)

pub same_is : (p q : Spot) → same p q ≡ true → p ≡ q
same_is (reg a) (reg b) e = ap reg (numbers_same a b e)
same_is (home a) (home b) e = ap home (numbers_same a b e)
same_is (out a) (out b) e = ap out (numbers_same a b e)
same_is target target e = refl
same_is saved saved e = refl
same_is (reg a) (home b) e = cc
same_is (reg a) (out b) e = cc
same_is (reg a) target e = cc
same_is (reg a) saved e = cc
same_is (home a) (reg b) e = cc
same_is (home a) (out b) e = cc
same_is (home a) target e = cc
same_is (home a) saved e = cc
same_is (out a) (reg b) e = cc
same_is (out a) (home b) e = cc
same_is (out a) target e = cc
same_is (out a) saved e = cc
same_is target (reg b) e = cc
same_is target (home b) e = cc
same_is target (out b) e = cc
same_is target saved e = cc
same_is saved (reg b) e = cc
same_is saved (home b) e = cc
same_is saved (out b) e = cc
same_is saved target e = cc

pub same_self : (p : Spot) → same p p ≡ true
same_self (reg a) = test_same a
same_self (home a) = test_same a
same_self (out a) = test_same a
same_self target = refl
same_self saved = refl

pub apart : (p q : Spot) → p ≢ q → same p q ≡ false
apart p q ne = at_test (same p q) refl
  where
    at_test : (b : Bool) → same p q ≡ b → b ≡ false
    at_test true e = absurd (ne (same_is p q e))
    at_test false e = refl

pub same_or_not : (p q : Spot) → (p ≡ q) ⊎ (p ≢ q)
same_or_not p q = at_test (same p q) refl
  where
    at_test : (b : Bool) → same p q ≡ b → (p ≡ q) ⊎ (p ≢ q)
    at_test true e = inl (same_is p q e)
    at_test false e = inr (λ h. let t : true ≡ false = sym (same_self q) ∙ ap (λ x. same x q) (sym h) ∙ e in cc)

-- either b, or the rest
pub or_else : (b c : Bool) → cond b true c ≡ false → (b ≡ false) × (c ≡ false)
or_else true c e = cc
or_else false c e = (refl, e)

or_rest : (b c : Bool) → c ≡ true → cond b true c ≡ true
or_rest true c e = refl
or_rest false c e = e

not_both : {A : Type 0} (b : Bool) → b ≡ true → b ≡ false → A
not_both true t f = cc
not_both false t f = cc

-- a spot where no move ends keeps what it has
pub source_free : (ms : List Pending) (p : Spot) → is_end ms p ≡ false → at_once ms p ≡ p
source_free [] p h = refl
source_free (m ∷ ms) p h =
    let e = or_else (same (spot m.to) p) (is_end ms p) h in
    ap (λ b. cond b (from_spot m.from) (at_once ms p)) (apart p (spot m.to) (λ q. not_both (same (spot m.to) p) (ap (same (spot m.to)) q ∙ same_self (spot m.to)) e.0)) ∙ source_free ms p e.1

-- a at_once, or the spot itself
source_is : (ms : List Pending) (p : Spot) → ((at_once ms p ≡ p) × (is_end ms p ≡ false)) ⊎ (is_source ms (at_once ms p) ≡ true)
source_is [] p = inl (refl, refl)
source_is (m ∷ ms) p = at_test (source_is ms p) (same_or_not p (spot m.to))
  where
    at_test : ((at_once ms p ≡ p) × (is_end ms p ≡ false)) ⊎ (is_source ms (at_once ms p) ≡ true) → (p ≡ (spot m.to)) ⊎ (p ≢ (spot m.to)) → ((cond (same p (spot m.to)) (from_spot m.from) (at_once ms p) ≡ p) × (cond (same (spot m.to) p) true (is_end ms p) ≡ false)) ⊎ (is_source (m ∷ ms) (cond (same p (spot m.to)) (from_spot m.from) (at_once ms p)) ≡ true)
    at_test rest (inl e) =
        let here : cond (same p (spot m.to)) (from_spot m.from) (at_once ms p) ≡ (from_spot m.from) = ap (λ b. cond b (from_spot m.from) (at_once ms p)) (ap (λ x. same x (spot m.to)) e ∙ same_self (spot m.to)) in
        inr (ap (is_source (m ∷ ms)) here ∙ ap (λ b. cond b true (is_source ms (from_spot m.from))) (same_self (from_spot m.from)))
    at_test rest (inr ne) =
        let here : cond (same p (spot m.to)) (from_spot m.from) (at_once ms p) ≡ at_once ms p = ap (λ b. cond b (from_spot m.from) (at_once ms p)) (apart p (spot m.to) ne) in
        ⊎_elim (λ h. inl (here ∙ h.0, ap (λ b. cond b true (is_end ms p)) (apart (spot m.to) p (λ q. ne (sym q))) ∙ h.1)) (λ h. inr (ap (is_source (m ∷ ms)) here ∙ or_rest (same (from_spot m.from) (at_once ms p)) (is_source ms (at_once ms p)) h)) rest

-- what picking a move leaves
pub record Splits (all xs : List Pending) (x : Picked) : Type 0 where
  pub free : is_source all (spot x.move.to) ≡ false
  pub size : length xs ≡ suc (length x.rest)
  pub ends : (p : Spot) → is_end xs p ≡ cond (same (spot x.move.to) p) true (is_end x.rest p)
  pub alone : is_end x.rest (spot x.move.to) ≡ false
  pub distinct : AreDistinct x.rest
  pub sources : (p : Spot) → is_source x.rest p ≡ true → is_source xs p ≡ true
  pub source_of : (p : Spot) → at_once xs p ≡ cond (same p (spot x.move.to)) (from_spot x.move.from) (at_once x.rest p)

swap_or : (a b c : Bool) → cond a true (cond b true c) ≡ cond b true (cond a true c)
swap_or true true c = refl
swap_or true false c = refl
swap_or false true c = refl
swap_or false false c = refl

pick_is : (all xs : List Pending) (x : Picked) → AreDistinct xs → pick all xs ≡ Some x → Splits all xs x
pick_is all [] x d e = cc
pick_is all (m ∷ ms) x d e = at_test (is_source all (spot m.to)) refl e (λ y f. pick_is all ms y d.1 f)
  where
    at_rest : (o : Option Picked) → behind m o ≡ Some x → ((y : Picked) → o ≡ Some y → Splits all ms y) → Splits all (m ∷ ms) x
    at_rest None e on = cc
    at_rest (Some y) e on =
        let s = on y refl in
        let is_x : record { move = y.move; rest = m ∷ y.rest } ≡ x = cc in
        let other = or_else (same (spot y.move.to) (spot m.to)) (is_end y.rest (spot m.to)) (sym (s.ends (spot m.to)) ∙ d.0) in
        let ne : (spot m.to) ≢ (spot y.move.to) = λ q. not_both (same (spot y.move.to) (spot m.to)) (ap (same (spot y.move.to)) q ∙ same_self (spot y.move.to)) other.0 in
        subst (Splits all (m ∷ ms)) is_x (record {
          free = s.free;
          size = ap suc s.size;
          ends = λ p. ap (λ b. cond (same (spot m.to) p) true b) (s.ends p) ∙ swap_or (same (spot m.to) p) (same (spot y.move.to) p) (is_end y.rest p);
          alone = ap (λ b. cond b true (is_end y.rest (spot y.move.to))) (apart (spot m.to) (spot y.move.to) ne) ∙ s.alone;
          distinct = (other.1, s.distinct);
          sources = λ p h. at_source p (same (from_spot m.from) p) h (s.sources p);
          source_of = λ p. ap (λ z. cond (same p (spot m.to)) (from_spot m.from) z) (s.source_of p) ∙ swap_source p (same_or_not p (spot m.to)) ne y;
        })
      where
        at_source : (p : Spot) (b : Bool) → cond b true (is_source y.rest p) ≡ true → (is_source y.rest p ≡ true → is_source ms p ≡ true) → cond b true (is_source ms p) ≡ true
        at_source p true h on = refl
        at_source p false h on = on h

        swap_source : (p : Spot) → (p ≡ (spot m.to)) ⊎ (p ≢ (spot m.to)) → (spot m.to) ≢ (spot y.move.to) → (z : Picked) → cond (same p (spot m.to)) (from_spot m.from) (cond (same p (spot y.move.to)) (from_spot y.move.from) (at_once y.rest p)) ≡ cond (same p (spot y.move.to)) (from_spot y.move.from) (cond (same p (spot m.to)) (from_spot m.from) (at_once y.rest p))
        swap_source p (inl q) ne z =
            let a : same p (spot y.move.to) ≡ false = apart p (spot y.move.to) (λ w. ne (sym q ∙ w)) in
            let l : cond (same p (spot m.to)) (from_spot m.from) (cond (same p (spot y.move.to)) (from_spot y.move.from) (at_once y.rest p)) ≡ cond (same p (spot m.to)) (from_spot m.from) (at_once y.rest p) = ap (λ b. cond (same p (spot m.to)) (from_spot m.from) (cond b (from_spot y.move.from) (at_once y.rest p))) a in
            l ∙ ap (λ b. cond b (from_spot y.move.from) (cond (same p (spot m.to)) (from_spot m.from) (at_once y.rest p))) (sym a)
        swap_source p (inr q) ne z =
            let a : same p (spot m.to) ≡ false = apart p (spot m.to) q in
            ap (λ b. cond b (from_spot m.from) (cond (same p (spot y.move.to)) (from_spot y.move.from) (at_once y.rest p))) a ∙ ap (λ b. cond (same p (spot y.move.to)) (from_spot y.move.from) (cond b (from_spot m.from) (at_once y.rest p))) (sym a)

    at_test : (b : Bool) → is_source all (spot m.to) ≡ b → cond b (behind m (pick all ms)) (Some (record { move = m; rest = ms })) ≡ Some x → ((y : Picked) → pick all ms ≡ Some y → Splits all ms y) → Splits all (m ∷ ms) x
    at_test true f e on = at_rest (pick all ms) e on
    at_test false f e on =
        let is_x : record { move = m; rest = ms } ≡ x = cc in
        subst (Splits all (m ∷ ms)) is_x (record { free = f; size = refl; ends = λ p. refl; alone = d.0; distinct = d.1; sources = λ p h. or_rest (same (from_spot m.from) p) (is_source ms p) h; source_of = λ p. refl })

blocked : (all xs : List Pending) → pick all xs ≡ None → (p : Spot) → is_end xs p ≡ true → is_source all p ≡ true
blocked all [] e p h = cc
blocked all (m ∷ ms) e p h = at_test (is_source all (spot m.to)) refl e (same_or_not (spot m.to) p) h (λ f g. blocked all ms f p g)
  where
    none_left : (o : Option Picked) → behind m o ≡ None → o ≡ None
    none_left None e = refl
    none_left (Some y) e = cc

    at_test : (b : Bool) → is_source all (spot m.to) ≡ b → cond b (behind m (pick all ms)) (Some (record { move = m; rest = ms })) ≡ None → ((spot m.to) ≡ p) ⊎ ((spot m.to) ≢ p) → cond (same (spot m.to) p) true (is_end ms p) ≡ true → (pick all ms ≡ None → is_end ms p ≡ true → is_source all p ≡ true) → is_source all p ≡ true
    at_test true f e (inl q) h on = ap (is_source all) (sym q) ∙ f
    at_test true f e (inr ne) h on = on (none_left (pick all ms) e) (ap (λ b. cond b true (is_end ms p)) (sym (apart (spot m.to) p ne)) ∙ h)
    at_test false f e q h on = cc

among : List Spot → Spot → Bool
among [] p = false
among (q ∷ qs) p = cond (same q p) true (among qs p)

others : Spot → List Spot → List Spot
others p [] = []
others p (q ∷ qs) = cond (same q p) (others p qs) (q ∷ others p qs)

others_among : (qs : List Spot) (p r : Spot) → among qs r ≡ true → r ≢ p → among (others p qs) r ≡ true
unfolding among others
others_among [] p r h ne = h
others_among (q ∷ qs) p r h ne = at_test (same_or_not q p) (same_or_not q r) h (λ g. others_among qs p r g ne)
  where
    at_test : (q ≡ p) ⊎ (q ≢ p) → (q ≡ r) ⊎ (q ≢ r) → cond (same q r) true (among qs r) ≡ true → (among qs r ≡ true → among (others p qs) r ≡ true) → among (cond (same q p) (others p qs) (q ∷ others p qs)) r ≡ true
    at_test (inl a) (inl b) h on = absurd (ne (sym b ∙ a))
    at_test (inl a) (inr b) h on = ap (λ c. among (cond c (others p qs) (q ∷ others p qs)) r) (ap (λ x. same x p) a ∙ same_self p) ∙ on (ap (λ c. cond c true (among qs r)) (sym (apart q r b)) ∙ h)
    at_test (inr a) (inl b) h on = ap (λ c. among (cond c (others p qs) (q ∷ others p qs)) r) (apart q p a) ∙ ap (λ c. cond c true (among (others p qs) r)) (ap (λ x. same x r) b ∙ same_self r)
    at_test (inr a) (inr b) h on = ap (λ c. among (cond c (others p qs) (q ∷ others p qs)) r) (apart q p a) ∙ or_rest (same q r) (among (others p qs) r) (on (ap (λ c. cond c true (among qs r)) (sym (apart q r b)) ∙ h))

others_le : (qs : List Spot) (p : Spot) → length (others p qs) ≤ length qs
unfolding among others
others_le [] p = omega arith
others_le (q ∷ qs) p = at_test (same q p) (others_le qs p)
  where
    at_test : (b : Bool) → length (others p qs) ≤ length qs → length (cond b (others p qs) (q ∷ others p qs)) ≤ suc (length qs)
    at_test true l = omega (arith, l)
    at_test false l = omega (arith, l)

others_length : (qs : List Spot) (p : Spot) → among qs p ≡ true → length (others p qs) < length qs
unfolding among others
others_length [] p h = cc
others_length (q ∷ qs) p h = at_test (same q p) h (others_le qs p) (others_length qs p)
  where
    at_test : (b : Bool) → cond b true (among qs p) ≡ true → length (others p qs) ≤ length qs → (among qs p ≡ true → length (others p qs) < length qs) → length (cond b (others p qs) (q ∷ others p qs)) < suc (length qs)
    at_test true h l on = omega (arith, l)
    at_test false h l on = let m = on h in omega (arith, m)

-- distinct ends that are all among some spots are no more than those
pigeons : (xs : List Pending) (qs : List Spot) → AreDistinct xs → ((p : Spot) → is_end xs p ≡ true → among qs p ≡ true) → length xs ≤ length qs
pigeons [] qs d all = omega arith
pigeons (m ∷ ms) qs d all =
    let here = all (spot m.to) (ap (λ b. cond b true (is_end ms (spot m.to))) (same_self (spot m.to))) in
    let less = others_length qs (spot m.to) here in
    let rest = pigeons ms (others (spot m.to) qs) d.1 (λ p h. others_among qs (spot m.to) p (all p (or_rest (same (spot m.to) p) (is_end ms p) h)) (λ e. not_both (is_end ms (spot m.to)) (ap (is_end ms) (sym e) ∙ h) d.0)) in
    omega (arith, less, rest)

froms : List Pending → List Spot
froms [] = []
froms (m ∷ ms) = (from_spot m.from) ∷ froms ms

froms_among : (ms : List Pending) (p : Spot) → is_source ms p ≡ true → among (froms ms) p ≡ true
unfolding among froms
froms_among [] p h = h
froms_among (m ∷ ms) p h = at_test (same (from_spot m.from) p) h (froms_among ms p)
  where
    at_test : (b : Bool) → cond b true (is_source ms p) ≡ true → (is_source ms p ≡ true → among (froms ms) p ≡ true) → cond b true (among (froms ms) p) ≡ true
    at_test true h on = refl
    at_test false h on = on h

froms_length : (ms : List Pending) → length (froms ms) ≡ length ms
unfolding froms
froms_length [] = refl
froms_length (m ∷ ms) = ap suc (froms_length ms)

-- where all moves are blocked, X16 is no at_once
saved_unused : (ms : List Pending) → AreDistinct ms → is_end ms saved ≡ false → pick ms ms ≡ None → is_source ms saved ≡ false
saved_unused ms d f e = at_test (is_source ms saved) refl
  where
    at_test : (b : Bool) → is_source ms saved ≡ b → b ≡ false
    at_test false h = refl
    at_test true h =
        let less = others_length (froms ms) saved (froms_among ms saved h) in
        let size = froms_length ms in
        let most = pigeons ms (others saved (froms ms)) d (λ p g. others_among (froms ms) saved p (froms_among ms p (blocked ms ms e p g)) (λ q. not_both (is_end ms saved) (ap (is_end ms) (sym q) ∙ g) f)) in
        absurd (omega (arith, less, size, most))

instead_end : (d : Place) (ms : List Pending) (p : Spot) → is_end (map (instead d) ms) p ≡ is_end ms p
instead_end d [] p = refl
instead_end d (m ∷ ms) p = ap (λ b. cond (same (spot m.to) p) true b) (instead_end d ms p)

instead_distinct : (d : Place) (ms : List Pending) → AreDistinct ms → AreDistinct (map (instead d) ms)
instead_distinct d [] h = tt
instead_distinct d (m ∷ ms) h = (instead_end d ms (spot m.to) ∙ h.0, instead_distinct d ms h.1)

instead_source : (d : Place) (ms : List Pending) (p : Spot) → at_once (map (instead d) ms) p ≡ cond (is_end ms p) (cond (same (at_once ms p) (spot d)) saved (at_once ms p)) p
instead_source d [] p = refl
instead_source d (m ∷ ms) p = at_test (same_or_not p (spot m.to)) (instead_source d ms p)
  where
    now : Spot
    now = from_spot (cond (same (from_spot m.from) (spot d)) None m.from)

    at_test : (p ≡ spot m.to) ⊎ (p ≢ spot m.to) → at_once (map (instead d) ms) p ≡ cond (is_end ms p) (cond (same (at_once ms p) (spot d)) saved (at_once ms p)) p → cond (same p (spot m.to)) (from_spot (cond (same (from_spot m.from) (spot d)) None m.from)) (at_once (map (instead d) ms) p) ≡ cond (cond (same (spot m.to) p) true (is_end ms p)) (cond (same (cond (same p (spot m.to)) (from_spot m.from) (at_once ms p)) (spot d)) saved (cond (same p (spot m.to)) (from_spot m.from) (at_once ms p))) p
    at_test (inl q) rest =
        let a : same p (spot m.to) ≡ true = ap (λ x. same x (spot m.to)) q ∙ same_self (spot m.to) in
        let b : same (spot m.to) p ≡ true = ap (same (spot m.to)) q ∙ same_self (spot m.to) in
        ap (λ x. cond x (from_spot (cond (same (from_spot m.from) (spot d)) None m.from)) (at_once (map (instead d) ms) p)) a ∙ saved_spot (same (from_spot m.from) (spot d)) m.from
        ∙ sym (ap₂ (λ x y. cond (cond x true (is_end ms p)) (cond (same (cond y (from_spot m.from) (at_once ms p)) (spot d)) saved (cond y (from_spot m.from) (at_once ms p))) p) b a)
    at_test (inr ne) rest =
        let a : same p (spot m.to) ≡ false = apart p (spot m.to) ne in
        let b : same (spot m.to) p ≡ false = apart (spot m.to) p (λ q. ne (sym q)) in
        ap (λ x. cond x (from_spot (cond (same (from_spot m.from) (spot d)) None m.from)) (at_once (map (instead d) ms) p)) a ∙ rest
        ∙ sym (ap₂ (λ x y. cond (cond x true (is_end ms p)) (cond (same (cond y (from_spot m.from) (at_once ms p)) (spot d)) saved (cond y (from_spot m.from) (at_once ms p))) p) b a)

-- one made
made : (all : List Pending) (x : Picked) (p : Spot) → Splits all all x → cond (same (at_once x.rest p) (spot x.move.to)) (from_spot x.move.from) (at_once x.rest p) ≡ at_once all p
made all x p s = at_test (same_or_not p (spot x.move.to))
  where
    not_there : p ≢ spot x.move.to → at_once x.rest p ≢ spot x.move.to
    not_there ne e = ⊎_elim (λ h. ne (sym h.0 ∙ e)) (λ h. not_both (is_source all (spot x.move.to)) (s.sources (spot x.move.to) (ap (is_source x.rest) (sym e) ∙ h)) s.free) (source_is x.rest p)

    at_test : (p ≡ spot x.move.to) ⊎ (p ≢ spot x.move.to) → cond (same (at_once x.rest p) (spot x.move.to)) (from_spot x.move.from) (at_once x.rest p) ≡ at_once all p
    at_test (inl q) =
        let stays : at_once x.rest p ≡ p = source_free x.rest p (ap (is_end x.rest) q ∙ s.alone) in
        let a : same p (spot x.move.to) ≡ true = ap (λ z. same z (spot x.move.to)) q ∙ same_self (spot x.move.to) in
        ap (λ z. cond (same z (spot x.move.to)) (from_spot x.move.from) z) stays ∙ ap (λ b. cond b (from_spot x.move.from) p) a ∙ sym (ap (λ b. cond b (from_spot x.move.from) (at_once x.rest p)) a) ∙ sym (s.source_of p)
    at_test (inr ne) =
        ap (λ b. cond b (from_spot x.move.from) (at_once x.rest p)) (apart (at_once x.rest p) (spot x.move.to) (not_there ne)) ∙ sym (ap (λ b. cond b (from_spot x.move.from) (at_once x.rest p)) (apart p (spot x.move.to) ne)) ∙ sym (s.source_of p)

-- a move whose destination was saved, and that is made then
abbrev taken : Pending → Spot → Spot
taken m q = cond (same q (spot m.to)) (cond (same (from_spot m.from) (spot m.to)) saved (from_spot m.from)) q

abbrev behind_saving : Pending → Spot → Spot
behind_saving m q = cond (same (taken m q) saved) (spot m.to) (taken m q)

stays_behind : (m : Pending) (q : Spot) → q ≢ spot m.to → q ≢ saved → behind_saving m q ≡ q
stays_behind m q ne nf =
    let a = apart q (spot m.to) ne in
    let old : Spot = cond (same (from_spot m.from) (spot m.to)) saved (from_spot m.from) in
    ap (λ b. cond (same (cond b old q) saved) (spot m.to) (cond b old q)) a ∙ ap (λ b. cond b (spot m.to) q) (apart q saved nf)

-- q is what stands there once the others are made
after_saving : (m : Pending) (ms : List Pending) (p : Spot) → AreDistinct (m ∷ ms) → is_source (m ∷ ms) saved ≡ false → p ≢ saved → (q : Spot) → q ≡ at_once (map (instead m.to) ms) p → behind_saving m q ≡ at_once (m ∷ ms) p
after_saving m ms p d no_source nf q is = at_end (same_or_not p (spot m.to))
  where
    to_apart : saved ≢ spot m.to
    to_apart e = not_both (same (spot m.to) saved) (ap (same (spot m.to)) e ∙ same_self (spot m.to)) (is_place m.to)

    from_apart : same (from_spot m.from) saved ≡ false
    from_apart = (or_else (same (from_spot m.from) saved) (is_source ms saved) no_source).0

    to_saved : behind_saving m saved ≡ spot m.to
    to_saved =
        let old : Spot = cond (same (from_spot m.from) (spot m.to)) saved (from_spot m.from) in
        ap (λ b. cond (same (cond b old saved) saved) (spot m.to) (cond b old saved)) (apart saved (spot m.to) to_apart)

    to_from : behind_saving m (spot m.to) ≡ from_spot m.from
    to_from =
        let old : Spot = cond (same (from_spot m.from) (spot m.to)) saved (from_spot m.from) in
        ap (λ b. cond (same (cond b old (spot m.to)) saved) (spot m.to) (cond b old (spot m.to))) (same_self (spot m.to)) ∙ at_from (same (from_spot m.from) (spot m.to)) refl
      where
        at_from : (b : Bool) → same (from_spot m.from) (spot m.to) ≡ b → cond (same (cond b saved (from_spot m.from)) saved) (spot m.to) (cond b saved (from_spot m.from)) ≡ from_spot m.from
        at_from true e = sym (same_is (from_spot m.from) (spot m.to) e)
        at_from false e = ap (λ b. cond b (spot m.to) (from_spot m.from)) from_apart

    elsewhere : (b : Bool) → is_end ms p ≡ b → p ≢ spot m.to → (at_once ms p ≡ spot m.to) ⊎ (at_once ms p ≢ spot m.to) → q ≡ cond b (cond (same (at_once ms p) (spot m.to)) saved (at_once ms p)) p → behind_saving m q ≡ at_once ms p
    elsewhere false e ne t is = ap (behind_saving m) is ∙ stays_behind m p ne nf ∙ sym (source_free ms p e)
    elsewhere true e ne (inl t) is = ap (behind_saving m) (is ∙ ap (λ b. cond b saved (at_once ms p)) (ap (λ x. same x (spot m.to)) t ∙ same_self (spot m.to))) ∙ to_saved ∙ sym t
    elsewhere true e ne (inr t) is =
        let used : is_source ms (at_once ms p) ≡ true = ⊎_elim (λ h. not_both (is_end ms p) e h.1) (λ h. h) (source_is ms p) in
        let off : at_once ms p ≢ saved = λ w. not_both (is_source ms saved) (ap (is_source ms) (sym w) ∙ used) (or_else (same (from_spot m.from) saved) (is_source ms saved) no_source).1 in
        ap (behind_saving m) (is ∙ ap (λ b. cond b saved (at_once ms p)) (apart (at_once ms p) (spot m.to) t)) ∙ stays_behind m (at_once ms p) t off

    at_end : (p ≡ spot m.to) ⊎ (p ≢ spot m.to) → behind_saving m q ≡ cond (same p (spot m.to)) (from_spot m.from) (at_once ms p)
    at_end (inl e) =
        let free : at_once (map (instead m.to) ms) p ≡ p = source_free (map (instead m.to) ms) p (instead_end m.to ms p ∙ ap (is_end ms) e ∙ d.0) in
        ap (behind_saving m) (is ∙ free ∙ e) ∙ to_from ∙ sym (ap (λ b. cond b (from_spot m.from) (at_once ms p)) (ap (λ x. same x (spot m.to)) e ∙ same_self (spot m.to)))
    at_end (inr ne) = elsewhere (is_end ms p) refl ne (same_or_not (at_once ms p) (spot m.to)) (is ∙ instead_source m.to ms p) ∙ sym (ap (λ b. cond b (from_spot m.from) (at_once ms p)) (apart p (spot m.to) ne))

---- Once X16 stands in, the first move can be made

no_reader : (d : Place) (ms : List Pending) → is_source (map (instead d) ms) (spot d) ≡ false
no_reader d [] = refl
no_reader d (m ∷ ms) = at_test (same (from_spot m.from) (spot d)) refl (no_reader d ms)
  where
    at_test : (b : Bool) → same (from_spot m.from) (spot d) ≡ b → is_source (map (instead d) ms) (spot d) ≡ false → cond (same (from_spot (cond b None m.from)) (spot d)) true (is_source (map (instead d) ms) (spot d)) ≡ false
    at_test true e rest = ap (λ b. cond b true (is_source (map (instead d) ms) (spot d))) (from_place d) ∙ rest
    at_test false e rest = ap (λ b. cond b true (is_source (map (instead d) ms) (spot d))) e ∙ rest

pub first_then : (m : Pending) (ms : List Pending) → pick (map (instead m.to) (m ∷ ms)) (map (instead m.to) (m ∷ ms)) ≡ Some (record { move = instead m.to m; rest = map (instead m.to) ms })
first_then m ms = ap (λ b. cond b (behind (instead m.to m) (pick (map (instead m.to) (m ∷ ms)) (map (instead m.to) ms))) (Some (record { move = instead m.to m; rest = map (instead m.to) ms }))) (no_reader m.to (m ∷ ms))

made_then : (m : Pending) (q : Spot) → step_source (Save m.to) (step_source (step_of (instead m.to m)) q) ≡ behind_saving m q
made_then m q =
    ap (λ x. cond (same x saved) (spot m.to) x) (step_is (instead m.to m) q ∙ ap (λ x. cond (same q (spot m.to)) x q) (saved_spot (same (from_spot m.from) (spot m.to)) m.from))

---- The sequence leaves in each spot but X16 what all moves at once leave there

pub order_right : (n : ℕ) (ms : List Pending) → length ms ≡ n → AreDistinct ms → (p : Spot) → p ≢ saved → steps_source (ordered n ms) p ≡ at_once ms p
order_right zero [] size d p nf = refl
order_right zero (m ∷ ms) size d p nf = absurd (omega (arith, size))
order_right (suc n) [] size d p nf = refl
order_right (suc n) (m ∷ ms) size d p nf = at_pick (pick (m ∷ ms) (m ∷ ms)) refl (λ xs a b. order_right n xs a b p nf)
  where
    at_pick : (o : Option Picked) → pick (m ∷ ms) (m ∷ ms) ≡ o → ((xs : List Pending) → length xs ≡ n → AreDistinct xs → steps_source (ordered n xs) p ≡ at_once xs p) → steps_source (round o m ms (ordered n)) p ≡ at_once (m ∷ ms) p
    at_pick (Some x) e on =
        let s = pick_is (m ∷ ms) (m ∷ ms) x d e in
        let less = s.size in
        let rest = on x.rest (omega (arith, size, less)) s.distinct in
        step_is x.move (steps_source (ordered n x.rest) p) ∙ ap (λ q. cond (same q (spot x.move.to)) (from_spot x.move.from) q) rest ∙ made (m ∷ ms) x p s
    at_pick None e on =
        let few = length-map ms (instead m.to) in
        let rest = on (map (instead m.to) ms) (omega (arith, size, few)) (instead_distinct m.to ms d.1) in
        ap (λ o. step_source (Save m.to) (steps_source (make o (ordered n)) p)) (first_then m ms)
        ∙ made_then m (steps_source (ordered n (map (instead m.to) ms)) p)
        ∙ after_saving m ms p d (saved_unused (m ∷ ms) d (no_end (m ∷ ms)) e) nf (steps_source (ordered n (map (instead m.to) ms)) p) rest
