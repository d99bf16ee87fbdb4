-- The tests of CASE, one after the other.
use Rattle.std.proofs.Common.{◌≡◌, ℕ, suc, ◌+◌, ◌-◌, ◌<◌, ◌≤◌, ◌≢◌, map, drop, length, get_or, List, [], ◌∷◌, ◌++◌, None, refl, sym, ap, ap₂, ◌∙◌, subst, arith}
use Rattle.std.proofs.lemmas.List.{drop_more, length-drop}
use Rattle.std.proofs.Math.ListN.{drop_of_length-le}
use Rattle.block_runs.specs.declared.end.End.TheVariants.{Jump}
use Rattle.ssa_lowered.specs.Pieces.{Cursor}
use Rattle.ssa_lowered.specs.Limits.{passed}
use Rattle.ssa_lowered.specs.Control.{Fork, Rung, Ladder, ladder}
use Rattle.ssa_exprs.specs.Making.{View, all_bare, resolved, Fits, later, cursor_at, Came, asked, bound, closed, Tests}
use Rattle.ssa_exprs.proofs.Giving.{later_first, passed_on, limit_on, came_as}
use Rattle.ssa_exprs.proofs.Forks.{Adding, adding_on, adding_closed, at_plain, fits_bound, place_bound, times_bound, given_more}
use Rattle.ssa_statements.specs.Cases.{as_ladder, Climbs, Climbing, above}

-- no test: the block ends, and the one without a match begins
pub climbs_none : (v : View) (last : ℕ) (labels : ℕ → ℕ) → Climbs v (bound (closed (asked v) (Jump v.labels []) 0 last None) v.labels) last labels []
climbs_none v last labels =
    let u = closed (asked v) (Jump v.labels []) 0 last None in
    record {
      follows = record {
        fits = λ place i. fits_bound u v.labels place i;
        limit = λ place i op seen. refl;
        by = λ h place i op seen.
            let at = at_plain (asked v) (Jump v.labels []) last None 0 seen h in
            let to_is = place_bound u v.labels place i ∙ ap (λ (c : Cursor). c.block) at in
            record {
              adds = (adding_closed (asked v) (Jump v.labels []) 0 last None place (Jump (suc v.block) []) (cursor_at v op seen) seen h (ap (λ n. Jump n []) to_is)).is;
              after = sym at;
              result = refl;
            };
      };
      once = record { by = λ t. let b = times_bound u v.labels t in let e = given_more v.labels t in omega (arith, b, e) };
      blind = λ c a b. refl;
      freq = refl;
      known = refl;
    }

-- the last test
pub climbs_last : {v u : View} {last : ℕ} (labels : ℕ → ℕ) (r : Rung) → Tests (asked v) u r.test (labels r.part) v.labels last → Climbs v (bound u v.labels) last labels (r ∷ [])
climbs_last {v = v} {u = u} {last = last} labels r x = record {
  follows = record {
    fits = λ place i. x.follows.fits place (fits_bound u v.labels place i);
    limit = λ place i op seen.
        let k = r.test (cursor_at v op seen) in
        x.follows.limit place (fits_bound u v.labels place i) op seen
        ∙ ap (λ o. later v.over o) (x.blind.by (cursor_at v op seen) (place (labels r.part)) (place v.labels) last (place (labels r.part)) k.after.block last);
    by = λ h place i op seen.
        let k = r.test (cursor_at v op seen) in
        let one = x.follows.by h place (fits_bound u v.labels place i) op seen in
        let to_is : place v.labels ≡ k.after.block = place_bound u v.labels place i ∙ sym (ap (λ (c : Cursor). c.block) one.after) in
        record {
          adds = one.adds ∙ ap (λ n. resolved place v.made ++ all_bare (k.pieces (place (labels r.part)) n last)) to_is;
          after = one.after;
          result = refl;
        };
  };
  once = record { by = λ t. let o = x.once.by t in let b = times_bound u v.labels t in let e = given_more v.labels t in omega (arith, o, b, e) };
  blind = λ c a b. x.blind.by c (a r.part) (r.test c).after.block last (b r.part) (r.test c).after.block last;
  freq = x.freq;
  known = x.known;
}

-- a test before others
module _ {v u w : View} {last : ℕ} (labels : ℕ → ℕ) (r s : Rung) (rs : List Rung) (x : Tests (asked v) u r.test (labels r.part) v.labels v.freq) (y : Climbs (bound u v.labels) w last labels (s ∷ rs)) where
  abbrev one_at : ℕ → List ℕ → Fork
  one_at op seen = r.test (cursor_at v op seen)

  abbrev rest_at : Cursor → Ladder
  rest_at c = ladder last (s ∷ rs) c

  fits_before : (place : ℕ → ℕ) → Fits place w.bounds → Fits place u.bounds
  fits_before place i = fits_bound u v.labels place (y.follows.fits place i)

  over_before : w.over ≡ None → (place : ℕ → ℕ) → Fits place w.bounds → u.over ≡ None
  over_before h place i = later_first u.over _ (sym (y.follows.limit place i 0 []) ∙ h)

  behind_one : u.over ≡ None → (place : ℕ → ℕ) → Fits place w.bounds → (op : ℕ) (seen : List ℕ) → (one_at op seen).after ≡ cursor_at (bound u v.labels) (one_at op seen).after.op (one_at op seen).after.seen
  behind_one h place i op seen =
      ap (λ n. record (one_at op seen).after { freq = n }) (x.same h place (fits_before place i) op seen)
      ∙ (x.follows.by h place (fits_before place i) op seen).after

  to_next : w.over ≡ None → (place : ℕ → ℕ) → Fits place w.bounds → (op : ℕ) (seen : List ℕ) → place v.labels ≡ (one_at op seen).after.block
  to_next h place i op seen = place_bound u v.labels place (y.follows.fits place i) ∙ sym (ap (λ (z : Cursor). z.block) (behind_one (over_before h place i) place i op seen))

  rest_came : w.over ≡ None → (place : ℕ → ℕ) → Fits place w.bounds → (op : ℕ) (seen : List ℕ) → Came (bound u v.labels) w place (as_ladder (s ∷ rs) last (λ i. place (labels i)) (one_at op seen).after) tt
  rest_came h place i op seen =
      came_as (ap (as_ladder (s ∷ rs) last (λ i. place (labels i))) (behind_one (over_before h place i) place i op seen)) (y.follows.by h place i (one_at op seen).after.op (one_at op seen).after.seen)

  pub climbs_more : Climbs v w last labels (r ∷ s ∷ rs)
  climbs_more = record {
    follows = record {
      fits = λ place i. x.follows.fits place (fits_before place i);
      limit = λ place i op seen.
          let k = one_at op seen in
          let to : ℕ → ℕ = λ n. place (labels n) in
          limit_on v.over (passed (k.pieces (place (labels r.part)) (place v.labels) v.freq)) (passed ((rest_at k.after).pieces to)) (x.follows.limit place (fits_before place i) op seen) (y.follows.limit place i k.after.op k.after.seen)
          (λ h. ap (λ z. passed ((rest_at z).pieces to)) (behind_one h place i op seen))
          ∙ ap (λ o. later v.over o) (ap (λ o. later o (passed ((rest_at k.after).pieces to))) (x.blind.by (cursor_at v op seen) (place (labels r.part)) (place v.labels) v.freq (place (labels r.part)) k.after.block v.freq)
          ∙ sym (passed_on (k.pieces (place (labels r.part)) k.after.block v.freq) ((rest_at k.after).pieces to)));
      by = λ h place i op seen.
          let k = one_at op seen in
          let to : ℕ → ℕ = λ n. place (labels n) in
          let first : Adding v u place (k.pieces (place (labels r.part)) (place v.labels) v.freq) = record { is = (x.follows.by (over_before h place i) place (fits_before place i) op seen).adds } in
          let others : Adding u w place ((rest_at k.after).pieces to) = record { is = (rest_came h place i op seen).adds } in
          record {
            adds = (adding_on first others).is ∙ ap (λ n. resolved place v.made ++ all_bare (k.pieces (place (labels r.part)) n v.freq ++ (rest_at k.after).pieces to)) (to_next h place i op seen);
            after = (rest_came h place i op seen).after;
            result = refl;
          };
    };
    once = record { by = λ t. let a = x.once.by t in let b = y.once.by t in let e = times_bound u v.labels t in let g = given_more v.labels t in omega (arith, a, b, e, g) };
    blind = λ c a b.
        let k = r.test c in
        passed_on (k.pieces (a r.part) k.after.block c.freq) ((rest_at k.after).pieces a)
        ∙ ap₂ later (x.blind.by c (a r.part) k.after.block c.freq (b r.part) k.after.block c.freq) (y.blind k.after a b)
        ∙ sym (passed_on (k.pieces (b r.part) k.after.block c.freq) ((rest_at k.after).pieces b));
    freq = y.freq;
    known = y.known ∙ x.known;
  }

-- a test, and those that are left
pub climbing_more : {v u w : View} {last next : ℕ} (labels : ℕ → ℕ) (r : Rung) (rs : List Rung) → Tests (asked v) u r.test (labels r.part) v.labels next → next ≡ above rs v.freq last → Climbing (bound u v.labels) w last labels rs
    → Climbs v w last labels (r ∷ rs)
climbing_more {v = v} {u = u} {w = w} {last = last} labels r [] x e y = subst (λ z. Climbs v z last labels (r ∷ [])) (sym y) (climbs_last labels r (subst (λ n. Tests (asked v) u r.test (labels r.part) v.labels n) e x))
climbing_more {v = v} {u = u} {w = w} {last = last} labels r (s ∷ rs) x e y = climbs_more labels r s rs (subst (λ n. Tests (asked v) u r.test (labels r.part) v.labels n) e x) y

---- A list of tests, one more of which is made

-- the tests that are left behind one
pub above_is : {A : Type 0} (f : A → Rung) (xs : List A) (next inside last : ℕ) → (0 < length xs → next ≡ inside) → (length xs ≤ 0 → next ≡ last) → next ≡ above (map f xs) inside last
above_is f [] next inside last more none = none (omega arith)
above_is f (x ∷ xs) next inside last more none = more (omega arith)

pub climbing_next : {A : Type 0} {v u : View} {last next : ℕ} (z : View) (labels : ℕ → ℕ) (f : A → Rung) (all : List A) (i : ℕ) (d : A) → i < length all → Tests (asked v) u (f (get_or all i d)).test (labels (f (get_or all i d)).part) v.labels next
    → (i + 1 < length all → next ≡ v.freq) → (length all ≤ i + 1 → next ≡ last) → Climbing (bound u v.labels) z last labels (map f (drop (i + 1) all)) → Climbing v z last labels (map f (drop i all))
climbing_next {v = v} {u = u} {last = last} {next = next} z labels f all i d lt x more none y =
    let left : length (drop (i + 1) all) ≡ length all - (i + 1) = length-drop (i + 1) all in
    subst (λ l. Climbing v z last labels (map f l)) (sym (drop_more all i d lt))
    (climbing_more labels (f (get_or all i d)) (map f (drop (i + 1) all)) x (above_is f (drop (i + 1) all) next v.freq last (λ h. more (omega (arith, left, h))) (λ h. none (omega (arith, left, h)))) y)

pub climbs_all : {A : Type 0} {v z : View} {last : ℕ} (labels : ℕ → ℕ) (f : A → Rung) (all : List A) → length all ≢ 0 → Climbing v z last labels (map f all) → Climbs v z last labels (map f all)
climbs_all labels f [] some x = absurd (some refl)
climbs_all labels f (r ∷ rs) some x = x

pub climbing_end : {A : Type 0} (v : View) (last : ℕ) (labels : ℕ → ℕ) (f : A → Rung) (all : List A) (i : ℕ) → length all ≤ i → Climbing v v last labels (map f (drop i all))
climbing_end v last labels f all i le = subst (λ l. Climbing v v last labels (map f l)) (sym (drop_of_length-le all le)) refl

pub climbs_bare : {A : Type 0} {v w : View} {last : ℕ} (labels : ℕ → ℕ) (f : A → Rung) (all : List A) → length all ≡ 0 → w ≡ bound (closed (asked v) (Jump v.labels []) 0 last None) v.labels → Climbs v w last labels (map f all)
climbs_bare {v = v} {w = w} {last = last} labels f [] none e = subst (λ z. Climbs v z last labels []) (sym e) (climbs_none v last labels)
climbs_bare labels f (r ∷ rs) none e = absurd (omega (arith, none))
