-- What an upper system keeps, a lower one that carries it out keeps too.
use Rattle.std.proofs.Common.{◌≡◌, ℕ, zero, suc, ◌+◌, ◌*◌, ◌≤◌, List, [], ◌∷◌, ◌++◌, length, refl, sym, ap, subst, arith}
use Rattle.std.specs.Prelude.{flat_map}
use Rattle.run_laws.specs.Runs.{Outcome, Ended, Trapped, Going, Step, Moves, Ends, Traps, weigh, Within, System, Walk, Passes, Halts, Keeps, Counterpart, InStep, run, turns_a_step}
use Rattle.run_laws.specs.Layers.{CarriesMove, CarriesHalt, CarriesStep, CarriesBy, Carries, Through}
use Rattle.run_laws.proofs.Weights.{append-nil, weigh-append, weigh-flat_map, weigh-below}
use Rattle.run_laws.proofs.Walks.{Walk-append}
use Rattle.run_laws.proofs.Agreement.{in_step}

module _ {S T P A B Q : Type 0} (x : System S T P) (y : System A B Q) (least : P → ℕ) (fewest : Q → ℕ) (words : P → List Q) (similar : S → A → Type 0) (same : T → B → Type 0) (c : CarriesBy x y least fewest words similar same) where
  carried : (s : S) (a : A) (step : Step S T) → similar s a → x.step s ≡ step → CarriesStep y least fewest words similar same (x.at s) a step
  carried s a step sim e = subst (CarriesStep y least fewest words similar same (x.at s) a) e (c.each s a sim)

  -- a walk of the upper system is one of the lower
  pub Walk-down : (ps : List P) (s t : S) (w : List ℕ) (a : A) → similar s a → Walk x s ps w t → CarriesMove y fewest (flat_map words ps) (weigh least ps) a w (similar t)
  Walk-down [] s t w a sim h = record { after = a; passed = []; walk = (refl, h.1); similar = subst (λ z. similar z a) (sym h.0) sim; within = λ k. omega arith; enough = omega arith }
  Walk-down (p ∷ ps) s t w a sim h =
      let one = carried s a (Moves h.now h.after) sim h.moves in
      let more = Walk-down ps h.after t h.later one.after one.similar h.more in
      let few = one.enough in let few' = more.enough in
      let e = ap least h.here in
      let n = weigh-append fewest one.passed more.passed in
      record {
        after = more.after;
        passed = one.passed ++ more.passed;
        walk = subst (λ z. Walk y a (one.passed ++ more.passed) z more.after) (sym h.wrote) (Walk-append y one.passed more.passed a one.after more.after h.now h.later one.walk more.walk);
        similar = more.similar;
        within = λ k. let p1 = one.within k in let p2 = more.within k in let q = ap (λ z. weigh k (words z)) h.here in omega (arith, p1, p2, q, weigh-append k one.passed more.passed, weigh-append k (words p) (flat_map words ps));
        enough = omega (arith, few, few', e, n);
      }

  module _ (all : List P) (places : List Q) (fits : Within places (flat_map words all)) where
    within_down : (ps : List P) (qs : List Q) → Within all ps → Within (flat_map words ps) qs → Within places qs
    within_down ps qs a b k =
        let e = b k in let f = a (λ p. weigh k (words p)) in let g = fits k in
        omega (arith, e, f, g, weigh-flat_map k words ps, weigh-flat_map k words all)

    -- where the lower system stands behind the stretches of the upper one, and what they weigh there
    pub record PassesDown (k j : ℕ) (t : S) (w : List ℕ) (a : A) : Type 0 where
      pub after : A
      pub weight : ℕ
      pub enough : j ≤ weight
      pub similar_there : similar t after
      pub passes : Passes y fewest places k weight a w after

    -- stretches of the upper system are stretches of the lower
    pub Passes-down : (k j : ℕ) (s t : S) (w : List ℕ) (a : A) → similar s a → Passes x least all k j s w t → PassesDown k j t w a
    Passes-down zero j s t w a sim h = record { after = a; weight = 0; enough = (let z = h.2 in omega (arith, z)); similar_there = subst (λ z. similar z a) (sym h.0) sim; passes = (refl, h.1, refl) }
    Passes-down (suc k) j s t w a sim h =
        let one = Walk-down h.points s h.after h.now a sim h.walk in
        let more = Passes-down k h.rest h.after t h.later one.after one.similar h.more in
        let few = one.enough in let few' = more.enough in let e = h.weight in
        record {
          after = more.after;
          weight = weigh fewest one.passed + more.weight;
          enough = omega (arith, few, few', e);
          similar_there = more.similar_there;
          passes = record {
            points = one.passed;
            after = one.after;
            now = h.now;
            later = h.later;
            rest = more.weight;
            within = within_down h.points one.passed h.within one.within;
            walk = one.walk;
            wrote = h.wrote;
            weight = refl;
            more = more.passes;
          };
        }

    -- the end of a walk, and what halts there
    halts_down : (n : ℕ) (s : S) (w : List ℕ) (a : A) (up : Step S T) (Good : Step A B → Type 0) → similar s a
        → ((u : S) (d : A) → similar u d → x.step u ≡ up → (down : Step A B) × Good down × CarriesHalt y (words (x.at u)) d down)
        → Halts x least all n s w up → (down : Step A B) × Good down × Halts y fewest places n a w down
    halts_down n s w a up Good sim close h =
        let r = Passes-down h.moments h.weight s h.mid h.before a sim h.passes in
        let v = Walk-down h.points h.mid h.stop h.last r.after r.similar_there h.walk in
        let z = close h.stop v.after v.similar h.halts in
        let halt = z.2 in (
          z.0,
          z.1,
          record {
            moments = h.moments;
            weight = r.weight;
            mid = r.after;
            points = v.passed ++ halt.passed;
            stop = halt.stop;
            before = h.before;
            last = h.last;
            most = h.most;
            passes = r.passes;
            within = λ g. let p1 = v.within g in let p2 = halt.within g in let p3 = h.within (λ p. weigh g (words p)) in let p4 = fits g in
                omega (arith, p1, p2, p3, p4, weigh-append g v.passed halt.passed, weigh-append g (v.passed ++ halt.passed) (y.at halt.stop ∷ []), weigh-append g halt.passed (y.at halt.stop ∷ []), weigh-append (λ p. weigh g (words p)) h.points (x.at h.stop ∷ []), weigh-flat_map g words h.points, weigh-flat_map g words all);
            walk = subst (λ q. Walk y r.after (v.passed ++ halt.passed) q halt.stop) (append-nil h.last) (Walk-append y v.passed halt.passed r.after v.after halt.stop h.last [] v.walk halt.walk);
            halts = halt.halts;
            wrote = h.wrote;
          },
        )

    -- what an upper system keeps, whatever it takes for the same trap, the lower one keeps
    pub Keeps-down : {U : Type 0} (before : U → T → Type 0) (n : ℕ) (o : Outcome U) (s : S) (a : A) → similar s a → Keeps x least all before s n o → Keeps y fewest places (Through before same) a n o
    Keeps-down before n (Ended out) s a sim h =
        let r = halts_down n s out a Ends (λ d. d ≡ Ends) sim (λ u d g e. (Ends, refl, carried u d Ends g e)) h in
        subst (Halts y fewest places n a out) r.1 r.2
    Keeps-down before n (Trapped trap out) s a sim h =
        let r = halts_down n s out a (Traps h.0) (λ d. (mine : B) × same h.0 mine × (d ≡ Traps mine)) sim (λ u d g e. let z = carried u d (Traps h.0) g e in (Traps z.0, (z.0, z.1, refl), z.2)) h.2 in
        (r.1.0, (h.0, h.1, r.1.1), subst (Halts y fewest places n a out) r.1.2 r.2)
    Keeps-down before n (Going out) s a sim h =
        let r = Passes-down (suc n) h.weight s h.after out a sim h.passes in
        let few = h.pace in let few' = r.enough in
        record { after = r.after; weight = r.weight; pace = omega (arith, few, few'); passes = r.passes }

-- the same traps under another relation
pub Keeps-same : {S T P U : Type 0} (y : System S T P) (least : P → ℕ) (all : List P) (one two : U → T → Type 0) → ((u : U) (t : T) → one u t → two u t) → (s : S) (n : ℕ) (o : Outcome U) → Keeps y least all one s n o → Keeps y least all two s n o
Keeps-same y least all one two more s n (Ended out) h = h
Keeps-same y least all one two more s n (Trapped trap out) h = (h.0, more trap h.0 h.1, h.2)
Keeps-same y least all one two more s n (Going out) h = h

-- a point may be weighed as more
Passes-least : {S T P : Type 0} (y : System S T P) (least more : P → ℕ) (le : (p : P) → least p ≤ more p) (all : List P) (k j : ℕ) (s : S) (w : List ℕ) (t : S) → Passes y least all k j s w t → (i : ℕ) × (j ≤ i) × Passes y more all k i s w t
Passes-least y least more le all zero j s w t h = let z = h.2 in (0, omega (arith, z), (h.0, h.1, refl))
Passes-least y least more le all (suc k) j s w t h =
    let r = Passes-least y least more le all k h.rest h.after h.later t h.more in
    let a = r.1 in let e = h.weight in let f = weigh-below least more le h.points in
    (weigh more h.points + r.0, omega (arith, a, e, f), record { points = h.points; after = h.after; now = h.now; later = h.later; rest = r.0; within = h.within; walk = h.walk; wrote = h.wrote; weight = refl; more = r.2 })

Halts-least : {S T P : Type 0} (y : System S T P) (least more : P → ℕ) (le : (p : P) → least p ≤ more p) (all : List P) (n : ℕ) (s : S) (w : List ℕ) (halt : Step S T) → Halts y least all n s w halt → Halts y more all n s w halt
Halts-least y least more le all n s w halt h =
    let r = Passes-least y least more le all h.moments h.weight s h.before h.mid h.passes in
    record { moments = h.moments; weight = r.0; mid = h.mid; points = h.points; stop = h.stop; before = h.before; last = h.last; most = h.most; passes = r.2; within = h.within; walk = h.walk; halts = h.halts; wrote = h.wrote }

-- what is kept with points that may have no step is kept with one step a point
pub Keeps-least : {S T P U : Type 0} (y : System S T P) (least more : P → ℕ) → ((p : P) → least p ≤ more p) → (all : List P) (same : U → T → Type 0) (s : S) (n : ℕ) (o : Outcome U) → Keeps y least all same s n o → Keeps y more all same s n o
Keeps-least y least more le all same s n (Ended out) h = Halts-least y least more le all n s out Ends h
Keeps-least y least more le all same s n (Trapped trap out) h = (h.0, h.1, Halts-least y least more le all n s out (Traps h.0) h.2)
Keeps-least y least more le all same s n (Going out) h =
    let r = Passes-least y least more le all (suc n) h.weight s out h.after h.passes in
    let a = r.1 in let b = h.pace in
    record { after = h.after; weight = r.0; pace = omega (arith, a, b); passes = r.2 }

-- the law `Lowers`
pub keeps_down : {S T P A B Q : Type 0} (x : System S T P) (y : System A B Q) (least : P → ℕ) (words : P → List Q) (all : List P) (places : List Q) (similar : S → A → Type 0) (same : T → B → Type 0) → Carries x y least words similar same → Within places (flat_map words all) → (n : ℕ) (o : Outcome T) (s : S) (a : A) → similar s a → Keeps x least all (λ u v. u ≡ v) s n o → Keeps y (λ q. 1) places same a n o
keeps_down {S} {T} {P} {A} {B} {Q} x y least words all places similar same c fits n o s a sim keeps =
    Keeps-same y (λ q. 1) places (Through (λ (u v : T). u ≡ v) same) same (λ u b r. subst (λ t. same t b) (sym r.1) r.2) a n o
    (Keeps-down x y least (λ q. 1) words similar same c all places fits (λ (u v : T). u ≡ v) n o s a sim keeps)

-- from a layer to the theorem: what an upper system keeps for every number of turns, a lower one whose points are its steps is in step with
pub in_step_down : {S T P A B Q U : Type 0} (x : System S T P) (y : System A B Q) (least : P → ℕ) (words : P → List Q) (all : List P) (places : List Q) (similar : S → A → Type 0) (before : U → T → Type 0) (same : T → B → Type 0) → CarriesBy x y least (λ _. 1) words similar same → Within places (flat_map words all) → (s : S) (a : A) → similar s a → (meaning : ℕ → Outcome U) → ((n : ℕ) → Keeps x least all before s n (meaning n)) → InStep y (length places) (Through before same) a meaning
in_step_down x y least words all places similar before same c fits s a sim meaning keeps =
    in_step y places (Through before same) a meaning (λ n. Keeps-down x y least (λ _. 1) words similar same c all places fits before n (meaning n) s a sim (keeps n))

-- the same traps under another relation, for the theorem
pub in_step_same : {S T P U : Type 0} (y : System S T P) (points : ℕ) (one two : U → T → Type 0) → ((u : U) (t : T) → one u t → two u t) → (s : S) (meaning : ℕ → Outcome U) → InStep y points one s meaning → InStep y points two s meaning
in_step_same {S} {T} {P} {U} y points one two more s meaning h = record {
  steps = λ n. again (meaning n) (run y.step ((n + 1) * points) s []) (h.steps n);
  turns = λ m over. let r = h.turns m over in (r.0, again (meaning (turns_a_step * m + turns_a_step)) (run y.step m s []) r.1);
  prefix = h.prefix;
}
  where
    again : (o : Outcome U) (r : Outcome T) → Counterpart one o r → Counterpart two o r
    again (Ended out) r is = is
    again (Trapped trap out) r is = (is.0, more trap is.0 is.1, is.2)
    again (Going out) r is = is
