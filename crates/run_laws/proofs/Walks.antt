-- Walks and stretches, put together.
use Rattle.std.proofs.Common.{◌≡◌, ℕ, zero, suc, ◌+◌, List, [], ◌∷◌, ◌++◌, length, refl, sym, ap, ◌∙◌, subst, arith, append_assoc}
use Rattle.run_laws.specs.Runs.{Moves, act, run, weigh, Within, System, Walk, Passes}
use Rattle.run_laws.proofs.Weights.{append-nil}

-- one step is a walk
pub Walk-one : {S T P : Type 0} (y : System S T P) (s t : S) (w : List ℕ) → y.step s ≡ Moves w t → Walk y s (y.at s ∷ []) w t
Walk-one y s t w e = record { after = t; now = w; later = []; here = refl; moves = e; wrote = sym (append-nil w); more = (refl, refl) }

-- two walks, one after the other
pub Walk-append : {S T P : Type 0} (y : System S T P) (ps qs : List P) (s t u : S) (v w : List ℕ) → Walk y s ps v t → Walk y t qs w u → Walk y s (ps ++ qs) (v ++ w) u
Walk-append y [] qs s t u v w a b = subst (λ x. Walk y s qs x u) (ap (λ x. x ++ w) (sym a.1)) (subst (λ x. Walk y x qs w u) a.0 b)
Walk-append y (p ∷ ps) qs s t u v w a b =
    record { after = a.after; now = a.now; later = a.later ++ w; here = a.here; moves = a.moves; wrote = ap (λ x. x ++ w) a.wrote ∙ append_assoc a.now a.later w; more = Walk-append y ps qs a.after t u a.later w a.more b }

-- one more step
pub Walk-snoc : {S T P : Type 0} (y : System S T P) (ps : List P) (s t u : S) (v w : List ℕ) → Walk y s ps v t → y.step t ≡ Moves w u → Walk y s (ps ++ y.at t ∷ []) (v ++ w) u
Walk-snoc y ps s t u v w a e = Walk-append y ps (y.at t ∷ []) s t u v w a (Walk-one y t u w e)

-- a step, and a walk that writes no more
pub Walk-cons : {S T P : Type 0} (y : System S T P) (ps : List P) (s t u : S) (v w : List ℕ) → y.step s ≡ Moves v t → Walk y t ps w u → Walk y s (y.at s ∷ ps) (v ++ w) u
Walk-cons y ps s t u v w e a = record { after = t; now = v; later = w; here = refl; moves = e; wrote = refl; more = a }

-- after a walk the run goes on from where it leads
pub run-Walk : {S T P : Type 0} (y : System S T P) (ps : List P) (s : S) (w : List ℕ) (t : S) → Walk y s ps w t → (k : ℕ) (out : List ℕ) → run y.step (length ps + k) s out ≡ run y.step k t (out ++ w)
run-Walk y [] s w t h k out =
    let e : 0 + k ≡ k = omega arith in
    ap (λ n. run y.step n s out) e ∙ ap (λ x. run y.step k x out) (sym h.0) ∙ ap (run y.step k t) (sym (append-nil out) ∙ ap (λ x. out ++ x) (sym h.1))
run-Walk y (p ∷ ps) s w t h k out =
    let e : length (p ∷ ps) + k ≡ suc (length ps + k) = omega arith in
    ap (λ n. run y.step n s out) e
    ∙ ap (λ x. act x (run y.step (length ps + k)) out) h.moves
    ∙ run-Walk y ps h.after h.later t h.more k (out ++ h.now)
    ∙ ap (run y.step k t) (append_assoc out h.now h.later ∙ ap (λ x. out ++ x) (sym h.wrote))

-- one stretch
pub Passes-one : {S T P : Type 0} (y : System S T P) (least : P → ℕ) (all : List P) (s t : S) (w : List ℕ) (ps : List P) → Within all ps → Walk y s ps w t → Passes y least all 1 (weigh least ps) s w t
Passes-one y least all s t w ps fits a = record { points = ps; after = t; now = w; later = []; rest = 0; within = fits; walk = a; wrote = sym (append-nil w); weight = omega arith; more = (refl, refl, refl) }

-- stretches, and more stretches
pub Passes-append : {S T P : Type 0} (y : System S T P) (least : P → ℕ) (all : List P) (k i l j : ℕ) (s t u : S) (v w : List ℕ) → Passes y least all k i s v t → Passes y least all l j t w u → Passes y least all (k + l) (i + j) s (v ++ w) u
Passes-append y least all zero i l j s t u v w a b =
    let z = a.2 in
    let k : 0 + l ≡ l = omega arith in
    let e : i + j ≡ j = omega (arith, z) in
    subst (λ n. Passes y least all n (i + j) s (v ++ w) u) (sym k)
    (subst (λ n. Passes y least all l n s (v ++ w) u) (sym e)
    (subst (λ x. Passes y least all l j s (x ++ w) u) (sym a.1)
    (subst (λ x. Passes y least all l j x w u) a.0 b)))
Passes-append y least all (suc k) i l j s t u v w a b =
    let z = a.weight in
    let n : suc k + l ≡ suc (k + l) = omega arith in
    subst (λ x. Passes y least all x (i + j) s (v ++ w) u) (sym n)
    (record {
      points = a.points;
      after = a.after;
      now = a.now;
      later = a.later ++ w;
      rest = a.rest + j;
      within = a.within;
      walk = a.walk;
      wrote = ap (λ x. x ++ w) a.wrote ∙ append_assoc a.now a.later w;
      weight = omega (arith, z);
      more = Passes-append y least all k a.rest l j a.after t u a.later w a.more b;
    })

-- one more stretch
pub Passes-snoc : {S T P : Type 0} (y : System S T P) (least : P → ℕ) (all : List P) (k j : ℕ) (s mid t : S) (before last : List ℕ) (ps : List P) → Passes y least all k j s before mid → Within all ps → Walk y mid ps last t → Passes y least all (suc k) (j + weigh least ps) s (before ++ last) t
Passes-snoc y least all zero j s mid t before last ps h fits a =
    let z = h.2 in
    record { points = ps; after = t; now = last; later = []; rest = 0; within = fits; walk = subst (λ x. Walk y x ps last t) h.0 a; wrote = ap (λ x. x ++ last) h.1 ∙ sym (append-nil last); weight = omega (arith, z); more = (refl, refl, refl) }
Passes-snoc y least all (suc k) j s mid t before last ps h fits a =
    let z = h.weight in
    record {
      points = h.points;
      after = h.after;
      now = h.now;
      later = h.later ++ last;
      rest = h.rest + weigh least ps;
      within = h.within;
      walk = h.walk;
      wrote = ap (λ x. x ++ last) h.wrote ∙ append_assoc h.now h.later last;
      weight = omega (arith, z);
      more = Passes-snoc y least all k h.rest h.after mid t h.later last ps h.more fits a;
    }
