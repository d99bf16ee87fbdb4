-- A system that keeps up with a meaning is in step with it.
use Rattle.std.proofs.Common.{◌≡◌, ℕ, zero, suc, ◌+◌, ◌-◌, ◌*◌, ◌≤◌, List, [], ◌∷◌, ◌++◌, length, sym, ap, ◌∙◌, subst, arith, append_assoc, length-append}
use Rattle.std.proofs.Math.Nat.{mul-le-mul_right}
use Rattle.run_laws.specs.Runs.{Outcome, Ended, Trapped, Going, Step, Ends, Traps, act, run, output, IsOver, System, Passes, Halts, Keeps, StartsWith, Counterpart, InStep, Agrees, turns_a_step}
use Rattle.run_laws.proofs.Weights.{append-nil, weigh-length, Within-length}
use Rattle.run_laws.proofs.Walks.{run-Walk}
use Rattle.run_laws.proofs.BoundedRuns.{run-longer_to, run-one_end, run-extends, run-grows, run-prefix, halted, act-halted}

module _ {S T P U : Type 0} (y : System S T P) (all : List P) (same : U → T → Type 0) where
  -- k stretches that weigh j take j steps, and no more than k times all points
  pub run-Passes : (k j : ℕ) (s : S) (w : List ℕ) (t : S) → Passes y (λ _. 1) all k j s w t → (j ≤ k * length all) × ((i : ℕ) (out : List ℕ) → run y.step (j + i) s out ≡ run y.step i t (out ++ w))
  run-Passes zero j s w t h =
      let z = h.2 in
      (omega (arith, z), λ i out. let e : j + i ≡ i = omega (arith, z) in ap (λ n. run y.step n s out) e ∙ ap (λ x. run y.step i x out) (sym h.0) ∙ ap (run y.step i t) (sym (append-nil out) ∙ ap (λ x. out ++ x) (sym h.1)))
  run-Passes (suc k) j s w t h =
      let ps = h.points in
      let r = run-Passes k h.rest h.after h.later t h.more in
      let l = Within-length all ps h.within in
      let bound = r.0 in
      let size = h.weight in
      let n = weigh-length ps in
      let e : suc k * length all ≡ length all + k * length all = omega arith in (
        omega (arith, l, bound, e, size, n),
        λ i out.
            let a : j + i ≡ length ps + (h.rest + i) = omega (arith, size, n) in
            ap (λ x. run y.step x s out) a
            ∙ run-Walk y ps s h.now h.after h.walk (h.rest + i) out
            ∙ r.1 i (out ++ h.now)
            ∙ ap (run y.step i t) (append_assoc out h.now h.later ∙ ap (λ x. out ++ x) (sym h.wrote)),
      )

  -- a halt after at most n stretches comes within (n + 1) times all points
  pub run-Halts : (n : ℕ) (s : S) (w : List ℕ) (halt : Step S T) → IsOver (halted halt w) → Halts y (λ _. 1) all n s w halt → (j : ℕ) × (j ≤ (n + 1) * length all) × (run y.step j s [] ≡ halted halt w)
  run-Halts n s w halt over h =
      let ps = h.points in
      let most = h.most in
      let r = run-Passes h.moments h.weight s h.before h.mid h.passes in
      let bound = r.0 in
      let l = Within-length all (ps ++ y.at h.stop ∷ []) h.within in
      let more : length (ps ++ y.at h.stop ∷ []) ≡ length ps + 1 = omega (arith, length-append ps (y.at h.stop ∷ [])) in
      let size : (h.moments + 1) * length all ≡ h.moments * length all + length all = omega arith in
      let grow : (h.moments + 1) * length all ≤ (n + 1) * length all = mul-le-mul_right (length all) (omega (arith, most)) in (
        h.weight + (length ps + 1),
        omega (arith, bound, l, more, size, grow),
        r.1 (length ps + 1) []
            ∙ run-Walk y ps h.mid h.last h.stop h.walk 1 h.before
            ∙ ap (run y.step 1 h.stop) (sym h.wrote)
            ∙ ap (λ x. act x (run y.step zero) w) h.halts
            ∙ act-halted halt (run y.step zero) w over,
      )

  halts_in : (n : ℕ) (s : S) (w : List ℕ) (halt : Step S T) → IsOver (halted halt w) → Halts y (λ _. 1) all n s w halt → run y.step ((n + 1) * length all) s [] ≡ halted halt w
  halts_in n s w halt over h =
      let r = run-Halts n s w halt over h in
      run-longer_to y.step r.0 ((n + 1) * length all) s [] r.1 (subst IsOver (sym r.2) over) ∙ r.2

  steps_enough : (n : ℕ) (s : S) (o : Outcome U) → Keeps y (λ _. 1) all same s n o → Counterpart same o (run y.step ((n + 1) * length all) s [])
  steps_enough n s (Ended out) h = halts_in n s out Ends tt h
  steps_enough n s (Trapped trap out) h = (h.0, h.1, halts_in n s out (Traps h.0) tt h.2)
  steps_enough n s (Going out) h =
      let r = run-Passes (suc n) h.weight s out h.after h.passes in
      let bound = r.0 in
      let size : (n + 1) * length all ≡ suc n * length all = omega arith in
      let i = (n + 1) * length all - h.weight in
      let e : (n + 1) * length all ≡ h.weight + i = omega (arith, bound, size) in
      let x = run-extends y.step i h.after out in
      (x.0, ap (λ k. output (run y.step k s [])) e ∙ ap output (r.1 i []) ∙ x.1)

  turns_enough : (m : ℕ) (s : S) (o : Outcome U) → Keeps y (λ _. 1) all same s (turns_a_step * m + turns_a_step) o → IsOver (run y.step m s []) → IsOver o × Counterpart same o (run y.step m s [])
  turns_enough m s (Ended out) h over =
      let r = run-Halts (turns_a_step * m + turns_a_step) s out Ends tt h in
      (tt, run-one_end y.step m r.0 s [] over (subst IsOver (sym r.2) tt) ∙ r.2)
  turns_enough m s (Trapped trap out) h over =
      let r = run-Halts (turns_a_step * m + turns_a_step) s out (Traps h.0) tt h.2 in
      (tt, (h.0, h.1, run-one_end y.step m r.0 s [] over (subst IsOver (sym r.2) tt) ∙ r.2))
  turns_enough m s (Going out) h over =
      let r = run-Passes (suc (turns_a_step * m + turns_a_step)) h.weight s out h.after h.passes in
      let pace = h.pace in
      let same_end = run-longer_to y.step m h.weight s [] (omega (arith, pace)) over in
      let e : h.weight ≡ h.weight + 0 = omega arith in
      absurd (subst IsOver (sym same_end ∙ ap (λ k. run y.step k s []) e ∙ r.1 0 []) over)

  turns_prefix : (m : ℕ) (s : S) (o : Outcome U) → Keeps y (λ _. 1) all same s (turns_a_step * m + turns_a_step) o → StartsWith (output o) (output (run y.step m s []))
  turns_prefix m s (Ended out) h = let r = run-Halts (turns_a_step * m + turns_a_step) s out Ends tt h in run-prefix y.step m r.0 s (Ended out) tt r.2
  turns_prefix m s (Trapped trap out) h = let r = run-Halts (turns_a_step * m + turns_a_step) s out (Traps h.0) tt h.2 in run-prefix y.step m r.0 s (Trapped h.0 out) tt r.2
  turns_prefix m s (Going out) h =
      let r = run-Passes (suc (turns_a_step * m + turns_a_step)) h.weight s out h.after h.passes in
      let pace = h.pace in
      let x = run-grows y.step m h.weight s [] (omega (arith, pace)) in
      let z : h.weight ≡ h.weight + 0 = omega arith in
      (x.0, sym (ap (λ k. output (run y.step k s [])) z ∙ ap output (r.1 0 [])) ∙ x.1)

  -- what keeps up with a meaning for every number of turns is in step with it
  pub in_step : (s : S) (meaning : ℕ → Outcome U) → ((n : ℕ) → Keeps y (λ _. 1) all same s n (meaning n)) → InStep y (length all) same s meaning
  in_step s meaning keeps = record {
    steps = λ n. steps_enough n s (meaning n) (keeps n);
    turns = λ m over. turns_enough m s (meaning (turns_a_step * m + turns_a_step)) (keeps (turns_a_step * m + turns_a_step)) over;
    prefix = λ m. turns_prefix m s (meaning (turns_a_step * m + turns_a_step)) (keeps (turns_a_step * m + turns_a_step));
  }

-- a trap that a halt gave is one that corresponds to the meaning's
trap_is_same : {T U : Type 0} (same : U → T → Type 0) (o : Outcome U) (trap : T) (out : List ℕ) → IsOver o → Counterpart same o (Trapped trap out) → (mine : U) × same mine trap
trap_is_same same (Ended out') trap out over is = absurd (let e : Trapped trap out ≡ Ended out' = is in cc)
trap_is_same {T} {U} same (Trapped mine out') trap out over is =
    let e : is.0 ≡ trap = cc in
    (mine, subst (same mine) e is.1)
trap_is_same same (Going out') trap out over is = absurd over

-- each trap of a system that is in step with a meaning corresponds to one of the meaning's
pub trap_has_source : {S T P U : Type 0} (y : System S T P) (points : ℕ) (same : U → T → Type 0) (s : S) (meaning : ℕ → Outcome U) → InStep y points same s meaning → (m : ℕ) (trap : T) (out : List ℕ) → run y.step m s [] ≡ Trapped trap out → (mine : U) × same mine trap
trap_has_source y points same s meaning step m trap out is =
    let r = step.turns m (subst IsOver (sym is) tt) in
    trap_is_same same (meaning (turns_a_step * m + turns_a_step)) trap out r.0 (subst (Counterpart same (meaning (turns_a_step * m + turns_a_step))) is r.1)

-- a trap that corresponds to none of the meaning's never comes
pub trap_never : {S T P U : Type 0} (y : System S T P) (points : ℕ) (same : U → T → Type 0) (s : S) (meaning : ℕ → Outcome U) → InStep y points same s meaning → (trap : T) → ((mine : U) → same mine trap → ⊥) → (m : ℕ) (out : List ℕ) → run y.step m s [] ≡ Trapped trap out → ⊥
trap_never y points same s meaning step trap none m out is =
    let r = trap_has_source y points same s meaning step m trap out is in none r.0 r.1

-- turned round: what is over on the right is what the left says
turned : {T U : Type 0} (same : U → T → Type 0) (o : Outcome U) (r : Outcome T) → (IsOver r → IsOver o × Counterpart same o r) → StartsWith (output o) (output r) → Counterpart (λ (t : T) (u : U). same u t) r o
turned same (Ended out) (Ended out') over starts = let e : Ended out' ≡ Ended out = (over tt).1 in cc
turned same (Trapped trap out) (Ended out') over starts = absurd (let e = (over tt).1.2 in cc)
turned same (Going out) (Ended out') over starts = absurd (over tt).0
turned same (Ended out) (Trapped trap out') over starts = absurd (let e : Trapped trap out' ≡ Ended out = (over tt).1 in cc)
turned same (Trapped mine out) (Trapped trap out') over starts =
    let r = (over tt).1 in
    let e : r.0 ≡ trap = cc in
    (mine, subst (same mine) e r.1, cc)
turned same (Going out) (Trapped trap out') over starts = absurd (over tt).0
turned same o (Going out') over starts = starts

-- what is in step agrees both ways
pub agrees : {S T P U : Type 0} (y : System S T P) (points : ℕ) (same : U → T → Type 0) (s : S) (meaning : ℕ → Outcome U) → InStep y points same s meaning → Agrees y same s meaning
agrees y points same s meaning step = record {
  forth = λ n. ((n + 1) * points, step.steps n);
  back = λ m. (turns_a_step * m + turns_a_step, turned same (meaning (turns_a_step * m + turns_a_step)) (run y.step m s []) (step.turns m) (step.prefix m));
}
