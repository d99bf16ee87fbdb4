-- Runs of bounded length: a run that is over stays as it is, and what is written stays written.
use Rattle.std.proofs.Common.{◌≡◌, ℕ, zero, suc, ◌+◌, ◌-◌, ◌≤◌, List, [], ◌++◌, refl, sym, ap, ◌∙◌, subst, ⊎_elim, arith, append_assoc}
use Rattle.std.proofs.lemmas.Bool.{cases_lt}
use Rattle.run_laws.specs.Runs.{Outcome, Ended, Trapped, Going, Step, Moves, Ends, Traps, act, run, output, IsOver, StartsWith}
use Rattle.run_laws.proofs.Weights.{append-nil}

pub StartsWith_refl : (a : List ℕ) → StartsWith a a
StartsWith_refl a = ([], sym (append-nil a))

pub StartsWith_trans : (a b c : List ℕ) → StartsWith a b → StartsWith b c → StartsWith a c
StartsWith_trans a b c x y = (y.0 ++ x.0, x.1 ∙ ap (λ t. t ++ x.0) y.1 ∙ append_assoc c y.0 x.0)

act-longer : {S T : Type 0} (x : Step S T) (f g : S → List ℕ → Outcome T) → ((t : S) (o : List ℕ) → IsOver (f t o) → g t o ≡ f t o) → (out : List ℕ) → IsOver (act x f out) → act x g out ≡ act x f out
act-longer (Moves w t) f g h out over = h t (out ++ w) over
act-longer Ends f g h out over = refl
act-longer (Traps trap) f g h out over = refl

-- a run that is over stays as it is
pub run-longer : {S T : Type 0} (f : S → Step S T) (m j : ℕ) (s : S) (out : List ℕ) → IsOver (run f m s out) → run f (m + j) s out ≡ run f m s out
run-longer f zero j s out over = absurd over
run-longer f (suc m) j s out over =
    let e : suc m + j ≡ suc (m + j) = omega arith in
    ap (λ n. run f n s out) e ∙ act-longer (f s) (run f m) (run f (m + j)) (λ t o v. run-longer f m j t o v) out over

pub run-longer_to : {S T : Type 0} (f : S → Step S T) (m n : ℕ) (s : S) (out : List ℕ) → m ≤ n → IsOver (run f m s out) → run f n s out ≡ run f m s out
run-longer_to f m n s out le over =
    let e : n ≡ m + (n - m) = omega (arith, le) in
    ap (λ k. run f k s out) e ∙ run-longer f m (n - m) s out over

-- two runs from one state that are over are one
pub run-one_end : {S T : Type 0} (f : S → Step S T) (m j : ℕ) (s : S) (out : List ℕ) → IsOver (run f m s out) → IsOver (run f j s out) → run f m s out ≡ run f j s out
run-one_end f m j s out a b =
    ⊎_elim
    (λ lt. sym (run-longer_to f m j s out (omega (arith, lt)) a))
    (λ le. run-longer_to f j m s out le b)
    (cases_lt m j)

act-extends : {S T : Type 0} (x : Step S T) (f : S → List ℕ → Outcome T) → ((t : S) (o : List ℕ) → StartsWith (output (f t o)) o) → (out : List ℕ) → StartsWith (output (act x f out)) out
act-extends (Moves w t) f h out = let r = h t (out ++ w) in (w ++ r.0, r.1 ∙ append_assoc out w r.0)
act-extends Ends f h out = StartsWith_refl out
act-extends (Traps trap) f h out = StartsWith_refl out

-- what is written stays written
pub run-extends : {S T : Type 0} (f : S → Step S T) (m : ℕ) (s : S) (out : List ℕ) → StartsWith (output (run f m s out)) out
run-extends f zero s out = StartsWith_refl out
run-extends f (suc m) s out = act-extends (f s) (run f m) (λ t o. run-extends f m t o) out

act-grows : {S T : Type 0} (x : Step S T) (f g : S → List ℕ → Outcome T) → ((t : S) (o : List ℕ) → StartsWith (output (g t o)) (output (f t o))) → (out : List ℕ) → StartsWith (output (act x g out)) (output (act x f out))
act-grows (Moves w t) f g h out = h t (out ++ w)
act-grows Ends f g h out = StartsWith_refl out
act-grows (Traps trap) f g h out = StartsWith_refl out

-- more steps write no less
pub run-grows : {S T : Type 0} (f : S → Step S T) (m n : ℕ) (s : S) (out : List ℕ) → m ≤ n → StartsWith (output (run f n s out)) (output (run f m s out))
run-grows f zero n s out le = run-extends f n s out
run-grows f (suc m) zero s out le = absurd (omega (arith, le))
run-grows f (suc m) (suc n) s out le = act-grows (f s) (run f m) (run f n) (λ t o. run-grows f m n t o (omega (arith, le))) out

-- what a halt gives
abbrev pub halted : {S T : Type 0} → Step S T → List ℕ → Outcome T
halted (Moves w t) out = Going out
halted Ends out = Ended out
halted (Traps trap) out = Trapped trap out

pub act-halted : {S T : Type 0} (x : Step S T) (go : S → List ℕ → Outcome T) (out : List ℕ) → IsOver (halted x out) → act x go out ≡ halted x out
act-halted (Moves w t) go out over = absurd over
act-halted Ends go out over = refl
act-halted (Traps trap) go out over = refl

-- a run of one outcome has written no more than one of another, longer one
pub run-prefix : {S T : Type 0} (f : S → Step S T) (m j : ℕ) (s : S) (o : Outcome T) → IsOver o → run f j s [] ≡ o → StartsWith (output o) (output (run f m s []))
run-prefix f m j s o v e =
    let x = run-grows f m (j + m) s [] (omega arith) in
    let over = run-longer f j m s [] (subst IsOver (sym e) v) ∙ e in
    (x.0, sym (ap output over) ∙ x.1)
