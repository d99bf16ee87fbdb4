-- A run, step by step from its front.
use Rattle.std.proofs.Common.{◌≡◌, ℕ, zero, suc, ◌+◌, ◌-◌, ◌<◌, ◌≤◌, List, [], ◌++◌, refl, sym, ap, ◌∙◌, subst, arith, append_assoc}
use Rattle.std.proofs.lemmas.List.{append-nil}
use Rattle.run_laws.specs.Runs.{Outcome, Ended, Trapped, Going, Moves, Ends, Traps, act, run, output, StartsWith}
use Rattle.run_laws.specs.Runs as runs
use Rattle.outside.specs.Sink.{Account, TookAll, TookFront}
use Rattle.outside.proofs.Taking.{all_on, front_on, front_longer}
use Rattle.a64_machine.specs.State.{State, Trap}

-- a run of which so much was written, and what is left of it is to be made from a state
pub record Runs (f : State → runs.Step State Trap) (whole : Outcome Trap) (left : ℕ) (s : State) (done : List ℕ) : Type 0 where
  pub is : whole ≡ run f left s done

act_extends : (x : runs.Step State Trap) (go : State → List ℕ → Outcome Trap) → ((t : State) (out : List ℕ) → StartsWith (output (go t out)) out) → (out : List ℕ) → StartsWith (output (act x go out)) out
act_extends (Moves w t) go h out = let r = h t (out ++ w) in (w ++ r.0, r.1 ∙ append_assoc out w r.0)
act_extends Ends go h out = ([], sym (append-nil out))
act_extends (Traps trap) go h out = ([], sym (append-nil out))

-- what is written stays written
run_extends : (f : State → runs.Step State Trap) (m : ℕ) (s : State) (out : List ℕ) → StartsWith (output (run f m s out)) out
run_extends f zero s out = ([], sym (append-nil out))
run_extends f (suc m) s out = act_extends (f s) (run f m) (λ t o. run_extends f m t o) out

module _ (f : State → runs.Step State Trap) (whole : Outcome Trap) (most n : ℕ) (s : State) (done : List ℕ) (runs' : Runs f whole (most - n) s done) where
  one : n < most → whole ≡ act (f s) (run f (most - (n + 1))) done
  one lt =
      let more : most - n ≡ suc (most - (n + 1)) = omega arith in
      runs'.is ∙ ap (λ k. run f k s done) more

  -- one more step was made
  pub runs_more : (bytes : List ℕ) (t : State) → n < most → f s ≡ Moves bytes t → Runs f whole (most - (n + 1)) t (done ++ bytes)
  runs_more bytes t lt e = record { is = one lt ∙ ap (λ x. act x (run f (most - (n + 1))) done) e }

  -- the next step ends, or traps
  pub runs_end : n < most → f s ≡ Ends → whole ≡ Ended done
  runs_end lt e = one lt ∙ ap (λ x. act x (run f (most - (n + 1))) done) e

  pub runs_trap : (trap : Trap) → n < most → f s ≡ Traps trap → whole ≡ Trapped trap done
  runs_trap trap lt e = one lt ∙ ap (λ x. act x (run f (most - (n + 1))) done) e

  -- no step is left
  pub runs_out : most ≤ n → whole ≡ Going done
  runs_out le =
      let none : most - n ≡ 0 = omega arith in
      runs'.is ∙ ap (λ k. run f k s done) none

  -- what the next step writes is written in the whole
  pub runs_writes : (bytes : List ℕ) (t : State) → n < most → f s ≡ Moves bytes t → StartsWith (output whole) (done ++ bytes)
  runs_writes bytes t lt e =
      let more = run_extends f (most - (n + 1)) t (done ++ bytes) in
      (more.0, ap output (runs_more bytes t lt e).is ∙ more.1)

-- a front of what the next step writes is a front of the whole
pub took_part : (old now after : Account) (done bytes whole : List ℕ) → TookAll old now done → StartsWith whole (done ++ bytes) → TookFront now after bytes → TookFront old after whole
took_part old now after done bytes whole taken starts last =
    front_longer old after (done ++ bytes) starts.0 whole (front_on old now after done bytes (done ++ bytes) taken last refl) starts.1

-- a step that writes nothing
pub took_none_more : (old now after : Account) (done : List ℕ) → TookAll old now done → TookAll now after [] → TookAll old after done
took_none_more old now after done taken last = subst (TookAll old after) (append-nil done) (all_on old now after done [] taken last)
