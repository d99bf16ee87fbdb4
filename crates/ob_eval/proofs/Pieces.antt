-- All that is written, over the pieces that a sink took.
use Rattle.std.proofs.Common.{◌≡◌, ◌≢◌, List, [], ◌++◌, ℕ, refl, sym, ap, subst, ◌∙◌, append_assoc}
use Rattle.std.proofs.lemmas.List.{append-nil}
use Rattle.run_laws.specs.Turns.{Ending, Gives, Fails, Spent, outcome}
use Rattle.run_laws.specs.Runs.{output}
use Rattle.ob_types.specs.Store.{Store, Trap, Kind, Senseless}
use Rattle.ob_types.specs.declared.program.Program.{Program}
use Rattle.outside.specs.Sink.{Account, TookAll, TookFront}
use Rattle.outside.proofs.Taking.{all_none, all_on, front_on}
use Rattle.eval_store.specs.Did.{Stopped, Sensible}
use Rattle.eval_store.specs.declared.stop.Stop.{Stop}
use Rattle.eval_store.specs.declared.stop.Stop.TheVariants.{Trapped, TurnsSpent, NoSense, NoMemory}
use Rattle.eval_tasks.specs.Tasks.{rest}
use Rattle.eval_tasks.specs.Framed.{prefixed}
use Rattle.eval_tasks.proofs.Framing.{f_rest}
use Rattle.ob_eval.specs.Steps.{left}
use Rattle.ob_eval.specs.Evaluated.{Evaluated, Finished, Drained, stop_answer, silent}
use Rattle.ob_eval.specs.declared.answer.Eval.{Eval}
use Rattle.ob_eval.specs.declared.answer.Eval.TheVariants as answer
use Rattle.ob_eval.specs.declared.machine.Machine.{Machine}

pub output_prefixed : (t : List ℕ) (e : Ending Store Trap (Unit {0})) → output (outcome (prefixed t e)) ≡ t ++ output (outcome e)
output_prefixed t (Gives a s) = refl
output_prefixed t (Fails trap out) = refl
output_prefixed t (Spent out) = refl

pub prefixed_none : (e : Ending Store Trap (Unit {0})) → e ≡ prefixed [] e
prefixed_none (Gives a s) = refl
prefixed_none (Fails trap out) = refl
prefixed_none (Spent out) = refl

prefixed_on : (t u : List ℕ) (e : Ending Store Trap (Unit {0})) → prefixed t (prefixed u e) ≡ prefixed (t ++ u) e
prefixed_on t u (Gives a s) = ap (λ o. Gives a (record s { out = o })) (sym (append_assoc t u s.out))
prefixed_on t u (Fails trap out) = ap (λ o. Fails trap o) (sym (append_assoc t u out))
prefixed_on t u (Spent out) = ap (λ o. Spent o) (sym (append_assoc t u out))

-- what was written already stands in front
pub silenced : (p : Program) (m : Machine) → left p m ≡ prefixed m.world.out (left p (silent m))
silenced p m = ap (λ o. rest p m.tasks m.active m.values (record m.world { out = o })) (sym (append-nil m.world.out)) ∙ (f_rest {front = m.world.out} p m.tasks m.active m.values).by (silent m).world

-- nothing was taken yet
pub nothing_taken : (A : Account) (bytes : List ℕ) → TookFront A A bytes
nothing_taken A bytes = record { front = []; rest = bytes; parts = refl; took = all_none A }

-- nothing is gone, and all is
pub nothing_drained : (A : Account) (m : Machine) → Drained (TookAll A A) m m
nothing_drained A m = record { front = []; took = all_none A; shown = refl }

pub all_drained : (A B : Account) (old new : Machine) → TookAll A B old.world.out → new ≡ silent old → Drained (TookAll A B) old new
all_drained A B old new h e =
    let W : List ℕ → Machine = λ l. record old { world = record old.world { out = l } } in
    let P : Machine → Type 0 = λ z. old ≡ record z { world = record z.world { out = old.world.out ++ z.world.out } } in
    record { front = old.world.out; took = h; shown = subst P (sym e) (ap W (sym (append-nil old.world.out))) }

-- what is left behind what is gone
drained : (p : Program) (T : List ℕ → Type 0) (old new : Machine) (d : Drained T old new) → left p old ≡ prefixed d.front (left p new)
drained p T old new d = ap (left p) d.shown ∙ (f_rest {front = d.front} p new.tasks new.active new.values).by new.world

-- a front of some bytes is one of more
front_more : (B C : Account) (bytes more : List ℕ) → TookFront B C bytes → TookFront B C (bytes ++ more)
front_more B C bytes more k = record {
  front = k.front;
  rest = k.rest ++ more;
  parts = ap (λ l. l ++ more) k.parts ∙ append_assoc k.front k.rest more;
  took = k.took;
}

-- an answer of a stop
abbrev of_stop : Eval → Type 0
of_stop answer.WriteFault = ⊥
of_stop _ = Unit {0}

is_of_stop : (stop : Stop) → of_stop (stop_answer stop)
is_of_stop (Trapped kind f) = tt
is_of_stop TurnsSpent = tt
is_of_stop NoSense = tt
is_of_stop NoMemory = tt

pub not_fault : (stop : Stop) → stop_answer stop ≢ answer.WriteFault
not_fault stop e = subst of_stop e (is_of_stop stop)

module _ (p : Program) (first m : Machine) (A B : Account) (t : List ℕ) (taken : TookAll A B t) (same : left p first ≡ prefixed t (left p m)) where
  whole : output (outcome (left p first)) ≡ t ++ output (outcome (left p m))
  whole = ap (λ e. output (outcome e)) same ∙ output_prefixed t (left p m)

  pub no_memory : TookFront A B (output (outcome (left p first)))
  no_memory = record { front = t; rest = output (outcome (left p m)); parts = whole; took = taken }

  pub fault : (m1 : Machine) (C : Account) → left p m ≡ left p m1 → TookFront B C m1.world.out → TookFront A C (output (outcome (left p first)))
  fault m1 C e k =
      let more = output (outcome (left p (silent m1))) in
      front_on A B C t (m1.world.out ++ more) (output (outcome (left p first))) taken (front_more B C m1.world.out more k)
      (whole ∙ ap (λ e. t ++ output (outcome e)) (e ∙ silenced p m1) ∙ ap (λ l. t ++ l) (output_prefixed m1.world.out (left p (silent m1))))

  -- some was written, behind some steps
  pub goes_on : (m1 m2 : Machine) (C : Account) → left p m ≡ left p m1 → (d : Drained (TookAll B C) m1 m2) → left p first ≡ prefixed (t ++ d.front) (left p m2)
  goes_on m1 m2 C e d = same ∙ ap (λ e. prefixed t e) (e ∙ drained p (TookAll B C) m1 m2 d) ∙ prefixed_on t d.front (left p m2)

  pub took_more : (m1 m2 : Machine) (C : Account) (d : Drained (TookAll B C) m1 m2) → TookAll A C (t ++ d.front)
  took_more m1 m2 C d = all_on A B C t d.front taken d.took

  finished : (out : List ℕ) (given : Eval) (C : Account) (r : Eval) → output (outcome (left p m)) ≡ out → (TookAll A C (t ++ out) → Evaluated given (outcome (left p first)) (TookAll A C) (TookFront A C)) → Finished given r (TookAll B C out) (TookFront B C out) → Evaluated r (outcome (left p first)) (TookAll A C) (TookFront A C)
  finished out given C r o good h = by r h
    where
      ok : (r : Eval) → (r ≡ given) × TookAll B C out → Evaluated r (outcome (left p first)) (TookAll A C) (TookFront A C)
      ok r h = subst (λ r. Evaluated r (outcome (left p first)) (TookAll A C) (TookFront A C)) (sym h.0) (good (all_on A B C t out taken h.1))

      by : (r : Eval) → Finished given r (TookAll B C out) (TookFront B C out) → Evaluated r (outcome (left p first)) (TookAll A C) (TookFront A C)
      by answer.WriteFault h = front_on A B C t out (output (outcome (left p first))) taken h (whole ∙ ap (λ l. t ++ l) o)
      by answer.Ended h = ok answer.Ended h
      by (answer.Trapped kind f) h = ok (answer.Trapped kind f) h
      by answer.Going h = ok answer.Going h
      by answer.Memory h = ok answer.Memory h

  pub ended : (m1 : Machine) (C : Account) (r : Eval) → left p m ≡ Gives tt m1.world → Finished answer.Ended r (TookAll B C m1.world.out) (TookFront B C m1.world.out) → Evaluated r (outcome (left p first)) (TookAll A C) (TookFront A C)
  ended m1 C r e = finished m1.world.out answer.Ended C r (ap (λ e. output (outcome e)) e) (λ k. (t ++ m1.world.out, ap outcome (same ∙ ap (λ e. prefixed t e) e), k))

  pub stopped : (m1 : Machine) (stop : Stop) (C : Account) (r : Eval) → Sensible (left p m) → stop ≢ NoMemory → Stopped (left p m) stop m1.world.out → Finished (stop_answer stop) r (TookAll B C m1.world.out) (TookFront B C m1.world.out) → Evaluated r (outcome (left p first)) (TookAll A C) (TookFront A C)
  stopped m1 (Trapped kind f) C r sense some e = finished m1.world.out (answer.Trapped kind f) C r (ap (λ e. output (outcome e)) e) (λ k. (t ++ m1.world.out, ap outcome (same ∙ ap (λ e. prefixed t e) e), k))
  stopped m1 TurnsSpent C r sense some e = finished m1.world.out answer.Going C r (ap (λ e. output (outcome e)) e) (λ k. (t ++ m1.world.out, ap outcome (same ∙ ap (λ e. prefixed t e) e), k))
  stopped m1 NoSense C r sense some e = absurd (subst Sensible e sense)
  stopped m1 NoMemory C r sense some e = absurd (some refl)

-- sense stays
sense_prefixed : (t : List ℕ) (e : Ending Store Trap (Unit {0})) → Sensible (prefixed t e) → Sensible e
sense_prefixed t (Gives a s) h = tt
sense_prefixed t (Fails (Kind kind f) out) h = tt
sense_prefixed t (Fails Senseless out) h = h
sense_prefixed t (Spent out) h = tt

pub still_sensible : (p : Program) (T : List ℕ → Type 0) (m m1 m2 : Machine) → left p m ≡ left p m1 → (d : Drained T m1 m2) → Sensible (left p m) → Sensible (left p m2)
still_sensible p T m m1 m2 e d h = sense_prefixed d.front (left p m2) (subst Sensible (e ∙ drained p T m1 m2 d) h)

-- as many turns are left
pub same_turns : (T : List ℕ → Type 0) (m1 m2 : Machine) → Drained T m1 m2 → m1.world.turns ≡ m2.world.turns
same_turns T m1 m2 d = let N : Machine → ℕ = λ z. z.world.turns in ap N d.shown

-- an answer that isn't a fault
pub answered : (given : Eval) (all front : Type 0) → given ≢ answer.WriteFault → all → Finished given given all front
answered answer.Ended all front some h = (refl, h)
answered (answer.Trapped kind f) all front some h = (refl, h)
answered answer.Going all front some h = (refl, h)
answered answer.WriteFault all front some h = absurd (some refl)
answered answer.Memory all front some h = (refl, h)
