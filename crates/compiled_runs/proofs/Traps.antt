-- A meaning by the reasons of its traps.
use Rattle.std.proofs.Common.{◌≡◌, ℕ, ◌+◌, ◌*◌, [], List, refl, sym, subst}
use Rattle.run_laws.specs.Runs.{Outcome, Ended, Trapped, Going, System, Keeps, Counterpart, IsOver, StartsWith, InStep, run, output, turns_a_step}
use Rattle.run_laws.specs.Layers.{Through}
use Rattle.ob_types.specs.Store.{Trap, Kind, Senseless}
use Rattle.block_runs.specs.States as block
use Rattle.block_runs.specs.States.{Stop}
use Rattle.placed_code.specs.Results.{Reason, same_reason}
use Rattle.lowered_runs.specs.Words.{same_trap}

-- what makes no sense counts as a run that goes on; none is meant
abbrev pub by_reason : Outcome Trap → Outcome Reason
by_reason (Ended out) = Ended out
by_reason (Trapped (Kind kind procedure) out) = Trapped (record { kind = kind; proc = procedure }) out
by_reason (Trapped Senseless out) = Going out
by_reason (Going out) = Going out

abbrev pub HasSense : Outcome Trap → Type 0
HasSense (Trapped Senseless out) = ⊥
HasSense o = Unit {0}

module _ {S P : Type 0} (y : System S Stop P) (least : P → ℕ) (all : List P) (s : S) (n : ℕ) where
  pub keeps_sense : (o : Outcome Trap) → Keeps y least all same_trap s n o → HasSense o
  keeps_sense (Ended out) h = tt
  keeps_sense (Trapped (Kind k f) out) h = tt
  keeps_sense (Trapped Senseless out) h = h.1
  keeps_sense (Going out) h = tt

  same : (k f : ℕ) (mine : Stop) → same_trap (Kind k f) mine → same_reason (record { kind = k; proc = f }) mine
  same k f (block.Kind n p) h = h
  same k f (block.Fault at) h = h

  pub keeps_reason : (o : Outcome Trap) → Keeps y least all same_trap s n o → Keeps y least all same_reason s n (by_reason o)
  keeps_reason (Ended out) h = h
  keeps_reason (Trapped (Kind k f) out) h = (h.0, same k f h.0 h.1, h.2)
  keeps_reason (Trapped Senseless out) h = absurd h.1
  keeps_reason (Going out) h = h

pub over : (o : Outcome Trap) → IsOver (by_reason o) → IsOver o
over (Ended out) h = tt
over (Trapped (Kind k f) out) h = tt
over (Trapped Senseless out) h = tt
over (Going out) h = h

pub written : (o : Outcome Trap) → output (by_reason o) ≡ output o
written (Ended out) = refl
written (Trapped (Kind k f) out) = refl
written (Trapped Senseless out) = refl
written (Going out) = refl

-- back to the meaning's traps
module _ {B : Type 0} (mine : Stop → B → Type 0) (wanted : Trap → B → Type 0)
    (is : (k f : ℕ) (b : B) → mine (block.Kind k f) b → wanted (Kind k f) b) where
  from_reason : (k f : ℕ) (b : B) → Through same_reason mine (record { kind = k; proc = f }) b → wanted (Kind k f) b
  from_reason k f b h = by_stop h.0 h.1 h.2
    where
      by_stop : (stop : Stop) → same_reason (record { kind = k; proc = f }) stop → mine stop b → wanted (Kind k f) b
      by_stop (block.Kind n p) e m = is k f b (subst (λ q. mine (block.Kind k q) b) (sym e.1) (subst (λ j. mine (block.Kind j p) b) (sym e.0) m))
      by_stop (block.Fault at) e m = absurd e

  counterpart : (o : Outcome Trap) (r : Outcome B) → HasSense o → Counterpart (Through same_reason mine) (by_reason o) r → Counterpart wanted o r
  counterpart (Ended out) r sense h = h
  counterpart (Trapped (Kind k f) out) r sense h = (h.0, from_reason k f h.0 h.1, h.2)
  counterpart (Trapped Senseless out) r sense h = absurd sense
  counterpart (Going out) r sense h = h

  pub in_step_back : {S P : Type 0} (y : System S B P) (points : ℕ) (s : S) (meaning : ℕ → Outcome Trap) → ((n : ℕ) → HasSense (meaning n))
      → InStep y points (Through same_reason mine) s (λ n. by_reason (meaning n)) → InStep y points wanted s meaning
  in_step_back y points s meaning sense h = record {
    steps = λ n. counterpart (meaning n) (run y.step ((n + 1) * points) s []) (sense n) (h.steps n);
    turns = λ m o. let n = turns_a_step * m + turns_a_step in let r = h.turns m o in (over (meaning n) r.0, counterpart (meaning n) (run y.step m s []) (sense n) r.1);
    prefix = λ m. let n = turns_a_step * m + turns_a_step in subst (λ w. StartsWith w (output (run y.step m s []))) (written (meaning n)) (h.prefix m);
  }
