-- What a machine's step is, from its parts.
use Rattle.std.proofs.Common.{◌≡◌, ℕ, List, [], Option, Some, None, refl, sym, ap, subst}
use Rattle.std.specs.Prelude.{option_and_then}
use Rattle.run_laws.specs.Runs as runs
use Rattle.a64_table.specs.Decode.{decode_of}
use Rattle.a64_instr.specs.declared.instr.Instr.{Instr}
use Rattle.a64_instr.specs.declared.instr.Instr.TheVariants.{Svc}
use Rattle.a64_machine.specs.State.{State, Trap}
use Rattle.a64_machine.specs.Services.{service}
use Rattle.a64_machine.specs.Effects.{effect}
use Rattle.a64_machine.specs.Machine.{fetch, fetched, decoded, step_of}
use Rattle.a64_machine.specs.View.{service_number, stop_of, Told}
use Rattle.a64_machine.specs.Answers.{Made}
use Rattle.a64_machine.specs.declared.answers.Step.{Step}
use Rattle.a64_machine.specs.declared.answers.Step.TheVariants as answer

-- an equal step is answered alike
pub made_by : (r : Step) (s t : State) (x y : runs.Step State Trap) (all front : List ℕ → Type 0) → x ≡ y → Made r s t x all front → Made r s t y all front
made_by r s t x y all front e = subst (λ z. Made r s t z all front) e

-- a step that writes nothing
pub made_silently : (r : Step) (s t : State) (x : runs.Step State Trap) (all front : List ℕ → Type 0) → all [] → Told r s t x → Made r s t x all front
made_silently answer.Going s t x all front none told = ([], told, none)
made_silently answer.Ended s t x all front none told = (told.0, told.1, none)
made_silently (answer.Trapped kind word) s t x all front none told = (told.0, told.1, none)
made_silently (answer.Undefined word) s t x all front none told = (told.0, told.1, none)
made_silently (answer.BadAddress address) s t x all front none told = (told.0, told.1, none)
made_silently (answer.BadCall number) s t x all front none told = (told.0, told.1, none)
made_silently answer.WriteFault s t x all front none told = absurd told

-- an SVC's effect is the service of its number
pub effect-service : (i : Instr) (number : ℕ) (s : State) → service_number i ≡ Some number → service number s ≡ effect i s
effect-service (Svc number') number s e = let same : number ≡ number' = cc in ap (λ n. service n s) same
effect-service _ number s e = cc

module _ (code : List ℕ) (s : State) where
  by_word : (o : Option ℕ) (i : Instr) → option_and_then decode_of o ≡ Some i → fetched o s ≡ effect i s
  by_word None i e = cc
  by_word (Some word) i e = ap (λ d. decoded word d s) e

  -- the word at PC stands for an instruction
  pub step-effect : (i : Instr) → option_and_then decode_of (fetch code s.pc) ≡ Some i → step_of code s ≡ effect i s
  step-effect i e = by_word (fetch code s.pc) i e

  stopped : (o : Option ℕ) (r : Step) (all front : List ℕ → Type 0) → all [] → option_and_then decode_of o ≡ None → r ≡ stop_of s.pc o → Made r s s (fetched o s) all front
  stopped None r all front none e is = subst (λ r. Made r s s (fetched None s) all front) (sym is) (refl, refl, none)
  stopped (Some word) r all front none e is = subst (λ r. Made r s s (fetched (Some word) s) all front) (sym is) (ap (λ d. decoded word d s) e, refl, none)

  -- there is none, or it stands for none
  pub made_stop : (r : Step) (all front : List ℕ → Type 0) → all [] → option_and_then decode_of (fetch code s.pc) ≡ None → r ≡ stop_of s.pc (fetch code s.pc) → Made r s s (step_of code s) all front
  made_stop r all front none e is = stopped (fetch code s.pc) r all front none e is
