-- Ways through words that stand one after the other, none passed twice; some may be left out.
use Rattle.std.proofs.Common.{◌≡◌, ℕ, suc, ◌+◌, ◌<◌, ◌^◌, List, [], length, Bool, true, false, refl, arith, sym, ap, ◌∙◌, subst}
use Rattle.run_laws.specs.Runs.{Moves}
use Rattle.run_laws.specs.Layers.{places_from}
use Rattle.run_laws.proofs.Layers.{length-places_from}
use Rattle.run_laws.proofs.Weights.{weigh-length}
use Rattle.a64_memory.specs.Memory.{Area}
use Rattle.wrapping_numbers.specs.Numbers.{add64}
use Rattle.a64_numbers.specs.Branches.{branch_to, branch_field}
use Rattle.a64_numbers.proofs.Branches.{branch_26_reaches}
use Rattle.a64_instr.specs.declared.instr.Instr.{Instr}
use Rattle.a64_instr.specs.declared.instr.Instr.TheVariants.{B}
use Rattle.a64_machine.specs.State.{State, address_of, put}
use Rattle.a64_machine.specs.Effects.{effect, gives, goes}
use Rattle.a64_machine.specs.Machine.{step_of}
use Rattle.a64_machine.proofs.Ways.{Way, way_none, way_one}
use Rattle.a64_machine.proofs.Steps.{Stands, step-at, walks-one, StandAll}
use Rattle.block_runs.specs.States.{World}
use Rattle.placed_code.specs.Words.{jump_words}
use Rattle.placed_code.proofs.Stack.{Memories, Space}
use Rattle.placed_code.proofs.Slots.{Fixed, At, Passed, given}
use Rattle.a64_machine.proofs.Numbers.{Numbers}

pub next_word : (k : ℕ) → k < 2 ^ 18 → add64 (address_of k) 4 ≡ address_of (k + 1)
next_word k l = omega (arith, l)

module _ (code : List ℕ) (keeps_small : (a b : State) (w : List ℕ) → Numbers a → step_of code a ≡ Moves w b → Numbers b) (frame : ℕ) where
  pub way_of : (low slots k n : ℕ) (w : World) (s : Area) (a t : State) → Passed code keeps_small frame low slots k n w s a t → Way code k n a t
  way_of low slots k n w s a t p = record { places = places_from k n; walk = p.walk; within = λ h. omega arith; some = λ z. let e = weigh-length (places_from k n) in let f = length-places_from k n in omega (arith, z, e, f) }

  abbrev pub Here : ℕ → ℕ → ℕ → World → Area → State → Type 0
  Here low slots k w s a = At code keeps_small frame low slots k w s a

  -- a word that leads to another state with the same memory
  pub record One (low slots k n j : ℕ) (w : World) (s : Area) (a t : State) : Type 0 where
    pub way : Way code k n a t
    pub at : Here low slots j w s t

  pub leads : (low slots low' slots' k j n : ℕ) (w w' : World) (s : Area) (a t : State) (i : Instr) → Stands code k i → Here low slots k w s a → effect i a ≡ Moves [] t
      → t.pc ≡ address_of j → t.sp ≡ low' → (t.memory ≡ a.memory) × (t.input ≡ a.input) → (w'.memory ≡ w.memory) × (w'.input ≡ w.input) → Fixed w' t.registers → Space frame s low' slots' → One low' slots' k (suc n) j w' s a t
  leads low slots low' slots' k j n w w' s a t i stands at e pc sp memory same fixed space = record {
    way = way_one code k n a t (walks-one k stands a at.pc e);
    at = record {
      pc = pc;
      sp = sp;
      memory = subst (λ (m : List Area). Memories w'.memory s m) (sym memory.0) (subst (λ (m : List Area). Memories m s a.memory) (sym same.0) at.memory);
      fixed = fixed;
      input = memory.1 ∙ at.input ∙ sym same.1;
      space = space;
      small = keeps_small a t [] at.small (step-at k stands a at.pc ∙ e);
    };
  }

  -- a word that gives a register, whichever it is
  pub gives_any : (low slots k : ℕ) (w w' : World) (s : Area) (a : State) (i : Instr) (d v : ℕ) → k < 2 ^ 18 → Stands code k i → Here low slots k w s a → effect i a ≡ gives a d v → (w'.memory ≡ w.memory) × (w'.input ≡ w.input) → Fixed w' (put a.registers d v) → One low slots k 1 (k + 1) w' s a (given a d v)
  gives_any low slots k w w' s a i d v l stands at e same fixed =
      leads low slots low slots k (k + 1) 0 w w' s a (given a d v) i stands at e (ap (λ (n : ℕ). add64 n 4) at.pc ∙ next_word k l) at.sp (refl, refl) same fixed at.space

  -- a jump, which is no word where its target is the next
  pub record Jumped (falls : Bool) (low slots k t : ℕ) (w : World) (s : Area) (a : State) : Type 0 where
    pub after : State
    pub way : Way code k (length (jump_words falls k t)) a after
    pub at : Here low slots t w s after
    pub registers : after.registers ≡ a.registers

  pub jump_does : (falls : Bool) (low slots k t : ℕ) (w : World) (s : Area) (a : State) → t < 2 ^ 18 → (falls ≡ true → t ≡ k) → StandAll code k (jump_words falls k t) → Here low slots k w s a → Jumped falls low slots k t w s a
  jump_does true low slots k t w s a u next stands at = record { after = a; way = way_none code k a; at = subst (λ n. Here low slots n w s a) (sym (next refl)) at; registers = refl }
  jump_does false low slots k t w s a u next stands at =
      let v = stands.0 in
      let reaches : branch_to 26 (address_of k) (branch_field 26 (address_of k) (address_of t)) ≡ address_of t = branch_26_reaches (address_of k) (address_of t) (omega (arith, v)) (omega (arith, u)) (omega arith) (omega arith) (omega (arith, u)) (omega (arith, v)) in
      let to : State = record a { pc = address_of t } in
      let does : effect (B (branch_field 26 (address_of k) (address_of t))) a ≡ Moves [] to = ap (λ (n : ℕ). goes a (branch_to 26 n (branch_field 26 (address_of k) (address_of t)))) at.pc ∙ ap (goes a) reaches in
      let r = leads low slots low slots k t 0 w w s a to (B (branch_field 26 (address_of k) (address_of t))) stands.1 at does refl at.sp (refl, refl) (refl, refl) at.fixed at.space in
      record { after = to; way = r.way; at = r.at; registers = refl }
