-- Words that change registers and flags alone: they write nothing, and leave SP, memory and input as they are.
use Rattle.std.proofs.Common.{◌≡◌, ℕ, suc, ◌+◌, ◌*◌, ◌<◌, ◌^◌, ◌==◌, List, [], Bool, true, false, not, refl, arith, ap, ap₂, ◌∙◌, subst}
use Rattle.run_laws.specs.Runs.{Moves}
use Rattle.wrapping_numbers.specs.Numbers.{add64, sub64}
use Rattle.wrapping_numbers.specs.Shifts.{lsl64}
use Rattle.wrapping_numbers.proofs.Amounts.{lsl64_zero}
use Rattle.a64_numbers.specs.Branches.{branch_to}
use Rattle.a64_numbers.specs.Conditions.{subs_flags, holds}
use Rattle.a64_numbers.specs.declared.flags.Flags.{Flags}
use Rattle.a64_numbers.proofs.Branches.{branch_forward_19}
use Rattle.a64_instr.specs.declared.instr.Shift.TheVariants.{Lsl}
use Rattle.a64_instr.specs.declared.instr.Cond.{Cond}
use Rattle.a64_instr.specs.declared.instr.Instr.{Instr}
use Rattle.a64_instr.specs.declared.instr.Instr.TheVariants.{SubsReg, SubsImm, BCond, Cbz, Cbnz}
use Rattle.a64_machine.specs.State.{State, Trap, address_of, put, read, read_or_sp}
use Rattle.a64_machine.specs.Effects.{effect, goes, goes_if}
use Rattle.a64_machine.proofs.Registers.{put_other}
use Rattle.a64_machine.proofs.Steps.{Stands, walks-one, next_pc}
use Rattle.a64_machine.proofs.Ways.{Way, way_none, way_one, way_append, Stops, stops_behind}

-- a state with a register and the flags written, and one that goes on at another word
abbrev pub changed : State → ℕ → ℕ → Flags → State
changed a e v flags = record a { pc = add64 a.pc 4; registers = put a.registers e v; flags = flags }

abbrev pub moved_to : State → ℕ → State
moved_to a k = record a { pc = address_of k }

-- the words keep these registers, so they may write register e
abbrev pub MayWrite : (ℕ → Type 0) → ℕ → Type 0
MayWrite Kept e = (m : ℕ) → Kept m → m ≡ e → ⊥

-- n words from word k on lead from a to t, and keep these registers
pub record Quiet (code : List ℕ) (Kept : ℕ → Type 0) (k n : ℕ) (a t : State) : Type 0 where
  pub way : Way code k n a t
  pub pc : t.pc ≡ address_of (k + n)
  pub sp : t.sp ≡ a.sp
  pub memory : t.memory ≡ a.memory
  pub input : t.input ≡ a.input
  pub kept : (m : ℕ) → Kept m → t.registers m ≡ a.registers m

module _ (code : List ℕ) (Kept : ℕ → Type 0) where
  pub quiet_none : (k : ℕ) (a : State) → a.pc ≡ address_of k → Quiet code Kept k 0 a a
  quiet_none k a here = let e : k ≡ k + 0 = omega arith in record { way = way_none code k a; pc = here ∙ ap address_of e; sp = refl; memory = refl; input = refl; kept = λ m h. refl }

  -- a word that writes a register and flags
  pub quiet_word : (k e v : ℕ) (f : Flags) (a : State) (i : Instr) → k < 2 ^ 32 → MayWrite Kept e → Stands code k i → a.pc ≡ address_of k → effect i a ≡ Moves [] (changed a e v f) → Quiet code Kept k 1 a (changed a e v f)
  quiet_word k e v f a i small free stands here does = record {
    way = way_one code k 0 a (changed a e v f) (walks-one k stands a here does);
    pc = ap (λ (n : ℕ). add64 n 4) here ∙ next_pc k small;
    sp = refl;
    memory = refl;
    input = refl;
    kept = λ m h. put_other a.registers e v m (free m h);
  }

  -- a word that leaves out the n behind it
  pub quiet_skip : (k n : ℕ) (a : State) (i : Instr) → Stands code k i → a.pc ≡ address_of k → effect i a ≡ Moves [] (moved_to a (k + suc n)) → Quiet code Kept k (suc n) a (moved_to a (k + suc n))
  quiet_skip k n a i stands here does = record {
    way = way_one code k n a (moved_to a (k + suc n)) (walks-one k stands a here does);
    pc = refl;
    sp = refl;
    memory = refl;
    input = refl;
    kept = λ m h. refl;
  }

  -- words behind words
  pub quiet_append : (k j m n : ℕ) (a b c : State) → j ≡ k + m → Quiet code Kept k m a b → Quiet code Kept j n b c → Quiet code Kept k (m + n) a c
  quiet_append k j m n a b c e one two =
      let more : j + n ≡ k + (m + n) = omega (arith, e) in
      record {
        way = way_append code k m n a b c one.way (subst (λ i. Way code i n b c) e two.way);
        pc = two.pc ∙ ap address_of more;
        sp = two.sp ∙ one.sp;
        memory = two.memory ∙ one.memory;
        input = two.input ∙ one.input;
        kept = λ i h. two.kept i h ∙ one.kept i h;
      }

  pub quiet_stops : (k j m n : ℕ) (a b : State) (mine : Trap) → j ≡ k + m → Quiet code Kept k m a b → Stops code j n b mine → Stops code k (m + n) a mine
  quiet_stops k j m n a b mine e one two = stops_behind code k m n a b mine one.way (subst (λ i. Stops code i n b mine) e two)

  -- SUBS of two registers, and of a register and a number, whose difference is dropped
  pub compares_registers : (k ra rb x y : ℕ) (a : State) → k < 2 ^ 32 → MayWrite Kept 31 → Stands code k (SubsReg 31 ra rb Lsl 0) → a.pc ≡ address_of k → read a.registers ra ≡ x → read a.registers rb ≡ y → y < 2 ^ 64
      → Quiet code Kept k 1 a (changed a 31 (sub64 x y) (subs_flags x y))
  compares_registers k ra rb x y a small free st here f g lt =
      quiet_word k 31 (sub64 x y) (subs_flags x y) a (SubsReg 31 ra rb Lsl 0) small free st here
      (ap₂ (λ (m n : ℕ). Moves [] (changed a 31 (sub64 m n) (subs_flags m n))) f (ap (λ n. lsl64 n 0) g ∙ lsl64_zero y lt))

  pub compares_number : (k ra x n : ℕ) (a : State) → k < 2 ^ 32 → MayWrite Kept 31 → Stands code k (SubsImm 31 ra n false) → a.pc ≡ address_of k → read_or_sp a ra ≡ x → Quiet code Kept k 1 a (changed a 31 (sub64 x n) (subs_flags x n))
  compares_number k ra x n a small free st here f =
      quiet_word k 31 (sub64 x n) (subs_flags x n) a (SubsImm 31 ra n false) small free st here
      (ap (λ (m : ℕ). Moves [] (changed a 31 (sub64 m n) (subs_flags m n))) f)

  -- branches over words, taken and not
  pub reach : (k n : ℕ) → k < 2 ^ 32 → n < 2 ^ 18 → branch_to 19 (address_of k) n ≡ address_of (k + n)
  reach k n l u = let e : address_of k + 4 * n ≡ address_of (k + n) = omega arith in branch_forward_19 (address_of k) n (omega (arith, u)) (omega (arith, l, u)) ∙ e

  taken : (k n : ℕ) (a : State) → k < 2 ^ 32 → suc n < 2 ^ 18 → a.pc ≡ address_of k → goes a (branch_to 19 a.pc (suc n)) ≡ Moves [] (moved_to a (k + suc n))
  taken k n a small near here = ap (λ (m : ℕ). goes a (branch_to 19 m (suc n))) here ∙ ap (goes a) (reach k (suc n) small near)

  passed : (k : ℕ) (a : State) → k < 2 ^ 32 → a.pc ≡ address_of k → goes a (add64 a.pc 4) ≡ Moves [] (moved_to a (k + 1))
  passed k a small here = ap (λ (m : ℕ). goes a (add64 m 4)) here ∙ ap (goes a) (next_pc k small)

  pub skips_if : (k n : ℕ) (a : State) (c : Cond) → k < 2 ^ 32 → suc n < 2 ^ 18 → Stands code k (BCond (suc n) c) → a.pc ≡ address_of k → holds c a.flags ≡ true → Quiet code Kept k (suc n) a (moved_to a (k + suc n))
  skips_if k n a c small near st here h = quiet_skip k n a (BCond (suc n) c) st here (ap (λ (b : Bool). goes_if a b (branch_to 19 a.pc (suc n))) h ∙ taken k n a small near here)

  pub goes_on_if : (k n : ℕ) (a : State) (c : Cond) → k < 2 ^ 32 → Stands code k (BCond n c) → a.pc ≡ address_of k → holds c a.flags ≡ false → Quiet code Kept k 1 a (moved_to a (k + 1))
  goes_on_if k n a c small st here h = quiet_skip k 0 a (BCond n c) st here (ap (λ (b : Bool). goes_if a b (branch_to 19 a.pc n)) h ∙ passed k a small here)

  pub skips_zero : (k n r x : ℕ) (a : State) → k < 2 ^ 32 → suc n < 2 ^ 18 → Stands code k (Cbz r (suc n)) → a.pc ≡ address_of k → read a.registers r ≡ x → (x == 0) ≡ true → Quiet code Kept k (suc n) a (moved_to a (k + suc n))
  skips_zero k n r x a small near st here f h =
      quiet_skip k n a (Cbz r (suc n)) st here
      (ap (λ (m : ℕ). goes_if a (m == 0) (branch_to 19 a.pc (suc n))) f ∙ ap (λ (b : Bool). goes_if a b (branch_to 19 a.pc (suc n))) h ∙ taken k n a small near here)

  pub goes_on_nonzero : (k n r x : ℕ) (a : State) → k < 2 ^ 32 → Stands code k (Cbz r n) → a.pc ≡ address_of k → read a.registers r ≡ x → (x == 0) ≡ false → Quiet code Kept k 1 a (moved_to a (k + 1))
  goes_on_nonzero k n r x a small st here f h =
      quiet_skip k 0 a (Cbz r n) st here
      (ap (λ (m : ℕ). goes_if a (m == 0) (branch_to 19 a.pc n)) f ∙ ap (λ (b : Bool). goes_if a b (branch_to 19 a.pc n)) h ∙ passed k a small here)

  pub skips_nonzero : (k n r x : ℕ) (a : State) → k < 2 ^ 32 → suc n < 2 ^ 18 → Stands code k (Cbnz r (suc n)) → a.pc ≡ address_of k → read a.registers r ≡ x → (x == 0) ≡ false → Quiet code Kept k (suc n) a (moved_to a (k + suc n))
  skips_nonzero k n r x a small near st here f h =
      quiet_skip k n a (Cbnz r (suc n)) st here
      (ap (λ (m : ℕ). goes_if a (not (m == 0)) (branch_to 19 a.pc (suc n))) f ∙ ap (λ (b : Bool). goes_if a (not b) (branch_to 19 a.pc (suc n))) h ∙ taken k n a small near here)

  pub goes_on_zero : (k n r x : ℕ) (a : State) → k < 2 ^ 32 → Stands code k (Cbnz r n) → a.pc ≡ address_of k → read a.registers r ≡ x → (x == 0) ≡ true → Quiet code Kept k 1 a (moved_to a (k + 1))
  goes_on_zero k n r x a small st here f h =
      quiet_skip k 0 a (Cbnz r n) st here
      (ap (λ (m : ℕ). goes_if a (not (m == 0)) (branch_to 19 a.pc n)) f ∙ ap (λ (b : Bool). goes_if a (not b) (branch_to 19 a.pc n)) h ∙ passed k a small here)
