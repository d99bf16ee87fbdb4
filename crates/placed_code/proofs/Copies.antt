-- Words that move numbers between registers and slots of the frame.
use Rattle.std.proofs.Common.{◌≡◌, ℕ, ◌+◌, ◌*◌, ◌<◌, ◌≤◌, ◌^◌, ◌⊎◌, ⊎_elim, inl, inr, ◌==◌, List, length, Bool, false, refl, arith, sym, ap, ◌∙◌, subst, length-append}
use Rattle.std.specs.Prelude.{bit_or}
use Rattle.std.proofs.lemmas.Bool.Decides.{nat_tests, eqb_tells}
use Rattle.std.proofs.lemmas.Nat.{or_shifted}
use Rattle.run_laws.specs.Runs.{Moves}
use Rattle.wrapping_numbers.specs.Shifts.{lsl64}
use Rattle.a64_memory.specs.Memory.{Area}
use Rattle.a64_instr.specs.declared.instr.Shift.TheVariants.{Lsl}
use Rattle.a64_instr.specs.declared.instr.Instr.TheVariants.{OrrReg}
use Rattle.a64_machine.specs.State.{State, put}
use Rattle.a64_machine.specs.Effects.{effect, gives}
use Rattle.a64_machine.specs.Machine.{step_of}
use Rattle.a64_machine.proofs.Registers.{read_is, put_same, put_other}
use Rattle.a64_machine.proofs.Steps.{StandAll, stand_append}
use Rattle.block_runs.specs.States.{World}
use Rattle.placed_code.specs.Words.{Where, InReg, InSlot, load_slot, store_slot, move}
use Rattle.placed_code.proofs.Stack.{held, with_held, Space, slot_lies}
use Rattle.placed_code.proofs.Slots.{Plain, At, Passed, gives_does, given, load_does, store_does, passed_append}
use Rattle.a64_machine.proofs.Numbers.{Numbers}
use Rattle.a64_memory.proofs.Parts.{held_same}
use Rattle.a64_memory.proofs.Parts.{held_apart}

-- what stands in a register or a slot
abbrev pub at_where : Area → ℕ → (ℕ → ℕ) → Where → ℕ
at_where s low r (InReg n) = r n
at_where s low r (InSlot j) = held s (low + 8 * j)

-- a register that copies may use, and a slot that isn't the link's
abbrev pub Usable : ℕ → Type 0
Usable n = (n < 17) ⊎ (n ≡ 25)

abbrev pub Ok : ℕ → ℕ → Where → Type 0
Ok slots link (InReg n) = Usable n
Ok slots link (InSlot j) = (j ≡ link → ⊥) × (j < slots)

pub usable_plain : (n : ℕ) → Usable n → Plain n
usable_plain n u = ⊎_elim (λ x. inl (omega (arith, x))) (λ x. inr (omega (arith, x))) u

pub usable_31 : (n : ℕ) → Usable n → n ≡ 31 → ⊥
usable_31 n u e = ⊎_elim (λ x. omega (arith, x, e)) (λ x. omega (arith, x, e)) u

usable_17 : (n : ℕ) → Usable n → n ≡ 17 → ⊥
usable_17 n u e = ⊎_elim (λ x. omega (arith, x, e)) (λ x. omega (arith, x, e)) u

usable_26 : (n : ℕ) → Usable n → n ≡ 26 → ⊥
usable_26 n u e = ⊎_elim (λ x. omega (arith, x, e)) (λ x. omega (arith, x, e)) u

usable_lt : (n : ℕ) → Usable n → n < 31
usable_lt n u = ⊎_elim (λ x. omega (arith, x)) (λ x. omega (arith, x)) u

abbrev pub same_where : Where → Where → Bool
same_where (InReg m) (InReg n) = m == n
same_where (InSlot i) (InSlot j) = i == j
same_where _ _ = false

differ : (m n : ℕ) → (m == n) ≡ false → m ≡ n → ⊥
differ m n e = ⊎_elim (λ t. let x = t.1 in cc) (λ f. f.1) (eqb_tells m n)

cases_ne : (i j : ℕ) → (i ≡ j → ⊥) → (i < j) ⊎ (j < i)
cases_ne i j d = grind (arith, nat_tests)

module _ (code : List ℕ) (keeps_small : (a b : State) (w : List ℕ) → Numbers a → step_of code a ≡ Moves w b → Numbers b) (frame : ℕ) where
  -- a copy between registers
  copies_number : (x : ℕ) → x < 2 ^ 64 → bit_or 0 (lsl64 x 0) ≡ x
  copies_number x l = let e : lsl64 x 0 ≡ x = grind (arith, l) in let f : 0 * 2 ^ 64 + x ≡ x = omega arith in ap (λ n. bit_or 0 n) e ∙ or_shifted 0 64 x l ∙ f

  pub register_copies : (a : State) (d f : ℕ) → f < 31 → Numbers a → effect (OrrReg d 31 f Lsl 0) a ≡ gives a d (a.registers f)
  register_copies a d f l small = ap (λ (n : ℕ). gives a d (bit_or 0 (lsl64 n 0))) (read_is a.registers f (λ e. omega (arith, e, l))) ∙ ap (gives a d) (copies_number (a.registers f) (small.registers f))

  abbrev On : ℕ → ℕ → ℕ → World → Area → State → Type 0
  On low slots k w s a = At code keeps_small frame low slots k w s a

  -- words passed on the way, with what may have changed in the stack
  pub record Moved (low slots link k n : ℕ) (w : World) (s : Area) (a : State) (to from : Where) : Type 0 where
    pub after : State
    pub stack : Area
    pub passed : Passed code keeps_small frame low slots k n w stack a after
    pub there : at_where stack low after.registers to ≡ at_where s low a.registers from
    pub others : (x : Where) → Ok slots link x → same_where x to ≡ false → at_where stack low after.registers x ≡ at_where s low a.registers x
    pub outside : (q : ℕ) → (q ≡ low + 8 * link) ⊎ (low + 8 * slots ≤ q) → held stack q ≡ held s q

  slots_apart : (low i j : ℕ) → (i == j) ≡ false → (low + 8 * i + 8 ≤ low + 8 * j) ⊎ (low + 8 * j + 8 ≤ low + 8 * i)
  slots_apart low i j e = let d = differ i j e in ⊎_elim (λ l. inl (omega arith)) (λ l. inr (omega arith)) (cases_ne i j d)

  one_slot : (low slots link : ℕ) (s : Area) (j v : ℕ) → Space frame s low slots → (j ≡ link → ⊥) × (j < slots) → (q : ℕ) → (q ≡ low + 8 * link) ⊎ (low + 8 * slots ≤ q) → held (with_held s (low + 8 * j) v) q ≡ held s q
  one_slot low slots link s j v space ok q o =
      let h = ok.1 in
      held_apart s (low + 8 * j) v q (slot_lies frame s low slots space j h) (⊎_elim (λ l. at_link l) (λ l. inr (omega (arith, h, l))) o)
    where
      at_link : q ≡ low + 8 * link → (q + 8 ≤ low + 8 * j) ⊎ (low + 8 * j + 8 ≤ q)
      at_link l = ⊎_elim (λ x. inr (omega (arith, l, x))) (λ x. inl (omega (arith, l, x))) (cases_ne j link ok.0)

  -- what a slot's new number leaves as it was, where the registers of copies stay
  elsewhere : (low slots link : ℕ) (s : Area) (a b : State) (j v : ℕ) → Space frame s low slots → (j ≡ link → ⊥) × (j < slots) → ((n : ℕ) → Usable n → b.registers n ≡ a.registers n)
      → (x : Where) → Ok slots link x → same_where x (InSlot j) ≡ false → at_where (with_held s (low + 8 * j) v) low b.registers x ≡ at_where s low a.registers x
  elsewhere low slots link s a b j v space ok same (InReg n) u e = same n u
  elsewhere low slots link s a b j v space ok same (InSlot i) u e = held_apart s (low + 8 * j) v (low + 8 * i) (slot_lies frame s low slots space j ok.1) (slots_apart low i j e)

  pub move_does : (low slots link k : ℕ) (w : World) (s : Area) (a : State) (to from : Where) → Ok slots link to → Ok slots link from → StandAll code k (move to from) → On low slots k w s a → Moved low slots link k (length (move to from)) w s a to from
  move_does low slots link k w s a (InReg d) (InReg f) l l' stands at = record {
    after = given a d (a.registers f);
    stack = s;
    passed = gives_does code keeps_small frame low slots k w s a (OrrReg d 31 f Lsl 0) d (a.registers f) (usable_plain d l) stands.0 stands.1 at (register_copies a d f (usable_lt f l') at.small);
    there = put_same a.registers d (a.registers f) (usable_31 d l);
    others = registers;
    outside = λ q o. refl;
  }
    where
      registers : (x : Where) → Ok slots link x → same_where x (InReg d) ≡ false → at_where s low (put a.registers d (a.registers f)) x ≡ at_where s low a.registers x
      registers (InReg n) ok e = put_other a.registers d (a.registers f) n (differ n d e)
      registers (InSlot j) ok e = refl
  move_does low slots link k w s a (InReg d) (InSlot j) l l' stands at =
      let r = load_does code keeps_small frame low slots k w s a d j (usable_plain d l) (usable_31 d l) l'.1 stands at in
      record {
        after = r.after;
        stack = s;
        passed = r.passed;
        there = r.there;
        others = registers r.after r.others;
        outside = λ q o. refl;
      }
    where
      registers : (b : State) → ((m : ℕ) → (m ≡ d → ⊥) → (m ≡ 26 → ⊥) → b.registers m ≡ a.registers m) → (x : Where) → Ok slots link x → same_where x (InReg d) ≡ false → at_where s low b.registers x ≡ at_where s low a.registers x
      registers b same (InReg n) ok e = same n (differ n d e) (usable_26 n ok)
      registers b same (InSlot i) ok e = refl
  move_does low slots link k w s a (InSlot j) (InReg f) l l' stands at =
      let r = store_does code keeps_small frame low slots k w s a f j (usable_31 f l') (usable_26 f l') l.1 stands at in
      record {
        after = r.after;
        stack = with_held s (low + 8 * j) (a.registers f);
        passed = r.passed;
        there = held_same s (low + 8 * j) (a.registers f) (slot_lies frame s low slots at.space j l.1) (at.small.registers f);
        others = λ x ok e. elsewhere low slots link s a r.after j (a.registers f) at.space l (λ n u. r.others n (usable_26 n u)) x ok e;
        outside = one_slot low slots link s j (a.registers f) at.space l;
      }
  move_does low slots link k w s a (InSlot j) (InSlot i) l l' stands at =
      let x = held s (low + 8 * i) in
      let parts = stand_append code (load_slot 17 i) (store_slot 17 j) k stands in
      let n = length (load_slot 17 i) in
      let one = load_does code keeps_small frame low slots k w s a 17 i (inl (omega arith)) (λ e. omega (arith, e)) l'.1 parts.0 at in
      let two = store_does code keeps_small frame low slots (k + n) w s one.after 17 j (λ e. omega (arith, e)) (λ e. omega (arith, e)) l.1 parts.1 one.passed.at in
      let put : with_held s (low + 8 * j) (one.after.registers 17) ≡ with_held s (low + 8 * j) x = ap (with_held s (low + 8 * j)) one.there in
      let second = subst (λ (t : Area). Passed code keeps_small frame low slots (k + n) (length (store_slot 17 j)) w t one.after two.after) put two.passed in
      record {
        after = two.after;
        stack = with_held s (low + 8 * j) x;
        passed = subst (λ (m : ℕ). Passed code keeps_small frame low slots k m w (with_held s (low + 8 * j) x) a two.after) (sym (length-append (load_slot 17 i) (store_slot 17 j)))
            (passed_append code keeps_small frame low slots k n (length (store_slot 17 j)) w s (with_held s (low + 8 * j) x) a one.after two.after one.passed second);
        there = held_same s (low + 8 * j) x (slot_lies frame s low slots at.space j l.1) (subst (λ (v : ℕ). v < 2 ^ 64) one.there (one.passed.at.small.registers 17));
        others = λ y ok e. elsewhere low slots link s a two.after j x at.space l (λ m u. two.others m (usable_26 m u) ∙ one.others m (usable_17 m u) (usable_26 m u)) y ok e;
        outside = one_slot low slots link s j x at.space l;
      }
