-- Words that give registers, test, and skip others: the parts of operations.
use Rattle.std.proofs.Common.{◌≡◌, ℕ, suc, ◌+◌, ◌*◌, ◌<◌, ◌^◌, ◌==◌, ◌⊎◌, ⊎_elim, inr, List, [], ◌∷◌, Bool, true, false, not, Some, refl, arith, sym, ap, ap₂, ◌∙◌, subst, lit<, ne_eqb}
use Rattle.std.specs.Prelude.{if◌then◌else◌}
use Rattle.run_laws.specs.Runs.{Moves}
use Rattle.a64_memory.specs.Memory.{Area, load1, load8}
use Rattle.wrapping_numbers.specs.Numbers.{add64, sub64}
use Rattle.a64_numbers.specs.Branches.{branch_to}
use Rattle.wrapping_numbers.specs.Shifts.{lsl64}
use Rattle.a64_numbers.specs.Conditions.{subs_flags, holds}
use Rattle.a64_numbers.specs.declared.flags.Flags.{Flags}
use Rattle.a64_numbers.proofs.Branches.{branch_forward_19}
use Rattle.wrapping_numbers.proofs.Amounts.{lsl64_zero}
use Rattle.a64_instr.specs.declared.instr.Shift.TheVariants.{Lsl}
use Rattle.a64_instr.specs.declared.instr.Cond.{Cond}
use Rattle.a64_instr.specs.declared.instr.Instr.{Instr}
use Rattle.a64_instr.specs.declared.instr.Instr.TheVariants.{SubsReg, SubsImm, BCond, Cbz, Cbnz, Brk, Ldr, Ldrb}
use Rattle.a64_machine.specs.State.{State, Broke, address_of, put, read, read_or_sp, place_at}
use Rattle.a64_machine.specs.Effects.{effect, gives, gives_or_sp, goes, goes_if, loads}
use Rattle.a64_machine.specs.Machine.{step_of}
use Rattle.a64_machine.proofs.Registers.{read_is, put_other}
use Rattle.a64_machine.proofs.Steps.{walks-none, place-address, StandAll}
use Rattle.block_runs.specs.States.{World}
use Rattle.placed_code.specs.Words.{tests, breaks_unless}
use Rattle.a64_runtime.specs.Routines.{against}
use Rattle.placed_code.proofs.Stack.{load_flows, load_flows_byte}
use Rattle.placed_code.proofs.Slots.{Plain, fixed_put}
use Rattle.a64_machine.proofs.Ways.{Way, way_none, way_append, Stops, stops_behind}
use Rattle.placed_code.proofs.Leading.{next_word, Here, leads}
use Rattle.placed_code.proofs.Entries.{stops_here}
use Rattle.a64_machine.proofs.Numbers.{Numbers}
use Rattle.a64_machine.specs.State as why

-- what is kept by words that give register d, with X16, X17 and X26 as scratch
abbrev pub Kept : ℕ → ℕ → Type 0
Kept d m = ((m < 16) ⊎ (m ≡ 25)) × (m ≡ d → ⊥)

-- so words may write register e
abbrev pub Free : ℕ → ℕ → Type 0
Free d e = (m : ℕ) → Kept d m → m ≡ e → ⊥

pub free_self : (d : ℕ) → Free d d
free_self d = λ m k e. k.1 e

pub free_16 : (d : ℕ) → Free d 16
free_16 d = λ m k e. ⊎_elim (λ l. omega (arith, l, e)) (λ l. omega (arith, l, e)) k.0

pub free_17 : (d : ℕ) → Free d 17
free_17 d = λ m k e. ⊎_elim (λ l. omega (arith, l, e)) (λ l. omega (arith, l, e)) k.0

pub free_26 : (d : ℕ) → Free d 26
free_26 d = λ m k e. ⊎_elim (λ l. omega (arith, l, e)) (λ l. omega (arith, l, e)) k.0

pub free_31 : (d : ℕ) → Free d 31
free_31 d = λ m k e. ⊎_elim (λ l. omega (arith, l, e)) (λ l. omega (arith, l, e)) k.0

-- a register written, the flags too
abbrev pub changed : State → ℕ → ℕ → Flags → State
changed a e v flags = record a { pc = add64 a.pc 4; registers = put a.registers e v; flags = flags }

abbrev pub skipped : State → ℕ → State
skipped a k = record a { pc = address_of k }

-- an allocatable register that holds a number
abbrev pub Operand : ℕ → ℕ → State → Type 0
Operand r x a = (r < 16) × (a.registers r ≡ x)

pub reads : (r x : ℕ) (a : State) → Operand r x a → read a.registers r ≡ x
reads r x a o = let l = o.0 in read_is a.registers r (λ z. omega (arith, z, l)) ∙ o.1

pub reads_sp : (r x : ℕ) (a : State) → Operand r x a → read_or_sp a r ≡ x
reads_sp r x a o = let l = o.0 in ap (λ b. if b then a.sp else a.registers r) (ne_eqb r 31 (λ z. omega (arith, z, l))) ∙ o.1

-- it does so still where another register is written
pub operand_on : (r x e v : ℕ) (a : State) (f : Flags) → Operand r x a → (r ≡ e → ⊥) → Operand r x (changed a e v f)
operand_on r x e v a f o ne = (o.0, put_other a.registers e v r ne ∙ o.1)

pub gives_is : (a : State) (d v : ℕ) → d < 31 → gives_or_sp a d v ≡ gives a d v
gives_is a d v l = ap (λ b. Moves [] (record a { pc = add64 a.pc 4; registers = put a.registers d v; sp = if b then v else a.sp })) (ne_eqb d 31 (λ z. omega (arith, z, l)))

module _ (code : List ℕ) (keeps_small : (a b : State) (w : List ℕ) → Numbers a → step_of code a ≡ Moves w b → Numbers b) (frame low slots : ℕ) (w : World) (s : Area) where
  abbrev pub On : ℕ → State → Type 0
  On k a = Here code keeps_small frame low slots k w s a

  -- n words from word k on lead from a to t, and may change register d
  pub record Quiet (k n d : ℕ) (a t : State) : Type 0 where
    pub way : Way code k n a t
    pub at : On (k + n) t
    pub others : (m : ℕ) → Kept d m → t.registers m ≡ a.registers m

  pub quiet_none : (k d : ℕ) (a : State) → On k a → Quiet k 0 d a a
  quiet_none k d a at = let e : k ≡ k + 0 = omega arith in record { way = way_none code k a; at = subst (λ n. On n a) e at; others = λ m h. refl }

  pub word : (k d e v : ℕ) (f : Flags) (a : State) (i : Instr) → Plain e → Free d e → StandAll code k (i ∷ []) → On k a → effect i a ≡ Moves [] (changed a e v f) → Quiet k 1 d a (changed a e v f)
  word k d e v f a i plain free st at does =
      let r = leads code keeps_small frame low slots low slots k (k + 1) 0 w w s a (changed a e v f) i st.1 at does (ap (λ (n : ℕ). add64 n 4) at.pc ∙ next_word k st.0) at.sp (refl, refl) (refl, refl) (fixed_put w a.registers e v plain at.fixed) at.space in
      record { way = r.way; at = r.at; others = λ m h. put_other a.registers e v m (free m h) }

  -- a word that leaves out those behind it
  pub skips : (k d n : ℕ) (a : State) (i : Instr) → StandAll code k (i ∷ []) → On k a → effect i a ≡ Moves [] (skipped a (k + suc n)) → Quiet k (suc n) d a (skipped a (k + suc n))
  skips k d n a i st at does =
      let r = leads code keeps_small frame low slots low slots k (k + suc n) n w w s a (skipped a (k + suc n)) i st.1 at does refl at.sp (refl, refl) (refl, refl) at.fixed at.space in
      record { way = r.way; at = r.at; others = λ m h. refl }

  pub after : (k j m n d : ℕ) (a b c : State) → j ≡ k + m → Quiet k m d a b → Quiet j n d b c → Quiet k (m + n) d a c
  after k j m n d a b c e one two =
      let two' : Quiet (k + m) n d b c = subst (λ i. Quiet i n d b c) e two in
      let f : k + m + n ≡ k + (m + n) = omega arith in
      record { way = way_append code k m n a b c one.way two'.way; at = subst (λ i. On i c) f two'.at; others = λ i h. two'.others i h ∙ one.others i h }

  pub at_of : (k j m d : ℕ) (a b : State) → j ≡ k + m → Quiet k m d a b → On j b
  at_of k j m d a b e q = subst (λ i. On i b) (sym e) q.at

  pub stop_after : (k j m n d : ℕ) (a b : State) (mine : why.Trap) → j ≡ k + m → Quiet k m d a b → Stops code j n b mine → Stops code k (m + n) a mine
  stop_after k j m n d a b mine e one two = stops_behind code k m n a b mine one.way (subst (λ i. Stops code i n b mine) e two)

  -- SUBS of two registers, and of a register and a number
  pub against_does : (k d ra rb x y : ℕ) (a : State) → StandAll code k (against ra rb ∷ []) → On k a → read a.registers ra ≡ x → read a.registers rb ≡ y → y < 2 ^ 64 → Quiet k 1 d a (changed a 31 (sub64 x y) (subs_flags x y))
  against_does k d ra rb x y a st at f g small =
      word k d 31 (sub64 x y) (subs_flags x y) a (SubsReg 31 ra rb Lsl 0) (inr (omega arith)) (free_31 d) st at
      (ap₂ (λ (m n : ℕ). Moves [] (changed a 31 (sub64 m n) (subs_flags m n))) f (ap (λ n. lsl64 n 0) g ∙ lsl64_zero y small))

  pub zeros_does : (k d ra x n : ℕ) (a : State) → StandAll code k (tests ra n ∷ []) → On k a → read_or_sp a ra ≡ x → Quiet k 1 d a (changed a 31 (sub64 x n) (subs_flags x n))
  zeros_does k d ra x n a st at f =
      word k d 31 (sub64 x n) (subs_flags x n) a (SubsImm 31 ra n false) (inr (omega arith)) (free_31 d) st at
      (ap (λ (m : ℕ). Moves [] (changed a 31 (sub64 m n) (subs_flags m n))) f)

  -- branches over the next words
  pub reach : (k n : ℕ) → k < 2 ^ 18 → n < 16 → branch_to 19 (address_of k) n ≡ address_of (k + n)
  reach k n l u = let e : address_of k + 4 * n ≡ address_of (k + n) = omega arith in branch_forward_19 (address_of k) n (omega (arith, u)) (omega (arith, l, u)) ∙ e

  pub skips_if : (k d n : ℕ) (a : State) (c : Cond) → n < 15 → StandAll code k (BCond (suc n) c ∷ []) → On k a → holds c a.flags ≡ true → Quiet k (suc n) d a (skipped a (k + suc n))
  skips_if k d n a c small st at h =
      skips k d n a (BCond (suc n) c) st at
      (ap (λ (b : Bool). goes_if a b (branch_to 19 a.pc (suc n))) h ∙ ap (λ (m : ℕ). goes a (branch_to 19 m (suc n))) at.pc ∙ ap (goes a) (reach k (suc n) st.0 (omega (arith, small))))

  pub goes_on_if : (k d n : ℕ) (a : State) (c : Cond) → StandAll code k (BCond n c ∷ []) → On k a → holds c a.flags ≡ false → Quiet k 1 d a (skipped a (k + 1))
  goes_on_if k d n a c st at h =
      skips k d 0 a (BCond n c) st at
      (ap (λ (b : Bool). goes_if a b (branch_to 19 a.pc n)) h ∙ ap (λ (m : ℕ). goes a (add64 m 4)) at.pc ∙ ap (goes a) (next_word k st.0))

  pub skips_nonzero : (k d n r x : ℕ) (a : State) → n < 15 → StandAll code k (Cbnz r (suc n) ∷ []) → On k a → read a.registers r ≡ x → (x == 0) ≡ false → Quiet k (suc n) d a (skipped a (k + suc n))
  skips_nonzero k d n r x a small st at f h =
      skips k d n a (Cbnz r (suc n)) st at
      (ap (λ (m : ℕ). goes_if a (not (m == 0)) (branch_to 19 a.pc (suc n))) f ∙ ap (λ (b : Bool). goes_if a (not b) (branch_to 19 a.pc (suc n))) h ∙ ap (λ (m : ℕ). goes a (branch_to 19 m (suc n))) at.pc ∙ ap (goes a) (reach k (suc n) st.0 (omega (arith, small))))

  pub goes_on_zero : (k d n r x : ℕ) (a : State) → StandAll code k (Cbnz r n ∷ []) → On k a → read a.registers r ≡ x → (x == 0) ≡ true → Quiet k 1 d a (skipped a (k + 1))
  goes_on_zero k d n r x a st at f h =
      skips k d 0 a (Cbnz r n) st at
      (ap (λ (m : ℕ). goes_if a (not (m == 0)) (branch_to 19 a.pc n)) f ∙ ap (λ (b : Bool). goes_if a (not b) (branch_to 19 a.pc n)) h ∙ ap (λ (m : ℕ). goes a (add64 m 4)) at.pc ∙ ap (goes a) (next_word k st.0))

  pub skips_zero : (k d n r x : ℕ) (a : State) → n < 15 → StandAll code k (Cbz r (suc n) ∷ []) → On k a → read a.registers r ≡ x → (x == 0) ≡ true → Quiet k (suc n) d a (skipped a (k + suc n))
  skips_zero k d n r x a small st at f h =
      skips k d n a (Cbz r (suc n)) st at
      (ap (λ (m : ℕ). goes_if a (m == 0) (branch_to 19 a.pc (suc n))) f ∙ ap (λ (b : Bool). goes_if a b (branch_to 19 a.pc (suc n))) h ∙ ap (λ (m : ℕ). goes a (branch_to 19 m (suc n))) at.pc ∙ ap (goes a) (reach k (suc n) st.0 (omega (arith, small))))

  pub goes_on_nonzero : (k d n r x : ℕ) (a : State) → StandAll code k (Cbz r n ∷ []) → On k a → read a.registers r ≡ x → (x == 0) ≡ false → Quiet k 1 d a (skipped a (k + 1))
  goes_on_nonzero k d n r x a st at f h =
      skips k d 0 a (Cbz r n) st at
      (ap (λ (m : ℕ). goes_if a (m == 0) (branch_to 19 a.pc n)) f ∙ ap (λ (b : Bool). goes_if a b (branch_to 19 a.pc n)) h ∙ ap (λ (m : ℕ). goes a (add64 m 4)) at.pc ∙ ap (goes a) (next_word k st.0))

  -- BRK
  pub breaks : (k kind : ℕ) (a : State) → StandAll code k (Brk kind ∷ []) → On k a → Stops code k 1 a (Broke kind k)
  breaks k kind a st at = record {
    after = a;
    places = [];
    walk = walks-none code a;
    stops = stops_here code keeps_small frame low slots k kind w s a st.1 at;
    within = λ h. let p = ap h (ap place_at at.pc ∙ place-address k) in omega (arith, p);
    located = (omega arith, omega arith);
  }

  -- a test with its BRK
  pub unless_does : (k d kind : ℕ) (a : State) (c : Cond) → StandAll code k (breaks_unless c kind) → On k a → holds c a.flags ≡ true → Quiet k 2 d a (skipped a (k + 2))
  unless_does k d kind a c st at h = skips_if k d 1 a c (lit< tt) (st.0, st.1, tt) at h

  pub unless_stops : (k kind : ℕ) (a : State) (c : Cond) → StandAll code k (breaks_unless c kind) → On k a → holds c a.flags ≡ false → Stops code k 2 a (Broke kind (suc k))
  unless_stops k kind a c st at h =
      let e : suc k ≡ k + 1 = omega arith in
      let q = goes_on_if k 16 2 a c (st.0, st.1, tt) at h in
      stop_after k (suc k) 1 1 16 a (skipped a (k + 1)) (Broke kind (suc k)) e q (breaks (suc k) kind (skipped a (k + 1)) st.2 (at_of k (suc k) 1 16 a (skipped a (k + 1)) e q))

  -- loads from the flows' memory
  pub load_does : (k d e r x n v : ℕ) (a : State) → Plain e → Free d e → StandAll code k (Ldr e r n ∷ []) → On k a → read_or_sp a r ≡ x → load8 w.memory (add64 x (8 * n)) ≡ Some v → Quiet k 1 d a (changed a e v a.flags)
  load_does k d e r x n v a plain free st at f h =
      word k d e v a.flags a (Ldr e r n) plain free st at
      (ap (λ (m : ℕ). loads a e (add64 m (8 * n)) (load8 a.memory (add64 m (8 * n)))) f ∙ ap (loads a e (add64 x (8 * n))) (load_flows w.memory s a.memory at.memory (add64 x (8 * n)) v h))

  pub load_byte_does : (k d e r x n v : ℕ) (a : State) → Plain e → Free d e → StandAll code k (Ldrb e r n ∷ []) → On k a → read_or_sp a r ≡ x → load1 w.memory (add64 x n) ≡ Some v → Quiet k 1 d a (changed a e v a.flags)
  load_byte_does k d e r x n v a plain free st at f h =
      word k d e v a.flags a (Ldrb e r n) plain free st at
      (ap (λ (m : ℕ). loads a e (add64 m n) (load1 a.memory (add64 m n))) f ∙ ap (loads a e (add64 x n)) (load_flows_byte w.memory s a.memory at.memory (add64 x n) v h))
