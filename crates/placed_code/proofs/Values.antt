-- Words of values: what they give, and where they fail.
use Rattle.std.proofs.Common.{◌≡◌, ℕ, zero, suc, ◌+◌, ◌-◌, ◌*◌, ◌/◌, ◌%◌, ◌<◌, ◌≤◌, ◌^◌, ◌==◌, inl, List, [], ◌∷◌, map, length, get_or, Bool, true, false, not, cond, Option, Some, None, refl, arith, sym, ap, ap₂, ◌∙◌, subst, lit<}
use Rattle.std.specs.Prelude.{slice_get, bit_and, bit_or, bit_xor, if◌then◌else◌}
use Rattle.std.proofs.lemmas.Nat.{or_shifted}
use Rattle.run_laws.specs.Runs.{Moves}
use Rattle.a64_memory.specs.Memory.{Area, load1, load8}
use Rattle.wrapping_numbers.specs.Numbers.{add64, sub64, neg64, not64, bic64, mul64, madd64, msub64, sdiv64, orn64}
use Rattle.wrapping_numbers.specs.Shifts.{lsl64, lsr64, asr64, ror64}
use Rattle.wrapping_numbers.specs.Sets.{bit_words, span_words, has_words}
use Rattle.wrapping_numbers.specs.Division.{div_words, mod_words}
use Rattle.wrapping_numbers.proofs.Wrapping.{neg64_is, madd_zero, add64_zero, not64_lt, odd_is}
use Rattle.wrapping_numbers.proofs.Amounts.{lsl64_zero, lsl64_lt}
use Rattle.a64_numbers.specs.Moves.{half, movz, movn, movk, moved_by, constant_moves}
use Rattle.a64_numbers.specs.Moves as mv
use Rattle.a64_numbers.specs.declared.moves.Move.{Move}
use Rattle.a64_numbers.specs.declared.moves.Move.TheVariants as m
use Rattle.a64_numbers.specs.Conditions.{compares, holds, subs_flags, opposite, csel, csinc, csneg}
use Rattle.a64_numbers.proofs.Comparisons.{after_subs, set_is, abs_is, max0_is}
use Rattle.a64_numbers.proofs.Operands.{plus_is, minus_is}
use Rattle.a64_numbers.proofs.Constants.{constant_moves_make, two_halves_make}
use Rattle.a64_instr.specs.declared.instr.Shift.TheVariants.{Lsl, Asr}
use Rattle.a64_instr.specs.declared.instr.Cond.{Cond}
use Rattle.a64_instr.specs.declared.instr.Cond.TheVariants.{Eq, Ne, Lo, Ls, Ge, Gt}
use Rattle.a64_instr.specs.declared.instr.Instr.{Instr}
use Rattle.a64_instr.specs.declared.instr.Instr.TheVariants as i
use Rattle.a64_table.specs.Decode.{cond_of}
use Rattle.a64_machine.specs.State.{State, Broke, address_of, put, read, read_or_sp}
use Rattle.a64_machine.specs.Effects.{gives, gives_or_sp}
use Rattle.a64_machine.specs.Effects as machine
use Rattle.a64_memory.specs.Areas.{data_base}
use Rattle.a64_machine.specs.Machine.{step_of}
use Rattle.a64_machine.proofs.Registers.{put_same, read_is, read-put_other}
use Rattle.a64_machine.proofs.Steps.{StandAll}
use Rattle.a64_machine.proofs.Ways.{Stops, stops_longer}
use Rattle.a64_machine.proofs.Numbers.{Numbers}
use Rattle.block_runs.specs.declared.code.Code.{Code}
use Rattle.block_runs.specs.declared.code.Code.TheVariants as f
use Rattle.block_runs.specs.Compares as flows
use Rattle.block_runs.specs.States.{World}
use Rattle.block_runs.specs.Effects.{Effect, Gives, Does, Calls, Begins, Fails, Faults, given_at, unless, level, truth, effect}
use Rattle.placed_code.specs.Words.{load_slot, op_words, move_word, level_words, breaks_unless}
use Rattle.placed_code.proofs.Conditions.{compares_is, not_al}
use Rattle.placed_code.proofs.Stack.{held}
use Rattle.placed_code.proofs.Slots.{Plain}
use Rattle.placed_code.proofs.Slots as slot
use Rattle.placed_code.proofs.Leading.{way_of}
use Rattle.placed_code.proofs.Relation.{Above}
use Rattle.placed_code.proofs.Words.{Free, free_self, free_16, free_17, free_26, changed, skipped, Operand, reads, reads_sp, operand_on, gives_is, On, Quiet, quiet_none, word, after, at_of, stop_after, against_does, zeros_does, unless_does, unless_stops, skips_nonzero, goes_on_zero, skips_zero, goes_on_nonzero, breaks, load_does, load_byte_does}

-- operations that give a number to a register, or pass or fail, and nothing else
abbrev pub is_value : Code → Bool
is_value f.Store = false
is_value f.StoreByte = false
is_value f.New = false
is_value (f.Call p) = false
is_value f.CallAt = false
is_value f.Copy = false
is_value f.Zero = false
is_value f.Compare = false
is_value (f.Svc n) = false
is_value _ = true

-- how many values such an operation reads, and whether it makes one
abbrev pub uses : Code → ℕ
uses (f.Const n) = 0
uses (f.Global n) = 0
uses (f.Local n) = 0
uses (f.Plus n) = 1
uses (f.Code p) = 0
uses (f.Arg i) = 0
uses f.Load = 1
uses f.Store = 2
uses f.LoadByte = 1
uses f.StoreByte = 2
uses f.Add = 2
uses f.Sub = 2
uses f.And = 2
uses f.Or = 2
uses f.Eor = 2
uses f.Bic = 2
uses f.Lsl = 2
uses f.Asr = 2
uses f.Ror = 2
uses f.Mul = 2
uses f.MulAdd = 3
uses f.Neg = 1
uses f.Not = 1
uses f.Abs = 1
uses f.Max0 = 1
uses f.Odd = 1
uses (f.Set k) = 2
uses f.Flip = 1
uses f.Bit = 1
uses f.Span = 2
uses f.Has = 2
uses f.Div = 2
uses f.Mod = 2
uses f.Below = 2
uses f.Fits = 2
uses f.Byte = 1
uses f.Elem = 1
uses f.NotNil = 1
uses f.True = 1
uses (f.IsPtr j) = 2
uses (f.IsTag j) = 2
uses (f.GuardPtr j) = 2
uses (f.GuardTag j) = 2
uses f.New = 3
uses (f.Call p) = 0
uses f.CallAt = 1
uses f.Copy = 3
uses f.Zero = 2
uses f.Compare = 4
uses (f.Svc n) = 0

abbrev pub valued : Code → Bool
valued (f.Const n) = true
valued (f.Global n) = true
valued (f.Local n) = true
valued (f.Plus n) = true
valued (f.Code p) = true
valued (f.Arg i) = true
valued f.Load = true
valued f.Store = false
valued f.LoadByte = true
valued f.StoreByte = false
valued f.Add = true
valued f.Sub = true
valued f.And = true
valued f.Or = true
valued f.Eor = true
valued f.Bic = true
valued f.Lsl = true
valued f.Asr = true
valued f.Ror = true
valued f.Mul = true
valued f.MulAdd = true
valued f.Neg = true
valued f.Not = true
valued f.Abs = true
valued f.Max0 = true
valued f.Odd = true
valued (f.Set k) = true
valued f.Flip = true
valued f.Bit = true
valued f.Span = true
valued f.Has = true
valued f.Div = true
valued f.Mod = true
valued f.Below = false
valued f.Fits = false
valued f.Byte = false
valued f.Elem = false
valued f.NotNil = false
valued f.True = false
valued (f.IsPtr j) = true
valued (f.IsTag j) = true
valued (f.GuardPtr j) = false
valued (f.GuardTag j) = false
valued f.New = true
valued (f.Call p) = false
valued f.CallAt = false
valued f.Copy = false
valued f.Zero = false
valued f.Compare = true
valued (f.Svc n) = false

-- what its number must be, where procedure p begins at word entry p
abbrev pub ValueFits : (ℕ → ℕ) → Code → Type 0
ValueFits entry (f.Const n) = n < 2 ^ 64
ValueFits entry (f.Global n) = n < 2 ^ 24
ValueFits entry (f.Local n) = n < 2 ^ 24
ValueFits entry (f.Plus n) = n < 2 ^ 24
ValueFits entry (f.Code p) = entry p ≤ 2 ^ 18
ValueFits entry (f.Arg i) = 4 ≤ i
ValueFits entry (f.Set k) = k < 14
ValueFits entry _ = Unit {0}

truth_is : (b : Bool) → cond b 1 0 ≡ truth b
truth_is true = refl
truth_is false = refl

truth_not : (b : Bool) → cond (not b) 0 1 ≡ truth b
truth_not true = refl
truth_not false = refl

pub small_of : (r x : ℕ) (a : State) → Numbers a → Operand r x a → x < 2 ^ 64
small_of r x a h o = subst (λ n. n < 2 ^ 64) o.1 (h.registers r)

not_reg : (r n : ℕ) → r < 16 → 15 < n → r ≡ n → ⊥
not_reg r n l u e = omega (arith, l, u, e)

pub or_zero : (x : ℕ) → x < 2 ^ 64 → bit_or 0 x ≡ x
or_zero x l = let f : 0 * 2 ^ 64 + x ≡ x = omega arith in or_shifted 0 64 x l ∙ f

-- a register that words for rd may write
abbrev Kept_by : ℕ → ℕ → Type 0
Kept_by d e = Plain e × Free d e

-- a register read where another was written
read_on : (r e v : ℕ) (a : State) → (r ≡ e → ⊥) → read (put a.registers e v) r ≡ read a.registers r
read_on r e v a ne = read-put_other a.registers e v r ne

plus_zero : (x : ℕ) → x < 2 ^ 64 → add64 x (8 * 0) ≡ x
plus_zero x l = add64_zero x l

module _ (code : List ℕ) (keeps_small : (a b : State) (w : List ℕ) → Numbers a → step_of code a ≡ Moves w b → Numbers b) (frame low slots : ℕ) (w : World) (s : Area) where
  abbrev Here : ℕ → State → Type 0
  Here k a = On code keeps_small frame low slots w s k a

  abbrev Still : ℕ → ℕ → ℕ → State → State → Type 0
  Still k n d a t = Quiet code keeps_small frame low slots w s k n d a t

  pub record Gave (k n d x : ℕ) (a : State) : Type 0 where
    pub after : State
    pub quiet : Quiet code keeps_small frame low slots w s k n d a after
    pub there : after.registers d ≡ x

  pub record Passed (k n : ℕ) (a : State) : Type 0 where
    pub after : State
    pub quiet : Quiet code keeps_small frame low slots w s k n 16 a after

  -- what n words come to, whose value has this result
  abbrev pub Outcome : Bool → ℕ → ℕ → ℕ → State → Effect → Type 0
  Outcome true k n d a (Gives x) = Gave k n d x a
  Outcome false k n d a (Gives x) = Passed k n a
  Outcome b k n d a (Fails e) = (place : ℕ) × Stops code k n a (Broke e place)
  Outcome b k n d a (Faults z) = Unit {0}
  Outcome b k n d a (Does bytes after x) = ⊥
  Outcome b k n d a (Calls p args) = ⊥
  Outcome b k n d a (Begins work) = ⊥

  gave_word : (k d v : ℕ) (a : State) (i : Instr) → d < 16 → StandAll code k (i ∷ []) → Here k a → machine.effect i a ≡ gives a d v → Gave k 1 d v a
  gave_word k d v a i small st at does = record {
    after = changed a d v a.flags;
    quiet = word code keeps_small frame low slots w s k d d v a.flags a i (inl (omega (arith, small))) (free_self d) st at does;
    there = put_same a.registers d v (λ e. omega (arith, e, small));
  }

  gave_after : (k m n d x : ℕ) (a b : State) → Still k m d a b → Gave (k + m) n d x b → Gave k (m + n) d x a
  gave_after k m n d x a b q g = record { after = g.after; quiet = after code keeps_small frame low slots w s k (k + m) m n d a b g.after refl q g.quiet; there = g.there }

  -- a register moved by a number in two words
  plus_pair : (k d r x n : ℕ) (a : State) → d < 16 → n < 2 ^ 24 → x < 2 ^ 64 → StandAll code k (i.AddImm d r (n / 2 ^ 12) true ∷ i.AddImm d d (n % 2 ^ 12) false ∷ []) → Here k a → read_or_sp a r ≡ x → Gave k 2 d (add64 x n) a
  plus_pair k d r x n a small l u st at h =
      let v = add64 x (n / 2 ^ 12 * 2 ^ 12) in
      let one = gave_word k d v a (i.AddImm d r (n / 2 ^ 12) true) small (st.0, st.1, tt) at (ap (λ z. gives_or_sp a d (add64 z (n / 2 ^ 12 * 2 ^ 12))) h ∙ gives_is a d v (omega (arith, small))) in
      let b = one.after in
      let e : k + 1 ≡ suc k = omega arith in
      let rd : read_or_sp b d ≡ v = reads_sp d v b (small, one.there) in
      let done : add64 v (n % 2 ^ 12) ≡ add64 x n = plus_is x n u l in
      let two = gave_word (k + 1) d (add64 x n) b (i.AddImm d d (n % 2 ^ 12) false) small (subst (λ j. StandAll code j (i.AddImm d d (n % 2 ^ 12) false ∷ [])) (sym e) st.2) one.quiet.at
      (ap (λ z. gives_or_sp b d (add64 z (n % 2 ^ 12))) rd ∙ gives_is b d (add64 v (n % 2 ^ 12)) (omega (arith, small)) ∙ ap (gives b d) done) in
      gave_after k 1 1 d (add64 x n) a b one.quiet two

  minus_pair : (k d r x n : ℕ) (a : State) → d < 16 → n < 2 ^ 24 → x < 2 ^ 64 → StandAll code k (i.SubImm d r (n / 2 ^ 12) true ∷ i.SubImm d d (n % 2 ^ 12) false ∷ []) → Here k a → read_or_sp a r ≡ x → Gave k 2 d (sub64 x n) a
  minus_pair k d r x n a small l u st at h =
      let v = sub64 x (n / 2 ^ 12 * 2 ^ 12) in
      let one = gave_word k d v a (i.SubImm d r (n / 2 ^ 12) true) small (st.0, st.1, tt) at (ap (λ z. gives_or_sp a d (sub64 z (n / 2 ^ 12 * 2 ^ 12))) h ∙ gives_is a d v (omega (arith, small))) in
      let b = one.after in
      let e : k + 1 ≡ suc k = omega arith in
      let rd : read_or_sp b d ≡ v = reads_sp d v b (small, one.there) in
      let done : sub64 v (n % 2 ^ 12) ≡ sub64 x n = minus_is x n u l in
      let two = gave_word (k + 1) d (sub64 x n) b (i.SubImm d d (n % 2 ^ 12) false) small (subst (λ j. StandAll code j (i.SubImm d d (n % 2 ^ 12) false ∷ [])) (sym e) st.2) one.quiet.at
      (ap (λ z. gives_or_sp b d (sub64 z (n % 2 ^ 12))) rd ∙ gives_is b d (sub64 v (n % 2 ^ 12)) (omega (arith, small)) ∙ ap (gives b d) done) in
      gave_after k 1 1 d (sub64 x n) a b one.quiet two

  -- moves that make a constant
  moves_do : (d : ℕ) → d < 16 → (ms : List Move) (k : ℕ) (a : State) → StandAll code k (map (move_word d) ms) → Here k a → Gave k (length (map (move_word d) ms)) d (moved_by ms (a.registers d)) a
  moves_do d small [] k a st at = record { after = a; quiet = quiet_none code keeps_small frame low slots w s k d a at; there = refl }
  moves_do d small (x ∷ ms) k a st at =
      let one = gave_word k d (mv.moved x (a.registers d)) a (move_word d x) small (st.0, st.1, tt) at (does x) in
      let e : k + 1 ≡ suc k = omega arith in
      let rest = moves_do d small ms (k + 1) one.after (subst (λ j. StandAll code j (map (move_word d) ms)) (sym e) st.2) one.quiet.at in
      let both = gave_after k 1 (length (map (move_word d) ms)) d (moved_by ms (one.after.registers d)) a one.after one.quiet rest in
      let n : 1 + length (map (move_word d) ms) ≡ suc (length (map (move_word d) ms)) = omega arith in
      subst (λ v. Gave k (suc (length (map (move_word d) ms))) d v a) (ap (moved_by ms) one.there) (subst (λ j. Gave k j d (moved_by ms (one.after.registers d)) a) n both)
    where
      does : (x : Move) → machine.effect (move_word d x) a ≡ gives a d (mv.moved x (a.registers d))
      does (m.Movz n j) = refl
      does (m.Movn n j) = refl
      does (m.Movk n j) = ap (λ z. gives a d (movk z n j)) (read_is a.registers d (not_reg d 31 small (lit< tt)))

  module _ (entry : ℕ → ℕ) (start procedures : ℕ) (D : ℕ) (xs args : List ℕ) (above : Above frame s (low + 8 * slots) args) (k : ℕ) (a : State) (at : Here k a) (ra rb rc rd : ℕ) (small : rd < 16) where
    abbrev Carries : Code → ℕ → ℕ → ℕ → Type 0
    Carries kind A B C = StandAll code k (op_words entry start slots k kind ra rb rc rd) → Outcome (valued kind) k (length (op_words entry start slots k kind ra rb rc rd)) rd a (effect (λ p. address_of (entry p)) procedures args w kind A B C D xs)

    sh : (r x : ℕ) → Operand r x a → lsl64 (read a.registers r) 0 ≡ x
    sh r x o = ap (λ n. lsl64 n 0) (reads r x a o) ∙ lsl64_zero x (small_of r x a at.small o)

    on_one : (j : ℕ) (is : List Instr) → StandAll code (suc j) is → StandAll code (j + 1) is
    on_one j is h = let e : j + 1 ≡ suc j = omega arith in subst (λ n. StandAll code n is) (sym e) h

    on_two : (j : ℕ) (is : List Instr) → StandAll code (suc (suc j)) is → StandAll code (j + 2) is
    on_two j is h = let e : j + 2 ≡ suc (suc j) = omega arith in subst (λ n. StandAll code n is) (sym e) h

    on_three : (j : ℕ) (is : List Instr) → StandAll code (suc (suc (suc j))) is → StandAll code (j + 3) is
    on_three j is h = let e : j + 3 ≡ suc (suc (suc j)) = omega arith in subst (λ n. StandAll code n is) (sym e) h

    Neg_does : (A B C : ℕ) → Operand ra A a → Carries f.Neg A B C
    Neg_does A B C oa st = gave_word k rd (neg64 A) a (i.SubReg rd 31 ra Lsl 0) small st at (ap (λ n. gives a rd (sub64 0 n)) (sh ra A oa) ∙ ap (gives a rd) (neg64_is A))

    Not_does : (A B C : ℕ) → Operand ra A a → Carries f.Not A B C
    Not_does A B C oa st = gave_word k rd (not64 A) a (i.OrnReg rd 31 ra Lsl 0) small st at (ap (λ n. gives a rd (orn64 0 n)) (sh ra A oa) ∙ ap (gives a rd) (or_zero (not64 A) (not64_lt A)))

    Add_does : (A B C : ℕ) → Operand ra A a → Operand rb B a → Carries f.Add A B C
    Add_does A B C oa ob st = gave_word k rd (add64 A B) a (i.AddReg rd ra rb Lsl 0) small st at (ap₂ (λ m n. gives a rd (add64 m n)) (reads ra A a oa) (sh rb B ob))

    Sub_does : (A B C : ℕ) → Operand ra A a → Operand rb B a → Carries f.Sub A B C
    Sub_does A B C oa ob st = gave_word k rd (sub64 A B) a (i.SubReg rd ra rb Lsl 0) small st at (ap₂ (λ m n. gives a rd (sub64 m n)) (reads ra A a oa) (sh rb B ob))

    And_does : (A B C : ℕ) → Operand ra A a → Operand rb B a → Carries f.And A B C
    And_does A B C oa ob st = gave_word k rd (bit_and A B) a (i.AndReg rd ra rb Lsl 0) small st at (ap₂ (λ m n. gives a rd (bit_and m n)) (reads ra A a oa) (sh rb B ob))

    Or_does : (A B C : ℕ) → Operand ra A a → Operand rb B a → Carries f.Or A B C
    Or_does A B C oa ob st = gave_word k rd (bit_or A B) a (i.OrrReg rd ra rb Lsl 0) small st at (ap₂ (λ m n. gives a rd (bit_or m n)) (reads ra A a oa) (sh rb B ob))

    Eor_does : (A B C : ℕ) → Operand ra A a → Operand rb B a → Carries f.Eor A B C
    Eor_does A B C oa ob st = gave_word k rd (bit_xor A B) a (i.EorReg rd ra rb Lsl 0) small st at (ap₂ (λ m n. gives a rd (bit_xor m n)) (reads ra A a oa) (sh rb B ob))

    Bic_does : (A B C : ℕ) → Operand ra A a → Operand rb B a → Carries f.Bic A B C
    Bic_does A B C oa ob st = gave_word k rd (bic64 A B) a (i.BicReg rd ra rb Lsl 0) small st at (ap₂ (λ m n. gives a rd (bic64 m n)) (reads ra A a oa) (sh rb B ob))

    Lsl_does : (A B C : ℕ) → Operand ra A a → Operand rb B a → Carries f.Lsl A B C
    Lsl_does A B C oa ob st = gave_word k rd (lsl64 A B) a (i.Lslv rd ra rb) small st at (ap₂ (λ m n. gives a rd (lsl64 m n)) (reads ra A a oa) (reads rb B a ob))

    Asr_does : (A B C : ℕ) → Operand ra A a → Operand rb B a → Carries f.Asr A B C
    Asr_does A B C oa ob st = gave_word k rd (asr64 A B) a (i.Asrv rd ra rb) small st at (ap₂ (λ m n. gives a rd (asr64 m n)) (reads ra A a oa) (reads rb B a ob))

    Ror_does : (A B C : ℕ) → Operand ra A a → Operand rb B a → Carries f.Ror A B C
    Ror_does A B C oa ob st = gave_word k rd (ror64 A B) a (i.Rorv rd ra rb) small st at (ap₂ (λ m n. gives a rd (ror64 m n)) (reads ra A a oa) (reads rb B a ob))

    Mul_does : (A B C : ℕ) → Operand ra A a → Operand rb B a → Carries f.Mul A B C
    Mul_does A B C oa ob st = gave_word k rd (mul64 A B) a (i.Madd rd ra rb 31) small st at (ap₂ (λ m n. gives a rd (madd64 m n 0)) (reads ra A a oa) (reads rb B a ob) ∙ ap (gives a rd) (madd_zero A B))

    MulAdd_does : (A B C : ℕ) → Operand ra A a → Operand rb B a → Operand rc C a → Carries f.MulAdd A B C
    MulAdd_does A B C oa ob oc st = gave_word k rd (madd64 A B C) a (i.Madd rd ra rb rc) small st at (ap₂ (λ m n. gives a rd (madd64 m n (read a.registers rc))) (reads ra A a oa) (reads rb B a ob) ∙ ap (λ n. gives a rd (madd64 A B n)) (reads rc C a oc))

    const_does : (n A B C : ℕ) → n < 2 ^ 64 → Carries (f.Const n) A B C
    const_does n A B C l st = subst (λ v. Gave k (length (map (move_word rd) (constant_moves n))) rd v a) (constant_moves_make n (a.registers rd) l) (moves_do rd small (constant_moves n) k a st at)

    global_does : (n A B C : ℕ) → n < 2 ^ 24 → Carries (f.Global n) A B C
    global_does n A B C l st =
        let e : add64 data_base n ≡ data_base + n = omega (arith, l) in
        subst (λ v. Gave k 2 rd v a) e (plus_pair k rd 24 data_base n a small l (lit< tt) st at at.fixed.globals)

    local_does : (n A B C : ℕ) → n < 2 ^ 24 → Carries (f.Local n) A B C
    local_does n A B C l st = minus_pair k rd 19 w.local n a small l (subst (λ z. z < 2 ^ 64) at.fixed.local (at.small.registers 19)) st at at.fixed.local

    Plus_does : (n A B C : ℕ) → n < 2 ^ 24 → Operand ra A a → Carries (f.Plus n) A B C
    Plus_does n A B C l o st = plus_pair k rd ra A n a small l (small_of ra A a at.small o) st at (reads_sp ra A a o)

    code_does : (p A B C : ℕ) → entry p ≤ 2 ^ 18 → Carries (f.Code p) A B C
    code_does p A B C l st =
        let n = address_of (entry p) in
        let one = gave_word k rd (movz (half n 0) 0) a (i.Movz rd (half n 0) 0) small (st.0, st.1, tt) at refl in
        let b = one.after in
        let v = movk (movz (half n 0) 0) (half n 1) 1 in
        let two = gave_word (k + 1) rd v b (i.Movk rd (half n 1) 1) small (on_one k (i.Movk rd (half n 1) 1 ∷ []) st.2) one.quiet.at (ap (λ z. gives b rd (movk z (half n 1) 1)) (reads rd (movz (half n 0) 0) b (small, one.there))) in
        subst (λ v. Gave k 2 rd v a) (two_halves_make n (omega (arith, l))) (gave_after k 1 1 rd v a b one.quiet two)

    arg_does : (j A B C : ℕ) → 4 ≤ j → Carries (f.Arg j) A B C
    arg_does j A B C l st = by_arg (slice_get args j) refl
      where
        in_list : (xs : List ℕ) (n x : ℕ) → slice_get xs n ≡ Some x → (n < length xs) × (get_or xs n 0 ≡ x)
        in_list [] zero x e = cc
        in_list [] (suc n) x e = cc
        in_list (y ∷ ys) zero x e = (omega arith, cc)
        in_list (y ∷ ys) (suc n) x e = let r = in_list ys n x e in let u = r.0 in (omega (arith, u), r.1)

        by_arg : (o : Option ℕ) → slice_get args j ≡ o → Outcome true k (length (load_slot rd (slots + (j - 4)))) rd a (given_at j o Gives)
        by_arg None e = tt
        by_arg (Some x) e =
            let r = in_list args j x e in
            let u = r.0 in
            let n = slots + (j - 4) in
            let more = slots + (length args - 4) in
            let room = above.room in
            let wide : On code keeps_small frame low more w s k a = record { pc = at.pc; sp = at.sp; memory = at.memory; fixed = at.fixed; input = at.input; small = at.small; space = record { base = at.space.base; size = at.space.size; small = at.space.small; bottom = at.space.bottom; top = omega (arith, room) } } in
            let place : low + 8 * n ≡ low + 8 * slots + 8 * (j - 4) = omega arith in
            let index : j - 4 + 4 ≡ j = omega (arith, l) in
            let is : held s (low + 8 * n) ≡ x = ap (held s) place ∙ above.held (j - 4) (omega (arith, u, l)) ∙ ap (λ z. get_or args z 0) index ∙ r.1 in
            let r = slot.load_does code keeps_small frame low more k w s a rd n (inl (omega (arith, small))) (not_reg rd 31 small (lit< tt)) (omega (arith, u, l)) st wide in
            let there = r.passed.at in
            record {
              after = r.after;
              quiet = record {
                way = way_of code keeps_small frame low more k (length (load_slot rd n)) w s a r.after r.passed;
                at = record { pc = there.pc; sp = there.sp; memory = there.memory; fixed = there.fixed; input = there.input; small = there.small; space = at.space };
                others = λ m kept. r.others m kept.1 (free_26 rd m kept);
              };
              there = r.there ∙ is;
            }

    Load_does : (A B C : ℕ) → Operand ra A a → Carries f.Load A B C
    Load_does A B C o st = by_load (load8 w.memory A) refl
      where
        by_load : (q : Option ℕ) → load8 w.memory A ≡ q → Outcome true k 1 rd a (given_at A q Gives)
        by_load None e = tt
        by_load (Some v) e = record {
          after = changed a rd v a.flags;
          quiet = load_does code keeps_small frame low slots w s k rd rd ra A 0 v a (inl (omega (arith, small))) (free_self rd) st at (reads_sp ra A a o) (ap (load8 w.memory) (plus_zero A (small_of ra A a at.small o)) ∙ e);
          there = put_same a.registers rd v (not_reg rd 31 small (lit< tt));
        }

    LoadByte_does : (A B C : ℕ) → Operand ra A a → Carries f.LoadByte A B C
    LoadByte_does A B C o st = by_load (load1 w.memory A) refl
      where
        by_load : (q : Option ℕ) → load1 w.memory A ≡ q → Outcome true k 1 rd a (given_at A q Gives)
        by_load None e = tt
        by_load (Some v) e = record {
          after = changed a rd v a.flags;
          quiet = load_byte_does code keeps_small frame low slots w s k rd rd ra A 0 v a (inl (omega (arith, small))) (free_self rd) st at (reads_sp ra A a o) (ap (load1 w.memory) (add64_zero A (small_of ra A a at.small o)) ∙ e);
          there = put_same a.registers rd v (not_reg rd 31 small (lit< tt));
        }

    -- a number set in X16, then a word that gives
    scratch : (v : ℕ) (x : ℕ) (first second : Instr) → machine.effect first a ≡ gives a 16 v → StandAll code k (first ∷ second ∷ []) → machine.effect second (changed a 16 v a.flags) ≡ gives (changed a 16 v a.flags) rd x → Gave k 2 rd x a
    scratch v x first second does st does' =
        let b = changed a 16 v a.flags in
        let q = word code keeps_small frame low slots w s k rd 16 v a.flags a first (inl (omega arith)) (free_16 rd) (st.0, st.1, tt) at does in
        gave_after k 1 1 rd x a b q (gave_word (k + 1) rd x b second small (on_one k (second ∷ []) st.2) q.at does')

    Odd_does : (A B C : ℕ) → Operand ra A a → Carries f.Odd A B C
    Odd_does A B C o st = scratch 1 (A % 2) (i.Movz 16 1 0) (i.AndReg rd ra 16 Lsl 0) refl st
        (ap (λ n. gives (changed a 16 1 a.flags) rd (bit_and n 1)) (reads ra A (changed a 16 1 a.flags) (operand_on ra A 16 1 a a.flags o (not_reg ra 16 o.0 (lit< tt)))) ∙ ap (gives (changed a 16 1 a.flags) rd) (odd_is A))

    Bit_does : (A B C : ℕ) → Operand ra A a → Carries f.Bit A B C
    Bit_does A B C o st = scratch 1 (bit_words A) (i.Movz 16 1 0) (i.Lslv rd 16 ra) refl st
        (ap (λ n. gives (changed a 16 1 a.flags) rd (lsl64 1 n)) (reads ra A (changed a 16 1 a.flags) (operand_on ra A 16 1 a a.flags o (not_reg ra 16 o.0 (lit< tt)))))

    -- SUBS with a number, then a word that gives
    abbrev tested : ℕ → ℕ → State
    tested x y = changed a 31 (sub64 x y) (subs_flags x y)

    tests : (A n x : ℕ) (second : Instr) → Operand ra A a → StandAll code k (i.SubsImm 31 ra n false ∷ second ∷ []) → machine.effect second (tested A n) ≡ gives (tested A n) rd x → Gave k 2 rd x a
    tests A n x second o st does =
        let q = zeros_does code keeps_small frame low slots w s k rd ra A n a (st.0, st.1, tt) at (reads_sp ra A a o) in
        gave_after k 1 1 rd x a (tested A n) q (gave_word (k + 1) rd x (tested A n) second small (on_one k (second ∷ []) st.2) q.at does)

    in_tested : (A x y : ℕ) → Operand ra A a → read (tested x y).registers ra ≡ A
    in_tested A x y o = reads ra A (tested x y) (operand_on ra A 31 (sub64 x y) a (subs_flags x y) o (not_reg ra 31 o.0 (lit< tt)))

    Abs_does : (A B C : ℕ) → Operand ra A a → Carries f.Abs A B C
    Abs_does A B C o st = tests A 0 _ (i.Csneg rd ra ra Ge) o st (ap (λ n. gives (tested A 0) rd (csneg Ge (subs_flags A 0) n n)) (in_tested A A 0 o) ∙ ap (gives (tested A 0) rd) (abs_is A (small_of ra A a at.small o)))

    Max0_does : (A B C : ℕ) → Operand ra A a → Carries f.Max0 A B C
    Max0_does A B C o st = tests A 0 _ (i.Csel rd ra 31 Ge) o st (ap (λ n. gives (tested A 0) rd (csel Ge (subs_flags A 0) n 0)) (in_tested A A 0 o) ∙ ap (gives (tested A 0) rd) (max0_is A (small_of ra A a at.small o)))

    Flip_does : (A B C : ℕ) → Operand ra A a → Carries f.Flip A B C
    Flip_does A B C o st = tests A 0 _ (i.Csinc rd 31 31 Ne) o st (ap (λ h. gives (tested A 0) rd (cond h 0 1)) (after_subs Ne A 0 (small_of ra A a at.small o) (lit< tt)) ∙ ap (gives (tested A 0) rd) (truth_not (A == 0)))

    Set_does : (n A B C : ℕ) → n < 14 → Operand ra A a → Operand rb B a → Carries (f.Set n) A B C
    Set_does n A B C near o p st =
        let c = cond_of n in
        let q = against_does code keeps_small frame low slots w s k rd ra rb A B a (st.0, st.1, tt) at (reads ra A a o) (reads rb B a p) (small_of rb B a at.small p) in
        let is : cond (compares c A B) 1 0 ≡ truth (flows.compares n A B) = ap (λ b. cond b 1 0) (sym (compares_is n A B near)) ∙ truth_is (flows.compares n A B) in
        gave_after k 1 1 rd (truth (flows.compares n A B)) a (tested A B) q (gave_word (k + 1) rd (truth (flows.compares n A B)) (tested A B) (i.Csinc rd 31 31 (opposite c)) small (on_one k (i.Csinc rd 31 31 (opposite c) ∷ []) st.2) q.at
        (ap (gives (tested A B) rd) (set_is c (subs_flags A B) (not_al n near) ∙ ap (λ h. cond h 1 0) (after_subs c A B (small_of ra A a at.small o) (small_of rb B a at.small p)) ∙ is)))

    -- tests with BRK
    by_holds : (b : State) (q : Still k 1 16 a b) (c : Cond) (kind : ℕ) → StandAll code (suc k) (breaks_unless c kind) → (t : Bool) → holds c b.flags ≡ t → Outcome false k 3 rd a (unless t kind)
    by_holds b q c kind st true h =
        let r = unless_does code keeps_small frame low slots w s (k + 1) 16 kind b c (on_one k (breaks_unless c kind) st) q.at h in
        record { after = skipped b (k + 1 + 2); quiet = after code keeps_small frame low slots w s k (k + 1) 1 2 16 a b (skipped b (k + 1 + 2)) refl q r }
    by_holds b q c kind st false h =
        let r = unless_stops code keeps_small frame low slots w s (k + 1) kind b c (on_one k (breaks_unless c kind) st) q.at h in
        (suc (k + 1), stop_after code keeps_small frame low slots w s k (k + 1) 1 2 16 a b (Broke kind (suc (k + 1))) refl q r)

    limit : (A n kind : ℕ) → Operand ra A a → n < 2 ^ 12 → StandAll code k (i.SubsImm 31 ra n false ∷ breaks_unless Ls kind) → Outcome false k 3 rd a (unless (compares Ls A n) kind)
    limit A n kind o l st =
        let q = zeros_does code keeps_small frame low slots w s k 16 ra A n a (st.0, st.1, tt) at (reads_sp ra A a o) in
        by_holds (tested A n) q Ls kind st.2 (compares Ls A n) (after_subs Ls A n (small_of ra A a at.small o) (omega (arith, l)))

    Byte_does : (A B C : ℕ) → Operand ra A a → Carries f.Byte A B C
    Byte_does A B C o st = limit A 255 11 o (lit< tt) st

    Elem_does : (A B C : ℕ) → Operand ra A a → Carries f.Elem A B C
    Elem_does A B C o st = limit A 63 7 o (lit< tt) st

    bounded : (A B : ℕ) (c : Cond) (kind : ℕ) → Operand ra A a → Operand rb B a → StandAll code k (i.SubsReg 31 ra rb Lsl 0 ∷ breaks_unless c kind) → Outcome false k 3 rd a (unless (compares c A B) kind)
    bounded A B c kind o p st =
        let q = against_does code keeps_small frame low slots w s k 16 ra rb A B a (st.0, st.1, tt) at (reads ra A a o) (reads rb B a p) (small_of rb B a at.small p) in
        by_holds (tested A B) q c kind st.2 (compares c A B) (after_subs c A B (small_of ra A a at.small o) (small_of rb B a at.small p))

    Below_does : (A B C : ℕ) → Operand ra A a → Operand rb B a → Carries f.Below A B C
    Below_does A B C o p st = bounded A B Lo 1 o p st

    Fits_does : (A B C : ℕ) → Operand ra A a → Operand rb B a → Carries f.Fits A B C
    Fits_does A B C o p st = bounded A B Ls 12 o p st

    nonzero : (A kind : ℕ) → Operand ra A a → StandAll code k (i.Cbnz ra 2 ∷ i.Brk kind ∷ []) → (t : Bool) → (A == 0) ≡ t → Outcome false k 2 rd a (unless (not t) kind)
    nonzero A kind o st false h = record { after = skipped a (k + 2); quiet = skips_nonzero code keeps_small frame low slots w s k 16 1 ra A a (lit< tt) (st.0, st.1, tt) at (reads ra A a o) h }
    nonzero A kind o st true h =
        let q = goes_on_zero code keeps_small frame low slots w s k 16 2 ra A a (st.0, st.1, tt) at (reads ra A a o) h in
        (k + 1, stop_after code keeps_small frame low slots w s k (k + 1) 1 1 16 a (skipped a (k + 1)) (Broke kind (k + 1)) refl q (breaks code keeps_small frame low slots w s (k + 1) kind (skipped a (k + 1)) (on_one k (i.Brk kind ∷ []) st.2) q.at))

    NotNil_does : (A B C : ℕ) → Operand ra A a → Carries f.NotNil A B C
    NotNil_does A B C o st = nonzero A 2 o st (A == 0) refl

    True_does : (A B C : ℕ) → Operand ra A a → Carries f.True A B C
    True_does A B C o st = nonzero A 5 o st (A == 0) refl

    -- further words in a row: each writes a register with what it computes
    step_on : (j m : ℕ) (b : State) (e v : ℕ) (is : Instr) → Still k m rd a b → j ≡ k + m → Kept_by rd e → StandAll code j (is ∷ []) → machine.effect is b ≡ gives b e v → Still k (m + 1) rd a (changed b e v b.flags)
    step_on j m b e v is q z free st does =
        after code keeps_small frame low slots w s k j m 1 rd a b (changed b e v b.flags) z q (word code keeps_small frame low slots w s j rd e v b.flags b is free.0 free.1 st (at_of code keeps_small frame low slots w s k j m rd a b z q) does)

    by_d : Kept_by rd rd
    by_d = (inl (omega (arith, small)), free_self rd)

    by_16 : Kept_by rd 16
    by_16 = (inl (omega arith), free_16 rd)

    by_17 : Kept_by rd 17
    by_17 = (inl (omega arith), free_17 rd)

    Has_does : (A B C : ℕ) → Operand ra A a → Operand rb B a → Carries f.Has A B C
    Has_does A B C o p st =
        let v1 = lsr64 B A in
        let b1 = changed a 16 v1 a.flags in
        let b2 = changed b1 17 1 a.flags in
        let x = has_words A B in
        let b3 = changed b2 rd x a.flags in
        let q0 = quiet_none code keeps_small frame low slots w s k rd a at in
        let q1 = step_on k 0 a 16 v1 (i.Lsrv 16 rb ra) q0 (omega arith) by_16 (st.0, st.1, tt) (ap₂ (λ m n. gives a 16 (lsr64 m n)) (reads rb B a p) (reads ra A a o)) in
        let q2 = step_on (suc k) 1 b1 17 1 (i.Movz 17 1 0) q1 (omega arith) by_17 (st.2.0, st.2.1, tt) refl in
        let q3 = step_on (suc (suc k)) 2 b2 rd x (i.AndReg rd 16 17 Lsl 0) q2 (omega arith) by_d st.2.2 refl in
        record { after = b3; quiet = q3; there = put_same b2.registers rd x (not_reg rd 31 small (lit< tt)) }

    -- SUBS and B.GT over BRK
    positive : (B : ℕ) → Operand rb B a → StandAll code k (i.SubsImm 31 rb 0 false ∷ breaks_unless Gt 4) → compares Gt B 0 ≡ true → Still k 3 rd a (skipped (changed a 31 (sub64 B 0) (subs_flags B 0)) (k + 1 + 2))
    positive B p st h =
        let b = changed a 31 (sub64 B 0) (subs_flags B 0) in
        let q = zeros_does code keeps_small frame low slots w s k rd rb B 0 a (st.0, st.1, tt) at (reads_sp rb B a p) in
        let r = unless_does code keeps_small frame low slots w s (k + 1) rd 4 b Gt (on_one k (breaks_unless Gt 4) st.2) q.at (after_subs Gt B 0 (small_of rb B a at.small p) (lit< tt) ∙ h) in
        after code keeps_small frame low slots w s k (k + 1) 1 2 rd a b (skipped b (k + 1 + 2)) refl q r

    not_positive : (B n : ℕ) → Operand rb B a → StandAll code k (i.SubsImm 31 rb 0 false ∷ breaks_unless Gt 4) → compares Gt B 0 ≡ false → (place : ℕ) × Stops code k (3 + n) a (Broke 4 place)
    not_positive B n p st h =
        let b = changed a 31 (sub64 B 0) (subs_flags B 0) in
        let q = zeros_does code keeps_small frame low slots w s k rd rb B 0 a (st.0, st.1, tt) at (reads_sp rb B a p) in
        let r = unless_stops code keeps_small frame low slots w s (k + 1) 4 b Gt (on_one k (breaks_unless Gt 4) st.2) q.at (after_subs Gt B 0 (small_of rb B a at.small p) (lit< tt) ∙ h) in
        (suc (k + 1), stops_longer code k 3 n a (Broke 4 (suc (k + 1))) (stop_after code keeps_small frame low slots w s k (k + 1) 1 2 rd a b (Broke 4 (suc (k + 1))) refl q r))

    in_positive : (r x y : ℕ) → Operand r x a → (j : ℕ) → read (skipped (changed a 31 (sub64 y 0) (subs_flags y 0)) j).registers r ≡ x
    in_positive r x y o j = reads r x (changed a 31 (sub64 y 0) (subs_flags y 0)) (operand_on r x 31 (sub64 y 0) a (subs_flags y 0) o (not_reg r 31 o.0 (lit< tt)))

    Div_does : (A B C : ℕ) → Operand ra A a → Operand rb B a → Carries f.Div A B C
    Div_does A B C o p st = by_test (compares Gt B 0) refl
      where
        by_test : (t : Bool) → compares Gt B 0 ≡ t → Outcome true k 6 rd a (if t then Gives (div_words A B) else Fails 4)
        by_test false h = not_positive B 3 p (st.0, st.1, (st.2.0, st.2.1, (st.2.2.0, st.2.2.1, tt))) h
        by_test true h =
            let b0 = skipped (changed a 31 (sub64 B 0) (subs_flags B 0)) (k + 1 + 2) in
            let q0 = positive B p (st.0, st.1, (st.2.0, st.2.1, (st.2.2.0, st.2.2.1, tt))) h in
            let ts = st.2.2.2 in
            let v1 = sdiv64 A B in
            let b1 = changed b0 16 v1 b0.flags in
            let v2 = msub64 v1 B A in
            let b2 = changed b1 17 v2 b0.flags in
            let x = div_words A B in
            let b3 = changed b2 rd x b0.flags in
            let fa = in_positive ra A B o (k + 1 + 2) in
            let fb = in_positive rb B B p (k + 1 + 2) in
            let ga : read b1.registers ra ≡ A = read_on ra 16 v1 b0 (not_reg ra 16 o.0 (lit< tt)) ∙ fa in
            let gb : read b1.registers rb ≡ B = read_on rb 16 v1 b0 (not_reg rb 16 p.0 (lit< tt)) ∙ fb in
            let q1 = step_on (suc (suc (suc k))) 3 b0 16 v1 (i.Sdiv 16 ra rb) q0 (omega arith) by_16 (ts.0, ts.1, tt) (ap₂ (λ m n. gives b0 16 (sdiv64 m n)) fa fb) in
            let q2 = step_on (suc (suc (suc (suc k)))) 4 b1 17 v2 (i.Msub 17 16 rb ra) q1 (omega arith) by_17 (ts.2.0, ts.2.1, tt) (ap₂ (λ m n. gives b1 17 (msub64 v1 m n)) gb ga) in
            let q3 = step_on (suc (suc (suc (suc (suc k))))) 5 b2 rd x (i.AddReg rd 16 17 Asr 63) q2 (omega arith) by_d ts.2.2 refl in
            record { after = b3; quiet = q3; there = put_same b2.registers rd x (not_reg rd 31 small (lit< tt)) }

    Mod_does : (A B C : ℕ) → Operand ra A a → Operand rb B a → Carries f.Mod A B C
    Mod_does A B C o p st = by_test (compares Gt B 0) refl
      where
        by_test : (t : Bool) → compares Gt B 0 ≡ t → Outcome true k 7 rd a (if t then Gives (mod_words A B) else Fails 4)
        by_test false h = not_positive B 4 p (st.0, st.1, (st.2.0, st.2.1, (st.2.2.0, st.2.2.1, tt))) h
        by_test true h =
            let b0 = skipped (changed a 31 (sub64 B 0) (subs_flags B 0)) (k + 1 + 2) in
            let q0 = positive B p (st.0, st.1, (st.2.0, st.2.1, (st.2.2.0, st.2.2.1, tt))) h in
            let ts = st.2.2.2 in
            let v1 = sdiv64 A B in
            let b1 = changed b0 16 v1 b0.flags in
            let v2 = msub64 v1 B A in
            let b2 = changed b1 16 v2 b0.flags in
            let v3 = bit_and B (asr64 v2 63) in
            let b3 = changed b2 17 v3 b0.flags in
            let x = mod_words A B in
            let b4 = changed b3 rd x b0.flags in
            let fa = in_positive ra A B o (k + 1 + 2) in
            let fb = in_positive rb B B p (k + 1 + 2) in
            let ga : read b1.registers ra ≡ A = read_on ra 16 v1 b0 (not_reg ra 16 o.0 (lit< tt)) ∙ fa in
            let gb : read b1.registers rb ≡ B = read_on rb 16 v1 b0 (not_reg rb 16 p.0 (lit< tt)) ∙ fb in
            let hb : read b2.registers rb ≡ B = read_on rb 16 v2 b1 (not_reg rb 16 p.0 (lit< tt)) ∙ gb in
            let q1 = step_on (suc (suc (suc k))) 3 b0 16 v1 (i.Sdiv 16 ra rb) q0 (omega arith) by_16 (ts.0, ts.1, tt) (ap₂ (λ m n. gives b0 16 (sdiv64 m n)) fa fb) in
            let q2 = step_on (suc (suc (suc (suc k)))) 4 b1 16 v2 (i.Msub 16 16 rb ra) q1 (omega arith) by_16 (ts.2.0, ts.2.1, tt) (ap₂ (λ m n. gives b1 16 (msub64 v1 m n)) gb ga) in
            let q3 = step_on (suc (suc (suc (suc (suc k))))) 5 b2 17 v3 (i.AndReg 17 rb 16 Asr 63) q2 (omega arith) by_17 (ts.2.2.0, ts.2.2.1, tt) (ap (λ m. gives b2 17 (bit_and m (asr64 v2 63))) hb) in
            let small_3 = q3.at.small.registers 17 in
            let q4 = step_on (suc (suc (suc (suc (suc (suc k)))))) 6 b3 rd x (i.AddReg rd 16 17 Lsl 0) q3 (omega arith) by_d ts.2.2.2 (ap (λ m. gives b3 rd (add64 v2 m)) (lsl64_zero v3 small_3)) in
            record { after = b4; quiet = q4; there = put_same b3.registers rd x (not_reg rd 31 small (lit< tt)) }

    Span_does : (A B C : ℕ) → Operand ra A a → Operand rb B a → Carries f.Span A B C
    Span_does A B C o p st =
        let ones = 2 ^ 64 - 1 in
        let b1 = changed a 16 ones a.flags in
        let v2 = lsl64 ones A in
        let b2 = changed b1 16 v2 a.flags in
        let b3 = changed b2 17 63 a.flags in
        let v4 = sub64 63 B in
        let b4 = changed b3 17 v4 a.flags in
        let b5 = changed b4 rd ones a.flags in
        let v6 = lsr64 ones v4 in
        let b6 = changed b5 rd v6 a.flags in
        let x = span_words A B in
        let b7 = changed b6 rd x a.flags in
        let ne16 : 16 ≡ rd → ⊥ = λ e. omega (arith, e, small) in
        let ne17 : 17 ≡ rd → ⊥ = λ e. omega (arith, e, small) in
        let fa : read b1.registers ra ≡ A = read_on ra 16 ones a (not_reg ra 16 o.0 (lit< tt)) ∙ reads ra A a o in
        let fb : read b3.registers rb ≡ B = read_on rb 17 63 b2 (not_reg rb 17 p.0 (lit< tt)) ∙ read_on rb 16 v2 b1 (not_reg rb 16 p.0 (lit< tt)) ∙ read_on rb 16 ones a (not_reg rb 16 p.0 (lit< tt)) ∙ reads rb B a p in
        let fd5 : read b5.registers rd ≡ ones = reads rd ones b5 (small, put_same b4.registers rd ones (not_reg rd 31 small (lit< tt))) in
        let f17 : read b5.registers 17 ≡ v4 = read_on 17 rd ones b4 ne17 in
        let fd6 : read b6.registers rd ≡ v6 = reads rd v6 b6 (small, put_same b5.registers rd v6 (not_reg rd 31 small (lit< tt))) in
        let f16 : read b6.registers 16 ≡ v2 = read_on 16 rd v6 b5 ne16 ∙ read_on 16 rd ones b4 ne16 in
        let q0 = quiet_none code keeps_small frame low slots w s k rd a at in
        let q1 = step_on k 0 a 16 ones (i.Movn 16 0 0) q0 (omega arith) by_16 (st.0, st.1, tt) refl in
        let q2 = step_on (suc k) 1 b1 16 v2 (i.Lslv 16 16 ra) q1 (omega arith) by_16 (st.2.0, st.2.1, tt) (ap (λ m. gives b1 16 (lsl64 ones m)) fa) in
        let s3 = st.2.2 in
        let q3 = step_on (suc (suc k)) 2 b2 17 63 (i.Movz 17 63 0) q2 (omega arith) by_17 (s3.0, s3.1, tt) refl in
        let s4 = s3.2 in
        let q4 = step_on (suc (suc (suc k))) 3 b3 17 v4 (i.SubReg 17 17 rb Lsl 0) q3 (omega arith) by_17 (s4.0, s4.1, tt) (ap (λ m. gives b3 17 (sub64 63 m)) (ap (λ m. lsl64 m 0) fb ∙ lsl64_zero B (small_of rb B a at.small p))) in
        let s5 = s4.2 in
        let q5 = step_on (suc (suc (suc (suc k)))) 4 b4 rd ones (i.Movn rd 0 0) q4 (omega arith) by_d (s5.0, s5.1, tt) refl in
        let s6 = s5.2 in
        let q6 = step_on (suc (suc (suc (suc (suc k))))) 5 b5 rd v6 (i.Lsrv rd rd 17) q5 (omega arith) by_d (s6.0, s6.1, tt) (ap₂ (λ m n. gives b5 rd (lsr64 m n)) fd5 f17) in
        let q7 = step_on (suc (suc (suc (suc (suc (suc k)))))) 6 b6 rd x (i.AndReg rd rd 16 Lsl 0) q6 (omega arith) by_d s6.2 (ap₂ (λ m n. gives b6 rd (bit_and m n)) fd6 (ap (λ m. lsl64 m 0) f16 ∙ lsl64_zero v2 (lsl64_lt ones A))) in
        record { after = b7; quiet = q7; there = put_same b6.registers rd x (not_reg rd 31 small (lit< tt)) }

    ---- Tags

    -- a cell of a descriptor against another descriptor
    module _ (b : State) (m d r X B : ℕ) (q : Still k m d a b) (fr : read_or_sp b r ≡ X) (fb : Operand rb B b) (by : Kept_by d 16) where
      abbrev tag_state : ℕ → State
      tag_state t = changed (changed b 16 t b.flags) 31 (sub64 t B) (subs_flags t B)

      tag_does : (j n t : ℕ) → n ≡ k + m → StandAll code n (level_words j r rb) → load8 w.memory (add64 X (8 * j)) ≡ Some t → Still k (m + 1 + 1) d a (tag_state t)
      tag_does j n t z st e =
          let b1 = changed b 16 t b.flags in
          let q1 = after code keeps_small frame low slots w s k n m 1 d a b b1 z q (load_does code keeps_small frame low slots w s n d 16 r X j t b by.0 by.1 (st.0, st.1, tt) (at_of code keeps_small frame low slots w s k n m d a b z q) fr e) in
          let z1 : suc n ≡ k + (m + 1) = omega (arith, z) in
          let on = at_of code keeps_small frame low slots w s k (suc n) (m + 1) d a b1 z1 q1 in
          after code keeps_small frame low slots w s k (suc n) (m + 1) 1 d a b1 (tag_state t) z1 q1 (against_does code keeps_small frame low slots w s (suc n) d 16 rb t B b1 st.2 on refl (reads rb B b1 (operand_on rb B 16 t b b.flags fb (not_reg rb 16 fb.0 (lit< tt)))) (small_of rb B b (at_of code keeps_small frame low slots w s k n m d a b z q).small fb))

      tag_small : (j n t : ℕ) → n ≡ k + m → StandAll code n (level_words j r rb) → load8 w.memory (add64 X (8 * j)) ≡ Some t → t < 2 ^ 64
      tag_small j n t z st e = (tag_does j n t z st e).at.small.registers 16

    csets : (b : State) (m n t B : ℕ) → Still k m rd a b → n ≡ k + m → b.flags ≡ subs_flags t B → t < 2 ^ 64 → B < 2 ^ 64 → StandAll code n (i.Csinc rd 31 31 Ne ∷ []) → Gave k (m + 1) rd (truth (t == B)) a
    csets b m n t B q z fl l u st =
        let g = gave_word n rd (truth (t == B)) b (i.Csinc rd 31 31 Ne) small st (at_of code keeps_small frame low slots w s k n m rd a b z q) (ap (λ f. gives b rd (csinc Ne f 0 0)) fl ∙ ap (λ h. gives b rd (cond h 0 1)) (after_subs Ne t B l u) ∙ ap (gives b rd) (truth_not (t == B))) in
        record { after = g.after; quiet = after code keeps_small frame low slots w s k n m 1 rd a b g.after z q g.quiet; there = g.there }

    IsTag_does : (j A B C : ℕ) → Operand ra A a → Operand rb B a → Carries (f.IsTag j) A B C
    IsTag_does j A B C o p st = by_load (load8 w.memory (add64 A (8 * j))) refl
      where
        by_load : (q : Option ℕ) → load8 w.memory (add64 A (8 * j)) ≡ q → Outcome true k 3 rd a (given_at (add64 A (8 * j)) q (λ t. Gives (truth (t == B))))
        by_load None e = tt
        by_load (Some t) e =
            let q0 = quiet_none code keeps_small frame low slots w s k rd a at in
            let z0 : k ≡ k + 0 = omega arith in
            let ts : StandAll code k (level_words j ra rb) = (st.0, st.1, (st.2.0, st.2.1, tt)) in
            let q = tag_does a 0 rd ra A B q0 (reads_sp ra A a o) p by_16 j k t z0 ts e in
            csets (tag_state a 0 rd ra A B q0 (reads_sp ra A a o) p by_16 t) 2 (suc (suc k)) t B q (omega arith) refl (tag_small a 0 rd ra A B q0 (reads_sp ra A a o) p by_16 j k t z0 ts e) (small_of rb B a at.small p) st.2.2

    IsPtr_does : (j A B C : ℕ) → Operand ra A a → Operand rb B a → Carries (f.IsPtr j) A B C
    IsPtr_does j A B C o p st = by_nil (A == 0) refl
      where
        q1 : Still k 1 rd a (changed a 16 0 a.flags)
        q1 = word code keeps_small frame low slots w s k rd 16 0 a.flags a (i.Movz 16 0 0) (inl (omega arith)) (free_16 rd) (st.0, st.1, tt) at refl

        oa : Operand ra A (changed a 16 0 a.flags)
        oa = operand_on ra A 16 0 a a.flags o (not_reg ra 16 o.0 (lit< tt))

        ob : Operand rb B (changed a 16 0 a.flags)
        ob = operand_on rb B 16 0 a a.flags p (not_reg rb 16 p.0 (lit< tt))

        by_tag : (tag : ℕ) → load8 w.memory A ≡ Some tag → (A == 0) ≡ false → (q : Option ℕ) → load8 w.memory (add64 tag (8 * j)) ≡ q → Outcome true k 6 rd a (given_at (add64 tag (8 * j)) q (λ t. Gives (truth (t == B))))
        by_tag tag i' h None e = tt
        by_tag tag i' h (Some t) e =
            let s2 = st.2 in
            let b2 = skipped (changed a 16 0 a.flags) (k + 1 + 1) in
            let z1 : suc k ≡ k + 1 = omega arith in
            let r2 = goes_on_nonzero code keeps_small frame low slots w s (k + 1) rd 3 ra A (changed a 16 0 a.flags) (on_one k (i.Cbz ra 3 ∷ []) (s2.0, s2.1, tt)) q1.at (reads ra A (changed a 16 0 a.flags) oa) h in
            let q2 = after code keeps_small frame low slots w s k (k + 1) 1 1 rd a (changed a 16 0 a.flags) b2 refl q1 r2 in
            let s3 = s2.2 in
            let b3 = changed b2 16 tag a.flags in
            let z2 : suc (suc k) ≡ k + 2 = omega arith in
            let q3 = after code keeps_small frame low slots w s k (suc (suc k)) 2 1 rd a b2 b3 z2 q2 (load_does code keeps_small frame low slots w s (suc (suc k)) rd 16 ra A 0 tag b2 (inl (omega arith)) (free_16 rd) (s3.0, s3.1, tt) (at_of code keeps_small frame low slots w s k (suc (suc k)) 2 rd a b2 z2 q2) (reads_sp ra A b2 oa) (ap (load8 w.memory) (plus_zero A (small_of ra A a at.small o)) ∙ i')) in
            let s4 = s3.2 in
            let ts : StandAll code (suc (suc (suc k))) (level_words j 16 rb) = (s4.0, s4.1, (s4.2.0, s4.2.1, tt)) in
            let z3 : suc (suc (suc k)) ≡ k + 3 = omega arith in
            let ob3 = operand_on rb B 16 tag b2 a.flags ob (not_reg rb 16 p.0 (lit< tt)) in
            let q = tag_does b3 3 rd 16 tag B q3 refl ob3 by_16 j (suc (suc (suc k))) t z3 ts e in
            csets (tag_state b3 3 rd 16 tag B q3 refl ob3 by_16 t) 5 (suc (suc (suc (suc (suc k))))) t B q (omega arith) refl (tag_small b3 3 rd 16 tag B q3 refl ob3 by_16 j (suc (suc (suc k))) t z3 ts e) (small_of rb B a at.small p) s4.2.2

        by_load : (A == 0) ≡ false → (q : Option ℕ) → load8 w.memory A ≡ q → Outcome true k 6 rd a (given_at A q (λ tag. level w.memory j tag (λ t. Gives (truth (t == B)))))
        by_load h None e = tt
        by_load h (Some tag) e = by_tag tag e h (load8 w.memory (add64 tag (8 * j))) refl

        by_nil : (t : Bool) → (A == 0) ≡ t → Outcome true k 6 rd a (if t then Gives (truth (0 == B)) else given_at A (load8 w.memory A) (λ tag. level w.memory j tag (λ t. Gives (truth (t == B)))))
        by_nil false h = by_load h (load8 w.memory A) refl
        by_nil true h =
            let s2 = st.2 in
            let b2 = skipped (changed a 16 0 a.flags) (k + 1 + 3) in
            let r2 = skips_zero code keeps_small frame low slots w s (k + 1) rd 2 ra A (changed a 16 0 a.flags) (lit< tt) (on_one k (i.Cbz ra 3 ∷ []) (s2.0, s2.1, tt)) q1.at (reads ra A (changed a 16 0 a.flags) oa) h in
            let q2 = after code keeps_small frame low slots w s k (k + 1) 1 3 rd a (changed a 16 0 a.flags) b2 refl q1 r2 in
            let s5 = s2.2.2.2 in
            let z4 : suc (suc (suc (suc k))) ≡ k + 4 = omega arith in
            let b3 = changed b2 31 (sub64 0 B) (subs_flags 0 B) in
            let q3 = after code keeps_small frame low slots w s k (suc (suc (suc (suc k)))) 4 1 rd a b2 b3 z4 q2 (against_does code keeps_small frame low slots w s (suc (suc (suc (suc k)))) rd 16 rb 0 B b2 (s5.0, s5.1, tt) (at_of code keeps_small frame low slots w s k (suc (suc (suc (suc k)))) 4 rd a b2 z4 q2) refl (reads rb B b2 ob) (small_of rb B a at.small p)) in
            csets b3 5 (suc (suc (suc (suc (suc k))))) 0 B q3 (omega arith) refl (lit< tt) (small_of rb B a at.small p) s5.2

    -- the test that ends a guard
    guards : (b : State) (m n t B : ℕ) → Still k m 16 a b → n ≡ k + m → b.flags ≡ subs_flags t B → t < 2 ^ 64 → B < 2 ^ 64 → StandAll code n (breaks_unless Eq 3) → (h : Bool) → (t == B) ≡ h → Outcome false k (m + 2) rd a (unless h 3)
    guards b m n t B q z fl l u st true h =
        let r = unless_does code keeps_small frame low slots w s n 16 3 b Eq st (at_of code keeps_small frame low slots w s k n m 16 a b z q) (ap (holds Eq) fl ∙ after_subs Eq t B l u ∙ h) in
        record { after = skipped b (n + 2); quiet = after code keeps_small frame low slots w s k n m 2 16 a b (skipped b (n + 2)) z q r }
    guards b m n t B q z fl l u st false h =
        let r = unless_stops code keeps_small frame low slots w s n 3 b Eq st (at_of code keeps_small frame low slots w s k n m 16 a b z q) (ap (holds Eq) fl ∙ after_subs Eq t B l u ∙ h) in
        (suc n, stop_after code keeps_small frame low slots w s k n m 2 16 a b (Broke 3 (suc n)) z q r)

    free_for : Kept_by 16 16
    free_for = (inl (omega arith), free_16 16)

    GuardTag_does : (j A B C : ℕ) → Operand ra A a → Operand rb B a → Carries (f.GuardTag j) A B C
    GuardTag_does j A B C o p st = by_load (load8 w.memory (add64 A (8 * j))) refl
      where
        by_load : (q : Option ℕ) → load8 w.memory (add64 A (8 * j)) ≡ q → Outcome false k 4 rd a (given_at (add64 A (8 * j)) q (λ t. unless (t == B) 3))
        by_load None e = tt
        by_load (Some t) e =
            let q0 = quiet_none code keeps_small frame low slots w s k 16 a at in
            let z0 : k ≡ k + 0 = omega arith in
            let ts : StandAll code k (level_words j ra rb) = (st.0, st.1, (st.2.0, st.2.1, tt)) in
            let q = tag_does a 0 16 ra A B q0 (reads_sp ra A a o) p free_for j k t z0 ts e in
            guards (tag_state a 0 16 ra A B q0 (reads_sp ra A a o) p free_for t) 2 (suc (suc k)) t B q (omega arith) refl (tag_small a 0 16 ra A B q0 (reads_sp ra A a o) p free_for j k t z0 ts e) (small_of rb B a at.small p) st.2.2 (t == B) refl

    GuardPtr_does : (j A B C : ℕ) → Operand ra A a → Operand rb B a → Carries (f.GuardPtr j) A B C
    GuardPtr_does j A B C o p st = by_nil (A == 0) refl
      where
        by_tag : (tag : ℕ) → load8 w.memory A ≡ Some tag → (A == 0) ≡ false → (q : Option ℕ) → load8 w.memory (add64 tag (8 * j)) ≡ q → Outcome false k 7 rd a (given_at (add64 tag (8 * j)) q (λ t. unless (t == B) 3))
        by_tag tag i' h None e = tt
        by_tag tag i' h (Some t) e =
            let b2 = skipped a (k + 2) in
            let q2 = skips_nonzero code keeps_small frame low slots w s k 16 1 ra A a (lit< tt) (st.0, st.1, tt) at (reads ra A a o) h in
            let s3 = st.2.2 in
            let b3 = changed b2 16 tag a.flags in
            let z2 : suc (suc k) ≡ k + 2 = omega arith in
            let q3 = after code keeps_small frame low slots w s k (suc (suc k)) 2 1 16 a b2 b3 z2 q2 (load_does code keeps_small frame low slots w s (suc (suc k)) 16 16 ra A 0 tag b2 (inl (omega arith)) (free_16 16) (s3.0, s3.1, tt) (at_of code keeps_small frame low slots w s k (suc (suc k)) 2 16 a b2 z2 q2) (reads_sp ra A b2 o) (ap (load8 w.memory) (plus_zero A (small_of ra A a at.small o)) ∙ i')) in
            let s4 = s3.2 in
            let ts : StandAll code (suc (suc (suc k))) (level_words j 16 rb) = (s4.0, s4.1, (s4.2.0, s4.2.1, tt)) in
            let z3 : suc (suc (suc k)) ≡ k + 3 = omega arith in
            let ob3 = operand_on rb B 16 tag b2 a.flags p (not_reg rb 16 p.0 (lit< tt)) in
            let q = tag_does b3 3 16 16 tag B q3 refl ob3 free_for j (suc (suc (suc k))) t z3 ts e in
            guards (tag_state b3 3 16 16 tag B q3 refl ob3 free_for t) 5 (suc (suc (suc (suc (suc k))))) t B q (omega arith) refl (tag_small b3 3 16 16 tag B q3 refl ob3 free_for j (suc (suc (suc k))) t z3 ts e) (small_of rb B a at.small p) s4.2.2 (t == B) refl

        by_load : (A == 0) ≡ false → (q : Option ℕ) → load8 w.memory A ≡ q → Outcome false k 7 rd a (given_at A q (λ tag. level w.memory j tag (λ t. unless (t == B) 3)))
        by_load h None e = tt
        by_load h (Some tag) e = by_tag tag e h (load8 w.memory (add64 tag (8 * j))) refl

        by_nil : (t : Bool) → (A == 0) ≡ t → Outcome false k 7 rd a (if t then Fails 2 else given_at A (load8 w.memory A) (λ tag. level w.memory j tag (λ t. unless (t == B) 3)))
        by_nil false h = by_load h (load8 w.memory A) refl
        by_nil true h =
            let q = goes_on_zero code keeps_small frame low slots w s k 16 2 ra A a (st.0, st.1, tt) at (reads ra A a o) h in
            (k + 1, stops_longer code k 2 5 a (Broke 2 (k + 1)) (stop_after code keeps_small frame low slots w s k (k + 1) 1 1 16 a (skipped a (k + 1)) (Broke 2 (k + 1)) refl q (breaks code keeps_small frame low slots w s (k + 1) 2 (skipped a (k + 1)) (on_one k (i.Brk 2 ∷ []) (st.2.0, st.2.1, tt)) q.at)))

    ---- All of them

    abbrev pub Operands : ℕ → ℕ → ℕ → ℕ → Type 0
    Operands zero A B C = Unit {0}
    Operands (suc zero) A B C = Operand ra A a
    Operands (suc (suc zero)) A B C = Operand ra A a × Operand rb B a
    Operands (suc (suc (suc n))) A B C = Operand ra A a × Operand rb B a × Operand rc C a

    pub value_does : (kind : Code) (A B C : ℕ) → is_value kind ≡ true → ValueFits entry kind → Operands (uses kind) A B C → Carries kind A B C
    value_does (f.Const n) A B C v l o st = const_does n A B C l st
    value_does (f.Global n) A B C v l o st = global_does n A B C l st
    value_does (f.Local n) A B C v l o st = local_does n A B C l st
    value_does (f.Code p) A B C v l o st = code_does p A B C l st
    value_does (f.Arg j) A B C v l o st = arg_does j A B C l st
    value_does (f.Plus n) A B C v l o st = Plus_does n A B C l o st
    value_does (f.Set n) A B C v l o st = Set_does n A B C l o.0 o.1 st
    value_does (f.IsTag j) A B C v l o st = IsTag_does j A B C o.0 o.1 st
    value_does (f.IsPtr j) A B C v l o st = IsPtr_does j A B C o.0 o.1 st
    value_does (f.GuardTag j) A B C v l o st = GuardTag_does j A B C o.0 o.1 st
    value_does (f.GuardPtr j) A B C v l o st = GuardPtr_does j A B C o.0 o.1 st
    value_does f.MulAdd A B C v l o st = MulAdd_does A B C o.0 o.1 o.2 st
    value_does f.Neg A B C v l o st = Neg_does A B C o st
    value_does f.Not A B C v l o st = Not_does A B C o st
    value_does f.Abs A B C v l o st = Abs_does A B C o st
    value_does f.Max0 A B C v l o st = Max0_does A B C o st
    value_does f.Odd A B C v l o st = Odd_does A B C o st
    value_does f.Flip A B C v l o st = Flip_does A B C o st
    value_does f.Bit A B C v l o st = Bit_does A B C o st
    value_does f.Load A B C v l o st = Load_does A B C o st
    value_does f.LoadByte A B C v l o st = LoadByte_does A B C o st
    value_does f.Byte A B C v l o st = Byte_does A B C o st
    value_does f.Elem A B C v l o st = Elem_does A B C o st
    value_does f.NotNil A B C v l o st = NotNil_does A B C o st
    value_does f.True A B C v l o st = True_does A B C o st
    value_does f.Add A B C v l o st = Add_does A B C o.0 o.1 st
    value_does f.Sub A B C v l o st = Sub_does A B C o.0 o.1 st
    value_does f.And A B C v l o st = And_does A B C o.0 o.1 st
    value_does f.Or A B C v l o st = Or_does A B C o.0 o.1 st
    value_does f.Eor A B C v l o st = Eor_does A B C o.0 o.1 st
    value_does f.Bic A B C v l o st = Bic_does A B C o.0 o.1 st
    value_does f.Lsl A B C v l o st = Lsl_does A B C o.0 o.1 st
    value_does f.Asr A B C v l o st = Asr_does A B C o.0 o.1 st
    value_does f.Ror A B C v l o st = Ror_does A B C o.0 o.1 st
    value_does f.Mul A B C v l o st = Mul_does A B C o.0 o.1 st
    value_does f.Span A B C v l o st = Span_does A B C o.0 o.1 st
    value_does f.Has A B C v l o st = Has_does A B C o.0 o.1 st
    value_does f.Div A B C v l o st = Div_does A B C o.0 o.1 st
    value_does f.Mod A B C v l o st = Mod_does A B C o.0 o.1 st
    value_does f.Below A B C v l o st = Below_does A B C o.0 o.1 st
    value_does f.Fits A B C v l o st = Fits_does A B C o.0 o.1 st
    value_does f.Store A B C v l o st = cc
    value_does f.StoreByte A B C v l o st = cc
    value_does f.New A B C v l o st = cc
    value_does (f.Call p) A B C v l o st = cc
    value_does f.CallAt A B C v l o st = cc
    value_does f.Copy A B C v l o st = cc
    value_does f.Zero A B C v l o st = cc
    value_does f.Compare A B C v l o st = cc
    value_does (f.Svc n) A B C v l o st = cc
