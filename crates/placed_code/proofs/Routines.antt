-- The routines are carried out by their words: a copy, a zeroing, a comparison, one cell or position at a time.
use Rattle.std.proofs.Common.{◌≡◌, ℕ, zero, suc, ◌+◌, ◌*◌, ◌-◌, ◌<◌, ◌^◌, ◌==◌, ◌&&◌, inl, inr, List, [], ◌∷◌, Bool, true, false, not, Option, Some, None, refl, arith, sym, ap, ap₂, ◌∙◌, subst, lit<}
use Rattle.std.specs.Prelude.{if◌then◌else◌, nat_lt, nat_le, bit_or, slice_get}
use Rattle.std.proofs.lemmas.Bool.Decides.{nat_tests}
use Rattle.run_laws.specs.Runs.{Step, Moves, Traps}
use Rattle.run_laws.specs.Layers.{places_from}
use Rattle.a64_memory.specs.Memory.{Area, load1, load8, store1, store8}
use Rattle.wrapping_numbers.specs.Numbers.{add64, sub64}
use Rattle.a64_numbers.specs.Branches.{branch_to}
use Rattle.wrapping_numbers.specs.Shifts.{lsl64}
use Rattle.a64_numbers.specs.Conditions.{holds, subs_flags}
use Rattle.a64_numbers.specs.declared.flags.Flags.{Flags}
use Rattle.a64_numbers.proofs.Comparisons.{after_subs}
use Rattle.wrapping_numbers.proofs.Amounts.{lsl64_zero}
use Rattle.wrapping_numbers.proofs.Wrapping.{add64_lt}
use Rattle.a64_instr.specs.declared.instr.Shift.TheVariants.{Lsl}
use Rattle.a64_instr.specs.declared.instr.Cond.{Cond}
use Rattle.a64_instr.specs.declared.instr.Cond.TheVariants.{Ne, Hs, Hi}
use Rattle.a64_instr.specs.declared.instr.Instr.{Instr}
use Rattle.a64_machine.specs.State.{State, address_of, read, read_or_sp}
use Rattle.a64_machine.specs.Effects.{effect, gives, goes, goes_if, loads, stores}
use Rattle.a64_machine.specs.Machine.{step_of}
use Rattle.a64_machine.proofs.Registers.{put_same, put_other}
use Rattle.a64_machine.proofs.Steps.{Stands, StandAll, step-at, walks-one}
use Rattle.lir_core.specs.Spots.{Spot}
use Rattle.block_runs.specs.Effects.{char_bytes}
use Rattle.a64_runtime.specs.Routines.{routines}
use Rattle.block_runs.specs.Steps.{work_on, compared}
use Rattle.placed_code.proofs.Steps.{rest_of, ops_of}
use Rattle.a64_numbers.proofs.Branches.{branch_forward_19, branch_back_26}
use Rattle.placed_code.specs.Placed.{Placed, proc_of, block_of}
use Rattle.block_runs.specs.States.{Frame, World, Work, CopyHead, CopyCell, CopyTail, ZeroHead, ZeroCell, CompareHead, CompareCell, Stop, Fault, State as Flow, Works, At, part}
use Rattle.block_runs.specs.Steps.{resumed, moved_to, moved, char_at}
use Rattle.placed_code.specs.Words.{slots_of}
use Rattle.placed_code.proofs.Stack.{Memories, load_flows, load_flows_byte, store_flows, store_flows_byte}
use Rattle.placed_code.proofs.Slots.{Plain, fixed_put}
use Rattle.a64_machine.proofs.Ways.{Way, way_one, way_append}
use Rattle.placed_code.proofs.Leading.{next_word, Here, leads}
use Rattle.placed_code.proofs.Words.{changed, skipped}
use Rattle.placed_code.proofs.Values.{or_zero}
use Rattle.placed_code.proofs.Relation.{Linked, start, Standing, Ready, WorkHolds, part_place, part_width, Working}
use Rattle.placed_code.proofs.Transfers.{Carry, carry_way}
use Rattle.placed_code.proofs.Resuming.{Back, Landed, carry_came, came}
use Rattle.a64_machine.proofs.Numbers.{Numbers}
use Rattle.a64_instr.specs.declared.instr.Instr.TheVariants as i

module _ (code : List ℕ) (keeps_small : (a b : State) (w : List ℕ) → Numbers a → step_of code a ≡ Moves w b → Numbers b) (frame low slots : ℕ) (s : Area) where
  abbrev pub On : World → ℕ → State → Type 0
  On w k a = Here code keeps_small frame low slots k w s a

  -- n words from word k on lead from a to t, which stands at word j in the world w
  pub record Ran (w : World) (k j n : ℕ) (a t : State) : Type 0 where
    pub way : Way code k n a t
    pub at : On w j t

  pub ran_then : (v w : World) (k h j m n : ℕ) (a b c : State) → h ≡ k + m → Ran v k h m a b → Ran w h j n b c → Ran w k j (m + n) a c
  ran_then v w k h j m n a b c e one two = record { way = way_append code k m n a b c one.way (subst (λ i. Way code i n b c) e two.way); at = two.at }

  pub writes : (w : World) (k j : ℕ) → j ≡ k + 1 → (e v : ℕ) (f : Flags) (a : State) (i : Instr) → Plain e → k < 2 ^ 18 → Stands code k i → On w k a → effect i a ≡ Moves [] (changed a e v f) → Ran w k j 1 a (changed a e v f)
  writes w k j z e v f a i plain l st at does =
      let r = leads code keeps_small frame low slots low slots k j 0 w w s a (changed a e v f) i st at does (ap (λ (n : ℕ). add64 n 4) at.pc ∙ next_word k l ∙ ap address_of (sym z)) at.sp (refl, refl) (refl, refl) (fixed_put w a.registers e v plain at.fixed) at.space in
      record { way = r.way; at = r.at }

  pub jumps : (w : World) (k j n : ℕ) (a : State) (i : Instr) → Stands code k i → On w k a → effect i a ≡ Moves [] (skipped a j) → Ran w k j (suc n) a (skipped a j)
  jumps w k j n a i st at does =
      let r = leads code keeps_small frame low slots low slots k j n w w s a (skipped a j) i st at does refl at.sp (refl, refl) (refl, refl) at.fixed at.space in
      record { way = r.way; at = r.at }

  pub compares_two : (w : World) (k j : ℕ) → j ≡ k + 1 → (ra rb x y : ℕ) (a : State) → k < 2 ^ 18 → Stands code k (i.SubsReg 31 ra rb Lsl 0) → On w k a → read a.registers ra ≡ x → read a.registers rb ≡ y → y < 2 ^ 64 → Ran w k j 1 a (changed a 31 (sub64 x y) (subs_flags x y))
  compares_two w k j z ra rb x y a l st at f g small =
      writes w k j z 31 (sub64 x y) (subs_flags x y) a (i.SubsReg 31 ra rb Lsl 0) (inr (omega arith)) l st at
      (ap₂ (λ (m n : ℕ). Moves [] (changed a 31 (sub64 m n) (subs_flags m n))) f (ap (λ n. lsl64 n 0) g ∙ lsl64_zero y small))

  -- branches over words, and back
  pub forth : (k j n : ℕ) → j ≡ k + n → k < 2 ^ 18 → n < 16 → branch_to 19 (address_of k) n ≡ address_of j
  forth k j n z l small = let e : address_of k + 4 * n ≡ address_of j = omega (arith, z) in branch_forward_19 (address_of k) n (omega (arith, small)) (omega (arith, l, small)) ∙ e

  pub back : (k j n : ℕ) → k ≡ j + n → k < 2 ^ 18 → 0 < n → n < 16 → branch_to 26 (address_of k) (2 ^ 26 - n) ≡ address_of j
  back k j n z l some small = let e : address_of k - 4 * n ≡ address_of j = omega (arith, z) in branch_back_26 (address_of k) n some (omega (arith, small)) (omega (arith, z)) (omega (arith, l)) ∙ e

  pub goes_over : (w : World) (k j n : ℕ) → j ≡ k + suc n → (a : State) (c : Cond) → k < 2 ^ 18 → n < 15 → Stands code k (i.BCond (suc n) c) → On w k a → holds c a.flags ≡ true → Ran w k j (suc n) a (skipped a j)
  goes_over w k j n z a c l small st at h =
      jumps w k j n a (i.BCond (suc n) c) st at
      (ap (λ (b : Bool). goes_if a b (branch_to 19 a.pc (suc n))) h ∙ ap (λ (m : ℕ). goes a (branch_to 19 m (suc n))) at.pc ∙ ap (goes a) (forth k j (suc n) z l (omega (arith, small))))

  pub goes_on : (w : World) (k j n : ℕ) → j ≡ k + 1 → (a : State) (c : Cond) → k < 2 ^ 18 → Stands code k (i.BCond n c) → On w k a → holds c a.flags ≡ false → Ran w k j 1 a (skipped a j)
  goes_on w k j n z a c l st at h =
      jumps w k j 0 a (i.BCond n c) st at
      (ap (λ (b : Bool). goes_if a b (branch_to 19 a.pc n)) h ∙ ap (λ (m : ℕ). goes a (add64 m 4)) at.pc ∙ ap (goes a) (next_word k l ∙ ap address_of (sym z)))

  -- the memory written
  abbrev pub kept : State → List Area → State
  kept a m = record a { pc = add64 a.pc 4; memory = m }

  pub puts : (w : World) (t : List Area) (k j : ℕ) → j ≡ k + 1 → (a : State) (m : List Area) (i : Instr) → k < 2 ^ 18 → Stands code k i → On w k a → Memories t s m → effect i a ≡ Moves [] (kept a m) → Ran (record w { memory = t }) k j 1 a (kept a m)
  puts w t k j z a m i l st at ms does = record {
    way = way_one code k 0 a (kept a m) (walks-one k st a at.pc does);
    at = record {
      pc = ap (λ (n : ℕ). add64 n 4) at.pc ∙ next_word k l ∙ ap address_of (sym z);
      sp = at.sp;
      memory = ms;
      fixed = record { calls = at.fixed.calls; cells = at.fixed.cells; local = at.fixed.local; globals = at.fixed.globals; next = at.fixed.next; free = at.fixed.free };
      input = at.input;
      space = at.space;
      small = keeps_small a (kept a m) [] at.small (step-at k st a at.pc ∙ does);
    };
  }

-- one word further
one_more : (r : ℕ) → r + 33 + 1 ≡ r + 34
one_more r = omega arith

-- where the words of the routines stand
stands_nth : (code : List ℕ) (k : ℕ) (is : List Instr) (n : ℕ) (i : Instr) → StandAll code k is → slice_get is n ≡ Some i → Stands code (k + n) i
stands_nth code k [] n i s e = cc
stands_nth code k (x ∷ is) zero i s e = let same : x ≡ i = cc in let z : k ≡ k + 0 = omega arith in subst (λ m. Stands code m i) z (subst (λ x. Stands code k x) same s.1)
stands_nth code k (x ∷ is) (suc n) i s e = let z : suc k + n ≡ k + suc n = omega arith in subst (λ m. Stands code m i) z (stands_nth code (suc k) is n i s.2 e)

module _ (l : Linked) (Begins : (p b : ℕ) → (ℕ → ℕ) → (Spot → ℕ) → Type 0) (s : Standing l Begins) where
  routine_at : (k n : ℕ) {i : Instr} → k ≡ start l + n → slice_get routines n ≡ Some i → Stands l.code k i
  routine_at k n {i} z e = subst (λ m. Stands l.code m i) (sym z) (stands_nth l.code (start l) routines n i s.routines e)

  routine_word : (n : ℕ) {i : Instr} → slice_get routines n ≡ Some i → Stands l.code (start l + n) i
  routine_word n {i} e = stands_nth l.code (start l) routines n i s.routines e

  routine_bound : (k n : ℕ) → k ≡ start l + n → n < 38 → k < 2 ^ 18
  routine_bound k n z few = let b = s.routines_end in omega (arith, b, z, few)

  routine_low : (n : ℕ) → n < 38 → start l + n < 2 ^ 18
  routine_low n few = let b = s.routines_end in omega (arith, b, few)

module _ (l : Linked) (Begins : (p b : ℕ) → (ℕ → ℕ) → (Spot → ℕ) → Type 0) (keeps_small : (a b : State) (w : List ℕ) → Numbers a → step_of l.code a ≡ Moves w b → Numbers b)
    (opens : (p b : ℕ) (V : ℕ → ℕ) (c : Spot → ℕ) → Begins p b V c → Ready l Begins p (block_of (proc_of l.procs p) b) b 0 (block_of (proc_of l.procs p) b).body V c) where
  module _ (k : Work) (f : Frame) (fs : List Frame) (w : World) (a : State) (e : Working l Begins keeps_small k f fs w a) where
    abbrev pr : Placed
    pr = proc_of l.procs f.proc

    abbrev slots : ℕ
    slots = slots_of pr

    abbrev Stood : World → ℕ → State → Type 0
    Stood v n b = On l.code keeps_small l.frame e.low slots e.stack v n b

    abbrev Went : World → ℕ → ℕ → ℕ → State → State → Type 0
    Went v n j m b t = Ran l.code keeps_small l.frame e.low slots e.stack v n j m b t

    abbrev Goal : Step Flow Stop → Type 0
    Goal st = Carry l Begins keeps_small opens (At (part k)) a st

    -- on in the routine
    works_on : (n : Work) (m : List Area) (b : State) → Went (record w { memory = m }) (part_place (start l) (part k)) (part_place (start l) (part n)) (part_width (part k)) a b → 0 < part_width (part k) → WorkHolds n b.registers → b.registers 30 ≡ a.registers 30 → Goal (Moves [] (Works n f fs (record w { memory = m })))
    works_on n m b ran some holds same =
        let working : Working l Begins keeps_small n f fs (record w { memory = m }) b = record {
          stack = e.stack;
          low = e.low;
          ret = e.ret;
          back = e.back;
          at = ran.at;
          holds = holds;
          link_register = same ∙ e.link_register;
          waits = e.waits;
          link = e.link;
          near = e.near;
          callers = e.callers;
          room = e.room;
          above = e.above;
          standing = e.standing;
        } in
        carry_way l Begins keeps_small opens (At (part k)) (part_place (start l) (part k)) (part_width (part k)) a b (Works n f fs (record w { memory = m })) refl ran.way some (omega arith) working

    -- back to the caller, by RET at word j behind a way
    goes_back : (j m : ℕ) (b : State) (x : Option ℕ) → part_width (part k) ≡ m + 1 → j ≡ part_place (start l) (part k) + m → Went w (part_place (start l) (part k)) j m a b → Stands l.code j (i.Ret 30) → b.registers 30 ≡ a.registers 30 → Back x b → ((address : ℕ) → resumed (ops_of (rest_of l.procs f)) f fs w x ≡ Traps (Fault address) → ⊥) → Goal (resumed (ops_of (rest_of l.procs f)) f fs w x)
    goes_back j m b x width z ran st same result safe =
        let t = skipped b e.back in
        let link : b.registers 30 ≡ address_of e.back = same ∙ e.link_register in
        let does : effect (i.Ret 30) b ≡ Moves [] t = ap (goes b) link in
        let last = jumps l.code keeps_small l.frame e.low slots e.stack w j e.back 0 b (i.Ret 30) st ran.at does in
        let all = ran_then l.code keeps_small l.frame e.low slots e.stack w w (part_place (start l) (part k)) j e.back m 1 a b t z ran last in
        let landed : Landed l Begins keeps_small opens f fs w t = record {
          stack = e.stack;
          low = e.low;
          ret = e.ret;
          back = e.back;
          at = all.at;
          waits = e.waits;
          link = e.link;
          near = e.near;
          callers = e.callers;
          room = e.room;
          above = e.above;
          standing = e.standing;
        } in
        carry_came l Begins keeps_small opens (At (part k)) (part_place (start l) (part k)) (m + 1) a t (resumed (ops_of (rest_of l.procs f)) f fs w x) (ap (places_from (part_place (start l) (part k))) width) all.way (omega arith) (omega arith) (came l Begins keeps_small opens f fs w t landed x (back_is x result) safe)
      where
        back_is : (x : Option ℕ) → Back x b → Back x (skipped b e.back)
        back_is None h = tt
        back_is (Some n) h = h

  module _ (f : Frame) (fs : List Frame) (w : World) (a : State) where
    abbrev Safe : Work → Type 0
    Safe k = (address : ℕ) → work_on (ops_of (rest_of l.procs f)) k f fs w ≡ Traps (Fault address) → ⊥

    abbrev Came : Work → Step Flow Stop → Type 0
    Came k s = Carry l Begins keeps_small opens (At (part k)) a s

    abbrev Goals : Work → Type 0
    Goals k = Came k (work_on (ops_of (rest_of l.procs f)) k f fs w)

    abbrev Set : Work → Type 0
    Set k = Working l Begins keeps_small k f fs w a

    abbrev with : List Area → World
    with m = record w { memory = m }

    abbrev Led : (k : Work) → Set k → World → ℕ → ℕ → ℕ → State → State → Type 0
    Led k e v n j m b t = Ran l.code keeps_small l.frame e.low (slots_of (proc_of l.procs f.proc)) e.stack v n j m b t

    ---- Copy

    copy_head : (to from bytes : ℕ) → Set (CopyHead to from bytes) → Goals (CopyHead to from bytes)
    copy_head to from bytes e =
        works_on (CopyHead to from bytes) f fs w a e (CopyCell to from bytes 0) w.memory (changed a 3 0 a.flags)
        (writes l.code keeps_small l.frame e.low (slots_of (proc_of l.procs f.proc)) e.stack w (start l + 0) (start l + 1) (omega arith) 3 0 a.flags a (i.Movz 3 0 0) (inl (omega arith)) (routine_low l Begins e.standing 0 (lit< tt)) (routine_word l Begins e.standing 0 refl) e.at refl) (omega arith) (e.holds.0, e.holds.1, e.holds.2, refl) refl

    module _ (to from bytes done : ℕ) (e : Set (CopyCell to from bytes done)) where
      abbrev v : ℕ
      v = add64 done 8

      abbrev c1 : State
      c1 = changed a 4 v a.flags

      abbrev c2 : State
      c2 = changed c1 31 (sub64 v bytes) (subs_flags v bytes)

      copy_tests : Led (CopyCell to from bytes done) e w (start l + 1) (start l + 3) 2 a c2
      copy_tests =
          let one = writes l.code keeps_small l.frame e.low (slots_of (proc_of l.procs f.proc)) e.stack w (start l + 1) (start l + 2) (omega arith) 4 v a.flags a (i.AddImm 4 3 8 false) (inl (omega arith)) (routine_low l Begins e.standing 1 (lit< tt)) (routine_word l Begins e.standing 1 refl) e.at (ap (λ (n : ℕ). Moves [] (changed a 4 (add64 n 8) a.flags)) e.holds.3) in
          let two = compares_two l.code keeps_small l.frame e.low (slots_of (proc_of l.procs f.proc)) e.stack w (start l + 2) (start l + 3) (omega arith) 4 2 v bytes c1 (routine_low l Begins e.standing 2 (lit< tt)) (routine_word l Begins e.standing 2 refl) one.at refl e.holds.2 (subst (λ n. n < 2 ^ 64) e.holds.2 (e.at.small.registers 2)) in
          (ran_then l.code keeps_small l.frame e.low (slots_of (proc_of l.procs f.proc)) e.stack w w (start l + 1) (start l + 2) (start l + 3) 1 1 a c1 c2 (omega arith) one two)

      tells : holds Hi c2.flags ≡ nat_lt bytes v
      tells = after_subs Hi v bytes (add64_lt done 8) (subst (λ n. n < 2 ^ 64) e.holds.2 (e.at.small.registers 2))

      copy_ends : nat_lt bytes v ≡ true → Came (CopyCell to from bytes done) (Moves [] (Works (CopyTail to from bytes done) f fs w))
      copy_ends h =
          let three = goes_over l.code keeps_small l.frame e.low (slots_of (proc_of l.procs f.proc)) e.stack w (start l + 3) (start l + 8) 4 (omega arith) c2 Hi (routine_low l Begins e.standing 3 (lit< tt)) (lit< tt) (routine_word l Begins e.standing 3 refl) copy_tests.at (tells ∙ h) in
          works_on (CopyCell to from bytes done) f fs w a e (CopyTail to from bytes done) w.memory (skipped c2 (start l + 8)) (ran_then l.code keeps_small l.frame e.low (slots_of (proc_of l.procs f.proc)) e.stack w w (start l + 1) (start l + 3) (start l + 8) 2 5 a c2 (skipped c2 (start l + 8)) (omega arith) copy_tests three) (omega arith) (e.holds.0, e.holds.1, e.holds.2, e.holds.3) refl

      copy_moves : nat_lt bytes v ≡ false → (x : ℕ) (m : List Area) → load8 w.memory (add64 from done) ≡ Some x → store8 w.memory (add64 to done) x ≡ Some m → Came (CopyCell to from bytes done) (Moves [] (Works (CopyCell to from bytes v) f fs (with m)))
      copy_moves h x m loads_x stores_x =
          let three = goes_on l.code keeps_small l.frame e.low (slots_of (proc_of l.procs f.proc)) e.stack w (start l + 3) (start l + 4) 5 (omega arith) c2 Hi (routine_low l Begins e.standing 3 (lit< tt)) (routine_word l Begins e.standing 3 refl) copy_tests.at (tells ∙ h) in
          let c3 = skipped c2 (start l + 4) in
          let c4 = changed c3 5 x c3.flags in
          let four = writes l.code keeps_small l.frame e.low (slots_of (proc_of l.procs f.proc)) e.stack w (start l + 4) (start l + 5) (omega arith) 5 x c3.flags c3 (i.LdrReg 5 1 3) (inl (omega arith)) (routine_low l Begins e.standing 4 (lit< tt)) (routine_word l Begins e.standing 4 refl) three.at
          (ap₂ (λ p q. loads c3 5 (add64 p q) (load8 c3.memory (add64 p q))) e.holds.1 e.holds.3 ∙ ap (loads c3 5 (add64 from done)) (load_flows w.memory e.stack c3.memory three.at.memory (add64 from done) x loads_x)) in
          let too = store_flows w.memory e.stack c4.memory four.at.memory (add64 to done) x m stores_x in
          let c5 : State = record c4 { pc = add64 c4.pc 4; memory = too.0 } in
          let five = puts l.code keeps_small l.frame e.low (slots_of (proc_of l.procs f.proc)) e.stack w m (start l + 5) (start l + 6) (omega arith) c4 too.0 (i.StrReg 5 0 3) (routine_low l Begins e.standing 5 (lit< tt)) (routine_word l Begins e.standing 5 refl) four.at too.2
          (ap₂ (λ p q. stores c4 (add64 p q) (store8 c4.memory (add64 p q) x)) e.holds.0 e.holds.3 ∙ ap (stores c4 (add64 to done)) too.1) in
          let c6 = changed c5 3 v c5.flags in
          let six = writes l.code keeps_small l.frame e.low (slots_of (proc_of l.procs f.proc)) e.stack (with m) (start l + 6) (start l + 7) (omega arith) 3 v c5.flags c5 (i.OrrReg 3 31 4 Lsl 0) (inl (omega arith)) (routine_low l Begins e.standing 6 (lit< tt)) (routine_word l Begins e.standing 6 refl) five.at (ap (gives c5 3) (ap (bit_or 0) (lsl64_zero v (add64_lt done 8)) ∙ or_zero v (add64_lt done 8))) in
          let c7 = skipped c6 (start l + 1) in
          let seven = jumps l.code keeps_small l.frame e.low (slots_of (proc_of l.procs f.proc)) e.stack (with m) (start l + 7) (start l + 1) 0 c6 (i.B (2 ^ 26 - 6)) (routine_word l Begins e.standing 7 refl) six.at (ap (λ (n : ℕ). goes c6 (branch_to 26 n (2 ^ 26 - 6))) six.at.pc ∙ ap (goes c6) (back l.code keeps_small l.frame e.low (slots_of (proc_of l.procs f.proc)) e.stack (start l + 7) (start l + 1) 6 (omega arith) (routine_low l Begins e.standing 7 (lit< tt)) (lit< tt) (lit< tt))) in
          let r6 = (ran_then l.code keeps_small l.frame e.low (slots_of (proc_of l.procs f.proc)) e.stack (with m) (with m) (start l + 6) (start l + 7) (start l + 1) 1 1 c5 c6 c7 (omega arith) six seven) in
          let r5 = (ran_then l.code keeps_small l.frame e.low (slots_of (proc_of l.procs f.proc)) e.stack (with m) (with m) (start l + 5) (start l + 6) (start l + 1) 1 2 c4 c5 c7 (omega arith) five r6) in
          let r4 = (ran_then l.code keeps_small l.frame e.low (slots_of (proc_of l.procs f.proc)) e.stack w (with m) (start l + 4) (start l + 5) (start l + 1) 1 3 c3 c4 c7 (omega arith) four r5) in
          let r3 = (ran_then l.code keeps_small l.frame e.low (slots_of (proc_of l.procs f.proc)) e.stack w (with m) (start l + 3) (start l + 4) (start l + 1) 1 4 c2 c3 c7 (omega arith) three r4) in
          let all = (ran_then l.code keeps_small l.frame e.low (slots_of (proc_of l.procs f.proc)) e.stack w (with m) (start l + 1) (start l + 3) (start l + 1) 2 5 a c2 c7 (omega arith) copy_tests r3) in
          works_on (CopyCell to from bytes done) f fs w a e (CopyCell to from bytes v) m c7 all (omega arith) (e.holds.0, e.holds.1, e.holds.2, refl) refl

    copy_cell : (to from bytes done : ℕ) → Set (CopyCell to from bytes done) → Safe (CopyCell to from bytes done) → Goals (CopyCell to from bytes done)
    copy_cell to from bytes done e safe = by_test (nat_lt bytes (add64 done 8)) refl safe
      where
        by_store : nat_lt bytes (add64 done 8) ≡ false → (x : ℕ) → load8 w.memory (add64 from done) ≡ Some x → (o : Option (List Area)) → store8 w.memory (add64 to done) x ≡ o
            → ((address : ℕ) → moved_to o (add64 to done) (CopyCell to from bytes (add64 done 8)) f fs w ≡ Traps (Fault address) → ⊥) → Came (CopyCell to from bytes done) (moved_to o (add64 to done) (CopyCell to from bytes (add64 done 8)) f fs w)
        by_store h x g None e' safe = absurd (safe (add64 to done) refl)
        by_store h x g (Some m) e' safe = copy_moves to from bytes done e h x m g e'

        by_load : nat_lt bytes (add64 done 8) ≡ false → (o : Option ℕ) → load8 w.memory (add64 from done) ≡ o
            → ((address : ℕ) → moved (store8 w.memory) (add64 from done) o (add64 to done) (CopyCell to from bytes (add64 done 8)) f fs w ≡ Traps (Fault address) → ⊥) → Came (CopyCell to from bytes done) (moved (store8 w.memory) (add64 from done) o (add64 to done) (CopyCell to from bytes (add64 done 8)) f fs w)
        by_load h None g safe = absurd (safe (add64 from done) refl)
        by_load h (Some x) g safe = by_store h x g (store8 w.memory (add64 to done) x) refl safe

        by_test : (t : Bool) → nat_lt bytes (add64 done 8) ≡ t
            → ((address : ℕ) → (if t then Moves [] (Works (CopyTail to from bytes done) f fs w) else moved (store8 w.memory) (add64 from done) (load8 w.memory (add64 from done)) (add64 to done) (CopyCell to from bytes (add64 done 8)) f fs w) ≡ Traps (Fault address) → ⊥)
            → Came (CopyCell to from bytes done) (if t then Moves [] (Works (CopyTail to from bytes done) f fs w) else moved (store8 w.memory) (add64 from done) (load8 w.memory (add64 from done)) (add64 to done) (CopyCell to from bytes (add64 done 8)) f fs w)
        by_test true h safe = copy_ends to from bytes done e h
        by_test false h safe = by_load h (load8 w.memory (add64 from done)) refl safe

    module _ (to from bytes done : ℕ) (e : Set (CopyTail to from bytes done)) where
      abbrev d1 : State
      d1 = changed a 31 (sub64 done bytes) (subs_flags done bytes)

      tail_tests : Led (CopyTail to from bytes done) e w (start l + 8) (start l + 9) 1 a d1
      tail_tests =
          compares_two l.code keeps_small l.frame e.low (slots_of (proc_of l.procs f.proc)) e.stack w (start l + 8) (start l + 9) (omega arith) 3 2 done bytes a (routine_low l Begins e.standing 8 (lit< tt)) (routine_word l Begins e.standing 8 refl) e.at e.holds.3 e.holds.2 (subst (λ n. n < 2 ^ 64) e.holds.2 (e.at.small.registers 2))

      tail_tells : holds Hs d1.flags ≡ nat_le bytes done
      tail_tells = after_subs Hs done bytes (subst (λ n. n < 2 ^ 64) e.holds.3 (e.at.small.registers 3)) (subst (λ n. n < 2 ^ 64) e.holds.2 (e.at.small.registers 2))

      tail_ends : nat_le bytes done ≡ true → ((address : ℕ) → resumed (ops_of (rest_of l.procs f)) f fs w None ≡ Traps (Fault address) → ⊥) → Came (CopyTail to from bytes done) (resumed (ops_of (rest_of l.procs f)) f fs w None)
      tail_ends h safe =
          let two = goes_over l.code keeps_small l.frame e.low (slots_of (proc_of l.procs f.proc)) e.stack w (start l + 9) (start l + 14) 4 (omega arith) d1 Hs (routine_low l Begins e.standing 9 (lit< tt)) (lit< tt) (routine_word l Begins e.standing 9 refl) tail_tests.at (tail_tells ∙ h) in
          goes_back (CopyTail to from bytes done) f fs w a e (start l + 14) 6 (skipped d1 (start l + 14)) None refl (omega arith) (ran_then l.code keeps_small l.frame e.low (slots_of (proc_of l.procs f.proc)) e.stack w w (start l + 8) (start l + 9) (start l + 14) 1 5 a d1 (skipped d1 (start l + 14)) (omega arith) tail_tests two) (routine_word l Begins e.standing 14 refl) refl tt safe

      tail_moves : nat_le bytes done ≡ false → (x : ℕ) (m : List Area) → load1 w.memory (add64 from done) ≡ Some x → store1 w.memory (add64 to done) x ≡ Some m → Came (CopyTail to from bytes done) (Moves [] (Works (CopyTail to from bytes (add64 done 1)) f fs (with m)))
      tail_moves h x m loads_x stores_x =
          let two = goes_on l.code keeps_small l.frame e.low (slots_of (proc_of l.procs f.proc)) e.stack w (start l + 9) (start l + 10) 5 (omega arith) d1 Hs (routine_low l Begins e.standing 9 (lit< tt)) (routine_word l Begins e.standing 9 refl) tail_tests.at (tail_tells ∙ h) in
          let d2 = skipped d1 (start l + 10) in
          let d3 = changed d2 5 x d2.flags in
          let three = writes l.code keeps_small l.frame e.low (slots_of (proc_of l.procs f.proc)) e.stack w (start l + 10) (start l + 11) (omega arith) 5 x d2.flags d2 (i.LdrbReg 5 1 3) (inl (omega arith)) (routine_low l Begins e.standing 10 (lit< tt)) (routine_word l Begins e.standing 10 refl) two.at
          (ap₂ (λ p q. loads d2 5 (add64 p q) (load1 d2.memory (add64 p q))) e.holds.1 e.holds.3 ∙ ap (loads d2 5 (add64 from done)) (load_flows_byte w.memory e.stack d2.memory two.at.memory (add64 from done) x loads_x)) in
          let too = store_flows_byte w.memory e.stack d3.memory three.at.memory (add64 to done) x m stores_x in
          let d4 : State = record d3 { pc = add64 d3.pc 4; memory = too.0 } in
          let four = puts l.code keeps_small l.frame e.low (slots_of (proc_of l.procs f.proc)) e.stack w m (start l + 11) (start l + 12) (omega arith) d3 too.0 (i.StrbReg 5 0 3) (routine_low l Begins e.standing 11 (lit< tt)) (routine_word l Begins e.standing 11 refl) three.at too.2
          (ap₂ (λ p q. stores d3 (add64 p q) (store1 d3.memory (add64 p q) x)) e.holds.0 e.holds.3 ∙ ap (stores d3 (add64 to done)) too.1) in
          let d5 = changed d4 3 (add64 done 1) d4.flags in
          let five = writes l.code keeps_small l.frame e.low (slots_of (proc_of l.procs f.proc)) e.stack (with m) (start l + 12) (start l + 13) (omega arith) 3 (add64 done 1) d4.flags d4 (i.AddImm 3 3 1 false) (inl (omega arith)) (routine_low l Begins e.standing 12 (lit< tt)) (routine_word l Begins e.standing 12 refl) four.at (ap (λ (n : ℕ). Moves [] (changed d4 3 (add64 n 1) d4.flags)) e.holds.3) in
          let d6 = skipped d5 (start l + 8) in
          let six = jumps l.code keeps_small l.frame e.low (slots_of (proc_of l.procs f.proc)) e.stack (with m) (start l + 13) (start l + 8) 1 d5 (i.B (2 ^ 26 - 5)) (routine_word l Begins e.standing 13 refl) five.at (ap (λ (n : ℕ). goes d5 (branch_to 26 n (2 ^ 26 - 5))) five.at.pc ∙ ap (goes d5) (back l.code keeps_small l.frame e.low (slots_of (proc_of l.procs f.proc)) e.stack (start l + 13) (start l + 8) 5 (omega arith) (routine_low l Begins e.standing 13 (lit< tt)) (lit< tt) (lit< tt))) in
          let r5 = (ran_then l.code keeps_small l.frame e.low (slots_of (proc_of l.procs f.proc)) e.stack (with m) (with m) (start l + 12) (start l + 13) (start l + 8) 1 2 d4 d5 d6 (omega arith) five six) in
          let r4 = (ran_then l.code keeps_small l.frame e.low (slots_of (proc_of l.procs f.proc)) e.stack (with m) (with m) (start l + 11) (start l + 12) (start l + 8) 1 3 d3 d4 d6 (omega arith) four r5) in
          let r3 = (ran_then l.code keeps_small l.frame e.low (slots_of (proc_of l.procs f.proc)) e.stack w (with m) (start l + 10) (start l + 11) (start l + 8) 1 4 d2 d3 d6 (omega arith) three r4) in
          let r2 = (ran_then l.code keeps_small l.frame e.low (slots_of (proc_of l.procs f.proc)) e.stack w (with m) (start l + 9) (start l + 10) (start l + 8) 1 5 d1 d2 d6 (omega arith) two r3) in
          let all = (ran_then l.code keeps_small l.frame e.low (slots_of (proc_of l.procs f.proc)) e.stack w (with m) (start l + 8) (start l + 9) (start l + 8) 1 6 a d1 d6 (omega arith) tail_tests r2) in
          works_on (CopyTail to from bytes done) f fs w a e (CopyTail to from bytes (add64 done 1)) m d6 all (omega arith) (e.holds.0, e.holds.1, e.holds.2, refl) refl

    copy_tail : (to from bytes done : ℕ) → Set (CopyTail to from bytes done) → Safe (CopyTail to from bytes done) → Goals (CopyTail to from bytes done)
    copy_tail to from bytes done e safe = by_test (nat_le bytes done) refl safe
      where
        by_store : nat_le bytes done ≡ false → (x : ℕ) → load1 w.memory (add64 from done) ≡ Some x → (o : Option (List Area)) → store1 w.memory (add64 to done) x ≡ o
            → ((address : ℕ) → moved_to o (add64 to done) (CopyTail to from bytes (add64 done 1)) f fs w ≡ Traps (Fault address) → ⊥) → Came (CopyTail to from bytes done) (moved_to o (add64 to done) (CopyTail to from bytes (add64 done 1)) f fs w)
        by_store h x g None e' safe = absurd (safe (add64 to done) refl)
        by_store h x g (Some m) e' safe = tail_moves to from bytes done e h x m g e'

        by_load : nat_le bytes done ≡ false → (o : Option ℕ) → load1 w.memory (add64 from done) ≡ o
            → ((address : ℕ) → moved (store1 w.memory) (add64 from done) o (add64 to done) (CopyTail to from bytes (add64 done 1)) f fs w ≡ Traps (Fault address) → ⊥) → Came (CopyTail to from bytes done) (moved (store1 w.memory) (add64 from done) o (add64 to done) (CopyTail to from bytes (add64 done 1)) f fs w)
        by_load h None g safe = absurd (safe (add64 from done) refl)
        by_load h (Some x) g safe = by_store h x g (store1 w.memory (add64 to done) x) refl safe

        by_test : (t : Bool) → nat_le bytes done ≡ t
            → ((address : ℕ) → (if t then resumed (ops_of (rest_of l.procs f)) f fs w None else moved (store1 w.memory) (add64 from done) (load1 w.memory (add64 from done)) (add64 to done) (CopyTail to from bytes (add64 done 1)) f fs w) ≡ Traps (Fault address) → ⊥)
            → Came (CopyTail to from bytes done) (if t then resumed (ops_of (rest_of l.procs f)) f fs w None else moved (store1 w.memory) (add64 from done) (load1 w.memory (add64 from done)) (add64 to done) (CopyTail to from bytes (add64 done 1)) f fs w)
        by_test true h safe = tail_ends to from bytes done e h safe
        by_test false h safe = by_load h (load1 w.memory (add64 from done)) refl safe

    ---- Zero

    zero_head : (to bytes : ℕ) → Set (ZeroHead to bytes) → Goals (ZeroHead to bytes)
    zero_head to bytes e =
        works_on (ZeroHead to bytes) f fs w a e (ZeroCell to bytes 0) w.memory (changed a 3 0 a.flags)
        (writes l.code keeps_small l.frame e.low (slots_of (proc_of l.procs f.proc)) e.stack w (start l + 15) (start l + 16) (omega arith) 3 0 a.flags a (i.Movz 3 0 0) (inl (omega arith)) (routine_low l Begins e.standing 15 (lit< tt)) (routine_word l Begins e.standing 15 refl) e.at refl) (omega arith) (e.holds.0, e.holds.1, refl) refl

    module _ (to bytes done : ℕ) (e : Set (ZeroCell to bytes done)) where
      abbrev z1 : State
      z1 = changed a 31 (sub64 done bytes) (subs_flags done bytes)

      zero_tests : Led (ZeroCell to bytes done) e w (start l + 16) (start l + 17) 1 a z1
      zero_tests =
          compares_two l.code keeps_small l.frame e.low (slots_of (proc_of l.procs f.proc)) e.stack w (start l + 16) (start l + 17) (omega arith) 3 1 done bytes a (routine_low l Begins e.standing 16 (lit< tt)) (routine_word l Begins e.standing 16 refl) e.at e.holds.2 e.holds.1 (subst (λ n. n < 2 ^ 64) e.holds.1 (e.at.small.registers 1))

      zero_tells : holds Hs z1.flags ≡ nat_le bytes done
      zero_tells = after_subs Hs done bytes (subst (λ n. n < 2 ^ 64) e.holds.2 (e.at.small.registers 3)) (subst (λ n. n < 2 ^ 64) e.holds.1 (e.at.small.registers 1))

      zero_ends : nat_le bytes done ≡ true → ((address : ℕ) → resumed (ops_of (rest_of l.procs f)) f fs w None ≡ Traps (Fault address) → ⊥) → Came (ZeroCell to bytes done) (resumed (ops_of (rest_of l.procs f)) f fs w None)
      zero_ends h safe =
          let two = goes_over l.code keeps_small l.frame e.low (slots_of (proc_of l.procs f.proc)) e.stack w (start l + 17) (start l + 21) 3 (omega arith) z1 Hs (routine_low l Begins e.standing 17 (lit< tt)) (lit< tt) (routine_word l Begins e.standing 17 refl) zero_tests.at (zero_tells ∙ h) in
          goes_back (ZeroCell to bytes done) f fs w a e (start l + 21) 5 (skipped z1 (start l + 21)) None refl (omega arith) (ran_then l.code keeps_small l.frame e.low (slots_of (proc_of l.procs f.proc)) e.stack w w (start l + 16) (start l + 17) (start l + 21) 1 4 a z1 (skipped z1 (start l + 21)) (omega arith) zero_tests two) (routine_word l Begins e.standing 21 refl) refl tt safe

      zero_moves : nat_le bytes done ≡ false → (m : List Area) → store8 w.memory (add64 to done) 0 ≡ Some m → Came (ZeroCell to bytes done) (Moves [] (Works (ZeroCell to bytes (add64 done 8)) f fs (with m)))
      zero_moves h m stores_x =
          let two = goes_on l.code keeps_small l.frame e.low (slots_of (proc_of l.procs f.proc)) e.stack w (start l + 17) (start l + 18) 4 (omega arith) z1 Hs (routine_low l Begins e.standing 17 (lit< tt)) (routine_word l Begins e.standing 17 refl) zero_tests.at (zero_tells ∙ h) in
          let z2 = skipped z1 (start l + 18) in
          let too = store_flows w.memory e.stack z2.memory two.at.memory (add64 to done) 0 m stores_x in
          let z3 : State = record z2 { pc = add64 z2.pc 4; memory = too.0 } in
          let three = puts l.code keeps_small l.frame e.low (slots_of (proc_of l.procs f.proc)) e.stack w m (start l + 18) (start l + 19) (omega arith) z2 too.0 (i.StrReg 31 0 3) (routine_low l Begins e.standing 18 (lit< tt)) (routine_word l Begins e.standing 18 refl) two.at too.2
          (ap₂ (λ p q. stores z2 (add64 p q) (store8 z2.memory (add64 p q) 0)) e.holds.0 e.holds.2 ∙ ap (stores z2 (add64 to done)) too.1) in
          let z4 = changed z3 3 (add64 done 8) z3.flags in
          let four = writes l.code keeps_small l.frame e.low (slots_of (proc_of l.procs f.proc)) e.stack (with m) (start l + 19) (start l + 20) (omega arith) 3 (add64 done 8) z3.flags z3 (i.AddImm 3 3 8 false) (inl (omega arith)) (routine_low l Begins e.standing 19 (lit< tt)) (routine_word l Begins e.standing 19 refl) three.at (ap (λ (n : ℕ). Moves [] (changed z3 3 (add64 n 8) z3.flags)) e.holds.2) in
          let z5 = skipped z4 (start l + 16) in
          let five = jumps l.code keeps_small l.frame e.low (slots_of (proc_of l.procs f.proc)) e.stack (with m) (start l + 20) (start l + 16) 1 z4 (i.B (2 ^ 26 - 4)) (routine_word l Begins e.standing 20 refl) four.at (ap (λ (n : ℕ). goes z4 (branch_to 26 n (2 ^ 26 - 4))) four.at.pc ∙ ap (goes z4) (back l.code keeps_small l.frame e.low (slots_of (proc_of l.procs f.proc)) e.stack (start l + 20) (start l + 16) 4 (omega arith) (routine_low l Begins e.standing 20 (lit< tt)) (lit< tt) (lit< tt))) in
          let r4 = (ran_then l.code keeps_small l.frame e.low (slots_of (proc_of l.procs f.proc)) e.stack (with m) (with m) (start l + 19) (start l + 20) (start l + 16) 1 2 z3 z4 z5 (omega arith) four five) in
          let r3 = (ran_then l.code keeps_small l.frame e.low (slots_of (proc_of l.procs f.proc)) e.stack (with m) (with m) (start l + 18) (start l + 19) (start l + 16) 1 3 z2 z3 z5 (omega arith) three r4) in
          let r2 = (ran_then l.code keeps_small l.frame e.low (slots_of (proc_of l.procs f.proc)) e.stack w (with m) (start l + 17) (start l + 18) (start l + 16) 1 4 z1 z2 z5 (omega arith) two r3) in
          let all = (ran_then l.code keeps_small l.frame e.low (slots_of (proc_of l.procs f.proc)) e.stack w (with m) (start l + 16) (start l + 17) (start l + 16) 1 5 a z1 z5 (omega arith) zero_tests r2) in
          works_on (ZeroCell to bytes done) f fs w a e (ZeroCell to bytes (add64 done 8)) m z5 all (omega arith) (e.holds.0, e.holds.1, refl) refl

    zero_cell : (to bytes done : ℕ) → Set (ZeroCell to bytes done) → Safe (ZeroCell to bytes done) → Goals (ZeroCell to bytes done)
    zero_cell to bytes done e safe = by_test (nat_le bytes done) refl safe
      where
        by_store : nat_le bytes done ≡ false → (o : Option (List Area)) → store8 w.memory (add64 to done) 0 ≡ o
            → ((address : ℕ) → moved_to o (add64 to done) (ZeroCell to bytes (add64 done 8)) f fs w ≡ Traps (Fault address) → ⊥) → Came (ZeroCell to bytes done) (moved_to o (add64 to done) (ZeroCell to bytes (add64 done 8)) f fs w)
        by_store h None e' safe = absurd (safe (add64 to done) refl)
        by_store h (Some m) e' safe = zero_moves to bytes done e h m e'

        by_test : (t : Bool) → nat_le bytes done ≡ t
            → ((address : ℕ) → (if t then resumed (ops_of (rest_of l.procs f)) f fs w None else moved_to (store8 w.memory (add64 to done) 0) (add64 to done) (ZeroCell to bytes (add64 done 8)) f fs w) ≡ Traps (Fault address) → ⊥)
            → Came (ZeroCell to bytes done) (if t then resumed (ops_of (rest_of l.procs f)) f fs w None else moved_to (store8 w.memory (add64 to done) 0) (add64 to done) (ZeroCell to bytes (add64 done 8)) f fs w)
        by_test true h safe = zero_ends to bytes done e h safe
        by_test false h safe = by_store h (store8 w.memory (add64 to done) 0) refl safe

    ---- Compare

    compare_head : (x m y n : ℕ) → Set (CompareHead x m y n) → Goals (CompareHead x m y n)
    compare_head x m y n e =
        works_on (CompareHead x m y n) f fs w a e (CompareCell x m y n 0) w.memory (changed a 4 0 a.flags)
        (writes l.code keeps_small l.frame e.low (slots_of (proc_of l.procs f.proc)) e.stack w (start l + 22) (start l + 23) (omega arith) 4 0 a.flags a (i.Movz 4 0 0) (inl (omega arith)) (routine_low l Begins e.standing 22 (lit< tt)) (routine_word l Begins e.standing 22 refl) e.at refl) (omega arith) (e.holds.0, e.holds.1, e.holds.2, e.holds.3, refl) refl

    -- a character is read, or none is left
    record Fetched (low slots : ℕ) (s : Area) (j h r c : ℕ) (b : State) : Type 0 where
      pub after : State
      pub ran : Ran l.code keeps_small l.frame low slots s w j h 3 b after
      pub there : after.registers r ≡ c
      pub others : (n : ℕ) → (n ≡ r → ⊥) → (n ≡ 31 → ⊥) → after.registers n ≡ b.registers n

    fetches : (low slots : ℕ) (s : Area) (j h : ℕ) → h ≡ j + 3 → (r p q x m done c : ℕ) (b : State) → Plain r → (r ≡ 31 → ⊥) → (4 ≡ r → ⊥) → r ≡ r → j + 2 < 2 ^ 18 → Stands l.code j (i.SubsReg 31 4 q Lsl 0) → Stands l.code (j + 1) (i.BCond 2 Hs) → Stands l.code (j + 2) (i.LdrbReg r p 4)
        → On l.code keeps_small l.frame low slots s w j b → b.registers r ≡ 0 → b.registers 4 ≡ done → read b.registers q ≡ m → read_or_sp (changed b 31 (sub64 done m) (subs_flags done m)) p ≡ x → done < 2 ^ 64 → m < 2 ^ 64 → char_at w.memory x m done ≡ Some c → Fetched low slots s j h r c b
    fetches low slots s j h hz r p q x m done c b plain ne ne' z bound s1 s2 s3 at clear is_done is_m is_x small small' char = by_test (nat_le m done) refl char
      where
        one : Ran l.code keeps_small l.frame low slots s w j (j + 1) 1 b (changed b 31 (sub64 done m) (subs_flags done m))
        one = compares_two l.code keeps_small l.frame low slots s w j (j + 1) refl 4 q done m b (omega (arith, bound)) s1 at is_done is_m small'

        by_test : (t : Bool) → nat_le m done ≡ t → (if t then Some 0 else load1 w.memory (add64 x done)) ≡ Some c → Fetched low slots s j h r c b
        by_test true t e =
            let b1 = changed b 31 (sub64 done m) (subs_flags done m) in
            let none : 0 ≡ c = cc in
            let two = goes_over l.code keeps_small l.frame low slots s w (j + 1) (j + 1 + 2) 1 refl b1 Hs (omega (arith, bound)) (lit< tt) s2 one.at (after_subs Hs done m small small' ∙ t) in
            let f : j + 1 + 2 ≡ h = omega (arith, hz) in
            let all = ran_then l.code keeps_small l.frame low slots s w w j (j + 1) (j + 1 + 2) 1 2 b b1 (skipped b1 (j + 1 + 2)) refl one two in
            record {
              after = skipped b1 (j + 1 + 2);
              ran = subst (λ n. Ran l.code keeps_small l.frame low slots s w j n 3 b (skipped b1 (j + 1 + 2))) f all;
              there = put_other b.registers 31 (sub64 done m) r ne ∙ clear ∙ none;
              others = λ n u v. put_other b.registers 31 (sub64 done m) n v;
            }
        by_test false t e =
            let b1 = changed b 31 (sub64 done m) (subs_flags done m) in
            let two = goes_on l.code keeps_small l.frame low slots s w (j + 1) (j + 1 + 1) 2 refl b1 Hs (omega (arith, bound)) s2 one.at (after_subs Hs done m small small' ∙ t) in
            let b2 = skipped b1 (j + 1 + 1) in
            let g : j + 1 + 1 ≡ j + 2 = omega arith in
            let b3 = changed b2 r c b2.flags in
            let at2 = subst (λ n. On l.code keeps_small l.frame low slots s w n b2) g two.at in
            let is_4 : read b2.registers 4 ≡ done = is_done in
            let three = writes l.code keeps_small l.frame low slots s w (j + 2) (j + 2 + 1) refl r c b2.flags b2 (i.LdrbReg r p 4) plain bound s3 at2
            (ap₂ (λ u v. loads b2 r (add64 u v) (load1 b2.memory (add64 u v))) is_x is_4 ∙ ap (loads b2 r (add64 x done)) (load_flows_byte w.memory s b2.memory at2.memory (add64 x done) c e)) in
            let g3 : j + 2 + 1 ≡ h = omega (arith, hz) in
            let g2 : j + 2 ≡ j + 1 + 1 = omega arith in
            let r2 = ran_then l.code keeps_small l.frame low slots s w w (j + 1) (j + 2) (j + 2 + 1) 1 1 b1 b2 b3 g2 (record { way = two.way; at = at2 }) three in
            let all = ran_then l.code keeps_small l.frame low slots s w w j (j + 1) (j + 2 + 1) 1 2 b b1 b3 refl one r2 in
            record {
              after = b3;
              ran = subst (λ n. Ran l.code keeps_small l.frame low slots s w j n 3 b b3) g3 all;
              there = put_same b2.registers r c ne;
              others = λ n u v. put_other b2.registers r c n u ∙ put_other b.registers 31 (sub64 done m) n v;
            }

    module _ (x m y n done : ℕ) (e : Set (CompareCell x m y n done)) (c d : ℕ) (first : char_at w.memory x m done ≡ Some c) (second : char_at w.memory y n done ≡ Some d) where
      abbrev low : ℕ
      low = e.low

      abbrev wide : ℕ
      wide = slots_of (proc_of l.procs f.proc)

      abbrev e1 : State
      e1 = changed a 5 0 a.flags

      abbrev e2 : State
      e2 = changed e1 6 0 a.flags

      one : Led (CompareCell x m y n done) e w (start l + 23) (start l + 24) 1 a e1
      one = writes l.code keeps_small l.frame e.low (slots_of (proc_of l.procs f.proc)) e.stack w (start l + 23) (start l + 24) (omega arith) 5 0 a.flags a (i.Movz 5 0 0) (inl (omega arith)) (routine_low l Begins e.standing 23 (lit< tt)) (routine_word l Begins e.standing 23 refl) e.at refl

      two : Led (CompareCell x m y n done) e w (start l + 24) (start l + 25) 1 e1 e2
      two = writes l.code keeps_small l.frame e.low (slots_of (proc_of l.procs f.proc)) e.stack w (start l + 24) (start l + 25) (omega arith) 6 0 a.flags e1 (i.Movz 6 0 0) (inl (omega arith)) (routine_low l Begins e.standing 24 (lit< tt)) (routine_word l Begins e.standing 24 refl) one.at refl

      small_done : done < 2 ^ 64
      small_done = subst (λ n. n < 2 ^ 64) e.holds.4 (e.at.small.registers 4)

      small_m : m < 2 ^ 64
      small_m = subst (λ n. n < 2 ^ 64) e.holds.1 (e.at.small.registers 1)

      small_n : n < 2 ^ 64
      small_n = subst (λ n. n < 2 ^ 64) e.holds.3 (e.at.small.registers 3)

      three : Fetched e.low (slots_of (proc_of l.procs f.proc)) e.stack (start l + 25) (start l + 28) 5 c e2
      three =
          fetches e.low (slots_of (proc_of l.procs f.proc)) e.stack (start l + 25) (start l + 28) (omega arith) 5 0 1 x m done c e2 (inl (omega arith)) (λ z. omega (arith, z)) (λ z. omega (arith, z)) refl (routine_bound l Begins e.standing (start l + 25 + 2) 27 (omega arith) (lit< tt)) (routine_at l Begins e.standing (start l + 25) 25 (omega arith) refl) (routine_at l Begins e.standing (start l + 25 + 1) 26 (omega arith) refl) (routine_at l Begins e.standing (start l + 25 + 2) 27 (omega arith) refl) two.at refl e.holds.4 e.holds.1 e.holds.0 small_done small_m first

      -- what the first character's words leave
      left : (r : ℕ) → (r ≡ 5 → ⊥) → (r ≡ 6 → ⊥) → (r ≡ 31 → ⊥) → three.after.registers r ≡ a.registers r
      left r u v z = three.others r u z ∙ put_other e1.registers 6 0 r v ∙ put_other a.registers 5 0 r u

      four : Fetched e.low (slots_of (proc_of l.procs f.proc)) e.stack (start l + 28) (start l + 31) 6 d three.after
      four =
          fetches e.low (slots_of (proc_of l.procs f.proc)) e.stack (start l + 28) (start l + 31) (omega arith) 6 2 3 y n done d three.after (inl (omega arith)) (λ z. omega (arith, z)) (λ z. omega (arith, z)) refl (routine_bound l Begins e.standing (start l + 28 + 2) 30 (omega arith) (lit< tt)) (routine_at l Begins e.standing (start l + 28) 28 (omega arith) refl) (routine_at l Begins e.standing (start l + 28 + 1) 29 (omega arith) refl) (routine_at l Begins e.standing (start l + 28 + 2) 30 (omega arith) refl) three.ran.at
          (three.others 6 (λ z. omega (arith, z)) (λ z. omega (arith, z)))
          (left 4 (λ z. omega (arith, z)) (λ z. omega (arith, z)) (λ z. omega (arith, z)) ∙ e.holds.4)
          (left 3 (λ z. omega (arith, z)) (λ z. omega (arith, z)) (λ z. omega (arith, z)) ∙ e.holds.3)
          (left 2 (λ z. omega (arith, z)) (λ z. omega (arith, z)) (λ z. omega (arith, z)) ∙ e.holds.2) small_done small_n second

      remains : (r : ℕ) → (r ≡ 5 → ⊥) → (r ≡ 6 → ⊥) → (r ≡ 31 → ⊥) → four.after.registers r ≡ a.registers r
      remains r u v z = four.others r v z ∙ left r u v z

      is_c : four.after.registers 5 ≡ c
      is_c = four.others 5 (λ z. omega (arith, z)) (λ z. omega (arith, z)) ∙ three.there

      small_c : c < 2 ^ 64
      small_c = subst (λ n. n < 2 ^ 64) is_c (four.ran.at.small.registers 5)

      small_d : d < 2 ^ 64
      small_d = subst (λ n. n < 2 ^ 64) four.there (four.ran.at.small.registers 6)

      abbrev e5 : State
      e5 = changed four.after 31 (sub64 c d) (subs_flags c d)

      five : Led (CompareCell x m y n done) e w (start l + 31) (start l + 32) 1 four.after e5
      five = compares_two l.code keeps_small l.frame e.low (slots_of (proc_of l.procs f.proc)) e.stack w (start l + 31) (start l + 32) (omega arith) 5 6 c d four.after (routine_low l Begins e.standing 31 (lit< tt)) (routine_word l Begins e.standing 31 refl) four.ran.at is_c four.there small_d

      to_five : Led (CompareCell x m y n done) e w (start l + 23) (start l + 32) 9 a e5
      to_five =
          let r4 = (ran_then l.code keeps_small l.frame e.low (slots_of (proc_of l.procs f.proc)) e.stack w w (start l + 28) (start l + 31) (start l + 32) 3 1 three.after four.after e5 (omega arith) four.ran five) in
          let r3 = (ran_then l.code keeps_small l.frame e.low (slots_of (proc_of l.procs f.proc)) e.stack w w (start l + 25) (start l + 28) (start l + 32) 3 4 e2 three.after e5 (omega arith) three.ran r4) in
          let r2 = (ran_then l.code keeps_small l.frame e.low (slots_of (proc_of l.procs f.proc)) e.stack w w (start l + 24) (start l + 25) (start l + 32) 1 7 e1 e2 e5 (omega arith) two r3) in
          (ran_then l.code keeps_small l.frame e.low (slots_of (proc_of l.procs f.proc)) e.stack w w (start l + 23) (start l + 24) (start l + 32) 1 8 a e1 e5 (omega arith) one r2)

      tells_apart : holds Ne e5.flags ≡ not (c == d)
      tells_apart = after_subs Ne c d small_c small_d

      -- the result
      compare_ends : (j k : ℕ) (b : State) → Led (CompareCell x m y n done) e w (start l + 23) (start l + 36) 13 a b → b.registers 5 ≡ c → b.registers 6 ≡ d → b.registers 30 ≡ a.registers 30 → ((address : ℕ) → resumed (ops_of (rest_of l.procs f)) f fs w (Some (sub64 c d)) ≡ Traps (Fault address) → ⊥) → Came (CompareCell x m y n done) (resumed (ops_of (rest_of l.procs f)) f fs w (Some (sub64 c d)))
      compare_ends j k b ran f5 f6 f30 safe =
          let t = changed b 0 (sub64 c d) b.flags in
          let last = writes l.code keeps_small l.frame e.low (slots_of (proc_of l.procs f.proc)) e.stack w (start l + 36) (start l + 37) (omega arith) 0 (sub64 c d) b.flags b (i.SubReg 0 5 6 Lsl 0) (inl (omega arith)) (routine_low l Begins e.standing 36 (lit< tt)) (routine_word l Begins e.standing 36 refl) ran.at (ap₂ (λ u v. gives b 0 (sub64 u v)) f5 (ap (λ n. lsl64 n 0) f6 ∙ lsl64_zero d small_d)) in
          goes_back (CompareCell x m y n done) f fs w a e (start l + 37) 14 t (Some (sub64 c d)) refl (omega arith) (ran_then l.code keeps_small l.frame e.low (slots_of (proc_of l.procs f.proc)) e.stack w w (start l + 23) (start l + 36) (start l + 37) 13 1 a b t (omega arith) ran last) (routine_word l Begins e.standing 37 refl) f30 refl safe

      compare_differs : (c == d) ≡ false → ((address : ℕ) → resumed (ops_of (rest_of l.procs f)) f fs w (Some (sub64 c d)) ≡ Traps (Fault address) → ⊥) → Came (CompareCell x m y n done) (resumed (ops_of (rest_of l.procs f)) f fs w (Some (sub64 c d)))
      compare_differs h safe =
          let six = goes_over l.code keeps_small l.frame e.low (slots_of (proc_of l.procs f.proc)) e.stack w (start l + 32) (start l + 36) 3 (omega arith) e5 Ne (routine_low l Begins e.standing 32 (lit< tt)) (lit< tt) (routine_word l Begins e.standing 32 refl) five.at (tells_apart ∙ ap not h) in
          compare_ends 0 0 (skipped e5 (start l + 36)) (ran_then l.code keeps_small l.frame e.low (slots_of (proc_of l.procs f.proc)) e.stack w w (start l + 23) (start l + 32) (start l + 36) 9 4 a e5 (skipped e5 (start l + 36)) (omega arith) to_five six) is_c four.there (remains 30 (λ z. omega (arith, z)) (λ z. omega (arith, z)) (λ z. omega (arith, z))) safe

      six_on : (c == d) ≡ true → Led (CompareCell x m y n done) e w (start l + 23) (start l + 33) 10 a (skipped e5 (start l + 33))
      six_on h =
          let six = goes_on l.code keeps_small l.frame e.low (slots_of (proc_of l.procs f.proc)) e.stack w (start l + 32) (start l + 33) 4 (omega arith) e5 Ne (routine_low l Begins e.standing 32 (lit< tt)) (routine_word l Begins e.standing 32 refl) five.at (tells_apart ∙ ap not h) in
          (ran_then l.code keeps_small l.frame e.low (slots_of (proc_of l.procs f.proc)) e.stack w w (start l + 23) (start l + 32) (start l + 33) 9 1 a e5 (skipped e5 (start l + 33)) (omega arith) to_five six)

      compare_zero : (c == d) ≡ true → (c == 0) ≡ true → ((address : ℕ) → resumed (ops_of (rest_of l.procs f)) f fs w (Some (sub64 c d)) ≡ Traps (Fault address) → ⊥) → Came (CompareCell x m y n done) (resumed (ops_of (rest_of l.procs f)) f fs w (Some (sub64 c d)))
      compare_zero h z safe =
          let e6 = skipped e5 (start l + 33) in
          let at6 = (six_on h).at in
          let seven = jumps l.code keeps_small l.frame e.low (slots_of (proc_of l.procs f.proc)) e.stack w (start l + 33) (start l + 36) 2 e6 (i.Cbz 5 3) (routine_word l Begins e.standing 33 refl) at6
          (ap (λ (u : ℕ). goes_if e6 (u == 0) (branch_to 19 e6.pc 3)) is_c ∙ ap (λ (b : Bool). goes_if e6 b (branch_to 19 e6.pc 3)) z ∙ ap (λ (u : ℕ). goes e6 (branch_to 19 u 3)) at6.pc ∙ ap (goes e6) (forth l.code keeps_small l.frame e.low (slots_of (proc_of l.procs f.proc)) e.stack (start l + 33) (start l + 36) 3 (omega arith) (routine_low l Begins e.standing 33 (lit< tt)) (lit< tt))) in
          compare_ends 0 0 (skipped e6 (start l + 36)) (ran_then l.code keeps_small l.frame e.low (slots_of (proc_of l.procs f.proc)) e.stack w w (start l + 23) (start l + 33) (start l + 36) 10 3 a e6 (skipped e6 (start l + 36)) (omega arith) (six_on h) seven) is_c four.there (remains 30 (λ z. omega (arith, z)) (λ z. omega (arith, z)) (λ z. omega (arith, z))) safe

      compare_goes_on : (c == d) ≡ true → (c == 0) ≡ false → Came (CompareCell x m y n done) (Moves [] (Works (CompareCell x m y n (add64 done char_bytes)) f fs w))
      compare_goes_on h z =
          let e6 = skipped e5 (start l + 33) in
          let at6 = (six_on h).at in
          let e7 = skipped e6 (start l + 34) in
          let seven = jumps l.code keeps_small l.frame e.low (slots_of (proc_of l.procs f.proc)) e.stack w (start l + 33) (start l + 34) 0 e6 (i.Cbz 5 3) (routine_word l Begins e.standing 33 refl) at6
          (ap (λ (u : ℕ). goes_if e6 (u == 0) (branch_to 19 e6.pc 3)) is_c ∙ ap (λ (b : Bool). goes_if e6 b (branch_to 19 e6.pc 3)) z ∙ ap (λ (u : ℕ). goes e6 (add64 u 4)) at6.pc ∙ ap (goes e6) (next_word (start l + 33) (routine_low l Begins e.standing 33 (lit< tt)) ∙ ap address_of (one_more (start l)))) in
          let e8 = changed e7 4 (add64 done char_bytes) e7.flags in
          let is_4 : e7.registers 4 ≡ done = remains 4 (λ z. omega (arith, z)) (λ z. omega (arith, z)) (λ z. omega (arith, z)) ∙ e.holds.4 in
          let eight = writes l.code keeps_small l.frame e.low (slots_of (proc_of l.procs f.proc)) e.stack w (start l + 34) (start l + 35) (omega arith) 4 (add64 done char_bytes) e7.flags e7 (i.AddImm 4 4 char_bytes false) (inl (omega arith)) (routine_low l Begins e.standing 34 (lit< tt)) (routine_word l Begins e.standing 34 refl) seven.at (ap (λ (u : ℕ). Moves [] (changed e7 4 (add64 u char_bytes) e7.flags)) is_4) in
          let e9 = skipped e8 (start l + 23) in
          let nine = jumps l.code keeps_small l.frame e.low (slots_of (proc_of l.procs f.proc)) e.stack w (start l + 35) (start l + 23) 2 e8 (i.B (2 ^ 26 - 12)) (routine_word l Begins e.standing 35 refl) eight.at (ap (λ (u : ℕ). goes e8 (branch_to 26 u (2 ^ 26 - 12))) eight.at.pc ∙ ap (goes e8) (back l.code keeps_small l.frame e.low (slots_of (proc_of l.procs f.proc)) e.stack (start l + 35) (start l + 23) 12 (omega arith) (routine_low l Begins e.standing 35 (lit< tt)) (lit< tt) (lit< tt))) in
          let r8 = (ran_then l.code keeps_small l.frame e.low (slots_of (proc_of l.procs f.proc)) e.stack w w (start l + 34) (start l + 35) (start l + 23) 1 3 e7 e8 e9 (omega arith) eight nine) in
          let r7 = (ran_then l.code keeps_small l.frame e.low (slots_of (proc_of l.procs f.proc)) e.stack w w (start l + 33) (start l + 34) (start l + 23) 1 4 e6 e7 e9 (omega arith) seven r8) in
          let all = (ran_then l.code keeps_small l.frame e.low (slots_of (proc_of l.procs f.proc)) e.stack w w (start l + 23) (start l + 33) (start l + 23) 10 5 a e6 e9 (omega arith) (six_on h) r7) in
          let same = λ (r : ℕ) (u : r ≡ 5 → ⊥) (v : r ≡ 6 → ⊥) (z : r ≡ 31 → ⊥). remains r u v z in
          works_on (CompareCell x m y n done) f fs w a e (CompareCell x m y n (add64 done char_bytes)) w.memory e9 all (omega arith) (
            remains 0 (λ z. omega (arith, z)) (λ z. omega (arith, z)) (λ z. omega (arith, z)) ∙ e.holds.0,
            remains 1 (λ z. omega (arith, z)) (λ z. omega (arith, z)) (λ z. omega (arith, z)) ∙ e.holds.1,
            remains 2 (λ z. omega (arith, z)) (λ z. omega (arith, z)) (λ z. omega (arith, z)) ∙ e.holds.2,
            remains 3 (λ z. omega (arith, z)) (λ z. omega (arith, z)) (λ z. omega (arith, z)) ∙ e.holds.3,
            refl,
          ) (remains 30 (λ z. omega (arith, z)) (λ z. omega (arith, z)) (λ z. omega (arith, z)))

    compare_cell : (x m y n done : ℕ) → Set (CompareCell x m y n done) → Safe (CompareCell x m y n done) → Goals (CompareCell x m y n done)
    compare_cell x m y n done e safe = by_first (char_at w.memory x m done) refl (char_at w.memory y n done) refl safe
      where
        by_zero : (c d : ℕ) → char_at w.memory x m done ≡ Some c → char_at w.memory y n done ≡ Some d → (c == d) ≡ true → (z : Bool) → (c == 0) ≡ z → (t : Bool) → nat_lt 0 c ≡ t
            → ((address : ℕ) → (if t then Moves [] (Works (CompareCell x m y n (add64 done char_bytes)) f fs w) else resumed (ops_of (rest_of l.procs f)) f fs w (Some (sub64 c d))) ≡ Traps (Fault address) → ⊥)
            → Came (CompareCell x m y n done) (if t then Moves [] (Works (CompareCell x m y n (add64 done char_bytes)) f fs w) else resumed (ops_of (rest_of l.procs f)) f fs w (Some (sub64 c d)))
        by_zero c d g h i' true z true t safe = let wrong : true ≡ false = grind (arith, nat_tests, z, t) in cc
        by_zero c d g h i' true z false t safe = compare_zero x m y n done e c d g h i' z safe
        by_zero c d g h i' false z true t safe = compare_goes_on x m y n done e c d g h i' z
        by_zero c d g h i' false z false t safe = let wrong : true ≡ false = grind (arith, nat_tests, z, t) in cc

        by_test : (c d : ℕ) → char_at w.memory x m done ≡ Some c → char_at w.memory y n done ≡ Some d → (t : Bool) → (c == d) ≡ t
            → ((address : ℕ) → (if t && nat_lt 0 c then Moves [] (Works (CompareCell x m y n (add64 done char_bytes)) f fs w) else resumed (ops_of (rest_of l.procs f)) f fs w (Some (sub64 c d))) ≡ Traps (Fault address) → ⊥)
            → Came (CompareCell x m y n done) (if t && nat_lt 0 c then Moves [] (Works (CompareCell x m y n (add64 done char_bytes)) f fs w) else resumed (ops_of (rest_of l.procs f)) f fs w (Some (sub64 c d)))
        by_test c d g h false t safe = compare_differs x m y n done e c d g h t safe
        by_test c d g h true t safe = by_zero c d g h t (c == 0) refl (nat_lt 0 c) refl safe

        by_first : (p : Option ℕ) → char_at w.memory x m done ≡ p → (q : Option ℕ) → char_at w.memory y n done ≡ q → ((address : ℕ) → compared (ops_of (rest_of l.procs f)) x m y n done f fs w p q ≡ Traps (Fault address) → ⊥) → Came (CompareCell x m y n done) (compared (ops_of (rest_of l.procs f)) x m y n done f fs w p q)
        by_first None g q h safe = absurd (safe x refl)
        by_first (Some c) g None h safe = absurd (safe y refl)
        by_first (Some c) g (Some d) h safe = by_test c d g h (c == d) refl safe

  pub work_carries : (k : Work) (f : Frame) (fs : List Frame) (w : World) (a : State) → Working l Begins keeps_small k f fs w a → ((address : ℕ) → work_on (ops_of (rest_of l.procs f)) k f fs w ≡ Traps (Fault address) → ⊥) → Carry l Begins keeps_small opens (At (part k)) a (work_on (ops_of (rest_of l.procs f)) k f fs w)
  work_carries (CopyHead to from bytes) f fs w a e safe = copy_head f fs w a to from bytes e
  work_carries (CopyCell to from bytes done) f fs w a e safe = copy_cell f fs w a to from bytes done e safe
  work_carries (CopyTail to from bytes done) f fs w a e safe = copy_tail f fs w a to from bytes done e safe
  work_carries (ZeroHead to bytes) f fs w a e safe = zero_head f fs w a to bytes e
  work_carries (ZeroCell to bytes done) f fs w a e safe = zero_cell f fs w a to bytes done e safe
  work_carries (CompareHead x m y n) f fs w a e safe = compare_head f fs w a x m y n e
  work_carries (CompareCell x m y n done) f fs w a e safe = compare_cell f fs w a x m y n done e safe
