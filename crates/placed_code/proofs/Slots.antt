-- Words that pass, those that give a register, and those that reach a slot of the frame.
use Rattle.std.proofs.Common.{◌≡◌, ℕ, suc, ◌+◌, ◌*◌, ◌/◌, ◌%◌, ◌<◌, ◌^◌, ◌⊎◌, ⊎_elim, inr, List, [], ◌∷◌, length, Bool, true, false, Option, refl, arith, sym, ap, ◌∙◌, subst, lit<}
use Rattle.std.specs.Prelude.{if◌then◌else◌}
use Rattle.run_laws.specs.Runs.{Moves}
use Rattle.run_laws.specs.Layers.{places_from}
use Rattle.run_laws.proofs.Layers.{places_from-append}
use Rattle.wrapping_numbers.specs.Numbers.{add64}
use Rattle.a64_memory.specs.Memory.{Area, load8, store8, stored8}
use Rattle.a64_instr.specs.declared.instr.Instr.{Instr}
use Rattle.a64_instr.specs.declared.instr.Instr.TheVariants.{Ldr, Str}
use Rattle.a64_machine.specs.State.{State, address_of, read, read_or_sp, put}
use Rattle.a64_machine.specs.Effects.{effect, gives, loads, stores}
use Rattle.a64_memory.specs.Areas.{data_base}
use Rattle.a64_machine.specs.Machine.{step_of}
use Rattle.a64_machine.proofs.Registers.{read_is, put_same, put_other}
use Rattle.a64_machine.proofs.Steps.{Stands, StandAll, Walks, step-at, walks-one, walks-append}
use Rattle.block_runs.specs.States.{World}
use Rattle.placed_code.specs.Words.{is_near, reach, page_slots, page_word, load_slot, store_slot}
use Rattle.placed_code.proofs.Stack.{held, with_held, Memories, load_stack, store_stack, memories_stored, Space, slot_lies, slot_address, space_stored}
use Rattle.a64_machine.proofs.Numbers.{Numbers}

-- the registers that have their use
pub record Fixed (w : World) (r : ℕ → ℕ) : Type 0 where
  pub calls : r 20 ≡ w.calls
  pub cells : r 23 ≡ w.cells
  pub local : r 19 ≡ w.local
  pub globals : r 24 ≡ data_base
  pub next : r 21 ≡ w.next
  pub free : r 22 ≡ w.free

-- the others
abbrev pub Plain : ℕ → Type 0
Plain d = (d < 19) ⊎ (24 < d)

not_plain : (d n : ℕ) → Plain d → 18 < n → n < 25 → n ≡ d → ⊥
not_plain d n p l u e = ⊎_elim (λ x. omega (arith, x, l, e)) (λ x. omega (arith, x, u, e)) p

pub fixed_put : (w : World) (r : ℕ → ℕ) (d v : ℕ) → Plain d → Fixed w r → Fixed w (put r d v)
fixed_put w r d v l f = record {
  calls = put_other r d v 20 (not_plain d 20 l (lit< tt) (lit< tt)) ∙ f.calls;
  cells = put_other r d v 23 (not_plain d 23 l (lit< tt) (lit< tt)) ∙ f.cells;
  local = put_other r d v 19 (not_plain d 19 l (lit< tt) (lit< tt)) ∙ f.local;
  globals = put_other r d v 24 (not_plain d 24 l (lit< tt) (lit< tt)) ∙ f.globals;
  next = put_other r d v 21 (not_plain d 21 l (lit< tt) (lit< tt)) ∙ f.next;
  free = put_other r d v 22 (not_plain d 22 l (lit< tt) (lit< tt)) ∙ f.free;
}

next_address : (k : ℕ) → k < 2 ^ 18 → add64 (address_of k) 4 ≡ address_of (suc k)
next_address k l = omega (arith, l)

abbrev pub given : State → ℕ → ℕ → State
given a d v = record a { pc = add64 a.pc 4; registers = put a.registers d v }

abbrev pub kept : State → ℕ → ℕ → State
kept a p v = record a { pc = add64 a.pc 4; memory = stored8 a.memory p v }

-- as many words as reach it load from a slot and store into it
pub load_size : (d j : ℕ) → length (load_slot d j) ≡ reach j
load_size d j = by_reach (is_near j)
  where
    by_reach : (b : Bool) → length (if b then (Ldr d 31 j ∷ []) else (page_word j ∷ Ldr d 26 (j % page_slots) ∷ [])) ≡ (if b then 1 else 2)
    by_reach true = refl
    by_reach false = refl

pub store_size : (d j : ℕ) → length (store_slot d j) ≡ reach j
store_size d j = by_reach (is_near j)
  where
    by_reach : (b : Bool) → length (if b then (Str d 31 j ∷ []) else (page_word j ∷ Str d 26 (j % page_slots) ∷ [])) ≡ (if b then 1 else 2)
    by_reach true = refl
    by_reach false = refl

some_reach : (j : ℕ) → 0 < reach j
some_reach j = by_reach (is_near j)
  where
    by_reach : (b : Bool) → 0 < (if b then 1 else 2)
    by_reach true = omega arith
    by_reach false = omega arith

pub some_load : (d j : ℕ) → 0 < length (load_slot d j)
some_load d j = let n = load_size d j in let s = some_reach j in omega (arith, n, s)

module _ (code : List ℕ) (keeps_small : (a b : State) (w : List ℕ) → Numbers a → step_of code a ≡ Moves w b → Numbers b) (frame : ℕ) where
  -- the machine stands at word k, its frame at low, its stack s; the rest of it is the flows' world
  pub record At (low slots k : ℕ) (w : World) (s : Area) (a : State) : Type 0 where
    pub pc : a.pc ≡ address_of k
    pub sp : a.sp ≡ low
    pub memory : Memories w.memory s a.memory
    pub fixed : Fixed w a.registers
    pub input : a.input ≡ w.input
    pub space : Space frame s low slots
    pub small : Numbers a

  -- a word passed, and where the machine stands then
  pub record Passed (low slots k n : ℕ) (w : World) (s : Area) (a t : State) : Type 0 where
    pub walk : Walks code a (places_from k n) [] t
    pub at : At low slots (k + n) w s t

  -- a word that gives a register
  pub gives_does : (low slots k : ℕ) (w : World) (s : Area) (a : State) (i : Instr) (d v : ℕ) → Plain d → k < 2 ^ 18 → Stands code k i → At low slots k w s a → effect i a ≡ gives a d v → Passed low slots k 1 w s a (given a d v)
  gives_does low slots k w s a i d v l small stands at e =
      let one : k + 1 ≡ suc k = omega arith in
      record {
        walk = walks-one k stands a at.pc e;
        at = record {
          pc = ap (λ (n : ℕ). add64 n 4) at.pc ∙ next_address k small ∙ ap address_of (sym one);
          sp = at.sp;
          memory = at.memory;
          fixed = fixed_put w a.registers d v l at.fixed;
          input = at.input;
          space = at.space;
          small = keeps_small a (given a d v) [] at.small (step-at k stands a at.pc ∙ e);
        };
      }

  -- a word that stores into a slot, from a register that is at some of its frame's bytes
  stores_from : (low slots k : ℕ) (w : World) (s : Area) (a : State) (r b imm base j : ℕ) → read_or_sp a b ≡ base → base + 8 * imm ≡ low + 8 * j → j < slots → k < 2 ^ 18 → Stands code k (Str r b imm) → At low slots k w s a
      → Passed low slots k 1 w (with_held s (low + 8 * j) (read a.registers r)) a (kept a (low + 8 * j) (read a.registers r))
  stores_from low slots k w s a r b imm base j is sum h small stands at =
      let one : k + 1 ≡ suc k = omega arith in
      let lie = slot_lies frame s low slots at.space j h in
      let e : effect (Str r b imm) a ≡ Moves [] (kept a (low + 8 * j) (read a.registers r)) =
      ap (λ (p : ℕ). stores a p (store8 a.memory p (read a.registers r))) (ap (λ (n : ℕ). add64 n (8 * imm)) is ∙ ap (λ (n : ℕ). n % 2 ^ 64) sum ∙ slot_address frame s low slots at.space j h)
      ∙ ap (λ (o : Option (List Area)). stores a (low + 8 * j) o) (store_stack w.memory s a.memory at.memory (low + 8 * j) (read a.registers r) lie) in
      record {
        walk = walks-one k stands a at.pc e;
        at = record {
          pc = ap (λ (n : ℕ). add64 n 4) at.pc ∙ next_address k small ∙ ap address_of (sym one);
          sp = at.sp;
          memory = memories_stored w.memory s a.memory at.memory (low + 8 * j) (read a.registers r) lie;
          fixed = record { calls = at.fixed.calls; cells = at.fixed.cells; local = at.fixed.local; globals = at.fixed.globals; next = at.fixed.next; free = at.fixed.free };
          input = at.input;
          space = space_stored frame s low slots at.space (low + 8 * j) (read a.registers r) lie;
          small = keeps_small a (kept a (low + 8 * j) (read a.registers r)) [] at.small (step-at k stands a at.pc ∙ e);
        };
      }

  pub stores_does : (low slots k : ℕ) (w : World) (s : Area) (a : State) (r j : ℕ) → j < slots → k < 2 ^ 18 → Stands code k (Str r 31 j) → At low slots k w s a → Passed low slots k 1 w (with_held s (low + 8 * j) (read a.registers r)) a (kept a (low + 8 * j) (read a.registers r))
  stores_does low slots k w s a r j h small stands at = stores_from low slots k w s a r 31 j low j at.sp refl h small stands at

  -- a load from a slot
  loads_from : (low slots k : ℕ) (w : World) (s : Area) (a : State) (d b imm base j : ℕ) → read_or_sp a b ≡ base → base + 8 * imm ≡ low + 8 * j → j < slots → At low slots k w s a → effect (Ldr d b imm) a ≡ gives a d (held s (low + 8 * j))
  loads_from low slots k w s a d b imm base j is sum h at =
      ap (λ (p : ℕ). loads a d p (load8 a.memory p)) (ap (λ (n : ℕ). add64 n (8 * imm)) is ∙ ap (λ (n : ℕ). n % 2 ^ 64) sum ∙ slot_address frame s low slots at.space j h)
      ∙ ap (λ (o : Option ℕ). loads a d (low + 8 * j) o) (load_stack w.memory s a.memory at.memory (low + 8 * j) (slot_lies frame s low slots at.space j h))

  pub slot_loads : (low slots k : ℕ) (w : World) (s : Area) (a : State) (d j : ℕ) → j < slots → At low slots k w s a → effect (Ldr d 31 j) a ≡ gives a d (held s (low + 8 * j))
  slot_loads low slots k w s a d j h at = loads_from low slots k w s a d 31 j low j at.sp refl h at

  pub passed_append : (low slots k m n : ℕ) (w : World) (s t : Area) (a b c : State) → Passed low slots k m w s a b → Passed low slots (k + m) n w t b c → Passed low slots k (m + n) w t a c
  passed_append low slots k m n w s t a b c one two =
      let e : k + m + n ≡ k + (m + n) = omega arith in
      record {
        walk = subst (λ (ps : List ℕ). Walks code a ps [] c) (places_from-append k m n) (walks-append one.walk two.walk);
        at = subst (λ (i : ℕ). At low slots i w t c) e two.at;
      }

  ---- Slots near and far

  -- X26 is at a far slot's page
  abbrev page : ℕ → ℕ
  page j = j / page_slots * 2 ^ 12

  page_ends : (low j : ℕ) → low + page j + 8 * (j % page_slots) ≡ low + 8 * j
  page_ends low j = omega arith

  page_does : (low slots k : ℕ) (w : World) (s : Area) (a : State) (j : ℕ) → j < slots → k < 2 ^ 18 → Stands code k (page_word j) → At low slots k w s a → Passed low slots k 1 w s a (given a 26 (low + page j))
  page_does low slots k w s a j h small stands at =
      let few = at.space.small in
      let top = at.space.top in
      let near : add64 low (page j) ≡ low + page j = omega (arith, h, few, top) in
      gives_does low slots k w s a (page_word j) 26 (low + page j) (inr (omega arith)) small stands at (ap (λ p. gives a 26 (add64 p (page j))) at.sp ∙ ap (gives a 26) near)

  -- words passed that give register d and may change X26, and none but these
  pub record Loaded (low slots k n d x : ℕ) (w : World) (s : Area) (a : State) : Type 0 where
    pub after : State
    pub passed : Passed low slots k n w s a after
    pub there : after.registers d ≡ x
    pub others : (m : ℕ) → (m ≡ d → ⊥) → (m ≡ 26 → ⊥) → after.registers m ≡ a.registers m

  pub load_does : (low slots k : ℕ) (w : World) (s : Area) (a : State) (d j : ℕ) → Plain d → (d ≡ 31 → ⊥) → j < slots → StandAll code k (load_slot d j) → At low slots k w s a → Loaded low slots k (length (load_slot d j)) d (held s (low + 8 * j)) w s a
  load_does low slots k w s a d j plain some h stands at = by_reach (is_near j) stands
    where
      by_reach : (b : Bool) → StandAll code k (if b then (Ldr d 31 j ∷ []) else (page_word j ∷ Ldr d 26 (j % page_slots) ∷ []))
          → Loaded low slots k (length (if b then (Ldr d 31 j ∷ []) else (page_word j ∷ Ldr d 26 (j % page_slots) ∷ []))) d (held s (low + 8 * j)) w s a
      by_reach true st = record {
        after = given a d (held s (low + 8 * j));
        passed = gives_does low slots k w s a (Ldr d 31 j) d (held s (low + 8 * j)) plain st.0 st.1 at (slot_loads low slots k w s a d j h at);
        there = put_same a.registers d (held s (low + 8 * j)) some;
        others = λ m e f. put_other a.registers d (held s (low + 8 * j)) m e;
      }
      by_reach false st =
          let x = held s (low + 8 * j) in
          let one = page_does low slots k w s a j h st.0 st.1 at in
          let mid = given a 26 (low + page j) in
          let e : k + 1 ≡ suc k = omega arith in
          let base = put_same a.registers 26 (low + page j) (λ z. omega (arith, z)) in
          let two = gives_does low slots (k + 1) w s mid (Ldr d 26 (j % page_slots)) d x plain (subst (λ n. n < 2 ^ 18) (sym e) st.2.0) (subst (λ n. Stands code n (Ldr d 26 (j % page_slots))) (sym e) st.2.1) one.at
          (loads_from low slots (k + 1) w s mid d 26 (j % page_slots) (low + page j) j base (page_ends low j) h one.at) in
          record {
            after = given mid d x;
            passed = passed_append low slots k 1 1 w s s a mid (given mid d x) one two;
            there = put_same mid.registers d x some;
            others = λ m ne far. put_other mid.registers d x m ne ∙ put_other a.registers 26 (low + page j) m far;
          }

  -- words passed that put a register's number into a slot and may change X26, and no other register
  pub record Stored (low slots k n p x : ℕ) (w : World) (s : Area) (a : State) : Type 0 where
    pub after : State
    pub passed : Passed low slots k n w (with_held s p x) a after
    pub others : (m : ℕ) → (m ≡ 26 → ⊥) → after.registers m ≡ a.registers m

  pub store_does : (low slots k : ℕ) (w : World) (s : Area) (a : State) (r j : ℕ) → (r ≡ 31 → ⊥) → (r ≡ 26 → ⊥) → j < slots → StandAll code k (store_slot r j) → At low slots k w s a → Stored low slots k (length (store_slot r j)) (low + 8 * j) (a.registers r) w s a
  store_does low slots k w s a r j some free h stands at = by_reach (is_near j) stands
    where
      -- what the last word stores
      as_is : (b : State) (q : ℕ) → read b.registers r ≡ a.registers r → Passed low slots k q w (with_held s (low + 8 * j) (read b.registers r)) a (kept b (low + 8 * j) (read b.registers r)) → Passed low slots k q w (with_held s (low + 8 * j) (a.registers r)) a (kept b (low + 8 * j) (a.registers r))
      as_is b q is p = subst (λ (v : ℕ). Passed low slots k q w (with_held s (low + 8 * j) v) a (kept b (low + 8 * j) v)) is p

      by_reach : (b : Bool) → StandAll code k (if b then (Str r 31 j ∷ []) else (page_word j ∷ Str r 26 (j % page_slots) ∷ []))
          → Stored low slots k (length (if b then (Str r 31 j ∷ []) else (page_word j ∷ Str r 26 (j % page_slots) ∷ []))) (low + 8 * j) (a.registers r) w s a
      by_reach true st = record {
        after = kept a (low + 8 * j) (a.registers r);
        passed = as_is a 1 (read_is a.registers r some) (stores_does low slots k w s a r j h st.0 st.1 at);
        others = λ m far. refl;
      }
      by_reach false st =
          let one = page_does low slots k w s a j h st.0 st.1 at in
          let mid = given a 26 (low + page j) in
          let e : k + 1 ≡ suc k = omega arith in
          let base = put_same a.registers 26 (low + page j) (λ z. omega (arith, z)) in
          let is : read mid.registers r ≡ a.registers r = read_is mid.registers r some ∙ put_other a.registers 26 (low + page j) r free in
          let two = stores_from low slots (k + 1) w s mid r 26 (j % page_slots) (low + page j) j base (page_ends low j) h (subst (λ n. n < 2 ^ 18) (sym e) st.2.0) (subst (λ n. Stands code n (Str r 26 (j % page_slots))) (sym e) st.2.1) one.at in
          record {
            after = kept mid (low + 8 * j) (a.registers r);
            passed = as_is mid 2 is (passed_append low slots k 1 1 w s (with_held s (low + 8 * j) (read mid.registers r)) a mid (kept mid (low + 8 * j) (read mid.registers r)) one two);
            others = λ m far. put_other a.registers 26 (low + page j) m far;
          }
