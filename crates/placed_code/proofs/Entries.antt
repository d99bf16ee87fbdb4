-- The words of a prologue: the depth of calls is tested, a frame is made, and local data are taken.
use Rattle.std.proofs.Common.{◌≡◌, ℕ, suc, ◌+◌, ◌-◌, ◌*◌, ◌/◌, ◌%◌, ◌<◌, ◌≤◌, ◌^◌, ◌==◌, ◌&&◌, inl, inr, ⊎_elim, List, [], ◌∷◌, map, length, length-append, Bool, true, false, not, nat_le, refl, arith, sym, ap, ap₂, ◌∙◌, subst}
use Rattle.std.specs.Prelude.{if◌then◌else◌, nat_lt}
use Rattle.std.proofs.lemmas.Bool.Decides.{eqb_tells, nat_tests}
use Rattle.run_laws.specs.Runs.{Moves, Traps}
use Rattle.a64_memory.specs.Memory.{Area}
use Rattle.wrapping_numbers.specs.Numbers.{add64, sub64}
use Rattle.a64_numbers.specs.Branches.{branch_to}
use Rattle.wrapping_numbers.specs.Shifts.{lsl64}
use Rattle.a64_numbers.specs.Moves.{moved_by, constant_moves}
use Rattle.a64_numbers.specs.declared.moves.Move.{Move}
use Rattle.a64_numbers.proofs.Constants.{constant_moves_make}
use Rattle.wrapping_numbers.proofs.Amounts.{lsl64_zero}
use Rattle.a64_numbers.proofs.Operands.{plus_is}
use Rattle.a64_numbers.specs.Conditions.{subs_flags}
use Rattle.a64_numbers.proofs.Branches.{branch_forward_19}
use Rattle.a64_instr.specs.declared.instr.Shift.TheVariants.{Lsl}
use Rattle.a64_instr.specs.declared.instr.Cond.TheVariants.{Hs}
use Rattle.a64_instr.specs.declared.instr.Instr.{Instr}
use Rattle.a64_instr.specs.declared.instr.Instr.TheVariants.{AddImm, SubImm, SubReg, SubsReg, BCond, Cbnz, Str, Brk}
use Rattle.a64_machine.specs.State.{State, Broke, address_of, place_at, put}
use Rattle.a64_machine.specs.Effects.{effect, gives, goes, goes_if}
use Rattle.a64_memory.specs.Areas.{frames_base, frames_bytes}
use Rattle.a64_machine.specs.Machine.{step_of}
use Rattle.a64_machine.proofs.Registers.{put_same, put_other}
use Rattle.a64_machine.proofs.Steps.{Stands, step-at, walks-one, walks-none, place-address, StandAll, stand_append}
use Rattle.block_runs.specs.States.{World}
use Rattle.placed_code.specs.Words.{move_word, depth_words, frame_words, count_words, taking, room_words, data_words, local_words}
use Rattle.placed_code.proofs.Stack.{held, with_held, Space, slot_lies}
use Rattle.placed_code.proofs.Slots.{Fixed, fixed_put, stores_does, given, kept}
use Rattle.a64_machine.proofs.Ways.{Stops, stops_behind, stops_longer, Way, way_none, way_append, way_is}
use Rattle.placed_code.proofs.Leading.{way_of, next_word, Here, leads, gives_any}
use Rattle.a64_machine.proofs.Numbers.{Numbers}
use Rattle.a64_numbers.specs.Moves as mv
use Rattle.a64_numbers.specs.declared.moves.Move.TheVariants as m
use Rattle.a64_memory.proofs.Parts.{held_same}
use Rattle.a64_memory.proofs.Parts.{held_apart}

-- two words behind
skips_two : (k : ℕ) → k < 2 ^ 18 → branch_to 19 (address_of k) 2 ≡ address_of (k + 2)
skips_two k l = let e : address_of k + 4 * 2 ≡ address_of (k + 2) = omega arith in branch_forward_19 (address_of k) 2 (omega arith) (omega (arith, l)) ∙ e

abbrev pub moved_sp : State → ℕ → State
moved_sp a v = record a { pc = add64 a.pc 4; registers = put a.registers 31 v; sp = v }

pub fixed_sp : (w : World) (r : ℕ → ℕ) (v : ℕ) → Fixed w r → Fixed w (put r 31 v)
fixed_sp w r v f = record {
  calls = put_other r 31 v 20 (λ e. omega (arith, e)) ∙ f.calls;
  cells = put_other r 31 v 23 (λ e. omega (arith, e)) ∙ f.cells;
  local = put_other r 31 v 19 (λ e. omega (arith, e)) ∙ f.local;
  globals = put_other r 31 v 24 (λ e. omega (arith, e)) ∙ f.globals;
  next = put_other r 31 v 21 (λ e. omega (arith, e)) ∙ f.next;
  free = put_other r 31 v 22 (λ e. omega (arith, e)) ∙ f.free;
}

pub is_no : (m n : ℕ) → (m == n) ≡ false → m ≡ n → ⊥
is_no m n e = ⊎_elim (λ t. let x = t.1 in cc) (λ f. f.1) (eqb_tells m n)

module _ (code : List ℕ) (keeps_small : (a b : State) (w : List ℕ) → Numbers a → step_of code a ≡ Moves w b → Numbers b) (frame : ℕ) where
  abbrev On : ℕ → ℕ → ℕ → World → Area → State → Type 0
  On low slots k w s a = Here code keeps_small frame low slots k w s a

  -- BRK stops
  pub stops_here : (low slots k kind : ℕ) (w : World) (s : Area) (a : State) → Stands code k (Brk kind) → On low slots k w s a → step_of code a ≡ Traps (Broke kind k)
  stops_here low slots k kind w s a stands at = step-at k stands a at.pc ∙ ap (λ (n : ℕ). Traps (Broke kind n)) (ap place_at at.pc ∙ place-address k)

  -- CBNZ, B.cond: the word behind the next, or the next
  abbrev pub at_word : State → ℕ → State
  at_word a k = record a { pc = address_of k }

  ---- The depth of calls

  pub record Depth (b : Bool) (low k : ℕ) (w : World) (s : Area) (a : State) : Type 0 where
    pub after : State
    pub way : Way code k (length (depth_words b)) a after
    pub at : On low 0 (k + length (depth_words b)) (record w { calls = w.calls - (if b then 1 else 0) }) s after
    pub args : (n : ℕ) → n < 16 → after.registers n ≡ a.registers n
    pub link : after.registers 30 ≡ a.registers 30

  deeper : (low k : ℕ) (w : World) (s : Area) (a : State) → (w.calls == 0) ≡ false → StandAll code k (depth_words true) → On low 0 k w s a → Depth true low k w s a
  deeper low k w s a some stands at =
      let one : State = at_word a (k + 2) in
      let first : effect (Cbnz 20 2) a ≡ Moves [] one =
      ap (λ (n : ℕ). goes_if a (not (n == 0)) (branch_to 19 a.pc 2)) at.fixed.calls
      ∙ ap (λ (b : Bool). goes_if a (not b) (branch_to 19 a.pc 2)) some
      ∙ ap (λ (n : ℕ). goes a (branch_to 19 n 2)) at.pc
      ∙ ap (goes a) (skips_two k stands.0) in
      let way_1 = leads code keeps_small frame low 0 low 0 k (k + 2) 1 w w s a one (Cbnz 20 2) stands.1 at first refl at.sp (refl, refl) (refl, refl) at.fixed at.space in
      let e : k + 2 ≡ suc (suc k) = omega arith in
      let v = sub64 (a.registers 20) 1 in
      let v_is : v ≡ w.calls - 1 = (let c = at.fixed.calls in let m = at.small.registers 20 in let z = is_no w.calls 0 some in omega (arith, c, m, z)) in
      let w' : World = record w { calls = w.calls - 1 } in
      let fixed : Fixed w' (put a.registers 20 v) = record {
        calls = put_same a.registers 20 v (λ e. omega (arith, e)) ∙ v_is;
        cells = put_other a.registers 20 v 23 (λ e. omega (arith, e)) ∙ at.fixed.cells;
        local = put_other a.registers 20 v 19 (λ e. omega (arith, e)) ∙ at.fixed.local;
        globals = put_other a.registers 20 v 24 (λ e. omega (arith, e)) ∙ at.fixed.globals;
        next = put_other a.registers 20 v 21 (λ e. omega (arith, e)) ∙ at.fixed.next;
        free = put_other a.registers 20 v 22 (λ e. omega (arith, e)) ∙ at.fixed.free;
      } in
      let way_2 = gives_any code keeps_small frame low 0 (k + 2) w w' s one (SubImm 20 20 1 false) 20 v (subst (λ n. n < 2 ^ 18) (sym e) stands.2.2.0) (subst (λ n. Stands code n (SubImm 20 20 1 false)) (sym e) stands.2.2.1) way_1.at refl (refl, refl) fixed in
      let three : k + 2 + 1 ≡ k + 3 = omega arith in
      record {
        after = given one 20 v;
        way = way_append code k 2 1 a one (given one 20 v) way_1.way way_2.way;
        at = subst (λ n. On low 0 n w' s (given one 20 v)) three way_2.at;
        args = λ n l. put_other a.registers 20 v n (λ e. omega (arith, e, l));
        link = put_other a.registers 20 v 30 (λ e. omega (arith, e));
      }

  pub depth_does : (b : Bool) (low k : ℕ) (w : World) (s : Area) (a : State) → (b && w.calls == 0) ≡ false → StandAll code k (depth_words b) → On low 0 k w s a → Depth b low k w s a
  depth_does true low k w s a some stands at = deeper low k w s a some stands at
  depth_does false low k w s a some stands at =
      let e : k ≡ k + 0 = omega arith in
      let c : w.calls ≡ w.calls - 0 = omega arith in
      record {
        after = a;
        way = way_none code k a;
        at = subst (λ n. On low 0 n (record w { calls = w.calls - 0 }) s a) e (subst (λ (n : ℕ). On low 0 k (record w { calls = n }) s a) c at);
        args = λ n l. refl;
        link = refl;
      }

  -- trap 8
  pub depth_traps : (low k : ℕ) (w : World) (s : Area) (a : State) → (w.calls == 0) ≡ true → StandAll code k (depth_words true) → On low 0 k w s a → Stops code k 3 a (Broke 8 (suc k))
  depth_traps low k w s a none stands at =
      let one : State = at_word a (suc k) in
      let e : k + 1 ≡ suc k = omega arith in
      let first : effect (Cbnz 20 2) a ≡ Moves [] one =
      ap (λ (n : ℕ). goes_if a (not (n == 0)) (branch_to 19 a.pc 2)) at.fixed.calls
      ∙ ap (λ (b : Bool). goes_if a (not b) (branch_to 19 a.pc 2)) none
      ∙ ap (λ (n : ℕ). goes a (add64 n 4)) at.pc
      ∙ ap (goes a) (next_word k stands.0 ∙ ap address_of e) in
      let way_1 = leads code keeps_small frame low 0 low 0 k (suc k) 0 w w s a one (Cbnz 20 2) stands.1 at first refl at.sp (refl, refl) (refl, refl) at.fixed at.space in
      record {
        after = one;
        places = k ∷ [];
        walk = walks-one k stands.1 a at.pc first;
        stops = stops_here low 0 (suc k) 8 w s one stands.2.1 way_1.at;
        within = λ h. let p = ap h (place-address (suc k)) in omega (arith, p);
        located = (omega arith, omega arith);
      }

  ---- The frame

  pub record Framed (slots linked low low' k : ℕ) (w : World) (s : Area) (a : State) : Type 0 where
    pub after : State
    pub stack : Area
    pub way : Way code k 3 a after
    pub at : On low' slots (k + 3) w stack after
    pub args : (n : ℕ) → n < 16 → after.registers n ≡ a.registers n
    pub link : held stack (low' + 8 * linked) ≡ a.registers 30
    pub outside : (q : ℕ) → low' + 8 * slots ≤ q → held stack q ≡ held s q

  pub frame_does : (slots linked low low' k : ℕ) (w : World) (s : Area) (a : State) → low' + 8 * slots ≡ low → linked < slots → frames_base ≤ low' → low ≤ frames_base + frames_bytes frame → 8 * slots < 2 ^ 24 → StandAll code k (frame_words (8 * slots) linked) → On low 0 k w s a → Framed slots linked low low' k w s a
  frame_does slots linked low low' k w s a sum some bottom top small stands at =
      let few = at.space.small in
      let mid = low - 8 * slots / 2 ^ 12 * 2 ^ 12 in
      let v_is : sub64 a.sp (8 * slots / 2 ^ 12 * 2 ^ 12) ≡ mid = (let p = at.sp in omega (arith, p, sum, top, few)) in
      let one : State = moved_sp a mid in
      let first : effect (SubImm 31 31 (8 * slots / 2 ^ 12) true) a ≡ Moves [] one = ap (λ (v : ℕ). Moves [] (moved_sp a v)) v_is in
      let e1 : k + 1 ≡ suc k = omega arith in
      let e2 : k + 1 + 1 ≡ suc (suc k) = omega arith in
      let space_1 : Space frame s mid 0 = record { base = at.space.base; size = at.space.size; small = few; bottom = omega (arith, sum, bottom); top = omega (arith, top) } in
      let way_1 = leads code keeps_small frame low 0 mid 0 k (k + 1) 0 w w s a one (SubImm 31 31 (8 * slots / 2 ^ 12) true) stands.1 at first (ap (λ (n : ℕ). add64 n 4) at.pc ∙ next_word k stands.0) refl (refl, refl) (refl, refl) (fixed_sp w a.registers mid at.fixed) space_1 in
      let u_is : sub64 mid (8 * slots % 2 ^ 12) ≡ low' = omega (arith, sum, top, few) in
      let two : State = moved_sp one low' in
      let second : effect (SubImm 31 31 (8 * slots % 2 ^ 12) false) one ≡ Moves [] two = ap (λ (v : ℕ). Moves [] (moved_sp one v)) u_is in
      let space_2 : Space frame s low' slots = record { base = at.space.base; size = at.space.size; small = few; bottom = bottom; top = omega (arith, sum, top) } in
      let low_1 : k + 1 < 2 ^ 18 = subst (λ n. n < 2 ^ 18) (sym e1) stands.2.0 in
      let way_2 = leads code keeps_small frame mid 0 low' slots (k + 1) (k + 1 + 1) 0 w w s one two (SubImm 31 31 (8 * slots % 2 ^ 12) false) (subst (λ n. Stands code n (SubImm 31 31 (8 * slots % 2 ^ 12) false)) (sym e1) stands.2.1) way_1.at second (ap (λ (n : ℕ). add64 n 4) way_1.at.pc ∙ next_word (k + 1) low_1) refl (refl, refl) (refl, refl) (fixed_sp w one.registers low' way_1.at.fixed) space_2 in
      let low_2 : k + 1 + 1 < 2 ^ 18 = subst (λ n. n < 2 ^ 18) (sym e2) stands.2.2.0 in
      let third = stores_does code keeps_small frame low' slots (k + 1 + 1) w s two 30 linked some low_2 (subst (λ n. Stands code n (Str 30 31 linked)) (sym e2) stands.2.2.1) way_2.at in
      let lie = slot_lies frame s low' slots space_2 linked some in
      let x = a.registers 30 in
      let t = with_held s (low' + 8 * linked) x in
      let three : State = kept two (low' + 8 * linked) x in
      let e3 : k + 1 + 1 + 1 ≡ k + 3 = omega arith in
      record {
        after = three;
        stack = t;
        way = way_append code k 1 2 a one three way_1.way (way_append code (k + 1) 1 1 one two three way_2.way (way_of code keeps_small frame low' slots (k + 1 + 1) 1 w t two three third));
        at = subst (λ n. On low' slots n w t three) e3 third.at;
        args = λ n l. put_other one.registers 31 low' n (λ e. omega (arith, e, l)) ∙ put_other a.registers 31 mid n (λ e. omega (arith, e, l));
        link = held_same s (low' + 8 * linked) x lie (at.small.registers 30);
        outside = λ q le. held_apart s (low' + 8 * linked) x q lie (inr (omega (arith, le, some)));
      }

  ---- Local data

  pub record Counted (low slots k n v : ℕ) (w : World) (s : Area) (a : State) : Type 0 where
    pub after : State
    pub way : Way code k n a after
    pub at : On low slots (k + n) w s after
    pub there : after.registers 16 ≡ v
    pub others : (m : ℕ) → (m ≡ 16 → ⊥) → after.registers m ≡ a.registers m

  -- moves that make a number in X16
  counts : (low slots : ℕ) (w : World) (s : Area) (ms : List Move) (k : ℕ) (a : State) → StandAll code k (map (move_word 16) ms) → On low slots k w s a → Counted low slots k (length (map (move_word 16) ms)) (moved_by ms (a.registers 16)) w s a
  counts low slots w s [] k a st at = let e : k ≡ k + 0 = omega arith in record { after = a; way = way_none code k a; at = subst (λ n. On low slots n w s a) e at; there = refl; others = λ m h. refl }
  counts low slots w s (x ∷ ms) k a st at =
      let v = mv.moved x (a.registers 16) in
      let one = gives_any code keeps_small frame low slots k w w s a (move_word 16 x) 16 v st.0 st.1 at (does x) (refl, refl) (fixed_put w a.registers 16 v (inl (omega arith)) at.fixed) in
      let e : k + 1 ≡ suc k = omega arith in
      let n = length (map (move_word 16) ms) in
      let rest = counts low slots w s ms (k + 1) (given a 16 v) (subst (λ j. StandAll code j (map (move_word 16) ms)) (sym e) st.2) one.at in
      let f : k + 1 + n ≡ k + suc n = omega arith in
      let g : 1 + n ≡ suc n = omega arith in
      record {
        after = rest.after;
        way = way_is code k (1 + n) (suc n) a rest.after g (way_append code k 1 n a (given a 16 v) rest.after one.way rest.way);
        at = subst (λ j. On low slots j w s rest.after) f rest.at;
        there = rest.there;
        others = λ m h. rest.others m h ∙ put_other a.registers 16 v m h;
      }
    where
      does : (x : Move) → effect (move_word 16 x) a ≡ gives a 16 (mv.moved x (a.registers 16))
      does (m.Movz n j) = refl
      does (m.Movn n j) = refl
      does (m.Movk n j) = refl

  pub counts_to : (c low slots k : ℕ) (w : World) (s : Area) (a : State) → c < 2 ^ 64 → StandAll code k (count_words c) → On low slots k w s a → Counted low slots k (length (count_words c)) c w s a
  counts_to c low slots k w s a l st at = subst (λ v. Counted low slots k (length (count_words c)) v w s a) (constant_moves_make c (a.registers 16) l) (counts low slots w s (constant_moves c) k a st at)

  pub record Local (n low slots k : ℕ) (w' : World) (s : Area) (a : State) : Type 0 where
    pub after : State
    pub way : Way code k n a after
    pub at : On low slots (k + n) w' s after
    pub args : (m : ℕ) → m < 16 → after.registers m ≡ a.registers m

  abbrev compared : State → ℕ → ℕ → State
  compared a x y = record a { pc = add64 a.pc 4; registers = put a.registers 31 (sub64 x y); flags = subs_flags x y }

  -- the number, and the comparison
  record Compared (c low slots k : ℕ) (w : World) (s : Area) (a : State) : Type 0 where
    pub after : State
    pub way : Way code k (length (count_words c) + 1) a after
    pub at : On low slots (k + (length (count_words c) + 1)) w s after
    pub flags : after.flags.carry ≡ nat_le c w.cells
    pub scratch : after.registers 16 ≡ c
    pub args : (m : ℕ) → m < 16 → after.registers m ≡ a.registers m

  abbrev testing : List Instr
  testing = SubsReg 31 23 16 Lsl 0 ∷ BCond 2 Hs ∷ Brk 9 ∷ SubReg 23 23 16 Lsl 0 ∷ []

  split_taking : (c k : ℕ) → StandAll code k (taking c) → StandAll code k (count_words c) × StandAll code (k + length (count_words c)) testing
  split_taking c k st = stand_append code (count_words c) testing k st

  compares_cells : (c low slots k : ℕ) (w : World) (s : Area) (a : State) → c < 2 ^ 64 → StandAll code k (taking c) → On low slots k w s a → Compared c low slots k w s a
  compares_cells c low slots k w s a small stands at =
      let st = split_taking c k stands in
      let n = length (count_words c) in
      let one = counts_to c low slots k w s a small st.0 at in
      let b = one.after in
      let two : State = compared b (b.registers 23) c in
      let second : effect (SubsReg 31 23 16 Lsl 0) b ≡ Moves [] two = ap (λ (y : ℕ). Moves [] (compared b (b.registers 23) y)) (ap (λ z. lsl64 z 0) one.there ∙ lsl64_zero c small) in
      let way_2 = leads code keeps_small frame low slots low slots (k + n) (k + n + 1) 0 w w s b two (SubsReg 31 23 16 Lsl 0) st.1.1 one.at second (ap (λ (n : ℕ). add64 n 4) one.at.pc ∙ next_word (k + n) st.1.0) one.at.sp (refl, refl) (refl, refl) (fixed_sp w b.registers (sub64 (b.registers 23) c) one.at.fixed) one.at.space in
      let e2 : k + n + 1 ≡ k + (n + 1) = omega arith in
      record {
        after = two;
        way = way_append code k n 1 a b two one.way way_2.way;
        at = subst (λ n. On low slots n w s two) e2 way_2.at;
        flags = ap (λ (n : ℕ). nat_le c n) one.at.fixed.cells;
        scratch = one.there;
        args = λ m l. put_other b.registers 31 (sub64 (b.registers 23) c) m (λ e. omega (arith, e, l)) ∙ one.others m (λ e. omega (arith, e, l));
      }

  behind_count : (c k : ℕ) → StandAll code k (taking c) → StandAll code (k + (length (count_words c) + 1)) (BCond 2 Hs ∷ Brk 9 ∷ SubReg 23 23 16 Lsl 0 ∷ [])
  behind_count c k st = let e : suc (k + length (count_words c)) ≡ k + (length (count_words c) + 1) = omega arith in subst (λ j. StandAll code j (BCond 2 Hs ∷ Brk 9 ∷ SubReg 23 23 16 Lsl 0 ∷ [])) e (split_taking c k st).1.2

  size_taking : (c : ℕ) → length (taking c) ≡ length (count_words c) + 4
  size_taking c = length-append (count_words c) testing

  room_some : (c low slots k : ℕ) (w : World) (s : Area) (a : State) → c < 2 ^ 64 → nat_le c w.cells ≡ true → StandAll code k (taking c) → On low slots k w s a → Local (length (taking c)) low slots k (record w { cells = w.cells - c }) s a
  room_some c low slots k w s a small enough stands at =
      let two = compares_cells c low slots k w s a small stands at in
      let j = k + (length (count_words c) + 1) in
      let st = behind_count c k stands in
      let b = two.after in
      let three : State = at_word b (j + 2) in
      let does : effect (BCond 2 Hs) b ≡ Moves [] three =
      ap (λ (d : Bool). goes_if b d (branch_to 19 b.pc 2)) (two.flags ∙ enough)
      ∙ ap (λ (n : ℕ). goes b (branch_to 19 n 2)) two.at.pc
      ∙ ap (goes b) (skips_two j st.0) in
      let way_3 = leads code keeps_small frame low slots low slots j (j + 2) 1 w w s b three (BCond 2 Hs) st.1 two.at does refl two.at.sp (refl, refl) (refl, refl) two.at.fixed two.at.space in
      let e4 : suc (suc j) ≡ j + 2 = omega arith in
      let st4 : StandAll code (j + 2) (SubReg 23 23 16 Lsl 0 ∷ []) = subst (λ n. StandAll code n (SubReg 23 23 16 Lsl 0 ∷ [])) e4 st.2.2 in
      let w' : World = record w { cells = w.cells - c } in
      let le : c ≤ w.cells = grind (arith, nat_tests, enough) in
      let few : w.cells < 2 ^ 64 = subst (λ n. n < 2 ^ 64) at.fixed.cells (at.small.registers 23) in
      let v = w.cells - c in
      let fx = two.at.fixed in
      let last : effect (SubReg 23 23 16 Lsl 0) three ≡ gives three 23 v = ap₂ (λ (x y : ℕ). gives three 23 (sub64 x y)) fx.cells (ap (λ z. lsl64 z 0) two.scratch ∙ lsl64_zero c small) ∙ ap (gives three 23) (omega (arith, le, few)) in
      let fixed : Fixed w' (put b.registers 23 v) = record { calls = fx.calls; cells = refl; local = fx.local; globals = fx.globals; next = fx.next; free = fx.free } in
      let four = gives_any code keeps_small frame low slots (j + 2) w w' s three (SubReg 23 23 16 Lsl 0) 23 v st4.0 st4.1 way_3.at last (refl, refl) fixed in
      let t = given three 23 v in
      let n = length (count_words c) + 1 in
      let all : Way code k (n + (2 + 1)) a t = way_append code k n (2 + 1) a b t two.way (way_append code j 2 1 b three t way_3.way four.way) in
      let size : n + (2 + 1) ≡ length (taking c) = (let z = size_taking c in omega (arith, z)) in
      let e5 : j + 2 + 1 ≡ k + length (taking c) = (let z = size_taking c in omega (arith, z)) in
      record {
        after = t;
        way = way_is code k (n + (2 + 1)) (length (taking c)) a t size all;
        at = subst (λ n. On low slots n w' s t) e5 four.at;
        args = λ m l. put_other b.registers 23 v m (λ e. omega (arith, e, l)) ∙ two.args m l;
      }

  nothing_more : (low slots k n : ℕ) (w w' : World) (s : Area) (a : State) → n ≡ 0 → w ≡ w' → On low slots k w s a → Local n low slots k w' s a
  nothing_more low slots k n w w' s a none same at =
      let e : k ≡ k + n = omega (arith, none) in
      record { after = a; way = way_is code k 0 n a a (sym none) (way_none code k a); at = subst (λ j. On low slots j w' s a) e (subst (λ (u : World). On low slots k u s a) same at); args = λ m l. refl }

  room_does : (c low slots k : ℕ) (w : World) (s : Area) (a : State) → c < 2 ^ 64 → nat_lt w.cells c ≡ false → StandAll code k (room_words c) → On low slots k w s a → Local (length (room_words c)) low slots k (record w { cells = w.cells - c }) s a
  room_does c low slots k w s a small enough stands at = by_test (c == 0) refl
    where
      by_test : (b : Bool) → (c == 0) ≡ b → Local (length (room_words c)) low slots k (record w { cells = w.cells - c }) s a
      by_test true e =
          let none : length (room_words c) ≡ 0 = ap (λ b. length (if b then [] else taking c)) e in
          let z : c ≡ 0 = ⊎_elim (λ t. t.1) (λ f. let wrong = f.0 in cc) (eqb_tells c 0) in
          let c_is : w.cells ≡ w.cells - c = omega (arith, z) in
          nothing_more low slots k (length (room_words c)) w (record w { cells = w.cells - c }) s a none (ap (λ (n : ℕ). record w { cells = n }) c_is) at
      by_test false e =
          let same : taking c ≡ room_words c = sym (ap (λ b. if b then [] else taking c) e) in
          let enough' : nat_le c w.cells ≡ true = grind (arith, nat_tests, enough) in
          subst (λ (ws : List Instr). Local (length ws) low slots k (record w { cells = w.cells - c }) s a) same (room_some c low slots k w s a small enough' (subst (λ b. StandAll code k (if b then [] else taking c)) e stands) at)

  data_some : (b low slots k : ℕ) (w : World) (s : Area) (a : State) → b < 2 ^ 24 → StandAll code k (AddImm 19 19 (b / 2 ^ 12) true ∷ AddImm 19 19 (b % 2 ^ 12) false ∷ []) → On low slots k w s a → Local 2 low slots k (record w { local = add64 w.local b }) s a
  data_some b low slots k w s a small st at =
      let few : w.local < 2 ^ 64 = subst (λ n. n < 2 ^ 64) at.fixed.local (at.small.registers 19) in
      let v = add64 w.local (b / 2 ^ 12 * 2 ^ 12) in
      let fx = at.fixed in
      let w1 : World = record w { local = v } in
      let one = gives_any code keeps_small frame low slots k w w1 s a (AddImm 19 19 (b / 2 ^ 12) true) 19 v st.0 st.1 at (ap (λ z. gives a 19 (add64 z (b / 2 ^ 12 * 2 ^ 12))) fx.local) (refl, refl) (record { calls = fx.calls; cells = fx.cells; local = refl; globals = fx.globals; next = fx.next; free = fx.free }) in
      let e : suc k ≡ k + 1 = omega arith in
      let st2 : StandAll code (k + 1) (AddImm 19 19 (b % 2 ^ 12) false ∷ []) = subst (λ j. StandAll code j (AddImm 19 19 (b % 2 ^ 12) false ∷ [])) e st.2 in
      let t1 = given a 19 v in
      let x = add64 w.local b in
      let w2 : World = record w { local = x } in
      let two = gives_any code keeps_small frame low slots (k + 1) w1 w2 s t1 (AddImm 19 19 (b % 2 ^ 12) false) 19 x st2.0 st2.1 one.at (ap (gives t1 19) (plus_is w.local b few small)) (refl, refl) (record { calls = fx.calls; cells = fx.cells; local = refl; globals = fx.globals; next = fx.next; free = fx.free }) in
      let t2 = given t1 19 x in
      let f : k + 1 + 1 ≡ k + 2 = omega arith in
      record {
        after = t2;
        way = way_append code k 1 1 a t1 t2 one.way two.way;
        at = subst (λ n. On low slots n w2 s t2) f two.at;
        args = λ m l. put_other t1.registers 19 x m (λ e. omega (arith, e, l)) ∙ put_other a.registers 19 v m (λ e. omega (arith, e, l));
      }

  data_does : (b low slots k : ℕ) (w : World) (s : Area) (a : State) → b < 2 ^ 24 → StandAll code k (data_words b) → On low slots k w s a → Local (length (data_words b)) low slots k (record w { local = add64 w.local b }) s a
  data_does b low slots k w s a small st at = by_test (b == 0) refl
    where
      by_test : (t : Bool) → (b == 0) ≡ t → Local (length (data_words b)) low slots k (record w { local = add64 w.local b }) s a
      by_test true e =
          let none : length (data_words b) ≡ 0 = ap (λ t. length (if t then [] else (AddImm 19 19 (b / 2 ^ 12) true ∷ AddImm 19 19 (b % 2 ^ 12) false ∷ []))) e in
          let z : b ≡ 0 = ⊎_elim (λ t. t.1) (λ f. let wrong = f.0 in cc) (eqb_tells b 0) in
          let few : w.local < 2 ^ 64 = subst (λ n. n < 2 ^ 64) at.fixed.local (at.small.registers 19) in
          let same : w.local ≡ add64 w.local b = omega (arith, z, few) in
          nothing_more low slots k (length (data_words b)) w (record w { local = add64 w.local b }) s a none (ap (λ (n : ℕ). record w { local = n }) same) at
      by_test false e =
          let two : 2 ≡ length (data_words b) = sym (ap (λ t. length (if t then [] else (AddImm 19 19 (b / 2 ^ 12) true ∷ AddImm 19 19 (b % 2 ^ 12) false ∷ []))) e) in
          subst (λ n. Local n low slots k (record w { local = add64 w.local b }) s a) two (data_some b low slots k w s a small (subst (λ t. StandAll code k (if t then [] else (AddImm 19 19 (b / 2 ^ 12) true ∷ AddImm 19 19 (b % 2 ^ 12) false ∷ []))) e st) at)

  pub local_does : (c b low slots k : ℕ) (w : World) (s : Area) (a : State) → (c < 2 ^ 64) × (b < 2 ^ 24) → nat_lt w.cells c ≡ false → StandAll code k (local_words c b) → On low slots k w s a → Local (length (local_words c b)) low slots k (record w { cells = w.cells - c; local = add64 w.local b }) s a
  local_does c b low slots k w s a small enough stands at =
      let st = stand_append code (room_words c) (data_words b) k stands in
      let w1 : World = record w { cells = w.cells - c } in
      let w2 : World = record w { cells = w.cells - c; local = add64 w.local b } in
      let one = room_does c low slots k w s a small.0 enough st.0 at in
      let two = data_does b low slots (k + length (room_words c)) w1 s one.after small.1 st.1 one.at in
      let n = sym (length-append (room_words c) (data_words b)) in
      let e : k + length (room_words c) + length (data_words b) ≡ k + length (local_words c b) = omega (arith, n) in
      record {
        after = two.after;
        way = way_is code k (length (room_words c) + length (data_words b)) (length (local_words c b)) a two.after n (way_append code k (length (room_words c)) (length (data_words b)) a one.after two.after one.way two.way);
        at = subst (λ j. On low slots j w2 s two.after) e two.at;
        args = λ m l. two.args m l ∙ one.args m l;
      }

  -- trap 9
  pub local_traps : (c b low slots k : ℕ) (w : World) (s : Area) (a : State) → (c < 2 ^ 64) × (b < 2 ^ 24) → nat_lt w.cells c ≡ true → StandAll code k (local_words c b) → On low slots k w s a → (place : ℕ) × Stops code k (length (local_words c b)) a (Broke 9 place)
  local_traps c b low slots k w s a small enough stands at =
      let e : (c == 0) ≡ false = grind (arith, nat_tests, enough) in
      let size : length (room_words c) ≡ length (taking c) = ap (λ b. length (if b then [] else taking c)) e in
      let front = (stand_append code (room_words c) (data_words b) k stands).0 in
      let stand = subst (λ b. StandAll code k (if b then [] else taking c)) e front in
      let less : nat_le c w.cells ≡ false = grind (arith, nat_tests, enough) in
      let two = compares_cells c low slots k w s a small.0 stand at in
      let b' = two.after in
      let n = length (count_words c) + 1 in
      let j = k + n in
      let st = behind_count c k stand in
      let e3 : suc j ≡ j + 1 = omega arith in
      let three : State = at_word b' (j + 1) in
      let does : effect (BCond 2 Hs) b' ≡ Moves [] three =
      ap (λ (d : Bool). goes_if b' d (branch_to 19 b'.pc 2)) (two.flags ∙ less)
      ∙ ap (λ (n : ℕ). goes b' (add64 n 4)) two.at.pc
      ∙ ap (goes b') (next_word j st.0) in
      let way_3 = leads code keeps_small frame low slots low slots j (j + 1) 0 w w s b' three (BCond 2 Hs) st.1 two.at does refl two.at.sp (refl, refl) (refl, refl) two.at.fixed two.at.space in
      let mine = Broke 9 (j + 1) in
      let stop : Stops code (j + 1) 1 three mine = record {
        after = three;
        places = [];
        walk = walks-none code three;
        stops = stops_here low slots (j + 1) 9 w s three (subst (λ n. Stands code n (Brk 9)) e3 st.2.1) way_3.at;
        within = λ h. let p = ap h (place-address (j + 1)) in omega (arith, p);
        located = (omega arith, omega arith);
      } in
      let all = stops_behind code k n 2 a b' mine two.way (stops_behind code j 1 1 b' three mine way_3.way stop) in
      let total : n + 2 + (1 + length (data_words b)) ≡ length (local_words c b) = (let z = size_taking c in let y = length-append (room_words c) (data_words b) in omega (arith, z, y, size)) in
      (j + 1, subst (λ n. Stops code k n a mine) total (stops_longer code k (n + 2) (1 + length (data_words b)) a mine all))
