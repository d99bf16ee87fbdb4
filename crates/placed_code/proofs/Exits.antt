-- The words of an epilogue: the link comes back, the frame goes, local data and the depth are given back.
use Rattle.std.proofs.Common.{◌≡◌, ℕ, suc, ◌+◌, ◌*◌, ◌/◌, ◌%◌, ◌<◌, ◌≤◌, ◌^◌, ◌==◌, ⊎_elim, List, [], ◌∷◌, length, length-append, Bool, true, false, refl, arith, sym, ap, ap₂, ◌∙◌, subst}
use Rattle.std.specs.Prelude.{if◌then◌else◌}
use Rattle.std.proofs.lemmas.Bool.Decides.{eqb_tells}
use Rattle.run_laws.specs.Runs.{Moves}
use Rattle.a64_memory.specs.Memory.{Area}
use Rattle.wrapping_numbers.specs.Numbers.{add64, sub64}
use Rattle.wrapping_numbers.specs.Shifts.{lsl64}
use Rattle.wrapping_numbers.proofs.Amounts.{lsl64_zero}
use Rattle.a64_numbers.proofs.Operands.{minus_is}
use Rattle.a64_instr.specs.declared.instr.Shift.TheVariants.{Lsl}
use Rattle.a64_instr.specs.declared.instr.Instr.{Instr}
use Rattle.a64_instr.specs.declared.instr.Instr.TheVariants.{AddImm, SubImm, AddReg, Ldr}
use Rattle.a64_machine.specs.State.{State, put}
use Rattle.a64_machine.specs.Effects.{effect, gives}
use Rattle.a64_machine.specs.Machine.{step_of}
use Rattle.a64_machine.proofs.Registers.{put_other}
use Rattle.a64_machine.proofs.Steps.{Stands, StandAll, stand_append}
use Rattle.block_runs.specs.States.{World}
use Rattle.placed_code.specs.Words.{unframe_words, count_words, giving, unroom_words, undata_words, unlocal_words, undepth_words}
use Rattle.placed_code.proofs.Stack.{held, Space}
use Rattle.placed_code.proofs.Slots.{Fixed, slot_loads, given}
use Rattle.a64_machine.proofs.Ways.{Way, way_none, way_append, way_is}
use Rattle.placed_code.proofs.Leading.{next_word, Here, leads, gives_any}
use Rattle.placed_code.proofs.Entries.{moved_sp, fixed_sp, counts_to}
use Rattle.a64_machine.proofs.Numbers.{Numbers}

fixed_link : (w : World) (r : ℕ → ℕ) (v : ℕ) → Fixed w r → Fixed w (put r 30 v)
fixed_link w r v f = record {
  calls = put_other r 30 v 20 (λ e. omega (arith, e)) ∙ f.calls;
  cells = put_other r 30 v 23 (λ e. omega (arith, e)) ∙ f.cells;
  local = put_other r 30 v 19 (λ e. omega (arith, e)) ∙ f.local;
  globals = put_other r 30 v 24 (λ e. omega (arith, e)) ∙ f.globals;
  next = put_other r 30 v 21 (λ e. omega (arith, e)) ∙ f.next;
  free = put_other r 30 v 22 (λ e. omega (arith, e)) ∙ f.free;
}

module _ (code : List ℕ) (keeps_small : (a b : State) (w : List ℕ) → Numbers a → step_of code a ≡ Moves w b → Numbers b) (frame : ℕ) where
  abbrev On : ℕ → ℕ → ℕ → World → Area → State → Type 0
  On low slots k w s a = Here code keeps_small frame low slots k w s a

  -- what all parts keep: what is given back, and then where it is gone back to
  pub record Unframed (slots linked low k : ℕ) (w : World) (s : Area) (a : State) : Type 0 where
    pub after : State
    pub way : Way code k 3 a after
    pub at : On (low + 8 * slots) 0 (k + 3) w s after
    pub arg : after.registers 0 ≡ a.registers 0
    pub link : after.registers 30 ≡ held s (low + 8 * linked)

  pub unframe_does : (slots linked low k : ℕ) (w : World) (s : Area) (a : State) → linked < slots → 8 * slots < 2 ^ 24 → StandAll code k (unframe_words (8 * slots) linked) → On low slots k w s a → Unframed slots linked low k w s a
  unframe_does slots linked low k w s a some small stands at =
      let few = at.space.small in let bottom = at.space.bottom in let top = at.space.top in
      let x = held s (low + 8 * linked) in
      let one : State = given a 30 x in
      let way_1 = gives_any code keeps_small frame low slots k w w s a (Ldr 30 31 linked) 30 x stands.0 stands.1 at (slot_loads code keeps_small frame low slots k w s a 30 linked some at) (refl, refl) (fixed_link w a.registers x at.fixed) in
      let e1 : k + 1 ≡ suc k = omega arith in
      let e2 : k + 1 + 1 ≡ suc (suc k) = omega arith in
      let e3 : k + 1 + 1 + 1 ≡ k + 3 = omega arith in
      let low_1 : k + 1 < 2 ^ 18 = subst (λ n. n < 2 ^ 18) (sym e1) stands.2.0 in
      let low_2 : k + 1 + 1 < 2 ^ 18 = subst (λ n. n < 2 ^ 18) (sym e2) stands.2.2.0 in
      let mid = low + 8 * slots / 2 ^ 12 * 2 ^ 12 in
      let v_is : add64 a.sp (8 * slots / 2 ^ 12 * 2 ^ 12) ≡ mid = (let p = at.sp in omega (arith, p, top, few)) in
      let two : State = moved_sp one mid in
      let second : effect (AddImm 31 31 (8 * slots / 2 ^ 12) true) one ≡ Moves [] two = ap (λ (v : ℕ). Moves [] (moved_sp one v)) v_is in
      let space_1 : Space frame s mid 0 = record { base = at.space.base; size = at.space.size; small = few; bottom = omega (arith, bottom); top = omega (arith, top) } in
      let way_2 = leads code keeps_small frame low slots mid 0 (k + 1) (k + 1 + 1) 0 w w s one two (AddImm 31 31 (8 * slots / 2 ^ 12) true) (subst (λ n. Stands code n (AddImm 31 31 (8 * slots / 2 ^ 12) true)) (sym e1) stands.2.1) way_1.at second (ap (λ (n : ℕ). add64 n 4) way_1.at.pc ∙ next_word (k + 1) low_1) refl (refl, refl) (refl, refl) (fixed_sp w one.registers mid way_1.at.fixed) space_1 in
      let u_is : add64 mid (8 * slots % 2 ^ 12) ≡ low + 8 * slots = omega (arith, top, few) in
      let three : State = moved_sp two (low + 8 * slots) in
      let third : effect (AddImm 31 31 (8 * slots % 2 ^ 12) false) two ≡ Moves [] three = ap (λ (v : ℕ). Moves [] (moved_sp two v)) u_is in
      let space_2 : Space frame s (low + 8 * slots) 0 = record { base = at.space.base; size = at.space.size; small = few; bottom = omega (arith, bottom); top = omega (arith, top) } in
      let way_3 = leads code keeps_small frame mid 0 (low + 8 * slots) 0 (k + 1 + 1) (k + 1 + 1 + 1) 0 w w s two three (AddImm 31 31 (8 * slots % 2 ^ 12) false) (subst (λ n. Stands code n (AddImm 31 31 (8 * slots % 2 ^ 12) false)) (sym e2) stands.2.2.1) way_2.at third (ap (λ (n : ℕ). add64 n 4) way_2.at.pc ∙ next_word (k + 1 + 1) low_2) refl (refl, refl) (refl, refl) (fixed_sp w two.registers (low + 8 * slots) way_2.at.fixed) space_2 in
      record {
        after = three;
        way = way_append code k 1 2 a one three way_1.way (way_append code (k + 1) 1 1 one two three way_2.way way_3.way);
        at = subst (λ n. On (low + 8 * slots) 0 n w s three) e3 way_3.at;
        arg = refl;
        link = refl;
      }

  pub record Given (low k n : ℕ) (w' : World) (s : Area) (a : State) : Type 0 where
    pub after : State
    pub way : Way code k n a after
    pub at : On low 0 (k + n) w' s after
    pub arg : after.registers 0 ≡ a.registers 0
    pub link : after.registers 30 ≡ a.registers 30

  gives_cells : (c low k : ℕ) (w : World) (s : Area) (a : State) → c < 2 ^ 64 → w.cells + c ≤ 1048576 → StandAll code k (giving c) → On low 0 k w s a → Given low k (length (giving c)) (record w { cells = w.cells + c }) s a
  gives_cells c low k w s a small few stands at =
      let st = stand_append code (count_words c) (AddReg 23 23 16 Lsl 0 ∷ []) k stands in
      let n = length (count_words c) in
      let one = counts_to code keeps_small frame c low 0 k w s a small st.0 at in
      let b = one.after in
      let fx = one.at.fixed in
      let v = w.cells + c in
      let does : effect (AddReg 23 23 16 Lsl 0) b ≡ gives b 23 v = ap₂ (λ (x y : ℕ). gives b 23 (add64 x y)) fx.cells (ap (λ z. lsl64 z 0) one.there ∙ lsl64_zero c small) ∙ ap (gives b 23) (omega (arith, few)) in
      let two = gives_any code keeps_small frame low 0 (k + n) w (record w { cells = v }) s b (AddReg 23 23 16 Lsl 0) 23 v st.1.0 st.1.1 one.at does (refl, refl) (record { calls = fx.calls; cells = refl; local = fx.local; globals = fx.globals; next = fx.next; free = fx.free }) in
      let size : n + 1 ≡ length (giving c) = sym (length-append (count_words c) (AddReg 23 23 16 Lsl 0 ∷ [])) in
      let e : k + n + 1 ≡ k + length (giving c) = omega (arith, size) in
      record {
        after = given b 23 v;
        way = way_is code k (n + 1) (length (giving c)) a (given b 23 v) size (way_append code k n 1 a b (given b 23 v) one.way two.way);
        at = subst (λ n. On low 0 n (record w { cells = v }) s (given b 23 v)) e two.at;
        arg = one.others 0 (λ e. omega (arith, e));
        link = one.others 30 (λ e. omega (arith, e));
      }

  nothing_more : (low k n : ℕ) (w w' : World) (s : Area) (a : State) → n ≡ 0 → w ≡ w' → On low 0 k w s a → Given low k n w' s a
  nothing_more low k n w w' s a none same at =
      let e : k ≡ k + n = omega (arith, none) in
      record { after = a; way = way_is code k 0 n a a (sym none) (way_none code k a); at = subst (λ j. On low 0 j w' s a) e (subst (λ (u : World). On low 0 k u s a) same at); arg = refl; link = refl }

  unroom_does : (c low k : ℕ) (w : World) (s : Area) (a : State) → c < 2 ^ 64 → w.cells + c ≤ 1048576 → StandAll code k (unroom_words c) → On low 0 k w s a → Given low k (length (unroom_words c)) (record w { cells = w.cells + c }) s a
  unroom_does c low k w s a small few stands at = by_test (c == 0) refl
    where
      by_test : (b : Bool) → (c == 0) ≡ b → Given low k (length (unroom_words c)) (record w { cells = w.cells + c }) s a
      by_test true e =
          let none : length (unroom_words c) ≡ 0 = ap (λ b. length (if b then [] else giving c)) e in
          let z : c ≡ 0 = ⊎_elim (λ t. t.1) (λ f. let wrong = f.0 in cc) (eqb_tells c 0) in
          let c_is : w.cells ≡ w.cells + c = omega (arith, z) in
          nothing_more low k (length (unroom_words c)) w (record w { cells = w.cells + c }) s a none (ap (λ (n : ℕ). record w { cells = n }) c_is) at
      by_test false e =
          let same : giving c ≡ unroom_words c = sym (ap (λ b. if b then [] else giving c) e) in
          subst (λ (ws : List Instr). Given low k (length ws) (record w { cells = w.cells + c }) s a) same (gives_cells c low k w s a small few (subst (λ b. StandAll code k (if b then [] else giving c)) e stands) at)

  undata_some : (b low k : ℕ) (w : World) (s : Area) (a : State) → b < 2 ^ 24 → StandAll code k (SubImm 19 19 (b / 2 ^ 12) true ∷ SubImm 19 19 (b % 2 ^ 12) false ∷ []) → On low 0 k w s a → Given low k 2 (record w { local = sub64 w.local b }) s a
  undata_some b low k w s a small st at =
      let few : w.local < 2 ^ 64 = subst (λ n. n < 2 ^ 64) at.fixed.local (at.small.registers 19) in
      let v = sub64 w.local (b / 2 ^ 12 * 2 ^ 12) in
      let fx = at.fixed in
      let w1 : World = record w { local = v } in
      let one = gives_any code keeps_small frame low 0 k w w1 s a (SubImm 19 19 (b / 2 ^ 12) true) 19 v st.0 st.1 at (ap (λ z. gives a 19 (sub64 z (b / 2 ^ 12 * 2 ^ 12))) fx.local) (refl, refl) (record { calls = fx.calls; cells = fx.cells; local = refl; globals = fx.globals; next = fx.next; free = fx.free }) in
      let e : suc k ≡ k + 1 = omega arith in
      let st2 : StandAll code (k + 1) (SubImm 19 19 (b % 2 ^ 12) false ∷ []) = subst (λ j. StandAll code j (SubImm 19 19 (b % 2 ^ 12) false ∷ [])) e st.2 in
      let t1 = given a 19 v in
      let x = sub64 w.local b in
      let w2 : World = record w { local = x } in
      let two = gives_any code keeps_small frame low 0 (k + 1) w1 w2 s t1 (SubImm 19 19 (b % 2 ^ 12) false) 19 x st2.0 st2.1 one.at (ap (gives t1 19) (minus_is w.local b few small)) (refl, refl) (record { calls = fx.calls; cells = fx.cells; local = refl; globals = fx.globals; next = fx.next; free = fx.free }) in
      let t2 = given t1 19 x in
      let f : k + 1 + 1 ≡ k + 2 = omega arith in
      record { after = t2; way = way_append code k 1 1 a t1 t2 one.way two.way; at = subst (λ n. On low 0 n w2 s t2) f two.at; arg = refl; link = refl }

  undata_does : (b low k : ℕ) (w : World) (s : Area) (a : State) → b < 2 ^ 24 → StandAll code k (undata_words b) → On low 0 k w s a → Given low k (length (undata_words b)) (record w { local = sub64 w.local b }) s a
  undata_does b low k w s a small st at = by_test (b == 0) refl
    where
      by_test : (t : Bool) → (b == 0) ≡ t → Given low k (length (undata_words b)) (record w { local = sub64 w.local b }) s a
      by_test true e =
          let none : length (undata_words b) ≡ 0 = ap (λ t. length (if t then [] else (SubImm 19 19 (b / 2 ^ 12) true ∷ SubImm 19 19 (b % 2 ^ 12) false ∷ []))) e in
          let z : b ≡ 0 = ⊎_elim (λ t. t.1) (λ f. let wrong = f.0 in cc) (eqb_tells b 0) in
          let few : w.local < 2 ^ 64 = subst (λ n. n < 2 ^ 64) at.fixed.local (at.small.registers 19) in
          let same : w.local ≡ sub64 w.local b = omega (arith, z, few) in
          nothing_more low k (length (undata_words b)) w (record w { local = sub64 w.local b }) s a none (ap (λ (n : ℕ). record w { local = n }) same) at
      by_test false e =
          let two : 2 ≡ length (undata_words b) = sym (ap (λ t. length (if t then [] else (SubImm 19 19 (b / 2 ^ 12) true ∷ SubImm 19 19 (b % 2 ^ 12) false ∷ []))) e) in
          subst (λ n. Given low k n (record w { local = sub64 w.local b }) s a) two (undata_some b low k w s a small (subst (λ t. StandAll code k (if t then [] else (SubImm 19 19 (b / 2 ^ 12) true ∷ SubImm 19 19 (b % 2 ^ 12) false ∷ []))) e st) at)

  pub unlocal_does : (c b low k : ℕ) (w : World) (s : Area) (a : State) → (c < 2 ^ 64) × (b < 2 ^ 24) → w.cells + c ≤ 1048576 → StandAll code k (unlocal_words c b) → On low 0 k w s a → Given low k (length (unlocal_words c b)) (record w { cells = w.cells + c; local = sub64 w.local b }) s a
  unlocal_does c b low k w s a small few stands at =
      let st = stand_append code (undata_words b) (unroom_words c) k stands in
      let w1 : World = record w { local = sub64 w.local b } in
      let w2 : World = record w { cells = w.cells + c; local = sub64 w.local b } in
      let one = undata_does b low k w s a small.1 st.0 at in
      let two = unroom_does c low (k + length (undata_words b)) w1 s one.after small.0 few st.1 one.at in
      let n = sym (length-append (undata_words b) (unroom_words c)) in
      let e : k + length (undata_words b) + length (unroom_words c) ≡ k + length (unlocal_words c b) = omega (arith, n) in
      record {
        after = two.after;
        way = way_is code k (length (undata_words b) + length (unroom_words c)) (length (unlocal_words c b)) a two.after n (way_append code k (length (undata_words b)) (length (unroom_words c)) a one.after two.after one.way two.way);
        at = subst (λ j. On low 0 j w2 s two.after) e two.at;
        arg = two.arg ∙ one.arg;
        link = two.link ∙ one.link;
      }

  pub undepth_does : (b : Bool) (low k : ℕ) (w : World) (s : Area) (a : State) → w.calls < 2 ^ 60 → StandAll code k (undepth_words b) → On low 0 k w s a → Given low k (length (undepth_words b)) (record w { calls = w.calls + (if b then 1 else 0) }) s a
  undepth_does true low k w s a few stands at =
      let v = add64 (a.registers 20) 1 in
      let v_is : v ≡ w.calls + 1 = (let p = at.fixed.calls in omega (arith, p, few)) in
      let fixed : Fixed (record w { calls = w.calls + 1 }) (put a.registers 20 v) = record { calls = v_is; cells = at.fixed.cells; local = at.fixed.local; globals = at.fixed.globals; next = at.fixed.next; free = at.fixed.free } in
      let r = gives_any code keeps_small frame low 0 k w (record w { calls = w.calls + 1 }) s a (AddImm 20 20 1 false) 20 v stands.0 stands.1 at refl (refl, refl) fixed in
      record { after = given a 20 v; way = r.way; at = r.at; arg = refl; link = refl }
  undepth_does false low k w s a few stands at =
      let e : k ≡ k + 0 = omega arith in
      let c : w.calls ≡ w.calls + 0 = omega arith in
      record {
        after = a;
        way = way_none code k a;
        at = subst (λ n. On low 0 n (record w { calls = w.calls + 0 }) s a) e (subst (λ (n : ℕ). On low 0 k (record w { calls = n }) s a) c at);
        arg = refl;
        link = refl;
      }
