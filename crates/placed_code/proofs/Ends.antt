-- Ends of blocks are carried out by their words: jumps, branches, returns.
use Rattle.std.proofs.Common.{◌≡◌, ℕ, zero, suc, ◌+◌, ◌*◌, ◌<◌, ◌≤◌, ◌^◌, ◌==◌, ◌⊎◌, inl, inr, ⊎_elim, List, [], ◌∷◌, ◌++◌, map, length, ◌&&◌, Bool, true, false, not, Option, Some, None, refl, arith, sym, ap, ap₂, ◌∙◌, subst, length-append}
use Rattle.std.specs.Prelude.{if◌then◌else◌, option_map}
use Rattle.std.proofs.lemmas.Bool.{ltb-true}
use Rattle.std.proofs.lemmas.Bool.Decides.{eqb_tells}
use Rattle.run_laws.specs.Runs.{Moves, Traps, weigh}
use Rattle.run_laws.specs.Layers.{places_from}
use Rattle.a64_memory.specs.Memory.{Area}
use Rattle.wrapping_numbers.specs.Numbers.{add64, sub64}
use Rattle.a64_numbers.specs.Branches.{branch_to, branch_field}
use Rattle.wrapping_numbers.specs.Shifts.{lsl64}
use Rattle.a64_numbers.specs.Conditions.{holds, compares, opposite, subs_flags}
use Rattle.a64_numbers.proofs.Branches.{branch_19_reaches}
use Rattle.a64_numbers.proofs.Comparisons.{after_subs, holds-opposite}
use Rattle.a64_instr.specs.declared.instr.Shift.TheVariants.{Lsl}
use Rattle.a64_instr.specs.declared.instr.Cond.{Cond}
use Rattle.a64_instr.specs.declared.instr.Cond.TheVariants.{Al}
use Rattle.a64_instr.specs.declared.instr.Instr.{Instr}
use Rattle.a64_instr.specs.declared.instr.Instr.TheVariants.{OrrReg, SubsReg, BCond, Cbz, Cbnz, Ret}
use Rattle.a64_machine.specs.State.{State, address_of, put, read}
use Rattle.a64_machine.specs.Effects.{effect, goes, goes_if}
use Rattle.a64_memory.specs.Areas.{frames_base, frames_bytes}
use Rattle.a64_machine.specs.Machine.{step_of}
use Rattle.a64_machine.proofs.Registers.{read_is, put_other}
use Rattle.a64_machine.proofs.Steps.{Stands, StandAll, stand_append}
use Rattle.lir_core.specs.Spots.{Spot, reg}
use Rattle.a64_table.specs.Decode.{cond_of}
use Rattle.placed_code.proofs.Conditions.{compares_is, not_al}
use Rattle.placed_code.proofs.Steps.{rest_of, ops_of, goes_back, leave}
use Rattle.placed_code.specs.Placed.{procedure, procedures, Copy, all_copied, Cell, Placed, proc_of, block_of}
use Rattle.block_runs.specs.declared.end.End.{End}
use Rattle.block_runs.specs.declared.end.End.TheVariants.{Return, Jump, Branch, Nonzero, Trap}
use Rattle.block_runs.specs.States.{Frame, World, Fault, Runs, Starts, In}
use Rattle.block_runs.specs.Steps.{set_all, freed, at_block, resumed}
use Rattle.block_runs.specs.Blocks as flow
use Rattle.block_runs.specs.Compares as flows
use Rattle.placed_code.specs.Words.{Where, InReg, InSlot, where_is, slots_of, copies_words, result_words, last_words, turned, branch_words, nonzero_words, epilogue, jump_words, unframe_words, unlocal_words, undepth_words, frame_of}
use Rattle.placed_code.specs.Claims.{HomesFit}
use Rattle.placed_code.proofs.Stack.{held}
use Rattle.placed_code.proofs.Slots.{gives_does, given as put_in}
use Rattle.placed_code.proofs.Copies.{Ok, usable_31, register_copies}
use Rattle.placed_code.proofs.Contents.{from_where, content, reg_content, ok_of, Copied, copies_do}
use Rattle.a64_machine.proofs.Ways.{Way, way_none, way_append, way_is, stops_behind}
use Rattle.placed_code.proofs.Leading.{way_of, next_word, Here, leads, jump_does}
use Rattle.placed_code.proofs.Entries.{fixed_sp}
use Rattle.placed_code.proofs.Words.{breaks}
use Rattle.placed_code.proofs.Resuming.{Back, Landed, carry_came, came}
use Rattle.placed_code.proofs.Exits.{unframe_does, unlocal_does, undepth_does}
use Rattle.placed_code.proofs.Relation.{Linked, above_stays, Returns, Ready, EndReady, Callers, counts, Running, Starting, words, callers_stay, callers_cells}
use Rattle.placed_code.proofs.Transfers.{Carry, carry_way, carry_stops, place_low, reshape, in_body}
use Rattle.a64_machine.proofs.Numbers.{Numbers}
use Rattle.block_runs.specs.Points.{least, rest_least}
use Rattle.a64_machine.specs.State as why

-- a write to register 31 changes no spot
blank : (pr : Placed) (fits : HomesFit pr) (s : Area) (low : ℕ) (r : ℕ → ℕ) (v : ℕ) (q : Spot) → content pr s low (put r 31 v) q ≡ content pr s low r q
blank pr fits s low r v q = by_place (where_is pr q) (λ x i. ok_of pr fits q x i)
  where
    by_place : (o : Option Where) → ((x : Where) → o ≡ Some x → Ok (slots_of pr) pr.outs x) → from_where s low (put r 31 v) o ≡ from_where s low r o
    by_place None ok = refl
    by_place (Some (InReg n)) ok = put_other r 31 v n (usable_31 n (ok (InReg n) refl))
    by_place (Some (InSlot j)) ok = refl

turned_first : (n one other : ℕ) → turned n one other ≡ true → (one == n) ≡ true
turned_first n one other = by_test (one == n) (not (other == n))
  where
    by_test : (x y : Bool) → (x && y) ≡ true → x ≡ true
    by_test true y e = refl
    by_test false y e = cc

le_times : (c f : ℕ) → 0 < f → c ≤ c * f
le_times c zero some = absurd (omega (arith, some))
le_times c (suc f) some = let e : c * suc f ≡ c * f + c = omega arith in omega (arith, e)

back_on : (x : Option ℕ) (a b : State) → b.registers 0 ≡ a.registers 0 → Back x a → Back x b
back_on None a b e h = tt
back_on (Some x) a b e h = e ∙ h

module _ (l : Linked) (Begins : (p b : ℕ) → (ℕ → ℕ) → (Spot → ℕ) → Type 0) (keeps_small : (a b : State) (w : List ℕ) → Numbers a → step_of l.code a ≡ Moves w b → Numbers b)
    (opens : (p b : ℕ) (V : ℕ → ℕ) (c : Spot → ℕ) → Begins p b V c → Ready l Begins p (block_of (proc_of l.procs p) b) b 0 (block_of (proc_of l.procs p) b).body V c) where
  abbrev On : ℕ → ℕ → ℕ → World → Area → State → Type 0
  On low slots k w s a = Here l.code keeps_small l.frame low slots k w s a

  ---- A branch

  abbrev compared : State → ℕ → ℕ → State
  compared a x y = record a { pc = add64 a.pc 4; registers = put a.registers 31 (sub64 x y); flags = subs_flags x y }

  record Branched (low slots k n t : ℕ) (w : World) (s : Area) (a : State) : Type 0 where
    pub after : State
    pub way : Way l.code k n a after
    pub at : On low slots t w s after
    pub registers : after.registers ≡ a.registers

  reaches : (k t : ℕ) → k < 2 ^ 18 → t < 2 ^ 18 → branch_to 19 (address_of k) (branch_field 19 (address_of k) (address_of t)) ≡ address_of t
  reaches k t l u = branch_19_reaches (address_of k) (address_of t) (omega (arith, l)) (omega (arith, u)) (omega arith) (omega arith) (omega (arith, u)) (omega (arith, l))

  leads_to : (low slots k t n : ℕ) (w : World) (s : Area) (a : State) (i : Instr) → Stands l.code k i → On low slots k w s a → effect i a ≡ Moves [] (record a { pc = address_of t }) → Branched low slots k (suc n) t w s a
  leads_to low slots k t n w s a i stands at does =
      let to : State = record a { pc = address_of t } in
      let r = leads l.code keeps_small l.frame low slots low slots k t n w w s a to i stands at does refl at.sp (refl, refl) (refl, refl) at.fixed at.space in
      record { after = to; way = r.way; at = r.at; registers = refl }

  -- CBZ and CBNZ
  nonzero_does : (one_next other_next : Bool) (low slots k one other r x : ℕ) (w : World) (s : Area) (a : State) (z : Bool) → one < 2 ^ 18 → other < 2 ^ 18 → (one_next ≡ true → one ≡ suc k) → (one_next ≡ false → other_next ≡ true → other ≡ suc k) → StandAll l.code k (nonzero_words one_next other_next k r one other) → On low slots k w s a → read a.registers r ≡ x → (x == 0) ≡ z → Branched low slots k (length (nonzero_words one_next other_next k r one other)) (if z then other else one) w s a
  nonzero_does true other_next low slots k one other r x w s a z u v next next' stands at f h = both z h (next refl) stands
    where
      both : (z : Bool) → (x == 0) ≡ z → one ≡ suc k → StandAll l.code k (Cbz r (branch_field 19 (address_of k) (address_of other)) ∷ []) → Branched low slots k 1 (if z then other else one) w s a
      both true h e st = leads_to low slots k other 0 w s a (Cbz r (branch_field 19 (address_of k) (address_of other))) st.1 at
          (ap (λ (m : ℕ). goes_if a (m == 0) (branch_to 19 a.pc (branch_field 19 (address_of k) (address_of other)))) f ∙ ap (λ (b : Bool). goes_if a b (branch_to 19 a.pc (branch_field 19 (address_of k) (address_of other)))) h
          ∙ ap (λ (m : ℕ). goes a (branch_to 19 m (branch_field 19 (address_of k) (address_of other)))) at.pc ∙ ap (goes a) (reaches k other st.0 v))
      both false h e st = let g : k + 1 ≡ suc k = omega arith in subst (λ n. Branched low slots k 1 n w s a) (sym e) (leads_to low slots k (suc k) 0 w s a (Cbz r (branch_field 19 (address_of k) (address_of other))) st.1 at
          (ap (λ (m : ℕ). goes_if a (m == 0) (branch_to 19 a.pc (branch_field 19 (address_of k) (address_of other)))) f ∙ ap (λ (b : Bool). goes_if a b (branch_to 19 a.pc (branch_field 19 (address_of k) (address_of other)))) h
          ∙ ap (λ (m : ℕ). goes a (add64 m 4)) at.pc ∙ ap (goes a) (next_word k st.0 ∙ ap address_of g)))
  nonzero_does false other_next low slots k one other r x w s a z u v next next' stands at f h = either z h stands
    where
      either : (z : Bool) → (x == 0) ≡ z → StandAll l.code k (Cbnz r (branch_field 19 (address_of k) (address_of one)) ∷ jump_words other_next (suc k) other) → Branched low slots k (suc (length (jump_words other_next (suc k) other))) (if z then other else one) w s a
      either false h st = leads_to low slots k one (length (jump_words other_next (suc k) other)) w s a (Cbnz r (branch_field 19 (address_of k) (address_of one))) st.1 at
          (ap (λ (m : ℕ). goes_if a (not (m == 0)) (branch_to 19 a.pc (branch_field 19 (address_of k) (address_of one)))) f ∙ ap (λ (b : Bool). goes_if a (not b) (branch_to 19 a.pc (branch_field 19 (address_of k) (address_of one)))) h
          ∙ ap (λ (m : ℕ). goes a (branch_to 19 m (branch_field 19 (address_of k) (address_of one)))) at.pc ∙ ap (goes a) (reaches k one st.0 u))
      either true h st =
          let g : k + 1 ≡ suc k = omega arith in
          let r = leads_to low slots k (suc k) 0 w s a (Cbnz r (branch_field 19 (address_of k) (address_of one))) st.1 at
          (ap (λ (m : ℕ). goes_if a (not (m == 0)) (branch_to 19 a.pc (branch_field 19 (address_of k) (address_of one)))) f ∙ ap (λ (b : Bool). goes_if a (not b) (branch_to 19 a.pc (branch_field 19 (address_of k) (address_of one)))) h
          ∙ ap (λ (m : ℕ). goes a (add64 m 4)) at.pc ∙ ap (goes a) (next_word k st.0 ∙ ap address_of g)) in
          let j = jump_does l.code keeps_small l.frame other_next low slots (suc k) other w s r.after v (next' refl) st.2 r.at in
          let e : suc k ≡ k + 1 = omega arith in
          let n : 1 + length (jump_words other_next (suc k) other) ≡ suc (length (jump_words other_next (suc k) other)) = omega arith in
          record {
            after = j.after;
            way = way_is l.code k (1 + length (jump_words other_next (suc k) other)) (suc (length (jump_words other_next (suc k) other))) a j.after n (way_append l.code k 1 (length (jump_words other_next (suc k) other)) a r.after j.after r.way (subst (λ m. Way l.code m (length (jump_words other_next (suc k) other)) r.after j.after) e j.way));
            at = j.at;
            registers = j.registers ∙ r.registers;
          }

  -- B.cond that is taken, and that isn't
  takes : (low slots k t n : ℕ) (w : World) (s : Area) (a : State) (c : Cond) → t < 2 ^ 18 → k < 2 ^ 18 → Stands l.code k (BCond (branch_field 19 (address_of k) (address_of t)) c) → On low slots k w s a → holds c a.flags ≡ true → Branched low slots k (suc n) t w s a
  takes low slots k t n w s a c u v stands at h =
      let to : State = record a { pc = address_of t } in
      let does : effect (BCond (branch_field 19 (address_of k) (address_of t)) c) a ≡ Moves [] to =
      ap (λ (b : Bool). goes_if a b (branch_to 19 a.pc (branch_field 19 (address_of k) (address_of t)))) h
      ∙ ap (λ (m : ℕ). goes a (branch_to 19 m (branch_field 19 (address_of k) (address_of t)))) at.pc
      ∙ ap (goes a) (reaches k t v u) in
      let r = leads l.code keeps_small l.frame low slots low slots k t n w w s a to (BCond (branch_field 19 (address_of k) (address_of t)) c) stands at does refl at.sp (refl, refl) (refl, refl) at.fixed at.space in
      record { after = to; way = r.way; at = r.at; registers = refl }

  passes : (low slots k t : ℕ) (w : World) (s : Area) (a : State) (c : Cond) → k < 2 ^ 18 → Stands l.code k (BCond (branch_field 19 (address_of k) (address_of t)) c) → On low slots k w s a → holds c a.flags ≡ false → Branched low slots k 1 (suc k) w s a
  passes low slots k t w s a c v stands at h =
      let to : State = record a { pc = address_of (suc k) } in
      let e : k + 1 ≡ suc k = omega arith in
      let does : effect (BCond (branch_field 19 (address_of k) (address_of t)) c) a ≡ Moves [] to =
      ap (λ (b : Bool). goes_if a b (branch_to 19 a.pc (branch_field 19 (address_of k) (address_of t)))) h
      ∙ ap (λ (m : ℕ). goes a (add64 m 4)) at.pc
      ∙ ap (goes a) (next_word k v ∙ ap address_of e) in
      let r = leads l.code keeps_small l.frame low slots low slots k (suc k) 0 w w s a to (BCond (branch_field 19 (address_of k) (address_of t)) c) stands at does refl at.sp (refl, refl) (refl, refl) at.fixed at.space in
      record { after = to; way = r.way; at = r.at; registers = refl }

  branch_does : (one_next other_next : Bool) (low slots k one other : ℕ) (w : World) (s : Area) (a : State) (c : Cond) (t : Bool) → (c ≡ Al → ⊥) → one < 2 ^ 18 → other < 2 ^ 18 → (one_next ≡ true → one ≡ suc k) → (one_next ≡ false → other_next ≡ true → other ≡ suc k) → StandAll l.code k (branch_words one_next other_next k c one other) → On low slots k w s a → holds c a.flags ≡ t → Branched low slots k (length (branch_words one_next other_next k c one other)) (if t then one else other) w s a
  branch_does true other_next low slots k one other w s a c t some u v next next' stands at h = both t h (next refl) stands
    where
      both : (t : Bool) → holds c a.flags ≡ t → one ≡ suc k → StandAll l.code k (BCond (branch_field 19 (address_of k) (address_of other)) (opposite c) ∷ []) → Branched low slots k 1 (if t then one else other) w s a
      both true h e st =
          subst (λ n. Branched low slots k 1 n w s a) (sym e) (passes low slots k other w s a (opposite c) st.0 st.1 at (holds-opposite c a.flags some ∙ ap not h))
      both false h e st = takes low slots k other 0 w s a (opposite c) v st.0 st.1 at (holds-opposite c a.flags some ∙ ap not h)
  branch_does false other_next low slots k one other w s a c t some u v next next' stands at h = either t h stands
    where
      either : (t : Bool) → holds c a.flags ≡ t → StandAll l.code k (BCond (branch_field 19 (address_of k) (address_of one)) c ∷ jump_words other_next (suc k) other) → Branched low slots k (suc (length (jump_words other_next (suc k) other))) (if t then one else other) w s a
      either true h st = takes low slots k one (length (jump_words other_next (suc k) other)) w s a c u st.0 st.1 at h
      either false h st =
          let r = passes low slots k one w s a c st.0 st.1 at h in
          let j = jump_does l.code keeps_small l.frame other_next low slots (suc k) other w s r.after v (next' refl) st.2 r.at in
          let e : suc k ≡ k + 1 = omega arith in
          let n : 1 + length (jump_words other_next (suc k) other) ≡ suc (length (jump_words other_next (suc k) other)) = omega arith in
          record {
            after = j.after;
            way = way_is l.code k (1 + length (jump_words other_next (suc k) other)) (suc (length (jump_words other_next (suc k) other))) a j.after n (way_append l.code k 1 (length (jump_words other_next (suc k) other)) a r.after j.after r.way (subst (λ m. Way l.code m (length (jump_words other_next (suc k) other)) r.after j.after) e j.way));
            at = j.at;
            registers = j.registers ∙ r.registers;
          }

  ---- The ends

  module _ (f : Frame) (fs : List Frame) (w : World) (a : State) (e : Running l Begins keeps_small f fs w a) (params : List ℕ) (body : List Cell) (copies : List Copy) (ra rb : ℕ) where
    abbrev pr : Placed
    pr = proc_of l.procs f.proc

    abbrev k : ℕ
    k = l.place f.proc f.block f.at

    abbrev slots : ℕ
    slots = slots_of pr

    abbrev ending : End → Type 0
    ending last = EndReady l Begins f.proc f.block f.at (record { params = params; body = body; copies = copies; end = last; a = ra; b = rb }) f.values (content pr e.stack e.low a.registers)

    abbrev copying : ℕ
    copying = length (copies_words pr copies)

    abbrev lasting : End → List Instr
    lasting last = last_words (l.follower f.proc f.block) (λ t. l.place f.proc t 0) pr (k + copying) last ra rb

    words_are : (last : End) → ending last → words l Begins (In f.proc f.block f.at) ≡ places_from k (copying + length (lasting last))
    words_are last r = ap (places_from k) r.width

    parts : (last : End) → ending last → StandAll l.code k (copies_words pr copies) × StandAll l.code (k + copying) (lasting last)
    parts last r = stand_append l.code (copies_words pr copies) (lasting last) k r.stands

    brought : (last : End) → ending last → Copied pr e.fits l.code keeps_small l.frame e.low w k copying e.stack a (all_copied copies (content pr e.stack e.low a.registers))
    brought last r = copies_do pr e.fits l.code keeps_small l.frame e.low w copies k e.stack a r.named (parts last r).0 e.at

    few_calls : w.calls < 2 ^ 60
    few_calls =
        let r = e.room in let t = e.at.space.top in let m = e.at.space.small in let f' = e.frame in
        let n = le_times w.calls l.frame (omega (arith, f')) in
        omega (arith, r, t, m, n)

    -- to another block
    runs_block : (to : ℕ) (V : ℕ → ℕ) (s : Area) (b : State) → ((q : ℕ) → (q ≡ e.low + 8 * pr.outs) ⊎ (e.low + 8 * slots ≤ q) → held s q ≡ held e.stack q) → On e.low slots (l.place f.proc to 0) w s b → Ready l Begins f.proc (block_of pr to) to 0 (block_of pr to).body V (content pr s e.low b.registers) → Running l Begins keeps_small (at_block f to V) fs w b
    runs_block to V s b outside at ready = record {
      stack = s;
      low = e.low;
      ret = e.ret;
      at = at;
      fits = e.fits;
      frame = e.frame;
      cells = e.cells;
      ready = ready;
      link = outside (e.low + 8 * pr.outs) (inl refl) ∙ e.link;
      above = above_stays l.frame e.stack s (e.low + 8 * slots) f.args (λ q le. outside q (inr le)) e.above;
      near = e.near;
      callers = callers_stay l Begins w.body e.stack s fs (e.low + 8 * slots) (w.calls + counts l Begins pr) (w.cells + pr.cells) e.ret (λ q le. outside q (inr le)) e.callers;
      room = e.room;
      standing = e.standing;
    }

    jump_carries : (to : ℕ) (args : List ℕ) → ending (Jump to args) → least (procedures l.procs) (In f.proc f.block f.at) ≤ 0 → Carry l Begins keeps_small opens (In f.proc f.block f.at) a (leave l.procs (Jump to args) f fs w)
    jump_carries to args r few =
        let one = brought (Jump to args) r in
        let V = set_all (flow.block_of (procedure pr) to).params (map f.values args) f.values in
        let here = content pr e.stack e.low a.registers in
        let same_1 : content pr one.stack e.low one.after.registers ≡ all_copied copies here = λ i q. one.is q i in
        let ready = opens f.proc to V (content pr one.stack e.low one.after.registers) (subst (λ (c : Spot → ℕ). Begins f.proc to V c) (sym same_1) r.leaves) in
        let falls = to == l.follower f.proc f.block in
        let next : falls ≡ true → l.place f.proc to 0 ≡ k + copying = λ t.
        let same : to ≡ l.follower f.proc f.block = ⊎_elim (λ y. y.1) (λ z. let wrong = z.0 in cc) (eqb_tells to (l.follower f.proc f.block)) in
        let none : length (jump_words falls (k + copying) (l.place f.proc to 0)) ≡ 0 = ap (λ (b : Bool). length (jump_words b (k + copying) (l.place f.proc to 0))) t in
        let w' = r.width in let b' = r.behind in
        ap (λ n. l.place f.proc n 0) same ∙ omega (arith, none, w', b') in
        let j = jump_does l.code keeps_small l.frame falls e.low slots (k + copying) (l.place f.proc to 0) w one.stack one.after (place_low l Begins keeps_small opens f.proc to V (content pr one.stack e.low one.after.registers) ready) next (parts (Jump to args) r).1 one.passed.at in
        let ready' = subst (λ (g : ℕ → ℕ). Ready l Begins f.proc (block_of pr to) to 0 (block_of pr to).body V (content pr one.stack e.low g)) (sym j.registers) ready in
        let jumping = length (jump_words falls (k + copying) (l.place f.proc to 0)) in
        let way = way_append l.code k copying jumping a one.after j.after (way_of l.code keeps_small l.frame e.low slots k copying w one.stack a one.after one.passed) j.way in
        let running = runs_block to V one.stack j.after one.outside j.at ready' in
        record {
          after = j.after;
          passed = way.places;
          walk = way.walk.walk;
          similar = running;
          within = λ h. let x = way.within h in let g = ap (weigh h) (words_are (Jump to args) r) in omega (arith, x, g);
          enough = omega (arith, few);
        }

    branch_carries : (n : ℕ) (x y one other : ℕ) → ending (Branch n x y one other) → least (procedures l.procs) (In f.proc f.block f.at) ≤ 1 → Carry l Begins keeps_small opens (In f.proc f.block f.at) a (leave l.procs (Branch n x y one other) f fs w)
    branch_carries n x y one other r few =
        let c = cond_of n in
        let near : n < 14 = ltb-true n 14 r.fits.condition in
        let co = brought (Branch n x y one other) r in
        let st = (parts (Branch n x y one other) r).1 in
        let b = co.after in
        let here = content pr e.stack e.low a.registers in
        let same_1 : content pr co.stack e.low b.registers ≡ all_copied copies here = λ i q. co.is q i in
        let va : b.registers ra ≡ f.values x = sym (reg_content pr co.stack e.low b.registers ra r.fits.a_fits) ∙ co.is (reg ra) ∙ r.leaves.0 in
        let vb : b.registers rb ≡ f.values y = sym (reg_content pr co.stack e.low b.registers rb r.fits.b_fits) ∙ co.is (reg rb) ∙ r.leaves.1 in
        let ra_is : read b.registers ra ≡ b.registers ra = read_is b.registers ra (λ z. let q = r.fits.a_fits in omega (arith, z, q)) in
        let rb_is : read b.registers rb ≡ b.registers rb = read_is b.registers rb (λ z. let q = r.fits.b_fits in omega (arith, z, q)) in
        let small_a = co.passed.at.small.registers ra in
        let small_b = co.passed.at.small.registers rb in
        let unshifted : lsl64 (b.registers rb) 0 ≡ b.registers rb = grind (arith, small_b) in
        let t : State = compared b (b.registers ra) (b.registers rb) in
        let does : effect (SubsReg 31 ra rb Lsl 0) b ≡ Moves [] t = ap₂ (λ (m n : ℕ). Moves [] (compared b m (lsl64 n 0))) ra_is rb_is ∙ ap (λ (n : ℕ). Moves [] (compared b (b.registers ra) n)) unshifted in
        let e1 : k + copying + 1 ≡ suc (k + copying) = omega arith in
        let first = leads l.code keeps_small l.frame e.low slots e.low slots (k + copying) (suc (k + copying)) 0 w w co.stack b t (SubsReg 31 ra rb Lsl 0) st.1 co.passed.at does (ap (λ (n : ℕ). add64 n 4) co.passed.at.pc ∙ next_word (k + copying) st.0 ∙ ap address_of e1) co.passed.at.sp (refl, refl) (refl, refl) (fixed_sp w b.registers (sub64 (b.registers ra) (b.registers rb)) co.passed.at.fixed) co.passed.at.space in
        let same_2 : content pr co.stack e.low t.registers ≡ content pr co.stack e.low b.registers = λ i q. blank pr e.fits co.stack e.low b.registers (sub64 (b.registers ra) (b.registers rb)) q i in
        let test : holds c t.flags ≡ flows.compares n (f.values x) (f.values y) = after_subs c (b.registers ra) (b.registers rb) small_a small_b ∙ ap₂ (λ (m o : ℕ). compares c m o) va vb ∙ sym (compares_is n (f.values x) (f.values y) near) in
        let begins : (d : Bool) → Begins f.proc (if d then one else other) f.values (content pr co.stack e.low b.registers) = λ d. subst (λ (z : Spot → ℕ). Begins f.proc (if d then one else other) f.values z) (sym same_1) (chosen d one other (all_copied copies here) r.leaves.2 r.leaves.3) in
        let d = flows.compares n (f.values x) (f.values y) in
        let ready : (d : Bool) → Ready l Begins f.proc (block_of pr (if d then one else other)) (if d then one else other) 0 (block_of pr (if d then one else other)).body f.values (content pr co.stack e.low b.registers) = λ d. opens f.proc (if d then one else other) f.values (content pr co.stack e.low b.registers) (begins d) in
        let low_one = place_low l Begins keeps_small opens f.proc one f.values (content pr co.stack e.low b.registers) (ready true) in
        let low_other = place_low l Begins keeps_small opens f.proc other f.values (content pr co.stack e.low b.registers) (ready false) in
        let one_next = turned (l.follower f.proc f.block) one other in
        let other_next = other == l.follower f.proc f.block in
        let w' = r.width in let b' = r.behind in
        let next : one_next ≡ true → l.place f.proc one 0 ≡ suc (suc (k + copying)) = λ g.
        let same : one ≡ l.follower f.proc f.block = ⊎_elim (λ y. y.1) (λ z. let wrong = z.0 in let here = turned_first (l.follower f.proc f.block) one other g in cc) (eqb_tells one (l.follower f.proc f.block)) in
        let size : length (branch_words one_next other_next (suc (k + copying)) c (l.place f.proc one 0) (l.place f.proc other 0)) ≡ 1 = ap (λ (b : Bool). length (branch_words b other_next (suc (k + copying)) c (l.place f.proc one 0) (l.place f.proc other 0))) g in
        ap (λ n. l.place f.proc n 0) same ∙ omega (arith, size, w', b') in
        let next' : one_next ≡ false → other_next ≡ true → l.place f.proc other 0 ≡ suc (suc (k + copying)) = λ g h.
        let same : other ≡ l.follower f.proc f.block = ⊎_elim (λ y. y.1) (λ z. let wrong = z.0 in cc) (eqb_tells other (l.follower f.proc f.block)) in
        let size : length (branch_words one_next other_next (suc (k + copying)) c (l.place f.proc one 0) (l.place f.proc other 0)) ≡ 1 = ap₂ (λ (b d : Bool). length (branch_words b d (suc (k + copying)) c (l.place f.proc one 0) (l.place f.proc other 0))) g h in
        ap (λ n. l.place f.proc n 0) same ∙ omega (arith, size, w', b') in
        let br = branch_does one_next other_next e.low slots (suc (k + copying)) (l.place f.proc one 0) (l.place f.proc other 0) w co.stack t c d (not_al n near) low_one low_other next next' st.2 first.at test in
        let m = length (branch_words one_next other_next (suc (k + copying)) c (l.place f.proc one 0) (l.place f.proc other 0)) in
        let way_1 = way_of l.code keeps_small l.frame e.low slots k copying w co.stack a b co.passed in
        let way_3 = subst (λ z. Way l.code z m t br.after) (sym e1) br.way in
        let way = way_append l.code k copying (1 + m) a b br.after way_1 (way_append l.code (k + copying) 1 m b t br.after first.way way_3) in
        let sizes : copying + (1 + m) ≡ copying + length (lasting (Branch n x y one other)) = omega arith in
        let running = runs_block (if d then one else other) f.values co.stack br.after co.outside (chosen_place d one other e.low w co.stack br.after br.at)
        (subst (λ (g : ℕ → ℕ). Ready l Begins f.proc (block_of pr (if d then one else other)) (if d then one else other) 0 (block_of pr (if d then one else other)).body f.values (content pr co.stack e.low g)) (sym br.registers) (subst (λ (z : Spot → ℕ). Ready l Begins f.proc (block_of pr (if d then one else other)) (if d then one else other) 0 (block_of pr (if d then one else other)).body f.values z) (sym same_2) (ready d))) in
        carry_way l Begins keeps_small opens (In f.proc f.block f.at) k (copying + (1 + m)) a br.after (Runs (at_block f (if d then one else other) f.values) fs w) (words_are (Branch n x y one other) r ∙ ap (places_from k) (sym sizes)) way (omega arith) few running
      where
        chosen : (d : Bool) (one other : ℕ) (z : Spot → ℕ) → Begins f.proc one f.values z → Begins f.proc other f.values z → Begins f.proc (if d then one else other) f.values z
        chosen true one other z p q = p
        chosen false one other z p q = q

        chosen_place : (d : Bool) (one other low : ℕ) (w : World) (s : Area) (b : State) → On low slots (if d then l.place f.proc one 0 else l.place f.proc other 0) w s b → On low slots (l.place f.proc (if d then one else other) 0) w s b
        chosen_place true one other low w s b at = at
        chosen_place false one other low w s b at = at

    ---- A branch by a register

    nonzero_carries : (x one other : ℕ) → ending (Nonzero x one other) → least (procedures l.procs) (In f.proc f.block f.at) ≤ 1 → Carry l Begins keeps_small opens (In f.proc f.block f.at) a (leave l.procs (Nonzero x one other) f fs w)
    nonzero_carries x one other r few =
        let co = brought (Nonzero x one other) r in
        let st = (parts (Nonzero x one other) r).1 in
        let b = co.after in
        let here = content pr e.stack e.low a.registers in
        let same_1 : content pr co.stack e.low b.registers ≡ all_copied copies here = λ i q. co.is q i in
        let va : b.registers ra ≡ f.values x = sym (reg_content pr co.stack e.low b.registers ra r.fits.a_fits) ∙ co.is (reg ra) ∙ r.leaves.0 in
        let ra_is : read b.registers ra ≡ b.registers ra = read_is b.registers ra (λ z. let q = r.fits.a_fits in omega (arith, z, q)) in
        let d = f.values x == 0 in
        let begins : (d : Bool) → Begins f.proc (if d then other else one) f.values (content pr co.stack e.low b.registers) = λ d. subst (λ (z : Spot → ℕ). Begins f.proc (if d then other else one) f.values z) (sym same_1) (chosen d other one (all_copied copies here) r.leaves.2 r.leaves.1) in
        let ready : (d : Bool) → Ready l Begins f.proc (block_of pr (if d then other else one)) (if d then other else one) 0 (block_of pr (if d then other else one)).body f.values (content pr co.stack e.low b.registers) = λ d. opens f.proc (if d then other else one) f.values (content pr co.stack e.low b.registers) (begins d) in
        let low_one = place_low l Begins keeps_small opens f.proc one f.values (content pr co.stack e.low b.registers) (ready false) in
        let low_other = place_low l Begins keeps_small opens f.proc other f.values (content pr co.stack e.low b.registers) (ready true) in
        let one_next = turned (l.follower f.proc f.block) one other in
        let other_next = other == l.follower f.proc f.block in
        let w' = r.width in let b' = r.behind in
        let next : one_next ≡ true → l.place f.proc one 0 ≡ suc (k + copying) = λ g.
        let same : one ≡ l.follower f.proc f.block = ⊎_elim (λ y. y.1) (λ z. let wrong = z.0 in let here = turned_first (l.follower f.proc f.block) one other g in cc) (eqb_tells one (l.follower f.proc f.block)) in
        let size : length (nonzero_words one_next other_next (k + copying) ra (l.place f.proc one 0) (l.place f.proc other 0)) ≡ 1 = ap (λ (b : Bool). length (nonzero_words b other_next (k + copying) ra (l.place f.proc one 0) (l.place f.proc other 0))) g in
        ap (λ n. l.place f.proc n 0) same ∙ omega (arith, size, w', b') in
        let next' : one_next ≡ false → other_next ≡ true → l.place f.proc other 0 ≡ suc (k + copying) = λ g h.
        let same : other ≡ l.follower f.proc f.block = ⊎_elim (λ y. y.1) (λ z. let wrong = z.0 in cc) (eqb_tells other (l.follower f.proc f.block)) in
        let size : length (nonzero_words one_next other_next (k + copying) ra (l.place f.proc one 0) (l.place f.proc other 0)) ≡ 1 = ap₂ (λ (b d : Bool). length (nonzero_words b d (k + copying) ra (l.place f.proc one 0) (l.place f.proc other 0))) g h in
        ap (λ n. l.place f.proc n 0) same ∙ omega (arith, size, w', b') in
        let br = nonzero_does one_next other_next e.low slots (k + copying) (l.place f.proc one 0) (l.place f.proc other 0) ra (f.values x) w co.stack b d low_one low_other next next' st co.passed.at (ra_is ∙ va) refl in
        let n = length (nonzero_words one_next other_next (k + copying) ra (l.place f.proc one 0) (l.place f.proc other 0)) in
        let way = way_append l.code k copying n a b br.after (way_of l.code keeps_small l.frame e.low slots k copying w co.stack a b co.passed) br.way in
        let some : 0 < n = nonzero_some one_next other_next (k + copying) ra (l.place f.proc one 0) (l.place f.proc other 0) in
        let running = runs_block (if d then other else one) f.values co.stack br.after co.outside (chosen_place d other one e.low w co.stack br.after br.at)
        (subst (λ (g : ℕ → ℕ). Ready l Begins f.proc (block_of pr (if d then other else one)) (if d then other else one) 0 (block_of pr (if d then other else one)).body f.values (content pr co.stack e.low g)) (sym br.registers) (ready d)) in
        carry_way l Begins keeps_small opens (In f.proc f.block f.at) k (copying + n) a br.after (Runs (at_block f (if d then other else one) f.values) fs w) (words_are (Nonzero x one other) r) way (omega (arith, some)) few running
      where
        nonzero_some : (b d : Bool) (k r one other : ℕ) → 0 < length (nonzero_words b d k r one other)
        nonzero_some true d k r one other = omega arith
        nonzero_some false d k r one other = omega arith

        chosen : (d : Bool) (one other : ℕ) (z : Spot → ℕ) → Begins f.proc one f.values z → Begins f.proc other f.values z → Begins f.proc (if d then one else other) f.values z
        chosen true one other z p q = p
        chosen false one other z p q = q

        chosen_place : (d : Bool) (one other low : ℕ) (w : World) (s : Area) (b : State) → On low slots (if d then l.place f.proc one 0 else l.place f.proc other 0) w s b → On low slots (l.place f.proc (if d then one else other) 0) w s b
        chosen_place true one other low w s b at = at
        chosen_place false one other low w s b at = at

    ---- A trap

    fail_carries : (n : ℕ) → ending (Trap n) → Carry l Begins keeps_small opens (In f.proc f.block f.at) a (leave l.procs (Trap n) f fs w)
    fail_carries n r =
        let co = brought (Trap n) r in
        let st = (parts (Trap n) r).1 in
        let stop = breaks l.code keeps_small l.frame e.low slots w co.stack (k + copying) n co.after st co.passed.at in
        let mine = why.Broke n (k + copying) in
        let i = r.inside.from in let j = r.inside.to in let w' = r.width in
        carry_stops l Begins keeps_small opens (In f.proc f.block f.at) f.proc k (copying + 1) n (k + copying) a (words_are (Trap n) r) r.inside.known i (omega (arith, j, w')) (stops_behind l.code k copying 1 a co.after mine (way_of l.code keeps_small l.frame e.low slots k copying w co.stack a co.after co.passed) stop)

    ---- Return

    record Returned (n : ℕ) (x : Option ℕ) : Type 0 where
      pub after : State
      pub stack : Area
      pub way : Way l.code k n a after
      pub at : On (e.low + 8 * slots) 0 e.ret (freed (procedure pr) w) stack after
      pub arg : Back x after
      pub outside : (q : ℕ) → e.low + 8 * slots ≤ q → held stack q ≡ held e.stack q

    -- the result goes to X0
    record Put (n : ℕ) (x : Option ℕ) (k0 : ℕ) (s : Area) (b : State) : Type 0 where
      pub after : State
      pub way : Way l.code k0 n b after
      pub at : On e.low slots (k0 + n) w s after
      pub arg : Back x after
      pub link : after.registers 30 ≡ b.registers 30

    puts : (x : Option ℕ) (k0 : ℕ) (s : Area) (b : State) → ra < 16 → Returns l Begins x ra f.values (content pr s e.low b.registers) → StandAll l.code k0 (result_words x ra) → On e.low slots k0 w s b → Put (length (result_words x ra)) (option_map f.values x) k0 s b
    puts None k0 s b small is st at = let z : k0 ≡ k0 + 0 = omega arith in record { after = b; way = way_none l.code k0 b; at = subst (λ n. On e.low slots n w s b) z at; arg = tt; link = refl }
    puts (Some x) k0 s b small is st at =
        let va : b.registers ra ≡ f.values x = sym (reg_content pr s e.low b.registers ra small) ∙ is in
        let one = gives_does l.code keeps_small l.frame e.low slots k0 w s b (OrrReg 0 31 ra Lsl 0) 0 (b.registers ra) (inl (omega arith)) st.0 st.1 at (register_copies l.code keeps_small l.frame b 0 ra (omega (arith, small)) at.small) in
        record { after = put_in b 0 (b.registers ra); way = way_of l.code keeps_small l.frame e.low slots k0 1 w s b (put_in b 0 (b.registers ra)) one; at = one.at; arg = va; link = refl }

    returns : (x : Option ℕ) → (r : ending (Return x)) → Returned (copying + length (lasting (Return x))) (option_map f.values x)
    returns x r =
        let co = brought (Return x) r in
        let b = co.after in
        let k1 = k + copying in
        let n0 = length (result_words x ra) in
        let k0 = k1 + n0 in
        let here = content pr e.stack e.low a.registers in
        let same_1 : content pr co.stack e.low b.registers ≡ all_copied copies here = λ i q. co.is q i in
        let both = stand_append l.code (result_words x ra) (epilogue pr) k1 (parts (Return x) r).1 in
        let one = puts x k1 co.stack b r.fits.a_fits (subst (λ (z : Spot → ℕ). Returns l Begins x ra f.values z) (sym same_1) r.leaves) both.0 co.passed.at in
        let st = both.1 in
        let t = one.after in
        let rest_1 : List Instr = unlocal_words pr.cells pr.bytes ++ (undepth_words pr.counted ++ Ret 30 ∷ []) in
        let rest_2 : List Instr = undepth_words pr.counted ++ Ret 30 ∷ [] in
        let q1 = stand_append l.code (unframe_words (frame_of pr) pr.outs) rest_1 k0 st in
        let q2 = stand_append l.code (unlocal_words pr.cells pr.bytes) rest_2 (k0 + 3) q1.1 in
        let ul = length (unlocal_words pr.cells pr.bytes) in
        let ud = length (undepth_words pr.counted) in
        let q3 = stand_append l.code (undepth_words pr.counted) (Ret 30 ∷ []) (k0 + 3 + ul) q2.1 in
        let fr = unframe_does l.code keeps_small l.frame slots pr.outs e.low k0 w co.stack t (omega arith) (let g = e.frame in let h = e.at.space.small in omega (arith, g, h)) q1.0 one.at in
        let few = callers_cells l Begins w.body e.stack fs (e.low + 8 * slots) (w.calls + counts l Begins pr) (w.cells + pr.cells) e.ret e.callers in
        let lo = unlocal_does l.code keeps_small l.frame pr.cells pr.bytes (e.low + 8 * slots) (k0 + 3) w co.stack fr.after e.cells few q2.0 fr.at in
        let w1 : World = record w { cells = w.cells + pr.cells; local = sub64 w.local pr.bytes } in
        let de = undepth_does l.code keeps_small l.frame pr.counted (e.low + 8 * slots) (k0 + 3 + ul) w1 co.stack lo.after few_calls q3.0 lo.at in
        let k4 = k0 + 3 + ul + ud in
        let back : State = record de.after { pc = address_of e.ret } in
        let link : de.after.registers 30 ≡ address_of e.ret = de.link ∙ lo.link ∙ fr.link ∙ co.outside (e.low + 8 * pr.outs) (inl refl) ∙ e.link in
        let does : effect (Ret 30) de.after ≡ Moves [] back = ap (goes de.after) link in
        let last = leads l.code keeps_small l.frame (e.low + 8 * slots) 0 (e.low + 8 * slots) 0 k4 e.ret 0 (freed (procedure pr) w) (freed (procedure pr) w) co.stack de.after back (Ret 30) q3.1.1 de.at does refl de.at.sp (refl, refl) (refl, refl) de.at.fixed de.at.space in
        let way_0 = way_of l.code keeps_small l.frame e.low slots k copying w co.stack a b co.passed in
        let way : Way l.code k (copying + (n0 + (3 + (ul + (ud + 1))))) a back =
        way_append l.code k copying (n0 + (3 + (ul + (ud + 1)))) a b back way_0
        (way_append l.code k1 n0 (3 + (ul + (ud + 1))) b t back one.way
        (way_append l.code k0 3 (ul + (ud + 1)) t fr.after back fr.way
        (way_append l.code (k0 + 3) ul (ud + 1) fr.after lo.after back lo.way
        (way_append l.code (k0 + 3 + ul) ud 1 lo.after de.after back de.way last.way)))) in
        let s0 = length-append (result_words x ra) (epilogue pr) in
        let s1 = length-append (unframe_words (frame_of pr) pr.outs) rest_1 in
        let s2 = length-append (unlocal_words pr.cells pr.bytes) rest_2 in
        let s3 = length-append (undepth_words pr.counted) (Ret 30 ∷ []) in
        let sizes : copying + (n0 + (3 + (ul + (ud + 1)))) ≡ copying + length (lasting (Return x)) = omega (arith, s0, s1, s2, s3) in
        record {
          after = back;
          stack = co.stack;
          way = way_is l.code k (copying + (n0 + (3 + (ul + (ud + 1))))) (copying + length (lasting (Return x))) a back sizes way;
          at = last.at;
          arg = back_on (option_map f.values x) t back (de.arg ∙ lo.arg ∙ fr.arg) one.arg;
          outside = λ q le. co.outside q (inr le);
        }

    -- to the caller, or to the end
    goes_on : (gs : List Frame) (n : ℕ) (x : Option ℕ) → (R : Returned n x) → Callers l Begins w.body R.stack (e.low + 8 * slots) (w.calls + counts l Begins pr) (w.cells + pr.cells) e.ret gs → 0 < n → least (procedures l.procs) (In f.proc f.block f.at) ≤ 1 → words l Begins (In f.proc f.block f.at) ≡ places_from k n
        → ((address : ℕ) → goes_back l.procs gs (freed (procedure pr) w) x ≡ Traps (Fault address) → ⊥) → Carry l Begins keeps_small opens (In f.proc f.block f.at) a (goes_back l.procs gs (freed (procedure pr) w) x)
    goes_on [] n x R callers some few is safe =
        let w' : World = record (freed (procedure pr) w) { body = suc w.body } in
        let place = subst (λ j. On j 0 e.ret (freed (procedure pr) w) R.stack R.after) callers.0 R.at in
        let last = callers.4 in
        let starting : Starting l Begins keeps_small w' R.after = record {
          stack = R.stack;
          at = in_body l Begins keeps_small opens (frames_base + frames_bytes l.frame) 0 (suc w.body) (suc w.body) (freed (procedure pr) w) R.stack R.after (subst (λ j. On (frames_base + frames_bytes l.frame) 0 j (freed (procedure pr) w) R.stack R.after) callers.1 place);
          calls = callers.2;
          cells = callers.3;
          few = last;
          standing = e.standing;
        } in
        carry_way l Begins keeps_small opens (In f.proc f.block f.at) k n a R.after (Starts w') is R.way some few starting
    goes_on (g ∷ gs) n x R callers some few is safe =
        let rg = proc_of l.procs g.proc in
        let landed : Landed l Begins keeps_small opens g gs (freed (procedure pr) w) R.after = record {
          stack = R.stack;
          low = e.low + 8 * slots;
          ret = callers.3;
          back = e.ret;
          at = reshape l Begins keeps_small opens (e.low + 8 * slots) 0 (slots_of rg) e.ret (freed (procedure pr) w) R.stack R.after callers.2 R.at;
          waits = callers.0;
          link = callers.4;
          near = callers.5;
          callers = callers.7;
          room = callers.1;
          above = callers.6;
          standing = e.standing;
        } in
        carry_came l Begins keeps_small opens (In f.proc f.block f.at) k n a R.after (resumed (ops_of (rest_of l.procs g)) g gs (freed (procedure pr) w) x) is R.way some few (came l Begins keeps_small opens g gs (freed (procedure pr) w) R.after landed x R.arg safe)

    return_carries : (x : Option ℕ) → ending (Return x) → least (procedures l.procs) (In f.proc f.block f.at) ≤ 1 → ((address : ℕ) → leave l.procs (Return x) f fs w ≡ Traps (Fault address) → ⊥) → Carry l Begins keeps_small opens (In f.proc f.block f.at) a (leave l.procs (Return x) f fs w)
    return_carries x r few safe =
        let R = returns x r in
        goes_on fs (copying + length (lasting (Return x))) (option_map f.values x) R
        (callers_stay l Begins w.body e.stack R.stack fs (e.low + 8 * slots) (w.calls + counts l Begins pr) (w.cells + pr.cells) e.ret R.outside e.callers)
        (let s0 = length-append (result_words x ra) (epilogue pr) in let s1 = length-append (unframe_words (frame_of pr) pr.outs) (unlocal_words pr.cells pr.bytes ++ (undepth_words pr.counted ++ Ret 30 ∷ [])) in omega (arith, s0, s1)) few (words_are (Return x) r) safe

    pub last_carries : (last : End) → ending last → least (procedures l.procs) (In f.proc f.block f.at) ≤ rest_least [] last → ((address : ℕ) → leave l.procs last f fs w ≡ Traps (Fault address) → ⊥) → Carry l Begins keeps_small opens (In f.proc f.block f.at) a (leave l.procs last f fs w)
    last_carries (Return x) r few safe = return_carries x r few safe
    last_carries (Jump to args) r few safe = jump_carries to args r few
    last_carries (Branch n x y one other) r few safe = branch_carries n x y one other r few
    last_carries (Nonzero x one other) r few safe = nonzero_carries x one other r few
    last_carries (Trap n) r few safe = fail_carries n r
