-- Operations are carried out by their words, calls among them.
use Rattle.std.proofs.Common.{◌≡◌, ℕ, zero, suc, ◌+◌, ◌-◌, ◌*◌, ◌%◌, ◌<◌, ◌≤◌, ◌^◌, ◌==◌, ◌&&◌, ◌||◌, inl, inr, ⊎_elim, List, [], ◌∷◌, ◌++◌, map, length, get_or, take, drop, Bool, true, false, cond, Option, Some, None, refl, arith, sym, ap, ap₂, ◌∙◌, subst, lit<}
use Rattle.std.specs.Prelude.{if◌then◌else◌, nat_lt, nat_le, slice_index_or, bit_or, is_some}
use Rattle.std.proofs.lemmas.Bool.Decides.{eqb_tells, nat_tests}
use Rattle.run_laws.specs.Runs.{Step, Moves, Traps, weigh, Within}
use Rattle.run_laws.specs.Layers.{places_from}
use Rattle.run_laws.proofs.Weights.{weigh-append}
use Rattle.run_laws.proofs.Layers.{places_from-append}
use Rattle.out_text.specs.Text.{int_text}
use Rattle.a64_memory.specs.Memory.{Area, store1, store8}
use Rattle.wrapping_numbers.specs.Numbers.{add64, sub64}
use Rattle.wrapping_numbers.specs.Shifts.{lsl64}
use Rattle.wrapping_numbers.proofs.Amounts.{lsl64_zero}
use Rattle.wrapping_numbers.proofs.Wrapping.{add64_zero}
use Rattle.a64_numbers.specs.Branches.{branch_to, branch_field}
use Rattle.a64_numbers.specs.Conditions.{subs_flags, holds}
use Rattle.a64_numbers.specs.Moves.{constant_moves}
use Rattle.a64_numbers.specs.declared.moves.Move.{Move}
use Rattle.a64_numbers.proofs.Branches.{branch_26_reaches}
use Rattle.a64_numbers.proofs.Comparisons.{after_subs}
use Rattle.a64_numbers.proofs.Constants.{some_moves}
use Rattle.a64_instr.specs.declared.instr.Shift.TheVariants.{Lsl}
use Rattle.a64_instr.specs.declared.instr.Cond.TheVariants.{Hs}
use Rattle.a64_instr.specs.declared.instr.Instr.{Instr}
use Rattle.a64_instr.specs.declared.instr.Instr.TheVariants as i
use Rattle.a64_machine.specs.State.{State, address_of, put, read, read_or_sp}
use Rattle.a64_machine.specs.State as why
use Rattle.a64_machine.specs.Effects.{effect, gives, stores, calls}
use Rattle.a64_machine.specs.Services.{writes, writes_text, service}
use Rattle.a64_memory.specs.Areas.{frames_base, frames_bytes}
use Rattle.a64_machine.specs.Machine.{step_of}
use Rattle.a64_machine.proofs.Registers.{put_same, put_other}
use Rattle.a64_machine.proofs.Steps.{Walks, step-at, walks-one, walks-append, StandAll, stand_append}
use Rattle.a64_machine.proofs.Ways.{Way, way_one, way_append, way_is, Stops, stops_behind, stops_longer}
use Rattle.a64_machine.proofs.Numbers.{Numbers}
use Rattle.block_runs.specs.declared.code.Code.{Code}
use Rattle.block_runs.specs.declared.code.Code.TheVariants as kinds
use Rattle.block_runs.specs.Blocks.{Operation}
use Rattle.block_runs.specs.Valid.{is_call}
use Rattle.block_runs.specs.States.{Frame, World, Stop, Kind, Fault, Enters, Runs, Works, Work, CopyHead, ZeroHead, CompareHead, In, part}
use Rattle.block_runs.specs.States.{State as Flow}
use Rattle.a64_memory.specs.Texts.{Text, Bytes, Outside, text_at}
use Rattle.block_runs.specs.Effects as effects
use Rattle.block_runs.specs.Effects.{char_bytes, Effect, Gives, Does, Calls, Fails, Faults, stored, made, written, code_at, effect_of}
use Rattle.block_runs.specs.Steps.{define, behind}
use Rattle.block_runs.specs.Points.{least}
use Rattle.lir_core.specs.Spots.{Spot, reg, home, saved, out, target, same}
use Rattle.lir_core.specs.Lines.{is_aimed, argument_spot, argument_spots, use_spots}
use Rattle.placed_code.specs.Placed.{Copy, all_copied, Cell, Block, Placed, procedures, proc_of, block_of, def_register}
use Rattle.placed_code.specs.Words.{InReg, InSlot, slot_of, slots_of, copies_words, move_word, op_words, breaks_unless}
use Rattle.placed_code.specs.Layout.{own_words}
use Rattle.placed_code.proofs.Steps.{rest_of, params_of, may_call, called, operate}
use Rattle.placed_code.proofs.Rest.{drop_next}
use Rattle.placed_code.proofs.Stack.{held, Memories, store_flows, store_flows_byte, text_flows}
use Rattle.placed_code.proofs.Slots.{Fixed, fixed_put, some_load}
use Rattle.placed_code.proofs.Contents.{from_where, content, reg_content, Copied, copies_do}
use Rattle.placed_code.proofs.Leading.{way_of, next_word, Here, gives_any}
use Rattle.placed_code.proofs.Words.{Kept, changed, skipped, Operand, reads, reads_sp, operand_on, Quiet, after, stop_after, against_does, unless_does, unless_stops}
use Rattle.placed_code.proofs.Values.{is_value, uses, valued, Outcome, Operands, value_does, small_of, or_zero}
use Rattle.placed_code.proofs.Fits.{makes_is, acts_is, fits_value, fits_number, not_call}
use Rattle.placed_code.proofs.Routines.{Ran, puts}
use Rattle.placed_code.proofs.Routines.{writes as registers_written}
use Rattle.placed_code.proofs.Relation as rel
use Rattle.placed_code.proofs.Relation.{Linked, start, Same, GivesTo, AfterBy, Homes, Answer, After, Above, above_stays, WorkHolds, part_place, Ready, CellReady, Resumes, Waits, counts, Entering, Running, Working, words, home_content, callers_stay}
use Rattle.placed_code.proofs.Transfers.{Carry, carry_way, carry_stops}

abbrev pub cell_of : List Copy → Operation → List ℕ → Cell
cell_of copies op named = record { copies = copies; op = op; named = named }

is_not : (m n : ℕ) → (m == n) ≡ false → m ≡ n → ⊥
is_not m n e = ⊎_elim (λ t. let x = t.1 in cc) (λ f. f.1) (eqb_tells m n)

-- spots are kept where registers but d are
module _ (pr : Placed) (s : Area) (low : ℕ) (r t : ℕ → ℕ) (d : ℕ) (others : (m : ℕ) → Kept d m → t m ≡ r m) where
  by_number : (n : ℕ) (b : Bool) → nat_lt n 16 ≡ b → (n ≡ d → ⊥) → from_where s low t (if b then Some (InReg n) else None) ≡ from_where s low r (if b then Some (InReg n) else None)
  by_number n true l ne = others n (inl (grind (arith, nat_tests, l)), ne)
  by_number n false l ne = refl

  by_slot : (n : ℕ) (b : Bool) → from_where s low t (if b then Some (InSlot n) else None) ≡ from_where s low r (if b then Some (InSlot n) else None)
  by_slot n true = refl
  by_slot n false = refl

  by_rank : (o : Option ℕ) → from_where s low t (slot_of pr.outs o) ≡ from_where s low r (slot_of pr.outs o)
  by_rank None = refl
  by_rank (Some j) = refl

  others_given : d < 16 → (p : Spot) → same p (reg d) ≡ false → same p saved ≡ false → content pr s low t p ≡ content pr s low r p
  others_given l (reg n) e f = by_number n (nat_lt n 16) refl (is_not n d e)
  others_given l (home u) e f = by_rank (pr.rank u)
  others_given l (out j) e f = by_slot j (nat_lt j pr.outs)
  others_given l target e f = others 25 (inr refl, λ z. omega (arith, z, l))
  others_given l saved e f = cc

  others_same : d ≡ 16 → (p : Spot) → same p saved ≡ false → content pr s low t p ≡ content pr s low r p
  others_same z (reg n) f = in_register (nat_lt n 16) refl
    where
      in_register : (b : Bool) → nat_lt n 16 ≡ b → from_where s low t (if b then Some (InReg n) else None) ≡ from_where s low r (if b then Some (InReg n) else None)
      in_register true l = let u : n < 16 = grind (arith, nat_tests, l) in others n (inl u, λ y. omega (arith, y, z, u))
      in_register false l = refl
  others_same z (home u) f = by_rank (pr.rank u)
  others_same z (out j) f = by_slot j (nat_lt j pr.outs)
  others_same z target f = others 25 (inr refl, λ y. omega (arith, y, z))
  others_same z saved f = cc

-- the procedure that is found lies there
found_right : (code : ℕ → ℕ) (n address p : ℕ) → code_at code n address ≡ Some p → code p ≡ address
found_right code zero address p e = cc
found_right code (suc n) address p e = by_test (λ z. found_right code n address p z) (code n == address) refl e
  where
    same_numbers : (code n == address) ≡ true → code n ≡ address
    same_numbers h = ⊎_elim (λ t. t.1) (λ f. let wrong = f.0 in cc) (eqb_tells (code n) address)

    by_test : (code_at code n address ≡ Some p → code p ≡ address) → (b : Bool) → (code n == address) ≡ b → (if b then Some n else code_at code n address) ≡ Some p → code p ≡ address
    by_test rest true h e = let z : n ≡ p = cc in ap code (sym z) ∙ same_numbers h
    by_test rest false h e = rest e

length_mapped : (V : ℕ → ℕ) (xs : List ℕ) → length (map V xs) ≡ length xs
length_mapped V [] = refl
length_mapped V (x ∷ xs) = ap suc (length_mapped V xs)

and_left : (a b : Bool) → (a && b) ≡ true → a ≡ true
and_left true b e = refl
and_left false b e = cc

and_right : (a b : Bool) → (a && b) ≡ true → b ≡ true
and_right true b e = e
and_right false b e = cc

length_map : (g : Move → Instr) (ms : List Move) → length (map g ms) ≡ length ms
length_map g [] = refl
length_map g (m ∷ ms) = ap suc (length_map g ms)

-- each operation has a word
pub some_words : (entry : ℕ → ℕ) (start slots k : ℕ) (code : Code) (a b c d : ℕ) → 0 < length (op_words entry start slots k code a b c d)
some_words entry start slots k (kinds.Const n) a b c d = let h = some_moves n in let m = length_map (move_word d) (constant_moves n) in omega (arith, h, m)
some_words entry start slots k (kinds.Arg i) a b c d = some_load d (slots + (i - 4))
some_words entry start slots k code a b c d = omega arith

-- the i-th of the numbers that are read, from the spots in which they stand
in_registers : (C : Spot → ℕ) (n : ℕ) (named xs : List ℕ) → map C (map reg (take n named)) ≡ xs → (i : ℕ) → i < length xs → C (reg (get_or named i 0)) ≡ get_or xs i 0
in_registers C zero named [] e i l = absurd (omega (arith, l))
in_registers C zero named (x ∷ xs) e i l = cc
in_registers C (suc n) [] [] e i l = absurd (omega (arith, l))
in_registers C (suc n) [] (x ∷ xs) e i l = cc
in_registers C (suc n) (r ∷ named) [] e i l = absurd (omega (arith, l))
in_registers C (suc n) (r ∷ named) (x ∷ xs) e zero l = cc
in_registers C (suc n) (r ∷ named) (x ∷ xs) e (suc i) l = let rest : map C (map reg (take n named)) ≡ xs = cc in in_registers C n named xs rest i (omega (arith, l))

-- arguments of a call in their places
abbrev pub ArgsIn : (Spot → ℕ) → List ℕ → Type 0
ArgsIn C args = (i : ℕ) → i < length args → C (argument_spot i) ≡ get_or args i 0

args_from : (C : Spot → ℕ) (V : ℕ → ℕ) (j : ℕ) (us : List ℕ) → map C (argument_spots j us) ≡ map V us → (i : ℕ) → i < length (map V us) → C (argument_spot (j + i)) ≡ get_or (map V us) i 0
args_from C V j [] e i l = absurd (omega (arith, l))
args_from C V j (u ∷ us) e zero l = let z : j + 0 ≡ j = omega arith in ap (λ m. C (argument_spot m)) z ∙ cc
args_from C V j (u ∷ us) e (suc i) l =
    let rest : map C (argument_spots (suc j) us) ≡ map V us = cc in
    let z : j + suc i ≡ suc j + i = omega arith in
    ap (λ m. C (argument_spot m)) z ∙ args_from C V (suc j) us rest i (omega (arith, l))

pub args_in : (C : Spot → ℕ) (V : ℕ → ℕ) (us : List ℕ) → map C (argument_spots 0 us) ≡ map V us → ArgsIn C (map V us)
args_in C V us e i l = let z : i ≡ 0 + i = omega arith in ap (λ m. C (argument_spot m)) z ∙ args_from C V 0 us e i l

module _ (l : Linked) (Begins : (p b : ℕ) → (ℕ → ℕ) → (Spot → ℕ) → Type 0) (keeps_small : (a b : State) (w : List ℕ) → Numbers a → step_of l.code a ≡ Moves w b → Numbers b)
    (opens : (p b : ℕ) (V : ℕ → ℕ) (c : Spot → ℕ) → Begins p b V c → Ready l Begins p (block_of (proc_of l.procs p) b) b 0 (block_of (proc_of l.procs p) b).body V c) where
  abbrev On : ℕ → ℕ → ℕ → World → Area → State → Type 0
  On low slots k w s a = Here l.code keeps_small l.frame low slots k w s a

  -- where procedures' code lies
  abbrev pub address : ℕ → ℕ
  address p = address_of (l.entry p)

  module _ (f : Frame) (fs : List Frame) (w : World) (a : State) (e : Running l Begins keeps_small f fs w a) (copies : List Copy) (op : Operation) (named : List ℕ) (cells : List Cell) (rest : rest_of l.procs f ≡ cell_of copies op named ∷ cells) (few : least (procedures l.procs) (In f.proc f.block f.at) ≤ 1) where
    abbrev cell : Cell
    cell = cell_of copies op named

    abbrev pr : Placed
    pr = proc_of l.procs f.proc

    abbrev bl : Block
    bl = block_of pr f.block

    abbrev k : ℕ
    k = l.place f.proc f.block f.at

    abbrev slots : ℕ
    slots = slots_of pr

    abbrev here : Spot → ℕ
    here = content pr e.stack e.low a.registers

    abbrev copying : ℕ
    copying = length (copies_words pr copies)

    abbrev own : List Instr
    own = own_words l.entry (start l) slots (k + copying) op named

    abbrev rd : ℕ
    rd = def_register named op

    abbrev ready : Type 0
    ready = CellReady l Begins f.proc f.block f.at cell f.values here (λ U t. Ready l Begins f.proc bl f.block (suc f.at) cells U t)

    abbrev Goal : Step Flow Stop → Type 0
    Goal st = Carry l Begins keeps_small opens (In f.proc f.block f.at) a st

    abbrev with : List Area → ℕ → ℕ → List ℕ → World
    with m p q input = record w { memory = m; next = p; free = q; input = input }

    module _ (r : ready) where
      words_are : words l Begins (In f.proc f.block f.at) ≡ places_from k (copying + length own)
      words_are = ap (places_from k) r.width

      parts : StandAll l.code k (copies_words pr copies) × StandAll l.code (k + copying) own
      parts = stand_append l.code (copies_words pr copies) own k r.stands

      co : Copied pr e.fits l.code keeps_small l.frame e.low w k copying e.stack a (all_copied copies here)
      co = copies_do pr e.fits l.code keeps_small l.frame e.low w copies k e.stack a r.named parts.0 e.at

      abbrev mid : State
      mid = co.after

      abbrev there : Spot → ℕ
      there = content pr co.stack e.low mid.registers

      same_content : there ≡ all_copied copies here
      same_content = λ i q. co.is q i

      behind_is : l.place f.proc f.block (suc f.at) ≡ k + copying + length own
      behind_is = r.behind ∙ ap (λ n. k + n) r.width ∙ (omega arith)

      above_still : Above l.frame co.stack (e.low + 8 * slots) f.args
      above_still = above_stays l.frame e.stack co.stack (e.low + 8 * slots) f.args (λ q le. co.outside q (inr le)) e.above

      link_still : held co.stack (e.low + 8 * pr.outs) ≡ address_of e.ret
      link_still = co.outside (e.low + 8 * pr.outs) (inl refl) ∙ e.link

      -- what the words of the operation did
      record Done (x : ℕ) (wrote : List ℕ) (m : List Area) (p q : ℕ) (input : List ℕ) : Type 0 where
        pub after : State
        pub places : List ℕ
        pub walk : Walks l.code mid places wrote after
        pub within : Within (places_from (k + copying) (length own)) places
        pub some : 0 < weigh (λ z. 1) places
        pub at : On e.low slots (k + copying + length own) (with m p q input) co.stack after
        pub spots : After op rd x there (content pr co.stack e.low after.registers)

      finishes : (x : ℕ) (wrote : List ℕ) (m : List Area) (p q : ℕ) (input : List ℕ) → Done x wrote m p q input → Goal (Moves wrote (Runs (behind f op.def x) fs (with m p q input)))
      finishes x wrote m p q input d =
          let now = content pr co.stack e.low d.after.registers in
          let cs : rest_of l.procs (behind f op.def x) ≡ cells = drop_next bl.body f.at cell cells rest in
          let go = r.goes x now (subst (λ (c : Spot → ℕ). After op rd x c now) same_content d.spots) in
          let running : Running l Begins keeps_small (behind f op.def x) fs (with m p q input) d.after = record {
            stack = co.stack;
            low = e.low;
            ret = e.ret;
            at = subst (λ n. On e.low slots n (with m p q input) co.stack d.after) (sym behind_is) d.at;
            fits = e.fits;
            frame = e.frame;
            cells = e.cells;
            ready = subst (λ (ys : List Cell). Ready l Begins f.proc bl f.block (suc f.at) ys (define op.def x f.values) now) (sym cs) go;
            link = link_still;
            near = e.near;
            callers = callers_stay l Begins w.body e.stack co.stack fs (e.low + 8 * slots) (w.calls + counts l Begins pr) (w.cells + pr.cells) e.ret (λ q le. co.outside q (inr le)) e.callers;
            room = e.room;
            above = above_still;
            standing = e.standing;
          } in
          let way = walks-append co.passed.walk d.walk in record {
            after = d.after;
            passed = places_from k copying ++ d.places;
            walk = way.walk;
            similar = running;
            within = λ h. let x = ap (weigh h) words_are in let y = ap (weigh h) (places_from-append k copying (length own)) in let z = d.within h in
                omega (arith, x, y, z, weigh-append h (places_from k copying) d.places, weigh-append h (places_from k copying) (places_from (k + copying) (length own)));
            enough = let x = weigh-append (λ q. 1) (places_from k copying) d.places in let y = d.some in omega (arith, few, x, y);
          }

      -- BRK in its words
      stops : (n place : ℕ) → Stops l.code (k + copying) (length own) mid (why.Broke n place) → Goal (Traps (Kind n f.proc))
      stops n place s =
          let i = r.inside.from in let j = r.inside.to in let w' = r.width in
          carry_stops l Begins keeps_small opens (In f.proc f.block f.at) f.proc k (copying + length own) n place a words_are r.inside.known i (omega (arith, j, w')) (stops_behind l.code k copying (length own) a mid (why.Broke n place) (way_of l.code keeps_small l.frame e.low slots k copying w co.stack a mid co.passed) s)

      in_register : (n x : ℕ) → n < 16 → all_copied copies here (reg n) ≡ x → mid.registers n ≡ x
      in_register n x small h = sym (reg_content pr co.stack e.low mid.registers n small) ∙ co.is (reg n) ∙ h

      -- the i-th number that is read, in its register
      number_read : is_call op.code ≡ false → (i : ℕ) → i < length op.uses → mid.registers (get_or named i 0) ≡ get_or (map f.values op.uses) i 0
      number_read other i few_uses =
          let spots : use_spots op named ≡ map reg (take (length op.uses) named) = ap (λ (b : Bool). cond b (cond (is_aimed op.code) (target ∷ argument_spots 0 (drop 1 op.uses)) (argument_spots 0 op.uses)) (map reg (take (length op.uses) named))) other in
          let n = length_mapped f.values op.uses in
          in_register (get_or named i 0) (get_or (map f.values op.uses) i 0) (r.fits.registers i) (in_registers (all_copied copies here) (length op.uses) named (map f.values op.uses) (ap (map (all_copied copies here)) (sym spots) ∙ r.reads) i (omega (arith, n, few_uses)))

      -- the words' way has no writing
      quiet_done : (x : ℕ) (m : List Area) (p q : ℕ) (input : List ℕ) (t : State) → 0 < length own → Way l.code (k + copying) (length own) mid t → On e.low slots (k + copying + length own) (with m p q input) co.stack t → After op rd x there (content pr co.stack e.low t.registers) → Done x [] m p q input
      quiet_done x m p q input t some way at spots = record { after = t; places = way.places; walk = way.walk; within = way.within; some = way.some some; at = at; spots = spots }

      -- one word that writes
      one_done : (x : ℕ) (wrote : List ℕ) (input : List ℕ) (t : State) (i : Instr) → length own ≡ 1 → StandAll l.code (k + copying) (i ∷ []) → effect i mid ≡ Moves wrote t → t.pc ≡ add64 mid.pc 4 → t.sp ≡ mid.sp → t.memory ≡ mid.memory → t.input ≡ input → Fixed w t.registers → After op rd x there (content pr co.stack e.low t.registers) → Done x wrote w.memory w.next w.free input
      one_done x wrote input t i one st does pc sp memory is_input fixed spots =
          let k' = k + copying in
          let step = walks-one k' st.1 mid co.passed.at.pc does in
          let n : k' + 1 ≡ k' + length own = ap (λ j. k' + j) (sym one) in
          let row : (h : ℕ → ℕ) → weigh h (places_from k' (length own)) ≡ h k' + 0 = λ h. ap (λ j. weigh h (places_from k' j)) one in
          record {
            after = t;
            places = k' ∷ [];
            walk = step;
            within = λ h. let y = row h in omega (arith, y);
            some = omega arith;
            at = subst (λ j. On e.low slots j (with w.memory w.next w.free input) co.stack t) n (record {
              pc = pc ∙ ap (λ (n : ℕ). add64 n 4) co.passed.at.pc ∙ next_word k' st.0;
              sp = sp ∙ co.passed.at.sp;
              memory = subst (λ (m : List Area). Memories w.memory co.stack m) (sym memory) co.passed.at.memory;
              fixed = record { calls = fixed.calls; cells = fixed.cells; local = fixed.local; globals = fixed.globals; next = fixed.next; free = fixed.free };
              input = is_input;
              space = co.passed.at.space;
              small = keeps_small mid t wrote co.passed.at.small (step-at k' st.1 mid co.passed.at.pc ∙ does);
            });
            spots = spots;
          }

      homes_kept : (t : State) (v : ℕ) → content pr co.stack e.low t.registers (home v) ≡ there (home v)
      homes_kept t v = home_content l Begins pr co.stack e.low t.registers mid.registers v

      -- memory alone is written, by one word
      stored_done : (m : List Area) (t : List Area) (i : Instr) → length own ≡ 1 → StandAll l.code (k + copying) (i ∷ []) → Memories m co.stack t → effect i mid ≡ Moves [] (record mid { pc = add64 mid.pc 4; memory = t }) → After op rd 0 there there → Done 0 [] m w.next w.free w.input
      stored_done m t i one st ms does spots =
          let k' = k + copying in
          let after : State = record mid { pc = add64 mid.pc 4; memory = t } in
          let n : k' + 1 ≡ k' + length own = ap (λ j. k' + j) (sym one) in
          let way : Way l.code k' 1 mid after = way_one l.code k' 0 mid after (walks-one k' st.1 mid co.passed.at.pc does) in
          let at : On e.low slots (k' + 1) (with m w.next w.free w.input) co.stack after = record {
            pc = ap (λ (n : ℕ). add64 n 4) co.passed.at.pc ∙ next_word k' st.0;
            sp = co.passed.at.sp;
            memory = ms;
            fixed = record { calls = co.passed.at.fixed.calls; cells = co.passed.at.fixed.cells; local = co.passed.at.fixed.local; globals = co.passed.at.fixed.globals; next = co.passed.at.fixed.next; free = co.passed.at.fixed.free };
            input = co.passed.at.input;
            space = co.passed.at.space;
            small = keeps_small mid after [] co.passed.at.small (step-at k' st.1 mid co.passed.at.pc ∙ does);
          } in
          quiet_done 0 m w.next w.free w.input after (omega (arith, one)) (way_is l.code k' 1 (length own) mid after (sym one) way) (subst (λ j. On e.low slots j (with m w.next w.free w.input) co.stack after) n at) spots

      ---- Calls

      -- the machine has gone to another place, with the address behind in X30
      abbrev gone : ℕ → State
      gone place = record mid { pc = address_of place; registers = put mid.registers 30 (add64 mid.pc 4) }

      module _ (place : ℕ) (i : Instr) (one : length own ≡ 1) (st : StandAll l.code (k + copying) (i ∷ [])) (does : effect i mid ≡ Moves [] (gone place)) where
        abbrev k1 : ℕ
        k1 = k + copying

        back_is : l.place f.proc f.block (suc f.at) ≡ k1 + 1
        back_is = behind_is ∙ ap (λ j. k1 + j) one

        link_is : (gone place).registers 30 ≡ address_of (l.place f.proc f.block (suc f.at))
        link_is = ap (λ (z : ℕ). add64 z 4) co.passed.at.pc ∙ next_word k1 st.0 ∙ ap address_of (sym back_is)

        near : l.place f.proc f.block (suc f.at) ≤ 2 ^ 18
        near = let b = st.0 in let z = back_is in omega (arith, b, z)

        there_at : (wide : ℕ) → e.low + 8 * wide ≤ frames_base + frames_bytes l.frame → On e.low wide place w co.stack (gone place)
        there_at wide top = record {
          pc = refl;
          sp = co.passed.at.sp;
          memory = co.passed.at.memory;
          fixed = record { calls = co.passed.at.fixed.calls; cells = co.passed.at.fixed.cells; local = co.passed.at.fixed.local; globals = co.passed.at.fixed.globals; next = co.passed.at.fixed.next; free = co.passed.at.fixed.free };
          input = co.passed.at.input;
          space = (let s = co.passed.at.space in record { base = s.base; size = s.size; small = s.small; bottom = s.bottom; top = top });
          small = keeps_small mid (gone place) [] co.passed.at.small (step-at k1 st.1 mid co.passed.at.pc ∙ does);
        }

        way_there : Way l.code k (copying + 1) a (gone place)
        way_there = way_append l.code k copying 1 a mid (gone place) (way_of l.code keeps_small l.frame e.low slots k copying w co.stack a mid co.passed) (way_one l.code k1 0 mid (gone place) (walks-one k1 st.1 mid co.passed.at.pc does))

        row_is : words l Begins (In f.proc f.block f.at) ≡ places_from k (copying + 1)
        row_is = words_are ∙ ap (λ j. places_from k (copying + j)) one

        callers_still : rel.Callers l Begins w.body co.stack (e.low + 8 * slots) (w.calls + counts l Begins pr) (w.cells + pr.cells) e.ret fs
        callers_still = callers_stay l Begins w.body e.stack co.stack fs (e.low + 8 * slots) (w.calls + counts l Begins pr) (w.cells + pr.cells) e.ret (λ z le. co.outside z (inr le)) e.callers

        waits : ((x : ℕ) (t : Spot → ℕ) → Homes (all_copied copies here) t × Answer op.def x t → After op rd x (all_copied copies here) t) → Waits l Begins co.stack e.low (l.place f.proc f.block (suc f.at)) f (rest_of l.procs f)
        waits after =
            let resumes : Resumes l Begins co.stack e.low (l.place f.proc f.block (suc f.at)) f cell cells = record {
              fits = e.fits;
              frame = e.frame;
              few = e.cells;
              place = refl;
              goes = λ y t homes answer. r.goes y t (after y t ((λ u. homes u ∙ home_content l Begins pr co.stack e.low (λ z. 0) mid.registers u ∙ co.is (home u)), answer));
            } in
            subst (λ (ys : List Cell). Waits l Begins co.stack e.low (l.place f.proc f.block (suc f.at)) f ys) (sym rest) resumes

        -- a routine begins
        works : (n : Work) → part_place (start l) (part n) ≡ place → WorkHolds n (gone place).registers → ((x : ℕ) (t : Spot → ℕ) → Homes (all_copied copies here) t × Answer op.def x t → After op rd x (all_copied copies here) t) → Goal (Moves [] (Works n f fs w))
        works n is holds after =
            let working : Working l Begins keeps_small n f fs w (gone place) = record {
              stack = co.stack;
              low = e.low;
              ret = e.ret;
              back = l.place f.proc f.block (suc f.at);
              at = subst (λ j. On e.low slots j w co.stack (gone place)) (sym is) (there_at slots co.passed.at.space.top);
              holds = holds;
              link_register = link_is;
              waits = waits after;
              link = link_still;
              near = e.near;
              callers = callers_still;
              room = e.room;
              above = above_still;
              standing = e.standing;
            } in
            carry_way l Begins keeps_small opens (In f.proc f.block f.at) k (copying + 1) a (gone place) (Works n f fs w) row_is way_there (omega arith) few working

        -- a procedure is entered
        enters : (q : ℕ) (args : List ℕ) → l.entry q ≡ place → may_call l.procs q args ≡ true → length args ≤ 4 + pr.outs → ArgsIn (all_copied copies here) args → ((x : ℕ) (t : Spot → ℕ) → Homes (all_copied copies here) t × Answer op.def x t → After op rd x (all_copied copies here) t) → Goal (Moves [] (Enters q args (f ∷ fs) w))
        enters q args is may few_args in_place after =
            let counted = and_left (proc_of l.procs q).counted (nat_le (length (params_of (proc_of l.procs q))) (length args)) (and_right (nat_lt q (length l.procs)) ((proc_of l.procs q).counted && nat_le (length (params_of (proc_of l.procs q))) (length args)) may) in
            let enough' = and_right (proc_of l.procs q).counted (nat_le (length (params_of (proc_of l.procs q))) (length args)) (and_right (nat_lt q (length l.procs)) ((proc_of l.procs q).counted && nat_le (length (params_of (proc_of l.procs q))) (length args)) may) in
            let known : q < length l.procs = (let h = and_left (nat_lt q (length l.procs)) ((proc_of l.procs q).counted && nat_le (length (params_of (proc_of l.procs q))) (length args)) may in grind (arith, nat_tests, h)) in
            let top = co.passed.at.space.top in
            let enterable = e.standing.enterable q known in
            let entering : Entering l Begins keeps_small q args (f ∷ fs) w (gone place) = record {
              stack = co.stack;
              low = e.low;
              ret = l.place f.proc f.block (suc f.at);
              at = subst (λ j. On e.low 0 j w co.stack (gone place)) (sym is) (there_at 0 (omega (arith, top)));
              enterable = enterable;
              enough = grind (arith, nat_tests, enough');
              given = λ i u v. put_other mid.registers 30 (add64 mid.pc 4) i (λ z. omega (arith, z, u)) ∙ sym (reg_content pr co.stack e.low mid.registers i (omega (arith, u))) ∙ co.is (reg i) ∙ ap (all_copied copies here) (low_arg i u) ∙ in_place i v;
              above = record { held = λ i u. sym (out_content i u) ∙ co.is (out i) ∙ ap (all_copied copies here) (high_arg i) ∙ in_place (i + 4) u; room = omega (arith, top, few_args) };
              link = link_is;
              near = near;
              callers = (
                waits after,
                e.room,
                top,
                e.ret,
                link_still,
                e.near,
                above_still,
                callers_still,
              );
              room = subst (λ (b : Bool). frames_base + (w.calls + (if b then 0 else 1)) * l.frame ≤ e.low) (sym counted) (let z : w.calls + 0 ≡ w.calls = omega arith in subst (λ (j : ℕ). frames_base + j * l.frame ≤ e.low) (sym z) e.room);
              standing = e.standing;
            } in
            carry_way l Begins keeps_small opens (In f.proc f.block f.at) k (copying + 1) a (gone place) (Enters q args (f ∷ fs) w) row_is way_there (omega arith) few entering
          where
            low_arg : (i : ℕ) → i < 4 → reg i ≡ argument_spot i
            low_arg zero u = refl
            low_arg (suc zero) u = refl
            low_arg (suc (suc zero)) u = refl
            low_arg (suc (suc (suc zero))) u = refl
            low_arg (suc (suc (suc (suc i)))) u = absurd (omega (arith, u))

            high_arg : (i : ℕ) → out i ≡ argument_spot (i + 4)
            high_arg i = let z : i + 4 ≡ suc (suc (suc (suc i))) = omega arith in sym (ap argument_spot z)

            out_content : (i : ℕ) → i + 4 < length args → content pr co.stack e.low mid.registers (out i) ≡ held co.stack (e.low + 8 * i)
            out_content i u = by_test (nat_lt i pr.outs) (grind (arith, nat_tests, u, few_args))
              where
                by_test : (b : Bool) → b ≡ true → from_where co.stack e.low mid.registers (if b then Some (InSlot i) else None) ≡ held co.stack (e.low + 8 * i)
                by_test true z = refl
                by_test false z = cc

        -- what is called is entered, or nothing is called
        calls_proc : (q : ℕ) (args : List ℕ) → l.entry q ≡ place → length args ≤ 4 + pr.outs → ArgsIn (all_copied copies here) args → ((x : ℕ) (t : Spot → ℕ) → Homes (all_copied copies here) t × Answer op.def x t → After op rd x (all_copied copies here) t)
            → ((z : ℕ) → called l.procs (Some q) args f fs w ≡ Traps (Fault z) → ⊥) → Goal (called l.procs (Some q) args f fs w)
        calls_proc q args is few_args in_place after safe = by_test (may_call l.procs q args) refl safe
          where
            by_test : (b : Bool) → may_call l.procs q args ≡ b → ((z : ℕ) → (if b then Moves [] (Enters q args (f ∷ fs) w) else Traps (Fault q)) ≡ Traps (Fault z) → ⊥) → Goal (if b then Moves [] (Enters q args (f ∷ fs) w) else Traps (Fault q))
            by_test true h safe = enters q args is h few_args in_place after
            by_test false h safe = absurd (safe q refl)

      reaches : (place : ℕ) → place < 2 ^ 18 → k + copying < 2 ^ 18 → effect (i.Bl (branch_field 26 (address_of (k + copying)) (address_of place))) mid ≡ Moves [] (gone place)
      reaches place u v =
          ap (λ (z : ℕ). calls mid (branch_to 26 z (branch_field 26 (address_of (k + copying)) (address_of place)))) co.passed.at.pc
          ∙ ap (calls mid) (branch_26_reaches (address_of (k + copying)) (address_of place) (omega (arith, v)) (omega (arith, u)) (omega arith) (omega arith) (omega (arith, u)) (omega (arith, v)))

  ---- One operation after the other

  -- an operation of this code
  abbrev pub mk : Code → List ℕ → Option ℕ → Operation
  mk code us v = record { code = code; uses = us; def = v }

  module _ (f : Frame) (fs : List Frame) (w : World) (a : State) (e : Running l Begins keeps_small f fs w a) (copies : List Copy) (named : List ℕ) (cells : List Cell) (few : least (procedures l.procs) (In f.proc f.block f.at) ≤ 1) where
    abbrev Rest : Operation → Type 0
    Rest op = rest_of l.procs f ≡ cell_of copies op named ∷ cells

    abbrev Set : (op : Operation) → Rest op → Type 0
    Set op rest = ready f fs w a e copies op named cells rest few

    abbrev Came : Step Flow Stop → Type 0
    Came s = Carry l Begins keeps_small opens (In f.proc f.block f.at) a s

    abbrev Safe : Step Flow Stop → Type 0
    Safe s = (z : ℕ) → s ≡ Traps (Fault z) → ⊥

    abbrev slot_count : ℕ
    slot_count = slots_of (proc_of l.procs f.proc)

    -- what is shown of each: the step that its effect makes is carried out, if it is no fault
    abbrev Does_so : Code → List ℕ → Option ℕ → Type 0
    Does_so code us v = Safe (operate l.procs (mk code us v) f fs w (effect_of address (length l.procs) f.args w code (map f.values us))) → Came (operate l.procs (mk code us v) f fs w (effect_of address (length l.procs) f.args w code (map f.values us)))

    module _ (code : Code) (us : List ℕ) (v : Option ℕ) (value : is_value code ≡ true) (rest : Rest (mk code us v)) (r : Set (mk code us v) rest) where
      abbrev c : Copied (proc_of l.procs f.proc) e.fits l.code keeps_small l.frame e.low w (l.place f.proc f.block f.at) (length (copies_words (proc_of l.procs f.proc) copies)) e.stack a (all_copied copies (content (proc_of l.procs f.proc) e.stack e.low a.registers))
      c = co f fs w a e copies (mk code us v) named cells rest few r

      abbrev kc : ℕ
      kc = l.place f.proc f.block f.at + length (copies_words (proc_of l.procs f.proc) copies)

      abbrev vd : ℕ
      vd = get_or named (length us) 0

      abbrev nc : ℕ
      nc = length (own_words l.entry (start l) slot_count kc (mk code us v) named)

      abbrev numbers : List ℕ
      numbers = map f.values us

      abbrev Out : Bool → Effect → Type 0
      Out b s = Outcome l.code keeps_small l.frame e.low slot_count w c.stack b kc nc vd c.after s

      counts_fit : (length us ≡ uses code) × (is_some v ≡ valued code)
      counts_fit = fits_value r.args code (length us) (is_some v) value r.fits.fits

      -- the numbers that it reads stand in its registers
      operands : (n : ℕ) → length us ≡ n → Operands l.code keeps_small l.frame e.low slot_count w c.stack l.entry (start l) (length l.procs) (get_or numbers 3 0) numbers f.args (above_still f fs w a e copies (mk code us v) named cells rest few r) kc c.after c.passed.at (get_or named 0 0) (get_or named 1 0) (get_or named 2 0) vd (r.fits.registers (length us)) n (get_or numbers 0 0) (get_or numbers 1 0) (get_or numbers 2 0)
      operands zero n = tt
      operands (suc zero) n = one 0 (omega (arith, n))
        where
          one : (i : ℕ) → i < length us → Operand (get_or named i 0) (get_or numbers i 0) c.after
          one i l' = (r.fits.registers i, number_read f fs w a e copies (mk code us v) named cells rest few r (not_call code value) i l')
      operands (suc (suc zero)) n = (one 0 (omega (arith, n)), one 1 (omega (arith, n)))
        where
          one : (i : ℕ) → i < length us → Operand (get_or named i 0) (get_or numbers i 0) c.after
          one i l' = (r.fits.registers i, number_read f fs w a e copies (mk code us v) named cells rest few r (not_call code value) i l')
      operands (suc (suc (suc m))) n = (one 0 (omega (arith, n)), one 1 (omega (arith, n)), one 2 (omega (arith, n)))
        where
          one : (i : ℕ) → i < length us → Operand (get_or named i 0) (get_or numbers i 0) c.after
          one i l' = (r.fits.registers i, number_read f fs w a e copies (mk code us v) named cells rest few r (not_call code value) i l')

      some_own : 0 < nc
      some_own = some_words l.entry (start l) slot_count kc code (get_or named 0 0) (get_or named 1 0) (get_or named 2 0) vd

      by_outcome : (b : Bool) → valued code ≡ b → (s : Effect) → Out b s → Safe (operate l.procs (mk code us v) f fs w s) → Came (operate l.procs (mk code us v) f fs w s)
      by_outcome true i (Gives q) o safe =
          let now = content (proc_of l.procs f.proc) c.stack e.low o.after.registers in
          let earlier = content (proc_of l.procs f.proc) c.stack e.low c.after.registers in
          let given : rel.Gives vd q earlier now = (reg_content (proc_of l.procs f.proc) c.stack e.low o.after.registers vd (r.fits.registers (length us)) ∙ o.there, others_given (proc_of l.procs f.proc) c.stack e.low c.after.registers o.after.registers vd o.quiet.others (r.fits.registers (length us))) in
          let after : After (mk code us v) vd q earlier now = subst (λ b. AfterBy b v vd q earlier now) (sym (not_call code value)) (rel.gives_to v vd q earlier now (counts_fit.1 ∙ i) given) in
          finishes f fs w a e copies (mk code us v) named cells rest few r q [] w.memory w.next w.free w.input (quiet_done f fs w a e copies (mk code us v) named cells rest few r q w.memory w.next w.free w.input o.after some_own o.quiet.way o.quiet.at after)
      by_outcome false i (Gives q) o safe =
          let now = content (proc_of l.procs f.proc) c.stack e.low o.after.registers in
          let earlier = content (proc_of l.procs f.proc) c.stack e.low c.after.registers in
          let given : Same earlier now = others_same (proc_of l.procs f.proc) c.stack e.low c.after.registers o.after.registers 16 o.quiet.others refl in
          let after : After (mk code us v) vd q earlier now = subst (λ b. AfterBy b v vd q earlier now) (sym (not_call code value)) (rel.same_to v vd q earlier now (counts_fit.1 ∙ i) given) in
          finishes f fs w a e copies (mk code us v) named cells rest few r q [] w.memory w.next w.free w.input (quiet_done f fs w a e copies (mk code us v) named cells rest few r q w.memory w.next w.free w.input o.after some_own o.quiet.way o.quiet.at after)
      by_outcome true i (Fails q) o safe = stops f fs w a e copies (mk code us v) named cells rest few r q o.0 o.1
      by_outcome false i (Fails q) o safe = stops f fs w a e copies (mk code us v) named cells rest few r q o.0 o.1
      by_outcome true i (Faults q) o safe = absurd (safe q refl)
      by_outcome false i (Faults q) o safe = absurd (safe q refl)
      by_outcome true i (Does bytes after x) o safe = absurd o
      by_outcome false i (Does bytes after x) o safe = absurd o
      by_outcome true i (Calls p args) o safe = absurd o
      by_outcome false i (Calls p args) o safe = absurd o
      by_outcome true i (effects.Begins work) o safe = absurd o
      by_outcome false i (effects.Begins work) o safe = absurd o

      compute_carries : Does_so code us v
      compute_carries safe =
          by_outcome (valued code) refl (effect_of address (length l.procs) f.args w code numbers)
          (value_does l.code keeps_small l.frame e.low slot_count w c.stack l.entry (start l) (length l.procs) (get_or numbers 3 0) numbers f.args (above_still f fs w a e copies (mk code us v) named cells rest few r) kc c.after c.passed.at (get_or named 0 0) (get_or named 1 0) (get_or named 2 0) vd (r.fits.registers (length us)) code (get_or numbers 0 0) (get_or numbers 1 0) (get_or numbers 2 0) value
          (fits_number r.args l.entry e.standing.entries code (length us) (is_some v) r.fits.fits r.fits.number)
          (operands (uses code) counts_fit.0) (parts f fs w a e copies (mk code us v) named cells rest few r).1) safe

    ---- Stores

    -- the address and the number in their registers
    number_in : (code : Code) (us : List ℕ) (v : Option ℕ) (rest : Rest (mk code us v)) (r : Set (mk code us v) rest) → is_call code ≡ false → (i : ℕ) → i < length us → Operand (get_or named i 0) (get_or (map f.values us) i 0) (mid f fs w a e copies (mk code us v) named cells rest few r)
    number_in code us v rest r other i l' = (r.fits.registers i, number_read f fs w a e copies (mk code us v) named cells rest few r other i l')

    store_carries : (us : List ℕ) (v : Option ℕ) (rest : Rest (mk kinds.Store us v)) → Set (mk kinds.Store us v) rest → Does_so kinds.Store us v
    store_carries us v rest r safe = by_stored (store8 w.memory (get_or (map f.values us) 0 0) (get_or (map f.values us) 1 0)) refl safe
      where
        by_stored : (o : Option (List Area)) → store8 w.memory (get_or (map f.values us) 0 0) (get_or (map f.values us) 1 0) ≡ o → Safe (operate l.procs (mk kinds.Store us v) f fs w (stored w (get_or (map f.values us) 0 0) o)) → Came (operate l.procs (mk kinds.Store us v) f fs w (stored w (get_or (map f.values us) 0 0) o))
        by_stored None i' safe = absurd (safe (get_or (map f.values us) 0 0) refl)
        by_stored (Some t) i' safe =
            let two = acts_is 2 (length us) (is_some v) r.fits.fits in
            let n = two.0 in
            let c = co f fs w a e copies (mk kinds.Store us v) named cells rest few r in
            let m = c.after in
            let oa = number_in kinds.Store us v rest r refl 0 (omega (arith, n)) in
            let ob = number_in kinds.Store us v rest r refl 1 (omega (arith, n)) in
            let small_x : (get_or (map f.values us) 0 0) < 2 ^ 64 = small_of (get_or named 0 0) (get_or (map f.values us) 0 0) m c.passed.at.small oa in
            let too = store_flows w.memory c.stack m.memory c.passed.at.memory (get_or (map f.values us) 0 0) (get_or (map f.values us) 1 0) t i' in
            let there_now = content (proc_of l.procs f.proc) c.stack e.low m.registers in
            finishes f fs w a e copies (mk kinds.Store us v) named cells rest few r 0 [] t w.next w.free w.input (stored_done f fs w a e copies (mk kinds.Store us v) named cells rest few r t too.0 (i.Str (get_or named 1 0) (get_or named 0 0) 0) refl (parts f fs w a e copies (mk kinds.Store us v) named cells rest few r).1 too.2
            (ap₂ (λ (z n : ℕ). stores m (add64 z (8 * 0)) (store8 m.memory (add64 z (8 * 0)) n)) (reads_sp (get_or named 0 0) (get_or (map f.values us) 0 0) m oa) (reads (get_or named 1 0) (get_or (map f.values us) 1 0) m ob) ∙ ap (λ z. stores m z (store8 m.memory z (get_or (map f.values us) 1 0))) (add64_zero (get_or (map f.values us) 0 0) small_x) ∙ ap (stores m (get_or (map f.values us) 0 0)) too.1) (rel.same_to v (get_or named (length us) 0) 0 there_now there_now two.1 (λ q z. refl)))

    store_byte_carries : (us : List ℕ) (v : Option ℕ) (rest : Rest (mk kinds.StoreByte us v)) → Set (mk kinds.StoreByte us v) rest → Does_so kinds.StoreByte us v
    store_byte_carries us v rest r safe = by_stored (store1 w.memory (get_or (map f.values us) 0 0) (get_or (map f.values us) 1 0)) refl safe
      where
        by_stored : (o : Option (List Area)) → store1 w.memory (get_or (map f.values us) 0 0) (get_or (map f.values us) 1 0) ≡ o → Safe (operate l.procs (mk kinds.StoreByte us v) f fs w (stored w (get_or (map f.values us) 0 0) o)) → Came (operate l.procs (mk kinds.StoreByte us v) f fs w (stored w (get_or (map f.values us) 0 0) o))
        by_stored None i' safe = absurd (safe (get_or (map f.values us) 0 0) refl)
        by_stored (Some t) i' safe =
            let two = acts_is 2 (length us) (is_some v) r.fits.fits in
            let n = two.0 in
            let c = co f fs w a e copies (mk kinds.StoreByte us v) named cells rest few r in
            let m = c.after in
            let oa = number_in kinds.StoreByte us v rest r refl 0 (omega (arith, n)) in
            let ob = number_in kinds.StoreByte us v rest r refl 1 (omega (arith, n)) in
            let small_x : (get_or (map f.values us) 0 0) < 2 ^ 64 = small_of (get_or named 0 0) (get_or (map f.values us) 0 0) m c.passed.at.small oa in
            let too = store_flows_byte w.memory c.stack m.memory c.passed.at.memory (get_or (map f.values us) 0 0) (get_or (map f.values us) 1 0) t i' in
            let there_now = content (proc_of l.procs f.proc) c.stack e.low m.registers in
            finishes f fs w a e copies (mk kinds.StoreByte us v) named cells rest few r 0 [] t w.next w.free w.input (stored_done f fs w a e copies (mk kinds.StoreByte us v) named cells rest few r t too.0 (i.Strb (get_or named 1 0) (get_or named 0 0) 0) refl (parts f fs w a e copies (mk kinds.StoreByte us v) named cells rest few r).1 too.2
            (ap₂ (λ (z n : ℕ). stores m (add64 z 0) (store1 m.memory (add64 z 0) n)) (reads_sp (get_or named 0 0) (get_or (map f.values us) 0 0) m oa) (reads (get_or named 1 0) (get_or (map f.values us) 1 0) m ob) ∙ ap (λ z. stores m z (store1 m.memory z (get_or (map f.values us) 1 0))) (add64_zero (get_or (map f.values us) 0 0) small_x) ∙ ap (stores m (get_or (map f.values us) 0 0)) too.1) (rel.same_to v (get_or named (length us) 0) 0 there_now there_now two.1 (λ q z. refl)))

    ---- Services

    -- the i-th argument of a call in its register, where its spot is one
    argument_in : (code : Code) (us : List ℕ) (v : Option ℕ) (rest : Rest (mk code us v)) (r : Set (mk code us v) rest) → use_spots (mk code us v) named ≡ argument_spots 0 us → (i n : ℕ) → argument_spot i ≡ reg n → n < 16 → i < length us → (mid f fs w a e copies (mk code us v) named cells rest few r).registers n ≡ get_or (map f.values us) i 0
    argument_in code us v rest r spots i n is small l' =
        let here' = all_copied copies (here f fs w a e copies (mk code us v) named cells rest few) in
        let count = length_mapped f.values us in
        in_register f fs w a e copies (mk code us v) named cells rest few r n (get_or (map f.values us) i 0) small
        (ap here' (sym is) ∙ args_in here' f.values us (ap (map here') (sym spots) ∙ r.reads) i (omega (arith, count, l')))

    svc_byte_carries : (us : List ℕ) (v : Option ℕ) (rest : Rest (mk (kinds.Svc 1) us v)) → Set (mk (kinds.Svc 1) us v) rest → Does_so (kinds.Svc 1) us v
    svc_byte_carries us v rest r safe =
        let op = mk (kinds.Svc 1) us v in
        let one = acts_is 1 (length us) (is_some v) r.fits.fits in
        let n = one.0 in
        let c = co f fs w a e copies op named cells rest few r in
        let m = c.after in
        let x = get_or (map f.values us) 0 0 in
        let t : State = record m { pc = add64 m.pc 4 } in
        let arg : m.registers 0 ≡ x = argument_in (kinds.Svc 1) us v rest r refl 0 0 refl (lit< tt) (omega (arith, n)) in
        finishes f fs w a e copies op named cells rest few r 0 (x % 256 ∷ []) w.memory w.next w.free w.input (one_done f fs w a e copies op named cells rest few r 0 (x % 256 ∷ []) w.input t (i.Svc 1) refl (parts f fs w a e copies op named cells rest few r).1
        (ap (λ (n : ℕ). writes m (n % 256 ∷ [])) arg) refl refl refl c.passed.at.input c.passed.at.fixed ((λ u. refl), rel.no_answer v 0 (content (proc_of l.procs f.proc) c.stack e.low t.registers) one.1))

    svc_int_carries : (us : List ℕ) (v : Option ℕ) (rest : Rest (mk (kinds.Svc 2) us v)) → Set (mk (kinds.Svc 2) us v) rest → Does_so (kinds.Svc 2) us v
    svc_int_carries us v rest r safe =
        let op = mk (kinds.Svc 2) us v in
        let two = acts_is 2 (length us) (is_some v) r.fits.fits in
        let n = two.0 in
        let c = co f fs w a e copies op named cells rest few r in
        let m = c.after in
        let x = get_or (map f.values us) 0 0 in
        let y = get_or (map f.values us) 1 0 in
        let t : State = record m { pc = add64 m.pc 4 } in
        let arg : m.registers 0 ≡ x = argument_in (kinds.Svc 2) us v rest r refl 0 0 refl (lit< tt) (omega (arith, n)) in
        let arg' : m.registers 1 ≡ y = argument_in (kinds.Svc 2) us v rest r refl 1 1 refl (lit< tt) (omega (arith, n)) in
        let text = int_text x y in
        finishes f fs w a e copies op named cells rest few r 0 text w.memory w.next w.free w.input (one_done f fs w a e copies op named cells rest few r 0 text w.input t (i.Svc 2) refl (parts f fs w a e copies op named cells rest few r).1
        (ap₂ (λ (n o : ℕ). writes m (int_text n o)) arg arg') refl refl refl c.passed.at.input c.passed.at.fixed ((λ u. refl), rel.no_answer v 0 (content (proc_of l.procs f.proc) c.stack e.low t.registers) two.1))

    svc_text_carries : (us : List ℕ) (v : Option ℕ) (rest : Rest (mk (kinds.Svc 3) us v)) → Set (mk (kinds.Svc 3) us v) rest → Does_so (kinds.Svc 3) us v
    svc_text_carries us v rest r safe = by_step ((get_or (map f.values us) 2 0) == char_bytes) refl safe
      where
        by_text : ((get_or (map f.values us) 2 0) == char_bytes) ≡ true → (o : Text) → text_at w.memory char_bytes (get_or (map f.values us) 0 0) (get_or (map f.values us) 1 0) ≡ o → Safe (operate l.procs (mk (kinds.Svc 3) us v) f fs w (written w o)) → Came (operate l.procs (mk (kinds.Svc 3) us v) f fs w (written w o))
        by_text h (Outside q) i' safe = absurd (safe q refl)
        by_text h (Bytes bytes) i' safe =
            let three = acts_is 3 (length us) (is_some v) r.fits.fits in
            let n = three.0 in
            let c = co f fs w a e copies (mk (kinds.Svc 3) us v) named cells rest few r in
            let m = c.after in
            let t : State = record m { pc = add64 m.pc 4 } in
            let arg : m.registers 0 ≡ (get_or (map f.values us) 0 0) = argument_in (kinds.Svc 3) us v rest r refl 0 0 refl (lit< tt) (omega (arith, n)) in
            let arg' : m.registers 1 ≡ (get_or (map f.values us) 1 0) = argument_in (kinds.Svc 3) us v rest r refl 1 1 refl (lit< tt) (omega (arith, n)) in
            let arg2 : m.registers 2 ≡ (get_or (map f.values us) 2 0) = argument_in (kinds.Svc 3) us v rest r refl 2 2 refl (lit< tt) (omega (arith, n)) in
            let wide : (get_or (map f.values us) 2 0) ≡ char_bytes = ⊎_elim (λ t. t.1) (λ f. let wrong = f.0 in cc) (eqb_tells (get_or (map f.values us) 2 0) char_bytes) in
            let arg3 : m.registers 2 ≡ char_bytes = arg2 ∙ wide in
            let text : text_at m.memory char_bytes (get_or (map f.values us) 0 0) (get_or (map f.values us) 1 0) ≡ Bytes bytes = text_flows w.memory c.stack m.memory c.passed.at.memory char_bytes (get_or (map f.values us) 1 0) (get_or (map f.values us) 0 0) bytes i' in
            let does : service 3 m ≡ Moves bytes t =
            ap (λ (n : ℕ). if n == 1 || n == 8 then writes_text m (text_at m.memory n (m.registers 0) (m.registers 1)) else Traps (why.BadCall 3)) arg3
            ∙ ap₂ (λ (n o : ℕ). writes_text m (text_at m.memory char_bytes n o)) arg arg' ∙ ap (writes_text m) text in
            finishes f fs w a e copies (mk (kinds.Svc 3) us v) named cells rest few r 0 bytes w.memory w.next w.free w.input (one_done f fs w a e copies (mk (kinds.Svc 3) us v) named cells rest few r 0 bytes w.input t (i.Svc 3) refl (parts f fs w a e copies (mk (kinds.Svc 3) us v) named cells rest few r).1 does refl refl refl c.passed.at.input c.passed.at.fixed ((λ u. refl), rel.no_answer v 0 (content (proc_of l.procs f.proc) c.stack e.low t.registers) three.1))

        by_step : (b : Bool) → ((get_or (map f.values us) 2 0) == char_bytes) ≡ b → Safe (operate l.procs (mk (kinds.Svc 3) us v) f fs w (if b then written w (text_at w.memory char_bytes (get_or (map f.values us) 0 0) (get_or (map f.values us) 1 0)) else Faults 3)) → Came (operate l.procs (mk (kinds.Svc 3) us v) f fs w (if b then written w (text_at w.memory char_bytes (get_or (map f.values us) 0 0) (get_or (map f.values us) 1 0)) else Faults 3))
        by_step true h safe = by_text h (text_at w.memory char_bytes (get_or (map f.values us) 0 0) (get_or (map f.values us) 1 0)) refl safe
        by_step false h safe = absurd (safe 3 refl)

    svc_read_carries : (us : List ℕ) (v : Option ℕ) (rest : Rest (mk (kinds.Svc 4) us v)) → Set (mk (kinds.Svc 4) us v) rest → Does_so (kinds.Svc 4) us v
    svc_read_carries us v rest r safe =
        let op = mk (kinds.Svc 4) us v in
        let c = co f fs w a e copies op named cells rest few r in
        let m = c.after in
        let x = slice_index_or w.input 0 (2 ^ 64 - 1) in
        let t : State = record m { pc = add64 m.pc 4; registers = put m.registers 0 x; input = drop 1 w.input } in
        let does : service 4 m ≡ Moves [] t = ap (λ (xs : List ℕ). Moves [] (record m { pc = add64 m.pc 4; registers = put m.registers 0 (slice_index_or xs 0 (2 ^ 64 - 1)); input = drop 1 xs })) c.passed.at.input in
        finishes f fs w a e copies op named cells rest few r x [] w.memory w.next w.free (drop 1 w.input) (one_done f fs w a e copies op named cells rest few r x [] (drop 1 w.input) t (i.Svc 4) refl (parts f fs w a e copies op named cells rest few r).1 does refl refl refl refl (fixed_put w m.registers 0 x (inl (omega arith)) c.passed.at.fixed)
        ((λ u. home_content l Begins (proc_of l.procs f.proc) c.stack e.low (put m.registers 0 x) m.registers u), rel.answers v x (content (proc_of l.procs f.proc) c.stack e.low t.registers) (reg_content (proc_of l.procs f.proc) c.stack e.low (put m.registers 0 x) 0 (lit< tt))))

    ---- Calls

    call_carries : (q : ℕ) (us : List ℕ) (v : Option ℕ) (rest : Rest (mk (kinds.Call q) us v)) → Set (mk (kinds.Call q) us v) rest → Does_so (kinds.Call q) us v
    call_carries q us v rest r safe = by_known (may_call l.procs q (map f.values us)) refl
      where
        by_known : (b : Bool) → may_call l.procs q (map f.values us) ≡ b → Came (called l.procs (Some q) (map f.values us) f fs w)
        by_known false h = absurd (safe q (ap (λ (b : Bool). if b then Moves [] (Enters q (map f.values us) (f ∷ fs) w) else Traps (Fault q)) h))
        by_known true h =
            let st = (parts f fs w a e copies (mk (kinds.Call q) us v) named cells rest few r).1 in
            let known : q < length l.procs = (let g = and_left (nat_lt q (length l.procs)) ((proc_of l.procs q).counted && nat_le (length (params_of (proc_of l.procs q))) (length (map f.values us))) h in grind (arith, nat_tests, g)) in
            let bound = (e.standing.enterable q known).low in
            let n = length_mapped f.values us in
            let room = r.fits.slots in
            calls_proc f fs w a e copies (mk (kinds.Call q) us v) named cells rest few r (l.entry q) (i.Bl (branch_field 26 (address_of (k f fs w a e copies (mk (kinds.Call q) us v) named cells rest few + copying f fs w a e copies (mk (kinds.Call q) us v) named cells rest few)) (address_of (l.entry q)))) refl st (reaches f fs w a e copies (mk (kinds.Call q) us v) named cells rest few r (l.entry q) bound st.0) q (map f.values us) refl (omega (arith, n, room)) (args_in (all_copied copies (here f fs w a e copies (mk (kinds.Call q) us v) named cells rest few)) f.values us r.reads) (λ x t h. h) safe

    call_at_carries : (us : List ℕ) (v : Option ℕ) (rest : Rest (mk kinds.CallAt us v)) → Set (mk kinds.CallAt us v) rest → Does_so kinds.CallAt us v
    call_at_carries [] v rest r safe = let h = r.fits.fits in cc
    call_at_carries (t ∷ us) v rest r safe = by_found (code_at address (length l.procs) (f.values t)) refl safe
      where
        by_found : (o : Option ℕ) → code_at address (length l.procs) (f.values t) ≡ o → Safe (called l.procs o (map f.values us) f fs w) → Came (called l.procs o (map f.values us) f fs w)
        by_found None i' safe = absurd (safe 0 refl)
        by_found (Some q) i' safe =
            let st = (parts f fs w a e copies (mk kinds.CallAt (t ∷ us) v) named cells rest few r).1 in
            let c = co f fs w a e copies (mk kinds.CallAt (t ∷ us) v) named cells rest few r in
            let m = c.after in
            let there' = all_copied copies (here f fs w a e copies (mk kinds.CallAt (t ∷ us) v) named cells rest few) in
            let n = length_mapped f.values us in
            let room = r.fits.slots in
            let reads' = r.reads in
            let first : there' target ≡ f.values t = cc in
            let others : map there' (argument_spots 0 us) ≡ map f.values us = cc in
            let is : m.registers 25 ≡ address_of (l.entry q) = c.is target ∙ first ∙ sym (found_right address (length l.procs) (f.values t) q i') in
            calls_proc f fs w a e copies (mk kinds.CallAt (t ∷ us) v) named cells rest few r (l.entry q) (i.Blr 25) refl st (ap (calls m) is) q (map f.values us) refl (omega (arith, n, room)) (args_in there' f.values us others) (λ x t h. h) safe

    ---- The routines

    abbrev calls_routine : Operation → ℕ → Instr
    calls_routine op place = i.Bl (branch_field 26 (address_of (l.place f.proc f.block f.at + length (copies_words (proc_of l.procs f.proc) copies))) (address_of place))

    copy_carries : (us : List ℕ) (v : Option ℕ) (rest : Rest (mk kinds.Copy us v)) → Set (mk kinds.Copy us v) rest → Does_so kinds.Copy us v
    copy_carries us v rest r safe =
        let op = mk kinds.Copy us v in
        let st = (parts f fs w a e copies op named cells rest few r).1 in
        let end = e.standing.routines_end in
        let three = acts_is 3 (length us) (is_some v) r.fits.fits in
        let n = three.0 in
        let x = get_or (map f.values us) 0 0 in let y = get_or (map f.values us) 1 0 in let z = get_or (map f.values us) 2 0 in
        works f fs w a e copies op named cells rest few r (start l) (calls_routine op (start l)) refl st (reaches f fs w a e copies op named cells rest few r (start l) (omega (arith, end)) st.0) (CopyHead x y z) (omega arith)
        (argument_in kinds.Copy us v rest r refl 0 0 refl (lit< tt) (omega (arith, n)), argument_in kinds.Copy us v rest r refl 1 1 refl (lit< tt) (omega (arith, n)), argument_in kinds.Copy us v rest r refl 2 2 refl (lit< tt) (omega (arith, n))) (λ x t h. h)

    zero_carries : (us : List ℕ) (v : Option ℕ) (rest : Rest (mk kinds.Zero us v)) → Set (mk kinds.Zero us v) rest → Does_so kinds.Zero us v
    zero_carries us v rest r safe =
        let op = mk kinds.Zero us v in
        let st = (parts f fs w a e copies op named cells rest few r).1 in
        let end = e.standing.routines_end in
        let two = acts_is 2 (length us) (is_some v) r.fits.fits in
        let n = two.0 in
        let x = get_or (map f.values us) 0 0 in let y = get_or (map f.values us) 1 0 in
        works f fs w a e copies op named cells rest few r (start l + 15) (calls_routine op (start l + 15)) refl st (reaches f fs w a e copies op named cells rest few r (start l + 15) (omega (arith, end)) st.0) (ZeroHead x y) refl
        (argument_in kinds.Zero us v rest r refl 0 0 refl (lit< tt) (omega (arith, n)), argument_in kinds.Zero us v rest r refl 1 1 refl (lit< tt) (omega (arith, n))) (λ x t h. h)

    compare_carries : (us : List ℕ) (v : Option ℕ) (rest : Rest (mk kinds.Compare us v)) → Set (mk kinds.Compare us v) rest → Does_so kinds.Compare us v
    compare_carries us v rest r safe =
        let op = mk kinds.Compare us v in
        let st = (parts f fs w a e copies op named cells rest few r).1 in
        let end = e.standing.routines_end in
        let four = makes_is 4 (length us) (is_some v) r.fits.fits in
        let n = four.0 in
        let x = get_or (map f.values us) 0 0 in let m = get_or (map f.values us) 1 0 in let y = get_or (map f.values us) 2 0 in let o = get_or (map f.values us) 3 0 in
        works f fs w a e copies op named cells rest few r (start l + 15 + 7) (calls_routine op (start l + 15 + 7)) refl st (reaches f fs w a e copies op named cells rest few r (start l + 15 + 7) (omega (arith, end)) st.0) (CompareHead x m y o) (omega arith)
        (argument_in kinds.Compare us v rest r refl 0 0 refl (lit< tt) (omega (arith, n)), argument_in kinds.Compare us v rest r refl 1 1 refl (lit< tt) (omega (arith, n)), argument_in kinds.Compare us v rest r refl 2 2 refl (lit< tt) (omega (arith, n)), argument_in kinds.Compare us v rest r refl 3 3 refl (lit< tt) (omega (arith, n))) (λ x t h. h)

    ---- NEW

    module _ (us : List ℕ) (v : Option ℕ) (rest : Rest (mk kinds.New us v)) (r : Set (mk kinds.New us v) rest) where
      abbrev ra : ℕ
      ra = get_or named 0 0

      abbrev rb : ℕ
      rb = get_or named 1 0

      abbrev rc : ℕ
      rc = get_or named 2 0

      abbrev nd : ℕ
      nd = get_or named (length us) 0

      abbrev news : List ℕ
      news = map f.values us

      abbrev nx : ℕ
      nx = get_or news 0 0

      abbrev ny : ℕ
      ny = get_or news 1 0

      abbrev nz : ℕ
      nz = get_or news 2 0

      three : (length us ≡ 3) × (is_some v ≡ true)
      three = makes_is 3 (length us) (is_some v) r.fits.fits

      abbrev nk : ℕ
      nk = l.place f.proc f.block f.at + length (copies_words (proc_of l.procs f.proc) copies)

      abbrev cn : Copied (proc_of l.procs f.proc) e.fits l.code keeps_small l.frame e.low w (l.place f.proc f.block f.at) (length (copies_words (proc_of l.procs f.proc) copies)) e.stack a (all_copied copies (content (proc_of l.procs f.proc) e.stack e.low a.registers))
      cn = co f fs w a e copies (mk kinds.New us v) named cells rest few r

      abbrev mn : State
      mn = cn.after

      oa : Operand ra nx mn
      oa = (r.fits.registers 0, number_read f fs w a e copies (mk kinds.New us v) named cells rest few r refl 0 (let n = three.0 in omega (arith, n)))

      ob : Operand rb ny mn
      ob = (r.fits.registers 1, number_read f fs w a e copies (mk kinds.New us v) named cells rest few r refl 1 (let n = three.0 in omega (arith, n)))

      oc : Operand rc nz mn
      oc = (r.fits.registers 2, number_read f fs w a e copies (mk kinds.New us v) named cells rest few r refl 2 (let n = three.0 in omega (arith, n)))

      small_x : nx < 2 ^ 64
      small_x = small_of ra nx mn cn.passed.at.small oa

      small_free : w.free < 2 ^ 64
      small_free = subst (λ n. n < 2 ^ 64) cn.passed.at.fixed.free (cn.passed.at.small.registers 22)

      small_next : w.next < 2 ^ 64
      small_next = subst (λ n. n < 2 ^ 64) cn.passed.at.fixed.next (cn.passed.at.small.registers 21)

      abbrev first_three : List Instr
      first_three = i.SubsReg 31 22 ra Lsl 0 ∷ breaks_unless Hs 10

      abbrev last_five : List Instr
      last_five = i.SubReg 22 22 ra Lsl 0 ∷ i.Str rc 21 0 ∷ i.OrrReg 16 31 21 Lsl 0 ∷ i.AddReg 21 21 rb Lsl 0 ∷ i.OrrReg nd 31 16 Lsl 0 ∷ []

      halves : StandAll l.code nk first_three × StandAll l.code (nk + 3) last_five
      halves = stand_append l.code first_three last_five nk (parts f fs w a e copies (mk kinds.New us v) named cells rest few r).1

      abbrev n1 : State
      n1 = changed mn 31 (sub64 w.free nx) (subs_flags w.free nx)

      q1 : Quiet l.code keeps_small l.frame e.low slot_count w cn.stack nk 1 16 mn n1
      q1 = against_does l.code keeps_small l.frame e.low slot_count w cn.stack nk 16 22 ra w.free nx mn (halves.0.0, halves.0.1, tt) cn.passed.at cn.passed.at.fixed.free (reads ra nx mn oa) small_x

      tells : holds Hs n1.flags ≡ nat_le nx w.free
      tells = after_subs Hs w.free nx small_free small_x

      second : StandAll l.code (nk + 1) (breaks_unless Hs 10)
      second = let z : nk + 1 ≡ suc nk = omega arith in subst (λ n. StandAll l.code n (breaks_unless Hs 10)) (sym z) halves.0.2

      no_room : nat_le nx w.free ≡ false → Came (Traps (Kind 10 f.proc))
      no_room h =
          let s = unless_stops l.code keeps_small l.frame e.low slot_count w cn.stack (nk + 1) 10 n1 Hs second q1.at (tells ∙ h) in
          let all = stop_after l.code keeps_small l.frame e.low slot_count w cn.stack nk (nk + 1) 1 2 16 mn n1 (why.Broke 10 (suc (nk + 1))) refl q1 s in
          stops f fs w a e copies (mk kinds.New us v) named cells rest few r 10 (suc (nk + 1)) (stops_longer l.code nk 3 5 mn (why.Broke 10 (suc (nk + 1))) all)

      abbrev Led : World → ℕ → ℕ → ℕ → State → State → Type 0
      Led u k j n b t = Ran l.code keeps_small l.frame e.low slot_count cn.stack u k j n b t

      room : nat_le nx w.free ≡ true → (t : List Area) → store8 w.memory w.next nz ≡ Some t → Came (Moves [] (Runs (behind f v w.next) fs (record w { memory = t; next = add64 w.next ny; free = w.free - nx })))
      room h t stores_t =
          let q2 = after l.code keeps_small l.frame e.low slot_count w cn.stack nk (nk + 1) 1 2 16 mn n1 (skipped n1 (nk + 1 + 2)) refl q1 (unless_does l.code keeps_small l.frame e.low slot_count w cn.stack (nk + 1) 16 10 n1 Hs second q1.at (tells ∙ h)) in
          let b2 = skipped n1 (nk + 1 + 2) in
          let le : nx ≤ w.free = grind (arith, nat_tests, h) in
          -- X22
          let st3 = halves.1 in
          let v3 = w.free - nx in
          let w1 : World = record w { free = v3 } in
          let fx = cn.passed.at.fixed in
          let ra2 : lsl64 (read b2.registers ra) 0 ≡ nx = ap (λ n. lsl64 n 0) (reads ra nx n1 (operand_on ra nx 31 (sub64 w.free nx) mn n1.flags oa (λ s. let u = (r.fits.registers 0) in omega (arith, s, u)))) ∙ lsl64_zero nx small_x in
          let does3 : effect (i.SubReg 22 22 ra Lsl 0) b2 ≡ gives b2 22 v3 = ap₂ (λ m n. gives b2 22 (sub64 m n)) fx.free ra2 ∙ ap (gives b2 22) (omega (arith, le, small_free)) in
          let fixed3 : Fixed w1 (put b2.registers 22 v3) = record { calls = fx.calls; cells = fx.cells; local = fx.local; globals = fx.globals; next = fx.next; free = refl } in
          let one3 = gives_any l.code keeps_small l.frame e.low slot_count (nk + 3) w w1 cn.stack b2 (i.SubReg 22 22 ra Lsl 0) 22 v3 st3.0 st3.1 q2.at does3 (refl, refl) fixed3 in
          let b3 = changed b2 22 v3 b2.flags in
          -- the descriptor
          let st4 = (stand_append l.code (i.SubReg 22 22 ra Lsl 0 ∷ []) (i.Str rc 21 0 ∷ i.OrrReg 16 31 21 Lsl 0 ∷ i.AddReg 21 21 rb Lsl 0 ∷ i.OrrReg nd 31 16 Lsl 0 ∷ []) (nk + 3) st3).1 in
          let rc3 : read b3.registers rc ≡ nz = reads rc nz b3 (operand_on rc nz 22 v3 b2 b2.flags (operand_on rc nz 31 (sub64 w.free nx) mn n1.flags oc (λ s. let u = (r.fits.registers 2) in omega (arith, s, u))) (λ s. let u = (r.fits.registers 2) in omega (arith, s, u))) in
          let too = store_flows w.memory cn.stack b3.memory one3.at.memory w.next nz t stores_t in
          let b4 : State = record b3 { pc = add64 b3.pc 4; memory = too.0 } in
          let does4 : effect (i.Str rc 21 0) b3 ≡ Moves [] b4 =
          ap₂ (λ m n. stores b3 (add64 m (8 * 0)) (store8 b3.memory (add64 m (8 * 0)) n)) fx.next rc3 ∙ ap (λ p. stores b3 p (store8 b3.memory p nz)) (add64_zero w.next small_next) ∙ ap (stores b3 w.next) too.1 in
          let four = puts l.code keeps_small l.frame e.low slot_count cn.stack w1 t (nk + 3 + 1) (nk + 3 + 1 + 1) refl b3 too.0 (i.Str rc 21 0) st4.0 st4.1 one3.at too.2 does4 in
          let w2 : World = record w1 { memory = t } in
          -- X16
          let st5 = (stand_append l.code (i.Str rc 21 0 ∷ []) (i.OrrReg 16 31 21 Lsl 0 ∷ i.AddReg 21 21 rb Lsl 0 ∷ i.OrrReg nd 31 16 Lsl 0 ∷ []) (nk + 3 + 1) st4).1 in
          let copy : bit_or 0 (lsl64 w.next 0) ≡ w.next = ap (bit_or 0) (lsl64_zero w.next small_next) ∙ or_zero w.next small_next in
          let five = registers_written l.code keeps_small l.frame e.low slot_count cn.stack w2 (nk + 3 + 1 + 1) (nk + 3 + 1 + 1 + 1) refl 16 w.next b4.flags b4 (i.OrrReg 16 31 21 Lsl 0) (inl (omega arith)) st5.0 st5.1 four.at (ap (λ n. gives b4 16 (bit_or 0 (lsl64 n 0))) fx.next ∙ ap (gives b4 16) copy) in
          let b5 = changed b4 16 w.next b4.flags in
          -- X21
          let st6 = (stand_append l.code (i.OrrReg 16 31 21 Lsl 0 ∷ []) (i.AddReg 21 21 rb Lsl 0 ∷ i.OrrReg nd 31 16 Lsl 0 ∷ []) (nk + 3 + 1 + 1) st5).1 in
          let v6 = add64 w.next ny in
          let w3 : World = record w2 { next = v6 } in
          let ne : (n : ℕ) → 15 < n → rb ≡ n → ⊥ = λ n u s. let q = (r.fits.registers 1) in omega (arith, s, u, q) in
          let rb5 : read b5.registers rb ≡ ny = reads rb ny b5 (operand_on rb ny 16 w.next b4 b4.flags (operand_on rb ny 22 v3 b2 b2.flags (operand_on rb ny 31 (sub64 w.free nx) mn n1.flags ob (ne 31 (lit< tt))) (ne 22 (lit< tt))) (ne 16 (lit< tt))) in
          let does6 : effect (i.AddReg 21 21 rb Lsl 0) b5 ≡ gives b5 21 v6 = ap₂ (λ m n. gives b5 21 (add64 m n)) fx.next (ap (λ n. lsl64 n 0) rb5 ∙ lsl64_zero ny (small_of rb ny mn cn.passed.at.small ob)) in
          let fixed6 : Fixed w3 (put b5.registers 21 v6) = record { calls = fx.calls; cells = fx.cells; local = fx.local; globals = fx.globals; next = refl; free = refl } in
          let six = gives_any l.code keeps_small l.frame e.low slot_count (nk + 3 + 1 + 1 + 1) w2 w3 cn.stack b5 (i.AddReg 21 21 rb Lsl 0) 21 v6 st6.0 st6.1 five.at does6 (refl, refl) fixed6 in
          let b6 = changed b5 21 v6 b5.flags in
          -- the pointer
          let st7 = (stand_append l.code (i.AddReg 21 21 rb Lsl 0 ∷ []) (i.OrrReg nd 31 16 Lsl 0 ∷ []) (nk + 3 + 1 + 1 + 1) st6).1 in
          let seven = registers_written l.code keeps_small l.frame e.low slot_count cn.stack w3 (nk + 3 + 1 + 1 + 1 + 1) (nk + 3 + 1 + 1 + 1 + 1 + 1) refl nd w.next b6.flags b6 (i.OrrReg nd 31 16 Lsl 0) (let u = (r.fits.registers (length us)) in inl (omega (arith, u))) st7.0 st7.1 six.at (ap (gives b6 nd) copy) in
          let b7 = changed b6 nd w.next b6.flags in
          let ways : Way l.code nk 8 mn b7 =
          way_append l.code nk 3 5 mn b2 b7 q2.way (way_append l.code (nk + 3) 1 4 b2 b3 b7 one3.way (way_append l.code (nk + 3 + 1) 1 3 b3 b4 b7 four.way (way_append l.code (nk + 3 + 1 + 1) 1 2 b4 b5 b7 five.way (way_append l.code (nk + 3 + 1 + 1 + 1) 1 1 b5 b6 b7 six.way seven.way)))) in
          let eight : nk + 3 + 1 + 1 + 1 + 1 + 1 ≡ nk + 8 = omega arith in
          let on8 : On e.low slot_count (nk + 8) w3 cn.stack b7 = subst (λ n. On e.low slot_count n w3 cn.stack b7) eight seven.at in
          let others : (m : ℕ) → Kept nd m → b7.registers m ≡ mn.registers m = λ m kp.
          let far : (n : ℕ) → 15 < n → (n ≡ 25 → ⊥) → m ≡ n → ⊥ = λ n u d s. ⊎_elim (λ q. omega (arith, s, u, q)) (λ q. d (sym s ∙ q)) kp.0 in
          put_other b6.registers nd w.next m kp.1 ∙ put_other b5.registers 21 v6 m (far 21 (lit< tt) (λ s. omega (arith, s))) ∙ put_other b4.registers 16 w.next m (far 16 (lit< tt) (λ s. omega (arith, s))) ∙ put_other b2.registers 22 v3 m (far 22 (lit< tt) (λ s. omega (arith, s))) ∙ put_other mn.registers 31 (sub64 w.free nx) m (far 31 (lit< tt) (λ s. omega (arith, s))) in
          let there_now = content (proc_of l.procs f.proc) cn.stack e.low mn.registers in
          let spots : rel.Gives nd w.next (content (proc_of l.procs f.proc) cn.stack e.low mn.registers) (content (proc_of l.procs f.proc) cn.stack e.low b7.registers) =
          (reg_content (proc_of l.procs f.proc) cn.stack e.low b7.registers nd (r.fits.registers (length us)) ∙ put_same b6.registers nd w.next (λ s. let u = (r.fits.registers (length us)) in omega (arith, s, u)), others_given (proc_of l.procs f.proc) cn.stack e.low mn.registers b7.registers nd others (r.fits.registers (length us))) in
          finishes f fs w a e copies (mk kinds.New us v) named cells rest few r w.next [] t v6 v3 w.input (quiet_done f fs w a e copies (mk kinds.New us v) named cells rest few r w.next t v6 v3 w.input b7 (omega arith) ways on8 (rel.gives_to v nd w.next there_now (content (proc_of l.procs f.proc) cn.stack e.low b7.registers) three.1 spots))

      abbrev came_by : Effect → Type 0
      came_by s = Safe (operate l.procs (mk kinds.New us v) f fs w s) → Came (operate l.procs (mk kinds.New us v) f fs w s)

      new_carries : came_by (effect_of address (length l.procs) f.args w kinds.New news)
      new_carries safe = by_room (nat_lt w.free nx) refl safe
        where
          by_store : nat_lt w.free nx ≡ false → (o : Option (List Area)) → store8 w.memory w.next nz ≡ o → came_by (made w nx ny o)
          by_store h None g safe = absurd (safe w.next refl)
          by_store h (Some t) g safe = room (grind (arith, nat_tests, h)) t g

          by_room : (b : Bool) → nat_lt w.free nx ≡ b → came_by (if b then Fails 10 else made w nx ny (store8 w.memory w.next nz))
          by_room true h safe = no_room (grind (arith, nat_tests, h))
          by_room false h safe = by_store h (store8 w.memory w.next nz) refl safe

    pub op_carries : (code : Code) (us : List ℕ) (v : Option ℕ) (rest : Rest (mk code us v)) → Set (mk code us v) rest → Does_so code us v
    op_carries (kinds.Const n) us v rest r safe = compute_carries (kinds.Const n) us v refl rest r safe
    op_carries (kinds.Global n) us v rest r safe = compute_carries (kinds.Global n) us v refl rest r safe
    op_carries (kinds.Local n) us v rest r safe = compute_carries (kinds.Local n) us v refl rest r safe
    op_carries (kinds.Plus n) us v rest r safe = compute_carries (kinds.Plus n) us v refl rest r safe
    op_carries (kinds.Code p) us v rest r safe = compute_carries (kinds.Code p) us v refl rest r safe
    op_carries (kinds.Arg i) us v rest r safe = compute_carries (kinds.Arg i) us v refl rest r safe
    op_carries kinds.Load us v rest r safe = compute_carries kinds.Load us v refl rest r safe
    op_carries kinds.LoadByte us v rest r safe = compute_carries kinds.LoadByte us v refl rest r safe
    op_carries kinds.Add us v rest r safe = compute_carries kinds.Add us v refl rest r safe
    op_carries kinds.Sub us v rest r safe = compute_carries kinds.Sub us v refl rest r safe
    op_carries kinds.And us v rest r safe = compute_carries kinds.And us v refl rest r safe
    op_carries kinds.Or us v rest r safe = compute_carries kinds.Or us v refl rest r safe
    op_carries kinds.Eor us v rest r safe = compute_carries kinds.Eor us v refl rest r safe
    op_carries kinds.Bic us v rest r safe = compute_carries kinds.Bic us v refl rest r safe
    op_carries kinds.Lsl us v rest r safe = compute_carries kinds.Lsl us v refl rest r safe
    op_carries kinds.Asr us v rest r safe = compute_carries kinds.Asr us v refl rest r safe
    op_carries kinds.Ror us v rest r safe = compute_carries kinds.Ror us v refl rest r safe
    op_carries kinds.Mul us v rest r safe = compute_carries kinds.Mul us v refl rest r safe
    op_carries kinds.MulAdd us v rest r safe = compute_carries kinds.MulAdd us v refl rest r safe
    op_carries kinds.Neg us v rest r safe = compute_carries kinds.Neg us v refl rest r safe
    op_carries kinds.Not us v rest r safe = compute_carries kinds.Not us v refl rest r safe
    op_carries kinds.Abs us v rest r safe = compute_carries kinds.Abs us v refl rest r safe
    op_carries kinds.Max0 us v rest r safe = compute_carries kinds.Max0 us v refl rest r safe
    op_carries kinds.Odd us v rest r safe = compute_carries kinds.Odd us v refl rest r safe
    op_carries (kinds.Set k) us v rest r safe = compute_carries (kinds.Set k) us v refl rest r safe
    op_carries kinds.Flip us v rest r safe = compute_carries kinds.Flip us v refl rest r safe
    op_carries kinds.Bit us v rest r safe = compute_carries kinds.Bit us v refl rest r safe
    op_carries kinds.Span us v rest r safe = compute_carries kinds.Span us v refl rest r safe
    op_carries kinds.Has us v rest r safe = compute_carries kinds.Has us v refl rest r safe
    op_carries kinds.Div us v rest r safe = compute_carries kinds.Div us v refl rest r safe
    op_carries kinds.Mod us v rest r safe = compute_carries kinds.Mod us v refl rest r safe
    op_carries kinds.Below us v rest r safe = compute_carries kinds.Below us v refl rest r safe
    op_carries kinds.Fits us v rest r safe = compute_carries kinds.Fits us v refl rest r safe
    op_carries kinds.Byte us v rest r safe = compute_carries kinds.Byte us v refl rest r safe
    op_carries kinds.Elem us v rest r safe = compute_carries kinds.Elem us v refl rest r safe
    op_carries kinds.NotNil us v rest r safe = compute_carries kinds.NotNil us v refl rest r safe
    op_carries kinds.True us v rest r safe = compute_carries kinds.True us v refl rest r safe
    op_carries (kinds.IsPtr j) us v rest r safe = compute_carries (kinds.IsPtr j) us v refl rest r safe
    op_carries (kinds.IsTag j) us v rest r safe = compute_carries (kinds.IsTag j) us v refl rest r safe
    op_carries (kinds.GuardPtr j) us v rest r safe = compute_carries (kinds.GuardPtr j) us v refl rest r safe
    op_carries (kinds.GuardTag j) us v rest r safe = compute_carries (kinds.GuardTag j) us v refl rest r safe
    op_carries kinds.Store us v rest r safe = store_carries us v rest r safe
    op_carries kinds.StoreByte us v rest r safe = store_byte_carries us v rest r safe
    op_carries kinds.New us v rest r safe = new_carries us v rest r safe
    op_carries (kinds.Call q) us v rest r safe = call_carries q us v rest r safe
    op_carries kinds.CallAt us v rest r safe = call_at_carries us v rest r safe
    op_carries kinds.Copy us v rest r safe = copy_carries us v rest r safe
    op_carries kinds.Zero us v rest r safe = zero_carries us v rest r safe
    op_carries kinds.Compare us v rest r safe = compare_carries us v rest r safe
    op_carries (kinds.Svc zero) us v rest r safe = let h = r.fits.fits in cc
    op_carries (kinds.Svc (suc zero)) us v rest r safe = svc_byte_carries us v rest r safe
    op_carries (kinds.Svc (suc (suc zero))) us v rest r safe = svc_int_carries us v rest r safe
    op_carries (kinds.Svc (suc (suc (suc zero)))) us v rest r safe = svc_text_carries us v rest r safe
    op_carries (kinds.Svc (suc (suc (suc (suc zero))))) us v rest r safe = svc_read_carries us v rest r safe
    op_carries (kinds.Svc (suc (suc (suc (suc (suc n)))))) us v rest r safe = let h = r.fits.fits in cc
