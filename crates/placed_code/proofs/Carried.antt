-- The machine carries out the flows, step by step, and so it is in step with what they mean.
use Rattle.std.proofs.Common.{◌≡◌, ℕ, zero, suc, ◌+◌, ◌*◌, ◌<◌, ◌≤◌, ◌^◌, List, [], ◌∷◌, ◌++◌, length, Bool, Option, Some, None, refl, arith, sym, ap, ◌∙◌, subst}
use Rattle.std.specs.Prelude.{if◌then◌else◌, flat_map, slice_get}
use Rattle.run_laws.specs.Runs.{Outcome, Step, Moves, Ends, Traps, run, act, Within, Keeps, InStep}
use Rattle.run_laws.specs.Layers.{CarriesBy, Stays, Where, Through}
use Rattle.run_laws.proofs.Layers.{carries_where}
use Rattle.run_laws.proofs.Lowering.{in_step_down}
use Rattle.run_laws.proofs.Agreement.{trap_never}
use Rattle.run_laws.proofs.Walks.{run-Walk}
use Rattle.wrapping_numbers.specs.Numbers.{add64}
use Rattle.a64_numbers.specs.Branches.{branch_to, branch_field}
use Rattle.a64_numbers.proofs.Branches.{branch_26_reaches}
use Rattle.a64_instr.specs.declared.instr.Instr.TheVariants.{Bl}
use Rattle.a64_machine.specs.State.{State, address_of, put, place_at}
use Rattle.a64_machine.specs.Effects.{effect, calls}
use Rattle.a64_memory.specs.Areas.{frames_base, frames_bytes}
use Rattle.a64_machine.specs.Machine.{step_of, system_of}
use Rattle.a64_machine.proofs.Steps.{step-at, walks-one, place-address}
use Rattle.a64_machine.proofs.Ways.{way_one}
use Rattle.a64_machine.proofs.Numbers.{Numbers}
use Rattle.block_runs.specs.declared.end.End.{End}
use Rattle.block_runs.specs.declared.end.End.TheVariants.{Return, Jump, Branch, Nonzero, Trap}
use Rattle.block_runs.specs.Blocks.{Operation, Procedure, bodies}
use Rattle.block_runs.specs.States.{Frame, World, Starts, Enters, Runs, Works, Stop, Fault, Point, Begin, In, point}
use Rattle.block_runs.specs.States.{State as Flow}
use Rattle.block_runs.specs.Steps.{begin, block_system}
use Rattle.block_runs.specs.Steps as flows
use Rattle.block_runs.specs.Points.{least, rest_least}
use Rattle.lir_core.specs.Spots.{Spot}
use Rattle.placed_code.specs.Placed.{Cell, procedures, proc_of, block_of}
use Rattle.placed_code.specs.Claims.{Safe, same_trap}
use Rattle.placed_code.proofs.Steps.{rest_of, ops_of, perform, step, step_is, least_is}
use Rattle.placed_code.proofs.Contents.{content}
use Rattle.placed_code.proofs.Leading.{next_word}
use Rattle.placed_code.proofs.Relation.{Linked, Ready, Starting, Entering, Running, Similar, words}
use Rattle.placed_code.proofs.Transfers.{Carry, carry_way, entry_carries}
use Rattle.placed_code.proofs.Ends.{last_carries}
use Rattle.placed_code.proofs.Operations.{op_carries}
use Rattle.placed_code.proofs.Routines.{work_carries}

-- where the code of procedures lies
abbrev pub code_place : Linked → ℕ → ℕ
code_place l p = address_of (l.entry p)

pub safe_stays : (ps : List Procedure) (code : ℕ → ℕ) → Stays (block_system ps code) (Safe ps code)
safe_stays ps code = record { step = λ s t w safe e qs v u walk. safe (point s ∷ qs) (w ++ v) u (record { after = t; now = w; later = v; here = refl; moves = e; wrote = refl; more = walk }) }

-- flows that are in step with a meaning whose traps are no faults are safe
pub safe_start : {U : Type 0} (ps : List Procedure) (code : ℕ → ℕ) (points : ℕ) (same : U → Stop → Type 0) (s : Flow) (meaning : ℕ → Outcome U) → InStep (block_system ps code) points same s meaning → ((u : U) (at : ℕ) → same u (Fault at) → ⊥) → Safe ps code s
safe_start ps code points same s meaning in_step none qs w t walk at e =
    trap_never (block_system ps code) points same s meaning in_step (Fault at) (λ u. none u at) (length qs + 1) w
    (run-Walk (block_system ps code) qs s w t walk 1 [] ∙ ap (λ (x : Step Flow Stop). act x (run (flows.step ps code) 0) w) e)

pub least_small : (ops : List Operation) (end : End) → rest_least ops end ≤ 1
least_small (op ∷ ops) end = omega arith
least_small [] (Return x) = omega arith
least_small [] (Jump to args) = omega arith
least_small [] (Branch c x y one other) = omega arith
least_small [] (Nonzero x one other) = omega arith
least_small [] (Trap kind) = omega arith

-- an item that isn't there is behind the last
none_behind : (xs : List ℕ) (n : ℕ) → slice_get xs n ≡ None → length xs ≤ n
none_behind [] n e = omega arith
none_behind (x ∷ xs) zero e = cc
none_behind (x ∷ xs) (suc n) e = let r = none_behind xs n e in omega (arith, r)

some_before : (xs : List ℕ) (n x : ℕ) → slice_get xs n ≡ Some x → n < length xs
some_before [] n x e = cc
some_before (y ∷ xs) zero x e = omega arith
some_before (y ∷ xs) (suc n) x e = let r = some_before xs n x e in omega (arith, r)

module _ (l : Linked) (Begins : (p b : ℕ) → (ℕ → ℕ) → (Spot → ℕ) → Type 0) (small_stays : Stays (system_of l.code) Numbers) (all_bodies : l.bodies ≡ bodies (procedures l.procs))
    (opens : (p b : ℕ) (V : ℕ → ℕ) (c : Spot → ℕ) → Begins p b V c → Ready l Begins p (block_of (proc_of l.procs p) b) b 0 (block_of (proc_of l.procs p) b).body V c) where
  pub keeps_small : (a b : State) (w : List ℕ) → Numbers a → step_of l.code a ≡ Moves w b → Numbers b
  keeps_small a b w s e = small_stays.step a b w s e

  abbrev Carries : Point → State → Step Flow Stop → Type 0
  Carries p a s = Carry l Begins keeps_small opens p a s

  -- a module's body is entered
  body_carries : (w : World) (a : State) (p : ℕ) → Starting l Begins keeps_small w a → slice_get l.bodies w.body ≡ Some p → Carries (Begin w.body) a (Moves [] (Enters p [] [] w))
  body_carries w a p s is =
      let st = s.standing.bodies w.body p is in
      let j = w.body in
      let near = st.near in
      let known = s.standing.enterable p st.known in
      let bound : l.entry p < 2 ^ 18 = (let b = known.low in omega (arith, b)) in
      let after : State = record a { pc = address_of (l.entry p); registers = put a.registers 30 (add64 a.pc 4) } in
      let reaches : branch_to 26 (address_of j) (branch_field 26 (address_of j) (address_of (l.entry p))) ≡ address_of (l.entry p) = branch_26_reaches (address_of j) (address_of (l.entry p)) (omega (arith, near)) (omega (arith, bound)) (omega arith) (omega arith) (omega (arith, bound)) (omega (arith, near)) in
      let does : effect (Bl (branch_field 26 (address_of j) (address_of (l.entry p)))) a ≡ Moves [] after =
      ap (λ (z : ℕ). calls a (branch_to 26 z (branch_field 26 (address_of j) (address_of (l.entry p))))) s.at.pc ∙ ap (calls a) reaches in
      let next : j + 1 ≡ suc j = omega arith in
      let entering : Entering l Begins keeps_small p [] [] w after = record {
        stack = s.stack;
        low = frames_base + frames_bytes l.frame;
        ret = suc j;
        at = record {
          pc = refl;
          sp = s.at.sp;
          memory = s.at.memory;
          fixed = record { calls = s.at.fixed.calls; cells = s.at.fixed.cells; local = s.at.fixed.local; globals = s.at.fixed.globals; next = s.at.fixed.next; free = s.at.fixed.free };
          input = s.at.input;
          space = s.at.space;
          small = keeps_small a after [] s.at.small (step-at j st.stands a s.at.pc ∙ does);
        };
        enterable = known;
        enough = st.none;
        given = λ i u v. absurd (omega (arith, v));
        above = record { held = λ i u. absurd (omega (arith, u)); room = omega arith };
        link = ap (λ (z : ℕ). add64 z 4) s.at.pc ∙ next_word j near ∙ ap address_of next;
        near = omega (arith, near);
        callers = (refl, refl, s.calls, s.cells, some_before l.bodies j p is);
        room = subst (λ (b : Bool). frames_base + (w.calls + (if b then 0 else 1)) * l.frame ≤ frames_base + frames_bytes l.frame) (sym st.uncounted)
            (let c = s.calls in let n : w.calls + 1 ≡ 8193 = omega (arith, c) in subst (λ (j : ℕ). frames_base + j * l.frame ≤ frames_base + frames_bytes l.frame) (sym n) (omega arith));
        standing = s.standing;
      } in
      carry_way l Begins keeps_small opens (Begin j) j 1 a after (Enters p [] [] w) refl (way_one l.code j 0 a after (walks-one j st.stands a s.at.pc does)) (omega arith) (omega arith) entering

  -- behind the last body it ends
  ends_carry : (w : World) (a : State) → Starting l Begins keeps_small w a → slice_get l.bodies w.body ≡ None → Carries (Begin w.body) a Ends
  ends_carry w a s is =
      let past = none_behind l.bodies w.body is in
      let few = s.few in
      let j : w.body ≡ length l.bodies = omega (arith, past, few) in
      let here : a.pc ≡ address_of (length l.bodies) = s.at.pc ∙ ap address_of j in
      record {
        stop = a;
        passed = [];
        walk = (refl, refl);
        halts = step-at (length l.bodies) s.standing.last a here;
        within = λ h. let p = ap h (ap place_at s.at.pc ∙ place-address w.body) in omega (arith, p);
      }

  starts_carry : (w : World) (a : State) → Starting l Begins keeps_small w a → (o : Option ℕ) → slice_get l.bodies w.body ≡ o → Carries (Begin w.body) a (begin o w)
  starts_carry w a s None is = ends_carry w a s is
  starts_carry w a s (Some p) is = body_carries w a p s is

  runs_carry : (f : Frame) (fs : List Frame) (w : World) (a : State) → ((at : ℕ) → step l.procs (code_place l) (Runs f fs w) ≡ Traps (Fault at) → ⊥) → (e : Running l Begins keeps_small f fs w a) → Carries (In f.proc f.block f.at) a (perform l.procs (code_place l) (rest_of l.procs f) f fs w)
  runs_carry f fs w a safe e = by_rest (rest_of l.procs f) refl e.ready
    where
      by_rest : (cells : List Cell) → rest_of l.procs f ≡ cells → Ready l Begins f.proc (block_of (proc_of l.procs f.proc) f.block) f.block f.at cells f.values (content (proc_of l.procs f.proc) e.stack e.low a.registers) → Carries (In f.proc f.block f.at) a (perform l.procs (code_place l) cells f fs w)
      by_rest [] i r =
          let bl = block_of (proc_of l.procs f.proc) f.block in
          last_carries l Begins keeps_small opens f fs w a e bl.params bl.body bl.copies bl.a bl.b bl.end r
          (let n = least_is l.procs f.proc f.block f.at ∙ ap (λ (cs : List Cell). rest_least (ops_of cs) bl.end) i in omega (arith, n)) (λ at h. safe at (ap (λ (cs : List Cell). perform l.procs (code_place l) cs f fs w) i ∙ h))
      by_rest (cell ∷ cells) i r =
          let bl = block_of (proc_of l.procs f.proc) f.block in
          op_carries l Begins keeps_small opens f fs w a e cell.copies cell.named cells
          (let n = least_is l.procs f.proc f.block f.at in let m = least_small (ops_of (rest_of l.procs f)) bl.end in omega (arith, n, m)) cell.op.code cell.op.uses cell.op.def i r
          (λ at h. safe at (ap (λ (cs : List Cell). perform l.procs (code_place l) cs f fs w) i ∙ h))

  each_placed : (s : Flow) (a : State) → ((at : ℕ) → step l.procs (code_place l) s ≡ Traps (Fault at) → ⊥) → Similar l Begins keeps_small s a → Carries (point s) a (step l.procs (code_place l) s)
  each_placed (Starts w) a safe sim = subst (λ (bs : List ℕ). Carries (Begin w.body) a (begin (slice_get bs w.body) w)) all_bodies (starts_carry w a sim (slice_get l.bodies w.body) refl)
  each_placed (Enters p args fs w) a safe sim = entry_carries l Begins keeps_small opens p args fs w a sim
  each_placed (Runs f fs w) a safe sim = runs_carry f fs w a safe sim
  each_placed (Works k f fs w) a safe sim = work_carries l Begins keeps_small opens k f fs w a sim safe

  each : (s : Flow) (a : State) → Safe (procedures l.procs) (code_place l) s → Similar l Begins keeps_small s a → Carries (point s) a (flows.step (procedures l.procs) (code_place l) s)
  each s a safe sim =
      let e = step_is l.procs (code_place l) s in
      subst (λ (t : Step Flow Stop). Carries (point s) a t) (sym e) (each_placed s a (λ at h. safe [] [] s (refl, refl) at (e ∙ h)) sim)

  abbrev pub Related : Flow → State → Type 0
  Related = Where (Safe (procedures l.procs) (code_place l)) (λ (a : State). Unit {0}) (Similar l Begins keeps_small)

  pub carried : CarriesBy (block_system (procedures l.procs) (code_place l)) (system_of l.code) (least (procedures l.procs)) (λ q. 1) (words l Begins) Related (same_trap (length l.procs) l.entry l.size)
  carried = carries_where (block_system (procedures l.procs) (code_place l)) (system_of l.code) (least (procedures l.procs)) (λ q. 1) (words l Begins) (Safe (procedures l.procs) (code_place l)) (λ a. Unit {0}) (Similar l Begins keeps_small) (same_trap (length l.procs) l.entry l.size)
      (safe_stays (procedures l.procs) (code_place l)) (record { step = λ s t w i e. tt }) (λ s a sim. each s a sim.0 sim.2)

  -- what the flows keep, the machine is in step with
  pub in_step_with : {U : Type 0} (all : List Point) (places : List ℕ) (before : U → Stop → Type 0) → Within places (flat_map (words l Begins) all) → (w : World) (a : State) → Safe (procedures l.procs) (code_place l) (Starts w) → Starting l Begins keeps_small w a → (meaning : ℕ → Outcome U)
      → ((n : ℕ) → Keeps (block_system (procedures l.procs) (code_place l)) (least (procedures l.procs)) all before (Starts w) n (meaning n)) → InStep (system_of l.code) (length places) (Through before (same_trap (length l.procs) l.entry l.size)) a meaning
  in_step_with {U} all places before fits w a safe sim meaning keeps =
      in_step_down (block_system (procedures l.procs) (code_place l)) (system_of l.code) (least (procedures l.procs)) (words l Begins) all places Related before (same_trap (length l.procs) l.entry l.size) carried fits (Starts w) a (safe, tt, sim) meaning keeps
