-- A caller goes on behind the operation at which it waited.
use Rattle.std.proofs.Common.{◌≡◌, ℕ, suc, ◌+◌, ◌*◌, ◌<◌, ◌≤◌, ◌^◌, List, [], ◌∷◌, Option, Some, None, refl, sym, ◌∙◌, subst, lit<}
use Rattle.run_laws.specs.Runs.{Step, Moves, Ends, Traps}
use Rattle.run_laws.specs.Layers.{places_from}
use Rattle.a64_memory.specs.Memory.{Area}
use Rattle.a64_machine.specs.State.{State, address_of}
use Rattle.a64_memory.specs.Areas.{frames_base}
use Rattle.a64_machine.specs.Machine.{step_of}
use Rattle.lir_core.specs.Spots.{Spot}
use Rattle.placed_code.proofs.Steps.{rest_of, ops_of}
use Rattle.placed_code.specs.Placed.{procedures, Cell, Placed, proc_of, block_of}
use Rattle.block_runs.specs.States.{Frame, World, Stop, Fault, State as Flow, Point}
use Rattle.block_runs.specs.Steps.{define, behind, answered, resumed}
use Rattle.placed_code.specs.Words.{slots_of}
use Rattle.placed_code.proofs.Stack.{held}
use Rattle.placed_code.proofs.Contents.{content, reg_content}
use Rattle.a64_machine.proofs.Ways.{Way}
use Rattle.placed_code.proofs.Leading.{Here}
use Rattle.placed_code.proofs.Rest.{drop_next}
use Rattle.placed_code.proofs.Relation.{Linked, Above, Answer, Ready, Resumes, Waits, Callers, counts, Standing, Running, Similar, words, home_content}
use Rattle.placed_code.proofs.Transfers.{Carry, carry_way}
use Rattle.a64_machine.proofs.Numbers.{Numbers}
use Rattle.block_runs.specs.Points.{least}

-- the result in X0
abbrev pub Back : Option ℕ → State → Type 0
Back None a = Unit {0}
Back (Some x) a = a.registers 0 ≡ x

module _ (l : Linked) (Begins : (p b : ℕ) → (ℕ → ℕ) → (Spot → ℕ) → Type 0) (keeps_small : (a b : State) (w : List ℕ) → Numbers a → step_of l.code a ≡ Moves w b → Numbers b)
    (opens : (p b : ℕ) (V : ℕ → ℕ) (c : Spot → ℕ) → Begins p b V c → Ready l Begins p (block_of (proc_of l.procs p) b) b 0 (block_of (proc_of l.procs p) b).body V c) where
  -- the machine is where a frame waited
  pub record Landed (g : Frame) (gs : List Frame) (w : World) (b : State) : Type 0 where
    pub stack : Area
    pub low : ℕ
    pub ret : ℕ
    pub back : ℕ
    pub at : Here l.code keeps_small l.frame low (slots_of (proc_of l.procs g.proc)) back w stack b
    pub waits : Waits l Begins stack low back g (rest_of l.procs g)
    pub link : held stack (low + 8 * (proc_of l.procs g.proc).outs) ≡ address_of ret
    pub near : ret ≤ 2 ^ 18
    pub callers : Callers l Begins w.body stack (low + 8 * slots_of (proc_of l.procs g.proc)) (w.calls + counts l Begins (proc_of l.procs g.proc)) (w.cells + (proc_of l.procs g.proc).cells) ret gs
    pub room : frames_base + w.calls * l.frame ≤ low
    pub above : Above l.frame stack (low + 8 * slots_of (proc_of l.procs g.proc)) g.args
    pub standing : Standing l Begins

  -- a step that writes nothing, to what the machine is similar to
  abbrev pub Came : Step Flow Stop → State → Type 0
  Came (Moves w t) b = (w ≡ []) × Similar l Begins keeps_small t b
  Came Ends b = ⊥
  Came (Traps x) b = ⊥

  pub carry_came : (p : Point) (k n : ℕ) (a b : State) (st : Step Flow Stop) → words l Begins p ≡ places_from k n → Way l.code k n a b → 0 < n → least (procedures l.procs) p ≤ 1 → Came st b → Carry l Begins keeps_small opens p a st
  carry_came p k n a b (Moves w t) e way some few c = subst (λ (v : List ℕ). Carry l Begins keeps_small opens p a (Moves v t)) (sym c.0) (carry_way l Begins keeps_small opens p k n a b t e way some few c.1)
  carry_came p k n a b Ends e way some few c = absurd c
  carry_came p k n a b (Traps x) e way some few c = absurd c

  module _ (g : Frame) (gs : List Frame) (w : World) (b : State) (h : Landed g gs w b) where
    abbrev pr : Placed
    pr = proc_of l.procs g.proc

    goes : (cell : Cell) (cells : List Cell) → rest_of l.procs g ≡ cell ∷ cells → Resumes l Begins h.stack h.low h.back g cell cells → (x : ℕ) → Answer cell.op.def x (content pr h.stack h.low b.registers) → Running l Begins keeps_small (behind g cell.op.def x) gs w b
    goes cell cells i r x answer =
        let here = content pr h.stack h.low b.registers in
        let left : rest_of l.procs (behind g cell.op.def x) ≡ cells = drop_next (block_of pr g.block).body g.at cell cells i in
        let ready = r.goes x here (λ v. home_content l Begins pr h.stack h.low b.registers (λ m. 0) v) answer in
        record {
          stack = h.stack;
          low = h.low;
          ret = h.ret;
          at = subst (λ m. Here l.code keeps_small l.frame h.low (slots_of pr) m w h.stack b) r.place h.at;
          fits = r.fits;
          frame = r.frame;
          cells = r.few;
          ready = subst (λ (cs : List Cell). Ready l Begins g.proc (block_of pr g.block) g.block (suc g.at) cs (define cell.op.def x g.values) here) (sym left) ready;
          link = h.link;
          near = h.near;
          callers = h.callers;
          room = h.room;
          above = h.above;
          standing = h.standing;
        }

    by_answer : (v : Option ℕ) (o : Option ℕ) → Back o b → ((at : ℕ) → answered g gs w v o ≡ Traps (Fault at) → ⊥)
        → ((x : ℕ) → Answer v x (content pr h.stack h.low b.registers) → Running l Begins keeps_small (behind g v x) gs w b) → Came (answered g gs w v o) b
    by_answer None o back safe on = (refl, on 0 tt)
    by_answer (Some v) None back safe on = absurd (safe v refl)
    by_answer (Some v) (Some x) back safe on = (refl, on x (reg_content pr h.stack h.low b.registers 0 (lit< tt) ∙ back))

    pub came : (o : Option ℕ) → Back o b → ((at : ℕ) → resumed (ops_of (rest_of l.procs g)) g gs w o ≡ Traps (Fault at) → ⊥) → Came (resumed (ops_of (rest_of l.procs g)) g gs w o) b
    came o back safe = by_rest (rest_of l.procs g) refl h.waits safe
      where
        by_rest : (cells : List Cell) → rest_of l.procs g ≡ cells → Waits l Begins h.stack h.low h.back g cells → ((at : ℕ) → resumed (ops_of cells) g gs w o ≡ Traps (Fault at) → ⊥) → Came (resumed (ops_of cells) g gs w o) b
        by_rest [] i r safe = absurd r
        by_rest (cell ∷ cells) i r safe = by_answer cell.op.def o back safe (λ x answer. goes cell cells i r x answer)
