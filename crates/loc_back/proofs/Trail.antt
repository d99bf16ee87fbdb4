-- What the calls keep.
use Rattle.std.proofs.Common.{◌≡◌, ℕ, ◌+◌, List, [], ◌∷◌, ◌++◌, length, Option, Some, sym, subst}
use Rattle.std.specs.Prelude.{slice_get}
use Rattle.block_runs.specs.Blocks.{Operation}
use Rattle.block_runs.specs.declared.end.End.{End}
use Rattle.lir_core.specs.declared.flow.Flow.{Flow}
use Rattle.loc_state.specs.Walked.{AllWalk}
use Rattle.loc_back.specs.declared.backward.Backward.{Backward}
use Rattle.loc_back.specs.Steps.{taken, evicted, called, defined, in_part, before_node, started, closed}
use Rattle.loc_back.specs.Served.{Section, Route, due, Simulates, IsEntered, MayTake, MayEvict, CanDefine, CanCall, with_def, CanEnter, walked, onward, tasks, IsWhole}
use Rattle.loc_back.proofs.Walks.{takes_to, evicts_to, defines_to, calls_to, enters_to, starts_to, closes_to}

pub took : (new old : Backward) (v : ℕ) (place : Option ℕ) → new ≡ in_part (taken v place) old → (x : Route) (n : ℕ) (noted : List ℕ) → MayTake x v place old.part → Simulates x n noted old → Simulates x n (noted ++ v ∷ []) new
took new old v place is x n noted m s = subst (Simulates x n (noted ++ v ∷ [])) (sym is) (takes_to x n noted v place old m s)

pub gave_up : (new old : Backward) (r : ℕ) → new ≡ in_part (evicted r) old → (x : Route) (n : ℕ) (noted : List ℕ) → MayEvict r old.part → Simulates x n noted old → Simulates x n noted new
gave_up new old r is x n noted m s = subst (Simulates x n noted) (sym is) (evicts_to x n noted r old m s)

pub began : (new old : Backward) (n : ℕ) (op : Operation) (place : Option ℕ) → new ≡ in_part (defined n op.def place) old → (x : Route) → slice_get x.here.ops n ≡ Some op → IsEntered old.part.stage → CanDefine x op place old.part → Simulates x (n + 1) (due x (n + 1) old.part.stage) old → Simulates (with_def op.def x) n [] new
began new old n op place is x there e c s = subst (Simulates (with_def op.def x) n []) (sym is) (defines_to x n op place old there e c s)

pub passed_call : (new old : Backward) (n : ℕ) (op : Operation) (args : List (Option ℕ)) → new ≡ in_part (called n op args) old → (x : Route) → slice_get x.here.ops n ≡ Some op → IsEntered old.part.stage → CanCall x op args old.part.homed → Simulates x (n + 1) (due x (n + 1) old.part.stage) old → Simulates (with_def op.def x) n [] new
passed_call new old n op args is x there e c s = subst (Simulates (with_def op.def x) n []) (sym is) (calls_to x n op args old there e c s)

pub went_on : (new old : Backward) (params : List ℕ) (end : End) (args : List (Option ℕ)) (homes : List ℕ) → new ≡ before_node params end args homes old → (x : Route) (b : Section) → CanEnter x b params end homes old.part.homed → Simulates x 0 (due x 0 old.part.stage) old → Simulates (onward old.part.stage b params x) (length b.ops) [] new
went_on new old params end args homes is x b c s = subst (Simulates (onward old.part.stage b params x) (length b.ops) []) (sym is) (enters_to x b params end args homes old c s)

pub set_out : (new : Backward) (homed : List ℕ) (k : ℕ) → new ≡ started homed k → (x : Route) → x.done ≡ [] → x.made ≡ [] → k ≡ x.room.regs → Simulates x 0 [] new
set_out new homed k is x done made size = subst (Simulates x 0 []) (sym is) (starts_to x homed k done made size)

pub came_home : (new old : Backward) (f : Flow) (rows : List (List ℕ)) (ns : List ℕ) → new ≡ closed f rows ns old → (x : Route) → IsWhole f rows ns x old.part → Simulates x 0 (due x 0 old.part.stage) old → AllWalk x.room (tasks (walked old.part.stage x)) new.starts new.lines new.regs new.ends
came_home new old f rows ns is x w s = subst (λ b. AllWalk x.room (tasks (walked old.part.stage x)) b.starts b.lines b.regs b.ends) (sym is) (closes_to x f rows ns old w s)
