-- A call's object on top of those that are there: the level of the call.
use Rattle.std.proofs.Common.{ℕ, ◌+◌, List, [], ◌∷◌, ◌++◌, length, cond, nat_eq, Bool, Option}
use Rattle.block_runs.specs.States.{Frame}
use Rattle.ob_types.specs.Store.{Handed, Store}
use Rattle.held_stores.specs.Changes.{Call}
use Rattle.lowered_runs.specs.Words.{Level}

-- what a call adds to its caller's level: its procedure, argument words, what was handed over, the frame that waits for it; how many cells and bytes
-- its object has, where those of its variables begin that are in memory, and their types; its variables
pub record Activation : Type 0 where
  pub proc : ℕ
  pub args : List ℕ
  pub handed : List Handed
  pub caller : Frame
  pub cells : ℕ
  pub bytes : ℕ
  pub own : ℕ → Option ℕ
  pub types : List ℕ
  pub count : ℕ
  pub in_register : ℕ → Bool
  pub cell : ℕ → ℕ

abbrev pub call_of : Activation → Call
call_of k = record { types = k.types; slot = k.own; cells = k.cells; bytes = k.bytes }

-- the level of a call
abbrev pub above : Level → Activation → Store → Level
above l k s = record {
  proc = k.proc;
  args = k.args;
  arguments = k.handed;
  callers = k.caller ∷ l.callers;
  body = l.body;
  local = l.local + k.bytes;
  sizes = l.sizes ++ k.cells ∷ [];
  frame = length l.types;
  slot = λ o v. cond (nat_eq o (length l.types)) (k.own v) (l.slot o v);
  types = l.types ++ k.types ∷ [];
  count = k.count;
  in_register = k.in_register;
  cell = k.cell;
  store = s;
}
