-- Of the two traps of a call the depth's comes first, however many cells there are.
use Rattle.std.proofs.Common.{◌≡◌, ℕ, [], false, length, refl}
use Rattle.std.specs.Prelude.{nat_lt}
use Rattle.run_laws.specs.Turns.{State, Fails}
use Rattle.ob_types.specs.Store.{Store, Kind}
use Rattle.ob_types.specs.Expressions.{Calls}
use Rattle.ob_types.specs.Meaning.{procedure_of, invoked}
use Rattle.ob_types.specs.declared.program.Program.{Program}

-- a procedure without parameters, called where there are 8,192 calls already
pub too_deep : (p : Program) (calls : Calls) (fuel f : ℕ) (s : State Store) → (procedure_of p f).formals ≡ [] → nat_lt (length s.store.frames) 8192 ≡ false → invoked p calls fuel f [] s ≡ Fails (Kind 8 f) s.out
too_deep p calls fuel f s none deep = rw none (rw deep refl)
