use Rattle.std.proofs.Common.{◌≡◌, drop}
use Rattle.run_laws.specs.Turns.{give}
use Rattle.ob_types.specs.Layout.{extends}
use Rattle.ob_types.specs.Expressions.{all_guarded}
use Rattle.eval_store.proofs.world.World.all_guarded.Given as goal

abbrev pub invariant-loop-base : goal.invariant-loop-base
invariant-loop-base l = all_guarded l.procedure (extends l.types) (give l.fn.c) l.guards l.self ≡ all_guarded l.procedure (extends l.types) (give l.cell) (drop l.base-index l.guards) l.self
