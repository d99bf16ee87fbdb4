use Rattle.std.proofs.Common.{refl, arith, rules}
use Rattle.boundary_resolve.proofs.Sought.{no_arguments, arguments_more}
use Rattle.boundary_resolve.proofs.moves.arguments.Goals as goal

pub loop-i-init : goal.loop-i-init
loop-i-init c = record { in_params = omega (arith, c.min-i.ensures); in_args = omega (arith, c.min-i.ensures); has = no_arguments c.args.params.now c.args.args.now c.min-i.result c.new-arguments.result c.min-i.ensures (λ v. search rules) }

pub loop-i-preserved : goal.loop-i-preserved
loop-i-preserved c = record {
  in_params = omega (arith, c.loop-i.invariant.in_params);
  in_args = omega (arith, c.loop-i.invariant.in_args);
  has = arguments_more c.args.params.now c.args.args.now c.loop-i.i _ _ _ c.loop-i.arguments c.insert.new.self c.loop-i.invariant.has (omega arith) (omega (arith, c.loop-i.invariant.in_params)) (omega (arith, c.loop-i.invariant.in_args)) refl refl c.in_ok-insert.ensures.updates;
}
