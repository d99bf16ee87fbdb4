use Rattle.std.proofs.Common.{ap, sym, []}
use Rattle.block_runs.specs.declared.code.Code.TheVariants.{Const}
use Rattle.ssa_lowered.specs.Pieces.{emits}
use Rattle.ssa_exprs.proofs.Giving.{gives_as}
use Rattle.ssa_build.proofs.Entering.{gives_zeroing}
use Rattle.ssa_build.proofs.entry.zero.Goals as goal

pub returns-in_ok-act : goal.returns-in_ok-act
returns-in_ok-act c = gives_zeroing c.args.structured c.args.bytes c.args.zeroed c.if-structured.true c.in_ok-a.ensures (gives_as (ap (λ n. emits (Const n) []) (sym c.from.ensures)) c.in_ok-n.ensures) c.in_ok-act.ensures
