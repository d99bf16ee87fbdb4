use Rattle.std.proofs.Common.{arith}
use Rattle.pool_core.proofs.Moves.{can_iff, can_not, read_at}
use Rattle.pool_core.proofs.machine.Core.can.Goals as goal

pub returns-then-worker-len : goal.returns-then-worker-len
returns-then-worker-len c = can_not c.self.inside c.self.invariant c.args.self.now c.self.view_is c.args.worker c.args.event (omega (arith, c.len.ensures, c.self.inside.hands.ok))

pub returns : goal.returns
returns c =
    let at = read_at c.self.inside.hands.items c.args.worker c.index.result.now (omega (arith, c.if-worker-len.false, c.len.ensures, c.self.inside.hands.ok)) c.index.ensures in
    can_iff c.self.inside c.self.invariant c.args.self.now c.self.view_is c.args.worker c.index.result.now at c.args.event c.may.result c.may.ensures
