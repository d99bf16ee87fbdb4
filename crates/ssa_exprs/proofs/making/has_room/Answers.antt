use Rattle.std.proofs.Common.{◌<◌, ◌≤◌, sym, arith}
use Rattle.size_limits.specs.Limits.{most_values}
use Rattle.ssa_exprs.proofs.Numbered.{room, no_room}
use Rattle.ssa_exprs.proofs.making.has_room.Goals as goal

pub returns-then-count-clause-room : goal.returns-then-count-clause-room
returns-then-count-clause-room c = sym (no_room c.args.values c.args.count (omega arith))

pub returns-clause-room : goal.returns-clause-room
returns-clause-room c =
    let pos : 0 < c.args.count = omega arith in
    let small : c.args.count ≤ most_values = omega arith in
    room c.args.values c.args.count pos small
