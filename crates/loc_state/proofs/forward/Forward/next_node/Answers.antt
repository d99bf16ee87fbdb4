use Rattle.std.proofs.Common.{◌≡◌, arith}
use Rattle.std.proofs.lemmas.Grind.{common_steps}
use Rattle.lir_core.specs.Lines.{end_reads}
use Rattle.loc_state.specs.declared.forward.Forward.{Forward}
use Rattle.loc_state.specs.Steps.{closed}
use Rattle.loc_state.proofs.Trail.{ended_to, begun_to}
use Rattle.loc_state.proofs.forward.Forward.next_node.Goals as goal

pub returns-clause-ended : goal.returns-clause-ended
returns-clause-ended c =
    let new : Forward = record { starts = c.push.new.self; ends = c.push-2.new.self; lines = c.push-3.new.self; regs = c.push-4.new.self; part = c.begin_next.new.self } in
    let is : new ≡ closed c.args.start c.args.self.now = grind (arith, common_steps) in
    ended_to new c.args.self.now c.args.start (end_reads c.args.end.now) is

pub returns-clause-begun : goal.returns-clause-begun
returns-clause-begun c =
    let new : Forward = record { starts = c.push.new.self; ends = c.push-2.new.self; lines = c.push-3.new.self; regs = c.push-4.new.self; part = c.begin_next.new.self } in
    let is : new ≡ closed c.args.start c.args.self.now = grind (arith, common_steps) in
    begun_to new c.args.self.now c.args.start is
