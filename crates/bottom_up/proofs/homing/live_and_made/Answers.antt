use Rattle.std.proofs.Common.{◌≡◌, ◌∙◌, [], sym, arith}
use Rattle.std.proofs.lemmas.Grind.{common_steps}
use Rattle.lir_core.specs.Rows.{live_into}
use Rattle.bottom_up.proofs.Steps.{none_made}
use Rattle.bottom_up.proofs.homing.live_and_made.Goals as goal

pub returns-then-is_empty : goal.returns-then-is_empty
returns-then-is_empty c =
    let none : c.args.made.now ≡ [] = grind (arith, common_steps) in
    c.new.ensures.items ∙ sym (none_made c.args.made.now (live_into c.args.values c.args.live.now c.args.node) none)
