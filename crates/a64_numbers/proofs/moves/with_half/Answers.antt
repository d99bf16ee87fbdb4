use Rattle.std.proofs.Common.{◌≡◌, arith, ap, sym, ◌∙◌}
use Rattle.std.proofs.lemmas.Grind.{common_steps}
use Rattle.a64_numbers.specs.Moves.{movk}
use Rattle.a64_numbers.proofs.moves.with_half.Goals as goal

pub returns-in-0 : goal.returns-in-0
returns-in-0 c = grind (arith, common_steps) ∙ ap (λ i. movk c.args.value c.args.imm i) (sym c.in-0.is)

pub returns-in-1 : goal.returns-in-1
returns-in-1 c = rw c.in-1.is (grind (arith, common_steps))

pub returns-in-2 : goal.returns-in-2
returns-in-2 c = rw c.in-2.is (grind (arith, common_steps))

pub returns-in_default : goal.returns-in_default
returns-in_default c = let e : c.args.i ≡ 3 = omega arith in rw e (grind (arith, common_steps))
