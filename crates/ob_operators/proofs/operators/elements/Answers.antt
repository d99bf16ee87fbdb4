use Rattle.std.proofs.Common.{◌≡◌, ℕ, suc, ◌-◌, ◌^◌, ◌<◌, ◌≤◌, true, nat_le, bit_and, sym, ap, ap₂, ◌∙◌, arith}
use Rattle.std.specs.Prelude.{if◌then◌else◌}
use Rattle.std.proofs.lemmas.Bool.Decides.{nat_tests}
use Rattle.wrapping_numbers.specs.Numbers.{sub64}
use Rattle.wrapping_numbers.specs.Shifts.{lsr64}
use Rattle.wrapping_numbers.proofs.Elements.{span_closed}
use Rattle.ob_operators.proofs.operators.elements.Goals as goal

behind : (b : ℕ) → b < 64 → 63 - b ≡ sub64 63 b
behind b l = omega (arith, l)

at_most : (a b : ℕ) → a ≤ b → nat_le a b ≡ true
at_most a b h = grind (arith, nat_tests)

pub returns-then-low-high : goal.returns-then-low-high
returns-then-low-high c =
    ap₂ bit_and (c.lsr.ensures ∙ ap (lsr64 (2 ^ 64 - 1)) (behind c.args.high c.requires.high_fits)) c.lsl.ensures
    ∙ span_closed c.args.low c.args.high c.requires.low_fits c.requires.high_fits c.if-low-high.true
    ∙ sym (ap (λ t. if t then 2 ^ suc c.args.high - 2 ^ c.args.low else 0) (at_most c.args.low c.args.high c.if-low-high.true))
