use Rattle.std.proofs.Common.{Some, sym, ap, ◌∙◌}
use Rattle.std.specs.Str.{bytes_eq}
use Rattle.ob_judge.specs.Scopes.{Earlier}
use Rattle.check_modules.proofs.importing.Found.{from_next, from_here, from_past}
use Rattle.check_modules.proofs.importing.finding.found.Goals as goal

pub loop-i-preserved : goal.loop-i-preserved
loop-i-preserved c = λ t strings.
    c.loop-i.invariant t strings ∙ from_next t strings c.args.name.now c.args.modules.now c.loop-i.i _ c.loop-i-test.true
    (ap (λ ns. bytes_eq ns c.args.name.now) (sym c.as_slice.ensures) ∙ sym c.if-is_name.ensures)

pub returns-then-is_name-clause-found : goal.returns-then-is_name-clause-found
returns-then-is_name-clause-found c = λ t strings.
    c.loop-i.invariant t strings ∙ from_here t strings c.args.name.now c.args.modules.now c.loop-i.i _ c.loop-i-test.true
    (ap (λ ns. bytes_eq ns c.args.name.now) (sym c.as_slice.ensures) ∙ sym c.if-is_name.ensures)
    ∙ ap (λ n. Some (Earlier n)) (sym c.in_ok-as_number.ensures.number)

pub returns-clause-found : goal.returns-clause-found
returns-clause-found c = λ t strings. c.loop-i.invariant t strings ∙ from_past t strings c.args.name.now c.args.modules.now c.loop-i.i c.loop-i-test.false
