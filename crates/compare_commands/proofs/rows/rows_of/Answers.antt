use Rattle.std.proofs.Common.{◌≡◌, ◌∙◌, ap, arith, length}
use Rattle.std.proofs.lemmas.List.{take_all}
use Rattle.compare_commands.specs.Rows.{IsRow}
use Rattle.compare_commands.proofs.Turns.{row_made, all_made}
use Rattle.compare_commands.proofs.rows.rows_of.Goals as goal

pub loop-choice-preserved : goal.loop-choice-preserved
loop-choice-preserved g c =
    let many : length c.choices-choices.result ≡ 14 = ap length c.choices-choices.ensures in
    let is = c.in_ok-row_of.ensures.choice in
    let pushed = c.in_ok-push.ensures.items in
    record {
      choices = row_made (λ row. row.choice) c.loop-choice.rows.items c.push.new.self.items c.choices-choices.result c.loop-choice.choice-index c.in_ok-row_of.field-0 _ (omega (arith, many, c.loop-choice-test.true)) c.loop-choice.invariant.choices is pushed;
      each = λ p some of. all_made (IsRow p) c.loop-choice.rows.items c.push.new.self.items c.in_ok-row_of.field-0 (c.loop-choice.invariant.each p some of) (c.in_ok-row_of.ensures.row p some of) pushed;
    }

pub returns : goal.returns
returns g c = λ p some of.
    let many : length c.choices-choices.result ≡ 14 = ap length c.choices-choices.ensures in
    record {
      choices = c.loop-choice.invariant.choices ∙ take_all c.loop-choice.choice-index c.choices-choices.result (omega (arith, many, c.loop-choice-test.false)) ∙ c.choices-choices.ensures;
      each = c.loop-choice.invariant.each p some of;
    }
