use Rattle.std.proofs.Common.{◌≡◌, List, ℕ, ◌++◌, ap, subst, refl, ◌∙◌}
use Rattle.std.specs.Prelude.{OnOk}
use Rattle.bulk_text.specs.Bulk.{line, heading, statements, ending, procedure}
use Rattle.bulk_text.proofs.Rounds.{three_parts}
use Rattle.bulk_text.proofs.bulk.put_procedure.Goals as goal

pub returns-clause-text : goal.returns-clause-text
unfolding procedure
returns-clause-text c =
    let text = c.args.text.now.items in
    let i = c.args.i in
    let first : line c.as_bytes.result.now ≡ heading i = ap (λ (xs : List ℕ). line xs) (c.as_bytes.ensures.value ∙ c.in_ok-first.ensures.ok) in
    let one : c.put_line.new.text.items ≡ text ++ heading i = c.in_ok-put_line.ensures ∙ ap (λ (xs : List ℕ). text ++ xs) first in
    let whole : c.put_statements.new.text.items ++ ending i ≡ text ++ (heading i ++ statements 8 c.args.random.now ++ ending i) = three_parts text (heading i) (statements 8 c.args.random.now) (ending i) _ _ _ one c.in_ok-put_statements.ensures.text refl in
    subst (λ (xs : List ℕ). OnOk c.put_ending.result (c.put_ending.new.text.items ≡ xs)) whole c.put_ending.ensures
