use Rattle.std.proofs.Common.{◌≡◌, List, ℕ, ◌++◌, ap, subst, ◌∙◌}
use Rattle.std.specs.Prelude.{OnOk}
use Rattle.bulk_text.specs.Bulk.{line, ending}
use Rattle.bulk_text.proofs.Rounds.{ending_is}
use Rattle.bulk_text.proofs.bulk.put_ending.Goals as goal

pub returns-in_ok-last-in-Some : goal.returns-in_ok-last-in-Some
returns-in_ok-last-in-Some c =
    let spelled : line c.as_bytes.result.now ≡ ending c.args.i = ap (λ (xs : List ℕ). line xs) (c.as_bytes.ensures.value ∙ c.in_ok-last-in-Some.ensures.ok) ∙ ending_is c.args.i c.in-Some.j c.in-Some.ensures.0 c.in-Some.ensures.1 in
    subst (λ (xs : List ℕ). OnOk c.put_line-in-Some.result (c.put_line-in-Some.new.text.items ≡ c.args.text.now.items ++ xs)) spelled c.put_line-in-Some.ensures
