use Rattle.std.proofs.Common.{◌≡◌, List, ℕ, ◌++◌, ap, ◌∙◌}
use Rattle.std.specs.Prelude.{codes}
use Rattle.bulk_text.specs.Bulk.{line, procedures, body, bulk_text}
use Rattle.bulk_text.proofs.Rounds.{one_procedure, procedures_done}
use Rattle.bulk_text.proofs.bulk.bulk_text.Goals as goal

pub loop-i-preserved : goal.loop-i-preserved
loop-i-preserved c = one_procedure _ c.loop-i.text.items _ c.args.size c.loop-i.i c.loop-i.random _ c.loop-i-test.true c.in_ok-put_procedure.ensures.text c.in_ok-put_procedure.ensures.random c.loop-i.invariant

pub returns : goal.returns
unfolding bulk_text
returns c =
    let size = c.args.size in
    let last : line c.as_bytes.result.now ≡ body size = ap (λ (xs : List ℕ). line xs) (c.as_bytes.ensures.value ∙ c.in_ok-body.ensures.ok) in
    let before : c.loop-i.text.items ≡ line (codes "MODULE Bulk; IMPORT Out;") ++ procedures 0 size c.args.seed = procedures_done _ c.loop-i.text.items size c.loop-i.i c.loop-i.random c.loop-i-test.false c.loop-i.invariant in
    c.in_ok-put_line-2.ensures ∙ ap (λ (xs : List ℕ). c.loop-i.text.items ++ xs) last ∙ ap (λ (xs : List ℕ). xs ++ body size) before
