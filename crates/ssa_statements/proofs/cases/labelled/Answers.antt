use Rattle.std.proofs.Common.{rules, ◌≡◌, ◌∙◌, refl, sym, ap, to_z, of_z, w64}
use Rattle.std.proofs.lemmas.Int.{to_z-of_z}
use Rattle.wrapping_numbers.specs.Numbers.{unsigned}
use Rattle.ssa_lowered.specs.Control.{fork_branch}
use Rattle.ssa_lowered.specs.Pieces.{give}
use Rattle.ssa_lowered.specs.Values.{const}
use Rattle.ssa_exprs.specs.Making.{bound}
use Rattle.ssa_exprs.proofs.Forks.{tests_and, tests_as}
use Rattle.ssa_exprs.proofs.Chains.{tests_at}
use Rattle.ssa_statements.specs.Rungs.{label_in}
use Rattle.ssa_statements.proofs.cases.labelled.Goals as goal

pub returns-in_ok-related-in-One : goal.returns-in_ok-related-in-One
returns-in_ok-related-in-One c = λ p here.
    let same : to_z w64 (of_z w64 c.in-One.n) ≡ c.in-One.n = search (rules, to_z-of_z) in
    tests_as (ap (label_in p here c.args.v) c.in-One.is ∙ ap (λ n. fork_branch 0 (give c.args.v) (const (unsigned n))) (sym same)) c.in_ok-related-in-One.ensures

pub returns-in_ok-related-in-Range-2 : goal.returns-in_ok-related-in-Range-2
returns-in_ok-related-in-Range-2 c = λ p here.
    let same1 : to_z w64 (of_z w64 c.in-Range.first) ≡ c.in-Range.first = search (rules, to_z-of_z) in
    let same2 : to_z w64 (of_z w64 c.in-Range.last) ≡ c.in-Range.last = search (rules, to_z-of_z) in
    let middle_is = c.in_ok-middle-in-Range.ensures.number in
    tests_as (ap (label_in p here c.args.v) c.in-Range.is)
    (tests_and (tests_at c.in_ok-middle-in-Range.ensures.given middle_is refl c.freq-freq.ensures (tests_as (ap (λ n. fork_branch 10 (give c.args.v) (const (unsigned n))) (sym same1)) c.in_ok-related-in-Range.ensures))
    (tests_at (c.in_ok-bind-in-Range.ensures ∙ ap (bound c.related-in-Range.new.b) middle_is) refl refl refl (tests_as (ap (λ n. fork_branch 13 (give c.args.v) (const (unsigned n))) (sym same2)) c.in_ok-related-in-Range-2.ensures)))
