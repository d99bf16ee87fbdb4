use Rattle.std.proofs.Common.{rules, ◌<◌, ◌≤◌, suc, take, get_or, length, leb, leb-true, leb-false, sym, subst, ap, ◌∙◌, arith}
use Rattle.std.proofs.lemmas.List.Sorted.{IsPartitionPoint-from_clause, IsPartitionedBy-leb}
use Rattle.ob_judge.specs.Scopes.{line_ends}
use Rattle.check_procedures.proofs.lines.Ends.{rising, few_lines, line_is}
use Rattle.check_procedures.proofs.lines.line_at.Goals as goal

pub overflow_cast-result : goal.overflow_cast-result
overflow_cast-result c = let h = few_lines c.args.source.now.bytes c.args.lines.now c.partition_point.result c.requires.starts c.requires.few c.partition_point.ensures.bound in omega (arith, h)

pub overflow_add-result : goal.overflow_add-result
overflow_add-result c = let h = few_lines c.args.source.now.bytes c.args.lines.now c.partition_point.result c.requires.starts c.requires.few c.partition_point.ensures.bound in omega (arith, h)

pub returns : goal.returns
returns c =
    let bytes = c.args.source.now.bytes in
    let lines = c.args.lines.now in
    let p = c.place-place.result in
    let up = IsPartitionedBy-leb (λ n. n) lines p (λ i j d le l. subst (λ ls. get_or ls i d ≤ get_or ls j d) (sym c.requires.starts) (rising 0 bytes i j d le (subst (λ ls. j < length ls) c.requires.starts l))) in
    let point = IsPartitionPoint-from_clause (λ n. leb n p) _ _ c.partition_point.ensures.partitioned up (λ a r q k. search rules) in
    line_is bytes lines p 0 c.partition_point.result c.requires.starts c.partition_point.ensures.bound (λ k l. leb-true _ _ (point.0 k 0 (omega arith) l)) (λ k g l. leb-false _ _ (point.1 k 0 g l))
    ∙ ap (λ n. suc (line_ends (take n bytes))) c.place-place.ensures
