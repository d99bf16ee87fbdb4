use Rattle.std.proofs.Common.{◌≡◌, ◌-◌, ◌∙◌, ap, sym, subst, arith, rules, List, length, take, drop, false, true}
use Rattle.std.specs.List.{AllWithin}
use Rattle.std.specs.List.Sorted.{IsPartitionedBy}
use Rattle.std.proofs.lemmas.List.Sorted.{IsPartitionPoint-from_clause}
use Rattle.trace_needs.specs.declared.notes.Note.{Note}
use Rattle.trace_needs.specs.Tables.{is_before}
use Rattle.trace_needs.proofs.Halving.{parted, parted_behind, point_at, point_behind_near, rest_is, IsPoint}
use Rattle.trace_needs.proofs.rows.Rows.count_before.Goals as goal

pub returns-then-not-is_before-clause-point : goal.returns-then-not-is_before-clause-point
returns-then-not-is_before-clause-point c =
    let rows = c.args.self.now in
    let is : is_before c.args.value c.args.position c.index.result.now ≡ false = search rules in
    let here = subst (λ (x : Note). is_before c.args.value c.args.position x ≡ false) c.index.ensures is in
    point_at c.args.value c.args.position rows.notes.items c.loop-at.at c.index.result.now (parted c.args.value c.args.position rows.notes.items rows.values_rise rows.rows_rise) c.loop-at.invariant here

pub returns-clause-point : goal.returns-clause-point
returns-clause-point c =
    let rows = c.args.self.now in
    let notes = rows.notes.items in
    let near = c.min-near.result in
    let before = is_before c.args.value c.args.position in
    let slice = take (length c.deref.result.now - near) (drop near c.deref.result.now) in
    let is : slice ≡ drop near notes = ap (λ (xs : List Note). take (length xs - near) (drop near xs)) c.deref.ensures.value ∙ rest_is notes near in
    let is_parted : IsPartitionedBy before slice = subst (IsPartitionedBy before) (sym is) (parted_behind before notes near (parted c.args.value c.args.position notes rows.values_rise rows.rows_rise)) in
    let point = IsPartitionPoint-from_clause before slice c.partition_point.result c.partition_point.ensures.partitioned is_parted (λ a r q k. search rules) in
    let end = c.loop-at-test.false in
    let passed : AllWithin (λ (n : Note). before n ≡ true) notes 0 near = λ k d l m. c.loop-at.invariant k d l (omega (arith, end, m)) in
    point_behind_near c.args.value c.args.position notes near c.partition_point.result passed (subst (λ (notes : List Note). IsPoint c.args.value c.args.position notes c.partition_point.result) is point)
