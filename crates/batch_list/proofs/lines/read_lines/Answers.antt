use Rattle.std.proofs.Common.{◌-◌, map, take, arith, subst}
use Rattle.std.proofs.lemmas.List.{length-map}
use Rattle.std.specs.List.{AllZip}
use Rattle.batch_list.proofs.Reading.{IsLineOf, some_row, few_rows, one_line_more, bad_row, no_end, all_lines, seen_of, found_line, found_none}
use Rattle.batch_list.proofs.lines.read_lines.Goals as goal

pub overflow_sub-last : goal.overflow_sub-last
overflow_sub-last c =
    let some = some_row c.args.text.now (map (λ x. x.now) c.in_ok-all.all.items) c.in_ok-all.ensures in
    omega (arith, length-map c.in_ok-all.all.items (λ x. x.now), some)

pub overflow_cast-result : goal.overflow_cast-result
overflow_cast-result c =
    let few = few_rows c.args.text.now (map (λ x. x.now) c.in_ok-all.all.items) c.in_ok-all.ensures in
    omega (arith, length-map c.in_ok-all.all.items (λ x. x.now), few)

pub overflow_add-result : goal.overflow_add-result
overflow_add-result c =
    let few = few_rows c.args.text.now (map (λ x. x.now) c.in_ok-all.all.items) c.in_ok-all.ensures in
    omega (arith, length-map c.in_ok-all.all.items (λ x. x.now), few)

pub overflow_cast-result-else-row-eq0 : goal.overflow_cast-result-else-row-eq0
overflow_cast-result-else-row-eq0 c =
    let few = few_rows c.args.text.now (map (λ x. x.now) c.in_ok-all.all.items) c.in_ok-all.ensures in
    omega (arith, length-map c.in_ok-all.all.items (λ x. x.now), few)

pub overflow_add-result-else-row-eq0 : goal.overflow_add-result-else-row-eq0
overflow_add-result-else-row-eq0 c =
    let few = few_rows c.args.text.now (map (λ x. x.now) c.in_ok-all.all.items) c.in_ok-all.ensures in
    omega (arith, length-map c.in_ok-all.all.items (λ x. x.now), few)

pub loop-i-preserved : goal.loop-i-preserved
loop-i-preserved c =
    one_line_more (map (λ x. x.now) c.in_ok-all.all.items) c.loop-i.lines.items c.push.new.self.items c.loop-i.i c.index-row.result.now.now c.in-Ok-Some.line
    (omega (arith, length-map c.in_ok-all.all.items (λ x. x.now)))
    (seen_of (λ x. x.now) c.in_ok-all.all.items c.loop-i.i c.index-row.result.now (omega arith) c.index-row.ensures)
    c.loop-i.invariant (found_line c.index-row.result.now.now c.in-Ok-Some.field-0 c.in-Ok-Some.line c.in-Ok-Some.field-0-is c.in-Ok-Some.ensures) c.in_ok-push-in-Ok-Some.ensures.items

pub returns-in-Ok-None : goal.returns-in-Ok-None
returns-in-Ok-None c =
    bad_row c.args.text.now (map (λ x. x.now) c.in_ok-all.all.items) c.loop-i.lines.items c.loop-i.i c.index-row.result.now.now c.in_ok-all.ensures
    (omega (arith, length-map c.in_ok-all.all.items (λ x. x.now)))
    (seen_of (λ x. x.now) c.in_ok-all.all.items c.loop-i.i c.index-row.result.now (omega arith) c.index-row.ensures)
    c.loop-i.invariant (found_none c.index-row.result.now.now c.in-Ok-None.field-0 c.in-Ok-None.field-0-is c.in-Ok-None.ensures)

pub index-row-requires-2 : goal.index-row-requires-2
index-row-requires-2 c =
    let some = some_row c.args.text.now (map (λ x. x.now) c.in_ok-all.all.items) c.in_ok-all.ensures in
    omega (arith, length-map c.in_ok-all.all.items (λ x. x.now), some)

pub returns-then-row-eq0 : goal.returns-then-row-eq0
returns-then-row-eq0 c =
    let some = some_row c.args.text.now (map (λ x. x.now) c.in_ok-all.all.items) c.in_ok-all.ensures in
    all_lines c.args.text.now (map (λ x. x.now) c.in_ok-all.all.items) c.loop-i.lines.items (c.len-last.result - 1) c.index-row-2.result.now.now c.in_ok-all.ensures
    (omega (arith, length-map c.in_ok-all.all.items (λ x. x.now), some))
    (seen_of (λ x. x.now) c.in_ok-all.all.items (c.len-last.result - 1) c.index-row-2.result.now (omega (arith, length-map c.in_ok-all.all.items (λ x. x.now), some)) c.index-row-2.ensures)
    (subst (λ n. AllZip IsLineOf (take n (map (λ x. x.now) c.in_ok-all.all.items)) c.loop-i.lines.items) (omega arith) c.loop-i.invariant)
    c.if-row-eq0.true

pub returns : goal.returns
returns c =
    let some = some_row c.args.text.now (map (λ x. x.now) c.in_ok-all.all.items) c.in_ok-all.ensures in
    no_end c.args.text.now (map (λ x. x.now) c.in_ok-all.all.items) c.loop-i.lines.items (c.len-last.result - 1) c.index-row-2.result.now.now c.in_ok-all.ensures
    (omega (arith, length-map c.in_ok-all.all.items (λ x. x.now), some))
    (seen_of (λ x. x.now) c.in_ok-all.all.items (c.len-last.result - 1) c.index-row-2.result.now (omega (arith, length-map c.in_ok-all.all.items (λ x. x.now), some)) c.index-row-2.ensures)
    (subst (λ n. AllZip IsLineOf (take n (map (λ x. x.now) c.in_ok-all.all.items)) c.loop-i.lines.items) (omega arith) c.loop-i.invariant)
    (omega arith)
