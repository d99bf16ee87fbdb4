use Rattle.std.proofs.Common.{◌∙◌, ◌<◌, length, Box, Vec, Global, refl, sym, ap, arith, rules}
use Rattle.std.specs.Box.{with_value}
use Rattle.ob_types.specs.declared.tree.Expr.{Expr}
use Rattle.ob_types.specs.declared.tree.Link.{Link}
use Rattle.ob_types.specs.declared.tree.Argument.{Argument}
use Rattle.ob_types.specs.declared.tree.Call.TheVariants as TheCall
use Rattle.ob_types.specs.declared.tree.Expr.TheVariants as TheExpr
use Rattle.ob_types.specs.declared.tree.Designator.TheVariants as TheDesignator
use Rattle.ob_types.specs.declared.tree.Designator as D
use Rattle.ob_types.specs.declared.tree.Call as X
use Rattle.ob_types.specs.declared.tree.Argument.TheBlock as Y
use Rattle.ob_types.specs.declared.tree.Expr as Z
use Rattle.ob_types.specs.declared.tree.Link as K
use Rattle.ob_types.specs.declared.tree.Link.TheVariants as TheLink
use Rattle.check_procedures.specs.numbers.Numbering.{numbering_of}
use Rattle.check_procedures.specs.numbers.Readings.{each, expressions, links, designators, accesses, selectors, calls, arguments}
use Rattle.check_procedures.proofs.numbers.Keeping.{at, next_turn, made_so}
use Rattle.check_procedures.proofs.numbers.Leaves.{kind_kept}
use Rattle.check_procedures.proofs.numbers.ExpressionParts.{guard, chain, compare, compare_texts, is_in, elements, reached, part_of, direct, indirect}
use Rattle.check_procedures.proofs.numbers.expressions.+expressions.Goals as goal

pub renumber_expression-returns-in_ok-renumber_designator-in-Guard : goal.renumber_expression-returns-in_ok-renumber_designator-in-Guard
unfolding Z.out-Expr denote.Hole.Carrier.out
renumber_expression-returns-in_ok-renumber_designator-in-Guard t c =
    let made = TheExpr.Guard (with_value c.in-Guard.d c.renumber_designator-in-Guard.new.d) c.in-Guard._tags in
    made_so (numbering_of c.args.scope.now) expressions c.args.tree.now _ made c.args.uses.now c.renumber_designator-in-Guard.new.uses
    (at (numbering_of c.args.scope.now) expressions c.args.tree.now (TheExpr.Guard c.in-Guard.d c.in-Guard._tags) made c.args.uses.now c.renumber_designator-in-Guard.new.uses c.in-Guard.is
    (guard (numbering_of c.args.scope.now) _ _ _ _ _ _ _ _ refl
    (at (numbering_of c.args.scope.now) designators c.in-Guard.d.value _ _ _ _ (search rules) c.in_ok-renumber_designator-in-Guard.ensures)))
    (rw c.in-Guard.is)

pub renumber_expression-returns-in_ok-renumber_links-in-Chain : goal.renumber_expression-returns-in_ok-renumber_links-in-Chain
renumber_expression-returns-in_ok-renumber_links-in-Chain t c =
    rw c.in-Chain.x-is (at (numbering_of c.args.scope.now) expressions _ _ _ _ _ c.in-Chain.is
    (chain (numbering_of c.args.scope.now) c.in-Chain.x (with_value c.in-Chain.x c.renumber_expression-in-Chain.new.tree) c.in-Chain.links c.renumber_links.new.list _ _ _
    (at (numbering_of c.args.scope.now) expressions _ _ _ _ _ (sym (c.deref_mut-in-Chain.ensures.value ∙ ap (λ (b : Box Expr Global). b.value) c.in-Chain.x-is)) c.in_ok-renumber_expression-in-Chain.ensures)
    (at (numbering_of c.args.scope.now) (each links) _ _ _ _ _ (sym (ap (λ (v : Vec Link Global). v.items) c.in-Chain.links-is)) c.in_ok-renumber_links-in-Chain.ensures)))

pub renumber_expression-returns-in_ok-renumber_expression-in-Compare-2 : goal.renumber_expression-returns-in_ok-renumber_expression-in-Compare-2
unfolding Z.out-Expr denote.Hole.Carrier.out
renumber_expression-returns-in_ok-renumber_expression-in-Compare-2 t c =
    let made = TheExpr.Compare c.in-Compare.field-0 (with_value c.in-Compare.x c.renumber_expression-in-Compare.new.tree) (with_value c.in-Compare.y c.renumber_expression-in-Compare-2.new.tree) in
    made_so (numbering_of c.args.scope.now) expressions c.args.tree.now _ made c.args.uses.now c.renumber_expression-in-Compare-2.new.uses
    (at (numbering_of c.args.scope.now) expressions c.args.tree.now (TheExpr.Compare c.in-Compare.field-0 c.in-Compare.x c.in-Compare.y) made c.args.uses.now c.renumber_expression-in-Compare-2.new.uses c.in-Compare.is
    (compare (numbering_of c.args.scope.now) _ _ _ _ _ _ _ _ _ _ _ _ _ refl
    (at (numbering_of c.args.scope.now) expressions c.in-Compare.x.value _ _ _ _ (search rules) c.in_ok-renumber_expression-in-Compare.ensures)
    (at (numbering_of c.args.scope.now) expressions c.in-Compare.y.value _ _ _ _ (search rules) c.in_ok-renumber_expression-in-Compare-2.ensures)))
    (rw c.in-Compare.is)

pub renumber_expression-returns-in_ok-renumber_designator-in-CompareTexts-2 : goal.renumber_expression-returns-in_ok-renumber_designator-in-CompareTexts-2
unfolding Z.out-Expr denote.Hole.Carrier.out
renumber_expression-returns-in_ok-renumber_designator-in-CompareTexts-2 t c =
    let made = TheExpr.CompareTexts c.in-CompareTexts.field-0 (with_value c.in-CompareTexts.x c.renumber_designator-in-CompareTexts.new.d) (with_value c.in-CompareTexts.y c.renumber_designator-in-CompareTexts-2.new.d) in
    made_so (numbering_of c.args.scope.now) expressions c.args.tree.now _ made c.args.uses.now c.renumber_designator-in-CompareTexts-2.new.uses
    (at (numbering_of c.args.scope.now) expressions c.args.tree.now (TheExpr.CompareTexts c.in-CompareTexts.field-0 c.in-CompareTexts.x c.in-CompareTexts.y) made c.args.uses.now c.renumber_designator-in-CompareTexts-2.new.uses c.in-CompareTexts.is
    (compare_texts (numbering_of c.args.scope.now) _ _ _ _ _ _ _ _ _ _ _ _ _ refl
    (at (numbering_of c.args.scope.now) designators c.in-CompareTexts.x.value _ _ _ _ (search rules) c.in_ok-renumber_designator-in-CompareTexts.ensures)
    (at (numbering_of c.args.scope.now) designators c.in-CompareTexts.y.value _ _ _ _ (search rules) c.in_ok-renumber_designator-in-CompareTexts-2.ensures)))
    (rw c.in-CompareTexts.is)

pub renumber_expression-returns-in_ok-renumber_expression-in-In-2 : goal.renumber_expression-returns-in_ok-renumber_expression-in-In-2
unfolding Z.out-Expr denote.Hole.Carrier.out
renumber_expression-returns-in_ok-renumber_expression-in-In-2 t c =
    let made = TheExpr.In (with_value c.in-In.x c.renumber_expression-in-In.new.tree) (with_value c.in-In.set c.renumber_expression-in-In-2.new.tree) in
    made_so (numbering_of c.args.scope.now) expressions c.args.tree.now _ made c.args.uses.now c.renumber_expression-in-In-2.new.uses
    (at (numbering_of c.args.scope.now) expressions c.args.tree.now (TheExpr.In c.in-In.x c.in-In.set) made c.args.uses.now c.renumber_expression-in-In-2.new.uses c.in-In.is
    (is_in (numbering_of c.args.scope.now) _ _ _ _ _ _ _ _ _ _ _
    (at (numbering_of c.args.scope.now) expressions c.in-In.x.value _ _ _ _ (search rules) c.in_ok-renumber_expression-in-In.ensures)
    (at (numbering_of c.args.scope.now) expressions c.in-In.set.value _ _ _ _ (search rules) c.in_ok-renumber_expression-in-In-2.ensures)))
    (rw c.in-In.is)

pub renumber_link-returns-in_ok-renumber_expression-in-Elements-2 : goal.renumber_link-returns-in_ok-renumber_expression-in-Elements-2
unfolding K.out-Link denote.Hole.Carrier.out
renumber_link-returns-in_ok-renumber_expression-in-Elements-2 t c =
    let made = TheLink.Elements (with_value c.in-Elements.low c.renumber_expression-in-Elements.new.tree) (with_value c.in-Elements.high c.renumber_expression-in-Elements-2.new.tree) in
    made_so (numbering_of c.args.scope.now) links c.args.link.now _ made c.args.uses.now c.renumber_expression-in-Elements-2.new.uses
    (at (numbering_of c.args.scope.now) links c.args.link.now (TheLink.Elements c.in-Elements.low c.in-Elements.high) made c.args.uses.now c.renumber_expression-in-Elements-2.new.uses c.in-Elements.is
    (elements (numbering_of c.args.scope.now) _ _ _ _ _ _ _ _ _ _ _
    (at (numbering_of c.args.scope.now) expressions c.in-Elements.low.value _ _ _ _ (search rules) c.in_ok-renumber_expression-in-Elements.ensures)
    (at (numbering_of c.args.scope.now) expressions c.in-Elements.high.value _ _ _ _ (search rules) c.in_ok-renumber_expression-in-Elements-2.ensures)))
    refl

pub renumber_designator-returns-in_ok-renumber_access-in-Part : goal.renumber_designator-returns-in_ok-renumber_access-in-Part
unfolding D.out-Designator denote.Hole.Carrier.out
renumber_designator-returns-in_ok-renumber_access-in-Part t c =
    let made = TheDesignator.Part (with_value c.in-Part.access c.renumber_access.new.access) in
    made_so (numbering_of c.args.scope.now) designators c.args.d.now _ made c.args.uses.now c.renumber_access.new.uses
    (at (numbering_of c.args.scope.now) designators c.args.d.now (TheDesignator.Part c.in-Part.access) made c.args.uses.now c.renumber_access.new.uses c.in-Part.is
    (part_of (numbering_of c.args.scope.now) c.in-Part.access (with_value c.in-Part.access c.renumber_access.new.access) _ _
    (at (numbering_of c.args.scope.now) accesses c.in-Part.access.value _ _ _ _ (search rules) c.in_ok-renumber_access-in-Part.ensures)))
    (rw c.in-Part.is)

pub renumber_access-returns : goal.renumber_access-returns
renumber_access-returns t c =
    reached (numbering_of c.args.scope.now) c.args.access.now _ _ _ _ c.in_ok-access.ensures c.in_ok-renumber_selectors.ensures (kind_kept (numbering_of c.args.scope.now) _ _ _ c.type_kind-access.ensures)

pub renumber_call-returns-in_ok-renumber_arguments-in-Direct : goal.renumber_call-returns-in_ok-renumber_arguments-in-Direct
unfolding X.out-Call Y.shape-the_row-Argument-0 Y.hidden-the_row-Argument-0 denote.Hole.Carrier.out
renumber_call-returns-in_ok-renumber_arguments-in-Direct t c =
    let made = TheCall.Direct c.in-Direct.field-0 c.renumber_arguments.new.list in
    made_so (numbering_of c.args.scope.now) calls c.args.call.now _ made c.args.uses.now c.renumber_arguments.new.uses
    (at (numbering_of c.args.scope.now) calls c.args.call.now (TheCall.Direct c.in-Direct.field-0 c.in-Direct.list) made c.args.uses.now c.renumber_arguments.new.uses c.in-Direct.is
    (direct (numbering_of c.args.scope.now) c.in-Direct.field-0 c.in-Direct.field-0 c.in-Direct.list c.renumber_arguments.new.list _ _ refl
    (at (numbering_of c.args.scope.now) (each arguments) c.in-Direct.list.items _ _ _ _ (search rules) c.in_ok-renumber_arguments-in-Direct.ensures)))
    (rw c.in-Direct.is)

pub renumber_call-returns-in_ok-renumber_arguments-in-Indirect : goal.renumber_call-returns-in_ok-renumber_arguments-in-Indirect
renumber_call-returns-in_ok-renumber_arguments-in-Indirect t c =
    at (numbering_of c.args.scope.now) calls _ _ _ _ _ c.in-Indirect.is
    (indirect (numbering_of c.args.scope.now) c.in-Indirect.d c.renumber_designator.new.d c.in-Indirect.list c.renumber_arguments-in-Indirect.new.list _ _ _
    (at (numbering_of c.args.scope.now) designators _ _ _ _ _ (sym c.in-Indirect.d-is) c.in_ok-renumber_designator-in-Indirect.ensures)
    (at (numbering_of c.args.scope.now) (each arguments) _ _ _ _ _ (sym (ap (λ (v : Vec Argument Global). v.items) c.in-Indirect.list-is)) c.in_ok-renumber_arguments-in-Indirect.ensures))

pub renumber_links-loop-i-preserved : goal.renumber_links-loop-i-preserved
renumber_links-loop-i-preserved t c =
    let long = c.loop-i.invariant.0.0 in
    let inside : c.loop-i.i < length c.args.list.now.items = omega (arith, long, c.args.list.now.ok.0) in
    next_turn (numbering_of c.args.scope.now) links c.args.list.now.items c.loop-i.list.items c.loop-i.i c.index_mut.result.now c.renumber_link.new.link c.args.uses.now c.loop-i.uses c.renumber_link.new.uses
    long c.loop-i.invariant.0.1 inside c.index_mut.ensures.value c.loop-i.invariant.1 c.in_ok-renumber_link.ensures

pub renumber_selectors-loop-i-preserved : goal.renumber_selectors-loop-i-preserved
renumber_selectors-loop-i-preserved t c =
    let long = c.loop-i.invariant.0.0 in
    let inside : c.loop-i.i < length c.args.list.now.items = omega (arith, long, c.args.list.now.ok.0) in
    next_turn (numbering_of c.args.scope.now) selectors c.args.list.now.items c.loop-i.list.items c.loop-i.i c.index_mut.result.now c.renumber_selector.new.selector c.args.uses.now c.loop-i.uses c.renumber_selector.new.uses
    long c.loop-i.invariant.0.1 inside c.index_mut.ensures.value c.loop-i.invariant.1 c.in_ok-renumber_selector.ensures

pub renumber_arguments-loop-i-preserved : goal.renumber_arguments-loop-i-preserved
renumber_arguments-loop-i-preserved t c =
    let long = c.loop-i.invariant.0.0 in
    let inside : c.loop-i.i < length c.args.list.now.items = omega (arith, long, c.args.list.now.ok.0) in
    next_turn (numbering_of c.args.scope.now) arguments c.args.list.now.items c.loop-i.list.items c.loop-i.i c.index_mut.result.now c.renumber_argument.new.argument c.args.uses.now c.loop-i.uses c.renumber_argument.new.uses
    long c.loop-i.invariant.0.1 inside c.index_mut.ensures.value c.loop-i.invariant.1 c.in_ok-renumber_argument.ensures
