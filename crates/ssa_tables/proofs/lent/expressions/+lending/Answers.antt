use Rattle.std.proofs.Common.{◌≡◌, ◌∙◌, ◌||◌, ap, ap₂, sym}
use Rattle.ob_types.specs.declared.tree.Access.{Access}
use Rattle.ssa_lowered.specs.Variables.{origin, lent, lent_at, lent_whole, lent_call}
use Rattle.ssa_assigned.specs.Assigned.{has, unselected_by}
use Rattle.ssa_assigned.proofs.Noting.{or_assoc}
use Rattle.ssa_tables.specs.lent.Lent.{lent_by_links, lent_by_arguments, lent_by_part}
use Rattle.ssa_tables.proofs.lent.Rows.{lent_chain, read_part, whole_part, lent_direct, lent_indirect}
use Rattle.ssa_tables.proofs.lent.expressions.+lending.Goals as goal

pub lend-returns-in_ok-lend_links-in-Chain : goal.lend-returns-in_ok-lend_links-in-Chain
lend-returns-in_ok-lend_links-in-Chain t c = λ x.
    let whole : lent c.args.e.now x ≡ lent c.in-Chain.x.value x || lent_by_links c.in-Chain.links.items x = ap (λ e. lent e x) c.in-Chain.is ∙ lent_chain c.in-Chain.x c.in-Chain.links x in
    c.in_ok-lend_links-in-Chain.ensures x
    ∙ ap₂ (λ a b. a || b) (c.in_ok-lend-in-Chain.ensures x ∙ ap (λ e. has c.args.found.now.items x || lent e x) c.deref-in-Chain.ensures) (ap (λ l. lent_by_links l x) c.deref-in-Chain-2.ensures.value)
    ∙ or_assoc (has c.args.found.now.items x) (lent c.in-Chain.x.value x) (lent_by_links c.in-Chain.links.items x) ∙ ap (λ b. has c.args.found.now.items x || b) (sym whole)

pub lend_call-returns-in_ok-lend_arguments-in-Direct : goal.lend_call-returns-in_ok-lend_arguments-in-Direct
lend_call-returns-in_ok-lend_arguments-in-Direct t c = λ x.
    c.in_ok-lend_arguments-in-Direct.ensures x
    ∙ ap (λ l. has c.args.found.now.items x || lent_by_arguments l x) c.deref.ensures.value
    ∙ ap (λ b. has c.args.found.now.items x || b) (sym (ap (λ k. lent_call k x) c.in-Direct.is ∙ lent_direct c.in-Direct.field-0 c.in-Direct.args x))

pub lend_call-returns-in_ok-lend_arguments-in-Indirect : goal.lend_call-returns-in_ok-lend_arguments-in-Indirect
lend_call-returns-in_ok-lend_arguments-in-Indirect t c = λ x.
    let whole : lent_call c.args.c.now x ≡ lent_at c.in-Indirect.d x || lent_by_arguments c.in-Indirect.args.items x = ap (λ k. lent_call k x) c.in-Indirect.is ∙ lent_indirect c.in-Indirect.d c.in-Indirect.args x in
    c.in_ok-lend_arguments-in-Indirect.ensures x
    ∙ ap₂ (λ a b. a || b) (c.in_ok-lend_read-in-Indirect.ensures x) (ap (λ l. lent_by_arguments l x) c.deref-in-Indirect.ensures.value)
    ∙ or_assoc (has c.args.found.now.items x) (lent_at c.in-Indirect.d x) (lent_by_arguments c.in-Indirect.args.items x) ∙ ap (λ b. has c.args.found.now.items x || b) (sym whole)

pub lend_read-returns-in_ok-lend_part-in-Part : goal.lend_read-returns-in_ok-lend_part-in-Part
lend_read-returns-in_ok-lend_part-in-Part t c = λ x.
    let a = c.deref-access.result.now in
    let whole : lent_at c.args.d.now x ≡ lent_by_part a.base a.selectors.items x =
    ap (λ d. lent_at d x) c.in-Part.is ∙ read_part c.in-Part.inner x ∙ ap (λ (k : Access). lent_by_part k.base k.selectors.items x) (sym c.deref-access.ensures) in
    c.in_ok-lend_part-in-Part.ensures x
    ∙ ap (λ l. has c.args.found.now.items x || lent_by_part a.base l x) c.as_slice.ensures.value
    ∙ ap (λ b. has c.args.found.now.items x || b) (sym whole)

pub lend_whole-returns-in_ok-lend_part-in-Part : goal.lend_whole-returns-in_ok-lend_part-in-Part
lend_whole-returns-in_ok-lend_part-in-Part t c = λ x.
    let a = c.deref-access.result.now in
    let whole : lent_whole c.args.d.now x ≡ unselected_by (origin a.base) a.selectors.items x || lent_by_part a.base a.selectors.items x =
    ap (λ d. lent_whole d x) c.in-Part.is ∙ whole_part c.in-Part.inner x
    ∙ ap (λ (k : Access). unselected_by (origin k.base) k.selectors.items x || lent_by_part k.base k.selectors.items x) (sym c.deref-access.ensures) in
    c.in_ok-lend_part-in-Part.ensures x
    ∙ ap₂ (λ p q. p || q) (c.in_ok-note_unselected-in-Part.ensures x ∙ ap (λ l. has c.args.found.now.items x || unselected_by (origin a.base) l x) c.as_slice-selectors.ensures.value) (ap (λ l. lent_by_part a.base l x) c.as_slice-selectors.ensures.value)
    ∙ or_assoc (has c.args.found.now.items x) (unselected_by (origin a.base) a.selectors.items x) (lent_by_part a.base a.selectors.items x) ∙ ap (λ b. has c.args.found.now.items x || b) (sym whole)
