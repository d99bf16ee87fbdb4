use Rattle.std.proofs.Common.{◌≡◌, List, ℕ, ◌+◌, [], ◌∷◌, ◌++◌, length, take, sym, ap, ◌∙◌, arith}
use Rattle.std.proofs.lemmas.List.{take_more}
use Rattle.ob_types.specs.Meaning.{texts_of}
use Rattle.ob_types.specs.declared.program.Procedure.{Procedure}
use Rattle.eval_layouts.proofs.Tabling.{each_step, texts_more}
use Rattle.eval_layouts.proofs.rows.text_places.Goals as goal

pub loop-procedure-preserved : goal.loop-procedure-preserved
loop-procedure-preserved c =
    let items = c.as_slice-procedure-items.result.now in
    let i = c.loop-procedure.procedure-index in
    let q = c.procedure-item.result in
    let inv = c.loop-procedure.invariant in
    let P : ℕ → ℕ → Type 0 = λ g n. n ≡ length (texts_of (take g c.args.program.now.procedures)) in
    let here : c.loop-procedure.count ≡ length (texts_of (take i c.args.program.now.procedures)) = inv.2 ∙ ap (λ (l : List Procedure). length (texts_of (take i l))) c.as_slice-procedure-items.ensures in
    let step = each_step P c.loop-procedure.list.items c.push.new.self.items c.loop-procedure.count i inv.1 inv.0 c.in_ok-push.ensures.items here in
    let more = ap (λ (l : List Procedure). length (texts_of l)) (take_more items i q c.loop-procedure-test.true ∙ ap (λ (x : Procedure). take i items ++ x ∷ []) (sym c.procedure-item.is)) in
    let one = texts_more (take i items) q in
    let n = c.in-Some.ensures in
    let m = c.len.ensures in
    (step.0, step.1, omega (arith, more, one, n.1, m, inv.2))
