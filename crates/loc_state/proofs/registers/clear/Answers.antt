use Rattle.std.proofs.Common.{◌≡◌, ℕ, cond, Option, Some, None, get_or, set, ap, sym, ◌∙◌, refl, arith, rules}
use Rattle.std.proofs.lemmas.List.Edits.{map_over_more}
use Rattle.lir_core.specs.Walks.{without}
use Rattle.loc_state.specs.Registers.{is}
use Rattle.loc_state.proofs.registers.clear.Goals.{then-holds, else-holds}
use Rattle.loc_state.proofs.registers.clear.Goals as goal

without_is : (v : ℕ) (x : Option ℕ) → without v x ≡ cond (is v x) None x
without_is v None = refl
without_is v (Some u) = refl

pub loop-content-preserved : goal.loop-content-preserved
loop-content-preserved c =
    let v = c.args.value in
    let regs = c.loop-content.regs in
    let i = c.loop-content.content-index in
    let x = get_or regs i None in
    let step = map_over_more {X = Option ℕ} (without v) c.args.regs.now regs i x (omega arith) c.loop-content.invariant (search rules) in
    elim c.if-holds.branch [
      | then-holds w ↦ w.regs-is ∙ ap (set regs i) (sym (without_is v x ∙ ap (λ b. cond b None x) (sym c.holds.ensures ∙ w.if-holds.true))) ∙ step
      | else-holds w ↦ w.regs-is ∙ ap (set regs i) (sym (without_is v x ∙ ap (λ b. cond b None x) (sym c.holds.ensures ∙ w.if-holds.false))) ∙ step
    ]
