use Rattle.std.proofs.Common.{◌≡◌, ℕ, zero, suc, arith, List, [], ◌∷◌, None, Option, get_or, refl}
use Rattle.std.proofs.lemmas.List.Edits.{map_over_more}
use Rattle.loc_state.proofs.registers.clear_all.Goals as goal

at_any : (xs : List (Option ℕ)) (i : ℕ) → get_or xs i None ≡ get_or xs i (get_or xs i None)
at_any [] i = refl
at_any (x ∷ xs) zero = refl
at_any (x ∷ xs) (suc i) = at_any xs i

pub loop-content-preserved : goal.loop-content-preserved
loop-content-preserved c = map_over_more {X = Option ℕ} (λ x. None) c.args.regs.now c.loop-content.regs c.loop-content.content-index (get_or c.loop-content.regs c.loop-content.content-index None) (omega arith) c.loop-content.invariant (at_any c.loop-content.regs c.loop-content.content-index)
