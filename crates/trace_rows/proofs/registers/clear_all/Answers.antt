use Rattle.std.proofs.Common.{◌≡◌, ℕ, zero, suc, arith, List, [], ◌∷◌, None, Option, get_or, refl}
use Rattle.std.proofs.lemmas.List.Edits.{map_over_more}
use Rattle.trace_rows.proofs.registers.clear_all.Goals as goal

at_any : (xs : List (Option ℕ)) (i : ℕ) → get_or xs i None ≡ get_or xs i (get_or xs i None)
at_any [] i = refl
at_any (x ∷ xs) zero = refl
at_any (x ∷ xs) (suc i) = at_any xs i

pub loop-held-preserved : goal.loop-held-preserved
loop-held-preserved c = map_over_more {X = Option ℕ} (λ x. None) c.args.regs.now c.loop-held.regs c.loop-held.held-index (get_or c.loop-held.regs c.loop-held.held-index None) (omega arith) c.loop-held.invariant (at_any c.loop-held.regs c.loop-held.held-index)
