use Rattle.std.proofs.Common.{ℕ, ap₂, ◌∙◌, sym, subst, List, ◌++◌, ◌≤◌, length, Option}
use Rattle.lir_core.specs.declared.places.Move.{Move}
use Rattle.boundary_resolve.specs.Moves.{reg_moves, home_moves}
use Rattle.boundary_resolve.specs.Before.{place_before, stays_before}
use Rattle.boundary_resolve.proofs.moves.moves_to.Goals as goal

pub returns : goal.returns
returns c few rises few_to =
    let b = c.args.before.now in
    c.in_ok-push_homes.ensures few rises
    ∙ ap₂ (λ (x : List Move) (y : List ℕ). x ++ home_moves (stays_before b) (place_before b) y)
    (c.in_ok-push_registers.ensures few (subst (λ (x : List (Option ℕ)). length x ≤ 16) (sym c.as_slice.ensures) few_to) ∙ ap₂ (λ (x : List Move) (y : List (Option ℕ)). x ++ reg_moves (place_before b) 0 y) c.new-moves.ensures.items c.as_slice.ensures)
    c.as_slice-2.ensures
