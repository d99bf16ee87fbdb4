use Rattle.std.proofs.Common.{◌∙◌, ap, sym}
use Rattle.block_runs.specs.Live.{has}
use Rattle.rising_lists.proofs.Ranks.{has_at_rank}
use Rattle.loc_state.proofs.Homing.{found_at}
use Rattle.loc_state.proofs.homes.Homes.has.Goals as goal

pub returns : goal.returns
returns c =
    let values = c.self.inside.values.items in
    let slice = c.as_slice-values in
    let found = found_at c.args.value values slice.result.now slice.result.now c.rank.result c.is_at.result slice.ensures.value slice.ensures.value c.rank.ensures.rank c.is_at.ensures c.self.invariant in
    sym found.1 ∙ sym (has_at_rank values c.args.value c.self.invariant) ∙ ap (λ xs. has xs c.args.value) c.self.view_is
