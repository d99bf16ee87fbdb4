use Rattle.std.proofs.Common.{◌∙◌, sym, refl}
use Rattle.loc_state.proofs.Homing.{all_inserted_is}
use Rattle.loc_state.proofs.homes.Homes.from_slice.Goals as goal

pub returns-then-is_rising : goal.returns-then-is_rising
returns-then-is_rising c = c.in_ok-from_slice.ensures.items ∙ sym (all_inserted_is c.args.values.now (c.if-is_rising.ensures.0 refl))
