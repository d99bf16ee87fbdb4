use Rattle.std.proofs.Common.{◌∙◌, sym, ap, subst}
use Rattle.ob_types.specs.Assignable.{assignable}
use Rattle.ob_types.specs.Counted.{HasOneNumberEach}
use Rattle.type_rows.proofs.Sampled.{has_one_number_each}
use Rattle.type_rows.proofs.sample.is_assignable.Goals as goal

pub assignable-requires : goal.assignable-requires
assignable-requires c = subst HasOneNumberEach (sym c.requires) has_one_number_each

pub returns : goal.returns
returns c = c.assignable.ensures ∙ ap (λ t. assignable t c.args.to c.args.from) c.requires
