use Rattle.std.proofs.Common.{◌∙◌, sym, ap, subst}
use Rattle.ob_types.specs.Assignable.{same}
use Rattle.ob_types.specs.Counted.{HasOneNumberEach}
use Rattle.type_rows.proofs.Sampled.{has_one_number_each}
use Rattle.type_rows.proofs.sample.is_same.Goals as goal

pub same-requires : goal.same-requires
same-requires c = subst HasOneNumberEach (sym c.requires) has_one_number_each

pub returns : goal.returns
returns c = c.same.ensures ∙ ap (λ t. same t c.args.a c.args.b) c.requires
