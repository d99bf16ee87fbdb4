use Rattle.std.proofs.Common.{◌∙◌, ap, sym}
use Rattle.block_runs.specs.Live.{has}
use Rattle.lir_core.specs.Rows.{is_in}
use Rattle.value_sets.proofs.Sets.{has_values}
use Rattle.value_sets.proofs.value_set.ValueSet.has.Goals as goal

pub returns : goal.returns
returns c =
    c.bit.ensures ∙ ap (λ words. is_in words c.args.value) c.as_slice.ensures.value
    ∙ sym (has_values c.self.inside.words.items c.args.value) ∙ ap (λ xs. has xs c.args.value) c.self.view_is
