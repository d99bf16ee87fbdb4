use Rattle.std.proofs.Common.{ap, sym, ◌∙◌}
use Rattle.std.specs.Prelude.{min}
use Rattle.a64_select.proofs.Targets.{freq_at-read, made_edge}
use Rattle.a64_select.proofs.edge_splits.edge_node.Goals as goal

pub returns : goal.returns
returns c =
    made_edge c.new.result c.new-2.result c.new-3.result c.min.result _ c.args.to c.new-4.result c.new.ensures c.new-2.ensures c.new-3.ensures
    (c.min.ensures ∙ ap (λ b. min c.args.freq b.freq) (sym c.index-blocks-to.is) ∙ ap (min c.args.freq) (sym (freq_at-read c.args.blocks.now c.args.to c.index-blocks-to.result c.requires c.index-blocks-to.is))) c.new-4.ensures
