use Rattle.std.proofs.Common.{◌++◌, ◌∷◌, [], sym, ◌∙◌}
use Rattle.a64_memory.specs.Texts.{text_at}
use Rattle.a64_machine.proofs.Texts.{seen_more}
use Rattle.a64_machine.proofs.text.outside.Goals as goal

pub loop-n-preserved : goal.loop-n-preserved
loop-n-preserved c =
    let memory = c.args.regions.now in
    let whole = text_at memory c.args.by c.args.from c.args.most in (
      c.loop-n.invariant.0 ++ c.in-Some.field-0 ∷ [],
      seen_more whole memory c.args.by c.loop-n.at c.args.most c.loop-n._n c.loop-n.invariant.0 c.loop-n.invariant.1 c.in-Some.field-0 c.loop-n-test.true (sym c.load1.ensures ∙ c.in-Some.is) c.in-Some.field-0-test.1,
    )
