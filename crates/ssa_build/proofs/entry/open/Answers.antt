use Rattle.std.proofs.Common.{◌++◌, [], ◌∷◌, map, ap, sym, ◌∙◌, subst, append_assoc}
use Rattle.ssa_lowered.specs.Variables.{opened}
use Rattle.ssa_exprs.specs.Making.{Gives}
use Rattle.ssa_exprs.proofs.Giving.{append_nil}
use Rattle.ssa_tables.specs.Local.{seen}
use Rattle.ssa_build.proofs.Entering.{opened_more, opened_end}
use Rattle.ssa_build.proofs.entry.open.Goals as goal

pub loop-v-preserved : goal.loop-v-preserved
loop-v-preserved c = λ new more g.
    let u = c.in_ok-u.u in
    subst (λ l. Gives c.args.b.now new (opened (map seen c.args.variables.now)) l) (sym (append_assoc c.loop-v.env.items (u ∷ []) more) ∙ ap (λ l. l ++ more) (sym c.in_ok-push.ensures.items))
    (c.loop-v.invariant new (u ∷ more) (opened_more c.args.variables.now c.loop-v.v-index _ u c.loop-v-test.true c.in_ok-u.ensures g))

pub returns : goal.returns
returns c = subst (λ l. Gives c.args.b.now c.loop-v.b (opened (map seen c.args.variables.now)) l) (append_nil c.loop-v.env.items) (c.loop-v.invariant c.loop-v.b [] (opened_end c.loop-v.b c.args.variables.now c.loop-v.v-index c.loop-v-test.false))
