use Rattle.std.proofs.Common.{List, ℕ, sym, subst}
use Rattle.eval_layouts.specs.Tables.{TableOf}
use Rattle.eval_layouts.proofs.Tabling.{get_there}
use Rattle.eval_layouts.proofs.program.item_of.Goals as goal

pub returns-in-Some : goal.returns-in-Some
returns-in-Some c = λ f h. c.in-Some.ensures (f c.args.k) (subst (TableOf (f c.args.k)) (sym c.as_slice.ensures) (h c.args.k c.index-rows-k.result (get_there c.args.rows.now c.args.k c.index-rows-k.result c.if-k-rows.false c.index-rows-k.is)))
