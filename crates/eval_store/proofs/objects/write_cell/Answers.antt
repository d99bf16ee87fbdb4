use Rattle.std.proofs.Common.{◌<◌, ℕ, ap, get_or, subst}
use Rattle.eval_store.proofs.Written.{written}
use Rattle.eval_store.proofs.objects.write_cell.Goals as goal

pub returns : goal.returns
returns c =
    let P : ℕ → Type 0 = λ n. c.args.at < n in
    let xs = c.args.objects.now in
    let o = c.args.object in
    written xs o c.args.at c.args.cell (get_or xs o c.index-objects-object.result) (get_or xs o c.index-objects-object-2.result) c.set.new.self c.if-object-objects.false (ap (λ d. get_or xs o d) c.index-objects-object.is) (subst P c.len.ensures c.if-at-len.false) (ap (λ d. get_or xs o d) c.index-objects-object-2.is) c.set.ensures
