use Rattle.std.proofs.Common.{◌≡◌, ◌<◌, ◌/◌, ◌∙◌, sym, ap, subst, length, arith, get_or}
use Rattle.lir_core.specs.Rows.{has_bit}
use Rattle.global_live.specs.Rows.{inserted, with_value}
use Rattle.global_live.proofs.Steps.{written}
use Rattle.global_live.proofs.rows.Rows.insert.Goals as goal

pub returns-clause-rows : goal.returns-clause-rows
returns-clause-rows c =
    let row = c.index_mut-row.result.now in
    let value = c.index_mut-row.ensures.value in
    let length_is : length row.items ≡ length (get_or c.self.inside.rows.items c.args.node row).items = ap (λ r. length r.items) value in
    let word : c.args.value / 64 < length (get_or c.self.inside.rows.items c.args.node row).items = subst (λ k. c.args.value / 64 < k) (c.len-2.ensures.value ∙ length_is) c.if-value-len.false in
    let unset = ap (λ rows. has_bit rows c.args.node c.args.value) c.self.view_is ∙ sym c.has.ensures ∙ c.if-has.false in
    let is = c.set.ensures ∙ ap (λ r. with_value r.items c.args.value) value in
    let e = (written c.self.inside.rows.items (λ r. r.items) c.args.node c.args.value c.set.new.row row (omega arith) word unset is).0 in
    e ∙ ap (λ rows. inserted rows c.args.node c.args.value) c.self.view_is
