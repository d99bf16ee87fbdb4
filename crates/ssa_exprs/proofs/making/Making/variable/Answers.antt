use Rattle.std.proofs.Common.{◌<◌, ◌≤◌, slice_get, length, arith, ap, sym, refl, ◌∙◌}
use Rattle.std.proofs.lemmas.Option.{slice_get_read, slice_get_past}
use Rattle.ssa_exprs.specs.Making.{View}
use Rattle.ssa_exprs.proofs.Giving.{gives_variable, gives_no_variable}
use Rattle.ssa_exprs.proofs.making.Making.variable.Goals as goal

pub returns-then-x-len : goal.returns-then-x-len
returns-then-x-len c =
    let lt : c.args.x < length c.self.inside.env.items = omega (arith, c.if-x-len.true, c.len.ensures, c.self.inside.env.ok.0) in
    gives_variable _ _ _ (ap (λ (v : View). slice_get v.known.env c.args.x) (sym c.self.view_is) ∙ slice_get_read c.self.inside.env.items _ c.args.x _ refl lt c.index.ensures)

pub returns-else-x-len : goal.returns-else-x-len
returns-else-x-len c =
    let le : length c.self.inside.env.items ≤ c.args.x = omega (arith, c.if-x-len.false, c.len.ensures, c.self.inside.env.ok.0) in
    gives_no_variable _ _ _ _ (ap (λ (v : View). slice_get v.known.env c.args.x) (sym c.self.view_is) ∙ slice_get_past c.self.inside.env.items c.args.x le) c.emit.ensures
