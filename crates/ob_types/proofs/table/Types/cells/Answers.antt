use Rattle.std.proofs.Common.{◌≡◌, ◌%◌, ◌*◌, ◌^◌, subst, sym, arith, ap, ◌∙◌, Some}
use Rattle.ob_types.specs.Layout.{cells}
use Rattle.ob_types.proofs.Counting.{counted-array, counted-whole}
use Rattle.ob_types.proofs.table.Types.cells.Goals as goal

pub loop-length-preserved : goal.loop-length-preserved
loop-length-preserved c =
    let t = c.args.self.now in
    let is = c.in-Some.ensures.array in
    let before = c.requires.counted.element c.loop-length.at (Some c.in-Some.length) c.in-Some.element is in
    let there = c.loop-length.invariant.0 in (
      omega (arith, before, there),
      subst (λ m. (c.loop-length.count * m % 2 ^ 64 * cells t c.in-Some.element) % 2 ^ 64 ≡ cells t c.args.t % 2 ^ 64) (sym c.from-count.ensures)
          (counted-array t c.requires.counted c.loop-length.count c.loop-length.at c.in-Some.length c.in-Some.element (cells t c.args.t) there is c.loop-length.invariant.1),
    )

pub returns : goal.returns
returns c =
    counted-whole c.args.self.now c.requires.counted c.args.t (c.loop-length.count * c.own_cells.result % 2 ^ 64) c.requires.known
    (ap (λ m. c.loop-length.count * m % 2 ^ 64) c.own_cells.ensures ∙ c.loop-length.invariant.1)
