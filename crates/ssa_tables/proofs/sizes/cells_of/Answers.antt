use Rattle.std.proofs.Common.{◌≡◌, ◌%◌, ◌*◌, ◌^◌, subst, sym, arith, ap, ◌∙◌, Some}
use Rattle.ob_types.specs.Layout.{cells}
use Rattle.ssa_tables.proofs.Levels.{levels_less, counted_on, cells_counted}
use Rattle.ssa_tables.proofs.sizes.cells_of.Goals as goal

pub loop-length-smaller : goal.loop-length-smaller
loop-length-smaller c = levels_less c.args.types.now c.requires.sizes.fine c.loop-length.at c.in-Some.length c.in-Some.element c.loop-length.invariant.0 c.in-Some.ensures.array

pub loop-length-preserved : goal.loop-length-preserved
loop-length-preserved c =
    let t = c.args.types.now in
    let is = c.in-Some.ensures.array in (
      c.requires.sizes.closed.element c.loop-length.at (Some c.in-Some.length) c.in-Some.element is,
      subst (λ m. (c.loop-length.count * m % 2 ^ 64 * cells t c.in-Some.element) % 2 ^ 64 ≡ cells t c.args.k % 2 ^ 64) (sym c.from-count.ensures)
          (counted_on t c.requires.sizes.fine c.loop-length.count c.loop-length.at c.in-Some.length c.in-Some.element (cells t c.args.k) c.loop-length.invariant.0 is c.loop-length.invariant.1),
    )

pub overflow_cast-result : goal.overflow_cast-result
overflow_cast-result c =
    let few = c.requires.sizes.few c.args.k c.requires.there in
    let is = ap (λ m. c.loop-length.count * m % 2 ^ 64) (c.from.ensures ∙ c.own_cells.ensures) ∙ cells_counted c.loop-length.count (cells c.args.types.now c.loop-length.at) (cells c.args.types.now c.args.k) few c.loop-length.invariant.1 in
    omega (arith, few, is)

pub returns : goal.returns
returns c =
    let few = c.requires.sizes.few c.args.k c.requires.there in
    ap (λ m. c.loop-length.count * m % 2 ^ 64) (c.from.ensures ∙ c.own_cells.ensures)
    ∙ cells_counted c.loop-length.count (cells c.args.types.now c.loop-length.at) (cells c.args.types.now c.args.k) few c.loop-length.invariant.1
