use Rattle.std.proofs.Common.{◌≡◌, ◌%◌, ◌*◌, ◌^◌, subst, sym, arith, ap, ◌∙◌, Some}
use Rattle.ob_types.specs.Trees.{bytes}
use Rattle.ob_types.proofs.Counting.{product_on, whole_is}
use Rattle.ob_types.proofs.DataTrees.{bytes-array}
use Rattle.ob_types.proofs.table.Types.bytes.Goals as goal

pub loop-length-preserved : goal.loop-length-preserved
loop-length-preserved c =
    let t = c.args.self.now in
    let is = c.in-Some.ensures.array in
    let before = c.requires.counted.element c.loop-length.at (Some c.in-Some.length) c.in-Some.element is in
    let there = c.loop-length.invariant.0 in (
      omega (arith, before, there),
      subst (λ m. (c.loop-length.count * m % 2 ^ 64 * bytes t c.in-Some.element) % 2 ^ 64 ≡ bytes t c.args.t % 2 ^ 64) (sym c.from-count.ensures)
          (product_on t c.loop-length.count c.in-Some.length (bytes t c.loop-length.at) (bytes t c.in-Some.element) (bytes t c.args.t) (bytes-array t c.requires.counted.fine c.loop-length.at c.in-Some.length c.in-Some.element is) c.loop-length.invariant.1),
    )

pub returns : goal.returns
returns c =
    whole_is c.args.self.now (c.loop-length.count * c.from.result % 2 ^ 64) (bytes c.args.self.now c.args.t)
    (ap (λ m. c.loop-length.count * m % 2 ^ 64) (c.from.ensures ∙ ap (λ x. x.bytes) c.own_extent.ensures) ∙ c.loop-length.invariant.1)
    (c.requires.laid_out.few c.args.t c.requires.known)
