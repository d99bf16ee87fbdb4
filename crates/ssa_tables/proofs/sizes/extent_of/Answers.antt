use Rattle.std.proofs.Common.{◌≡◌, ◌%◌, ◌*◌, ◌^◌, ℕ, Bool, subst, sym, arith, ap, ap₂, ◌∙◌, Some}
use Rattle.ob_types.specs.Trees.{bytes}
use Rattle.ob_types.specs.declared.types.Extent.{Extent}
use Rattle.ob_types.proofs.Counting.{product_on, whole_is}
use Rattle.ob_types.proofs.DataTrees.{bytes-array, wide-array}
use Rattle.ssa_tables.proofs.Extents.{few_bytes}
use Rattle.ssa_tables.proofs.Levels.{levels_less}
use Rattle.ssa_tables.proofs.sizes.extent_of.Goals as goal

pub loop-length-smaller : goal.loop-length-smaller
loop-length-smaller c = levels_less c.args.types.now c.requires.sizes.fine c.loop-length.at c.in-Some.length c.in-Some.element c.loop-length.invariant.there c.in-Some.ensures.array

pub loop-length-preserved : goal.loop-length-preserved
loop-length-preserved c =
    let t = c.args.types.now in
    let fine = c.requires.sizes.fine in
    let at = c.loop-length.at in
    let n = c.in-Some.length in
    let e = c.in-Some.element in
    let is = c.in-Some.ensures.array in
    record {
      there = c.requires.sizes.closed.element at (Some n) e is;
      counted = subst (λ m. (c.loop-length.count * m % 2 ^ 64 * bytes t e) % 2 ^ 64 ≡ bytes t c.args.k % 2 ^ 64) (sym c.from-count.ensures)
          (product_on t c.loop-length.count n (bytes t at) (bytes t e) (bytes t c.args.k) (bytes-array t fine at n e is) c.loop-length.invariant.counted);
      wide = sym (wide-array t fine at n e is) ∙ c.loop-length.invariant.wide;
    }

pub overflow_cast-result : goal.overflow_cast-result
overflow_cast-result c =
    let t = c.args.types.now in
    let few = few_bytes t c.requires.sizes c.args.k c.requires.there in
    let is = whole_is t (c.loop-length.count * c.from.result % 2 ^ 64) (bytes t c.args.k) (ap (λ m. c.loop-length.count * m % 2 ^ 64) (c.from.ensures ∙ ap (λ (x : Extent). x.bytes) c.own_extent-own.ensures) ∙ c.loop-length.invariant.counted) (omega (arith, few)) in
    omega (arith, few, is)

pub returns : goal.returns
returns c =
    let t = c.args.types.now in
    let few = few_bytes t c.requires.sizes c.args.k c.requires.there in
    let is = whole_is t (c.loop-length.count * c.from.result % 2 ^ 64) (bytes t c.args.k) (ap (λ m. c.loop-length.count * m % 2 ^ 64) (c.from.ensures ∙ ap (λ (x : Extent). x.bytes) c.own_extent-own.ensures) ∙ c.loop-length.invariant.counted) (omega (arith, few)) in
    ap₂ (λ (n : ℕ) (w : Bool). record { bytes = n; wide = w }) is (ap (λ (x : Extent). x.wide) c.own_extent-own.ensures ∙ c.loop-length.invariant.wide)
