use Rattle.std.proofs.Common.{◌≡◌, ℕ, ◌+◌, ◌<◌, ◌++◌, ◌∷◌, [], ◌||◌, take, length, refl, sym, ap, ◌∙◌, subst, arith}
use Rattle.std.specs.Prelude.{nat_lt, slice_index}
use Rattle.std.proofs.Math.Seq.{take-length}
use Rattle.std.proofs.lemmas.List.{take_more, length-take-le, length-replicate}
use Rattle.ob_types.specs.declared.statements.Branch.{Branch}
use Rattle.ssa_assigned.specs.Assigned.{has, assigned_list}
use Rattle.ssa_assigned.specs.Numbers.{put_all}
use Rattle.ssa_assigned.proofs.Suffixes.{AreLasting, lasting_none, lasting_more, lasting_last, put_all_length}
use Rattle.ssa_assigned.proofs.branches.lasting.Goals as goal

pub loop-i-init : goal.loop-i-init
loop-i-init c =
    let list = c.in_ok-list.ensures.items_if_clones_equal (λ y e. e) in
    (ap length list ∙ length-replicate c.args.count 0, subst (λ ns. AreLasting [] ns) (sym list) (lasting_none c.args.count))

pub loop-i-preserved : goal.loop-i-preserved
loop-i-preserved c =
    let parts = c.args.parts.now in
    let i = c.loop-i.i in
    let part = c.index-parts-i.result in
    let found = c.as_slice-in-loop-i.result.now in
    let ns = c.loop-i.list.items in
    let grown : take (i + 1) parts ≡ take i parts ++ part ∷ [] = take_more parts i part c.loop-i-test.true ∙ ap (λ y. take i parts ++ y ∷ []) (sym c.index-parts-i.is) in
    let size = length-take-le i parts (omega (arith, c.loop-i-test.true)) in
    let number : i + 1 ≡ length (take i parts) + 1 = ap (λ n. n + 1) (sym size) in
    let same : (x : ℕ) → has found x ≡ assigned_list part.body.items x = λ x.
    ap (λ l. has l x) c.as_slice-in-loop-i.ensures.value
    ∙ c.in_ok-note_all.ensures x
    ∙ ap (λ l. has l x || assigned_list c.as_slice.result.now x) c.clear.ensures.items
    ∙ ap (λ l. assigned_list l x) c.as_slice.ensures.value
    ∙ ap (λ (p : Branch). assigned_list p.body.items x) (sym c.index-parts-i.is) in
    let more = lasting_more (take i parts) part (i + 1) found ns number same c.loop-i.invariant.1 in (
      ap length c.put.ensures ∙ put_all_length (i + 1) found ns ∙ c.loop-i.invariant.0,
      subst (λ ms. AreLasting (take (i + 1) parts) ms) (sym c.put.ensures) (subst (λ ps. AreLasting ps (put_all (i + 1) found ns)) (sym grown) more),
    )

pub returns : goal.returns
returns c = λ x i inside lt.
    let parts = c.args.parts.now in
    let ended : c.loop-i.i ≡ length parts = omega (arith, c.loop-i.auto.i-end, c.loop-i-test.false) in
    let whole : take c.loop-i.i parts ≡ parts = ap (λ n. take n parts) ended ∙ take-length parts in
    let size = subst (λ n. x < n) (sym c.loop-i.invariant.0) inside in
    ap (λ l. nat_lt i (slice_index l x)) c.put-2.ensures
    ∙ lasting_last parts c.args.other.now c.loop-i.list.items x i size lt (subst (λ ps. AreLasting ps c.loop-i.list.items) whole c.loop-i.invariant.1)
