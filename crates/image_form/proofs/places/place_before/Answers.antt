use Rattle.std.proofs.Common.{rules, ◌≡◌, ◌^◌, ℕ, suc, ◌-◌, ◌<◌, length, take, sym, ap, ◌∙◌, arith}
use Rattle.std.specs.Prelude.{filter}
use Rattle.std.proofs.lemmas.List.Sorted.{IsPartitionPoint-from_clause}
use Rattle.image_form.proofs.Rising.{begins, partitioned, halved, none_before, last_before, is_there}
use Rattle.image_form.proofs.places.place_before.Goals as goal

pub returns-then-begun-eq0 : goal.returns-then-begun-eq0
returns-then-begun-eq0 c =
    let places = c.args.places.now in
    let w = c.args.word in
    let n = c.partition_point-begun.result in
    let point = IsPartitionPoint-from_clause (begins w) places n c.partition_point-begun.ensures.partitioned (partitioned (2 ^ 32) 0 places w c.requires) (λ a r q k. search rules) in
    let begun : filter (begins w) places ≡ take 0 places = halved places n w point ∙ ap (λ (k : ℕ). take k places) c.if-begun-eq0.true in
    sym (none_before places w begun)

pub returns : goal.returns
returns c =
    let places = c.args.places.now in
    let w = c.args.word in
    let n = c.partition_point-begun.result in
    let point = IsPartitionPoint-from_clause (begins w) places n c.partition_point-begun.ensures.partitioned (partitioned (2 ^ 32) 0 places w c.requires) (λ a r q k. search rules) in
    let some = c.if-begun-eq0.false in
    let bound = c.partition_point-begun.ensures.bound in
    let one : n ≡ suc (n - 1) = omega (arith, some) in
    let begun : filter (begins w) places ≡ take (suc (n - 1)) places = halved places n w point ∙ ap (λ (k : ℕ). take k places) one in
    let lt : n - 1 < length places = omega (arith, some, bound) in
    sym (last_before places (n - 1) w lt begun ∙ is_there places (n - 1) _ lt)
