use Rattle.std.proofs.Common.{◌≡◌, ◌∙◌, ap, sym, arith, length, reverse, ℕ, suc, ◌+◌, ◌-◌, ◌≤◌}
use Rattle.std.specs.Prelude.{slice_set}
use Rattle.std.proofs.lemmas.List.{length-reverse}
use Rattle.loc_back.specs.Marks.{put_homes}
use Rattle.loc_back.proofs.FrontPlaces.{with_homes, put_reversed, put_nowhere}
use Rattle.loc_back.proofs.front_items.FrontItems+Places.put_homes.Goals as goal

pub returns-then-at-count : goal.returns-then-at-count
returns-then-at-count c =
    let v = c.self.inside.from_last in
    let k : ℕ = c.len-count.result - 1 - c.args.at in
    let at : k + suc c.args.at ≡ length v.items = omega (arith, c.len-count.ensures, v.ok.0, c.if-at-count.true) in
    ap (λ q. reverse (slice_set v.items k (with_homes c.args.homed c.index_mut.result.now q))) c.index_mut.ensures.value
    ∙ put_reversed c.args.homed c.index_mut.result.now v.items c.args.at k at
    ∙ ap (put_homes c.args.at c.args.homed) c.self.view_is

pub returns-else-at-count : goal.returns-else-at-count
returns-else-at-count c =
    let v = c.self.inside.from_last in
    let long : length c.args.self.now ≤ c.args.at =
    omega (arith, c.len-count.ensures, v.ok.0, c.if-at-count.false, length-reverse v.items, ap length c.self.view_is) in
    sym (put_nowhere c.args.homed c.args.at c.args.self.now long)
