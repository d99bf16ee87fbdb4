use Rattle.std.proofs.Common.{◌≢◌, ◌≡◌, ◌⊎◌, inl, inr}
use Rattle.eval_store.proofs.Letters.{agree_first, agree_more, agree_end}
use Rattle.eval_store.proofs.world.World.parted.Goals.{then-left-right-via-then-left-right, then-left-right-via-else-left-right+then-left-eq0}
use Rattle.eval_store.proofs.world.World.parted.Goals as goal

pub returns-then-left-right-clause-ok : goal.returns-then-left-right-clause-ok
returns-then-left-right-clause-ok c = λ xs ys h g.
    let parts : (c.in-Ok.x ≢ c.in-Ok-character.y) ⊎ (c.in-Ok.x ≡ 0) = elim c.then-left-right.branch [ then-left-right-via-then-left-right w ↦ inl w.if-left-right.true | then-left-right-via-else-left-right+then-left-eq0 w ↦ inr w.if-left-eq0.true ] in
    agree_end xs ys c.characters.common c.in-Ok.x c.in-Ok-character.y (c.characters.invariant xs ys h g) (c.in-Ok.ensures.ok xs h) (c.in-Ok-character.ensures.ok ys g) parts

pub characters-preserved : goal.characters-preserved
characters-preserved c = λ xs ys h g. agree_more xs ys c.characters.common c.in-Ok.x c.in-Ok-character.y (c.characters.invariant xs ys h g) (c.in-Ok.ensures.ok xs h) (c.in-Ok-character.ensures.ok ys g) c.if-left-right.false c.if-left-eq0.false
