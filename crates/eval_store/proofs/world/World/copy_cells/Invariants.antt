use Rattle.std.proofs.Common.{◌≡◌, ◌+◌, ◌≤◌}
use Rattle.eval_store.specs.Areas.{address_of}
use Rattle.eval_store.proofs.Copying.{copies}
use Rattle.eval_store.proofs.world.World.copy_cells.Given as goal

abbrev pub invariant-cells : goal.invariant-cells
invariant-cells l = (copies l.fn.count 0 (address_of l.to) (address_of l.from) l.fn.self ≡ copies l.left l.i (address_of l.to) (address_of l.from) l.self) × (l.i + l.left ≡ l.fn.count) × (l.self.turns ≤ l.fn.self.turns)

abbrev pub decreases-cells : goal.decreases-cells
decreases-cells l = l.left
