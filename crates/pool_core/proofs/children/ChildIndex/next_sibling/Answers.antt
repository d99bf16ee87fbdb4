use Rattle.pool_core.proofs.Chains.{next_found}
use Rattle.pool_core.proofs.children.ChildIndex.next_sibling.Goals as goal

pub returns : goal.returns
returns c t k at = next_found c.self.inside.parents.items c.self.inside.first.items c.self.inside.next.items c.self.invariant c.args.self.now c.self.view_is c.args.child c.index.result.now c.requires c.index.ensures t k at
