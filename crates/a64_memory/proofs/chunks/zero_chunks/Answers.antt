use Rattle.std.proofs.Common.{◌≡◌, ◌*◌, ◌≤◌, [], take, length, sym, ap, ◌∙◌, arith, subst}
use Rattle.std.proofs.lemmas.List.{length-replicate}
use Rattle.a64_memory.specs.Chunks.{padded, joined, AreOfLength}
use Rattle.a64_memory.proofs.Joining.{even_zeros, zeros_joined}
use Rattle.a64_memory.proofs.chunks.zero_chunks.Goals as goal

pub returns-clause-even : goal.returns-clause-even
returns-clause-even c = subst (AreOfLength 1048576) (sym c.loop.invariant) (even_zeros 1048576 c.loop.counter)

pub returns-clause-count : goal.returns-clause-count
returns-clause-count c = let all : c.loop.counter ≡ c.args.count = omega arith in ap length c.loop.invariant ∙ length-replicate c.loop.counter (padded 1048576 []) ∙ all

pub returns-clause-zeros : goal.returns-clause-zeros
returns-clause-zeros c =
    let all : c.loop.counter ≡ c.args.count = omega arith in
    λ size l. ap (λ cs. take size (joined cs)) c.loop.invariant ∙ zeros_joined 1048576 c.loop.counter size (subst (λ n. size ≤ 1048576 * n) (sym all) l)
