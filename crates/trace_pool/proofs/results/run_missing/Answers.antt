use Rattle.std.proofs.Common.{◌≡◌, sym, ap, ◌∙◌, subst}
use mathlib.Core.Option.{some}
use Rattle.pool_core.proofs.Sums.{get_or_at}
use Rattle.trace_pool.proofs.results.run_missing.Goals as goal

pub hint-requires : goal.hint-requires
hint-requires g c =
    let p = c.in-Some.parent in
    let at = c.parent.ensures ∙ ap some c.in-Some.is in
    let r = c.requires.finals.1 p (c.requires.tree c.args.trace p at) in
    let same : r.0 ≡ c.index.result.now = sym (c.index.ensures ∙ get_or_at _ p r.0 c.index.result.now r.1) in
    (p, at, subst (g.W.Work.is_final c.args.work.now p) same r.2)
