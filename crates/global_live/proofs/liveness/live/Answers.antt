use Rattle.std.proofs.Common.{◌≡◌, ◌+◌, ◌/◌, ◌∙◌, ap, subst, sym, [], replicate, length}
use Rattle.global_live.specs.Reading.{HasLive}
use Rattle.global_live.specs.Search.{marks_of, IsKnown, IsFull, IsFilled}
use Rattle.global_live.proofs.Tables.{table_is_known}
use Rattle.global_live.proofs.Filled.{starts_full, has_live}
use Rattle.global_live.proofs.liveness.live.Goals as goal

pub returns : goal.returns
returns c valid =
    let f = c.args.flow.now in
    let made = c.as_slice.ensures.value ∙ c.in_ok-makers.ensures in
    let known : IsKnown f c.as_slice.result.now = subst (IsKnown f) (sym made) (table_is_known f valid) in
    let rows : c.in_ok-rows.rows ≡ replicate (length f.nodes) (replicate (f.values / 64 + 1) 0) = c.in_ok-rows.ensures ∙ ap (λ n. replicate n (replicate (f.values / 64 + 1) 0)) c.len-nodes.ensures in
    let empty : IsFull f (record { rows = c.in_ok-rows.rows; pending = [] }) = subst (λ rs. IsFull f (record { rows = rs; pending = [] })) (sym rows) (starts_full f) in
    let full : IsFull f (record { rows = c.in_ok-rows.rows; pending = c.new-2.result.items }) = subst (λ ps. IsFull f (record { rows = c.in_ok-rows.rows; pending = ps })) (sym c.new-2.ensures.items) empty in
    let filled : IsFilled f (length f.nodes) (marks_of c.follow_nodes.new.search) = c.in_ok-follow_nodes.ensures known full in
    subst (HasLive f) (sym c.into_live_sets.ensures) (has_live f valid (marks_of c.follow_nodes.new.search) filled)
