-- Blocks get their places one after the other.
use Rattle.std.proofs.Common.{◌≡◌, ℕ, suc, ◌+◌, ◌<◌, List, ◌∷◌, drop, length, Option, sym, ap, ◌∙◌, arith}
use Rattle.std.proofs.lemmas.List.{drop_more}
use Rattle.std.proofs.lemmas.List.Sums.{fold-append}
use Rattle.lir_core.specs.declared.flow.Node.{Node}
use Rattle.lir_core.specs.Flows.{node_at, no_node}
use Rattle.flow_drawing.specs.declared.places.Place.{Place}
use Rattle.flow_drawing.specs.Order.{entries, order_from}
use Rattle.flow_drawing.specs.Layout.{settle, settle_all}

-- those that lead into a block, the block, and the others
pub turn : (nodes : List Node) (places : List (Option Place)) (b : ℕ) (n : Node) (ns : List Node)
    → settle_all nodes places (order_from nodes b (n ∷ ns)) ≡ settle_all nodes (settle nodes (settle_all nodes places (entries nodes b n.preds)) b) (order_from nodes (suc b) ns)
turn nodes places b n ns = fold-append (settle nodes) places (entries nodes b n.preds) (b ∷ order_from nodes (suc b) ns)

pub next_turn : (nodes : List Node) (before entered after whole : List (Option Place)) (b : ℕ) → b < length nodes → entered ≡ settle_all nodes before (entries nodes b (node_at nodes b).preds) → after ≡ settle nodes entered b
    → settle_all nodes before (order_from nodes b (drop b nodes)) ≡ whole → settle_all nodes after (order_from nodes (b + 1) (drop (b + 1) nodes)) ≡ whole
next_turn nodes before entered after whole b l entering settling known =
    let e : b + 1 ≡ suc b = omega arith in
    let n = node_at nodes b in
    let ns = drop (b + 1) nodes in
    ap (λ (ps : List (Option Place)). settle_all nodes ps (order_from nodes (b + 1) (drop (b + 1) nodes))) (settling ∙ ap (λ (ps : List (Option Place)). settle nodes ps b) entering)
    ∙ ap (λ k. settle_all nodes (settle nodes (settle_all nodes before (entries nodes b n.preds)) b) (order_from nodes k (drop (b + 1) nodes))) e
    ∙ sym (turn nodes before b n ns) ∙ sym (ap (λ (xs : List Node). settle_all nodes before (order_from nodes b xs)) (drop_more nodes b no_node l)) ∙ known
