-- A plan's blocks, homes and frame are those of the placed procedure.
use Rattle.std.proofs.Common.{◌≡◌, ℕ, suc, ◌+◌, ◌<◌, List, [], ◌∷◌, map, length, drop, get_or, Bool, refl, arith, sym, ap, ap₂, ◌∙◌, subst}
use Rattle.std.specs.Prelude.{flat_map}
use Rattle.block_runs.specs.Blocks.{CodeBlock}
use Rattle.block_runs.specs.Live.{has}
use Rattle.lir_core.specs.declared.flow.Flow.{Flow}
use Rattle.lir_core.specs.declared.places.TraceOut.{TraceOut}
use Rattle.lir_core.specs.Flows.{code_node, code_nodes, node_at}
use Rattle.lir_core.specs.Lines.{slots_of as slots_in_calls}
use Rattle.trace_build.specs.Cuts.{lists_of, all_nodes, AllTraces}
use Rattle.boundary_resolve.specs.declared.code_line.CodeLine.{CodeLine}
use Rattle.boundary_resolve.specs.Placing.{entry_steps, node_lines}
use Rattle.boundary_resolve.specs.Edges.{AreSound}
use Rattle.boundary_resolve.proofs.Between.{blocks_at}
use Rattle.placed_code.specs.Placed.{Copy, Cell, Block, Placed, no_block}
use Rattle.placed_code.specs.Words.{slots_of}
use Rattle.placed_code.specs.Results.{Part, part_of, placed_block, placed_blocks, placed, with_copies, with_cells, with_blocks, homes_of, rank_in}
use Rattle.placed_code.proofs.Parts.{length_map, get_mapped, length_blocks, block_is}
use Rattle.linked_flows.specs.Allocations.{Cut, copies_of, steps_of, part_at, allocated}
use Rattle.linked_flows.proofs.Edges.{count}
use Rattle.linked_flows.proofs.Nodes.{traced}
use Rattle.link_layout.specs.declared.copies.Copy.{Copy as Move}
use Rattle.link_layout.specs.Spots.{copy_of}
use Rattle.link_blocks.specs.Plans.{block_in, plain_cell, plain_block, plain}
use Rattle.link_blocks.specs.Ahead.{edges_ahead, behind_edges, AreAllDistinct}
use Rattle.link_blocks.specs.Laid.{IsCutOf, AreLaid}
use Rattle.link_blocks.specs.declared.plans.Block.{Block as Made}
use Rattle.link_blocks.specs.declared.planning.Laid.{Laid}
use Rattle.link_blocks.proofs.Flat.{edges_flat, behind_edges_flat}
use Rattle.link_blocks.proofs.Nodes.{all_distinct}
use Rattle.linked_flows.proofs.Run.{part_is}

pub lists_same : {A : Type 0} (d : A) (xs ys : List A) → length xs ≡ length ys → ((i : ℕ) → i < length xs → get_or xs i d ≡ get_or ys i d) → xs ≡ ys
lists_same d [] [] n each = refl
lists_same d [] (y ∷ ys) n each = cc
lists_same d (x ∷ xs) [] n each = cc
lists_same d (x ∷ xs) (y ∷ ys) n each = ap₂ (λ a as'. a ∷ as') (each 0 (omega arith)) (lists_same d xs ys (omega (arith, n)) (λ i l. each (suc i) (omega (arith, l))))

abbrev pub blocks_of : Cut → List Block
blocks_of c = placed_blocks steps_of 0 (code_nodes c.flow.nodes) (allocated c).parts

module _ (k : ℕ) (c : Cut) (sound : AreSound k c.flow c.traces c.outs) where
  pub one_block : (n : ℕ) → n < length c.flow.nodes → get_or (blocks_of c) n no_block ≡ placed_block steps_of (code_node (node_at c.flow.nodes n)) (part_at c n)
  one_block n l =
      let m = count k c.flow c.traces c.outs sound in
      let z : 0 + n ≡ n = omega arith in
      block_is steps_of 0 (code_nodes c.flow.nodes) (allocated c).parts n (omega (arith, l, m))
      ∙ ap₂ (λ (bl : CodeBlock) (part : Part). placed_block steps_of bl part) (blocks_at c.flow.nodes n) (ap (λ i. part_of (allocated c).parts i) z ∙ part_is (part_at c) 0 (length c.flow.nodes) n l ∙ ap (part_at c) z)

  pub all_made : (laid : Laid) → laid.order.items ≡ all_nodes (lists_of c.traces) → AreLaid c laid → map block_in laid.blocks.items ≡ map plain_block (blocks_of c)
  all_made laid order is =
      let m = count k c.flow c.traces c.outs sound in
      let many = length_map block_in laid.blocks.items in
      let wide = length_map plain_block (blocks_of c) in
      let long = length_blocks steps_of 0 (code_nodes c.flow.nodes) (allocated c).parts in
      let each = is.each in
      lists_same no_block (map block_in laid.blocks.items) (map plain_block (blocks_of c)) (omega (arith, m, many, wide, long, each))
      (λ i l.
      let low : i < length c.flow.nodes = omega (arith, l, many, each) in
      is.blocks i (ap (λ (xs : List ℕ). has xs i) order ∙ traced k c.flow c.traces c.outs sound i low)
      ∙ sym (get_mapped plain_block (blocks_of c) i no_block no_block (omega (arith, low, m, long)) ∙ ap plain_block (one_block i low)))

---- Homes

cells_homes : (cells : List Cell) (vs : List ℕ) → with_cells (map plain_cell cells) vs ≡ with_cells cells vs
cells_homes [] vs = refl
cells_homes (cell ∷ cells) vs = ap (with_copies cell.copies) (cells_homes cells vs)

blocks_homes : (bls : List Block) (vs : List ℕ) → with_blocks (map plain_block bls) vs ≡ with_blocks bls vs
blocks_homes [] vs = refl
blocks_homes (bl ∷ bls) vs = cells_homes bl.body (with_copies bl.copies (with_blocks (map plain_block bls) vs)) ∙ ap (λ (ws : List ℕ). with_cells bl.body (with_copies bl.copies ws)) (blocks_homes bls vs)

pub homes_made : (first : List Copy) (bls : List Block) → homes_of first (map plain_block bls) ≡ homes_of first bls
homes_made first bls = ap (with_copies first) (blocks_homes bls [])

-- what code has made of a cut, as far as it goes
pub record IsMade (c : Cut) (first : List Move) (order homes : List ℕ) (blocks : List Made) : Type 0 where
  pub first_is : map copy_of first ≡ copies_of (entry_steps c.flow c.traces c.outs)
  pub blocks_are : map block_in blocks ≡ map plain_block (blocks_of c)
  pub homes_are : homes ≡ homes_of (copies_of (entry_steps c.flow c.traces c.outs)) (blocks_of c)
  pub order_is : order ≡ all_nodes (lists_of c.traces)

pub is_made : (k : ℕ) (c : Cut) (f : Flow) (lines : List CodeLine) (outs : List TraceOut) → IsCutOf k f lines outs c → (first : List Move) (laid : Laid) (blocks : List Made) (homes : List ℕ) (at : ℕ)
    → map copy_of first ≡ edges_ahead lines → drop at lines ≡ behind_edges lines
    → (f.nodes ≡ c.flow.nodes → outs ≡ c.outs → AreSound k c.flow c.traces c.outs → AllTraces c.flow (lists_of c.traces) → AreAllDistinct lines → drop at lines ≡ flat_map (node_lines c.flow c.traces c.outs) (all_nodes (lists_of c.traces)) → (laid.order.items ≡ all_nodes (lists_of c.traces)) × AreLaid c laid)
    → map block_in blocks ≡ map block_in laid.blocks.items → homes ≡ homes_of (map copy_of first) (map block_in blocks) → IsMade c first laid.order.items homes blocks
is_made k c f lines outs is first laid blocks homes at front back read made found =
    let steps = entry_steps c.flow c.traces c.outs in
    let nodes = flat_map (node_lines c.flow c.traces c.outs) (all_nodes (lists_of c.traces)) in
    let none = no_edges c (all_nodes (lists_of c.traces)) in
    let first_is : map copy_of first ≡ copies_of steps = front ∙ ap edges_ahead is.lines_are ∙ edges_flat steps nodes none.0 in
    let rest : drop at lines ≡ nodes = back ∙ ap behind_edges is.lines_are ∙ behind_edges_flat steps nodes none.1 in
    let laid_is = read (ap (λ (x : Flow). x.nodes) is.flow_is) is.outs_are is.sound is.paths (subst AreAllDistinct (sym is.lines_are) (all_distinct k c is.sound is.paths)) rest in
    let blocks_are : map block_in blocks ≡ map plain_block (blocks_of c) = made ∙ all_made k c is.sound laid laid_is.0 laid_is.1 in
    record {
      first_is = first_is;
      blocks_are = blocks_are;
      homes_are = found ∙ ap₂ (λ (ms : List Copy) (bls : List Block). homes_of ms bls) first_is blocks_are ∙ homes_made (copies_of steps) (blocks_of c);
      order_is = laid_is.0;
    }
  where
    no_edges : (c : Cut) (ns : List ℕ) → (edges_ahead (flat_map (node_lines c.flow c.traces c.outs) ns) ≡ []) × (behind_edges (flat_map (node_lines c.flow c.traces c.outs) ns) ≡ flat_map (node_lines c.flow c.traces c.outs) ns)
    no_edges c [] = (refl, refl)
    no_edges c (n ∷ ns) = (refl, refl)

pub placed_same : (c : Bool) (cells bytes outs : ℕ) (homes homes' : List ℕ) (first first' : List Copy) (bls bls' : List Block) (order order' : List ℕ) → homes ≡ homes' → first ≡ first' → bls ≡ bls' → order ≡ order'
    → (let pr : Placed = record { counted = c; cells = cells; bytes = bytes; outs = outs; homes = length homes; rank = rank_in homes; copies = first; blocks = bls; order = order } in pr)
    ≡ record { counted = c; cells = cells; bytes = bytes; outs = outs; homes = length homes'; rank = rank_in homes'; copies = first'; blocks = bls'; order = order' }
placed_same c cells bytes outs homes homes' first first' bls bls' order order' e f g h =
    ap (λ (vs : List ℕ). let pr : Placed = record { counted = c; cells = cells; bytes = bytes; outs = outs; homes = length vs; rank = rank_in vs; copies = first; blocks = bls; order = order } in pr) e
    ∙ ap (λ (ms : List Copy). let pr : Placed = record { counted = c; cells = cells; bytes = bytes; outs = outs; homes = length homes'; rank = rank_in homes'; copies = ms; blocks = bls; order = order } in pr) f
    ∙ ap (λ (bs : List Block). let pr : Placed = record { counted = c; cells = cells; bytes = bytes; outs = outs; homes = length homes'; rank = rank_in homes'; copies = first'; blocks = bs; order = order } in pr) g
    ∙ ap (λ (xs : List ℕ). let pr : Placed = record { counted = c; cells = cells; bytes = bytes; outs = outs; homes = length homes'; rank = rank_in homes'; copies = first'; blocks = bls'; order = xs } in pr) h

-- a frame's slots are those of the placed procedure
pub slots_made : (c : Cut) (first : List Move) (order homes : List ℕ) (blocks : List Made) (f : Flow) (slots : ℕ) → IsMade c first order homes blocks → f ≡ c.flow → slots ≡ slots_in_calls (code_nodes f.nodes)
    → slots + (1 + length homes) ≡ slots_of (placed steps_of (allocated c))
slots_made c first order homes blocks f slots is e s =
    ap₂ (λ m (vs : List ℕ). m + (1 + length vs)) (s ∙ ap (λ (x : Flow). slots_in_calls (code_nodes x.nodes)) e) is.homes_are

pub plan_is : (c : Cut) (first first' : List Move) (order order' homes : List ℕ) (blocks blocks' : List Made) (f : Flow) (slots : ℕ) → IsMade c first order homes blocks → first' ≡ first → order' ≡ order → blocks' ≡ blocks → f ≡ c.flow → slots ≡ slots_in_calls (code_nodes f.nodes)
    → (let pr : Placed = record { counted = f.counted; cells = f.local_cells; bytes = f.local_bytes; outs = slots; homes = length homes; rank = rank_in homes; copies = map copy_of first'; blocks = map block_in blocks'; order = order' } in pr) ≡ plain (placed steps_of (allocated c))
plan_is c first first' order order' homes blocks blocks' f slots is e1 e2 e3 e s =
    ap₂ (λ (x : Flow) (m : ℕ). let pr : Placed = record { counted = x.counted; cells = x.local_cells; bytes = x.local_bytes; outs = m; homes = length homes; rank = rank_in homes; copies = map copy_of first'; blocks = map block_in blocks'; order = order' } in pr) e (s ∙ ap (λ (x : Flow). slots_in_calls (code_nodes x.nodes)) e)
    ∙ placed_same c.flow.counted c.flow.local_cells c.flow.local_bytes (slots_in_calls (code_nodes c.flow.nodes)) homes (homes_of (copies_of (entry_steps c.flow c.traces c.outs)) (blocks_of c)) (map copy_of first') (copies_of (entry_steps c.flow c.traces c.outs)) (map block_in blocks') (map plain_block (blocks_of c)) order' (all_nodes (lists_of c.traces))
    is.homes_are (ap (map copy_of) e1 ∙ is.first_is) (ap (map block_in) e3 ∙ is.blocks_are) (e2 ∙ is.order_is)
