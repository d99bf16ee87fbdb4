-- Flows in traces with sound results are sound results for flows.
use Rattle.std.proofs.Common.{◌≡◌, ℕ, zero, suc, ◌+◌, ◌<◌, ◌≤◌, ◌^◌, List, [], ◌∷◌, ◌++◌, map, length, get_or, drop, min, Bool, true, false, refl, arith, sym, ap, ◌∙◌, subst}
use Rattle.run_laws.specs.Layers.{places_from}
use Rattle.block_runs.specs.Blocks.{CodeBlock, block_at, successors}
use Rattle.block_runs.specs.Live.{has}
use Rattle.std.specs.Prelude.{nat_lt}
use Rattle.std.proofs.lemmas.Bool.{ltb-true}
use Rattle.std.proofs.lemmas.Bool.Decides.{nat_tests}
use Rattle.block_runs.specs.Valid.{all_below}
use Rattle.global_live.proofs.Lists.{all_below_in}
use Rattle.global_live.proofs.Tables.{at_block}
use Rattle.lir_core.specs.Flows.{code_nodes, node_at}
use Rattle.lir_core.specs.Sound.{IsSoundNode, room_of}
use Rattle.trace_build.specs.Cuts.{lists_of, all_nodes}
use Rattle.boundary_resolve.proofs.Between.{blocks_at, sound_in}
use Rattle.placed_code.specs.declared.data.ImageData.{ImageData}
use Rattle.placed_code.specs.Claims.{Ordered}
use Rattle.placed_code.specs.Results.{Part, Allocated, no_part, part_of, placed, TakeOver, left_by, carried_by, entry_places, CopiesFit, IsSoundResult, IsImageOf, Agrees}
use Rattle.placed_code.proofs.Parts.{length_blocks}
use Rattle.placed_code.proofs.Agreed.{agreed}
use Rattle.linked_flows.specs.Allocations.{Cut, steps_of, part_at, allocated, all_allocated, IsReady, AreReady}
use Rattle.linked_flows.proofs.Sequence.{sequence}
use Rattle.linked_flows.proofs.Ordering.{dropped_in, position_lt, position_none, position_once, has_of_times, traced_below}
use Rattle.linked_flows.proofs.Edges.{count, over}
use Rattle.linked_flows.proofs.Entry.{enters}
use Rattle.linked_flows.proofs.Nodes.{traced, sound_node, steps_fit, entry_fits}

-- the part of a node
pub part_is : (g : ℕ → Part) (a n b : ℕ) → b < n → get_or (map g (places_from a n)) b no_part ≡ g (a + b)
part_is g a zero b l = absurd (omega (arith, l))
part_is g a (suc n) zero l = let z : a ≡ a + 0 = omega arith in ap g z
part_is g a (suc n) (suc b) l = let z : suc a + b ≡ a + suc b = omega arith in part_is g (suc a) n b (omega (arith, l)) ∙ ap g z

no_part_is : (g : ℕ → Part) (a n b : ℕ) → n ≤ b → get_or (map g (places_from a n)) b no_part ≡ no_part
no_part_is g a zero b l = refl
no_part_is g a (suc n) zero l = absurd (omega (arith, l))
no_part_is g a (suc n) (suc b) l = no_part_is g (suc a) n b (omega (arith, l))

module _ (k frame : ℕ) (few_regs : k ≤ 16) (c : Cut) (ready : IsReady k frame c) where
  abbrev r : Allocated
  r = allocated c

  part_here : (b : ℕ) → b < length c.flow.nodes → part_of r.parts b ≡ part_at c b
  part_here b l = let z : 0 + b ≡ b = omega arith in part_is (part_at c) 0 (length c.flow.nodes) b l ∙ ap (part_at c) z

  some : 0 < length c.flow.nodes
  some = let n = count k c.flow c.traces c.outs ready.sound in let b = ready.sound.valid.code.begins in omega (arith, n, b)

  four : length (node_at c.flow.nodes 0).params ≤ k
  four =
      let p : length (block_at (code_nodes c.flow.nodes) 0).params ≡ min 4 c.flow.args = ready.sound.valid.code.first_params in
      let same : length (block_at (code_nodes c.flow.nodes) 0).params ≡ length (node_at c.flow.nodes 0).params = ap (λ (b : CodeBlock). length b.params) (blocks_at c.flow.nodes 0) in
      let most = at_most 4 c.flow.args in let few = ready.sound.few.0 in omega (arith, p, same, most, few)
    where
      at_most : (a b : ℕ) → min a b ≤ a
      at_most zero b = omega arith
      at_most (suc a) zero = omega arith
      at_most (suc a) (suc b) = let t = at_most a b in omega (arith, t)

  ordered : Ordered (placed steps_of r)
  ordered =
      let order = all_nodes (lists_of c.traces) in
      let n = count k c.flow c.traces c.outs ready.sound in
      let m = length_blocks steps_of 0 (code_nodes c.flow.nodes) r.parts in
      record {
        all = λ b l. position_lt order b (traced k c.flow c.traces c.outs ready.sound b (omega (arith, n, m, l)));
        once = λ i b rest e.
            let there = has_of_times order b (dropped_in order i b rest e) in
            let low = traced_below c.flow (lists_of c.traces) b ready.paths there in
            let one = ready.sound.partition b (omega (arith, low, n)) in
            position_once order i b rest e (omega (arith, one));
        none = position_none order (length (placed steps_of r).blocks) (absent (has order (length (placed steps_of r).blocks)) refl);
      }
    where
      absent : (t : Bool) → has (all_nodes (lists_of c.traces)) (length (placed steps_of (allocated c)).blocks) ≡ t → t ≡ false
      absent false e = refl
      absent true e =
          let low = traced_below c.flow (lists_of c.traces) (length (placed steps_of (allocated c)).blocks) ready.paths e in
          let m = length_blocks steps_of 0 (code_nodes c.flow.nodes) (allocated c).parts in
          absurd (omega (arith, low, m))

  nodes : (b : ℕ) → b < length c.flow.nodes → IsSoundNode (room_of k c.flow) (code_nodes c.flow.nodes) b (part_of r.parts b).start (part_of r.parts b).lines (part_of r.parts b).named (part_of r.parts b).end
  nodes b l = subst (λ (p : Part). IsSoundNode (room_of k c.flow) (code_nodes c.flow.nodes) b p.start p.lines p.named p.end) (sym (part_here b l)) (sound_node k c.flow c.traces c.outs ready.sound b l)

  fit : (b : ℕ) → CopiesFit (room_of k c.flow) (part_of r.parts b).into × CopiesFit (room_of k c.flow) (part_of r.parts b).leaving
  fit b = by_bound (nat_lt b (length c.flow.nodes)) refl
    where
      by_bound : (t : Bool) → nat_lt b (length c.flow.nodes) ≡ t → CopiesFit (room_of k c.flow) (part_of (allocated c).parts b).into × CopiesFit (room_of k c.flow) (part_of (allocated c).parts b).leaving
      by_bound true t = subst (λ (p : Part). CopiesFit (room_of k c.flow) p.into × CopiesFit (room_of k c.flow) p.leaving) (sym (part_here b (ltb-true b (length c.flow.nodes) t))) (steps_fit k c.flow c.traces c.outs ready.sound b)
      by_bound false t = subst (λ (p : Part). CopiesFit (room_of k c.flow) p.into × CopiesFit (room_of k c.flow) p.leaving) (sym (no_part_is (part_at c) 0 (length c.flow.nodes) b (grind (arith, nat_tests, t)))) (tt, tt)

  edges : (b to : ℕ) → b < length c.flow.nodes → has (successors (block_at (code_nodes c.flow.nodes) b).end) to ≡ true
      → TakeOver (part_of r.parts b).end (part_of r.parts to).start (carried_by (block_at (code_nodes c.flow.nodes) b).end (block_at (code_nodes c.flow.nodes) to).params) (left_by (block_at (code_nodes c.flow.nodes) b).end (part_of r.parts b).leaving ++ (part_of r.parts to).into)
  edges b to l h =
      let n = count k c.flow c.traces c.outs ready.sound in
      let targets = at_block (λ bl. all_below (length (code_nodes c.flow.nodes)) (successors bl.end)) (code_nodes c.flow.nodes) b ready.sound.valid.code.targets refl in
      let low = all_below_in (length (code_nodes c.flow.nodes)) (successors (block_at (code_nodes c.flow.nodes) b).end) to targets h in
      let m : to < length c.flow.nodes = omega (arith, low, n) in
      subst (λ (p : Part). TakeOver p.end (part_of r.parts to).start (carried_by (block_at (code_nodes c.flow.nodes) b).end (block_at (code_nodes c.flow.nodes) to).params) (left_by (block_at (code_nodes c.flow.nodes) b).end p.leaving ++ (part_of r.parts to).into)) (sym (part_here b l))
      (subst (λ (p : Part). TakeOver (part_at c b).end p.start (carried_by (block_at (code_nodes c.flow.nodes) b).end (block_at (code_nodes c.flow.nodes) to).params) (left_by (block_at (code_nodes c.flow.nodes) b).end (part_at c b).leaving ++ p.into)) (sym (part_here to m))
      (over k c.flow c.traces c.outs ready.sound b to l m h))

  pub is_sound : IsSoundResult k frame steps_of r
  is_sound = record {
    valid = ready.sound.valid;
    numbers = ready.numbers;
    local_data = ready.local_data;
    body = ready.body;
    ordered = ordered;
    fits = ready.fits;
    nodes = nodes;
    steps_fit = (entry_fits k c.flow c.traces c.outs ready.sound four, fit);
    enters = subst (λ (p : Part). TakeOver (entry_places (code_nodes c.flow.nodes)) p.start (λ v. v) (r.first ++ p.into)) (sym (part_here 0 some)) (enters k c.flow c.traces c.outs ready.sound some (sound_in k c.flow c.traces c.outs ready.sound 0 (traced k c.flow c.traces c.outs ready.sound 0 some)));
    edges = edges;
  }

-- a mapped list's items come from items
pub record Origin (cs : List Cut) (q : ℕ) (r : Allocated) : Type 0 where
  pub cut : Cut
  pub rest : List Cut
  pub drops : drop q cs ≡ cut ∷ rest
  pub is : allocated cut ≡ r

origin : (cs : List Cut) (q : ℕ) (r : Allocated) (rest : List Allocated) → drop q (all_allocated cs) ≡ r ∷ rest → Origin cs q r
origin [] zero r rest e = cc
origin [] (suc q) r rest e = cc
origin (c ∷ cs) zero r rest e = record { cut = c; rest = cs; drops = refl; is = cc }
origin (c ∷ cs) (suc q) r rest e = let o = origin cs q r rest e in record { cut = o.cut; rest = o.rest; drops = o.drops; is = o.is }

pub runs : (k frame : ℕ) (cuts : List Cut) (extra : ImageData) (input : List ℕ) → k ≤ 16 → AreReady k frame cuts → IsImageOf steps_of (all_allocated cuts) extra frame → ((i : ℕ) → get_or input i 0 < 2 ^ 64) → Agrees steps_of (all_allocated cuts) extra frame input
runs k frame cuts extra input few ready image small =
    agreed k frame steps_of (all_allocated cuts) extra input few sequence (λ q r rest e. let o = origin cuts q r rest e in subst (λ (x : Allocated). IsSoundResult k frame steps_of x) o.is (is_sound k frame few o.cut (ready q o.cut o.rest o.drops))) image small
