-- The placed procedures of an image of texts fit instructions.
use Rattle.std.proofs.Common.{◌≡◌, ℕ, suc, ◌+◌, ◌<◌, ◌≤◌, List, [], ◌∷◌, map, length, Bool, true, false, All, refl, sym, subst, ◌∙◌, arith}
use Rattle.std.specs.Prelude.{nat_lt}
use Rattle.std.proofs.lemmas.Bool.{ltb-true}
use Rattle.std.proofs.lemmas.Bool.Decides.{nat_tests}
use Rattle.lir_core.specs.declared.flow.Node.{Node}
use Rattle.lir_core.specs.Flows.{operation_of, code_node, code_nodes, node_at, no_node}
use Rattle.boundary_resolve.specs.Placing.{lines_at, registers_at}
use Rattle.boundary_resolve.specs.Edges.{AreSound}
use Rattle.ssa_core.specs.declared.procedure.Proc.{Proc}
use Rattle.lowered_valid.specs.Modest.{HasFewValues, HasSmallData}
use Rattle.a64_select.specs.Selected.{selected}
use Rattle.placed_code.specs.Placed.{Placed, no_block, block_of}
use Rattle.placed_code.specs.Results.{placed, all_placed, placed_block, homes_of}
use Rattle.placed_code.proofs.Homes.{ranks_within}
use Rattle.placed_code.proofs.Parts.{length_blocks, all_at, registers_fit}
use Rattle.linked_flows.specs.Allocations.{Cut, steps_of, part_at, allocated, all_allocated}
use Rattle.linked_flows.proofs.Edges.{count}
use Rattle.linked_flows.proofs.Nodes.{sound_node}
use Rattle.link_blocks.specs.Fits.{lirs_fit, trap_fits, node_fits}
use Rattle.link_blocks.specs.Laid.{Fits}
use Rattle.link_blocks.proofs.Flat.{registers_last}
use Rattle.link_blocks.proofs.Made.{blocks_of, one_block}
use Rattle.link_blocks.proofs.Outs.{slots_few}
use Rattle.source_image.proofs.link_plan.Low.{and_left, and_right}
use Rattle.source_image.proofs.link_plan.InTable.{BlockLow, ProcLow, AllLow}
use Rattle.modest_flows.specs.Modest.{IsModest}
use Rattle.modest_flows.proofs.Fitting.{modest_fits}
use Rattle.source_image.specs.alloc_choice.declared.choice.Choice.{Choice}
use Rattle.source_image.specs.flow_allocation.Allocations.{IsAllocation, AllAllocations}
use Rattle.native_laws.proofs.Modest.{HasKinds, is_modest}
use Rattle.source_image.proofs.link_plan.Low.{get_past}
use Rattle.source_image.proofs.link_plan.Low.{cells_low}

no_block_low : BlockLow no_block
no_block_low = record { cells = tt; a = omega arith; b = omega arith; trap = refl }

module _ (k : ℕ) (c : Cut) (sound : AreSound k c.flow c.traces c.outs) (fits : Fits c) where
  abbrev pr : Placed
  pr = placed steps_of (allocated c)

  many : length pr.blocks ≡ length c.flow.nodes
  many = length_blocks steps_of 0 (code_nodes c.flow.nodes) (allocated c).parts ∙ count k c.flow c.traces c.outs sound

  node_low : (b : ℕ) → b < length c.flow.nodes → BlockLow (block_of pr b)
  node_low b l =
      let node = node_at c.flow.nodes b in
      let fit = all_at (λ (n : Node). node_fits n) c.flow.nodes fits.numbers b no_node l in
      let s = sound_node k c.flow c.traces c.outs sound b l in
      let registers = registers_fit k sound.few.1 (registers_at c.traces c.outs b) s.lines_sound.named_below in
      let last = registers_last (map operation_of node.lirs) (registers_at c.traces c.outs b) registers in
      let made : BlockLow (placed_block steps_of (code_node node) (part_at c b)) = record {
        cells = cells_low (part_at c b).into node.lirs (registers_at c.traces c.outs b) (lines_at c.traces c.outs b) (and_right (trap_fits node.end) (lirs_fit node.lirs) fit) registers;
        a = last 0;
        b = last 1;
        trap = and_left (trap_fits node.end) (lirs_fit node.lirs) fit;
      } in
      subst BlockLow (sym (one_block k c sound b l)) made

  block_low : (b : ℕ) (t : Bool) → nat_lt b (length c.flow.nodes) ≡ t → BlockLow (block_of pr b)
  block_low b true t = node_low b (ltb-true b (length c.flow.nodes) t)
  block_low b false t =
      let past : block_of pr b ≡ no_block = get_past pr.blocks b no_block (let f : length c.flow.nodes ≤ b = grind (arith, nat_tests) in omega (arith, many, f)) in
      subst BlockLow (sym past) no_block_low

  proc_low : ProcLow pr
  proc_low =
      let bytes = fits.local_bytes in
      record {
        frame = record {
          slots = fits.slots;
          outs = slots_few c.flow.args (code_nodes c.flow.nodes) sound.valid.code.operations;
          ranks = λ v j e. ranks_within (homes_of (allocated c).first (blocks_of c)) v j e;
          bytes = omega (arith, bytes);
        };
        blocks = λ b. block_low b (nat_lt b (length c.flow.nodes)) refl;
      }

-- results for a flow of few values, few local data and small kinds
one_low : (choice : Choice) (first : ℕ) (c : Cut) → IsAllocation choice first c → IsModest c.flow → ProcLow (placed steps_of (allocated c))
one_low choice first c a modest = proc_low choice.regs c a.sound (modest_fits choice.regs c a.sound a.paths modest)

pub all_low : (choice : Choice) (first : ℕ) (procs : List Proc) (cuts : List Cut) → All HasFewValues procs → All HasSmallData procs → All HasKinds procs
    → map (λ c. c.flow) cuts ≡ map selected procs → AllAllocations choice first cuts → AllLow (all_placed steps_of (all_allocated cuts))
all_low choice first procs [] few small kinds same each = tt
all_low choice first [] (d ∷ cuts) few small kinds same each = absurd (let z : d.flow ∷ map (λ (x : Cut). x.flow) cuts ≡ [] = same in cc)
all_low choice first (p ∷ procs) (d ∷ cuts) few small kinds same each =
    let flow : d.flow ≡ selected p = cc in
    let modest = is_modest p (few 0 p (omega arith)) (small 0 p (omega arith)) (kinds 0 p (omega arith)) in
    let rest_same : map (λ (x : Cut). x.flow) cuts ≡ map selected procs = cc in (
      one_low choice first d each.0 (subst IsModest (sym flow) modest),
      all_low choice (first + length d.traces) procs cuts (λ k x n. few (suc k) x (omega (arith, n))) (λ k x n. small (suc k) x (omega (arith, n))) (λ k x n. kinds (suc k) x (omega (arith, n))) rest_same each.1,
    )
