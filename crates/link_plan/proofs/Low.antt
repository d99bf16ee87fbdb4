-- The placed procedures of sound results are whole, and all of their parts fit instructions.
use Rattle.std.proofs.Common.{◌≡◌, ℕ, zero, suc, ◌≤◌, List, [], ◌∷◌, ◌++◌, map, length, drop, get_or, Bool, true, false, refl, arith, sym, ap, ◌∙◌, subst}
use Rattle.std.specs.Prelude.{nat_lt, ◌&&◌}
use Rattle.std.proofs.lemmas.Bool.{ltb-true}
use Rattle.std.proofs.lemmas.Bool.Decides.{nat_tests}
use Rattle.block_runs.specs.declared.end.End.{End}
use Rattle.block_runs.specs.declared.end.End.TheVariants.{Return, Jump, Branch, Nonzero, Trap}
use Rattle.block_runs.specs.Blocks.{CodeBlock, block_at, successors}
use Rattle.block_runs.specs.Valid.{all_below}
use Rattle.global_live.proofs.Tables.{at_block}
use Rattle.lir_core.specs.declared.flow.Lir.{Lir}
use Rattle.lir_core.specs.declared.flow.Node.{Node}
use Rattle.lir_core.specs.declared.places.Line.{Line}
use Rattle.lir_core.specs.Flows.{operation_of, code_node, code_nodes, node_at, no_node}
use Rattle.lir_core.specs.Lines.{names}
use Rattle.boundary_resolve.specs.Placing.{lines_at, registers_at}
use Rattle.boundary_resolve.proofs.Between.{blocks_at}
use Rattle.placed_code.specs.Placed.{Copy, Block, Placed, no_block, block_of}
use Rattle.placed_code.specs.Words.{frame_of, most_frame}
use Rattle.placed_code.specs.Layout.{position}
use Rattle.placed_code.specs.Claims.{AreRegisters}
use Rattle.placed_code.specs.Results.{placed, placed_block, cells_from, copies_before, lines_behind, homes_of}
use Rattle.placed_code.proofs.Homes.{ranks_within}
use Rattle.placed_code.proofs.Parts.{length_map, length_blocks, all_at, registers_fit}
use Rattle.linked_flows.specs.Allocations.{Cut, steps_of, part_at, allocated, IsReady}
use Rattle.linked_flows.proofs.Edges.{count}
use Rattle.linked_flows.proofs.Nodes.{sound_node}
use Rattle.linked_flows.proofs.Run.{is_sound}
use Rattle.link_blocks.specs.Fits.{number_fits, lirs_fit, trap_fits, node_fits, numbers_fit}
use Rattle.link_blocks.specs.Plans.{plain_end, plain_block, plain}
use Rattle.link_blocks.proofs.Flat.{registers_drop, registers_last}
use Rattle.link_blocks.proofs.Made.{blocks_of, one_block}
use Rattle.link_blocks.proofs.Outs.{slots_few}
use Rattle.procedure_code.specs.Parts.{LeadsBelow, IsWhole}
use Rattle.procedure_code.proofs.Plain.{nth_plain}
use Rattle.link_plan.specs.Linked.{IsAllocated}
use Rattle.link_plan.proofs.InTable.{CellLow, CellsLow, BlockLow, ProcLow}

pub and_left : (a b : Bool) → (a && b) ≡ true → a ≡ true
and_left true b e = refl
and_left false b e = cc

pub and_right : (a b : Bool) → (a && b) ≡ true → b ≡ true
and_right true b e = e
and_right false b e = cc

pub either : (a b : Bool) (P : Type 0) → (a && b) ≡ false → (a ≡ false → P) → (b ≡ false → P) → P
either true b P e f g = g e
either false b P e f g = f refl

pub get_past : {A : Type 0} (xs : List A) (n : ℕ) (d : A) → length xs ≤ n → get_or xs n d ≡ d
get_past [] n d l = refl
get_past (x ∷ xs) zero d l = absurd (omega (arith, l))
get_past (x ∷ xs) (suc n) d l = get_past xs n d (omega (arith, l))

leads_below : (n : ℕ) (end : End) → all_below n (successors end) ≡ true → LeadsBelow n (plain_end end)
leads_below n (Jump to args) e = ltb-true to n (and_left (nat_lt to n) true e)
leads_below n (Branch c x y one other) e = (ltb-true one n (and_left (nat_lt one n) (nat_lt other n && true) e), ltb-true other n (and_left (nat_lt other n) true (and_right (nat_lt one n) (nat_lt other n && true) e)))
leads_below n (Nonzero x one other) e = (ltb-true one n (and_left (nat_lt one n) (nat_lt other n && true) e), ltb-true other n (and_left (nat_lt other n) true (and_right (nat_lt one n) (nat_lt other n && true) e)))
leads_below n (Return x) e = tt
leads_below n (Trap kind) e = tt

-- cells of operations whose numbers fit, with registers below 16
pub cells_low : (front : List Copy) (lirs : List Lir) (named : List ℕ) (lines : List Line) → lirs_fit lirs ≡ true → AreRegisters named → CellsLow (cells_from steps_of front (map operation_of lirs) named lines)
cells_low front [] named lines e fit = tt
cells_low front (x ∷ lirs) named lines e fit =
    let one : CellLow (record { copies = front ++ copies_before steps_of lines; op = operation_of x; named = named }) = record {
      number = and_left (number_fits x.template) (lirs_fit lirs) e;
      uses = λ i. fit i;
      def = fit (length x.uses);
    } in
    (one, cells_low [] lirs (drop (names (operation_of x)) named) (lines_behind lines) (and_right (number_fits x.template) (lirs_fit lirs) e) (registers_drop (names (operation_of x)) named fit))

no_block_low : BlockLow no_block
no_block_low = record { cells = tt; a = omega arith; b = omega arith; trap = refl }

module _ (k : ℕ) (few : k ≤ 16) (c : Cut) (all : IsAllocated k c) where
  abbrev pub pr : Placed
  pr = placed steps_of (allocated c)

  pub is_ready : (frame : ℕ) → frame_of pr ≤ frame → IsReady k frame c
  is_ready frame fits = record { sound = all.sound; paths = all.paths; numbers = all.numbers; local_data = all.local_data; body = all.body; fits = fits }

  many : length pr.blocks ≡ length c.flow.nodes
  many = length_blocks steps_of 0 (code_nodes c.flow.nodes) (allocated c).parts ∙ count k c.flow c.traces c.outs all.sound

  leads : (b : ℕ) → LeadsBelow (length pr.blocks) (plain_end (block_of pr b).end)
  leads b = by_test (nat_lt b (length c.flow.nodes)) refl
    where
      by_test : (t : Bool) → nat_lt b (length c.flow.nodes) ≡ t → LeadsBelow (length pr.blocks) (plain_end (block_of pr b).end)
      by_test true t =
          let l = ltb-true b (length c.flow.nodes) t in
          let n = count k c.flow c.traces c.outs all.sound in
          let targets = at_block (λ bl. all_below (length (code_nodes c.flow.nodes)) (successors bl.end)) (code_nodes c.flow.nodes) b all.sound.valid.code.targets refl in
          let below = leads_below (length (code_nodes c.flow.nodes)) (block_at (code_nodes c.flow.nodes) b).end targets in
          let is : (block_of pr b).end ≡ (block_at (code_nodes c.flow.nodes) b).end = ap (λ (x : Block). x.end) (one_block k c all.sound b l) ∙ sym (ap (λ (bl : CodeBlock). bl.end) (blocks_at c.flow.nodes b)) in
          subst (λ m. LeadsBelow m (plain_end (block_of pr b).end)) (n ∙ sym many) (subst (λ (e : End). LeadsBelow (length (code_nodes c.flow.nodes)) (plain_end e)) (sym is) below)
      by_test false t =
          let past : block_of pr b ≡ no_block = get_past pr.blocks b no_block (let f : length c.flow.nodes ≤ b = grind (arith, nat_tests) in omega (arith, many, f)) in
          subst (λ (x : Block). LeadsBelow (length pr.blocks) (plain_end x.end)) (sym past) tt

  pub whole : IsWhole (plain pr)
  whole =
      let wide : length (plain pr).blocks ≡ length pr.blocks = length_map plain_block pr.blocks in
      let ordered = (is_sound k (frame_of pr) few c (is_ready (frame_of pr) (omega arith))).ordered in
      let begins = all.sound.valid.code.begins in
      let n = count k c.flow c.traces c.outs all.sound in
      record {
        some = omega (arith, wide, many, begins, n);
        ordered = record {
          all = λ b l. ordered.all b (omega (arith, l, wide));
          once = ordered.once;
          none = subst (λ m. length pr.order ≤ position pr.order m) (sym wide) ordered.none;
        };
        leads = λ b. subst (λ (x : Block). LeadsBelow (length (plain pr).blocks) x.end) (sym (nth_plain pr pr.blocks b)) (subst (λ m. LeadsBelow m (plain_end (block_of pr b).end)) (sym wide) (leads b));
      }

  pub proc_low : numbers_fit c.flow ≡ true → frame_of pr ≤ most_frame → ProcLow pr
  proc_low numbers fits = record {
    frame = record {
      slots = omega (arith, fits);
      outs = slots_few c.flow.args (code_nodes c.flow.nodes) all.sound.valid.code.operations;
      ranks = λ v j e. ranks_within (homes_of (allocated c).first (blocks_of c)) v j e;
      bytes = all.local_data.1;
    };
    blocks = λ b. block_low b (nat_lt b (length c.flow.nodes)) refl;
  }
    where
      block_low : (b : ℕ) (t : Bool) → nat_lt b (length c.flow.nodes) ≡ t → BlockLow (block_of pr b)
      block_low b true t =
          let l = ltb-true b (length c.flow.nodes) t in
          let node = node_at c.flow.nodes b in
          let fit = all_at (λ (n : Node). node_fits n) c.flow.nodes numbers b no_node l in
          let s = sound_node k c.flow c.traces c.outs all.sound b l in
          let registers = registers_fit k few (registers_at c.traces c.outs b) s.lines_sound.named_below in
          let last = registers_last (map operation_of node.lirs) (registers_at c.traces c.outs b) registers in
          let made : BlockLow (placed_block steps_of (code_node node) (part_at c b)) = record {
            cells = cells_low (part_at c b).into node.lirs (registers_at c.traces c.outs b) (lines_at c.traces c.outs b) (and_right (trap_fits node.end) (lirs_fit node.lirs) fit) registers;
            a = last 0;
            b = last 1;
            trap = and_left (trap_fits node.end) (lirs_fit node.lirs) fit;
          } in
          subst BlockLow (sym (one_block k c all.sound b l)) made
      block_low b false t =
          let past : block_of pr b ≡ no_block = get_past pr.blocks b no_block (let f : length c.flow.nodes ≤ b = grind (arith, nat_tests) in omega (arith, many, f)) in
          subst BlockLow (sym past) no_block_low
