-- The lines of a procedure with sound results are those of its blocks.
use Rattle.std.proofs.Common.{◌≡◌, ℕ, zero, suc, ◌+◌, ◌<◌, ◌≤◌, List, [], ◌∷◌, ◌++◌, map, length, drop, get_or, Bool, true, false, refl, arith, sym, ap, ap₂, ◌∙◌, subst, append_assoc}
use Rattle.std.specs.Prelude.{flat_map, cond, ◌==◌}
use Rattle.block_runs.specs.declared.end.End.{End}
use Rattle.block_runs.specs.declared.end.End.TheVariants.{Jump, Branch, Nonzero, Return, Trap}
use Rattle.block_runs.specs.Blocks.{Operation, CodeBlock, block_at}
use Rattle.block_runs.specs.Live.{has}
use Rattle.lir_core.specs.declared.places.Line.{Line}
use Rattle.lir_core.specs.declared.places.Line.TheVariants.{Store, Load, Moves, Result, Target}
use Rattle.lir_core.specs.declared.places.Line.TheVariants.{Lir as Does}
use Rattle.lir_core.specs.declared.places.TraceOut.{TraceOut}
use Rattle.lir_core.specs.declared.flow.Trace.{Trace}
use Rattle.lir_core.specs.Flows.{code_node, code_nodes, node_at}
use Rattle.lir_core.specs.Lines.{Room, LinesInRange}
use Rattle.lir_core.specs.Sound.{room_of}
use Rattle.trace_build.specs.Parents.{trace_at}
use Rattle.trace_build.specs.Cuts.{lists_of, all_nodes, AllTraces}
use Rattle.parallel_move.specs.declared.step.Step.{Step}
use Rattle.boundary_resolve.specs.declared.code_line.CodeLine.{CodeLine}
use Rattle.boundary_resolve.specs.declared.code_line.CodeLine.TheVariants.{Body, Edge, Leave}
use Rattle.boundary_resolve.specs.declared.code_line.CodeLine.TheVariants.{Node as Begins}
use Rattle.boundary_resolve.specs.Placing.{out_at, start_at, end_at, lines_at, registers_at, registers_in, steps_of_end, jump_steps, test_steps, entry_steps, node_lines, placed_of}
use Rattle.boundary_resolve.specs.Edges.{AreSound}
use Rattle.boundary_resolve.proofs.Between.{blocks_at}
use Rattle.placed_code.specs.Placed.{Copy, Block}
use Rattle.placed_code.specs.Claims.{AreRegisters}
use Rattle.placed_code.specs.Results.{left_by, placed_block, last_copies}
use Rattle.placed_code.proofs.Parts.{registers_fit}
use Rattle.linked_flows.specs.Allocations.{Cut, copies_of, steps_of, part_at}
use Rattle.linked_flows.proofs.Edges.{count}
use Rattle.linked_flows.proofs.Nodes.{sound_node}
use Rattle.linked_flows.proofs.Ordering.{traced_below}
use Rattle.link_blocks.specs.Plans.{plain_block}
use Rattle.link_blocks.specs.Ahead.{block_ahead, behind_block, IsDistinct, AreAllDistinct}
use Rattle.link_blocks.specs.Laid.{wanted}
use Rattle.link_blocks.proofs.Flat.{beyond, flat, whole, block_flat, behind_block_flat}
use Rattle.link_blocks.proofs.Counted.{none_beyond, no_lines}
use Rattle.link_blocks.proofs.Seats.{has_at, seat_here}

-- a node's lines begin with its mark
pub node_flat : (c : Cut) (n : ℕ) (tail : List CodeLine) → node_lines c.flow c.traces c.outs n ++ tail ≡ Begins n ∷ flat (test_steps c.flow c.traces c.outs n) (lines_at c.traces c.outs n) (jump_steps c.flow c.traces c.outs n) n tail
node_flat c n tail =
    let test = map Edge (test_steps c.flow c.traces c.outs n) in
    let own = map Body (lines_at c.traces c.outs n) in
    let jump = map Edge (jump_steps c.flow c.traces c.outs n) in
    ap (λ (ls : List CodeLine). Begins n ∷ ls)
    (append_assoc ((test ++ own) ++ jump) (Leave n ∷ []) tail ∙ append_assoc (test ++ own) jump (Leave n ∷ tail) ∙ append_assoc test own (jump ++ Leave n ∷ tail))

-- a jump's steps stand before it, and other ends have none
jump_left : (c : Cut) (n : ℕ) (end : End) → left_by end (copies_of (steps_of_end c.flow c.traces c.outs n end)) ≡ copies_of (steps_of_end c.flow c.traces c.outs n end)
jump_left c n (Jump to args) = refl
jump_left c n (Branch k a b one other) = refl
jump_left c n (Nonzero a one other) = refl
jump_left c n (Return a) = refl
jump_left c n (Trap kind) = refl

module _ (k : ℕ) (c : Cut) (sound : AreSound k c.flow c.traces c.outs) where
  abbrev code_of : ℕ → CodeBlock
  code_of n = code_node (node_at c.flow.nodes n)

  record Ready (n : ℕ) : Type 0 where
    pub registers : AreRegisters (registers_at c.traces c.outs n)
    pub over : beyond (code_of n).ops (lines_at c.traces c.outs n) ≡ []
    pub none : lines_at c.traces c.outs n ≡ [] → (code_of n).ops ≡ []

  ready : (n : ℕ) → n < length c.flow.nodes → Ready n
  ready n l =
      let s = sound_node k c.flow c.traces c.outs sound n l in
      let same = ap (λ (bl : CodeBlock). bl.ops) (blocks_at c.flow.nodes n) in
      record {
        registers = registers_fit k sound.few.1 (registers_at c.traces c.outs n) s.lines_sound.named_below;
        over = subst (λ (ops : List Operation). beyond ops (lines_at c.traces c.outs n) ≡ []) same (none_beyond _ _ _ _ _ _ _ s.lines_sound);
        none = λ e. sym same ∙ no_lines _ _ _ _ _ _ _ s.lines_sound e;
      }

  pub block_is : (n : ℕ) (tail : List CodeLine) → n < length c.flow.nodes
      → block_ahead (code_of n) (registers_at c.traces c.outs n) (flat (test_steps c.flow c.traces c.outs n) (lines_at c.traces c.outs n) (jump_steps c.flow c.traces c.outs n) n tail) ≡ wanted c n
  block_is n tail l =
      let r = ready n l in
      let test = test_steps c.flow c.traces c.outs n in
      let lines = lines_at c.traces c.outs n in
      block_flat (code_of n) (registers_at c.traces c.outs n) test lines (jump_steps c.flow c.traces c.outs n) n tail r.registers r.over r.none
      ∙ ap (λ (ms : List Copy). let bl : Block = record { params = []; body = (wanted c n).body; copies = last_copies steps_of (copies_of test) (code_of n).ops lines ++ ms; end = (wanted c n).end; a = (wanted c n).a; b = (wanted c n).b } in bl) (sym (jump_left c n (node_at c.flow.nodes n).end))

  pub behind_is : (n : ℕ) (tail : List CodeLine) → n < length c.flow.nodes
      → behind_block (code_of n) (flat (test_steps c.flow c.traces c.outs n) (lines_at c.traces c.outs n) (jump_steps c.flow c.traces c.outs n) n tail) ≡ tail
  behind_is n tail l = let r = ready n l in behind_block_flat (code_of n) (test_steps c.flow c.traces c.outs n) (lines_at c.traces c.outs n) (jump_steps c.flow c.traces c.outs n) n tail r.over r.none

  -- the registers named for the i-th node of a trace
  pub named_at : (paths : AllTraces c.flow (lists_of c.traces)) (t i n : ℕ) → t < length c.traces → i < length (trace_at c.traces t).nodes → get_or (trace_at c.traces t).nodes i 0 ≡ n → n < length c.flow.nodes
      → registers_at c.traces c.outs n ≡ get_or (out_at c.outs t).regs i []
  named_at paths t i n below l e low =
      let once = sound.partition n low in
      let z : 0 + t ≡ t = omega arith in
      ap (λ s. registers_in c.outs s) (seat_here c.traces 0 t i n below l e (omega (arith, once))) ∙ ap (λ u. get_or (out_at c.outs u).regs i []) z

---- No two moves of a line have one destination

abbrev AllDistinct : List CodeLine → Type 0
AllDistinct [] = Unit {0}
AllDistinct (Body l ∷ ls) = IsDistinct l × AllDistinct ls
AllDistinct (Edge s ∷ ls) = AllDistinct ls
AllDistinct (Begins n ∷ ls) = AllDistinct ls
AllDistinct (Leave n ∷ ls) = AllDistinct ls

each_distinct : (ls : List CodeLine) → AllDistinct ls → AreAllDistinct ls
each_distinct [] all zero line rest e = cc
each_distinct [] all (suc at) line rest e = cc
each_distinct (Body l ∷ ls) all zero line rest e = let same : l ≡ line = cc in subst IsDistinct same all.0
each_distinct (Body l ∷ ls) all (suc at) line rest e = each_distinct ls all.1 at line rest e
each_distinct (Edge s ∷ ls) all zero line rest e = cc
each_distinct (Edge s ∷ ls) all (suc at) line rest e = each_distinct ls all at line rest e
each_distinct (Begins n ∷ ls) all zero line rest e = cc
each_distinct (Begins n ∷ ls) all (suc at) line rest e = each_distinct ls all at line rest e
each_distinct (Leave n ∷ ls) all zero line rest e = cc
each_distinct (Leave n ∷ ls) all (suc at) line rest e = each_distinct ls all at line rest e

distinct_edges : (ss : List Step) (ls : List CodeLine) → AllDistinct ls → AllDistinct (map Edge ss ++ ls)
distinct_edges [] ls all = all
distinct_edges (s ∷ ss) ls all = distinct_edges ss ls all

distinct_body : (room : Room) (lines : List Line) (ls : List CodeLine) → LinesInRange room lines → AllDistinct ls → AllDistinct (map Body lines ++ ls)
distinct_body room [] ls range all = all
distinct_body room (Does i ∷ lines) ls range all = (tt, distinct_body room lines ls range.1 all)
distinct_body room (Store r v ∷ lines) ls range all = (tt, distinct_body room lines ls range.1 all)
distinct_body room (Load r v ∷ lines) ls range all = (tt, distinct_body room lines ls range.1 all)
distinct_body room (Moves ms ∷ lines) ls range all = (range.0.0, distinct_body room lines ls range.1 all)
distinct_body room (Result r ∷ lines) ls range all = (tt, distinct_body room lines ls range.1 all)
distinct_body room (Target from ∷ lines) ls range all = (tt, distinct_body room lines ls range.1 all)

module _ (k : ℕ) (c : Cut) (sound : AreSound k c.flow c.traces c.outs) where
  distinct_nodes : (ns : List ℕ) → ((n : ℕ) → has ns n ≡ true → n < length c.flow.nodes) → AllDistinct (flat_map (node_lines c.flow c.traces c.outs) ns)
  distinct_nodes [] below = tt
  distinct_nodes (n ∷ ns) below =
      let rest = flat_map (node_lines c.flow c.traces c.outs) ns in
      let s = sound_node k c.flow c.traces c.outs sound n (below n (has_at (n ∷ ns) 0 n (omega arith) refl)) in
      subst AllDistinct (sym (node_flat c n rest))
      (distinct_edges (test_steps c.flow c.traces c.outs n) (map Body (lines_at c.traces c.outs n) ++ (map Edge (jump_steps c.flow c.traces c.outs n) ++ Leave n ∷ rest))
      (distinct_body (room_of k c.flow) (lines_at c.traces c.outs n) (map Edge (jump_steps c.flow c.traces c.outs n) ++ Leave n ∷ rest) s.lines_sound.in_range
      (distinct_edges (jump_steps c.flow c.traces c.outs n) (Leave n ∷ rest) (distinct_nodes ns (λ m h. below m (later m (n == m) h))))))
    where
      later : (m : ℕ) (b : Bool) → has ns m ≡ true → cond b true (has ns m) ≡ true
      later m true h = refl
      later m false h = h

  pub all_distinct : (paths : AllTraces c.flow (lists_of c.traces)) → AreAllDistinct (placed_of c.flow c.traces c.outs)
  all_distinct paths =
      let n = count k c.flow c.traces c.outs sound in
      each_distinct (placed_of c.flow c.traces c.outs)
      (distinct_edges (entry_steps c.flow c.traces c.outs) (flat_map (node_lines c.flow c.traces c.outs) (all_nodes (lists_of c.traces)))
      (distinct_nodes (all_nodes (lists_of c.traces)) (λ m h. let low = traced_below c.flow (lists_of c.traces) m paths h in omega (arith, low, n))))
