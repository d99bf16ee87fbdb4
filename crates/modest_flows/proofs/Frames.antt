-- Homes are of values in range, so a small flow has a small frame.
use Rattle.std.proofs.Common.{◌≡◌, ℕ, zero, suc, ◌+◌, ◌-◌, ◌<◌, ◌≤◌, ◌==◌, List, [], ◌∷◌, ◌++◌, map, length, drop, get_or, Bool, true, false, not, ◌&&◌, cond, Option, Some, None, refl, arith, sym, ap, ap₂, ◌∙◌, subst}
use Rattle.std.specs.Prelude.{nat_lt, nat_le, max, min, is_some}
use Rattle.std.specs.List.{list_all}
use Rattle.std.proofs.lemmas.Bool.{ltb-true, eqb-true}
use Rattle.std.proofs.lemmas.Bool.Decides.{nat_tests}
use Rattle.size_limits.specs.Limits.{most_values}
use Rattle.run_laws.specs.Layers.{places_from}
use Rattle.block_runs.specs.declared.end.End.{End}
use Rattle.block_runs.specs.declared.end.End.TheVariants.{Jump, Branch, Nonzero, Return, Trap}
use Rattle.block_runs.specs.Blocks.{Operation, CodeBlock, block_at, successors, end_uses}
use Rattle.block_runs.specs.Live.{has}
use Rattle.block_runs.specs.Valid.{all_below, block_reads, uses_of}
use Rattle.global_live.proofs.Lists.{has_back, all_below_in}
use Rattle.global_live.proofs.Tables.{at_block}
use Rattle.lir_core.specs.declared.places.Move.{Move}
use Rattle.lir_core.specs.declared.places.Line.{Line}
use Rattle.lir_core.specs.declared.places.Line.TheVariants.{Store, Load, Moves, Result, Target}
use Rattle.lir_core.specs.declared.places.Line.TheVariants.{Lir as Does}
use Rattle.lir_core.specs.Flows.{code_node, code_nodes, node_at}
use Rattle.lir_core.specs.Spots.{placed as holds, Spot, reg, home, out, target, saved, spot}
use Rattle.lir_core.specs.Lines.{names, Room, InRange, MovesInRange, LinesInRange}
use Rattle.lir_core.specs.Sound.{room_of}
use Rattle.trace_build.specs.Cuts.{lists_of, AllTraces}
use Rattle.boundary_resolve.specs.Moves.{entry_places, entry_argument}
use Rattle.boundary_resolve.specs.Placing.{start_at, end_at, lines_at, registers_at, is_test, steps_between, steps_of_end, jump_steps, steps_from, test_steps, entry_steps}
use Rattle.boundary_resolve.specs.Edges.{AreSound}
use Rattle.boundary_resolve.proofs.Between.{blocks_at, params_are}
use Rattle.placed_code.specs.Placed.{Copy, Cell, Block, no_block}
use Rattle.placed_code.specs.Words as words
use Rattle.placed_code.specs.Results.{placed, placed_block, cells_from, copies_before, lines_behind, last_copies, left_by, insert, with_home, with_copies, with_cells, with_blocks, homes_of}
use Rattle.placed_code.proofs.Parts.{length_blocks}
use Rattle.linked_flows.specs.Allocations.{Cut, copies_of, steps_of, part_at, allocated}
use Rattle.linked_flows.proofs.Edges.{count}
use Rattle.linked_flows.proofs.Nodes.{sound_node}
use Rattle.link_blocks.specs.Fits.{most_outs}
use Rattle.link_blocks.proofs.Made.{blocks_of, one_block}
use Rattle.link_blocks.proofs.Outs.{slots_few}
use Rattle.modest_flows.proofs.Lows.{SpotLow, CopiesLow, MovesLow, low_append, order_low, edge_low}
use Rattle.modest_flows.proofs.Lives.{start_low, argument_low, and_left, and_right}

---- Numbers that rise below a number

abbrev Rises : ℕ → ℕ → List ℕ → Type 0
Rises a n [] = Unit {0}
Rises a n (x ∷ xs) = (a ≤ x) × (x < n) × Rises (suc x) n xs

rises_few : (a n : ℕ) (vs : List ℕ) → a ≤ n → Rises a n vs → a + length vs ≤ n
rises_few a n [] l r = omega (arith, l)
rises_few a n (x ∷ xs) l r = let low = r.0 in let high = r.1 in let m = rises_few (suc x) n xs (omega (arith, high)) r.2 in omega (arith, low, m)

inserted_rises : (a n v : ℕ) (vs : List ℕ) → a ≤ v → v < n → Rises a n vs → Rises a n (insert v vs)
inserted_rises a n v [] l h r = (l, h, tt)
inserted_rises a n v (x ∷ xs) l h r = by_tests (v == x) refl (nat_lt v x) refl (λ b. inserted_rises (suc x) n v xs b h r.2)
  where
    above : (v == x) ≡ false → nat_lt v x ≡ false → suc x ≤ v
    above e f = grind (arith, nat_tests)

    by_tests : (s : Bool) → (v == x) ≡ s → (t : Bool) → nat_lt v x ≡ t → (suc x ≤ v → Rises (suc x) n (insert v xs)) → Rises a n (cond s (x ∷ xs) (cond t (v ∷ (x ∷ xs)) (x ∷ insert v xs)))
    by_tests true e t f on = r
    by_tests false e true f on = let b = ltb-true v x f in (l, h, (omega (arith, b), r.1, r.2))
    by_tests false e false f on = (r.0, r.1, on (above e f))

module _ (n : ℕ) where
  home_rises : (p : Spot) (vs : List ℕ) → SpotLow n p → Rises 0 n vs → Rises 0 n (with_home p vs)
  home_rises (home v) vs l r = inserted_rises 0 n v vs (omega arith) l r
  home_rises (reg q) vs l r = r
  home_rises (out s) vs l r = r
  home_rises target vs l r = r
  home_rises saved vs l r = r

  copies_rise : (ms : List Copy) (vs : List ℕ) → CopiesLow n ms → Rises 0 n vs → Rises 0 n (with_copies ms vs)
  copies_rise [] vs l r = r
  copies_rise (m ∷ ms) vs l r = home_rises m.to (with_home m.from (with_copies ms vs)) l.0 (home_rises m.from (with_copies ms vs) l.1 (copies_rise ms vs l.2 r))

  abbrev CellsLow : List Cell → Type 0
  CellsLow [] = Unit {0}
  CellsLow (cell ∷ cells) = CopiesLow n cell.copies × CellsLow cells

  cells_rise : (cells : List Cell) (vs : List ℕ) → CellsLow cells → Rises 0 n vs → Rises 0 n (with_cells cells vs)
  cells_rise [] vs l r = r
  cells_rise (cell ∷ cells) vs l r = copies_rise cell.copies (with_cells cells vs) l.0 (cells_rise cells vs l.1 r)

  record BlockLow (bl : Block) : Type 0 where
    pub cells : CellsLow bl.body
    pub last : CopiesLow n bl.copies

  blocks_rise : (bls : List Block) (vs : List ℕ) → ((b : ℕ) → b < length bls → BlockLow (get_or bls b no_block)) → Rises 0 n vs → Rises 0 n (with_blocks bls vs)
  blocks_rise [] vs each r = r
  blocks_rise (bl ∷ bls) vs each r =
      let one = each 0 (omega arith) in
      cells_rise bl.body (with_copies bl.copies (with_blocks bls vs)) one.cells (copies_rise bl.copies (with_blocks bls vs) one.last (blocks_rise bls vs (λ b l. each (suc b) (omega (arith, l))) r))

  ---- Lines

  module _ (room : Room) (few : room.values ≤ n) where
    spot_low : (p : Spot) → InRange room p → SpotLow n p
    spot_low (home v) l = omega (arith, l, few)
    spot_low (reg q) l = tt
    spot_low (out s) l = tt
    spot_low target l = tt
    spot_low saved l = tt

    moves_low : (ms : List Move) → MovesInRange room ms → MovesLow n ms
    moves_low [] l = tt
    moves_low (m ∷ ms) l = (spot_low (spot m.to) l.0, spot_low (spot m.from) l.1, moves_low ms l.2)

    before_low : (lines : List Line) → LinesInRange room lines → CopiesLow n (copies_before steps_of lines)
    before_low [] l = tt
    before_low (Does i ∷ lines) l = tt
    before_low (Store q v ∷ lines) l = let h = l.0.1 in (omega (arith, h, few), tt, before_low lines l.1)
    before_low (Load q v ∷ lines) l = let h = l.0.1 in (tt, omega (arith, h, few), before_low lines l.1)
    before_low (Moves ms ∷ lines) l = low_append n (steps_of ms) (copies_before steps_of lines) (order_low n ms (moves_low ms l.0.1)) (before_low lines l.1)
    before_low (Result q ∷ lines) l = (tt, tt, before_low lines l.1)
    before_low (Target from ∷ lines) l = (tt, spot_low (spot from) l.0, before_low lines l.1)

    behind_range : (lines : List Line) → LinesInRange room lines → LinesInRange room (lines_behind lines)
    behind_range [] l = tt
    behind_range (Does i ∷ lines) l = l.1
    behind_range (Store q v ∷ lines) l = behind_range lines l.1
    behind_range (Load q v ∷ lines) l = behind_range lines l.1
    behind_range (Moves ms ∷ lines) l = behind_range lines l.1
    behind_range (Result q ∷ lines) l = behind_range lines l.1
    behind_range (Target from ∷ lines) l = behind_range lines l.1

    cells_low : (front : List Copy) (ops : List Operation) (named : List ℕ) (lines : List Line) → CopiesLow n front → LinesInRange room lines → CellsLow (cells_from steps_of front ops named lines)
    cells_low front [] named lines f l = tt
    cells_low front (op ∷ ops) named lines f l = (low_append n front (copies_before steps_of lines) f (before_low lines l), cells_low [] ops (drop (names op) named) (lines_behind lines) tt (behind_range lines l))

    last_low : (front : List Copy) (ops : List Operation) (lines : List Line) → CopiesLow n front → LinesInRange room lines → CopiesLow n (last_copies steps_of front ops lines)
    last_low front [] lines f l = low_append n front (copies_before steps_of lines) f (before_low lines l)
    last_low front (op ∷ ops) lines f l = last_low [] ops (lines_behind lines) tt (behind_range lines l)

  left_low : (end : End) (ms : List Copy) → CopiesLow n ms → CopiesLow n (left_by end ms)
  left_low (Jump to args) ms l = l
  left_low (Branch c a b one other) ms l = tt
  left_low (Nonzero a one other) ms l = tt
  left_low (Return a) ms l = tt
  left_low (Trap kind) ms l = tt

---- Frames

numbers_low : (i n a : ℕ) → has (places_from i n) a ≡ true → a < i + n
numbers_low i zero a e = cc
numbers_low i (suc n) a e = by_test (i == a) refl e (numbers_low (suc i) n a)
  where
    by_test : (b : Bool) → (i == a) ≡ b → cond b true (has (places_from (suc i) n) a) ≡ true → (has (places_from (suc i) n) a ≡ true → a < suc i + n) → a < i + suc n
    by_test true q e on = let same = eqb-true i a q in omega (arith, same)
    by_test false q e on = let l = on e in omega (arith, l)

module _ (k : ℕ) (c : Cut) (sound : AreSound k c.flow c.traces c.outs) (few : c.flow.values ≤ most_values) where
  low : (n v : ℕ) → n < length c.flow.nodes → holds (start_at c.traces c.outs n) v ≡ true → v < most_values
  low n v l e = let h = start_low k c sound n v l e in omega (arith, h, few)

  from_low : (ps : List ℕ) (n : ℕ) → n < length c.flow.nodes → CopiesLow most_values (copies_of (steps_from c.flow c.traces c.outs ps n))
  from_low [] n l = tt
  from_low (p ∷ ps) n l = by_test (is_test (node_at c.flow.nodes p).end)
    where
      by_test : (b : Bool) → CopiesLow most_values (copies_of (cond b (steps_between c.traces c.outs p n (λ v. v)) []))
      by_test true = edge_low most_values (end_at c.traces c.outs p) (start_at c.traces c.outs n) (λ v. v) (λ v e. (low n v l e, low n v l e))
      by_test false = tt

  leaving_low : (n : ℕ) (end : End) → all_below (length c.flow.nodes) (successors end) ≡ true → all_below c.flow.values (end_uses end) ≡ true → CopiesLow most_values (copies_of (steps_of_end c.flow c.traces c.outs n end))
  leaving_low n (Jump to args) t u =
      let there = ltb-true to (length c.flow.nodes) (and_left (nat_lt to (length c.flow.nodes)) true t) in
      edge_low most_values (end_at c.traces c.outs n) (start_at c.traces c.outs to) _
      (λ v e. (low to v there e, argument_low most_values (node_at c.flow.nodes to).params args v (λ a h. let x = all_below_in c.flow.values args a u h in omega (arith, x, few)) (low to v there e)))
  leaving_low n (Branch q a b one other) t u = tt
  leaving_low n (Nonzero a one other) t u = tt
  leaving_low n (Return a) t u = tt
  leaving_low n (Trap kind) t u = tt

  append_below : (xs ys : List ℕ) (m : ℕ) → all_below m (xs ++ ys) ≡ true → all_below m ys ≡ true
  append_below [] ys m e = e
  append_below (x ∷ xs) ys m e = append_below xs ys m (and_right (nat_lt x m) (all_below m (xs ++ ys)) e)

  block_low : (b : ℕ) → b < length c.flow.nodes → BlockLow most_values (placed_block steps_of (code_node (node_at c.flow.nodes b)) (part_at c b))
  block_low b l =
      let bls = code_nodes c.flow.nodes in
      let valid = sound.valid.code in
      let m = count k c.flow c.traces c.outs sound in
      let is = blocks_at c.flow.nodes b in
      let node = code_node (node_at c.flow.nodes b) in
      let s = sound_node k c.flow c.traces c.outs sound b l in
      let range = s.lines_sound.in_range in
      let targets : all_below (length c.flow.nodes) (successors node.end) ≡ true =
      sym (ap₂ (λ q (x : CodeBlock). all_below q (successors x.end)) m is) ∙ at_block (λ bl. all_below (length bls) (successors bl.end)) bls b valid.targets refl in
      let reads : all_below c.flow.values (end_uses node.end) ≡ true =
      append_below (uses_of node.ops) (end_uses node.end) c.flow.values (sym (ap (λ (x : CodeBlock). all_below c.flow.values (block_reads x)) is) ∙ at_block (λ bl. all_below c.flow.values (block_reads bl)) bls b valid.read_below refl) in
      let into = from_low (node_at c.flow.nodes b).preds b l in
      let leaving = leaving_low b node.end targets reads in
      record {
        cells = cells_low most_values (room_of k c.flow) few (part_at c b).into node.ops (registers_at c.traces c.outs b) (lines_at c.traces c.outs b) into range;
        last = low_append most_values (last_copies steps_of (part_at c b).into node.ops (lines_at c.traces c.outs b)) (left_by node.end (part_at c b).leaving)
            (last_low most_values (room_of k c.flow) few (part_at c b).into node.ops (lines_at c.traces c.outs b) into range) (left_low most_values node.end (part_at c b).leaving leaving);
      }

  entry_low : CopiesLow most_values (copies_of (entry_steps c.flow c.traces c.outs))
  entry_low =
      let params = (node_at c.flow.nodes 0).params in
      let m = count k c.flow c.traces c.outs sound in
      let b = sound.valid.code.begins in
      let there : 0 < length c.flow.nodes = omega (arith, m, b) in
      let four = sound.valid.code.first_params in
      let same = params_are k c.flow c.traces c.outs sound 0 in
      edge_low most_values (entry_places (length params)) (start_at c.traces c.outs 0) (entry_argument params)
      (λ v e. (low 0 v there e, argument_low most_values params (places_from 0 (length params)) v (λ a h. let x = numbers_low 0 (length params) a h in let z = min_four c.flow.args in omega (arith, x, four, same, z)) (low 0 v there e)))
    where
      min_four : (a : ℕ) → min 4 a ≤ 4
      min_four a = omega arith

  pub frame_small : words.slots_of (placed steps_of (allocated c)) ≤ most_outs + (1 + most_values)
  frame_small =
      let first = copies_of (entry_steps c.flow c.traces c.outs) in
      let m = count k c.flow c.traces c.outs sound in
      let n = length_blocks steps_of 0 (code_nodes c.flow.nodes) (allocated c).parts in
      let rise = copies_rise most_values first (with_blocks (blocks_of c) []) entry_low
      (blocks_rise most_values (blocks_of c) [] (λ b l. let l' : b < length c.flow.nodes = omega (arith, l, m, n) in subst (BlockLow most_values) (sym (one_block k c sound b l')) (block_low b l')) tt) in
      let homes = rises_few 0 most_values (homes_of first (blocks_of c)) (omega arith) rise in
      let outs = slots_few c.flow.args (code_nodes c.flow.nodes) sound.valid.code.operations in
      omega (arith, homes, outs)
