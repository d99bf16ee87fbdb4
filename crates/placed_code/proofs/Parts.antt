-- A flow's result as a placed procedure: it is the flow, its copies have places, and its operations fit.
use Rattle.std.proofs.Common.{◌≡◌, ℕ, zero, suc, ◌+◌, ◌<◌, ◌≤◌, ◌&&◌, ◌||◌, List, [], ◌∷◌, ◌++◌, map, length, get_or, drop, max, Bool, true, false, cond, Some, None, refl, arith, ap, ap₂, ◌∙◌}
use Rattle.std.specs.List.{list_all}
use Rattle.block_runs.specs.declared.end.End.{End}
use Rattle.block_runs.specs.declared.end.End.TheVariants.{Jump, Branch, Nonzero, Return, Trap}
use Rattle.block_runs.specs.Blocks.{Operation, CodeBlock, Procedure, block_at}
use Rattle.block_runs.specs.Valid.{operation_fits}
use Rattle.lir_core.specs.declared.places.Move.{Move}
use Rattle.lir_core.specs.declared.places.Line.{Line}
use Rattle.lir_core.specs.declared.places.Line.TheVariants.{Store, Load, Moves, Result, Target}
use Rattle.lir_core.specs.declared.places.Line.TheVariants.{Lir as Does}
use Rattle.lir_core.specs.Flows.{code_node, code_nodes}
use Rattle.lir_core.specs.Flows as flows
use Rattle.lir_core.specs.Spots.{Spot, reg, home, out, target, saved, spot}
use Rattle.lir_core.specs.Lines.{names, Room, InRange, MovesInRange, LinesInRange, AllBelow, slots_used, slots_in, slots_of}
use Rattle.lir_core.specs.Sound.{room_of}
use Rattle.placed_code.specs.Placed.{Copy, Cell, Block, Placed, operation, code_block, procedure, procedures, no_block}
use Rattle.placed_code.specs.Layout.{position}
use Rattle.placed_code.specs.Claims.{AllNamed, HomesFit, AreRegisters, IsNumber, OpFits}
use Rattle.placed_code.specs.Results.{Part, Allocated, copies_before, lines_behind, cells_from, last_copies, last_named, left_by, placed_block, part_of, placed_blocks, homes_of, placed, all_placed, procedures_of, SpotFits, CopiesFit, MovesFit, IsSequence}
use Rattle.placed_code.proofs.Homes.{touched, touched_cells, touched_blocks, ranks_differ, ranks_within, homes_have, or_left, or_right, all_named}
use Rattle.placed_code.specs.Layout.{position}

---- Lists

pub length_map : {A B : Type 0} (f : A → B) (xs : List A) → length (map f xs) ≡ length xs
length_map f [] = refl
length_map f (x ∷ xs) = ap suc (length_map f xs)

pub get_mapped : {A B : Type 0} (f : A → B) (xs : List A) (n : ℕ) (d : B) (e : A) → n < length xs → get_or (map f xs) n d ≡ f (get_or xs n e)
get_mapped f [] n d e l = absurd (omega (arith, l))
get_mapped f (x ∷ xs) zero d e l = refl
get_mapped f (x ∷ xs) (suc n) d e l = get_mapped f xs n d e (omega (arith, l))

and_left : (a b : Bool) → (a && b) ≡ true → a ≡ true
and_left true b e = refl
and_left false b e = cc

and_right : (a b : Bool) → (a && b) ≡ true → b ≡ true
and_right true b e = e
and_right false b e = cc

pub all_at : {A : Type 0} (f : A → Bool) (xs : List A) → list_all f xs ≡ true → (n : ℕ) (d : A) → n < length xs → f (get_or xs n d) ≡ true
all_at f [] h n d l = absurd (omega (arith, l))
all_at f (x ∷ xs) h zero d l = and_left (f x) (list_all f xs) h
all_at f (x ∷ xs) h (suc n) d l = all_at f xs (and_right (f x) (list_all f xs) h) n d (omega (arith, l))

---- What runs is the flow

module _ (steps : List Move → List Copy) where
  ops_are : (front : List Copy) (ops : List Operation) (named : List ℕ) (lines : List Line) → map operation (cells_from steps front ops named lines) ≡ ops
  ops_are front [] named lines = refl
  ops_are front (op ∷ ops) named lines = ap (λ (xs : List Operation). op ∷ xs) (ops_are [] ops (drop (names op) named) (lines_behind lines))

  blocks_are : (j : ℕ) (bls : List CodeBlock) (parts : List Part) → map code_block (placed_blocks steps j bls parts) ≡ bls
  blocks_are j [] parts = refl
  blocks_are j (bl ∷ bls) parts =
      let part = part_of parts j in
      ap₂ (λ (ops : List Operation) (rest : List CodeBlock). record { params = bl.params; ops = ops; end = bl.end } ∷ rest) (ops_are part.into bl.ops part.named part.lines) (blocks_are (j + 1) bls parts)

  pub procedure_is : (r : Allocated) → procedure (placed steps r) ≡ flows.procedure r.flow
  procedure_is r = ap (λ (bls : List CodeBlock). record { blocks = bls; counted = r.flow.counted; cells = r.flow.local_cells; bytes = r.flow.local_bytes }) (blocks_are 0 (code_nodes r.flow.nodes) r.parts)

  pub procedures_are : (rs : List Allocated) → procedures (all_placed steps rs) ≡ procedures_of rs
  procedures_are [] = refl
  procedures_are (r ∷ rs) = ap₂ (λ (p : Procedure) (ps : List Procedure). p ∷ ps) (procedure_is r) (procedures_are rs)

  pub length_blocks : (j : ℕ) (bls : List CodeBlock) (parts : List Part) → length (placed_blocks steps j bls parts) ≡ length bls
  length_blocks j [] parts = refl
  length_blocks j (bl ∷ bls) parts = ap suc (length_blocks (j + 1) bls parts)

  pub block_is : (j : ℕ) (bls : List CodeBlock) (parts : List Part) (n : ℕ) → n < length bls → get_or (placed_blocks steps j bls parts) n no_block ≡ placed_block steps (block_at bls n) (part_of parts (j + n))
  block_is j [] parts n l = absurd (omega (arith, l))
  block_is j (bl ∷ bls) parts zero l = let z : j ≡ j + 0 = omega arith in ap (λ m. placed_block steps bl (part_of parts m)) z
  block_is j (bl ∷ bls) parts (suc n) l = let z : j + 1 + n ≡ j + suc n = omega arith in block_is (j + 1) bls parts n (omega (arith, l)) ∙ ap (λ m. placed_block steps (block_at bls n) (part_of parts m)) z

---- Ranges

range_append : (room : Room) (ms ns : List Copy) → CopiesFit room ms → CopiesFit room ns → CopiesFit room (ms ++ ns)
range_append room [] ns a b = b
range_append room (m ∷ ms) ns a b = (a.0, a.1, range_append room ms ns a.2 b)

pub registers_fit : (k : ℕ) → k ≤ 16 → (named : List ℕ) → AllBelow k named → AreRegisters named
registers_fit k few [] b i = omega arith
registers_fit k few (n ∷ named) b zero = let l = b.0 in omega (arith, l, few)
registers_fit k few (n ∷ named) b (suc i) = registers_fit k few named b.1 i

below_drop : (k n : ℕ) (named : List ℕ) → AllBelow k named → AllBelow k (drop n named)
below_drop k zero [] b = tt
below_drop k zero (r ∷ named) b = b
below_drop k (suc n) [] b = tt
below_drop k (suc n) (r ∷ named) b = below_drop k n named b.1

pub last_below : (k : ℕ) (ops : List Operation) (named : List ℕ) → AllBelow k named → AllBelow k (last_named ops named)
last_below k [] named b = b
last_below k (op ∷ ops) named b = last_below k ops (drop (names op) named) (below_drop k (names op) named b)

le_max : (a b : ℕ) → (a ≤ max a b) × (b ≤ max a b)
le_max zero b = (omega arith, omega arith)
le_max (suc a) zero = (omega arith, omega arith)
le_max (suc a) (suc b) = let r = le_max a b in let l = r.0 in let m = r.1 in (omega (arith, l), omega (arith, m))

pub slots_at : (bls : List CodeBlock) (b : ℕ) → b < length bls → slots_in (block_at bls b).ops ≤ slots_of bls
slots_at [] b l = absurd (omega (arith, l))
slots_at (bl ∷ bls) zero l = (le_max (slots_in bl.ops) (slots_of bls)).0
slots_at (bl ∷ bls) (suc b) l = let r = slots_at bls b (omega (arith, l)) in let m = (le_max (slots_in bl.ops) (slots_of bls)).1 in omega (arith, r, m)

-- operations of a procedure with so many argument words
abbrev pub OpsOk : ℕ → ℕ → List Operation → Type 0
OpsOk args slots [] = Unit {0}
OpsOk args slots (op ∷ ops) = ((operation_fits args op ≡ true) × IsNumber op.code × (slots_used op ≤ slots)) × OpsOk args slots ops

pub ops_ok : (args slots : ℕ) (ops : List Operation) → list_all (operation_fits args) ops ≡ true → slots_in ops ≤ slots → ((i : ℕ) (op : Operation) (rest : List Operation) → drop i ops ≡ op ∷ rest → IsNumber op.code) → OpsOk args slots ops
ops_ok args slots [] h few numbers = tt
ops_ok args slots (op ∷ ops) h few numbers =
    let m = le_max (slots_used op) (slots_in ops) in let one = m.0 in let more = m.1 in
    ((and_left (operation_fits args op) (list_all (operation_fits args) ops) h, numbers 0 op ops refl, omega (arith, few, one)), ops_ok args slots ops (and_right (operation_fits args op) (list_all (operation_fits args) ops) h) (omega (arith, few, more)) (λ i x rest e. numbers (suc i) x rest e))

-- cells whose copies have places, and whose operations fit
abbrev pub CellsOk : Placed → List Cell → Type 0
CellsOk pr [] = Unit {0}
CellsOk pr (cell ∷ cells) = AllNamed pr cell.copies × ((args : ℕ) × OpFits pr args cell.op cell.named) × CellsOk pr cells

module _ (k : ℕ) (few : k ≤ 16) (steps : List Move → List Copy) (sequence : IsSequence steps) (r : Allocated) where
  abbrev pub bls : List CodeBlock
  bls = code_nodes r.flow.nodes

  abbrev pub room : Room
  room = room_of k r.flow

  abbrev pub blocks : List Block
  blocks = placed_blocks steps 0 bls r.parts

  -- what some copy stores or loads
  abbrev pub Touched : Spot → Bool
  Touched p = touched r.first p || touched_blocks blocks p

  pub homes_fit : HomesFit (placed steps r)
  homes_fit = record { ranks = λ u v j e f. ranks_differ (homes_of r.first blocks) u v j e f; within = λ v j e. ranks_within (homes_of r.first blocks) v j e }

  ranks : (v : ℕ) → Touched (home v) ≡ true → (j : ℕ) × ((placed steps r).rank v ≡ Some j)
  ranks v t =
      let homes = homes_of r.first blocks in
      (position homes v, ap (λ b. cond b (Some (position homes v)) None) (homes_have r.first blocks v t))

  -- what is in range for an allocator fits
  spot_fits : (p : Spot) → InRange room p → SpotFits room p
  spot_fits (reg q) l = l
  spot_fits (home v) l = tt
  spot_fits (out s) l = l
  spot_fits target l = tt
  spot_fits saved l = tt

  moves_fit : (ms : List Move) → MovesInRange room ms → MovesFit room ms
  moves_fit [] l = tt
  moves_fit (m ∷ ms) l = (spot_fits (spot m.to) l.0, spot_fits (spot m.from) l.1, moves_fit ms l.2)

  pub named : (ms : List Copy) → CopiesFit room ms → ((p : Spot) → touched ms p ≡ true → Touched p ≡ true) → AllNamed (placed steps r) ms
  named = all_named (placed steps r) room few (omega arith) Touched ranks

  before_range : (lines : List Line) → LinesInRange room lines → CopiesFit room (copies_before steps lines)
  before_range [] l = tt
  before_range (Does i ∷ lines) l = tt
  before_range (Store q v ∷ lines) l = (tt, l.0.0, before_range lines l.1)
  before_range (Load q v ∷ lines) l = (l.0.0, tt, before_range lines l.1)
  before_range (Moves ms ∷ lines) l = range_append room (steps ms) (copies_before steps lines) (sequence.fit room ms (moves_fit ms l.0.1)) (before_range lines l.1)
  before_range (Result q ∷ lines) l = let h = l.0 in (l.0, omega (arith, h), before_range lines l.1)
  before_range (Target from ∷ lines) l = (tt, spot_fits (spot from) l.0, before_range lines l.1)

  behind_range : (lines : List Line) → LinesInRange room lines → LinesInRange room (lines_behind lines)
  behind_range [] l = tt
  behind_range (Does i ∷ lines) l = l.1
  behind_range (Store q v ∷ lines) l = behind_range lines l.1
  behind_range (Load q v ∷ lines) l = behind_range lines l.1
  behind_range (Moves ms ∷ lines) l = behind_range lines l.1
  behind_range (Result q ∷ lines) l = behind_range lines l.1
  behind_range (Target from ∷ lines) l = behind_range lines l.1

  pub last_range : (front : List Copy) (ops : List Operation) (lines : List Line) → CopiesFit room front → LinesInRange room lines → CopiesFit room (last_copies steps front ops lines)
  last_range front [] lines f l = range_append room front (copies_before steps lines) f (before_range lines l)
  last_range front (op ∷ ops) lines f l = last_range [] ops (lines_behind lines) tt (behind_range lines l)

  pub left_range : (end : End) (ms : List Copy) → CopiesFit room ms → CopiesFit room (left_by end ms)
  left_range (Jump to args) ms l = l
  left_range (Branch c a b one other) ms l = tt
  left_range (Nonzero a one other) ms l = tt
  left_range (Return a) ms l = tt
  left_range (Trap kind) ms l = tt

  pub both_range : (ms ns : List Copy) → CopiesFit room ms → CopiesFit room ns → CopiesFit room (ms ++ ns)
  both_range ms ns a b = range_append room ms ns a b

  pub cells_ok : (args : ℕ) (front : List Copy) (ops : List Operation) (regs : List ℕ) (lines : List Line) → CopiesFit room front → LinesInRange room lines → AllBelow k regs → OpsOk args (slots_of bls) ops → ((p : Spot) → touched_cells (cells_from steps front ops regs lines) p ≡ true → Touched p ≡ true) → CellsOk (placed steps r) (cells_from steps front ops regs lines)
  cells_ok args front [] regs lines f l b ok t = tt
  cells_ok args front (op ∷ ops) regs lines f l b ok t =
      let copies = front ++ copies_before steps lines in
      let rest = cells_from steps [] ops (drop (names op) regs) (lines_behind lines) in
      let fits : OpFits (placed steps r) args op regs = record { fits = ok.0.0; number = ok.0.1; registers = registers_fit k few regs b; slots = ok.0.2 } in
      (named copies (range_append room front (copies_before steps lines) f (before_range lines l)) (λ p e. t p (or_left (touched copies p) (touched_cells rest p) e)), (args, fits), cells_ok args [] ops (drop (names op) regs) (lines_behind lines) tt (behind_range lines l) (below_drop k (names op) regs b) ok.1 (λ p e. t p (or_right (touched copies p) (touched_cells rest p) e)))
