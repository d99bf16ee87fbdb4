-- Lines of a node, one kind behind the other, are what lies ahead in them.
use Rattle.std.proofs.Common.{◌≡◌, ℕ, zero, suc, ◌+◌, ◌<◌, List, [], ◌∷◌, ◌++◌, map, length, drop, get_or, Bool, true, false, refl, arith, sym, ap, ap₂, ◌∙◌, append_assoc}
use Rattle.std.specs.Prelude.{nat_lt, if◌then◌else◌}
use Rattle.std.proofs.lemmas.Bool.Decides.{nat_tests}
use Rattle.std.proofs.lemmas.List.{append-nil}
use Rattle.block_runs.specs.declared.end.End.{End}
use Rattle.block_runs.specs.declared.end.End.TheVariants.{Jump, Branch, Nonzero, Return, Trap}
use Rattle.block_runs.specs.Blocks.{Operation, CodeBlock}
use Rattle.lir_core.specs.declared.places.Line.{Line}
use Rattle.lir_core.specs.declared.places.Line.TheVariants.{Store, Load, Moves, Result, Target}
use Rattle.lir_core.specs.declared.places.Line.TheVariants.{Lir as Does}
use Rattle.lir_core.specs.Lines.{names}
use Rattle.parallel_move.specs.declared.step.Step.{Step}
use Rattle.boundary_resolve.specs.declared.code_line.CodeLine.{CodeLine}
use Rattle.boundary_resolve.specs.declared.code_line.CodeLine.TheVariants.{Body, Edge, Leave}
use Rattle.placed_code.specs.Placed.{Copy, Cell, Block}
use Rattle.placed_code.specs.Claims.{AreRegisters}
use Rattle.placed_code.specs.Results.{line_copies, copies_before, lines_behind, cells_from, last_copies, last_named}
use Rattle.linked_flows.specs.Allocations.{copy_of, copies_of, steps_of}
use Rattle.link_blocks.specs.Fits.{low_register, register_in}
use Rattle.link_blocks.specs.Plans.{plain_cell, plain_operation, plain_end}
use Rattle.link_blocks.specs.Ahead.{edges_ahead, behind_edges, copies_ahead, behind_copies, cells_ahead, last_ahead, behind_last, block_ahead, behind_block}

---- Edges

pub edges_flat : (ss : List Step) (ls : List CodeLine) → edges_ahead ls ≡ [] → edges_ahead (map Edge ss ++ ls) ≡ copies_of ss
edges_flat [] ls none = none
edges_flat (s ∷ ss) ls none = ap (λ (ms : List Copy). copy_of s ∷ ms) (edges_flat ss ls none)

pub behind_edges_flat : (ss : List Step) (ls : List CodeLine) → behind_edges ls ≡ ls → behind_edges (map Edge ss ++ ls) ≡ ls
behind_edges_flat [] ls same = same
behind_edges_flat (s ∷ ss) ls same = behind_edges_flat ss ls same

---- Lines of a node

pub copies_flat : (ls : List Line) (rest : List CodeLine) → copies_ahead rest ≡ [] → copies_ahead (map Body ls ++ rest) ≡ copies_before steps_of ls
copies_flat [] rest none = none
copies_flat (Does i ∷ ls) rest none = refl
copies_flat (Store r v ∷ ls) rest none = ap (λ (ms : List Copy). line_copies steps_of (Store r v) ++ ms) (copies_flat ls rest none)
copies_flat (Load r v ∷ ls) rest none = ap (λ (ms : List Copy). line_copies steps_of (Load r v) ++ ms) (copies_flat ls rest none)
copies_flat (Moves ms ∷ ls) rest none = ap (λ (ns : List Copy). line_copies steps_of (Moves ms) ++ ns) (copies_flat ls rest none)
copies_flat (Result r ∷ ls) rest none = ap (λ (ms : List Copy). line_copies steps_of (Result r) ++ ms) (copies_flat ls rest none)
copies_flat (Target from ∷ ls) rest none = ap (λ (ms : List Copy). line_copies steps_of (Target from) ++ ms) (copies_flat ls rest none)

pub behind_flat : (ls : List Line) (rest : List CodeLine) → behind_copies rest ≡ rest → behind_copies (map Body ls ++ rest) ≡ map Body (lines_behind ls) ++ rest
behind_flat [] rest same = same
behind_flat (Does i ∷ ls) rest same = refl
behind_flat (Store r v ∷ ls) rest same = behind_flat ls rest same
behind_flat (Load r v ∷ ls) rest same = behind_flat ls rest same
behind_flat (Moves ms ∷ ls) rest same = behind_flat ls rest same
behind_flat (Result r ∷ ls) rest same = behind_flat ls rest same
behind_flat (Target from ∷ ls) rest same = behind_flat ls rest same

pub drop_one : {A : Type 0} (xs : List A) (n : ℕ) → drop (n + 1) xs ≡ drop 1 (drop n xs)
drop_one {A} xs n = let z : n + 1 ≡ suc n = omega arith in ap (λ m. drop m xs) z ∙ on xs n
  where
    on : (ys : List A) (m : ℕ) → drop (suc m) ys ≡ drop 1 (drop m ys)
    on [] zero = refl
    on [] (suc m) = refl
    on (y ∷ ys) zero = refl
    on (y ∷ ys) (suc m) = on ys m

---- Registers

low_is : (r : ℕ) → r < 16 → low_register r ≡ r
low_is r l = by_test (nat_lt r 16) refl
  where
    by_test : (b : Bool) → nat_lt r 16 ≡ b → (if b then r else 0) ≡ r
    by_test true e = refl
    by_test false e = absurd (grind (arith, nat_tests))

pub register_is : (named : List ℕ) (i : ℕ) → AreRegisters named → register_in named i ≡ get_or named i 0
register_is named i fit = low_is (get_or named i 0) (fit i)

pub registers_drop : (n : ℕ) (named : List ℕ) → AreRegisters named → AreRegisters (drop n named)
registers_drop zero [] fit = fit
registers_drop zero (r ∷ named) fit = fit
registers_drop (suc n) [] fit = fit
registers_drop (suc n) (r ∷ named) fit = registers_drop n named (λ i. fit (suc i))

pub registers_last : (ops : List Operation) (named : List ℕ) → AreRegisters named → AreRegisters (last_named ops named)
registers_last [] named fit = fit
registers_last (op ∷ ops) named fit = registers_last ops (drop (names op) named) (registers_drop (names op) named fit)

---- Cells

cell_same : (copies copies' : List Copy) (op : Operation) (a a' b b' c c' d d' : ℕ) → copies ≡ copies' → a ≡ a' → b ≡ b' → c ≡ c' → d ≡ d'
    → (let x : Cell = record { copies = copies; op = plain_operation op.code; named = a ∷ b ∷ c ∷ d ∷ [] } in x) ≡ record { copies = copies'; op = plain_operation op.code; named = a' ∷ b' ∷ c' ∷ d' ∷ [] }
cell_same copies copies' op a a' b b' c c' d d' e f g h i = cc

pub cells_flat : (front : List Copy) (ops : List Operation) (named : List ℕ) (ls : List Line) (rest : List CodeLine) → copies_ahead rest ≡ [] → behind_copies rest ≡ rest → AreRegisters named
    → cells_ahead front ops named (map Body ls ++ rest) ≡ map plain_cell (cells_from steps_of front ops named ls)
cells_flat front [] named ls rest none same fit = refl
cells_flat front (op ∷ ops) named ls rest none same fit =
    ap₂ (λ (x : Cell) (xs : List Cell). x ∷ xs)
    (cell_same (front ++ copies_ahead (map Body ls ++ rest)) (front ++ copies_before steps_of ls) op (register_in named 0) (get_or named 0 0) (register_in named 1) (get_or named 1 0) (register_in named 2) (get_or named 2 0) (register_in named (length op.uses)) (get_or named (length op.uses) 0)
    (ap (λ (ms : List Copy). front ++ ms) (copies_flat ls rest none)) (register_is named 0 fit) (register_is named 1 fit) (register_is named 2 fit) (register_is named (length op.uses) fit))
    (ap (λ (xs : List CodeLine). cells_ahead [] ops (drop (names op) named) xs) (behind_flat ls rest same) ∙ cells_flat [] ops (drop (names op) named) (lines_behind ls) rest none same (registers_drop (names op) named fit))

---- Behind the last operation

-- the lines behind the operation behind the last one; none where no operation is left
abbrev pub beyond : List Operation → List Line → List Line
beyond [] ls = lines_behind ls
beyond (op ∷ ops) ls = beyond ops (lines_behind ls)

pub last_flat : (front : List Copy) (ops : List Operation) (ls : List Line) (rest : List CodeLine) → copies_ahead rest ≡ [] → behind_copies rest ≡ rest → beyond ops ls ≡ []
    → last_ahead front ops (map Body ls ++ rest) ≡ last_copies steps_of front ops ls ++ edges_ahead rest
last_flat front [] ls rest none same over =
    ap₂ (λ (x : List Copy) (xs : List CodeLine). front ++ (x ++ edges_ahead xs)) (copies_flat ls rest none) (behind_flat ls rest same ∙ ap (λ (xs : List Line). map Body xs ++ rest) over)
    ∙ sym (append_assoc front (copies_before steps_of ls) (edges_ahead rest))
last_flat front (op ∷ ops) ls rest none same over = ap (λ (xs : List CodeLine). last_ahead [] ops xs) (behind_flat ls rest same) ∙ last_flat [] ops (lines_behind ls) rest none same over

pub behind_last_flat : (ops : List Operation) (ls : List Line) (rest : List CodeLine) → behind_copies rest ≡ rest → beyond ops ls ≡ [] → behind_last ops (map Body ls ++ rest) ≡ behind_edges rest
behind_last_flat [] ls rest same over = ap behind_edges (behind_flat ls rest same ∙ ap (λ (xs : List Line). map Body xs ++ rest) over)
behind_last_flat (op ∷ ops) ls rest same over = ap (λ (xs : List CodeLine). behind_last ops xs) (behind_flat ls rest same) ∙ behind_last_flat ops (lines_behind ls) rest same over

---- A node

-- the steps of a jump's edge, and the end, are no lines of a node
no_copies : (ss : List Step) (n : ℕ) (tail : List CodeLine) → copies_ahead (map Edge ss ++ Leave n ∷ tail) ≡ []
no_copies [] n tail = refl
no_copies (s ∷ ss) n tail = refl

not_passed : (ss : List Step) (n : ℕ) (tail : List CodeLine) → behind_copies (map Edge ss ++ Leave n ∷ tail) ≡ map Edge ss ++ Leave n ∷ tail
not_passed [] n tail = refl
not_passed (s ∷ ss) n tail = refl

-- the end stands behind the steps of a jump's edge
behind_jump : (ss : List Step) (n : ℕ) (tail : List CodeLine) → behind_edges (map Edge ss ++ Leave n ∷ tail) ≡ Leave n ∷ tail
behind_jump [] n tail = refl
behind_jump (s ∷ ss) n tail = behind_jump ss n tail

jump_ahead : (ss : List Step) (n : ℕ) (tail : List CodeLine) → edges_ahead (map Edge ss ++ Leave n ∷ tail) ≡ copies_of ss
jump_ahead [] n tail = refl
jump_ahead (s ∷ ss) n tail = ap (λ (ms : List Copy). copy_of s ∷ ms) (jump_ahead ss n tail)

both_edges : (ss ts : List Step) (ls : List CodeLine) → edges_ahead (map Edge ss ++ (map Edge ts ++ ls)) ≡ copies_of ss ++ edges_ahead (map Edge ts ++ ls)
both_edges [] ts ls = refl
both_edges (s ∷ ss) ts ls = ap (λ (ms : List Copy). copy_of s ∷ ms) (both_edges ss ts ls)

behind_both : (ss : List Step) (ls : List CodeLine) → behind_edges (map Edge ss ++ ls) ≡ behind_edges ls
behind_both [] ls = refl
behind_both (s ∷ ss) ls = behind_both ss ls

-- the lines of a node: the steps of the edge from a test, its own lines, the steps of its jump's edge, and its end
abbrev pub flat : List Step → List Line → List Step → ℕ → List CodeLine → List CodeLine
flat test lines jump n tail = map Edge test ++ (map Body lines ++ (map Edge jump ++ Leave n ∷ tail))

-- a block from its parts, without what has no words
abbrev pub whole : CodeBlock → List ℕ → List Step → List Line → List Step → Block
whole bl named test lines jump = record {
  params = [];
  body = map plain_cell (cells_from steps_of (copies_of test) bl.ops named lines);
  copies = last_copies steps_of (copies_of test) bl.ops lines ++ copies_of jump;
  end = plain_end bl.end;
  a = get_or (last_named bl.ops named) 0 0;
  b = get_or (last_named bl.ops named) 1 0;
}

block_same : (body body' : List Cell) (copies copies' : List Copy) (end : End) (a a' b b' : ℕ) → body ≡ body' → copies ≡ copies' → a ≡ a' → b ≡ b'
    → (let x : Block = record { params = []; body = body; copies = copies; end = end; a = a; b = b } in x) ≡ record { params = []; body = body'; copies = copies'; end = end; a = a'; b = b' }
block_same body body' copies copies' end a a' b b' e f g h = cc

pub block_flat : (bl : CodeBlock) (named : List ℕ) (test : List Step) (lines : List Line) (jump : List Step) (n : ℕ) (tail : List CodeLine) → AreRegisters named → beyond bl.ops lines ≡ [] → (lines ≡ [] → bl.ops ≡ [])
    → block_ahead bl named (flat test lines jump n tail) ≡ whole bl named test lines jump
block_flat bl named test [] jump n tail fit over none =
    let empty : bl.ops ≡ [] = none refl in
    let ahead = flat test [] jump n tail in
    let front : edges_ahead ahead ≡ copies_of test ++ copies_of jump = both_edges test jump (Leave n ∷ tail) ∙ ap (λ (ms : List Copy). copies_of test ++ ms) (jump_ahead jump n tail) in
    let back : behind_edges ahead ≡ Leave n ∷ tail = behind_both test (map Edge jump ++ Leave n ∷ tail) ∙ behind_jump jump n tail in
    block_same _ _ _ _ (plain_end bl.end) _ _ _ _
    (ap (λ (ops : List Operation). cells_ahead (edges_ahead ahead) ops named (behind_edges ahead)) empty ∙ sym (ap (λ (ops : List Operation). map plain_cell (cells_from steps_of (copies_of test) ops named [])) empty))
    (ap (λ (ops : List Operation). last_ahead (edges_ahead ahead) ops (behind_edges ahead)) empty
    ∙ ap₂ (λ (ms : List Copy) (ls : List CodeLine). ms ++ (copies_ahead ls ++ edges_ahead (behind_copies ls))) front back
    ∙ append-nil (copies_of test ++ copies_of jump)
    ∙ ap (λ (ms : List Copy). ms ++ copies_of jump) (sym (append-nil (copies_of test)))
    ∙ sym (ap (λ (ops : List Operation). last_copies steps_of (copies_of test) ops [] ++ copies_of jump) empty))
    (register_is (last_named bl.ops named) 0 (registers_last bl.ops named fit))
    (register_is (last_named bl.ops named) 1 (registers_last bl.ops named fit))
block_flat bl named test (l ∷ lines) jump n tail fit over none =
    let rest = map Edge jump ++ Leave n ∷ tail in
    let own = map Body (l ∷ lines) ++ rest in
    let ahead = flat test (l ∷ lines) jump n tail in
    let front : edges_ahead ahead ≡ copies_of test = edges_flat test own refl in
    let back : behind_edges ahead ≡ own = behind_edges_flat test own refl in
    block_same _ _ _ _ (plain_end bl.end) _ _ _ _
    (ap₂ (λ (ms : List Copy) (ls : List CodeLine). cells_ahead ms bl.ops named ls) front back ∙ cells_flat (copies_of test) bl.ops named (l ∷ lines) rest (no_copies jump n tail) (not_passed jump n tail) fit)
    (ap₂ (λ (ms : List Copy) (ls : List CodeLine). last_ahead ms bl.ops ls) front back ∙ last_flat (copies_of test) bl.ops (l ∷ lines) rest (no_copies jump n tail) (not_passed jump n tail) over
    ∙ ap (λ (ms : List Copy). last_copies steps_of (copies_of test) bl.ops (l ∷ lines) ++ ms) (jump_ahead jump n tail))
    (register_is (last_named bl.ops named) 0 (registers_last bl.ops named fit))
    (register_is (last_named bl.ops named) 1 (registers_last bl.ops named fit))

pub behind_block_flat : (bl : CodeBlock) (test : List Step) (lines : List Line) (jump : List Step) (n : ℕ) (tail : List CodeLine) → beyond bl.ops lines ≡ [] → (lines ≡ [] → bl.ops ≡ [])
    → behind_block bl (flat test lines jump n tail) ≡ tail
behind_block_flat bl test [] jump n tail over none =
    ap (λ (ls : List CodeLine). drop 1 ls)
    (ap₂ (λ (ops : List Operation) (ls : List CodeLine). behind_last ops ls) (none refl) (behind_both test (map Edge jump ++ Leave n ∷ tail) ∙ behind_jump jump n tail))
behind_block_flat bl test (l ∷ lines) jump n tail over none =
    let rest = map Edge jump ++ Leave n ∷ tail in
    ap (λ (ls : List CodeLine). drop 1 ls)
    (ap (λ (ls : List CodeLine). behind_last bl.ops ls) (behind_edges_flat test (map Body (l ∷ lines) ++ rest) refl) ∙ behind_last_flat bl.ops (l ∷ lines) rest (not_passed jump n tail) over ∙ behind_jump jump n tail)
