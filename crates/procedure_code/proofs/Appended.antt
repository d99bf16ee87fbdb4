-- Words appended part by part.
use Rattle.std.proofs.Common.{◌≡◌, ℕ, suc, ◌+◌, ◌<◌, ◌≤◌, ◌^◌, List, ◌∷◌, ◌++◌, map, length, drop, get_or, refl, arith, sym, ap, ap₂, ◌∙◌, subst}
use Rattle.std.proofs.lemmas.List.{drop_more}
use Rattle.run_laws.specs.Layers.{whole_width, spread}
use Rattle.run_laws.proofs.Rows.{length-spread}
use Rattle.a64_instr.specs.declared.instr.Instr.{Instr}
use Rattle.a64_table.specs.Table.{word_of}
use Rattle.block_runs.specs.declared.end.End.{End}
use Rattle.block_runs.specs.declared.end.End.TheVariants.{Return, Jump, Branch, Nonzero, Trap}
use Rattle.placed_code.specs.Placed.{Cell, Block, Placed, block_of}
use Rattle.placed_code.specs.Words.{copies_words, last_words}
use Rattle.placed_code.specs.Layout.{cell_width, Placing, first_of, followed, placings, block_width, front_width, proc_width}
use Rattle.link_words.specs.declared.frames.Frame.{Frame}
use Rattle.link_words.specs.Frames.{frame_in, last_of, width_of_end}
use Rattle.link_blocks.specs.declared.plans.Plan.{Plan}
use Rattle.link_blocks.specs.Plans.{placed_in}
use Rattle.procedure_pieces.specs.Code.{cell_code, parts_code, block_code, front_code, proc_code}
use Rattle.procedure_pieces.specs.Pieces.{Hole, cell_holes, block_holes}
use Rattle.procedure_pieces.proofs.Sizes.{cell_size, parts_size, block_size, front_size, proc_size}
use Rattle.procedure_code.specs.Measured.{parts_width}
use Rattle.procedure_code.proofs.Rows.{longer, row_more}
use Rattle.procedure_code.proofs.Sizes.{branch_within}
use Rattle.procedure_code.proofs.InOrder.{holes_more}
use Rattle.procedure_code.proofs.Measures.{frame_is}
use Rattle.link_words.proofs.Pushed.{then}

last_placed : (pr : Placed) (n : ℕ) (block : ℕ → ℕ) (k : ℕ) (end : End) (a b : ℕ) → last_of n block (frame_in pr) k end a b ≡ last_words n block pr k end a b
last_placed pr n block k (Return x) a b = refl
last_placed pr n block k (Jump to args) a b = refl
last_placed pr n block k (Branch c x y one other) a b = refl
last_placed pr n block k (Nonzero x one other) a b = refl
last_placed pr n block k (Trap kind) a b = refl

pub last_is : (plan : Plan) (n : ℕ) (block : ℕ → ℕ) (k : ℕ) (end : End) (a b : ℕ) → last_of n block plan.frame k end a b ≡ last_words n block (placed_in plan) k end a b
last_is plan n block k end a b = ap (λ (f : Frame). last_of n block f k end a b) (sym (frame_is plan)) ∙ last_placed (placed_in plan) n block k end a b

module _ (entry : ℕ → ℕ) (start : ℕ) (block : ℕ → ℕ) (plan : Plan) where
  abbrev pr : Placed
  pr = placed_in plan

  abbrev row : ℕ → List Cell → List Instr
  row k cells = spread (cell_code entry start pr) (cell_width pr) 0 k cells

  -- how far a block's cells and the copies behind them reach
  cells_end : (bl : Block) (w0 w1 : List ℕ) → w1 ≡ w0 ++ map word_of (row (length w0) bl.body) → length w1 ≡ length w0 + whole_width (cell_width pr) 0 bl.body
  cells_end bl w0 w1 e = longer w0 w1 (row (length w0) bl.body) e ∙ ap (λ m. length w0 + m) (length-spread (cell_code entry start pr) (cell_width pr) (cell_size entry start block pr) 0 (length w0) bl.body)

  pub end_near : (bl : Block) (n : ℕ) (w0 w1 w2 : List ℕ) → w1 ≡ w0 ++ map word_of (row (length w0) bl.body) → w2 ≡ w1 ++ map word_of (copies_words pr bl.copies) → length w0 + parts_width pr n bl ≤ 2 ^ 18 → length w2 + width_of_end n bl.end ≤ 2 ^ 18
  end_near bl n w0 w1 w2 e f l =
      let a = cells_end bl w0 w1 e in
      let b = longer w1 w2 (copies_words pr bl.copies) f in
      let c = branch_within n pr bl.end in
      omega (arith, a, b, c, l)

  pub parts_appended : (bl : Block) (n : ℕ) (w0 w1 w2 w3 : List ℕ) → w1 ≡ w0 ++ map word_of (row (length w0) bl.body) → w2 ≡ w1 ++ map word_of (copies_words pr bl.copies) → w3 ≡ w2 ++ map word_of (last_of n block plan.frame (length w2) bl.end bl.a bl.b)
      → w3 ≡ w0 ++ map word_of (parts_code entry start block pr n (length w0) bl)
  parts_appended bl n w0 w1 w2 w3 e f g =
      let a = cells_end bl w0 w1 e in
      let b = longer w1 w2 (copies_words pr bl.copies) f in
      let k = length w0 + whole_width (cell_width pr) 0 bl.body + length (copies_words pr bl.copies) in
      let at : length w2 ≡ k = omega (arith, a, b) in
      let last = last_words n block pr k bl.end bl.a bl.b in
      let g' : w3 ≡ w2 ++ map word_of last = g ∙ ap (λ (is : List Instr). w2 ++ map word_of is) (last_is plan n block (length w2) bl.end bl.a bl.b ∙ ap (λ m. last_words n block pr m bl.end bl.a bl.b) at) in
      then (row (length w0) bl.body) (copies_words pr bl.copies ++ last) w0 w1 w3 e (then (copies_words pr bl.copies) last w1 w2 w3 f g')

  -- one block more
  pub block_more : (items order : List ℕ) (i next n : ℕ) (old new all : List ℕ) → items ≡ order → i < length items → n ≡ length pr.blocks → next ≡ first_of n (drop (i + 1) order)
      → new ≡ old ++ map word_of (parts_code entry start block pr next (length old) (block_of pr (get_or items i 0)))
      → old ++ map word_of (spread (block_code entry start block pr) (block_width pr) i (length old) (followed (length pr.blocks) (drop i order))) ≡ all
      → new ++ map word_of (spread (block_code entry start block pr) (block_width pr) (i + 1) (length new) (followed (length pr.blocks) (drop (i + 1) order))) ≡ all
  block_more items order i next n old new all same l many is e inv =
      let l' : i < length order = subst (λ (xs : List ℕ). i < length xs) same l in
      let at : Placing = record { number = get_or order i 0; next = first_of (length pr.blocks) (drop (i + 1) order) } in
      let d : followed (length pr.blocks) (drop i order) ≡ at ∷ followed (length pr.blocks) (drop (i + 1) order) = ap (followed (length pr.blocks)) (drop_more order i 0 l') in
      let e' : new ≡ old ++ map word_of (block_code entry start block pr i (length old) at) =
      e ∙ ap₂ (λ m (xs : List ℕ). old ++ map word_of (parts_code entry start block pr m (length old) (block_of pr (get_or xs i 0)))) (is ∙ ap (λ m. first_of m (drop (i + 1) order)) many) same in
      row_more (block_code entry start block pr) (block_width pr) (block_size entry start block pr) i (i + 1) at (followed (length pr.blocks) (drop (i + 1) order)) old new all (let z : i + 1 ≡ suc i = omega arith in z) e'
      (sym (ap (λ (xs : List Placing). old ++ map word_of (spread (block_code entry start block pr) (block_width pr) i (length old) xs)) d) ∙ inv)

  pub size_more : (items order : List ℕ) (i next n : ℕ) (old new : List ℕ) (all : ℕ) → items ≡ order → i < length items → n ≡ length pr.blocks → next ≡ first_of n (drop (i + 1) order)
      → new ≡ old ++ map word_of (parts_code entry start block pr next (length old) (block_of pr (get_or items i 0)))
      → length old + whole_width (block_width pr) i (followed (length pr.blocks) (drop i order)) ≡ all → length new + whole_width (block_width pr) (i + 1) (followed (length pr.blocks) (drop (i + 1) order)) ≡ all
  size_more items order i next n old new all same l many is e inv =
      let l' : i < length order = subst (λ (xs : List ℕ). i < length xs) same l in
      let rest = followed (length pr.blocks) (drop (i + 1) order) in
      let at : Placing = record { number = get_or order i 0; next = first_of (length pr.blocks) (drop (i + 1) order) } in
      let d = ap (λ (xs : List ℕ). whole_width (block_width pr) i (followed (length pr.blocks) xs)) (drop_more order i 0 l') in
      let z : i + 1 ≡ suc i = omega arith in
      let m = ap (λ j. whole_width (block_width pr) j rest) z in
      let w = longer old new (parts_code entry start block pr next (length old) (block_of pr (get_or items i 0))) e in
      let s = parts_size entry start block pr next (length old) (block_of pr (get_or items i 0)) in
      let t : parts_width pr next (block_of pr (get_or items i 0)) ≡ block_width pr i at =
      ap₂ (λ q (xs : List ℕ). parts_width pr q (block_of pr (get_or xs i 0))) (is ∙ ap (λ q. first_of q (drop (i + 1) order)) many) same in
      omega (arith, inv, d, m, w, s, t)

  -- one block's holes more
  pub block_holes_more : (items order : List ℕ) (i next n : ℕ) (old new : List ℕ) (ho hn all : List Hole) → items ≡ order → i < length items → n ≡ length pr.blocks → next ≡ first_of n (drop (i + 1) order)
      → new ≡ old ++ map word_of (parts_code entry start block pr next (length old) (block_of pr (get_or items i 0)))
      → hn ≡ ho ++ spread (cell_holes pr) (cell_width pr) 0 (length old) (block_of pr (get_or items i 0)).body
      → ho ++ spread (block_holes pr) (block_width pr) i (length old) (followed (length pr.blocks) (drop i order)) ≡ all
      → hn ++ spread (block_holes pr) (block_width pr) (i + 1) (length new) (followed (length pr.blocks) (drop (i + 1) order)) ≡ all
  block_holes_more items order i next n old new ho hn all same l many is e eh inv =
      let l' : i < length order = subst (λ (xs : List ℕ). i < length xs) same l in
      let rest = followed (length pr.blocks) (drop (i + 1) order) in
      let at : Placing = record { number = get_or order i 0; next = first_of (length pr.blocks) (drop (i + 1) order) } in
      let d : followed (length pr.blocks) (drop i order) ≡ at ∷ rest = ap (followed (length pr.blocks)) (drop_more order i 0 l') in
      let w = longer old new (parts_code entry start block pr next (length old) (block_of pr (get_or items i 0))) e in
      let s = parts_size entry start block pr next (length old) (block_of pr (get_or items i 0)) in
      let t : parts_width pr next (block_of pr (get_or items i 0)) ≡ block_width pr i at =
      ap₂ (λ q (xs : List ℕ). parts_width pr q (block_of pr (get_or xs i 0))) (is ∙ ap (λ q. first_of q (drop (i + 1) order)) many) same in
      let eh' : hn ≡ ho ++ block_holes pr i (length old) at = eh ∙ ap (λ (xs : List ℕ). ho ++ spread (cell_holes pr) (cell_width pr) 0 (length old) (block_of pr (get_or xs i 0)).body) same in
      holes_more (block_holes pr) (block_width pr) i (i + 1) (length old) (length new) at rest ho hn all (let z : i + 1 ≡ suc i = omega arith in z) (omega (arith, w, s, t)) eh'
      (sym (ap (λ (xs : List Placing). ho ++ spread (block_holes pr) (block_width pr) i (length old) xs) d) ∙ inv)

  -- a block of the row is near
  pub block_near : (items order : List ℕ) (i next n : ℕ) (old : List ℕ) (all : ℕ) → items ≡ order → i < length items → n ≡ length pr.blocks → next ≡ first_of n (drop (i + 1) order)
      → length old + whole_width (block_width pr) i (followed (length pr.blocks) (drop i order)) ≡ all → all ≤ 2 ^ 18 → length old + parts_width pr next (block_of pr (get_or items i 0)) ≤ 2 ^ 18
  block_near items order i next n old all same l many is inv few =
      let l' : i < length order = subst (λ (xs : List ℕ). i < length xs) same l in
      let rest = followed (length pr.blocks) (drop (i + 1) order) in
      let at : Placing = record { number = get_or order i 0; next = first_of (length pr.blocks) (drop (i + 1) order) } in
      let d = ap (λ (xs : List ℕ). whole_width (block_width pr) i (followed (length pr.blocks) xs)) (drop_more order i 0 l') in
      let t : parts_width pr next (block_of pr (get_or items i 0)) ≡ block_width pr i at =
      ap₂ (λ q (xs : List ℕ). parts_width pr q (block_of pr (get_or xs i 0))) (is ∙ ap (λ q. first_of q (drop (i + 1) order)) many) same in
      omega (arith, inv, d, t, few)

  -- a procedure's words
  pub proc_appended : (w0 w1 w2 : List ℕ) → w1 ≡ w0 ++ map word_of (front_code block pr (length w0)) → w2 ≡ w1 ++ map word_of (spread (block_code entry start block pr) (block_width pr) 0 (length w1) (placings pr)) → w2 ≡ w0 ++ map word_of (proc_code entry start block (length w0) pr)
  proc_appended w0 w1 w2 e f =
      let at : length w1 ≡ length w0 + front_width pr = longer w0 w1 (front_code block pr (length w0)) e ∙ ap (λ m. length w0 + m) (front_size entry start block pr (length w0)) in
      then (front_code block pr (length w0)) (spread (block_code entry start block pr) (block_width pr) 0 (length w0 + front_width pr) (placings pr)) w0 w1 w2 e
      (f ∙ ap (λ m. w1 ++ map word_of (spread (block_code entry start block pr) (block_width pr) 0 m (placings pr))) at)

  pub proc_long : (w0 w2 : List ℕ) → w2 ≡ w0 ++ map word_of (proc_code entry start block (length w0) pr) → length w2 ≡ length w0 + proc_width 0 pr
  proc_long w0 w2 e = longer w0 w2 (proc_code entry start block (length w0) pr) e ∙ ap (λ m. length w0 + m) (proc_size entry start block pr (length w0) 0)
