-- A plan's piece, from the words and holes that were appended.
use Rattle.std.proofs.Common.{◌≡◌, ℕ, zero, suc, ◌+◌, ◌-◌, ◌*◌, ◌<◌, List, [], ◌∷◌, ◌++◌, map, length, refl, arith, sym, ap, ap₂, ◌∙◌, subst}
use Rattle.run_laws.specs.Layers.{spread}
use Rattle.a64_instr.specs.declared.instr.Instr.{Instr}
use Rattle.a64_table.specs.Table.{word_of}
use Rattle.placed_code.specs.Placed.{Placed}
use Rattle.placed_code.specs.Words.{frame_of}
use Rattle.placed_code.specs.Layout.{placings, block_width, front_width, proc_width, procedures_at}
use Rattle.placed_code.proofs.Parts.{length_map}
use Rattle.link_words.specs.Fields.{InReach, entry_in}
use Rattle.link_layout.specs.Widths.{AreBlocks, ArePlaces, widths_of}
use Rattle.link_blocks.specs.declared.plans.Plan.{Plan}
use Rattle.link_blocks.specs.Plans.{block_in, placed_in}
use Rattle.procedure_pieces.specs.Code.{block_code, front_code, proc_code, block_from}
use Rattle.procedure_pieces.specs.Pieces.{Hole, Piece, block_holes, proc_holes, piece_of}
use Rattle.procedure_pieces.specs.Claims.{AreInOrder}
use Rattle.procedure_pieces.proofs.Sizes.{front_size, proc_size}
use Rattle.procedure_pieces.proofs.Ordered.{holes_in_order}
use Rattle.procedure_code.specs.Parts.{entry_at, IsWhole}
use Rattle.procedure_code.proofs.Rows.{longer}
use Rattle.procedure_code.proofs.Sizes.{some_words}
use Rattle.procedure_code.proofs.Same.{proc_same}
use Rattle.procedure_code.proofs.Appended.{proc_appended}

index_map : (f : ℕ → ℕ) (xs : List ℕ) (t : ℕ) → f 0 ≡ 0 → entry_in (map f xs) t ≡ f (entry_in xs t)
index_map f [] zero z = sym z
index_map f [] (suc t) z = sym z
index_map f (x ∷ xs) zero z = refl
index_map f (x ∷ xs) (suc t) z = index_map f xs t z

pub reach_from : (base : ℕ) (xs ys : List ℕ) → ys ≡ map (λ x. x - base) xs → InReach xs → InReach ys
reach_from base xs ys e r p =
    let z : 0 - base ≡ 0 = omega arith in
    let i = index_map (λ x. x - base) xs p z in
    let f = ap (λ l. entry_in l p) e in
    let q = r p in
    omega (arith, i, f, q)

-- the blocks of a procedure in an image of it alone
pub alone_blocks : (plan : Plan) (base front : ℕ) (order widths : List ℕ) (count : ℕ) → base ≡ procedures_at (placed_in plan ∷ []) → front ≡ front_width (placed_in plan)
    → order ≡ plan.order → widths ≡ widths_of (block_width (placed_in plan)) 0 (placings (placed_in plan)) → count ≡ length plan.blocks → AreBlocks (placed_in plan ∷ []) 0 (base + front) order widths count
alone_blocks plan base front order widths count b f o w n = record {
  begins = omega (arith, b, f);
  order_is = sym o;
  widths_are = w;
  count_is = n ∙ sym (length_map block_in plan.blocks);
}

pub from_first : (pr : Placed) (base : ℕ) (found places : List ℕ) → IsWhole pr → base ≡ procedures_at (pr ∷ []) → ArePlaces (pr ∷ []) 0 found → places ≡ map (λ x. x - base) found
    → (t : ℕ) → t < length pr.blocks → entry_in places t ≡ block_from pr t
from_first pr base found places whole b are e t l =
    let z : 0 - base ≡ 0 = omega arith in
    let i = index_map (λ x. x - base) found t z in
    let f = ap (λ l. entry_in l t) e in
    let q = are.begins t l (whole.ordered.all t l) in
    omega (arith, i, f, q, b)

no_entry : (p : ℕ) → entry_at [] p ≡ 0
no_entry p = refl

no_entries : entry_at [] ≡ (λ p. 0)
no_entries = λ i p. no_entry p i

-- how many words stand before a plan's blocks
pub front_long : (plan : Plan) (none places w0 w1 : List ℕ) → w0 ≡ [] → w1 ≡ w0 ++ map word_of (front_code (entry_in places) (placed_in plan) (length w0)) → length w1 ≡ front_width (placed_in plan)
front_long plan none places w0 w1 z e =
    let pr = placed_in plan in
    let a = longer w0 w1 (front_code (entry_in places) pr (length w0)) e in
    let b = front_size (entry_at none) 0 (entry_in places) pr (length w0) in
    let c = ap length z in
    omega (arith, a, b, c)

-- what was appended for a plan
module _ (plan : Plan) (none places w0 w1 w2 : List ℕ) (hs0 hs : List Hole) (n : none ≡ []) (z : w0 ≡ []) (y : hs0 ≡ [])
    (e : w1 ≡ w0 ++ map word_of (front_code (entry_in places) (placed_in plan) (length w0)))
    (f : w2 ≡ w1 ++ map word_of (spread (block_code (entry_at none) 0 (entry_in places) (placed_in plan)) (block_width (placed_in plan)) 0 (length w1) (placings (placed_in plan))))
    (g : hs ≡ hs0 ++ spread (block_holes (placed_in plan)) (block_width (placed_in plan)) 0 (length w1) (placings (placed_in plan))) where
  abbrev pr : Placed
  pr = placed_in plan

  from : w2 ≡ map word_of (proc_code (entry_at none) 0 (entry_in places) 0 pr)
  from =
      proc_appended (entry_at none) 0 (entry_in places) plan w0 w1 w2 e f
      ∙ ap (λ (l : List ℕ). l ++ map word_of (proc_code (entry_at none) 0 (entry_in places) (length l) pr)) z

  pub long : length w2 ≡ proc_width 0 pr
  long = ap length from ∙ length_map word_of (proc_code (entry_at none) 0 (entry_in places) 0 pr) ∙ proc_size (entry_at none) 0 (entry_in places) pr 0 0

  holes_are : hs ≡ proc_holes pr
  holes_are = g ∙ ap₂ (λ (l : List Hole) m. l ++ spread (block_holes pr) (block_width pr) 0 m (placings pr)) y (front_long plan none places w0 w1 z e)

  pub some : 0 < length w2
  some = let l = long in let w = some_words 0 pr in omega (arith, l, w)

  pub in_order : AreInOrder 0 (length w2) hs
  in_order = subst (λ (l : List Hole). AreInOrder 0 (length w2) l) (sym holes_are) (subst (λ m. AreInOrder 0 m (proc_holes pr)) (sym long) (holes_in_order pr 0))

  pub made : (frame : ℕ) → frame ≡ 8 * plan.frame.slots → IsWhole pr → ((t : ℕ) → t < length pr.blocks → entry_in places t ≡ block_from pr t)
      → let piece : Piece = record { counted = plan.frame.counted; frame = frame; words = w2; holes = hs } in piece ≡ piece_of pr
  made frame is whole at =
      let nowhere : entry_at none ≡ (λ p. 0) = ap entry_at n ∙ no_entries in
      let words : w2 ≡ map word_of (proc_code (λ p. 0) 0 (block_from pr) 0 pr) =
      from ∙ ap (λ (is : List Instr). map word_of is) (proc_same (entry_at none) 0 (entry_in places) (block_from pr) pr whole at 0 ∙ ap (λ (h : ℕ → ℕ). proc_code h 0 (block_from pr) 0 pr) nowhere) in
      let bytes : frame ≡ frame_of pr = is ∙ ap (λ m. 8 * m) plan.slots in
      ap₂ (λ ws gs. let piece : Piece = record { counted = plan.frame.counted; frame = frame; words = ws; holes = gs } in piece) words holes_are
      ∙ ap (λ m. let piece : Piece = record { counted = plan.frame.counted; frame = m; words = map word_of (proc_code (λ p. 0) 0 (block_from pr) 0 pr); holes = proc_holes pr } in piece) bytes
