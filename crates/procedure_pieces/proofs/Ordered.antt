-- The length of a piece, and where its holes stand.
use Rattle.std.proofs.Common.{◌≡◌, ℕ, zero, suc, ◌+◌, ◌≤◌, List, [], ◌∷◌, ◌++◌, length, refl, arith, ap, ◌∙◌, subst}
use Rattle.std.specs.Prelude.{slice_set}
use Rattle.run_laws.specs.Layers.{whole_width, spread}
use Rattle.a64_table.specs.Table.{word_of}
use Rattle.block_runs.specs.declared.code.Code.{Code}
use Rattle.block_runs.specs.declared.code.Code.TheVariants as o
use Rattle.placed_code.specs.Placed.{Cell, Placed, block_of, def_register}
use Rattle.placed_code.specs.Words.{copies_words, slots_of}
use Rattle.placed_code.proofs.Parts.{length_map}
use Rattle.placed_code.specs.Layout.{op_width, cell_width, Placing, placings, block_width, front_width, proc_width}
use Rattle.procedure_pieces.specs.Code.{proc_code, block_from}
use Rattle.procedure_pieces.specs.Pieces.{Hole, put_in, all_filled, op_holes, cell_holes, block_holes, proc_holes, piece_of}
use Rattle.procedure_pieces.specs.Claims.{AreInOrder}
use Rattle.procedure_pieces.proofs.Sizes.{proc_size}

-- a piece is as long as its procedure is wide
pub piece_size : (p : ℕ) (pr : Placed) → length (piece_of pr).words ≡ proc_width p pr
piece_size p pr = length_map word_of (proc_code (λ q. 0) 0 (block_from pr) 0 pr) ∙ proc_size (λ q. 0) 0 (block_from pr) pr 0 p

pub length_set : (ws : List ℕ) (n w : ℕ) → length (slice_set ws n w) ≡ length ws
length_set [] zero w = refl
length_set [] (suc n) w = refl
length_set (v ∷ ws) zero w = refl
length_set (v ∷ ws) (suc n) w = ap suc (length_set ws n w)

-- and stays so where holes are filled
pub filled_size : (entry : ℕ → ℕ) (start k : ℕ) (hs : List Hole) (ws : List ℕ) → length (all_filled entry start k hs ws) ≡ length ws
filled_size entry start k [] ws = refl
filled_size entry start k (h ∷ hs) ws =
    let w = word_of (put_in entry start (k + h.at) h.what) in
    filled_size entry start k hs (slice_set ws h.at w) ∙ length_set ws h.at w

in_order_longer : (a b c : ℕ) (hs : List Hole) → b ≤ c → AreInOrder a b hs → AreInOrder a c hs
in_order_longer a b c [] l r = omega (arith, l, r)
in_order_longer a b c (h ∷ hs) l r = (r.0, in_order_longer (suc h.at) b c hs l r.1)

pub in_order_sooner : (a b c : ℕ) (hs : List Hole) → a ≤ b → AreInOrder b c hs → AreInOrder a c hs
in_order_sooner a b c [] l r = omega (arith, l, r)
in_order_sooner a b c (h ∷ hs) l r = let s = r.0 in (omega (arith, l, s), r.1)

in_order_append : (a b c : ℕ) (hs gs : List Hole) → AreInOrder a b hs → AreInOrder b c gs → AreInOrder a c (hs ++ gs)
in_order_append a b c [] gs r s = in_order_sooner a b c gs r s
in_order_append a b c (h ∷ hs) gs r s = (r.0, in_order_append (suc h.at) b c hs gs r.1 s)

in_order_row : {A : Type 0} (h : ℕ → ℕ → A → List Hole) (width : ℕ → A → ℕ) → ((i n : ℕ) (x : A) → AreInOrder n (n + width i x) (h i n x))
    → (i n : ℕ) (xs : List A) → AreInOrder n (n + whole_width width i xs) (spread h width i n xs)
in_order_row h width each i n [] = omega arith
in_order_row h width each i n (x ∷ xs) =
    let e : n + width i x + whole_width width (suc i) xs ≡ n + (width i x + whole_width width (suc i) xs) = omega arith in
    let rest = subst (λ m. AreInOrder (n + width i x) m (spread h width (suc i) (n + width i x) xs)) e (in_order_row h width each (suc i) (n + width i x) xs) in
    in_order_append n (n + width i x) (n + (width i x + whole_width width (suc i) xs)) (h i n x) (spread h width (suc i) (n + width i x) xs) (each i n x) rest

op_in_order : (slots n : ℕ) (code : Code) (d : ℕ) → AreInOrder n (n + op_width slots code) (op_holes n code d)
op_in_order slots n (o.Call p) d = (omega arith, omega arith)
op_in_order slots n (o.Code p) d = (omega arith, (omega arith, omega arith))
op_in_order slots n o.Copy d = (omega arith, omega arith)
op_in_order slots n o.Zero d = (omega arith, omega arith)
op_in_order slots n o.Compare d = (omega arith, omega arith)
op_in_order slots n code d = omega arith

module _ (pr : Placed) where
  cell_in_order : (j n : ℕ) (cell : Cell) → AreInOrder n (n + cell_width pr j cell) (cell_holes pr j n cell)
  cell_in_order j n cell =
      let m = n + length (copies_words pr cell.copies) in
      let e : m + op_width (slots_of pr) cell.op.code ≡ n + cell_width pr j cell = omega arith in
      in_order_sooner n m (n + cell_width pr j cell) (cell_holes pr j n cell) (omega arith)
      (subst (λ b. AreInOrder m b (cell_holes pr j n cell)) e (op_in_order (slots_of pr) m cell.op.code (def_register cell.named cell.op)))

  block_in_order : (j n : ℕ) (at : Placing) → AreInOrder n (n + block_width pr j at) (block_holes pr j n at)
  block_in_order j n at =
      let bl = block_of pr at.number in
      in_order_longer n (n + whole_width (cell_width pr) 0 bl.body) (n + block_width pr j at) (block_holes pr j n at) (omega arith)
      (in_order_row (cell_holes pr) (cell_width pr) cell_in_order 0 n bl.body)

  pub holes_in_order : (p : ℕ) → AreInOrder 0 (proc_width p pr) (proc_holes pr)
  holes_in_order p =
      in_order_sooner 0 (front_width pr) (proc_width p pr) (proc_holes pr) (omega arith)
      (in_order_row (block_holes pr) (block_width pr) block_in_order 0 (front_width pr) (placings pr))
