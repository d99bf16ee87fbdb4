-- Widths in lists, and what they are of placed procedures.
use Rattle.std.specs.Prelude.{◌≡◌, ℕ, suc, ◌+◌, ◌<◌, ◌==◌, List, [], ◌∷◌, length, if◌then◌else◌}
use Rattle.placed_code.specs.Placed.{Placed, proc_of}
use Rattle.placed_code.specs.Words.{turned}
use Rattle.placed_code.specs.Layout.{jump_width, proc_width, body_count, entry, block_width, front_width, placings, position, block_place}
use Rattle.link_words.specs.Fields.{entry_in}

-- of a branch by a test: one word where it is turned, and else a jump's behind it
abbrev pub test_width : ℕ → ℕ → ℕ → ℕ
test_width n one other = if turned n one other then 1 else (1 + jump_width (other == n))

-- of each item, by its number
abbrev pub widths_of : {A : Type 0} → (ℕ → A → ℕ) → ℕ → List A → List ℕ
widths_of width j [] = []
widths_of width j (x ∷ xs) = width j x ∷ widths_of width (suc j) xs

-- so many of the procedures are bodies, and they have these widths
pub record AreWidths (ps : List Placed) (bodies : ℕ) (widths : List ℕ) : Type 0 where
  pub bodies_are : body_count ps ≡ bodies
  pub widths_are : widths ≡ widths_of proc_width 0 ps

-- the first words of procedures, by number
pub record AreEntries (ps : List Placed) (entries : List ℕ) : Type 0 where
  pub each : length entries ≡ length ps
  pub places : (p : ℕ) → p < length ps → entry_in entries p ≡ entry ps p

-- so many blocks of a procedure stand in this order, with these widths, and behind what stands before them
pub record AreBlocks (ps : List Placed) (p first : ℕ) (order widths : List ℕ) (count : ℕ) : Type 0 where
  pub begins : first ≡ entry ps p + front_width (proc_of ps p)
  pub order_is : (proc_of ps p).order ≡ order
  pub widths_are : widths ≡ widths_of (block_width (proc_of ps p)) 0 (placings (proc_of ps p))
  pub count_is : count ≡ length (proc_of ps p).blocks

-- the first words of those of a procedure's blocks that stand in its order, by number
pub record ArePlaces (ps : List Placed) (p : ℕ) (places : List ℕ) : Type 0 where
  pub each : length places ≡ length (proc_of ps p).blocks
  pub begins : (b : ℕ) → b < length (proc_of ps p).blocks → position (proc_of ps p).order b < length (proc_of ps p).order → entry_in places b ≡ block_place ps p b

-- so many words stand before a procedure's blocks, and these are the blocks' widths in their order
pub record IsWide (pr : Placed) (front : ℕ) (widths : List ℕ) : Type 0 where
  pub front_is : front ≡ front_width pr
  pub blocks_are : widths ≡ widths_of (block_width pr) 0 (placings pr)
