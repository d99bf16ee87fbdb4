-- Spots and copies as placed code has them, and what room they take.
use Rattle.std.specs.Prelude.{◌≡◌, ℕ, zero, suc, ◌+◌, nat_lt, List, [], ◌∷◌, ◌++◌, Option, Some, None, if◌then◌else◌}
use Rattle.lir_core.specs.Spots.{reg, home, out, target, saved}
use Rattle.lir_core.specs.Spots as lir
use Rattle.placed_code.specs.Placed.{Cell, Block, Placed}
use Rattle.placed_code.specs.Placed as place
use Rattle.placed_code.specs.Words.{is_near}
use Rattle.placed_code.specs.Results.{rank_in}
use Rattle.link_layout.specs.declared.copies.Spot.{Spot}
use Rattle.link_layout.specs.declared.copies.Spot.TheVariants.{Reg, Home, Out, Target, Saved}
use Rattle.link_layout.specs.declared.copies.Copy.{Copy}
use Rattle.link_layout.specs.declared.copies.Room.{Room}
use Rattle.link_layout.specs.declared.copies.Room.TheVariants.{Register, Near, Far, Nowhere}

abbrev pub spot_of : Spot → lir.Spot
spot_of (Reg r) = reg r
spot_of (Home v) = home v
spot_of (Out s) = out s
spot_of Target = target
spot_of Saved = saved

abbrev pub copy_of : Copy → place.Copy
copy_of m = record { to = spot_of m.to; from = spot_of m.from }

-- the frame of a placed procedure has these homes, and so many slots for arguments
pub record IsFrameOf (homes : List ℕ) (outs : ℕ) (pr : Placed) : Type 0 where
  pub outs_are : pr.outs ≡ outs
  pub rank_is : pr.rank ≡ rank_in homes

-- the rank that a number is behind: 0 is behind none
abbrev pub rank_behind : ℕ → Option ℕ
rank_behind zero = None
rank_behind (suc j) = Some j

---- All copies of a procedure, in the order of its blocks

abbrev pub cell_copies : List Cell → List place.Copy
cell_copies [] = []
cell_copies (cell ∷ cells) = cell.copies ++ cell_copies cells

abbrev pub block_copies : List Block → List place.Copy
block_copies [] = []
block_copies (bl ∷ bls) = cell_copies bl.body ++ (bl.copies ++ block_copies bls)

abbrev pub all_copies : List place.Copy → List Block → List place.Copy
all_copies first blocks = first ++ block_copies blocks

---- The room of a spot

abbrev pub slot_room : ℕ → Room
slot_room j = if is_near j then Near else Far

-- of a home by its rank, behind so many slots for arguments and the link
abbrev pub home_room : ℕ → Option ℕ → Room
home_room outs None = Nowhere
home_room outs (Some j) = slot_room (outs + suc j)

abbrev pub room_of : List ℕ → ℕ → lir.Spot → Room
room_of homes outs (reg r) = if nat_lt r 16 then Register else Nowhere
room_of homes outs (home v) = home_room outs (rank_in homes v)
room_of homes outs (out s) = if nat_lt s outs then slot_room s else Nowhere
room_of homes outs target = Register
room_of homes outs saved = Register

-- how many words reach a slot's room
abbrev pub words_to : Room → ℕ
words_to Near = 1
words_to Far = 2
words_to _ = 0

-- a word between registers, and else as many as reach the slots
abbrev pub width_between : Room → Room → ℕ
width_between Nowhere _ = 0
width_between to Nowhere = 0
width_between Register Register = 1
width_between to from = words_to to + words_to from

abbrev pub widths_of_copies : List ℕ → ℕ → List place.Copy → ℕ
widths_of_copies homes outs [] = 0
widths_of_copies homes outs (m ∷ ms) = width_between (room_of homes outs m.to) (room_of homes outs m.from) + widths_of_copies homes outs ms
