-- All points of a program, and how many steps of the layer below each takes at least.
use Rattle.std.specs.Prelude.{◌≡◌, ◌≢◌, ℕ, suc, ◌<◌, ◌^◌, List, [], ◌∷◌, ◌++◌, drop, length, map}
use Rattle.run_laws.specs.Layers.{places_from, points_of_all}
use Rattle.block_runs.specs.declared.end.End.{End}
use Rattle.block_runs.specs.declared.end.End.TheVariants.{Jump, Branch, Nonzero, Return, Trap}
use Rattle.block_runs.specs.Blocks.{Operation, CodeBlock, Procedure, block_of, procedure_of, bodies}
use Rattle.block_runs.specs.States.{CopyAtHead, CopyAtCell, CopyAtTail, ZeroAtHead, ZeroAtCell, CompareAtHead, CompareAtCell, Point, Begin, Entry, In, At}

-- each operation of a block and its end
abbrev pub block_points : ℕ → ℕ → CodeBlock → List Point
block_points p b bl = map (In p b) (places_from 0 (suc (length bl.ops)))

abbrev pub procedure_points : ℕ → Procedure → List Point
procedure_points p pr = Entry p ∷ points_of_all (block_points p) 0 pr.blocks

abbrev pub routine_points : List Point
routine_points = At CopyAtHead ∷ At CopyAtCell ∷ At CopyAtTail ∷ At ZeroAtHead ∷ At ZeroAtCell ∷ At CompareAtHead ∷ At CompareAtCell ∷ []

-- each point of a program, once: the beginnings of the bodies and the end, the routines' parts, and the procedures' points
abbrev pub all_points : List Procedure → List Point
all_points ps = map Begin (places_from 0 (suc (length (bodies ps)))) ++ (routine_points ++ points_of_all procedure_points 0 ps)

-- a jump may have no word; every other end, and each operation, has one
abbrev pub end_least : End → ℕ
end_least (Jump to args) = 0
end_least (Branch cond a b one other) = 1
end_least (Nonzero a one other) = 1
end_least (Return a) = 1
end_least (Trap kind) = 1

abbrev pub rest_least : List Operation → End → ℕ
rest_least [] end = end_least end
rest_least (op ∷ ops) end = 1

abbrev pub least : List Procedure → Point → ℕ
least ps (Begin j) = 1
least ps (Entry p) = 1
least ps (In p b i) = let bl = block_of (procedure_of ps p) b in rest_least (drop i bl.ops) bl.end
least ps (At part) = 1

-- code addresses of n procedures: numbers of 64 bits, different, and none of them NIL
pub record AreCodePlaces (n : ℕ) (code : ℕ → ℕ) : Type 0 where
  pub few : (p : ℕ) → p < n → code p < 2 ^ 64
  pub nowhere : (p : ℕ) → p < n → code p ≢ 0
  pub apart : (p q : ℕ) → p < n → q < n → code p ≡ code q → p ≡ q
