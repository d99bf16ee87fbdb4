-- Pieces that stand in the procedures that run, and the weights of their places.
use Rattle.std.proofs.Common.{◌≡◌, ℕ, suc, ◌+◌, List, [], ◌∷◌, ◌++◌, arith}
use Rattle.std.specs.Prelude.{drop}
use Rattle.block_runs.specs.Blocks.{Operation, Procedure, block_of, procedure_of}
use Rattle.block_runs.specs.States.{Point, In, At, CopyAtHead, CopyAtCell, CopyAtTail, ZeroAtHead, ZeroAtCell, CompareAtHead, CompareAtCell}
use Rattle.ssa_core.specs.Procedures.{operation_of}
use Rattle.ssa_lowered.specs.Pieces.{Piece, Appends, Closes}

-- a piece stands at its place in procedure q
abbrev pub Stands : List Procedure → ℕ → Piece → Type 0
Stands ps q (Appends b i op) = (rest : List Operation) × (drop i (block_of (procedure_of ps q) b).ops ≡ operation_of op ∷ rest)
Stands ps q (Closes b i end start) = (drop i (block_of (procedure_of ps q) b).ops ≡ []) × ((block_of (procedure_of ps q) b).end ≡ end) × ((block_of (procedure_of ps q) (suc b)).params ≡ start.params)

abbrev pub Standing : List Procedure → ℕ → List Piece → Type 0
Standing ps q [] = Unit {0}
Standing ps q (p ∷ pieces) = Stands ps q p × Standing ps q pieces

pub stand_first : (ps : List Procedure) (q : ℕ) (a b : List Piece) → Standing ps q (a ++ b) → Standing ps q a
stand_first ps q [] b h = tt
stand_first ps q (p ∷ a) b h = (h.0, stand_first ps q a b h.1)

pub stand_rest : (ps : List Procedure) (q : ℕ) (a b : List Piece) → Standing ps q (a ++ b) → Standing ps q b
stand_rest ps q [] b h = h
stand_rest ps q (p ∷ a) b h = stand_rest ps q a b h.1

-- the weights of the places of pieces, added up
abbrev pub bulk : ℕ → List Piece → (Point → ℕ) → ℕ
bulk q [] h = 0
bulk q (Appends b i op ∷ pieces) h = h (In q b i) + bulk q pieces h
bulk q (Closes b i end start ∷ pieces) h = h (In q b i) + bulk q pieces h

pub bulk_append : (q : ℕ) (a b : List Piece) (h : Point → ℕ) → bulk q (a ++ b) h ≡ bulk q a h + bulk q b h
bulk_append q [] b h = omega arith
bulk_append q (Appends block i op ∷ a) b h = let e = bulk_append q a b h in omega (arith, e)
bulk_append q (Closes block i end start ∷ a) b h = let e = bulk_append q a b h in omega (arith, e)

-- the routines' points, which all procedures share
abbrev pub shared : (Point → ℕ) → ℕ
shared h = h (At CopyAtHead) + (h (At CopyAtCell) + (h (At CopyAtTail) + (h (At ZeroAtHead) + (h (At ZeroAtCell) + (h (At CompareAtHead) + h (At CompareAtCell))))))
