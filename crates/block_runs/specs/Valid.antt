-- When code in blocks is valid.
use Rattle.std.specs.Prelude.{◌≡◌, ℕ, zero, suc, ◌+◌, ◌<◌, ◌≤◌, length, min, List, [], ◌∷◌, ◌++◌, Bool, true, false, not, ◌&&◌, ◌==◌, nat_lt, nat_le, cond, is_some, slice_get, Option, Some, None}
use Rattle.std.specs.List.{list_all}
use Rattle.block_runs.specs.declared.code.Code.{Code}
use Rattle.block_runs.specs.declared.code.Code.TheVariants.{Const, Global, Local, Plus, Arg, Load, Store, LoadByte, StoreByte, Add, Sub, And, Or, Eor, Bic, Lsl, Asr, Ror, Mul, MulAdd, Neg, Not, Abs, Max0, Odd, Set, Flip, Bit, Span, Has, Div, Mod, Below, Fits, Byte, Elem, NotNil, True, IsPtr, IsTag, GuardPtr, GuardTag, New, Call, CallAt, Copy, Zero, Compare, Svc}
use Rattle.block_runs.specs.declared.code.Code.TheVariants.{Code as CodeOf}
use Rattle.block_runs.specs.declared.end.End.{End}
use Rattle.block_runs.specs.declared.end.End.TheVariants.{Jump, Branch, Nonzero, Return, Trap}
use Rattle.block_runs.specs.Blocks.{Operation, CodeBlock, block_at, end_uses, successors}
use Rattle.block_runs.specs.Live.{has, block_makes, Live}

---- Operations

-- so many values are read, and one is made, or none
abbrev pub makes : ℕ → ℕ → Bool → Bool
makes n uses def = uses == n && def

abbrev pub acts : ℕ → ℕ → Bool → Bool
acts n uses def = uses == n && not def

-- of services
abbrev pub serves : ℕ → ℕ → Bool → Bool
serves zero uses def = false
serves (suc zero) uses def = acts 1 uses def
serves (suc (suc zero)) uses def = acts 2 uses def
serves (suc (suc (suc zero))) uses def = acts 3 uses def
serves (suc (suc (suc (suc zero)))) uses def = makes 0 uses def
serves (suc (suc (suc (suc (suc n))))) uses def = false

-- numbers that fit two immediates of twelve bits
abbrev pub in_24_bits : ℕ → Bool
in_24_bits n = nat_lt n 16777216

-- an operation of a procedure with so many argument words, with the number of its uses, and whether it has a definition
abbrev pub fits : ℕ → Code → ℕ → Bool → Bool
fits args (Const n) u d = makes 0 u d
fits args (Global n) u d = in_24_bits n && makes 0 u d
fits args (Local n) u d = in_24_bits n && makes 0 u d
fits args (Plus n) u d = in_24_bits n && makes 1 u d
fits args (CodeOf p) u d = makes 0 u d
fits args (Arg i) u d = nat_le 4 i && (nat_lt i args && makes 0 u d)
fits args Load u d = makes 1 u d
fits args Store u d = acts 2 u d
fits args LoadByte u d = makes 1 u d
fits args StoreByte u d = acts 2 u d
fits args Add u d = makes 2 u d
fits args Sub u d = makes 2 u d
fits args And u d = makes 2 u d
fits args Or u d = makes 2 u d
fits args Eor u d = makes 2 u d
fits args Bic u d = makes 2 u d
fits args Lsl u d = makes 2 u d
fits args Asr u d = makes 2 u d
fits args Ror u d = makes 2 u d
fits args Mul u d = makes 2 u d
fits args MulAdd u d = makes 3 u d
fits args Neg u d = makes 1 u d
fits args Not u d = makes 1 u d
fits args Abs u d = makes 1 u d
fits args Max0 u d = makes 1 u d
fits args Odd u d = makes 1 u d
fits args (Set k) u d = nat_lt k 14 && makes 2 u d
fits args Flip u d = makes 1 u d
fits args Bit u d = makes 1 u d
fits args Span u d = makes 2 u d
fits args Has u d = makes 2 u d
fits args Div u d = makes 2 u d
fits args Mod u d = makes 2 u d
fits args Below u d = acts 2 u d
fits args Fits u d = acts 2 u d
fits args Byte u d = acts 1 u d
fits args Elem u d = acts 1 u d
fits args NotNil u d = acts 1 u d
fits args True u d = acts 1 u d
fits args (IsPtr j) u d = nat_lt j 16 && makes 2 u d
fits args (IsTag j) u d = nat_lt j 16 && makes 2 u d
fits args (GuardPtr j) u d = nat_lt j 16 && acts 2 u d
fits args (GuardTag j) u d = nat_lt j 16 && acts 2 u d
fits args New u d = makes 3 u d
fits args (Call p) u d = nat_le u 24
fits args CallAt u d = nat_le 1 u && nat_le u 25
fits args Copy u d = acts 3 u d
fits args Zero u d = acts 2 u d
fits args Compare u d = makes 4 u d
fits args (Svc n) u d = serves n u d

-- operations that leave nothing in registers: procedures, routines and services
abbrev pub is_call : Code → Bool
is_call (Call p) = true
is_call CallAt = true
is_call Copy = true
is_call Zero = true
is_call Compare = true
is_call (Svc n) = true
is_call _ = false

abbrev pub operation_fits : ℕ → Operation → Bool
operation_fits args op = fits args op.code (length op.uses) (is_some op.def)

---- Ends

-- a condition is one of the fourteen
abbrev pub condition_fits : End → Bool
condition_fits (Jump to args) = true
condition_fits (Branch k a b one other) = nat_lt k 14
condition_fits (Nonzero a one other) = true
condition_fits (Return a) = true
condition_fits (Trap kind) = true

abbrev pub params_of : List CodeBlock → ℕ → ℕ
params_of bls b = length (block_at bls b).params

-- a jump has an argument for each parameter, and the targets of a test have none
abbrev pub arguments_fit : List CodeBlock → End → Bool
arguments_fit bls (Jump to args) = length args == params_of bls to
arguments_fit bls (Branch k a b one other) = params_of bls one == 0 && params_of bls other == 0
arguments_fit bls (Nonzero a one other) = params_of bls one == 0 && params_of bls other == 0
arguments_fit bls (Return a) = true
arguments_fit bls (Trap kind) = true

---- Numbers

abbrev pub all_below : ℕ → List ℕ → Bool
all_below n xs = list_all (λ x. nat_lt x n) xs

-- what operations read
abbrev pub uses_of : List Operation → List ℕ
uses_of [] = []
uses_of (op ∷ ops) = op.uses ++ uses_of ops

abbrev pub block_reads : CodeBlock → List ℕ
block_reads bl = uses_of bl.ops ++ end_uses bl.end

-- all values that are made, block by block
abbrev pub made : List CodeBlock → List ℕ
made [] = []
made (bl ∷ bls) = block_makes bl ++ made bls

-- how often a number is in a list
abbrev pub times : List ℕ → ℕ → ℕ
times [] v = 0
times (x ∷ xs) v = cond (x == v) (suc (times xs v)) (times xs v)

-- how many blocks and operations there are together
abbrev pub size_of : List CodeBlock → ℕ
size_of [] = 0
size_of (bl ∷ bls) = suc (length bl.ops) + size_of bls

-- the number of a block that enters a loop is one of n blocks
abbrev pub enter_below : ℕ → Option ℕ → Bool
enter_below n None = true
enter_below n (Some b) = nat_lt b n

---- Valid code

-- no value is live into the first block, or into the block that makes it
pub record IsPlaced (bls : List CodeBlock) : Type 0 where
  pub first : (v : ℕ) → Live bls v 0 → ⊥
  pub own : (v b : ℕ) (bl : CodeBlock) → slice_get bls b ≡ Some bl → has (block_makes bl) v ≡ true → Live bls v b → ⊥

-- blocks of a procedure with so many argument words, over so many values; at most `most` blocks and operations together
pub record IsValidCode (most values args : ℕ) (bls : List CodeBlock) : Type 0 where
  pub few_args : args ≤ 24
  pub few : size_of bls ≤ most
  pub begins : 0 < length bls
  pub targets : list_all (λ bl. all_below (length bls) (successors bl.end)) bls ≡ true
  pub read_below : list_all (λ bl. all_below values (block_reads bl)) bls ≡ true
  pub made_below : all_below values (made bls) ≡ true
  pub made_once : (v : ℕ) → v < values → times (made bls) v ≡ 1
  pub operations : list_all (λ bl. list_all (operation_fits args) bl.ops) bls ≡ true
  pub conditions : list_all (λ bl. condition_fits bl.end) bls ≡ true
  pub arguments : list_all (λ bl. arguments_fit bls bl.end) bls ≡ true
  pub first_params : params_of bls 0 ≡ min 4 args
  pub placed : IsPlaced bls
