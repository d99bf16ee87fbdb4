-- Code in the making: pieces that carry their place, one after the other.
use Rattle.std.specs.Prelude.{ℕ, zero, suc, List, [], ◌∷◌, ◌++◌, Bool, cond, Option, Some, None, slice_get, slice_set}
use Rattle.block_runs.specs.declared.code.Code.{Code}
use Rattle.block_runs.specs.declared.code.Code.TheVariants.{Const}
use Rattle.ssa_core.specs.declared.procedure.Op.{Op}
use Rattle.block_runs.specs.declared.end.End.{End}
use Rattle.ssa_core.specs.declared.procedure.Block.{Block}

-- where lowering stands: the open block, its operations so far, how often it runs, how many values are made, the value of each variable, and the
-- values made on every way to here
pub record Cursor : Type 0 where
  pub block : ℕ
  pub op : ℕ
  pub freq : ℕ
  pub values : ℕ
  pub env : List ℕ
  pub seen : List ℕ

-- how a block begins: its parameters, how often it runs, the block that enters it where it is a loop's header, and the values made on every way to
-- it, without its parameters
pub record Start : Type 0 where
  pub params : List ℕ
  pub freq : ℕ
  pub enter : Option ℕ
  pub seen : List ℕ

-- an operation, or the end of the open block and the start of the next
pub data Piece : Type 0 where
  Appends : (block op : ℕ) → Op → Piece
  Closes : (block op : ℕ) → End → Start → Piece

-- what a construct becomes: its pieces, what it gives to those after it, and where lowering stands behind it
pub record Made (A : Type 0) : Type 0 where
  pub pieces : List Piece
  pub result : A
  pub after : Cursor

abbrev pub Low : Type 0 → Type 0
Low A = Cursor → Made A

abbrev pub give : {A : Type 0} → A → Low A
give a c = record { pieces = []; result = a; after = c }

-- one construct, and then another
infixl 10 ◌>>=◌
abbrev pub ◌>>=◌ : {A B : Type 0} → Low A → (A → Low B) → Low B
(m >>= f) c =
    let a = m c in
    let b = f a.result a.after in
    record { pieces = a.pieces ++ b.pieces; result = b.result; after = b.after }

-- nothing
abbrev pub skip : Low (Unit {0})
skip = give tt

-- an operation that makes a value
abbrev pub emits : Code → List ℕ → Low ℕ
emits code uses c = record {
  pieces = Appends c.block c.op (record { code = code; uses = uses; def = Some c.values }) ∷ [];
  result = c.values;
  after = record c { op = suc c.op; values = suc c.values; seen = c.values ∷ c.seen };
}

-- one that makes none
abbrev pub does : Code → List ℕ → Low (Unit {0})
does code uses c = record {
  pieces = Appends c.block c.op (record { code = code; uses = uses; def = None }) ∷ [];
  result = tt;
  after = record c { op = suc c.op };
}

-- a register variable's value; 0 where there is no such variable
abbrev pub fetched : Option ℕ → Low ℕ
fetched (Some v) = give v
fetched None = emits (Const 0) []

abbrev pub variable : ℕ → Low ℕ
variable x c = fetched (slice_get c.env x) c

-- it gets a value
abbrev pub becomes : ℕ → ℕ → Low (Unit {0})
becomes x v c = record { pieces = []; result = tt; after = record c { env = slice_set c.env x v } }

-- so many numbers from i on
abbrev pub numbers : ℕ → ℕ → List ℕ
numbers i zero = []
numbers i (suc n) = i ∷ numbers (suc i) n

-- the open block ends
abbrev pub close : Cursor → End → Start → Piece
close c end start = Closes c.block c.op end start

-- the block behind it, where all else is as before
abbrev pub fresh : Cursor → Cursor
fresh c = record c { block = suc c.block; op = 0 }

-- a block without parameters
abbrev pub plain : ℕ → List ℕ → Start
plain freq seen = record { params = []; freq = freq; enter = None; seen = seen }

-- some of the variables
abbrev pub Mask : Type 0
Mask = ℕ → Bool

abbrev pub rest : Mask → Mask
rest mask x = mask (suc x)

-- a join's parameters: the variables of the mask, numbered from v in order of declaration
abbrev pub params : Mask → ℕ → List ℕ → List ℕ
params mask v [] = []
params mask v (u ∷ env) = cond (mask 0) (v ∷ params (rest mask) (suc v) env) (params (rest mask) v env)

-- the value of each variable behind them
abbrev pub merged : Mask → ℕ → List ℕ → List ℕ
merged mask v [] = []
merged mask v (u ∷ env) = cond (mask 0) (v ∷ merged (rest mask) (suc v) env) (u ∷ merged (rest mask) v env)

-- how many values are made then
abbrev pub beyond : Mask → ℕ → List ℕ → ℕ
beyond mask v [] = v
beyond mask v (u ∷ env) = cond (mask 0) (beyond (rest mask) (suc v) env) (beyond (rest mask) v env)

-- the values of these variables, for a jump
abbrev pub picked : Mask → List ℕ → List ℕ
picked mask [] = []
picked mask (u ∷ env) = cond (mask 0) (u ∷ picked (rest mask) env) (picked (rest mask) env)

-- behind the open block, one with parameters for the variables in a mask; all else is as at another place
abbrev pub join : Mask → Cursor → Cursor → ℕ → Cursor
join mask c from freq = record { block = suc c.block; op = 0; freq = freq; values = beyond mask c.values from.env; env = merged mask c.values from.env; seen = params mask c.values from.env ++ from.seen }

-- how it begins
abbrev pub join_start : Mask → Cursor → Cursor → ℕ → Option ℕ → Start
join_start mask c from freq enter = record { params = params mask c.values from.env; freq = freq; enter = enter; seen = from.seen }

-- the blocks that the pieces make behind these operations of an open block; the last gets the end that is given
abbrev pub blocks_of : Start → List Op → End → List Piece → List Block
blocks_of s ops last [] = record { params = s.params; ops = ops; end = last; freq = s.freq; enter = s.enter } ∷ []
blocks_of s ops last (Appends _ _ op ∷ more) = blocks_of s (ops ++ op ∷ []) last more
blocks_of s ops last (Closes _ _ end next ∷ more) = record { params = s.params; ops = ops; end = end; freq = s.freq; enter = s.enter } ∷ blocks_of next [] last more
