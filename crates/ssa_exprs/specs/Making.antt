-- What code that is made is, by the definitions of lowering.
use Rattle.std.specs.Prelude.{◌≡◌, ℕ, zero, suc, ◌+◌, ◌≤◌, nat_le, List, [], ◌∷◌, ◌++◌, map, Option, Some, None, if◌then◌else◌}
use Rattle.block_runs.specs.declared.end.End.{End}
use Rattle.block_runs.specs.declared.end.End.TheVariants.{Jump, Branch, Nonzero, Return, Trap}
use Rattle.size_limits.specs.Limits.{most_blocks}
use Rattle.ssa_lowered.specs.Pieces.{Cursor, Made, Low, Appends, Closes, numbers}
use Rattle.ssa_lowered.specs.Pieces.{Piece as Placed}
use Rattle.ssa_lowered.specs.Control.{Test}
use Rattle.ssa_lowered.specs.Limits.{passed, too_many}
use Rattle.ssa_exprs.specs.declared.making.Piece.{Piece}
use Rattle.ssa_exprs.specs.declared.making.Piece.TheVariants.{Adds, Ends}
use Rattle.ssa_exprs.specs.declared.making.Bound.{Bound}
use Rattle.ssa_exprs.specs.declared.making.Undo.{Undo}

-- the value of each variable, and what the variables that were assigned had before
pub record Known : Type 0 where
  pub env : List ℕ
  pub log : List Undo

-- the code made so far; the open block, how often it runs, how many values there are, what is known of the variables; how many labels are given
-- out, and the blocks of those that have one; the limit that is passed: then no more code is made
pub record View : Type 0 where
  pub made : List Piece
  pub block : ℕ
  pub freq : ℕ
  pub values : ℕ
  pub known : Known
  pub labels : ℕ
  pub bounds : List Bound
  pub over : Option ℕ

-- a piece without its place
abbrev pub bare : Placed → Piece
bare (Appends b i op) = Adds op
bare (Closes b i end s) = Ends end s.params s.freq s.enter

abbrev pub all_bare : List Placed → List Piece
all_bare ps = map bare ps

-- with blocks in the place of labels
abbrev pub resolve_end : (ℕ → ℕ) → End → End
resolve_end place (Jump to args) = Jump (place to) args
resolve_end place (Branch k a b yes_to no_to) = Branch k a b (place yes_to) (place no_to)
resolve_end place (Nonzero a yes_to no_to) = Nonzero a (place yes_to) (place no_to)
resolve_end place (Return a) = Return a
resolve_end place (Trap kind) = Trap kind

abbrev pub resolve : (ℕ → ℕ) → Piece → Piece
resolve place (Adds op) = Adds op
resolve place (Ends end params freq enter) = Ends (resolve_end place end) params freq enter

abbrev pub resolved : (ℕ → ℕ) → List Piece → List Piece
resolved place ps = map (resolve place) ps

-- labels have these blocks
abbrev pub Fits : (ℕ → ℕ) → List Bound → Type 0
Fits place [] = Unit {0}
Fits place (x ∷ xs) = (place x.label ≡ x.block) × Fits place xs

-- whether a number is another, and whether a label was given out, as numbers
abbrev pub same : ℕ → ℕ → ℕ
same zero zero = 1
same zero (suc t) = 0
same (suc u) zero = 0
same (suc u) (suc t) = same u t

abbrev pub given : ℕ → ℕ → ℕ
given zero t = 0
given (suc n) zero = 1
given (suc n) (suc t) = given n t

-- how often a label has got a block
abbrev pub times : List Bound → ℕ → ℕ
times [] t = 0
times (x ∷ xs) t = same x.label t + times xs t

-- the limit that is passed first
abbrev pub later : Option ℕ → Option ℕ → Option ℕ
later None b = b
later (Some a) b = Some a

-- where lowering stands
abbrev pub cursor_at : View → ℕ → List ℕ → Cursor
cursor_at v op seen = record { block = v.block; op = op; freq = v.freq; values = v.values; env = v.known.env; seen = seen }

-- from one moment to a later one, where labels have these blocks, that was made, and gave this result
pub record Came {A : Type 0} (v w : View) (place : ℕ → ℕ) (k : Made A) (r : A) : Type 0 where
  pub adds : resolved place w.made ≡ resolved place v.made ++ all_bare k.pieces
  pub after : k.after ≡ cursor_at w k.after.op k.after.seen
  pub result : k.result ≡ r

-- a part that depends on the blocks of labels was lowered: no limit is passed and it was made, or the first limit that it passes is known
pub record Follows {A : Type 0} (v w : View) (m : (ℕ → ℕ) → Low A) (r : (ℕ → ℕ) → A) : Type 0 where
  pub fits : (place : ℕ → ℕ) → Fits place w.bounds → Fits place v.bounds
  pub limit : (place : ℕ → ℕ) → Fits place w.bounds → (op : ℕ) (seen : List ℕ) → w.over ≡ later v.over (passed (m place (cursor_at v op seen)).pieces)
  pub by : w.over ≡ None → (place : ℕ → ℕ) → Fits place w.bounds → (op : ℕ) (seen : List ℕ) → Came v w place (m place (cursor_at v op seen)) (r place)

-- a label that gets a block in between was given out in between
pub record Once (v w : View) : Type 0 where
  pub by : (t : ℕ) → times w.bounds t + given v.labels t ≤ times v.bounds t + given w.labels t

-- a part of an expression was lowered, and gave this result
pub record Gives {A : Type 0} (v w : View) (m : Low A) (r : A) : Type 0 where
  pub follows : Follows v w (λ _. m) (λ _. r)
  pub once : Once v w
  pub freq : w.freq ≡ v.freq
  pub known : w.known ≡ v.known

-- a label is given out, and it gets the open block
abbrev pub asked : View → View
asked v = record v { labels = suc v.labels }

abbrev pub bound : View → ℕ → View
bound v t = record v { bounds = v.bounds ++ record { label = t; block = v.block } ∷ [] }

-- the limit that is passed where a block ends, and the next one begins with these parameters
abbrev pub begins : ℕ → List ℕ → Option ℕ
begins b params = if nat_le most_blocks (suc b) then Some 51 else if too_many params then Some 50 else None

abbrev pub begun : View → ℕ → Option ℕ
begun v count = later v.over (begins v.block (numbers v.values count))

-- one thing where no limit is passed, else another
abbrev pub within : {A : Type 0} → Option ℕ → A → A → A
within None a b = a
within (Some n) a b = b

-- the open block ends, and the next begins, with so many values as parameters
abbrev pub closed : View → End → ℕ → ℕ → Option ℕ → View
closed v end count freq enter = record v {
  made = within (begun v count) (v.made ++ Ends end (numbers v.values count) freq enter ∷ []) v.made;
  block = within (begun v count) (suc v.block) v.block;
  freq = freq;
  values = within (begun v count) (v.values + count) v.values;
  over = begun v count;
}

-- the code of a condition, once it has its targets
abbrev pub as_part : Test → (yes_to no_to freq : ℕ) → Low (Unit {0})
as_part t yes_to no_to freq c =
    let k = t c in
    record { pieces = k.pieces yes_to no_to freq; result = tt; after = record k.after { freq = freq } }

-- which limit the code of a condition passes doesn't depend on where it leads to
pub record Blind (t : Test) : Type 0 where
  pub by : (c : Cursor) (a b q d e s : ℕ) → passed ((t c).pieces a b q) ≡ passed ((t c).pieces d e s)

-- a condition was lowered: it leads to two labels, and the block behind it runs so often
pub record Tests (v w : View) (t : Test) (yes_to no_to next : ℕ) : Type 0 where
  pub follows : Follows v w (λ place. as_part t (place yes_to) (place no_to) next) (λ _. tt)
  pub once : Once v w
  pub blind : Blind t
  pub same : w.over ≡ None → (place : ℕ → ℕ) → Fits place w.bounds → (op : ℕ) (seen : List ℕ) → (t (cursor_at v op seen)).after.freq ≡ v.freq
  pub freq : w.freq ≡ next
  pub known : w.known ≡ v.known

-- words were made, and added to those that there were
abbrev pub Passed : View → View → Low (List ℕ) → List ℕ → List ℕ → Type 0
Passed v w m old new = (words : List ℕ) × (new ≡ old ++ words) × Gives v w m words
