-- CASE: its tests one after the other, and its parts.
use Rattle.std.specs.Prelude.{◌≡◌, ℕ, suc, ◌+◌, ◌≤◌, ◌<◌, List, [], ◌∷◌, ◌++◌, length, slice_index, Option, Some, None}
use Rattle.block_runs.specs.declared.end.End.{End}
use Rattle.block_runs.specs.declared.end.End.TheVariants.{Jump, Trap}
use Rattle.ssa_lowered.specs.Pieces.{Cursor, Low, Mask, numbers, picked}
use Rattle.ssa_lowered.specs.Statements.{Deed}
use Rattle.ssa_lowered.specs.Control.{Rung, ladder, limbs, half, case}
use Rattle.ssa_lowered.specs.Limits.{passed}
use Rattle.ssa_exprs.specs.Changes.{Undoes, rewound, chosen, joined}
use Rattle.ssa_exprs.specs.Making.{View, Fits, Follows, Once, all_bare, resolved, times, same, given, later, cursor_at, bound, closed}
use Rattle.ssa_statements.specs.declared.cases.Opened.{Opened}
use Rattle.ssa_statements.specs.declared.control.Frame.{Frame}
use Rattle.ssa_statements.specs.Steps.{Steps}

-- the code of tests, once the parts have blocks
abbrev pub as_ladder : List Rung → (last : ℕ) → (ℕ → ℕ) → Low (Unit {0})
as_ladder rungs last to c = let k = ladder last rungs c in record { pieces = k.pieces to; result = tt; after = k.after }

-- the tests of a CASE were lowered, whose parts have these labels; the block behind them runs so often
pub record Climbs (v w : View) (last : ℕ) (labels : ℕ → ℕ) (rungs : List Rung) : Type 0 where
  pub follows : Follows v w (λ place. as_ladder rungs last (λ i. place (labels i))) (λ _. tt)
  pub once : Once v w
  pub blind : (c : Cursor) (a b : ℕ → ℕ) → passed ((ladder last rungs c).pieces a) ≡ passed ((ladder last rungs c).pieces b)
  pub freq : w.freq ≡ last
  pub known : w.known ≡ v.known

-- the tests of a CASE of so many parts were lowered, whose join has these variables as parameters
pub record OpensCase (v w : View) (o : Opened) (xs : List ℕ) (n : ℕ) (rungs : List Rung) : Type 0 where
  pub climbs : Climbs (record v { labels = suc (v.labels + n) }) w (half v.freq) (λ i. slice_index o.starts.items i) rungs
  pub starts : o.starts.items ≡ numbers v.labels n
  pub out : o.frame.out ≡ v.labels + n
  pub vars : o.frame.vars.items ≡ xs
  pub moment : o.frame.moment ≡ length v.known.log
  pub freq : o.frame.freq ≡ v.freq

-- the tests that are left: none, or these
abbrev pub Climbing : (v w : View) (last : ℕ) → (ℕ → ℕ) → List Rung → Type 0
Climbing v w last labels [] = w ≡ v
Climbing v w last labels (r ∷ rs) = Climbs v w last labels (r ∷ rs)

-- how often the block behind a test runs: another test's, or the one without a match
abbrev pub above : List Rung → (inside last : ℕ) → ℕ
above [] inside last = last
above (r ∷ rs) inside last = inside

-- how the block before a part ends: without a match by the trap of CASE, or it jumps to the join
abbrev pub ends : Option (List ℕ) → ℕ → End
ends None to = Trap 6
ends (Some args) to = Jump to args

-- the block before a part ends, and the part begins with the variables as they were at the start
abbrev pub entered : (start v : View) → Option (List ℕ) → (to : ℕ) → View
entered start v leave to = let u = closed v (ends leave to) 0 (half start.freq) None in record u { known = rewound u.known (length start.known.log) }

-- the block behind the last part ends, and the join begins
abbrev pub left_all : (start v : View) → Mask → Option (List ℕ) → (to : ℕ) → View
left_all start v mask leave to = bound (joined (record v { known = rewound v.known (length start.known.log) }) (ends leave to) (chosen mask 0 start.known.env) start.freq None) to

-- the parts of a CASE, whose labels are given out one after the other from one on, and what they leave to
pub record Parts (start v w : View) (mask : Mask) (leave : Option (List ℕ)) (to first : ℕ) (bodies : List Deed) : Type 0 where
  pub fits : (place : ℕ → ℕ) → Fits place w.bounds → Fits place v.bounds
  pub joins : (place : ℕ → ℕ) → Fits place w.bounds → place to ≡ w.block
  pub limit : (place : ℕ → ℕ) → Fits place w.bounds → (op : ℕ) (seen : List ℕ) (s : Cursor) → s.freq ≡ start.freq → s.env ≡ start.known.env
      → (by : Option (List ℕ)) (out : ℕ) → w.over ≡ later v.over (passed ((limbs mask s bodies (cursor_at v op seen) (ends by)).pieces out))
  pub adds : w.over ≡ None → (place : ℕ → ℕ) → Fits place w.bounds → (op : ℕ) (seen : List ℕ) (s : Cursor) → s.freq ≡ start.freq → s.env ≡ start.known.env
      → resolved place w.made ≡ resolved place v.made ++ all_bare ((limbs mask s bodies (cursor_at v op seen) (ends leave)).pieces w.block)
  pub after : w.over ≡ None → (place : ℕ → ℕ) → Fits place w.bounds → (op : ℕ) (seen : List ℕ) (s : Cursor) → s.freq ≡ start.freq → s.env ≡ start.known.env
      → (limbs mask s bodies (cursor_at v op seen) (ends leave)).after ≡ cursor_at w 0 (limbs mask s bodies (cursor_at v op seen) (ends leave)).after.seen
  pub starts : w.over ≡ None → (place : ℕ → ℕ) → Fits place w.bounds → (op : ℕ) (seen : List ℕ) (s : Cursor) → s.freq ≡ start.freq → s.env ≡ start.known.env
      → (i : ℕ) → i < length bodies → (limbs mask s bodies (cursor_at v op seen) (ends leave)).starts i ≡ place (first + i)
  pub once : (t : ℕ) → times w.bounds t + (given v.labels t + given first t) ≤ times v.bounds t + (given w.labels t + (given (first + length bodies) t + same to t))
  pub undoes : Undoes start.known w.known

-- tests that lead to one of so many parts
abbrev pub AllBelow : ℕ → List Rung → Type 0
AllBelow n [] = Unit {0}
AllBelow n (r ∷ rs) = (r.part < n) × AllBelow n rs

-- a choice whose parts are being made: a part begins, and the join of all of them does
abbrev pub Enters : Frame → (v w : View) → Option (List ℕ) → (label : ℕ) → Type 0
Enters f v w leave label = w ≡ bound (record (closed v (ends leave f.out) 0 (half f.freq) None) { known = rewound v.known f.moment }) label

abbrev pub Leaves : Frame → (v w : View) → Option (List ℕ) → Type 0
Leaves f v w leave = w ≡ bound (joined (record v { known = rewound v.known f.moment }) (ends leave f.out) f.vars.items f.freq None) f.out

abbrev pub MakesCase : (v u w : View) → Mask → List Rung → List Deed → (unmatched : ℕ → List ℕ → End) → (leave by : Option (List ℕ)) → Type 0
MakesCase v u w mask rungs bodies unmatched leave by =
    Climbs (record v { labels = suc (v.labels + length bodies) }) u (half v.freq) (λ i. v.labels + i) rungs
    → Parts v u w mask leave (v.labels + length bodies) v.labels bodies
    → AllBelow (length bodies) rungs
    → (λ out. unmatched out (picked mask v.known.env)) ≡ ends by
    → (u.over ≡ None → leave ≡ by)
    → Steps v w (case mask rungs bodies unmatched)
