-- Jumps to joins and to the headers of loops, as the code makes them.
use Rattle.std.specs.Prelude.{◌≡◌, ℕ, ℤ, pos, int_lt, if◌then◌else◌, List, [], ◌∷◌, Some, None}
use Rattle.ob_types.specs.declared.program.Program.{Program}
use Rattle.block_runs.specs.declared.end.End.TheVariants.{Jump}
use Rattle.ssa_lowered.specs.Pieces.{give}
use Rattle.ssa_lowered.specs.Control.{Test, fork_branch, often}
use Rattle.ssa_lowered.specs.Lowered.{Here}
use Rattle.ssa_lowered.specs.Statements.{Deed, assign}
use Rattle.ssa_lowered.specs.Values.{home_of, load, binary, const}
use Rattle.wrapping_numbers.specs.Numbers.{unsigned}
use Rattle.ob_types.specs.declared.tree.Binary.TheVariants.{Add}
use Rattle.ob_types.specs.declared.tree.Designator.{Designator}
use Rattle.ssa_exprs.specs.Changes.{rewound, values_of, joined}
use Rattle.ssa_exprs.specs.Making.{View, asked, bound, closed}
use Rattle.ssa_exprs.specs.Tables.{small_in, named_in}
use Rattle.ssa_statements.specs.declared.control.Frame.{Frame}

-- FOR: the relation of the variable to the limit where the body is done, by the step's sign
abbrev pub limit_condition : ℤ → ℕ
limit_condition step = if int_lt (pos 0) step then 13 else 10

-- whether the variable has passed the limit, and its step
abbrev pub reached_in : Program → Here → Designator → ℕ → ℤ → Test
reached_in p here d last step = fork_branch (limit_condition step) (load (home_of (named_in p here d) (small_in p d))) (give last)

abbrev pub advance_in : Program → Here → Designator → ℤ → Deed
advance_in p here d step = assign (home_of (named_in p here d) (small_in p d)) (binary Add (load (home_of (named_in p here d) (small_in p d))) (const (unsigned step)))

-- the open block ends with a jump that gives the values of variables
pub record Jumps (v w : View) (out : ℕ) (xs : List ℕ) (freq : ℕ) : Type 0 where
  pub args : List ℕ
  pub picked : v.over ≡ None → args ≡ values_of v.known.env xs
  pub is : w ≡ closed v (Jump out args) 0 freq None

-- it jumps to a join, which begins behind it with the variables as they were at a moment, but for those that the join's parameters are
pub record Meets (v w : View) (out : ℕ) (xs : List ℕ) (moment freq : ℕ) : Type 0 where
  pub args : List ℕ
  pub picked : v.over ≡ None → args ≡ values_of v.known.env xs
  pub is : w ≡ bound (joined (record v { known = rewound v.known moment }) (Jump out args) xs freq None) out

-- it jumps to a loop's header, which begins behind it
pub record Heads (v w : View) (head : ℕ) (xs : List ℕ) : Type 0 where
  pub args : List ℕ
  pub label : head ≡ v.labels
  pub picked : v.over ≡ None → args ≡ values_of v.known.env xs
  pub is : w ≡ bound (joined (asked v) (Jump head args) xs (often v.freq) (Some v.block)) head

-- a choice whose join is still to be made
abbrev pub Finishes : Frame → View → View → Type 0
Finishes f v w = Meets v w f.out f.vars.items f.moment f.freq

-- choices in each other, the outermost first: the joins of all
abbrev pub FinishesAll : List Frame → View → View → Type 0
FinishesAll [] v w = w ≡ v
FinishesAll (f ∷ fs) v w = (m : View) × FinishesAll fs v m × Finishes f m w
