-- Parts of statements with blocks, while what is behind them is still to be made.
use Rattle.std.specs.Prelude.{◌≡◌, ℕ, ◌+◌, ◌<◌, List, ◌∷◌, length, slice_index, Option}
use Rattle.ssa_lowered.specs.Control.{Test, choose, Round, behind}
use Rattle.ssa_lowered.specs.Pieces.{Mask}
use Rattle.ssa_lowered.specs.Statements.{Deed}
use Rattle.ssa_exprs.specs.Changes.{Undoes, chosen}
use Rattle.ssa_exprs.specs.Making.{View}
use Rattle.ssa_statements.specs.declared.control.Frame.{Frame}
use Rattle.ssa_statements.specs.Cases.{Leaves, Parts}
use Rattle.ssa_statements.specs.Meeting.{Finishes}
use Rattle.ssa_statements.specs.Steps.{Steps, Rounds}

-- a condition and what is done where it holds; once the other part and the join are made, the choice is
pub record Opens (v w : View) (f : Frame) (t : Test) (body : Deed) : Type 0 where
  pub by : (mask : Mask) (other : Deed) (x z : View) → f.vars.items ≡ chosen mask 0 v.known.env → Steps w x other → Finishes f x z → Steps v z (choose mask t body other)
  pub known : w.known ≡ v.known

-- a guard of a loop with what is done where it holds; once the guards behind it are made, so is the loop from here on
pub record Turns (v w : View) (header : ℕ) (xs : List ℕ) (next : ℕ) (r : Round) : Type 0 where
  pub by : (mask : Mask) (outside : ℕ) (rs : List Round) (z : View) → xs ≡ chosen mask 0 v.known.env → next ≡ behind rs v.freq outside → Rounds w z mask header outside rs → Rounds v z mask header outside (r ∷ rs)
  pub known : w.known ≡ v.known
  pub freq : w.freq ≡ next

-- parts of a CASE, whose labels stand in a list from one place on; once the join is made, these parts are
pub record Takes (v w : View) (f : Frame) (leave last : Option (List ℕ)) (labels : List ℕ) (i : ℕ) (bodies : List Deed) : Type 0 where
  pub by : (start z : View) (mask : Mask) (first : ℕ) → f.vars.items ≡ chosen mask 0 start.known.env → f.moment ≡ length start.known.log → f.freq ≡ start.freq
      → ((j : ℕ) → j < length bodies → slice_index labels (i + j) ≡ first + j) → Undoes start.known v.known → Leaves f w z last → Parts start v z mask leave f.out first bodies
