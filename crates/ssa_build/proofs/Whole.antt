-- A procedure that was lowered is the one that is defined.
use Rattle.std.proofs.Common.{◌≡◌, ℕ, min, List, [], ◌∷◌, ◌++◌, replicate, Option, None, refl, sym, ap, ◌∙◌, subst, arith}
use Rattle.block_runs.specs.declared.end.End.{End}
use Rattle.block_runs.specs.declared.end.End.TheVariants.{Return}
use Rattle.ssa_core.specs.declared.procedure.Op.{Op}
use Rattle.ssa_lowered.specs.Limits.{passed}
use Rattle.ssa_lowered.specs.Lowered.{entry, at_entry}
use Rattle.ssa_lowered.specs.Pieces.{Low, Made, Start, Appends, Closes, numbers, blocks_of}
use Rattle.ssa_lowered.specs.Pieces.{Piece as PlacedPiece}
use Rattle.ssa_exprs.specs.Making.{View, Fits, Came, all_bare, given}
use Rattle.ssa_build.specs.Blocks.{blocks_by, place_by, blocks_in}
use Rattle.ssa_build.specs.Makes.{Makes}
use Rattle.ssa_build.proofs.Placed.{bounds_fit, length_places}

pub blocks_same : (s : Start) (ops : List Op) (last : End) (ps : List PlacedPiece) → blocks_by (record { params = s.params; freq = s.freq; enter = s.enter }) ops last (all_bare ps) ≡ blocks_of s ops last ps
blocks_same s ops last [] = refl
blocks_same s ops last (Appends b i op ∷ more) = blocks_same s (ops ++ op ∷ []) last more
blocks_same s ops last (Closes b i end next ∷ more) = ap (λ bs. record { params = s.params; ops = ops; end = end; freq = s.freq; enter = s.enter } ∷ bs) (blocks_same next [] last more)

-- before anything is made
abbrev pub started : ℕ → View
started words = record { made = []; block = 0; freq = 1048576; values = min words 4; known = record { env = []; log = [] }; labels = 0; bounds = []; over = None }

module _ {A : Type 0} (words : ℕ) (v w : View) (m : Low A) (r : A) (is : v ≡ started words) (makes : Makes v w m r) where
  from_start : Makes (started words) w m r
  from_start = subst (λ z. Makes z w m r) is makes

  fits : Fits (place_by w) w.bounds
  fits =
      bounds_fit w.bounds (replicate w.labels 0) (λ t.
      let a = from_start.once.by t in
      let e = ap (λ n. given n t) (length_places w.labels) in
      omega (arith, a, e))

  abbrev seen : List ℕ
  seen = numbers 0 (min words 4)

  -- the limit that is passed
  pub limit_is : w.over ≡ passed (m (at_entry words)).pieces
  limit_is = from_start.follows.limit (place_by w) fits 0 seen

  module _ (within : w.over ≡ None) where
    came : Came (started words) w (place_by w) (m (at_entry words)) r
    came = from_start.follows.by within (place_by w) fits 0 seen

    pub values_are : w.values ≡ (m (at_entry words)).after.values
    values_are = sym (ap (λ (k : Rattle.ssa_lowered.specs.Pieces.Cursor). k.values) came.after)

    pub result_is : r ≡ (m (at_entry words)).result
    result_is = sym came.result

    pub blocks_are : (answer : Option ℕ) → blocks_in w words answer ≡ blocks_of (entry words) [] (Return answer) (m (at_entry words)).pieces
    blocks_are answer =
        ap (blocks_by (record { params = numbers 0 (min words 4); freq = 1048576; enter = None }) [] (Return answer)) came.adds
        ∙ blocks_same (entry words) [] (Return answer) (m (at_entry words)).pieces
