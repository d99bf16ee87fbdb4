-- Joins of choices in each other, one more and one less.
use Rattle.std.proofs.Common.{◌≡◌, List, [], ◌∷◌, ◌++◌, length, arith, refl, sym, subst}
use Rattle.ssa_exprs.specs.Making.{View}
use Rattle.ssa_statements.specs.Meeting.{Finishes, FinishesAll}
use Rattle.ssa_statements.specs.declared.control.Frame.{Frame}

pub none_left : (fs : List Frame) → length fs ≡ 0 → fs ≡ []
none_left [] e = refl
none_left (f ∷ fs) e = absurd (omega (arith, e))

pub finishes_push : (fs : List Frame) (f : Frame) (e m z : View) → Finishes f e m → FinishesAll fs m z → FinishesAll (fs ++ f ∷ []) e z
finishes_push [] f e m z x y = (e, refl, subst (λ k. Finishes f e k) (sym y) x)
finishes_push (g ∷ fs) f e m z x y = (y.0, finishes_push fs f e m y.0 x y.1, y.2)

-- the last one is made first
pub record Split (fs : List Frame) (f : Frame) (e z : View) : Type 0 where
  pub middle : View
  pub first : Finishes f e middle
  pub others : FinishesAll fs middle z

pub finishes_split : (fs : List Frame) (f : Frame) (e z : View) → FinishesAll (fs ++ f ∷ []) e z → Split fs f e z
finishes_split [] f e z x = record { middle = z; first = subst (λ k. Finishes f k z) x.1 x.2; others = refl }
finishes_split (g ∷ fs) f e z x = let s = finishes_split fs f e x.0 x.1 in record { middle = s.middle; first = s.first; others = (x.0, s.others, x.2) }
