-- Arguments that standard procedures refuse, and those that they take.
use Rattle.std.proofs.Common.{◌≡◌, ℕ, true, false, Result, Err, refl, sym, ap, subst}
use Rattle.ob_judge.specs.Judged.{Judged, Keeps, Breaks, ◌>>=◌, ◌>>◌, rule}
use Rattle.ob_judge.specs.Shapes.{is_number}
use Rattle.ob_judge.specs.Image as I
use Rattle.ob_judge.specs.Scopes.{World}
use Rattle.ob_judge.specs.Operands.{checked}
use Rattle.ob_judge.specs.Calls.{Given, number}
use Rattle.check_types.specs.steps.Answers.{Answers}
use Rattle.check_types.specs.declared.steps.fault.CheckFault.{CheckFault}
use Rattle.check_types.specs.declared.steps.fault.CheckFault.TheVariants.{Fault}
use Rattle.check_types.proofs.steps.Answering.{as_judged}
use Rattle.check_selectors.proofs.standard.Kept.{number_is}

pub breaks : {A B : Type 0} {S : B → A → Type 0} {e : CheckFault} (broken at : ℕ) → e ≡ Fault broken at → Answers S (Breaks broken at) (Err e)
breaks {S} broken at h = subst (λ (z : CheckFault). Answers S (Breaks broken at) (Err z)) (sym h) (record { by = (refl, refl) })

pub number_refused : {A B : Type 0} {S : B → A → Type 0} {e : CheckFault} (w : World) (x : Given) (f : I.Checked → Judged A) → e ≡ Fault 31 x.at → is_number x.operand.shape ≡ false → Answers S (number x >>= f) (Err e)
number_refused w x f h k = as_judged (ap (λ b. (rule 31 x.at b >> Keeps (checked x.operand)) >>= f) k) (breaks 31 x.at h)

pub number_kept : {A B : Type 0} {S : B → A → Type 0} {r : Result B CheckFault} (w : World) (x : Given) (f : I.Checked → Judged A) → is_number x.operand.shape ≡ true → Answers S (f (checked x.operand)) r → Answers S (number x >>= f) r
number_kept w x f h k = as_judged (ap (λ m. m >>= f) (number_is w x h)) k
