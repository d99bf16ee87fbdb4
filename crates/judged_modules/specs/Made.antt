-- Procedures that are complete and well-formed.
use Rattle.std.specs.Prelude.{◌≡◌, ◌≤◌, ℕ, List, [], ◌∷◌, true, Some, slice_get}
use Rattle.ob_judge.specs.Image.{Formal, Procedure}
use Rattle.ob_judge.specs.Parameters.{mode_of}
use Rattle.ob_judge.specs.Texts.{texts_of}
use Rattle.ob_judge.specs.Making.{Making}
use Rattle.judged_well.specs.Typing.{outline, fine_all}
use Rattle.judged_well.specs.Standing.{is_formal, is_result, good}
use Rattle.judged_well.specs.Answers.{answer_suits}
use Rattle.judged_modules.specs.Final.{Final, setting_in}
use Rattle.judged_modules.specs.Agrees.{is_made}

-- a parameter of a type that parameters may have, handed over as its type is
abbrev pub IsParameter : Final → Formal → Type 0
IsParameter w x = (x.mode ≡ mode_of x.variable x.shape) × (is_formal x.shape ≡ true) × (good (setting_in w 0) x.shape ≡ true)

abbrev pub AreParameters : Final → List Formal → Type 0
AreParameters w [] = Unit {0}
AreParameters w (x ∷ xs) = IsParameter w x × AreParameters w xs

pub record IsWell (w : Final) (f : ℕ) (q : Procedure) : Type 0 where
  pub made : is_made q ≡ true
  pub body : fine_all (setting_in w f) (outline (setting_in w f)) q.body ≡ true
  pub answer : answer_suits (setting_in w f) q.result q.answer ≡ true
  pub texts : q.texts ≡ texts_of q.body q.answer
  pub formals : AreParameters w q.formals
  pub result : (is_result q.result ≡ true) × (good (setting_in w 0) q.result ≡ true)

-- all procedures from this number on are
pub record AllMade (w : Final) (from : ℕ) (s : Making) : Type 0 where
  pub each : (f : ℕ) (q : Procedure) → from ≤ f → slice_get s.procedures f ≡ Some q → IsWell w f q
