-- What the answer of a function that judges says.
use Rattle.std.specs.Prelude.{◌≡◌, Result, Ok, Err}
use Rattle.ob_judge.specs.Judged.{Judged, Keeps, Breaks}
use Rattle.check_types.specs.declared.steps.fault.CheckFault.{CheckFault}
use Rattle.check_types.specs.declared.steps.fault.CheckFault.TheVariants.{Fault, Memory}

-- the fault is the judgement's; want of memory alone is free
abbrev pub Refuses : {A : Type 0} → Judged A → CheckFault → Type 0
Refuses (Keeps a) (Fault number at) = ⊥
Refuses (Breaks rule place) (Fault number at) = (number ≡ rule) × (at ≡ place)
Refuses m Memory = Unit {0}

-- the judgement comes to something that this value stands for
abbrev pub Gives : {A B : Type 0} → (B → A → Type 0) → Judged A → B → Type 0
Gives R (Keeps a) b = R b a
Gives R (Breaks rule place) b = ⊥

abbrev pub Answer : {A B : Type 0} → (B → A → Type 0) → Judged A → Result B CheckFault → Type 0
Answer R m (Ok b) = Gives R m b
Answer R m (Err e) = Refuses m e

-- the answer is the judgement's: what it comes to, or the rule that is broken first and its place; or no memory
pub record Answers {A B : Type 0} (R : B → A → Type 0) (m : Judged A) (r : Result B CheckFault) : Type 0 where
  pub by : Answer R m r
