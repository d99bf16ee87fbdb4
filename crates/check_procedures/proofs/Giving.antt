-- What parts of the judgement give, with what they are.
use Rattle.std.proofs.Common.{◌≡◌, Result, Ok, Err, refl, subst}
use Rattle.ob_judge.specs.Judged.{Judged, Keeps, Breaks, ◌>>=◌, ◌>>◌}
use Rattle.judged_well.specs.Gives.{Gives}
use Rattle.judged_well.proofs.Judging.{keeps, breaks}
use Rattle.check_types.specs.steps.Answers.{Answers, Refuses}
use Rattle.check_types.specs.declared.steps.fault.CheckFault.{CheckFault}
use Rattle.check_types.specs.declared.steps.fault.CheckFault.TheVariants.{Fault, Memory}

-- a law of all that is given
pub by_law : {A : Type 0} {P : A → Type 0} (m : Judged A) → ((a : A) → m ≡ Keeps a → P a) → Gives P m
by_law {P = P} (Keeps a) f = keeps P a (f a refl)
by_law {P = P} (Breaks n at) f = breaks P n at

-- a part was answered, and then what follows it
pub then_so : {A A' B B' : Type 0} {R : B → A → Type 0} {S : B' → A' → Type 0} {r : Result B' CheckFault} {b : B} (m : Judged A) (f : A → Judged A')
    → Answers R m (Ok b) → ((a : A) → m ≡ Keeps a → R b a → Answers S (f a) r) → Answers S (m >>= f) r
then_so (Keeps a) f h k = k a refl h.by
then_so (Breaks n at) f h k = absurd h.by

-- what holds of what was given
pub given_so : {A : Type 0} {P : A → Type 0} {m : Judged A} (a : A) → m ≡ Keeps a → Gives P m → P a
given_so {P = P} a e g = (subst (Gives P) e g).holds

-- a rule was broken, or there was no memory
pub rule_stops : {A B : Type 0} {R : Unit {0} → Unit {0} → Type 0} {S : B → A → Type 0} {e : CheckFault} (m : Judged (Unit {0})) (n : Judged A) → Answers R m (Err e) → Answers S (m >> n) (Err e)
rule_stops {e = e} m n h = record { by = on m n e h.by }
  where
    memory : {A : Type 0} (n : Judged A) → Refuses n Memory
    memory (Keeps a) = tt
    memory (Breaks k at) = tt

    on : {A : Type 0} (m : Judged (Unit {0})) (n : Judged A) (e : CheckFault) → Refuses m e → Refuses (m >> n) e
    on (Keeps a) n (Fault k at) h = absurd h
    on (Breaks rule place) n (Fault k at) h = h
    on (Keeps a) n Memory h = memory n
    on (Breaks rule place) n Memory h = tt
