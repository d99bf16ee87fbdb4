-- Answers put together from the answers of parts.
use Rattle.std.proofs.Common.{◌≡◌, ℕ, Result, Ok, Err, refl, sym, ap, subst}
use Rattle.std.specs.Prelude.{IfOk, IfErr}
use Rattle.ob_judge.specs.Judged.{Judged, Keeps, Breaks, ◌>>=◌}
use Rattle.ob_judge.specs.Making.{Making}
use Rattle.judged_well.specs.Gives.{Gives}
use Rattle.check_types.specs.steps.Answers.{Answers, Refuses}
use Rattle.check_types.specs.declared.steps.fault.CheckFault.{CheckFault}
use Rattle.check_types.specs.declared.steps.fault.CheckFault.TheVariants.{Fault, Memory}

-- an answer that says the value says what the judgement comes to
pub comes_to : {A : Type 0} {a : A} (m : Judged A) → Answers (λ (b c : A). b ≡ c) m (Ok a) → m ≡ Keeps a
comes_to (Keeps c) h = ap Keeps (sym h.by)
comes_to (Breaks n at) h = absurd h.by

pub kept_on : {A : Type 0} (m : Judged A) → m ≡ (m >>= λ a. Keeps a)
kept_on (Keeps a) = refl
kept_on (Breaks n at) = refl

-- a part was answered that leaves what this says, and then what follows it
pub goes_with : {A A' B B' : Type 0} {R : B → A → Type 0} {P : A → Type 0} {S : B' → A' → Type 0} {r : Result B' CheckFault} {b : B} (m : Judged A) (f : A → Judged A')
    → Answers R m (Ok b) → Gives P m → ((a : A) → R b a → P a → Answers S (f a) r) → Answers S (m >>= f) r
goes_with (Keeps a) f h g k = k a h.by g.holds
goes_with (Breaks n at) f h g k = absurd h.by

-- another relation, of what the part leaves
pub answers_as : {A B C : Type 0} {R : B → A → Type 0} {P : A → Type 0} {S : C → A → Type 0} {b : B} {c : C} (m : Judged A)
    → Answers R m (Ok b) → Gives P m → ((a : A) → R b a → P a → S c a) → Answers S m (Ok c)
answers_as (Keeps a) h g k = record { by = k a h.by g.holds }
answers_as (Breaks n at) h g k = absurd h.by

-- a fault where a rule is broken
pub breaks_so : {A B : Type 0} {S : B → A → Type 0} {e : CheckFault} (number at : ℕ) → e ≡ Fault number at → Answers S (Breaks number at) (Err e)
breaks_so {S} number at h = subst (λ (z : CheckFault). Answers S (Breaks number at) (Err z)) (sym h) (record { by = (refl, refl) })

pub then_then : {A B C : Type 0} (m : Judged A) (f : A → Judged B) (g : B → Judged C) → (m >>= λ a. f a >>= g) ≡ ((m >>= f) >>= g)
then_then (Keeps a) f g = refl
then_then (Breaks n at) f g = refl

-- a refusal, whatever the answer would say
pub refused : {A B D : Type 0} {R : B → A → Type 0} {S : D → A → Type 0} {e : CheckFault} {m : Judged A} → Answers R m (Err e) → Answers S m (Err e)
refused h = record { by = h.by }

memory_refuses : {A : Type 0} (m : Judged A) → Refuses m Memory
memory_refuses (Keeps a) = tt
memory_refuses (Breaks n at) = tt

-- want of memory answers all
pub no_memory : {A B : Type 0} {S : B → A → Type 0} {e : CheckFault} (m : Judged A) → e ≡ Memory → Answers S m (Err e)
no_memory {S} m h = subst (λ (z : CheckFault). Answers S m (Err z)) (sym h) (record { by = memory_refuses m })

-- a judgement in the scope as it is, and then what follows it
pub look_on : {A B C D : Type 0} {R : B → A → Type 0} {S : D → C → Type 0} {r : Result D CheckFault} {b : B} (j : Judged A) (s : Making) (f : A × Making → Judged C)
    → Answers R j (Ok b) → ((a : A) → R b a → Answers S (f (a, s)) r) → Answers S ((j >>= λ a. Keeps (a, s)) >>= f) r
look_on (Keeps a) s f h k = k a h.by
look_on (Breaks n at) s f h k = absurd h.by

pub refuses_look : {A C : Type 0} (j : Judged A) (s : Making) (f : A × Making → Judged C) (e : CheckFault) → Refuses j e → Refuses ((j >>= λ a. Keeps (a, s)) >>= f) e
refuses_look (Keeps a) s f (Fault n at) h = absurd h
refuses_look (Breaks rule place) s f (Fault n at) h = h
refuses_look (Keeps a) s f Memory h = memory_refuses (f (a, s))
refuses_look (Breaks rule place) s f Memory h = tt

pub look_stops : {A B C D : Type 0} {R : B → A → Type 0} {S : D → C → Type 0} {e : CheckFault} (j : Judged A) (s : Making) (f : A × Making → Judged C) → Answers R j (Err e) → Answers S ((j >>= λ a. Keeps (a, s)) >>= f) (Err e)
look_stops {e} j s f h = record { by = refuses_look j s f e h.by }

-- what was made where the judgement keeps its rules
pub formed_by : {A B : Type 0} {R : B → A → Type 0} (a : A) (result : Result B CheckFault) → IfOk result (λ b. R b a) → IfErr result (λ e. e ≡ Memory) → Answers R (Keeps a) result
formed_by a (Ok b) f h = record { by = f }
formed_by a (Err e) f h = no_memory (Keeps a) h
