-- What a judgement that keeps its rules gives.
use Rattle.std.proofs.Common.{◌≡◌, ℕ, Bool, true, false, Option, Some, None, refl}
use Rattle.ob_judge.specs.Judged.{Judged, Keeps, Breaks, ◌>>=◌, ◌>>◌, rule, some}
use Rattle.judged_well.specs.Gives.{Gives}

pub keeps : {A : Type 0} (P : A → Type 0) (a : A) → P a → Gives P (Keeps a)
keeps P a h = record { holds = h }

pub breaks : {A : Type 0} (P : A → Type 0) (number at : ℕ) → Gives P (Breaks number at)
breaks P number at = record { holds = tt }

pub and_then : {A B : Type 0} {P : A → Type 0} {Q : B → Type 0} {m : Judged A} {f : A → Judged B} → Gives P m → ((a : A) → P a → Gives Q (f a)) → Gives Q (m >>= f)
and_then {Q = Q} {m = Keeps a} g next = next a g.holds
and_then {Q = Q} {m = Breaks number at} g next = breaks Q number at

pub by_rule : {B : Type 0} {Q : B → Type 0} {m : Judged B} (number at : ℕ) (b : Bool) → (b ≡ true → Gives Q m) → Gives Q (rule number at b >> m)
by_rule number at true next = next refl
by_rule {Q = Q} number at false next = breaks Q number at

pub by_some : {A B : Type 0} {Q : B → Type 0} {f : A → Judged B} (number at : ℕ) (o : Option A) → ((a : A) → o ≡ Some a → Gives Q (f a)) → Gives Q (some number at o >>= f)
by_some number at (Some a) next = next a refl
by_some {Q = Q} number at None next = breaks Q number at

pub weaken : {A : Type 0} {P Q : A → Type 0} {m : Judged A} → Gives P m → ((a : A) → P a → Q a) → Gives Q m
weaken {Q = Q} {m = Keeps a} g f = keeps Q a (f a g.holds)
weaken {Q = Q} {m = Breaks number at} g f = breaks Q number at

pub at_last : {A : Type 0} {Q : A → Type 0} (number at : ℕ) (o : Option A) → ((a : A) → o ≡ Some a → Q a) → Gives Q (some number at o)
at_last {Q = Q} number at (Some a) next = keeps Q a (next a refl)
at_last {Q = Q} number at None next = breaks Q number at

-- nothing is claimed of what it gives
pub anything : {A : Type 0} (m : Judged A) → Gives (λ a. Unit {0}) m
anything (Keeps a) = keeps (λ a. Unit {0}) a tt
anything (Breaks number at) = breaks (λ a. Unit {0}) number at

pub by_unit : {B : Type 0} {Q : B → Type 0} {n : Judged B} (m : Judged (Unit {0})) → Gives Q n → Gives Q (m >> n)
by_unit (Keeps a) g = g
by_unit {Q = Q} (Breaks number at) g = breaks Q number at

pub gives_both : {A : Type 0} {P Q : A → Type 0} {m : Judged A} → Gives P m → Gives Q m → Gives (λ a. P a × Q a) m
gives_both {P = P} {Q = Q} {m = Keeps a} g h = keeps (λ a. P a × Q a) a (g.holds, h.holds)
gives_both {P = P} {Q = Q} {m = Breaks number at} g h = breaks (λ a. P a × Q a) number at

-- with what was given
pub and_then_as : {A B : Type 0} {P : A → Type 0} {Q : B → Type 0} {m : Judged A} {f : A → Judged B} → Gives P m → ((a : A) → m ≡ Keeps a → P a → Gives Q (f a)) → Gives Q (m >>= f)
and_then_as {Q = Q} {m = Keeps a} g next = next a refl g.holds
and_then_as {Q = Q} {m = Breaks number at} g next = breaks Q number at
