-- Two judgements that are alike, and what holds of what they give.
use Rattle.std.proofs.Common.{◌≡◌, ℕ, Bool, true, false, Option, Some, None, refl, ap, subst, sym}
use Rattle.ob_judge.specs.Judged.{Judged, Keeps, Breaks, ◌>>=◌, ◌>>◌, rule, some}
use Rattle.judged_well.specs.Gives.{Gives}
use Rattle.judged_well.proofs.Judging.{keeps, breaks, anything}

pub record Alike {A : Type 0} (P : A → Type 0) (m n : Judged A) : Type 0 where
  pub same : n ≡ m
  pub gives : Gives P m

pub alone : {A : Type 0} {P : A → Type 0} {m : Judged A} → Gives P m → Alike P m m
alone g = record { same = refl; gives = g }

pub alike_keeps : {A : Type 0} (P : A → Type 0) (a : A) → P a → Alike P (Keeps a) (Keeps a)
alike_keeps P a h = alone (keeps P a h)

pub alike_breaks : {A : Type 0} (P : A → Type 0) (number at : ℕ) → Alike P (Breaks number at) (Breaks number at)
alike_breaks P number at = alone (breaks P number at)

-- nothing is claimed of what it gives
pub whatever : {A : Type 0} (m : Judged A) → Alike (λ a. Unit {0}) m m
whatever m = alone (anything m)

pub behind : {A B : Type 0} {P : A → Type 0} {Q : B → Type 0} {m n : Judged A} {f g : A → Judged B} → Alike P m n → ((a : A) → P a → Alike Q (f a) (g a)) → Alike Q (m >>= f) (n >>= g)
behind {A = A} {P = P} {Q = Q} {m = m} {n = n} {f = f} {g = g} h next = subst (λ z. Alike Q (m >>= f) (z >>= g)) (sym h.same) (by m h.gives)
  where
    by : (z : Judged A) → Gives P z → Alike Q (z >>= f) (z >>= g)
    by (Keeps a) k = next a k.holds
    by (Breaks number at) k = alike_breaks Q number at

pub behind_rule : {B : Type 0} {Q : B → Type 0} {m n : Judged B} (number at : ℕ) (b d : Bool) → d ≡ b → (b ≡ true → Alike Q m n) → Alike Q (rule number at b >> m) (rule number at d >> n)
behind_rule {Q = Q} {m = m} {n = n} number at b d same next = subst (λ z. Alike Q (rule number at b >> m) (rule number at z >> n)) (sym same) (by b next)
  where
    by : (z : Bool) → (z ≡ true → Alike Q m n) → Alike Q (rule number at z >> m) (rule number at z >> n)
    by true k = k refl
    by false k = alike_breaks Q number at

pub behind_some : {A B : Type 0} {Q : B → Type 0} {f g : A → Judged B} (number at : ℕ) (o u : Option A) → u ≡ o → ((a : A) → o ≡ Some a → Alike Q (f a) (g a)) → Alike Q (some number at o >>= f) (some number at u >>= g)
behind_some {A = A} {Q = Q} {f = f} {g = g} number at o u same next = subst (λ z. Alike Q (some number at o >>= f) (some number at z >>= g)) (sym same) (by o next)
  where
    by : (z : Option A) → ((a : A) → z ≡ Some a → Alike Q (f a) (g a)) → Alike Q (some number at z >>= f) (some number at z >>= g)
    by (Some a) k = k a refl
    by None k = alike_breaks Q number at

pub behind_unit : {B : Type 0} {Q : B → Type 0} {m n : Judged B} (d : Judged (Unit {0})) → Alike Q m n → Alike Q (d >> m) (d >> n)
behind_unit (Keeps a) h = h
behind_unit {Q = Q} (Breaks number at) h = alike_breaks Q number at

-- ---- judgements that give what differs by a change

pub record Moved {A : Type 0} (change : A → A) (P : A → Type 0) (m n : Judged A) : Type 0 where
  pub same : n ≡ (m >>= λ a. Keeps (change a))
  pub gives : Gives P m

pub moved_keeps : {A : Type 0} (change : A → A) (P : A → Type 0) (a b : A) → b ≡ change a → P a → Moved change P (Keeps a) (Keeps b)
moved_keeps change P a b is h = record { same = ap Keeps is; gives = keeps P a h }

pub moved_behind : {A B : Type 0} {P : A → Type 0} {change : B → B} {Q : B → Type 0} {m n : Judged A} {f g : A → Judged B} → Alike P m n → ((a : A) → P a → Moved change Q (f a) (g a)) → Moved change Q (m >>= f) (n >>= g)
moved_behind {A = A} {P = P} {change = change} {Q = Q} {m = m} {n = n} {f = f} {g = g} h next = subst (λ z. Moved change Q (m >>= f) (z >>= g)) (sym h.same) (by m h.gives)
  where
    by : (z : Judged A) → Gives P z → Moved change Q (z >>= f) (z >>= g)
    by (Keeps a) k = next a k.holds
    by (Breaks number at) k = record { same = refl; gives = breaks Q number at }

pub behind_moved : {A B : Type 0} {P : A → Type 0} {change : A → A} {Q : B → Type 0} {m n : Judged A} {f : A → Judged B} (g : A → Judged B) → Moved change P m n → ((a : A) → P a → Alike Q (f a) (g (change a))) → Alike Q (m >>= f) (n >>= g)
behind_moved {A = A} {P = P} {change = change} {Q = Q} {m = m} {f = f} g h next = subst (λ z. Alike Q (m >>= f) (z >>= g)) (sym h.same) (by m h.gives)
  where
    by : (z : Judged A) → Gives P z → Alike Q (z >>= f) ((z >>= λ a. Keeps (change a)) >>= g)
    by (Keeps a) k = next a k.holds
    by (Breaks number at) k = alike_breaks Q number at
