-- Answers put together from the answers of parts.
use Rattle.std.proofs.Common.{◌≡◌, ℕ, ◌+◌, ◌<◌, List, ◌∷◌, length, drop, get_or, Bool, true, false, Option, Some, None, Result, Ok, Err, refl, sym, ap, ◌∙◌, subst}
use Rattle.std.proofs.lemmas.List.{drop_more}
use Rattle.std.specs.Prelude.{IsErrAnd}
use Rattle.std.proofs.lemmas.Result.{err_from_is_err_and}
use Rattle.ob_judge.specs.Judged.{Judged, Keeps, Breaks, ◌>>=◌, ◌>>◌, rule, some}
use Rattle.check_types.specs.steps.Answers.{Answers, Refuses}
use Rattle.check_types.specs.declared.steps.fault.CheckFault.{CheckFault}
use Rattle.check_types.specs.declared.steps.fault.CheckFault.TheVariants.{Fault, Memory}

memory_refuses : {A : Type 0} (m : Judged A) → Refuses m Memory
memory_refuses (Keeps a) = tt
memory_refuses (Breaks n at) = tt

-- a part was answered, and then what follows it
pub goes_on : {A A' B B' : Type 0} {R : B → A → Type 0} {S : B' → A' → Type 0} {r : Result B' CheckFault} {b : B} (m : Judged A) (f : A → Judged A') →
    Answers R m (Ok b) → ((a : A) → R b a → Answers S (f a) r) → Answers S (m >>= f) r
goes_on (Keeps a) f h k = k a h.by
goes_on (Breaks n at) f h k = absurd h.by

refuses_on : {A A' : Type 0} (m : Judged A) (f : A → Judged A') (e : CheckFault) → Refuses m e → Refuses (m >>= f) e
refuses_on (Keeps a) f (Fault n at) h = absurd h
refuses_on (Breaks rule place) f (Fault n at) h = h
refuses_on (Keeps a) f Memory h = memory_refuses (f a)
refuses_on (Breaks rule place) f Memory h = tt

-- a part was refused
pub stop : {A A' B B' : Type 0} {R : B → A → Type 0} {S : B' → A' → Type 0} {e : CheckFault} (m : Judged A) (f : A → Judged A') →
    Answers R m (Err e) → Answers S (m >>= f) (Err e)
stop {e} m f h = record { by = refuses_on m f e h.by }

-- there is one
pub there : {A A' B : Type 0} {S : B → A' → Type 0} {r : Result B CheckFault} {o : Option A} {a : A} (number at : ℕ) (f : A → Judged A') →
    o ≡ Some a → Answers S (f a) r → Answers S (some number at o >>= f) r
there {S} {r} number at f e h = subst (λ o. Answers S (some number at o >>= f) r) (sym e) h

-- there is none
pub missing : {A A' B : Type 0} {S : B → A' → Type 0} {o : Option A} (number at : ℕ) (f : A → Judged A') →
    o ≡ None → Answers S (some number at o >>= f) (Err (Fault number at))
missing {S} number at f e = subst (λ o. Answers S (some number at o >>= f) (Err (Fault number at))) (sym e) (record { by = (refl, refl) })

-- a rule is kept
pub kept : {A B : Type 0} {S : B → A → Type 0} {r : Result B CheckFault} {b : Bool} (number at : ℕ) (m : Judged A) →
    b ≡ true → Answers S m r → Answers S (rule number at b >> m) r
kept {S} {r} number at m e h = subst (λ b. Answers S (rule number at b >> m) r) (sym e) h

-- a rule is broken
pub broken : {A B : Type 0} {S : B → A → Type 0} {b : Bool} (number at : ℕ) (m : Judged A) →
    b ≡ false → Answers S (rule number at b >> m) (Err (Fault number at))
broken {S} number at m e = subst (λ b. Answers S (rule number at b >> m) (Err (Fault number at))) (sym e) (record { by = (refl, refl) })

-- what the exit of a `?` answers
pub exit : {A B : Type 0} {S : B → A → Type 0} {m : Judged A} {e : CheckFault} (r : Result B CheckFault) → IsErrAnd r (λ x. x ≡ e) → Answers S m (Err e) → Answers S m r
exit {S} {m} {e} r h k =
    let x = err_from_is_err_and r h in
    subst (λ z. Answers S m z) (sym x.1) (subst (λ (z : CheckFault). Answers S m (Err z)) (sym x.2) k)

-- the same judgement, said otherwise
pub as_judged : {A B : Type 0} {S : B → A → Type 0} {r : Result B CheckFault} {m n : Judged A} → m ≡ n → Answers S n r → Answers S m r
as_judged {S} {r} e h = subst (λ k. Answers S k r) (sym e) h

-- what is judged from the i-th item of a list on, with what stands for the items before, is what the whole comes to
pub record Judging {A B X : Type 0} (S : B → A → Type 0) (each : A → List X → Judged A) (whole : Judged A) (b : B) (rest : List X) : Type 0 where
  pub so_far : A
  pub stands : S b so_far
  pub same : whole ≡ each so_far rest

settled : {A B : Type 0} {S : B → A → Type 0} {b : B} (m : Judged A) → Answers S m (Ok b) → (a : A) × (m ≡ Keeps a) × S b a
settled (Keeps a) h = (a, refl, h.by)
settled (Breaks n at) h = absurd h.by

-- a round of a loop over a list whose items are judged one after another
module _ {A B X : Type 0} {S : B → A → Type 0} (each : A → List X → Judged A) (item : A → X → Judged A)
    (law : (a : A) (x : X) (xs : List X) → each a (x ∷ xs) ≡ (item a x >>= λ z. each z xs))
    (xs : List X) (i : ℕ) (d : X) where
  unrolled : {whole : Judged A} {b : B} → i < length xs → (j : Judging S each whole b (drop i xs)) → whole ≡ (item j.so_far (get_or xs i d) >>= λ z. each z (drop (i + 1) xs))
  unrolled lt j = j.same ∙ ap (each j.so_far) (drop_more xs i d lt) ∙ law j.so_far (get_or xs i d) (drop (i + 1) xs)

  pub round_on : {whole : Judged A} {b b' : B} → i < length xs → Judging S each whole b (drop i xs) →
      ((a : A) → S b a → Answers S (item a (get_or xs i d)) (Ok b')) → Judging S each whole b' (drop (i + 1) xs)
  round_on lt j h =
      let s = settled (item j.so_far (get_or xs i d)) (h j.so_far j.stands) in
      record { so_far = s.0; stands = s.2; same = unrolled lt j ∙ ap (λ m. m >>= λ z. each z (drop (i + 1) xs)) s.1 }

  pub round_stops : {whole : Judged A} {b : B} {e : CheckFault} → i < length xs → Judging S each whole b (drop i xs) →
      ((a : A) → S b a → Answers S (item a (get_or xs i d)) (Err e)) → Answers S whole (Err e)
  round_stops lt j h = as_judged (unrolled lt j) (stop (item j.so_far (get_or xs i d)) (λ z. each z (drop (i + 1) xs)) (h j.so_far j.stands))
