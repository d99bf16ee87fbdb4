-- A walk over a list whose items are judged one after another, and what judging parts one after another comes to.
use Rattle.std.proofs.Common.{◌≡◌, ℕ, ◌+◌, ◌<◌, ◌≤◌, List, [], ◌∷◌, length, drop, get_or, Bool, true, false, nat_eq, Option, Some, None, Result, Ok, Err, refl, sym, ap, ◌∙◌, subst}
use Rattle.std.specs.Prelude.{is_some, not}
use Rattle.std.proofs.lemmas.Bool.{eqb-true}
use Rattle.std.proofs.lemmas.List.{drop_more, drop_all, nil_from_length}
use Rattle.ob_judge.specs.Judged.{Judged, Keeps, Breaks, ◌>>=◌}
use Rattle.check_types.specs.steps.Answers.{Answers}
use Rattle.check_types.specs.declared.steps.fault.CheckFault.{CheckFault}
use Rattle.check_types.specs.declared.steps.fault.CheckFault.TheVariants.{Fault}
use Rattle.check_types.proofs.steps.Answering.{stop, as_judged}

pub with_nothing_behind : {A : Type 0} (m : Judged A) → (m >>= λ a. Keeps a) ≡ m
with_nothing_behind (Keeps a) = refl
with_nothing_behind (Breaks n at) = refl

-- a list of no items
pub nil_of : {X : Type 0} (xs : List X) (b : Bool) → b ≡ nat_eq (length xs) 0 → b ≡ true → xs ≡ []
nil_of xs b e t = nil_from_length xs (eqb-true (length xs) 0 (sym e ∙ t))

-- nothing there
pub none_of : {X : Type 0} (o : Option X) (b : Bool) → is_some o ≡ not b → b ≡ true → o ≡ None
none_of None b e t = refl
none_of (Some x) b e t = let f : true ≡ false = e ∙ ap not t in cc

-- what an answer comes to
settled : {A B : Type 0} {S : B → A → Type 0} {b : B} (m : Judged A) → Answers S m (Ok b) → (a : A) × (m ≡ Keeps a) × S b a
settled (Keeps a) h = (a, refl, h.by)
settled (Breaks n at) h = absurd h.by

-- what is judged from an item of a list on, with what stands for the items before, is what the whole comes to
pub record Walking {A B X R : Type 0} (S : B → A → Type 0) (each : A → List X → Judged R) (whole : Judged R) (b : B) (rest : List X) : Type 0 where
  pub so_far : A
  pub stands : S b so_far
  pub same : whole ≡ each so_far rest

module _ {A B X R : Type 0} (S : B → A → Type 0) (each : A → List X → Judged R) where
  pub walk_begins : (a : A) (b : B) (xs : List X) → S b a → Walking S each (each a xs) b xs
  walk_begins a b xs h = record { so_far = a; stands = h; same = refl }

  -- the whole is answered as its rest is
  pub walk_ends : {C : Type 0} {T : C → R → Type 0} {whole : Judged R} {b : B} {r : Result C CheckFault} (xs : List X) (i : ℕ) → length xs ≤ i → Walking S each whole b (drop i xs) →
      ((a : A) → S b a → Answers T (each a []) r) → Answers T whole r
  walk_ends xs i le j h = as_judged (j.same ∙ ap (each j.so_far) (drop_all i xs le)) (h j.so_far j.stands)

module _ {A B X R : Type 0} {S : B → A → Type 0} (each : A → List X → Judged R) (item : A → X → Judged A)
    (law : (a : A) (x : X) (xs : List X) → each a (x ∷ xs) ≡ (item a x >>= λ z. each z xs))
    (xs : List X) (i : ℕ) (d : X) where
  unrolled : {whole : Judged R} {b : B} → i < length xs → (j : Walking S each whole b (drop i xs)) → whole ≡ (item j.so_far (get_or xs i d) >>= λ z. each z (drop (i + 1) xs))
  unrolled lt j = j.same ∙ ap (each j.so_far) (drop_more xs i d lt) ∙ law j.so_far (get_or xs i d) (drop (i + 1) xs)

  pub walk_on : {whole : Judged R} {b b' : B} → i < length xs → Walking S each whole b (drop i xs) →
      ((a : A) → S b a → Answers S (item a (get_or xs i d)) (Ok b')) → Walking S each whole b' (drop (i + 1) xs)
  walk_on lt j h =
      let s = settled (item j.so_far (get_or xs i d)) (h j.so_far j.stands) in
      record { so_far = s.0; stands = s.2; same = unrolled lt j ∙ ap (λ m. m >>= λ z. each z (drop (i + 1) xs)) s.1 }

  pub walk_stops : {C : Type 0} {T : C → R → Type 0} {whole : Judged R} {b : B} {e : CheckFault} → i < length xs → Walking S each whole b (drop i xs) →
      ((a : A) → S b a → Answers S (item a (get_or xs i d)) (Err e)) → Answers T whole (Err e)
  walk_stops lt j h = as_judged (unrolled lt j) (stop (item j.so_far (get_or xs i d)) (λ z. each z (drop (i + 1) xs)) (h j.so_far j.stands))

-- a rule is broken, and the fault says so
pub breaks_so : {A B : Type 0} {S : B → A → Type 0} {e : CheckFault} (number at : ℕ) → e ≡ Fault number at → Answers S (Breaks number at) (Err e)
breaks_so {S} number at h = subst (λ (z : CheckFault). Answers S (Breaks number at) (Err z)) (sym h) (record { by = (refl, refl) })
