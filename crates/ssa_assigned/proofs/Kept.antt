-- Variables in order, those of a mask.
use Rattle.std.proofs.Common.{◌≡◌, ℕ, zero, suc, ◌+◌, ◌<◌, ◌≤◌, ◌==◌, List, [], ◌∷◌, length, Bool, true, false, cond, ◌||◌, ◌&&◌, refl, sym, ap, ap₂, ◌∙◌, subst, arith}
use Rattle.std.specs.Prelude.{nat_lt, is_none, slice_index, slice_index_or}
use Rattle.std.specs.List.{filter, dedup, Contains}
use Rattle.std.specs.List.Sorted.{IsStrictlyIncreasing, IsPermutation}
use Rattle.std.proofs.lemmas.List.Sorted.{IsPermutation-sym, Contains-permutation}
use Rattle.std.proofs.lemmas.List.Kept.{Contains-dedup_nat, Contains-from_dedup}
use Rattle.std.proofs.lemmas.Bool.{eqb-true, eq-eqb}
use Rattle.std.proofs.lemmas.Bool.Decides.{nat_tests}
use Rattle.ssa_lowered.specs.Pieces.{Mask, rest}
use Rattle.ob_types.specs.declared.program.Program.{Program}
use Rattle.ssa_lowered.specs.Data.{Layout}
use Rattle.ssa_lowered.specs.Lowered.{Here, in_register}
use Rattle.ssa_lowered.specs.Variables.{Site, Register, Memory}
use Rattle.ssa_exprs.specs.Changes.{chosen}
use Rattle.ssa_exprs.specs.Tables.{site_by}
use Rattle.ssa_assigned.specs.Assigned.{has}

---- What a list has

has_at : (xs : List ℕ) (k x : ℕ) → k < length xs → slice_index_or xs k x ≡ x → has xs x ≡ true
has_at [] k x lt e = absurd (omega (arith, lt))
has_at (y ∷ ys) zero x lt e = ap (λ b. b || has ys x) (eq-eqb y x e)
has_at (y ∷ ys) (suc k) x lt e = by (y == x) (has_at ys k x (omega (arith, lt)) e)
  where
    by : (b : Bool) {c : Bool} → c ≡ true → (b || c) ≡ true
    by true h = refl
    by false h = h

pub has_of : (xs : List ℕ) (x : ℕ) → Contains xs x → has xs x ≡ true
has_of xs x c = has_at xs c.0 x c.1 c.2

of_has_by : (b : Bool) (y x : ℕ) (ys : List ℕ) → (y == x) ≡ b → (b || has ys x) ≡ true → (has ys x ≡ true → Contains ys x) → Contains (y ∷ ys) x
of_has_by true y x ys e g again = (0, omega arith, eqb-true y x e)
of_has_by false y x ys e g again = let c = again g in (suc c.0, (let lt = c.1 in omega (arith, lt)), c.2)

of_has : (xs : List ℕ) (x : ℕ) → has xs x ≡ true → Contains xs x
of_has [] x h = absurd (cc)
of_has (y ∷ ys) x h = of_has_by (y == x) y x ys refl h (of_has ys x)

same_truth : (a b : Bool) → (a ≡ true → b ≡ true) → (b ≡ true → a ≡ true) → a ≡ b
same_truth true b f g = sym (f refl)
same_truth false true f g = g refl
same_truth false false f g = refl

-- sorted, and without repetitions
pub has_sorted : (xs ys : List ℕ) (x : ℕ) → IsPermutation xs ys → has (dedup (λ a b. a == b) ys) x ≡ has xs x
has_sorted xs ys x same =
    same_truth _ _ (λ h. has_of xs x (Contains-permutation ys xs x (IsPermutation-sym xs ys same) (Contains-from_dedup (λ a b. a == b) ys x (of_has _ x h))))
    (λ h. has_of _ x (Contains-dedup_nat ys x (Contains-permutation xs ys x same (of_has xs x h))))

---- In order

-- each number is below the next, and the first isn't below one
abbrev Rising : ℕ → List ℕ → Type 0
Rising i [] = Unit {0}
Rising i (x ∷ xs) = (i ≤ x) × Rising (suc x) xs

rising : (i : ℕ) (xs : List ℕ) → IsStrictlyIncreasing xs → (0 < length xs → i ≤ slice_index xs 0) → Rising i xs
rising i [] s f = tt
rising i (x ∷ []) s f = (f (omega arith), tt)
rising i (x ∷ y ∷ xs) s f = (f (omega arith), rising (suc x) (y ∷ xs) (λ k lt. let e : suc k + 1 ≡ suc (k + 1) = omega arith in subst (λ n. slice_index (y ∷ xs) k < slice_index (x ∷ y ∷ xs) n) e (s (suc k) (omega (arith, lt)))) (λ lt. let h = s 0 (omega arith) in omega (arith, h)))

low : (i j : ℕ) (xs : List ℕ) → i ≤ j → Rising j xs → Rising i xs
low i j [] le r = tt
low i j (x ∷ xs) le r = ((let h = r.0 in omega (arith, le, h)), r.1)

not_below : (i x : ℕ) (xs : List ℕ) → Rising i xs → x < i → has xs x ≡ false
not_below i x [] r lt = refl
not_below i x (y ∷ ys) r lt =
    let le = r.0 in
    let other : (y == x) ≡ false = grind (arith, nat_tests, le, lt) in
    ap₂ (λ a b. a || b) other (not_below (suc y) x ys r.1 (omega (arith, le, lt)))

none_kept : (keep : ℕ → Bool) (i : ℕ) (xs : List ℕ) → Rising i xs → ((x : ℕ) → i ≤ x → keep x ≡ false) → filter keep xs ≡ []
none_kept keep i [] r f = refl
none_kept keep i (x ∷ xs) r f =
    ap (λ b. cond b (x ∷ filter keep xs) (filter keep xs)) (f x r.0)
    ∙ none_kept keep (suc x) xs r.1 (λ y le. f y (let h = r.0 in omega (arith, h, le)))

and_false : (a : Bool) → (a && false) ≡ false
and_false true = refl
and_false false = refl

and_true : (a : Bool) → (a && true) ≡ a
and_true true = refl
and_true false = refl

-- what is kept of numbers in order is what a mask chooses
abbrev Chosen : (keep reg : ℕ → Bool) → List ℕ → Type 0
Chosen keep reg env = (mask : Mask) (i : ℕ) (xs : List ℕ) → Rising i xs → ((j : ℕ) → mask j ≡ (reg (i + j) && has xs (i + j))) → ((x : ℕ) → i ≤ x → keep x ≡ (nat_lt x (i + length env) && reg x)) → filter keep xs ≡ chosen mask i env

module _ (keep reg : ℕ → Bool) (u : ℕ) (env : List ℕ) (again : Chosen keep reg env) (mask : Mask) (i : ℕ) (k : (x : ℕ) → i ≤ x → keep x ≡ (nat_lt x (i + suc (length env)) && reg x)) where
  here : i + 0 ≡ i
  here = omega arith

  behind : (j : ℕ) → i + suc j ≡ suc i + j
  behind j = omega arith

  kept_behind : (x : ℕ) → suc i ≤ x → keep x ≡ (nat_lt x (suc i + length env) && reg x)
  kept_behind x le = k x (omega (arith, le)) ∙ ap (λ n. nat_lt x n && reg x) (behind (length env))

  -- the first variable isn't among the numbers
  chosen_skip : (xs : List ℕ) → Rising (suc i) xs → ((j : ℕ) → mask j ≡ (reg (i + j) && has xs (i + j))) → filter keep xs ≡ chosen mask i (u ∷ env)
  chosen_skip xs r m =
      let none : mask 0 ≡ false = m 0 ∙ ap (λ n. reg n && has xs n) here ∙ ap (λ b. reg i && b) (not_below (suc i) i xs r (omega arith)) ∙ and_false (reg i) in
      again (rest mask) (suc i) xs r (λ j. m (suc j) ∙ ap (λ n. reg n && has xs n) (behind j)) kept_behind
      ∙ sym (ap (λ b. cond b (i ∷ chosen (rest mask) (suc i) env) (chosen (rest mask) (suc i) env)) none)

  -- it is the first of them
  chosen_first : (x : ℕ) (xs : List ℕ) → x ≡ i → Rising (suc x) xs → ((j : ℕ) → mask j ≡ (reg (i + j) && has (x ∷ xs) (i + j))) → filter keep (x ∷ xs) ≡ chosen mask i (u ∷ env)
  chosen_first x xs same r m =
      let first : mask 0 ≡ reg i = m 0 ∙ ap (λ n. reg n && has (x ∷ xs) n) here ∙ ap (λ b. reg i && (b || has xs i)) (eq-eqb x i same) ∙ and_true (reg i) in
      let inside : nat_lt i (i + suc (length env)) ≡ true = grind (arith, nat_tests) in
      let kept_here : keep x ≡ reg i = ap keep same ∙ k i (omega arith) ∙ ap (λ b. b && reg i) inside in
      let others : filter keep xs ≡ chosen (rest mask) (suc i) env =
      again (rest mask) (suc i) xs (subst (λ n. Rising (suc n) xs) same r)
      (λ j. m (suc j) ∙ ap (λ b. reg (i + suc j) && (b || has xs (i + suc j))) (let f : (x == (i + suc j)) ≡ false = grind (arith, nat_tests, same) in f) ∙ ap (λ n. reg n && has xs n) (behind j))
      kept_behind in
      ap₂ (λ b z. cond b (z ∷ filter keep xs) (filter keep xs)) kept_here same
      ∙ ap (λ l. cond (reg i) (i ∷ l) l) others
      ∙ sym (ap (λ b. cond b (i ∷ chosen (rest mask) (suc i) env) (chosen (rest mask) (suc i) env)) first)

  chosen_by : (b : Bool) (x : ℕ) (xs : List ℕ) → (x == i) ≡ b → Rising i (x ∷ xs) → ((j : ℕ) → mask j ≡ (reg (i + j) && has (x ∷ xs) (i + j))) → filter keep (x ∷ xs) ≡ chosen mask i (u ∷ env)
  chosen_by true x xs e r m = chosen_first x xs (eqb-true x i e) r.1 m
  chosen_by false x xs e r m =
      let le = r.0 in
      let other : suc i ≤ x = grind (arith, nat_tests, le, e) in
      chosen_skip (x ∷ xs) (other, r.1) m

chosen_at : (keep reg : ℕ → Bool) (env : List ℕ) → Chosen keep reg env
chosen_at keep reg [] mask i xs r m k = none_kept keep i xs r (λ x le. k x le ∙ ap (λ b. b && reg x) (let e : nat_lt x (i + 0) ≡ false = grind (arith, nat_tests, le) in e))
chosen_at keep reg (u ∷ env) mask i [] r m k = chosen_skip keep reg u env (chosen_at keep reg env) mask i k [] tt m
chosen_at keep reg (u ∷ env) mask i (x ∷ xs) r m k = chosen_by keep reg u env (chosen_at keep reg env) mask i k (x == i) x xs refl r m

pub chosen_is : (keep reg : ℕ → Bool) (mask : Mask) (env xs : List ℕ) → IsStrictlyIncreasing xs → ((j : ℕ) → mask j ≡ (reg j && has xs j)) → ((x : ℕ) → keep x ≡ (nat_lt x (length env) && reg x)) → filter keep xs ≡ chosen mask 0 env
chosen_is keep reg mask env xs s m k = chosen_at keep reg env mask 0 xs (rising 0 xs s (λ lt. omega arith)) (λ j. m j ∙ ap (λ n. reg n && has xs n) (omega arith)) (λ x le. k x ∙ ap (λ n. nat_lt x n && reg x) (omega arith))

pub in_register_is : (p : Program) (l : Layout) (here : Here) (bytes : ℕ) (site : Site) → is_none (site_by bytes site) ≡ in_register p l here site
in_register_is p l here bytes Register = refl
in_register_is p l here bytes (Memory n) = refl
