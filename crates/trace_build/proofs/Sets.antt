-- Sets of nodes, and lists that are drawn from them.
use Rattle.std.proofs.Common.{◌≡◌, ◌≢◌, ℕ, suc, ◌+◌, ◌<◌, ◌≤◌, ◌==◌, Bool, true, false, cond, List, [], ◌∷◌, ◌++◌, length, reverse, refl, sym, ap, ◌∙◌, subst, arith, inl, inr, ◌⊎◌}
use Rattle.std.proofs.Math.ListN.{set}
use Rattle.std.proofs.lemmas.List.{get_or-set_same, get_or-set_other, length-set, get_or_past, set-get_or, set_comm, reverse-append}
use Rattle.std.proofs.lemmas.List.Sums.{sum_by-set}
use Rattle.std.proofs.lemmas.Bool.{eqb-true, eq-eqb, ne_eqb, cases_eq, cases_lt}
use Rattle.block_runs.specs.Live.{has}
use Rattle.block_runs.specs.Valid.{times}
use Rattle.lir_core.specs.Flows.{AreDifferent}
use Rattle.global_live.proofs.Lists.{times-append, times_of_in}
use Rattle.trace_build.specs.Traces.{is_in, without, without_all, size}

pub in_range : (s : List Bool) (n : ℕ) → is_in s n ≡ true → n < length s
in_range s n h = by (cases_lt n (length s))
  where
    by : ◌⊎◌ (n < length s) (length s ≤ n) → n < length s
    by (inl lt) = lt
    by (inr le) = let z : is_in s n ≡ false = get_or_past s n false le in cc

pub out_here : (s : List Bool) (n : ℕ) → is_in (without s n) n ≡ false
out_here s n = by (cases_lt n (length s))
  where
    by : ◌⊎◌ (n < length s) (length s ≤ n) → is_in (without s n) n ≡ false
    by (inl lt) = get_or-set_same s n false false lt
    by (inr le) = get_or_past (without s n) n false (subst (λ k. k ≤ n) (sym (length-set s n false)) le)

pub in_beside : (s : List Bool) (n m : ℕ) → m ≢ n → is_in (without s n) m ≡ is_in s m
in_beside s n m d = get_or-set_other s n m false false d

pub stays_out : (s : List Bool) (n m : ℕ) → is_in s m ≡ false → is_in (without s n) m ≡ false
stays_out s n m h = by (cases_eq m n)
  where
    by : ◌⊎◌ (m ≡ n) (m ≡ n → ⊥) → is_in (without s n) m ≡ false
    by (inl e) = ap (is_in (without s n)) e ∙ out_here s n
    by (inr d) = in_beside s n m d ∙ h

pub length-without_all : (s : List Bool) (ns : List ℕ) → length (without_all s ns) ≡ length s
length-without_all s [] = refl
length-without_all s (n ∷ ns) = length-without_all (without s n) ns ∙ length-set s n false

pub stays_out_of_all : (s : List Bool) (ns : List ℕ) (m : ℕ) → is_in s m ≡ false → is_in (without_all s ns) m ≡ false
stays_out_of_all s [] m h = h
stays_out_of_all s (n ∷ ns) m h = stays_out_of_all (without s n) ns m (stays_out s n m h)

pub out_of_all : (s : List Bool) (ns : List ℕ) (m : ℕ) → has ns m ≡ true → is_in (without_all s ns) m ≡ false
out_of_all s [] m h = cc
out_of_all s (n ∷ ns) m h = at_test (n == m) refl h (out_of_all (without s n) ns m)
  where
    at_test : (b : Bool) → (n == m) ≡ b → cond b true (has ns m) ≡ true → (has ns m ≡ true → is_in (without_all (without s n) ns) m ≡ false) → is_in (without_all (without s n) ns) m ≡ false
    at_test true e h on = stays_out_of_all (without s n) ns m (ap (is_in (without s n)) (sym (eqb-true n m e)) ∙ out_here s n)
    at_test false e h on = on h

---- Sizes

abbrev pub one : Bool → ℕ
one b = cond b 1 0

pub size-without : (s : List Bool) (n : ℕ) → is_in s n ≡ true → size s ≡ suc (size (without s n))
size-without s n h =
    let a = sum_by-set one s n false false (in_range s n h) in
    let b : one (is_in s n) ≡ 1 = ap one h in
    omega (arith, a, b)

pub size-without-le : (s : List Bool) (n : ℕ) → size (without s n) ≤ size s
size-without-le s n = at_test (is_in s n) refl
  where
    at_test : (b : Bool) → is_in s n ≡ b → size (without s n) ≤ size s
    at_test true e = let a = size-without s n e in omega (arith, a)
    at_test false e =
        let a : set s n (is_in s n) ≡ s = set-get_or s n false in
        let b : without s n ≡ s = ap (set s n) (sym e) ∙ a in
        let c = ap size b in
        omega (arith, c)

pub size-without_all-le : (s : List Bool) (ns : List ℕ) → size (without_all s ns) ≤ size s
size-without_all-le s [] = omega arith
size-without_all-le s (n ∷ ns) = let a = size-without_all-le (without s n) ns in let b = size-without-le s n in omega (arith, a, b)

pub size_falls : (s : List Bool) (ns : List ℕ) (m : ℕ) → has ns m ≡ true → is_in s m ≡ true → size (without_all s ns) < size s
size_falls s [] m h i = cc
size_falls s (n ∷ ns) m h i = by (cases_eq m n) (size_falls (without s n) ns m)
  where
    rest : m ≢ n → has ns m ≡ true
    rest d = at_test (n == m) refl h
      where
        at_test : (b : Bool) → (n == m) ≡ b → cond b true (has ns m) ≡ true → has ns m ≡ true
        at_test true e h = absurd (d (sym (eqb-true n m e)))
        at_test false e h = h

    by : ◌⊎◌ (m ≡ n) (m ≡ n → ⊥) → (has ns m ≡ true → is_in (without s n) m ≡ true → size (without_all (without s n) ns) < size (without s n)) → size (without_all (without s n) ns) < size s
    by (inl e) on =
        let a = size-without s n (ap (is_in s) (sym e) ∙ i) in
        let b = size-without_all-le (without s n) ns in
        omega (arith, a, b)
    by (inr d) on =
        let a = on (rest d) (in_beside s n m d ∙ i) in
        let b = size-without-le s n in
        omega (arith, a, b)

-- nothing is in a set of size 0
pub in_none : (s : List Bool) (n : ℕ) → size s ≡ 0 → is_in s n ≡ false
in_none s n h = at_test (is_in s n) refl
  where
    at_test : (b : Bool) → is_in s n ≡ b → is_in s n ≡ false
    at_test true e = let a = size-without s n e in absurd (omega (arith, a))
    at_test false e = e

---- Order doesn't matter

without_comm : (s : List Bool) (a b : ℕ) → without (without s a) b ≡ without (without s b) a
without_comm s a b = by (cases_eq a b)
  where
    by : ◌⊎◌ (a ≡ b) (a ≡ b → ⊥) → without (without s a) b ≡ without (without s b) a
    by (inl e) = ap (λ x. without (without s x) b) e ∙ ap (λ x. without (without s b) x) (sym e)
    by (inr d) = set_comm s a b false false d

pub without_all-append : (s : List Bool) (xs ys : List ℕ) → without_all s (xs ++ ys) ≡ without_all (without_all s xs) ys
without_all-append s [] ys = refl
without_all-append s (x ∷ xs) ys = without_all-append (without s x) xs ys

pub without_all-last : (s : List Bool) (n : ℕ) (xs : List ℕ) → without_all (without s n) xs ≡ without (without_all s xs) n
without_all-last s n [] = refl
without_all-last s n (x ∷ xs) = ap (λ t. without_all t xs) (without_comm s n x) ∙ without_all-last (without s x) n xs

pub reverse-first : (x : ℕ) (xs : List ℕ) → reverse (x ∷ xs) ≡ reverse xs ++ x ∷ []
reverse-first x xs = reverse-append (x ∷ []) xs

pub without_all-reverse : (s : List Bool) (xs : List ℕ) → without_all s (reverse xs) ≡ without_all s xs
without_all-reverse s [] = refl
without_all-reverse s (x ∷ xs) =
    ap (without_all s) (reverse-first x xs)
    ∙ without_all-append s (reverse xs) (x ∷ [])
    ∙ ap (λ t. without t x) (without_all-reverse s xs)
    ∙ sym (without_all-last s x xs)

-- a node, what is above it and what is below it
pub without_trace : (s : List Bool) (n : ℕ) (up down : List ℕ) → without_all (without_all (without s n) up) down ≡ without_all s (reverse up ++ n ∷ down)
without_trace s n up down =
    ap (λ t. without_all t down) (without_all-last s n up ∙ ap (λ t. without t n) (sym (without_all-reverse s up)))
    ∙ sym (without_all-append s (reverse up) (n ∷ down))

pub times-reverse : (xs : List ℕ) (m : ℕ) → times (reverse xs) m ≡ times xs m
times-reverse [] m = refl
times-reverse (x ∷ xs) m =
    let a : times (reverse (x ∷ xs)) m ≡ times (reverse xs) m + times (x ∷ []) m = ap (λ ys. times ys m) (reverse-first x xs) ∙ times-append (reverse xs) (x ∷ []) m in
    let b = times-reverse xs m in
    let c = times-append (x ∷ []) xs m in
    omega (arith, a, b, c)

---- Drawing

-- each of some nodes is in a set, from which those before it were taken
abbrev pub AreDrawn : List Bool → List ℕ → Type 0
AreDrawn s [] = Unit {0}
AreDrawn s (n ∷ ns) = (is_in s n ≡ true) × AreDrawn (without s n) ns

-- what is drawn is in the list once, and no longer in the set
pub drawn_once : (s : List Bool) (ns : List ℕ) (m : ℕ) → AreDrawn s ns → times ns m + one (is_in (without_all s ns) m) ≡ one (is_in s m)
drawn_once s [] m d = omega arith
drawn_once s (n ∷ ns) m d = by (cases_eq m n) (drawn_once (without s n) ns m d.1)
  where
    by : ◌⊎◌ (m ≡ n) (m ≡ n → ⊥) → times ns m + one (is_in (without_all (without s n) ns) m) ≡ one (is_in (without s n) m) → times (n ∷ ns) m + one (is_in (without_all (without s n) ns) m) ≡ one (is_in s m)
    by (inl e) on =
        let a : one (is_in (without s n) m) ≡ 0 = ap one (ap (is_in (without s n)) e ∙ out_here s n) in
        let b : one (is_in s m) ≡ 1 = ap one (ap (is_in s) e ∙ d.0) in
        let c : times (n ∷ ns) m ≡ suc (times ns m) = ap (λ b. cond b (suc (times ns m)) (times ns m)) (eq-eqb n m (sym e)) in
        omega (arith, on, a, b, c)
    by (inr ne) on =
        let a : one (is_in (without s n) m) ≡ one (is_in s m) = ap one (in_beside s n m ne) in
        let c : times (n ∷ ns) m ≡ times ns m = ap (λ b. cond b (suc (times ns m)) (times ns m)) (ne_eqb n m (λ (q : n ≡ m). ne (sym q))) in
        omega (arith, on, a, c)

pub drawn-append : (s : List Bool) (xs ys : List ℕ) → AreDrawn s xs → AreDrawn (without_all s xs) ys → AreDrawn s (xs ++ ys)
drawn-append s [] ys d e = e
drawn-append s (x ∷ xs) ys d e = (d.0, drawn-append (without s x) xs ys d.1 e)

-- numbers of which none is there twice
pub different : (xs : List ℕ) → ((m : ℕ) → times xs m ≤ 1) → AreDifferent xs
different [] h = tt
different (x ∷ xs) h = (once, different xs (λ m. less m (x == m) (h m)))
  where
    less : (m : ℕ) (b : Bool) → cond b (suc (times xs m)) (times xs m) ≤ 1 → times xs m ≤ 1
    less m true h = omega arith
    less m false h = h

    few : (n : ℕ) → suc n ≤ 1 → n ≡ 0
    few n le = omega arith

    here : times xs x ≡ 0
    here = few (times xs x) (subst (λ b. cond b (suc (times xs x)) (times xs x) ≤ 1) (eq-eqb x x refl) (h x))

    once : has xs x ≡ false
    once = at_test (has xs x) refl
      where
        at_test : (b : Bool) → has xs x ≡ b → has xs x ≡ false
        at_test true e = let a = times_of_in xs x e in absurd (omega (arith, a, here))
        at_test false e = e
