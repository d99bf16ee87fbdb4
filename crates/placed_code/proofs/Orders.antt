-- Blocks in the order of their code have the points of blocks in the order of their numbers.
use Rattle.std.proofs.Common.{◌≡◌, ℕ, zero, suc, ◌+◌, ◌<◌, ◌≤◌, ◌==◌, ⊎_elim, List, [], ◌∷◌, length, Bool, true, false, cond, refl, arith, sym, ap, ap₂, ◌∙◌}
use Rattle.std.specs.Prelude.{if◌then◌else◌, drop}
use Rattle.std.proofs.lemmas.Bool.Decides.{eqb_tells}
use Rattle.run_laws.specs.Runs.{weigh}
use Rattle.run_laws.specs.Layers.{points_of_all}
use Rattle.run_laws.proofs.Weights.{weigh-append}
use Rattle.block_runs.specs.Live.{has}
use Rattle.placed_code.specs.Layout.{position}

-- n weights from the j-th on, added up
abbrev pub sum : (ℕ → ℕ) → ℕ → ℕ → ℕ
sum g j zero = 0
sum g j (suc n) = g j + sum g (suc j) n

abbrev pub sum_of : (ℕ → ℕ) → List ℕ → ℕ
sum_of g [] = 0
sum_of g (b ∷ bs) = g b + sum_of g bs

-- the same of those in a list, and of one alone
abbrev in_list : (ℕ → ℕ) → List ℕ → ℕ → ℕ
in_list g bs b = cond (has bs b) (g b) 0

abbrev alone : (ℕ → ℕ) → ℕ → ℕ → ℕ
alone g c b = cond (c == b) (g b) 0

same_numbers : (m n : ℕ) → (m == n) ≡ true → m ≡ n
same_numbers m n e = ⊎_elim (λ t. t.1) (λ f. let wrong = f.0 in cc) (eqb_tells m n)

none_alone : (g : ℕ → ℕ) (c j n : ℕ) → c < j → sum (alone g c) j n ≡ 0
none_alone g c j zero l = refl
none_alone g c j (suc n) l = by_test (c == j) refl (none_alone g c (suc j) n (omega (arith, l)))
  where
    by_test : (b : Bool) → (c == j) ≡ b → sum (alone g c) (suc j) n ≡ 0 → cond b (g j) 0 + sum (alone g c) (suc j) n ≡ 0
    by_test true e r = let same = same_numbers c j e in absurd (omega (arith, l, same))
    by_test false e r = omega (arith, r)

one_alone : (g : ℕ → ℕ) (c j n : ℕ) → sum (alone g c) j n ≤ g c
one_alone g c j zero = omega arith
one_alone g c j (suc n) = by_test (c == j) refl (one_alone g c (suc j) n)
  where
    by_test : (b : Bool) → (c == j) ≡ b → sum (alone g c) (suc j) n ≤ g c → cond b (g j) 0 + sum (alone g c) (suc j) n ≤ g c
    by_test true e r =
        let same = same_numbers c j e in
        let rest = none_alone g c (suc j) n (omega (arith, same)) in
        let w = ap g same in
        omega (arith, rest, w)
    by_test false e r = omega (arith, r)

none_in : (g : ℕ → ℕ) (j n : ℕ) → sum (in_list g []) j n ≡ 0
none_in g j zero = refl
none_in g j (suc n) = let r = none_in g (suc j) n in omega (arith, r)

one_more : (g : ℕ → ℕ) (c : ℕ) (bs : List ℕ) (j n : ℕ) → sum (in_list g (c ∷ bs)) j n ≤ sum (alone g c) j n + sum (in_list g bs) j n
one_more g c bs j zero = omega arith
one_more g c bs j (suc n) = by_test (c == j) (has bs j) (one_more g c bs (suc j) n)
  where
    by_test : (b d : Bool) → sum (in_list g (c ∷ bs)) (suc j) n ≤ sum (alone g c) (suc j) n + sum (in_list g bs) (suc j) n
        → cond (cond b true d) (g j) 0 + sum (in_list g (c ∷ bs)) (suc j) n ≤ cond b (g j) 0 + sum (alone g c) (suc j) n + (cond d (g j) 0 + sum (in_list g bs) (suc j) n)
    by_test true d r = omega (arith, r)
    by_test false true r = omega (arith, r)
    by_test false false r = omega (arith, r)

listed : (g : ℕ → ℕ) (bs : List ℕ) (j n : ℕ) → sum (in_list g bs) j n ≤ sum_of g bs
listed g [] j n = let r = none_in g j n in omega (arith, r)
listed g (c ∷ bs) j n = let r = one_more g c bs j n in let s = one_alone g c j n in let t = listed g bs j n in omega (arith, r, s, t)

is_listed : (bs : List ℕ) (b : ℕ) → position bs b < length bs → has bs b ≡ true
is_listed [] b l = absurd (omega (arith, l))
is_listed (c ∷ bs) b l = by_test (c == b) l (is_listed bs b)
  where
    by_test : (t : Bool) → (if t then 0 else suc (position bs b)) < suc (length bs) → (position bs b < length bs → has bs b ≡ true) → cond t true (has bs b) ≡ true
    by_test true l on = refl
    by_test false l on = on (omega (arith, l))

all_listed : (g : ℕ → ℕ) (bs : List ℕ) (j n : ℕ) → ((b : ℕ) → b < j + n → position bs b < length bs) → sum g j n ≡ sum (in_list g bs) j n
all_listed g bs j zero all = refl
all_listed g bs j (suc n) all =
    let here = is_listed bs j (all j (omega arith)) in
    let one : g j ≡ cond (has bs j) (g j) 0 = sym (ap (λ b. cond b (g j) 0) here) in
    let rest = all_listed g bs (suc j) n (λ b l. all b (omega (arith, l))) in
    omega (arith, one, rest)

-- what each of the first n numbers weighs is weighed in a list that has them all
pub sum_listed : (g : ℕ → ℕ) (bs : List ℕ) (n : ℕ) → ((b : ℕ) → b < n → position bs b < length bs) → sum g 0 n ≤ sum_of g bs
sum_listed g bs n all = let e = all_listed g bs 0 n (λ b l. all b (omega (arith, l))) in let r = listed g bs 0 n in omega (arith, e, r)

-- the points of all items weigh what their items do
pub weigh_all : {A P : Type 0} (h : P → ℕ) (points : ℕ → A → List P) (g : ℕ → ℕ) (j : ℕ) (xs : List A) → ((n : ℕ) (x : A) (rest : List A) → drop n xs ≡ x ∷ rest → weigh h (points (j + n) x) ≡ g (j + n)) → weigh h (points_of_all points j xs) ≡ sum g j (length xs)
weigh_all h points g j [] each = refl
weigh_all h points g j (x ∷ xs) each =
    let z : j + 0 ≡ j = omega arith in
    let one : weigh h (points j x) ≡ g j = ap (λ m. weigh h (points m x)) (sym z) ∙ each 0 x xs refl ∙ ap g z in
    let more = weigh_all h points g (suc j) xs (λ n u rest e.
    let i : suc j + n ≡ j + suc n = omega arith in
    ap (λ m. weigh h (points m u)) i ∙ each (suc n) u rest e ∙ ap g (sym i)) in
    weigh-append h (points j x) (points_of_all points (suc j) xs) ∙ ap₂ (λ m n. m + n) one more
