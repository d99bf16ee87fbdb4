-- What a table of moves lists, and which of them is picked.
use Rattle.std.proofs.Common.{◌≡◌, ℕ, zero, suc, ◌+◌, ◌<◌, ◌≤◌, Bool, true, false, cond, List, [], ◌∷◌, ◌++◌, map, length, Option, Some, None, refl, ap, ap₂, ◌∙◌, arith, length-append}
use Rattle.std.specs.Prelude.{◌==◌, option_map}
use Rattle.std.proofs.lemmas.Bool.Decides.{nat_tests}
use Rattle.std.proofs.lemmas.Bool.{eqb-true}
use Rattle.lir_core.specs.Spots.{Spot, same, spot}
use Rattle.parallel_move.specs.Order.{Pending, from_spot, is_source, behind, pick}
use Rattle.parallel_move.specs.Entries.{in_front, listed, one, reads}

abbrev pub Table : Type 0
Table = ℕ → Option Pending

pub listed_same : (T U : Table) (i k : ℕ) → ((j : ℕ) → i ≤ j → j < i + k → T j ≡ U j) → listed T i k ≡ listed U i k
listed_same T U i zero h = refl
listed_same T U i (suc k) h = ap₂ in_front (h i (omega arith) (omega arith)) (listed_same T U (suc i) k (λ j a b. h j (omega (arith, a)) (omega (arith, b))))

pub none_listed : (T : Table) (i k : ℕ) → ((j : ℕ) → i ≤ j → j < i + k → T j ≡ None) → listed T i k ≡ []
none_listed T i zero h = refl
none_listed T i (suc k) h = ap₂ in_front (h i (omega arith) (omega arith)) (none_listed T (suc i) k (λ j a b. h j (omega (arith, a)) (omega (arith, b))))

mapped_front : (f : Pending → Pending) (o : Option Pending) (ms : List Pending) → in_front (option_map f o) (map f ms) ≡ map f (in_front o ms)
mapped_front f None ms = refl
mapped_front f (Some m) ms = refl

pub listed_map : (f : Pending → Pending) (T : Table) (i k : ℕ) → listed (λ j. option_map f (T j)) i k ≡ map f (listed T i k)
listed_map f T i zero = refl
listed_map f T i (suc k) = ap (in_front (option_map f (T i))) (listed_map f T (suc i) k) ∙ mapped_front f (T i) (listed T (suc i) k)

pub front_append : (o : Option Pending) (xs ys : List Pending) → in_front o (xs ++ ys) ≡ in_front o xs ++ ys
front_append None xs ys = refl
front_append (Some m) xs ys = refl

---- One left out

abbrev pub without : ℕ → Table → Table
without n T j = cond (j == n) None (T j)

abbrev pub AllBlocked : List Pending → List Pending → Type 0
AllBlocked all [] = Unit {0}
AllBlocked all (x ∷ xs) = (is_source all (spot x.to) ≡ true) × AllBlocked all xs

pub record Split (T : Table) (n i k : ℕ) (m : Pending) : Type 0 where
  pub before : List Pending
  pub after : List Pending
  pub whole : listed T i k ≡ before ++ m ∷ after
  pub rest : listed (without n T) i k ≡ before ++ after
  pub blocked : (all : List Pending) → ((j : ℕ) (x : Pending) → i ≤ j → j < n → T j ≡ Some x → is_source all (spot x.to) ≡ true) → AllBlocked all before

unequal : (i n : ℕ) → i < n → (n == i) ≡ false
unequal i n h = grind (arith, nat_tests)

unequal_back : (i n : ℕ) → (i == n) ≡ false → i ≤ n → suc i ≤ n
unequal_back i n e h = grind (arith, nat_tests)

pub split_at : (T : Table) (n i k : ℕ) (m : Pending) → i ≤ n → n < i + k → T n ≡ Some m → Split T n i k m
split_at T n i zero m a b t = absurd (omega (arith, a, b))
split_at T n i (suc k) m a b t = at_test (i == n) refl (λ c. split_at T n (suc i) k m c (omega (arith, b)) t)
  where
    later : (e : i ≡ n) (j : ℕ) → suc i ≤ j → without n T j ≡ T j
    later e j h = ap (λ x. cond x None (T j)) (unequal n j (omega (arith, h, e)))

    on_front : (o : Option Pending) (all : List Pending) (xs : List Pending) → T i ≡ o → suc i ≤ n → ((j : ℕ) (x : Pending) → i ≤ j → j < n → T j ≡ Some x → is_source all (spot x.to) ≡ true) → AllBlocked all xs → AllBlocked all (in_front o xs)
    on_front None all xs e c h rest = rest
    on_front (Some x) all xs e c h rest = (h i x (omega arith) (omega (arith, c)) e, rest)

    at_test : (c : Bool) → (i == n) ≡ c → (suc i ≤ n → Split T n (suc i) k m) → Split T n i (suc k) m
    at_test true e on =
        let q : i ≡ n = eqb-true i n e in
        record {
          before = [];
          after = listed T (suc i) k;
          whole = ap (λ o. in_front o (listed T (suc i) k)) (ap T q ∙ t);
          rest = ap (λ x. in_front (cond x None (T i)) (listed (without n T) (suc i) k)) e ∙ listed_same (without n T) T (suc i) k (λ j h g. later q j h);
          blocked = λ all h. tt;
        }
    at_test false e on =
        let c = unequal_back i n e a in
        let s = on c in
        record {
          before = in_front (T i) s.before;
          after = s.after;
          whole = ap (in_front (T i)) s.whole ∙ front_append (T i) s.before (m ∷ s.after);
          rest = ap (λ x. in_front (cond x None (T i)) (listed (without n T) (suc i) k)) e ∙ ap (in_front (T i)) s.rest ∙ front_append (T i) s.before s.after;
          blocked = λ all h. on_front (T i) all s.before refl c h (s.blocked all (λ j x f. h j x (omega (arith, f))));
        }

pub all_blocked : (all : List Pending) (T : Table) (i k : ℕ) → ((j : ℕ) (x : Pending) → i ≤ j → j < i + k → T j ≡ Some x → is_source all (spot x.to) ≡ true) → AllBlocked all (listed T i k)
all_blocked all T i zero h = tt
all_blocked all T i (suc k) h = on_front (T i) refl (all_blocked all T (suc i) k (λ j x a b. h j x (omega (arith, a)) (omega (arith, b))))
  where
    on_front : (o : Option Pending) → T i ≡ o → AllBlocked all (listed T (suc i) k) → AllBlocked all (in_front o (listed T (suc i) k))
    on_front None e rest = rest
    on_front (Some x) e rest = (h i x (omega arith) (omega arith) e, rest)

---- What is picked

pub picks : (all xs ys : List Pending) (m : Pending) → AllBlocked all xs → is_source all (spot m.to) ≡ false → pick all (xs ++ m ∷ ys) ≡ Some (record { move = m; rest = xs ++ ys })
picks all [] ys m b f = ap (λ c. cond c (behind m (pick all ys)) (Some (record { move = m; rest = ys }))) f
picks all (x ∷ xs) ys m b f =
    ap (λ c. cond c (behind x (pick all (xs ++ m ∷ ys))) (Some (record { move = x; rest = xs ++ m ∷ ys }))) b.0 ∙ ap (behind x) (picks all xs ys m b.1 f)

pub picks_none : (all xs : List Pending) → AllBlocked all xs → pick all xs ≡ None
picks_none all [] b = refl
picks_none all (x ∷ xs) b = ap (λ c. cond c (behind x (pick all xs)) (Some (record { move = x; rest = xs }))) b.0 ∙ ap (behind x) (picks_none all xs b.1)

---- How often a spot is read

pub reads-append : (xs ys : List Pending) (p : Spot) → reads (xs ++ ys) p ≡ reads xs p + reads ys p
reads-append [] ys p = omega arith
reads-append (m ∷ xs) ys p = let on = reads-append xs ys p in omega (arith, on)

pub reads_split : (xs ys : List Pending) (m : Pending) (p : Spot) → reads (xs ++ m ∷ ys) p ≡ one (same (from_spot m.from) p) + reads (xs ++ ys) p
reads_split xs ys m p = let a = reads-append xs (m ∷ ys) p in let b = reads-append xs ys p in omega (arith, a, b)

pub length_split : (xs ys : List Pending) (m : Pending) → length (xs ++ m ∷ ys) ≡ suc (length (xs ++ ys))
length_split xs ys m = let a = length-append xs (m ∷ ys) in let b = length-append xs ys in omega (arith, a, b)

pub unread_free : (ms : List Pending) (p : Spot) → reads ms p ≡ 0 → is_source ms p ≡ false
unread_free [] p e = refl
unread_free (m ∷ ms) p e = at_test (same (from_spot m.from) p) e (unread_free ms p)
  where
    at_test : (b : Bool) → one b + reads ms p ≡ 0 → (reads ms p ≡ 0 → is_source ms p ≡ false) → cond b true (is_source ms p) ≡ false
    at_test true e on = absurd (omega (arith, e))
    at_test false e on = on (omega (arith, e))

pub read_blocks : (ms : List Pending) (p : Spot) → is_source ms p ≡ false → reads ms p ≡ 0
read_blocks [] p e = refl
read_blocks (m ∷ ms) p e = at_test (same (from_spot m.from) p) e (read_blocks ms p)
  where
    at_test : (b : Bool) → cond b true (is_source ms p) ≡ false → (is_source ms p ≡ false → reads ms p ≡ 0) → one b + reads ms p ≡ 0
    at_test true e on = cc
    at_test false e on = let z = on e in omega (arith, z)
