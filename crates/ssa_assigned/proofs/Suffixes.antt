-- How many branches variables last.
use Rattle.std.proofs.Common.{◌≡◌, ◌≢◌, ℕ, zero, suc, ◌+◌, ◌<◌, ◌≤◌, ◌==◌, List, [], ◌∷◌, ◌++◌, length, get_or, set, drop, replicate, Bool, true, false, cond, ◌||◌, ◌&&◌, refl, sym, ap, ap₂, ◌∙◌, subst, arith}
use Rattle.std.specs.Prelude.{nat_lt}
use Rattle.std.specs.List.{filter}
use Rattle.std.proofs.lemmas.List.{get_or-set_same, get_or-set_other, length-set, length-replicate, get_or-replicate}
use Rattle.std.proofs.lemmas.Bool.{eqb-true}
use Rattle.std.proofs.lemmas.Bool.Decides.{nat_tests}
use Rattle.ob_types.specs.declared.statements.Branch.{Branch}
use Rattle.ssa_lowered.specs.Pieces.{Mask, rest}
use Rattle.ssa_exprs.specs.Changes.{chosen}
use Rattle.ssa_assigned.specs.Assigned.{has, assigned_list, assigned_parts}
use Rattle.ssa_assigned.specs.Numbers.{put_all}
use Rattle.ssa_assigned.proofs.Noting.{or_false}

---- Numbers that are put

pub put_all_length : (n : ℕ) (xs ns : List ℕ) → length (put_all n xs ns) ≡ length ns
put_all_length n [] ns = refl
put_all_length n (x ∷ xs) ns = put_all_length n xs (set ns x n) ∙ length-set ns x n

set_at : (n : ℕ) (ns : List ℕ) (y x : ℕ) → x < length ns → get_or (set ns y n) x 0 ≡ cond (y == x) n (get_or ns x 0)
set_at n ns y x lt = by (y == x) refl
  where
    other : (y == x) ≡ false → x ≢ y
    other is = grind (arith, nat_tests, is)

    by : (b : Bool) → (y == x) ≡ b → get_or (set ns y n) x 0 ≡ cond b n (get_or ns x 0)
    by true is = ap (λ k. get_or (set ns k n) x 0) (eqb-true y x is) ∙ get_or-set_same ns x n 0 lt
    by false is = get_or-set_other ns y x n 0 (other is)

cond_or : (a b : Bool) (n m : ℕ) → cond b n (cond a n m) ≡ cond (a || b) n m
cond_or true true n m = refl
cond_or true false n m = refl
cond_or false b n m = refl

pub put_all_at : (n : ℕ) (xs ns : List ℕ) (x : ℕ) → x < length ns → get_or (put_all n xs ns) x 0 ≡ cond (has xs x) n (get_or ns x 0)
put_all_at n [] ns x lt = refl
put_all_at n (y ∷ ys) ns x lt =
    put_all_at n ys (set ns y n) x (subst (λ k. x < k) (sym (length-set ns y n)) lt)
    ∙ ap (λ m. cond (has ys x) n m) (set_at n ns y x lt)
    ∙ cond_or (y == x) (has ys x) n (get_or ns x 0)

---- The branches so far

or_true : (a : Bool) → (a || true) ≡ true
or_true true = refl
or_true false = refl

none_behind : (j x : ℕ) → false ≡ assigned_parts (drop j []) x
none_behind zero x = refl
none_behind (suc j) x = refl

-- a branch more that doesn't assign the variable, and one that does
unassigned_on : (pre : List Branch) (part : Branch) (x j : ℕ) → assigned_list part.body.items x ≡ false → assigned_parts (drop j (pre ++ part ∷ [])) x ≡ assigned_parts (drop j pre) x
unassigned_on [] part x zero e = or_false (assigned_list part.body.items x) ∙ e
unassigned_on [] part x (suc j) e = sym (none_behind j x)
unassigned_on (p ∷ pre) part x zero e = ap (λ b. assigned_list p.body.items x || b) (unassigned_on pre part x zero e)
unassigned_on (p ∷ pre) part x (suc j) e = unassigned_on pre part x j e

less_more : (j n : ℕ) → nat_lt (suc j) (suc n + 1) ≡ nat_lt j (n + 1)
less_more j n = grind (arith, nat_tests)

first_less : (n : ℕ) → nat_lt 0 (n + 1) ≡ true
first_less n = grind (arith, nat_tests)

assigned_on : (pre : List Branch) (part : Branch) (x j : ℕ) → assigned_list part.body.items x ≡ true → nat_lt j (length pre + 1) ≡ assigned_parts (drop j (pre ++ part ∷ [])) x
assigned_on [] part x zero e = sym (or_false (assigned_list part.body.items x) ∙ e)
assigned_on [] part x (suc j) e = (let not : nat_lt (suc j) (0 + 1) ≡ false = grind (arith, nat_tests) in not) ∙ none_behind j x
assigned_on (p ∷ pre) part x zero e =
    first_less (suc (length pre)) ∙ sym (or_true (assigned_list p.body.items x)) ∙ ap (λ b. assigned_list p.body.items x || b) (sym (first_less (length pre)) ∙ assigned_on pre part x zero e)
assigned_on (p ∷ pre) part x (suc j) e = less_more j (length pre) ∙ assigned_on pre part x j e

-- of each variable it is known how many of these branches it lasts
abbrev pub AreLasting : List Branch → List ℕ → Type 0
AreLasting parts ns = (x j : ℕ) → x < length ns → nat_lt j (get_or ns x 0) ≡ assigned_parts (drop j parts) x

lasting_at : (pre : List Branch) (part : Branch) (x j m : ℕ) (b : Bool) → assigned_list part.body.items x ≡ b → nat_lt j m ≡ assigned_parts (drop j pre) x → nat_lt j (cond b (length pre + 1) m) ≡ assigned_parts (drop j (pre ++ part ∷ [])) x
lasting_at pre part x j m true e h = assigned_on pre part x j e
lasting_at pre part x j m false e h = h ∙ sym (unassigned_on pre part x j e)

pub lasting_more : (pre : List Branch) (part : Branch) (n : ℕ) (found ns : List ℕ) → n ≡ length pre + 1 → ((x : ℕ) → has found x ≡ assigned_list part.body.items x) → AreLasting pre ns → AreLasting (pre ++ part ∷ []) (put_all n found ns)
lasting_more pre part n found ns is f h = λ x j lt.
    let inside = subst (λ k. x < k) (put_all_length n found ns) lt in
    ap (nat_lt j) (put_all_at n found ns x inside ∙ ap (λ k. cond (has found x) k (get_or ns x 0)) is)
    ∙ lasting_at pre part x j (get_or ns x 0) (has found x) (sym (f x)) (h x j inside)

pub lasting_none : (n : ℕ) → AreLasting [] (replicate n 0)
lasting_none n = λ x j lt. ap (nat_lt j) (get_or-replicate n x 0 0 (subst (λ k. x < k) (length-replicate n 0) lt)) ∙ not_below j ∙ none_behind j x
  where
    not_below : (j : ℕ) → nat_lt j 0 ≡ false
    not_below j = grind (arith, nat_tests)

-- and what is assigned behind all
last_at : (parts : List Branch) (x j m : ℕ) (b : Bool) → j < length parts → nat_lt j m ≡ assigned_parts (drop j parts) x → nat_lt j (cond b (length parts) m) ≡ (assigned_parts (drop j parts) x || b)
last_at parts x j m true lt h = (let e : nat_lt j (length parts) ≡ true = grind (arith, nat_tests, lt) in e) ∙ sym (or_true (assigned_parts (drop j parts) x))
last_at parts x j m false lt h = h ∙ sym (or_false (assigned_parts (drop j parts) x))

pub lasting_last : (parts : List Branch) (other ns : List ℕ) (x j : ℕ) → x < length ns → j < length parts → AreLasting parts ns → nat_lt j (get_or (put_all (length parts) other ns) x 0) ≡ (assigned_parts (drop j parts) x || has other x)
lasting_last parts other ns x j inside lt h =
    ap (nat_lt j) (put_all_at (length parts) other ns x inside) ∙ last_at parts x j (get_or ns x 0) (has other x) lt (h x j inside)

---- Variables that are chosen, and still are

abbrev Kept : (keep : ℕ → Bool) → ℕ → List ℕ → Type 0
Kept keep i env = (mask all : Mask) → ((j : ℕ) → j < length env → mask j ≡ (all j && keep (i + j))) → filter keep (chosen all i env) ≡ chosen mask i env

kept_by : (keep : ℕ → Bool) (i : ℕ) (u : ℕ) (env : List ℕ) (mask all : Mask) (a : Bool) → all 0 ≡ a → mask 0 ≡ (a && keep i) → filter keep (chosen (rest all) (suc i) env) ≡ chosen (rest mask) (suc i) env → filter keep (chosen all i (u ∷ env)) ≡ chosen mask i (u ∷ env)
kept_by keep i u env mask all true e m again =
    ap (λ b. filter keep (cond b (i ∷ chosen (rest all) (suc i) env) (chosen (rest all) (suc i) env))) e
    ∙ ap (λ l. cond (keep i) (i ∷ l) l) again
    ∙ sym (ap (λ b. cond b (i ∷ chosen (rest mask) (suc i) env) (chosen (rest mask) (suc i) env)) m)
kept_by keep i u env mask all false e m again =
    ap (λ b. filter keep (cond b (i ∷ chosen (rest all) (suc i) env) (chosen (rest all) (suc i) env))) e
    ∙ again
    ∙ sym (ap (λ b. cond b (i ∷ chosen (rest mask) (suc i) env) (chosen (rest mask) (suc i) env)) m)

kept_at : (keep : ℕ → Bool) (i : ℕ) (env : List ℕ) → Kept keep i env
kept_at keep i [] mask all f = refl
kept_at keep i (u ∷ env) mask all f =
    kept_by keep i u env mask all (all 0) refl (f 0 (omega arith) ∙ ap (λ n. all 0 && keep n) (omega arith))
    (kept_at keep (suc i) env (rest mask) (rest all) (λ j lt. f (suc j) (omega (arith, lt)) ∙ ap (λ n. all (suc j) && keep n) (omega arith)))

-- of the variables that a mask chooses those that are kept are what another one chooses
pub chosen_kept : (keep : ℕ → Bool) (env : List ℕ) (mask all : Mask) → ((j : ℕ) → j < length env → mask j ≡ (all j && keep j)) → filter keep (chosen all 0 env) ≡ chosen mask 0 env
chosen_kept keep env mask all f = kept_at keep 0 env mask all (λ j lt. f j lt ∙ ap (λ n. all j && keep n) (omega arith))

-- what lasts so many branches lasts one
pub lasts_one : (i n : ℕ) → nat_lt i n ≡ (nat_lt 0 n && nat_lt i n)
lasts_one i zero = grind (arith, nat_tests)
lasts_one i (suc n) = (let some : nat_lt 0 (suc n) ≡ true = grind (arith, nat_tests) in sym (ap (λ b. b && nat_lt i (suc n)) some))
