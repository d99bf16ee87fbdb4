-- Changes of what is known of the variables, taken back, and what joins make of it.
use Rattle.std.proofs.Common.{◌≡◌, ℕ, zero, suc, ◌+◌, ◌<◌, ◌≤◌, List, [], ◌∷◌, ◌++◌, Bool, true, false, cond, drop, take, length, get_or, Option, Some, None, slice_get, refl, sym, ap, ap₂, ◌∙◌, subst, arith, append_assoc, length-append}
use Rattle.std.specs.Prelude.{slice_set, slice_index}
use Rattle.std.proofs.lemmas.List.{take_more, take-append-le, drop-append-le, length-take-le}
use Rattle.std.proofs.Math.Seq.{take-length}
use Rattle.ssa_lowered.specs.Pieces.{Mask, rest, params, merged, beyond, picked, numbers}
use Rattle.ssa_exprs.specs.declared.making.Undo.{Undo}
use Rattle.ssa_exprs.specs.Making.{Known}
use Rattle.ssa_exprs.specs.Changes.{changed, changed_by, undone, rewound, Undoes, numbered_from, chosen, values_of}
use Rattle.ssa_exprs.proofs.Giving.{append_nil}

---- Changes that are taken back

pub undone_on : (xs ys : List Undo) (env : List ℕ) → undone (xs ++ ys) env ≡ undone xs (undone ys env)
undone_on [] ys env = refl
undone_on (x ∷ xs) ys env = ap (λ l. slice_set l x.variable x.value) (undone_on xs ys env)

pub undoes_none : (k : Known) → Undoes k k
undoes_none k = record { more = []; log = sym (append_nil k.log); env = refl }

pub undoes_on : {k l m : Known} → Undoes k l → Undoes l m → Undoes k m
undoes_on {k = k} {m = m} x y = record {
  more = x.more ++ y.more;
  log = y.log ∙ ap (λ z. z ++ y.more) x.log ∙ append_assoc k.log x.more y.more;
  env = undone_on x.more y.more m.env ∙ ap (undone x.more) y.env ∙ x.env;
}

pub undoes_same : {k l : Known} → l ≡ k → Undoes k l
undoes_same {k = k} e = subst (λ z. Undoes k z) (sym e) (undoes_none k)

abbrev value_or : Option ℕ → ℕ
value_or None = 0
value_or (Some n) = n

set_back : (env : List ℕ) (x n old : ℕ) → slice_get env x ≡ Some old → slice_set (slice_set env x n) x old ≡ env
set_back [] x n old e = refl
set_back (u ∷ env) zero n old e = ap (λ z. z ∷ env) (sym (ap value_or e))
set_back (u ∷ env) (suc x) n old e = ap (λ z. u ∷ z) (set_back env x n old e)

undoes_by : (k : Known) (x n : ℕ) (o : Option ℕ) → slice_get k.env x ≡ o → Undoes k (changed_by k x n o)
undoes_by k x n None e = undoes_none k
undoes_by k x n (Some old) e = record { more = record { variable = x; value = old } ∷ []; log = refl; env = set_back k.env x n old e }

pub undoes_changed : (k : Known) (x n : ℕ) → Undoes k (changed k x n)
undoes_changed k x n = undoes_by k x n (slice_get k.env x) refl

pub undoes_numbered : (k : Known) (xs : List ℕ) (v : ℕ) → Undoes k (numbered_from k xs v)
undoes_numbered k [] v = undoes_none k
undoes_numbered k (x ∷ xs) v = undoes_on (undoes_changed k x v) (undoes_numbered (changed k x v) xs (suc v))

drop_all : {X : Type 0} (xs ys : List X) → drop (length xs) (xs ++ ys) ≡ ys
drop_all [] ys = refl
drop_all (x ∷ xs) ys = drop_all xs ys

take_all : {X : Type 0} (xs ys : List X) → take (length xs) (xs ++ ys) ≡ xs
take_all [] [] = refl
take_all [] (y ∷ ys) = refl
take_all (x ∷ xs) ys = ap (λ z. x ∷ z) (take_all xs ys)

-- back to the moment at which the changes began
pub rewound_is : {k l : Known} → Undoes k l → rewound l (length k.log) ≡ k
rewound_is {k = k} {l = l} x =
    ap₂ (λ (e : List ℕ) (g : List Undo). record { env = e; log = g })
    (ap (λ z. undone (drop (length k.log) z) l.env) x.log ∙ ap (λ z. undone z l.env) (drop_all k.log x.more) ∙ x.env)
    (ap (take (length k.log)) x.log ∙ take_all k.log x.more)

---- The code that takes them back

last_of : (xs : List Undo) (n : ℕ) (d : Undo) → length xs ≡ suc n → xs ≡ take n xs ++ get_or xs n d ∷ []
last_of xs n d len =
    let whole : n + 1 ≡ length xs = omega (arith, len) in
    let lt : n < length xs = omega (arith, len) in
    sym (take-length xs) ∙ sym (ap (λ k. take k xs) whole) ∙ take_more xs n d lt

length_before : (xs : List Undo) (n : ℕ) → length xs ≡ suc n → length (take n xs) ≡ n
length_before xs n len = length-take-le n xs (omega (arith, len))

-- one change is taken back, of those that are to be
pub undone_last : (xs : List Undo) (n m : ℕ) (d : Undo) (env : List ℕ) → length xs ≡ suc n → m ≤ n
    → undone (drop m (take n xs)) (slice_set env (get_or xs n d).variable (get_or xs n d).value) ≡ undone (drop m xs) env
undone_last xs n m d env len le =
    let u = get_or xs n d in
    let before = length_before xs n len in
    let fits : m ≤ length (take n xs) = omega (arith, before, le) in
    sym (ap (λ z. undone (drop m z) env) (last_of xs n d len) ∙ ap (λ z. undone z env) (drop-append-le m (take n xs) (u ∷ []) fits) ∙ undone_on (drop m (take n xs)) (u ∷ []) env)

pub taken_last : (xs : List Undo) (n m : ℕ) (d : Undo) → length xs ≡ suc n → m ≤ n → take m (take n xs) ≡ take m xs
taken_last xs n m d len le =
    let before = length_before xs n len in
    let fits : m ≤ length (take n xs) = omega (arith, before, le) in
    sym (ap (take m) (last_of xs n d len) ∙ take-append-le m (take n xs) (get_or xs n d ∷ []) fits)

---- The variables of a mask

at_seam : (pre : List ℕ) (u : ℕ) (env : List ℕ) → slice_index (pre ++ u ∷ env) (length pre) ≡ u
at_seam [] u env = refl
at_seam (x ∷ pre) u env = at_seam pre u env

get_seam : (pre : List ℕ) (u : ℕ) (env : List ℕ) → slice_get (pre ++ u ∷ env) (length pre) ≡ Some u
get_seam [] u env = refl
get_seam (x ∷ pre) u env = get_seam pre u env

set_seam : (pre : List ℕ) (u v : ℕ) (env : List ℕ) → slice_set (pre ++ u ∷ env) (length pre) v ≡ pre ++ v ∷ env
set_seam [] u v env = refl
set_seam (x ∷ pre) u v env = ap (λ z. x ∷ z) (set_seam pre u v env)

longer : (pre : List ℕ) (u : ℕ) → length (pre ++ u ∷ []) ≡ suc (length pre)
longer pre u = let e = length-append pre (u ∷ []) in omega (arith, e)

picked_by : (b : Bool) (all : List ℕ) (i u : ℕ) (xs ys : List ℕ) → slice_index all i ≡ u → values_of all xs ≡ ys → values_of all (cond b (i ∷ xs) xs) ≡ cond b (u ∷ ys) ys
picked_by true all i u xs ys e f = ap₂ (λ x l. x ∷ l) e f
picked_by false all i u xs ys e f = f

picked_from : (mask : Mask) (pre env : List ℕ) → values_of (pre ++ env) (chosen mask (length pre) env) ≡ picked mask env
picked_from mask pre [] = refl
picked_from mask pre (u ∷ env) =
    picked_by (mask 0) (pre ++ u ∷ env) (length pre) u (chosen (rest mask) (suc (length pre)) env) (picked (rest mask) env) (at_seam pre u env)
    (ap₂ (λ l i. values_of l (chosen (rest mask) i env)) (sym (append_assoc pre (u ∷ []) env)) (sym (longer pre u)) ∙ picked_from (rest mask) (pre ++ u ∷ []) env)

-- their values are what a jump gives
pub picked_is : (mask : Mask) (env : List ℕ) → values_of env (chosen mask 0 env) ≡ picked mask env
picked_is mask env = picked_from mask [] env

numbered_by : (b : Bool) (k : Known) (pre : List ℕ) (u v : ℕ) (env xs : List ℕ) (one two : List ℕ) → k.env ≡ pre ++ u ∷ env
    → ((log : List Undo) → (numbered_from (record { env = (pre ++ v ∷ []) ++ env; log = log }) xs (suc v)).env ≡ (pre ++ v ∷ []) ++ one)
    → ((log : List Undo) → (numbered_from (record { env = (pre ++ u ∷ []) ++ env; log = log }) xs v).env ≡ (pre ++ u ∷ []) ++ two)
    → (numbered_from k (cond b (length pre ∷ xs) xs) v).env ≡ pre ++ cond b (v ∷ one) (u ∷ two)
numbered_by true k pre u v env xs one two is f g =
    let old : slice_get k.env (length pre) ≡ Some u = ap (λ l. slice_get l (length pre)) is ∙ get_seam pre u env in
    let log = k.log ++ record { variable = length pre; value = u } ∷ [] in
    let set_is : slice_set k.env (length pre) v ≡ (pre ++ v ∷ []) ++ env = ap (λ l. slice_set l (length pre) v) is ∙ set_seam pre u v env ∙ sym (append_assoc pre (v ∷ []) env) in
    ap (λ o. (numbered_from (changed_by k (length pre) v o) xs (suc v)).env) old
    ∙ ap (λ l. (numbered_from (record { env = l; log = log }) xs (suc v)).env) set_is
    ∙ f log ∙ append_assoc pre (v ∷ []) one
numbered_by false k pre u v env xs one two is f g =
    ap (λ l. (numbered_from (record { env = l; log = k.log }) xs v).env) (is ∙ sym (append_assoc pre (u ∷ []) env)) ∙ g k.log ∙ append_assoc pre (u ∷ []) two

numbered_at : (mask : Mask) (pre env : List ℕ) (log : List Undo) (v : ℕ) → (numbered_from (record { env = pre ++ env; log = log }) (chosen mask (length pre) env) v).env ≡ pre ++ merged mask v env
numbered_at mask pre [] log v = refl
numbered_at mask pre (u ∷ env) log v =
    numbered_by (mask 0) (record { env = pre ++ u ∷ env; log = log }) pre u v env (chosen (rest mask) (suc (length pre)) env) (merged (rest mask) (suc v) env) (merged (rest mask) v env) refl
    (λ g. ap (λ i. (numbered_from (record { env = (pre ++ v ∷ []) ++ env; log = g }) (chosen (rest mask) i env) (suc v)).env) (sym (longer pre v)) ∙ numbered_at (rest mask) (pre ++ v ∷ []) env g (suc v))
    (λ g. ap (λ i. (numbered_from (record { env = (pre ++ u ∷ []) ++ env; log = g }) (chosen (rest mask) i env) v).env) (sym (longer pre u)) ∙ numbered_at (rest mask) (pre ++ u ∷ []) env g v)

-- numbered from a value on, they are as behind a join
pub merged_is : (mask : Mask) (k : Known) (v : ℕ) → (numbered_from k (chosen mask 0 k.env) v).env ≡ merged mask v k.env
merged_is mask k v = numbered_at mask [] k.env k.log v

params_by : (b : Bool) (i v : ℕ) (xs one two : List ℕ) → one ≡ numbers (suc v) (length xs) → two ≡ numbers v (length xs) → cond b (v ∷ one) two ≡ numbers v (length (cond b (i ∷ xs) xs))
params_by true i v xs one two f g = ap (λ l. v ∷ l) f
params_by false i v xs one two f g = g

pub params_are : (mask : Mask) (i v : ℕ) (env : List ℕ) → params mask v env ≡ numbers v (length (chosen mask i env))
params_are mask i v [] = refl
params_are mask i v (u ∷ env) =
    params_by (mask 0) i v (chosen (rest mask) (suc i) env) (params (rest mask) (suc v) env) (params (rest mask) v env) (params_are (rest mask) (suc i) (suc v) env) (params_are (rest mask) (suc i) v env)

beyond_by : (b : Bool) (i v one two : ℕ) (xs : List ℕ) → one ≡ suc v + length xs → two ≡ v + length xs → cond b one two ≡ v + length (cond b (i ∷ xs) xs)
beyond_by true i v one two xs f g = omega (arith, f)
beyond_by false i v one two xs f g = g

pub beyond_is : (mask : Mask) (i v : ℕ) (env : List ℕ) → beyond mask v env ≡ v + length (chosen mask i env)
beyond_is mask i v [] = omega arith
beyond_is mask i v (u ∷ env) =
    beyond_by (mask 0) i v (beyond (rest mask) (suc v) env) (beyond (rest mask) v env) (chosen (rest mask) (suc i) env) (beyond_is (rest mask) (suc i) (suc v) env) (beyond_is (rest mask) (suc i) v env)
