-- Where things stand one behind the other.
use Rattle.std.proofs.Common.{◌≡◌, ℕ, zero, suc, ◌+◌, ◌-◌, ◌<◌, ◌≤◌, List, [], ◌∷◌, ◌++◌, take, drop, length, get_or, Bool, true, false, ltb, refl, sym, ap, ap₂, ◌∙◌, subst, arith, append_assoc, ◌⊎◌, inl, inr}
use Rattle.std.specs.Prelude.{if◌then◌else◌}
use Rattle.std.specs.List.{sum_by}
use Rattle.std.proofs.lemmas.Bool.{lt-ltb}
use Rattle.std.proofs.lemmas.List.{drop_more}
use Rattle.std.proofs.lemmas.List.Sums.{sum_by-cons}
use Rattle.std.proofs.Math.ListN.{drop_of_length-le}
use Rattle.ob_types.specs.Layout.{types_of}
use Rattle.ob_types.specs.declared.program.Module.{Module}
use Rattle.ob_types.specs.declared.types.Extent.{Extent}
use Rattle.ob_types.specs.declared.types.Field.{Field}
use Rattle.ssa_lowered.specs.Data.{within}
use Rattle.ssa_exprs.specs.Tables.{clamped, of_row}
use Rattle.ssa_tables.specs.Places.{starts, finish, module_starts, module_finish, begins, field_starts}

---- What is clamped twice is clamped

pub within_on : (a b c : ℕ) → within (within (a + b) + c) ≡ within (a + (b + c))
within_on a b c = omega arith

within_less : (a : ℕ) → within a ≤ 16777215
within_less a = omega arith

within_same : (a : ℕ) → a ≤ 16777215 → within a ≡ a
within_same a le = omega (arith, le)

-- the last one ends behind all of them
pub finish_is : {A : Type 0} (size : A → ℕ) (at : ℕ) (xs : List A) → at ≤ 16777215 → finish size at xs ≡ within (at + sum_by size xs)
finish_is size at [] le = omega (arith, le)
finish_is size at (x ∷ xs) le =
    finish_is size (within (at + size x)) xs (within_less (at + size x))
    ∙ within_on at (size x) (sum_by size xs)
    ∙ ap (λ n. within (at + n)) (sym (sum_by-cons size x xs))

-- the same by sizes that are the same
pub finish_same : {A : Type 0} (f g : A → ℕ) → ((x : A) → f x ≡ g x) → (at : ℕ) (xs : List A) → finish f at xs ≡ finish g at xs
finish_same f g e at [] = refl
finish_same f g e at (x ∷ xs) = ap (λ n. finish f (within (at + n)) xs) (e x) ∙ finish_same f g e (within (at + g x)) xs

---- The list of all places

pub take_none : {A : Type 0} (xs : List A) → take 0 xs ≡ []
take_none [] = refl
take_none (x ∷ xs) = refl

pub take_all : {A : Type 0} (xs : List A) (n : ℕ) → length xs ≤ n → take n xs ≡ xs
take_all [] zero le = refl
take_all [] (suc n) le = refl
take_all (x ∷ xs) zero le = absurd (omega (arith, le))
take_all (x ∷ xs) (suc n) le = ap (λ ys. x ∷ ys) (take_all xs n (omega (arith, le)))

pub starts_length : {A : Type 0} (size : A → ℕ) (at : ℕ) (xs : List A) → length (starts size at xs) ≡ suc (length xs)
starts_length size at [] = refl
starts_length size at (x ∷ xs) = ap suc (starts_length size (within (at + size x)) xs)

pub starts_at : {A : Type 0} (size : A → ℕ) (at : ℕ) (xs : List A) (i : ℕ) → i ≤ length xs → get_or (starts size at xs) i 0 ≡ finish size at (take i xs)
starts_at size at [] zero le = refl
starts_at size at [] (suc i) le = absurd (omega (arith, le))
starts_at size at (x ∷ xs) zero le = refl
starts_at size at (x ∷ xs) (suc i) le = starts_at size (within (at + size x)) xs i (omega (arith, le))

pub clamped_inside : (xs : List ℕ) (i : ℕ) → i < length xs → clamped xs i ≡ get_or xs i 0
clamped_inside xs i lt = ap (λ (b : Bool). if b then get_or xs i 0 else get_or xs (length xs - 1) 0) (lt-ltb i (length xs) lt)

pub not_less : (i n : ℕ) → n ≤ i → ltb i n ≡ false
not_less i n le = by (ltb i n) refl
  where
    by : (b : Bool) → ltb i n ≡ b → b ≡ false
    by true is = absurd (grind (arith, is, le))
    by false is = refl

pub clamped_past : (xs : List ℕ) (i : ℕ) → length xs ≤ i → clamped xs i ≡ get_or xs (length xs - 1) 0
clamped_past xs i le = ap (λ (b : Bool). if b then get_or xs i 0 else get_or xs (length xs - 1) 0) (not_less i (length xs) le)

-- behind the last one stands where the next one would
pub starts_clamped : {A : Type 0} (size : A → ℕ) (at : ℕ) (xs : List A) (i : ℕ) → clamped (starts size at xs) i ≡ finish size at (take i xs)
starts_clamped size at xs i = by (less_or_past i (length xs))
  where
    less_or_past : (i n : ℕ) → (i ≤ n) ⊎ (n < i)
    less_or_past i n = grind arith

    l : length (starts size at xs) ≡ suc (length xs)
    l = starts_length size at xs

    one_less : (n : ℕ) → suc n - 1 ≡ n
    one_less n = omega arith

    by : (i ≤ length xs) ⊎ (length xs < i) → clamped (starts size at xs) i ≡ finish size at (take i xs)
    by (inl le) = clamped_inside (starts size at xs) i (subst (λ n. i < n) (sym l) (omega (arith, le))) ∙ starts_at size at xs i le
    by (inr lt) =
        clamped_past (starts size at xs) i (subst (λ n. n ≤ i) (sym l) (omega (arith, lt)))
        ∙ ap (λ n. get_or (starts size at xs) n 0) (ap (λ n. n - 1) l ∙ one_less (length xs))
        ∙ starts_at size at xs (length xs) (omega arith)
        ∙ ap (λ ys. finish size at ys) (take_all xs (length xs) (omega arith) ∙ sym (take_all xs i (omega (arith, lt))))

---- Lists of lists

pub at_inside : (xss : List (List ℕ)) (i j other : ℕ) → i < length xss → of_row xss i j other ≡ clamped (get_or xss i []) j
at_inside xss i j other lt = ap (λ (b : Bool). if b then clamped (get_or xss i []) j else other) (lt-ltb i (length xss) lt)

pub at_past : (xss : List (List ℕ)) (i j other : ℕ) → length xss ≤ i → of_row xss i j other ≡ other
at_past xss i j other le = ap (λ (b : Bool). if b then clamped (get_or xss i []) j else other) (not_less i (length xss) le)

pub take_nothing : {A : Type 0} (n : ℕ) → take {A = A} n [] ≡ []
take_nothing zero = refl
take_nothing (suc n) = refl

---- Steps of loops

pub starts_more : {A : Type 0} (size : A → ℕ) (xs : List A) (i : ℕ) (x : A) (at next : ℕ) (old new all : List ℕ) → i < length xs → x ≡ get_or xs i x → new ≡ old ++ at ∷ [] → next ≡ within (at + size x) → old ++ starts size at (drop i xs) ≡ all → new ++ starts size next (drop (i + 1) xs) ≡ all
starts_more size xs i x at next old new all lt is more there before =
    let e : drop i xs ≡ x ∷ drop (i + 1) xs = drop_more xs i x lt ∙ ap (λ y. y ∷ drop (i + 1) xs) (sym is) in
    ap₂ (λ l n. l ++ starts size n (drop (i + 1) xs)) more there
    ∙ append_assoc old (at ∷ []) (starts size (within (at + size x)) (drop (i + 1) xs))
    ∙ sym (ap (λ ys. old ++ starts size at ys) e)
    ∙ before

pub starts_end : {A : Type 0} (size : A → ℕ) (xs : List A) (i at : ℕ) (old new all : List ℕ) → length xs ≤ i → new ≡ old ++ at ∷ [] → old ++ starts size at (drop i xs) ≡ all → new ≡ all
starts_end size xs i at old new all le more before = more ∙ sym (ap (λ ys. old ++ starts size at ys) (drop_of_length-le xs le)) ∙ before

pub finish_more : {A : Type 0} (size : A → ℕ) (xs : List A) (i : ℕ) (x : A) (at next end : ℕ) → i < length xs → x ≡ get_or xs i x → next ≡ within (at + size x) → finish size at (drop i xs) ≡ end → finish size next (drop (i + 1) xs) ≡ end
finish_more size xs i x at next end lt is there before =
    let e : drop i xs ≡ x ∷ drop (i + 1) xs = drop_more xs i x lt ∙ ap (λ y. y ∷ drop (i + 1) xs) (sym is) in
    ap (λ n. finish size n (drop (i + 1) xs)) there ∙ sym (ap (λ ys. finish size at ys) e) ∙ before

pub finish_end : {A : Type 0} (size : A → ℕ) (xs : List A) (i at end : ℕ) → length xs ≤ i → finish size at (drop i xs) ≡ end → at ≡ end
finish_end size xs i at end le before = sym (ap (λ ys. finish size at ys) (drop_of_length-le xs le)) ∙ before

-- the same over fields

pub fields_more : (extent : ℕ → Extent) (fs : List Field) (i : ℕ) (f : Field) (at place next : ℕ) (old new all : List ℕ) → i < length fs → f ≡ get_or fs i f → place ≡ begins (extent f.type_number) at → new ≡ old ++ place ∷ [] → next ≡ within (place + (extent f.type_number).bytes)
    → old ++ field_starts extent at (types_of (drop i fs)) ≡ all → new ++ field_starts extent next (types_of (drop (i + 1) fs)) ≡ all
fields_more extent fs i f at place next old new all lt is stands more there before =
    let e : drop i fs ≡ f ∷ drop (i + 1) fs = drop_more fs i f lt ∙ ap (λ y. y ∷ drop (i + 1) fs) (sym is) in
    ap₂ (λ l n. l ++ field_starts extent n (types_of (drop (i + 1) fs))) (more ∙ ap (λ n. old ++ n ∷ []) stands) (there ∙ ap (λ n. within (n + (extent f.type_number).bytes)) stands)
    ∙ append_assoc old (begins (extent f.type_number) at ∷ []) (field_starts extent (within (begins (extent f.type_number) at + (extent f.type_number).bytes)) (types_of (drop (i + 1) fs)))
    ∙ sym (ap (λ ys. old ++ field_starts extent at (types_of ys)) e)
    ∙ before

pub fields_end : (extent : ℕ → Extent) (fs : List Field) (i at place : ℕ) (old new all : List ℕ) → length fs ≤ i → place ≡ begins (extent 0) at → new ≡ old ++ place ∷ [] → old ++ field_starts extent at (types_of (drop i fs)) ≡ all → new ≡ all
fields_end extent fs i at place old new all le stands more before =
    more ∙ ap (λ n. old ++ n ∷ []) stands ∙ sym (ap (λ ys. old ++ field_starts extent at (types_of ys)) (drop_of_length-le fs le)) ∙ before

-- the same over modules

pub modules_more : (size : ℕ → ℕ) (ms : List Module) (i : ℕ) (m : Module) (at next : ℕ) (row : List ℕ) (old new all : List (List ℕ)) → i < length ms → m ≡ get_or ms i m → row ≡ starts size at m.variables → new ≡ old ++ row ∷ [] → next ≡ finish size at m.variables → old ++ module_starts size at (drop i ms) ≡ all → new ++ module_starts size next (drop (i + 1) ms) ≡ all
modules_more size ms i m at next row old new all lt is one more there before =
    let e : drop i ms ≡ m ∷ drop (i + 1) ms = drop_more ms i m lt ∙ ap (λ y. y ∷ drop (i + 1) ms) (sym is) in
    ap₂ (λ l n. l ++ module_starts size n (drop (i + 1) ms)) (more ∙ ap (λ r. old ++ r ∷ []) one) there
    ∙ append_assoc old (starts size at m.variables ∷ []) (module_starts size (finish size at m.variables) (drop (i + 1) ms))
    ∙ sym (ap (λ ys. old ++ module_starts size at ys) e)
    ∙ before

pub modules_all : (size : ℕ → ℕ) (ms : List Module) (i at : ℕ) (list all : List (List ℕ)) → length ms ≤ i → list ++ module_starts size at (drop i ms) ≡ all → list ≡ all
modules_all size ms i at list all le before = sym (append_none list) ∙ sym (ap (λ ys. list ++ module_starts size at ys) (drop_of_length-le ms le)) ∙ before
  where
    append_none : (xs : List (List ℕ)) → xs ++ [] ≡ xs
    append_none [] = refl
    append_none (x ∷ xs) = ap (λ ys. x ∷ ys) (append_none xs)

pub module_more : (size : ℕ → ℕ) (ms : List Module) (i : ℕ) (m : Module) (at next end : ℕ) → i < length ms → m ≡ get_or ms i m → next ≡ finish size at m.variables → module_finish size at (drop i ms) ≡ end → module_finish size next (drop (i + 1) ms) ≡ end
module_more size ms i m at next end lt is there before =
    let e : drop i ms ≡ m ∷ drop (i + 1) ms = drop_more ms i m lt ∙ ap (λ y. y ∷ drop (i + 1) ms) (sym is) in
    ap (λ n. module_finish size n (drop (i + 1) ms)) there ∙ sym (ap (λ ys. module_finish size at ys) e) ∙ before

pub module_end : (size : ℕ → ℕ) (ms : List Module) (i at end : ℕ) → length ms ≤ i → module_finish size at (drop i ms) ≡ end → at ≡ end
module_end size ms i at end le before = sym (ap (λ ys. module_finish size at ys) (drop_of_length-le ms le)) ∙ before

---- Modules

pub module_finish_is : (size : ℕ → ℕ) (at : ℕ) (ms : List Module) → at ≤ 16777215 → module_finish size at ms ≡ within (at + sum_by (λ m. sum_by size m.variables) ms)
module_finish_is size at [] le = omega (arith, le)
module_finish_is size at (m ∷ ms) le =
    let one = finish_is size at m.variables le in
    module_finish_is size (finish size at m.variables) ms (subst (λ n. n ≤ 16777215) (sym one) (within_less (at + sum_by size m.variables)))
    ∙ ap (λ n. within (n + sum_by (λ m. sum_by size m.variables) ms)) one
    ∙ within_on at (sum_by size m.variables) (sum_by (λ m. sum_by size m.variables) ms)
    ∙ ap (λ n. within (at + n)) (sym (sum_by-cons (λ m. sum_by size m.variables) m ms))

pub module_starts_length : (size : ℕ → ℕ) (at : ℕ) (ms : List Module) → length (module_starts size at ms) ≡ length ms
module_starts_length size at [] = refl
module_starts_length size at (m ∷ ms) = ap suc (module_starts_length size (finish size at m.variables) ms)

pub module_starts_at : (size : ℕ → ℕ) (at : ℕ) (ms : List Module) (i : ℕ) (d : Module) → i < length ms → get_or (module_starts size at ms) i [] ≡ starts size (module_finish size at (take i ms)) (get_or ms i d).variables
module_starts_at size at [] i d lt = absurd (omega (arith, lt))
module_starts_at size at (m ∷ ms) zero d lt = refl
module_starts_at size at (m ∷ ms) (suc i) d lt = module_starts_at size (finish size at m.variables) ms i d (omega (arith, lt))
