-- What overlaps ranges that lie apart.
use Rattle.std.proofs.Common.{◌≡◌, ℤ, List, [], ◌∷◌, ◌++◌, Bool, true, false, not, ◌&&◌, ◌||◌, Option, Some, None, refl, sym, ap, ap₂, ◌∙◌, subst, arith}
use Rattle.std.specs.Prelude.{int_le, int_lt, if◌then◌else◌}
use Rattle.std.specs.List.{filter}
use Rattle.std.specs.Ordering.{int_cmp, is_lt, match_ordering}
use Rattle.std.specs.declared.cmp.Ordering.{Ordering}
use Rattle.std.specs.declared.cmp.Ordering.TheVariants.{Less, Equal, Greater}
use Rattle.std.specs.BTreeMap.{insert_entry}
use Rattle.std.proofs.lemmas.Int.{ints}
use Rattle.ob_judge.specs.Cases.{overlaps}
use Rattle.check_statements.specs.ranges.Ranges.{AreBehind, AreApart, AreRanges, later, end_within, last_within}

no : {A : Type 0} → false ≡ true → A
no h = absurd (let k : false ≡ true = h in cc)

-- ---- comparisons

le_trans : (a b c : ℤ) → int_le a b ≡ true → int_le b c ≡ true → int_le a c ≡ true
le_trans a b c h k = grind (arith, ints)

lt_le : (a b : ℤ) → int_lt a b ≡ true → int_le a b ≡ true
lt_le a b h = grind (arith, ints)

lt_le_trans : (a b c : ℤ) → int_lt a b ≡ true → int_le b c ≡ true → int_lt a c ≡ true
lt_le_trans a b c h k = grind (arith, ints)

le_lt_trans : (a b c : ℤ) → int_le a b ≡ true → int_lt b c ≡ true → int_lt a c ≡ true
le_lt_trans a b c h k = grind (arith, ints)

not_le : (a b : ℤ) → int_lt a b ≡ true → int_le b a ≡ false
not_le a b h = grind (arith, ints)

no_less : (a b : ℤ) → int_le b a ≡ false → int_lt a b ≡ true
no_less a b h = grind (arith, ints)

by_cmp : (a b : ℤ) → (true && not (is_lt (int_cmp a b))) ≡ int_le b a
by_cmp a b = grind (arith, ints)

-- ---- the last range that begins at a number or before

abbrev pub is_within : ℤ → ℤ × ℤ → Bool
is_within high e = true && not (is_lt (int_cmp high e.0))

later_some : (o : Option ℤ) (n : ℤ) → later (Some n) o ≡ Some n
later_some o n = refl

later_none : (o : Option ℤ) → later o None ≡ o
later_none None = refl
later_none (Some n) = refl

later_later : (a b c : Option ℤ) → later (later a b) c ≡ later a (later b c)
later_later None b c = refl
later_later (Some n) b c = refl

none_within_by : (high : ℤ) (e : ℤ × ℤ) (es : List (ℤ × ℤ)) → (filter (is_within high) es ≡ [] → last_within high es ≡ None) → (b : Bool) → b ≡ int_le e.0 high →
    (if b then e ∷ filter (is_within high) es else filter (is_within high) es) ≡ [] → later (last_within high es) (end_within high e) ≡ None
none_within_by high e es rest true i k = absurd (let z = k in cc)
none_within_by high e es rest false i k = ap₂ later (rest k) (ap (λ t. if t then Some e.1 else None) (sym i))

pub none_is : (high : ℤ) (es : List (ℤ × ℤ)) → filter (is_within high) es ≡ [] → last_within high es ≡ None
none_is high [] h = refl
none_is high (e ∷ es) h = none_within_by high e es (none_is high es) (is_within high e) (by_cmp high e.0) h

last_end_by : (high : ℤ) (e : ℤ × ℤ) (es : List (ℤ × ℤ)) → last_within high (filter (is_within high) es) ≡ last_within high es → (b : Bool) → b ≡ int_le e.0 high →
    last_within high (if b then e ∷ filter (is_within high) es else filter (is_within high) es) ≡ later (last_within high es) (end_within high e)
last_end_by high e es rest true i = ap (λ o. later o (end_within high e)) rest
last_end_by high e es rest false i = rest ∙ sym (later_none (last_within high es)) ∙ ap (λ t. later (last_within high es) (if t then Some e.1 else None)) i

last_end : (high : ℤ) (es : List (ℤ × ℤ)) → last_within high (filter (is_within high) es) ≡ last_within high es
last_end high [] = refl
last_end high (e ∷ es) = last_end_by high e es (last_end high es) (is_within high e) (by_cmp high e.0)

of_last : (high : ℤ) (xs : List (ℤ × ℤ)) (e : ℤ × ℤ) → int_le e.0 high ≡ true → last_within high (xs ++ e ∷ []) ≡ Some e.1
of_last high [] e h = ap (λ t. if t then Some e.1 else None) h
of_last high (x ∷ xs) e h = ap (λ o. later o (end_within high x)) (of_last high xs e h)

all_within_by : (high : ℤ) (y : ℤ × ℤ) (es : List (ℤ × ℤ)) (e : ℤ × ℤ) → ((xs : List (ℤ × ℤ)) → filter (is_within high) es ≡ xs ++ e ∷ [] → int_le e.0 high ≡ true) → (b : Bool) → b ≡ int_le y.0 high →
    (xs : List (ℤ × ℤ)) → (if b then y ∷ filter (is_within high) es else filter (is_within high) es) ≡ xs ++ e ∷ [] → int_le e.0 high ≡ true
all_within_by high y es e rest true i [] k = let z : y ≡ e = cc in subst (λ u. int_le u.0 high ≡ true) z (sym i)
all_within_by high y es e rest true i (x ∷ xs) k = let z : filter (is_within high) es ≡ xs ++ e ∷ [] = cc in rest xs z
all_within_by high y es e rest false i xs k = rest xs k

all_within : (high : ℤ) (es xs : List (ℤ × ℤ)) (e : ℤ × ℤ) → filter (is_within high) es ≡ xs ++ e ∷ [] → int_le e.0 high ≡ true
all_within high [] [] e h = absurd (let z = h in cc)
all_within high [] (x ∷ xs) e h = absurd (let z = h in cc)
all_within high (y ∷ es) xs e h = all_within_by high y es e (λ xs. all_within high es xs e) (is_within high y) (by_cmp high y.0) xs h

pub last_is : (high : ℤ) (es xs : List (ℤ × ℤ)) (e : ℤ × ℤ) → filter (is_within high) es ≡ xs ++ e ∷ [] → last_within high es ≡ Some e.1
last_is high es xs e h = sym (last_end high es) ∙ ap (last_within high) h ∙ of_last high xs e (all_within high es xs e h)

-- ---- what overlaps them

abbrev pub goes_up_to : ℤ → Option ℤ → Bool
goes_up_to low None = false
goes_up_to low (Some end) = int_le low end

-- nothing beyond the end
beyond : (low high n : ℤ) (es : List (ℤ × ℤ)) → AreBehind n es → int_le high n ≡ true → overlaps low high es ≡ false
beyond low high n [] a h = refl
beyond low high n (e ∷ es) a h = ap₂ (λ b c. b && int_le low e.1 || c) (not_le high e.0 (le_lt_trans high n e.0 h a.0)) (beyond low high n es a.1 h)

nothing_within : (high n : ℤ) (es : List (ℤ × ℤ)) → AreBehind n es → int_le high n ≡ true → last_within high es ≡ None
nothing_within high n [] a h = refl
nothing_within high n (e ∷ es) a h = ap₂ (λ o b. later o (if b then Some e.1 else None)) (nothing_within high n es a.1 h) (not_le high e.0 (le_lt_trans high n e.0 h a.0))

-- the end of the last one within is behind the end of any before
ends_behind : (high n : ℤ) (es : List (ℤ × ℤ)) → AreApart es → AreBehind n es → (end : ℤ) → last_within high es ≡ Some end → int_lt n end ≡ true
ends_behind high n [] a b end h = absurd (let z = h in cc)
ends_behind high n (e ∷ es) a b end h = by (last_within high es) (ends_behind high n es a.2 b.1) (int_le e.0 high) h
  where
    by : (o : Option ℤ) → ((end : ℤ) → o ≡ Some end → int_lt n end ≡ true) → (t : Bool) → later o (if t then Some e.1 else None) ≡ Some end → int_lt n end ≡ true
    by (Some m) rest t k = rest end k
    by None rest true k = let z : e.1 ≡ end = cc in subst (λ u. int_lt n u ≡ true) z (lt_le_trans n e.0 e.1 b.0 a.0)
    by None rest false k = absurd (let z = k in cc)

-- what begins within is what the last one within reaches
overlaps_by : (low high : ℤ) (e : ℤ × ℤ) (es : List (ℤ × ℤ)) → AreApart (e ∷ es) → (o : Option ℤ) → overlaps low high es ≡ goes_up_to low o → ((end : ℤ) → o ≡ Some end → int_lt e.1 end ≡ true) →
    (b : Bool) → int_le e.0 high ≡ b → (b ≡ false → o ≡ None) → (b && int_le low e.1 || overlaps low high es) ≡ goes_up_to low (later o (if b then Some e.1 else None))
overlaps_by low high e es a None rest behind true i none = ap (λ c. int_le low e.1 || c) rest ∙ or_false (int_le low e.1)
  where
    or_false : (b : Bool) → (b || false) ≡ b
    or_false true = refl
    or_false false = refl
overlaps_by low high e es a None rest behind false i none = rest
overlaps_by low high e es a (Some end) rest behind true i none = ap (λ c. int_le low e.1 || c) rest ∙ by (int_le low e.1) refl
  where
    by : (b : Bool) → int_le low e.1 ≡ b → (b || int_le low end) ≡ int_le low end
    by true k = sym (le_trans low e.1 end k (lt_le e.1 end (behind end refl)))
    by false k = refl
overlaps_by low high e es a (Some end) rest behind false i none = rest

pub overlaps_last : (low high : ℤ) (es : List (ℤ × ℤ)) → AreApart es → overlaps low high es ≡ goes_up_to low (last_within high es)
overlaps_last low high [] a = refl
overlaps_last low high (e ∷ es) a = overlaps_by low high e es a (last_within high es) (overlaps_last low high es a.2) (ends_behind high e.1 es a.2 a.1) (int_le e.0 high) refl (λ i. nothing_within high e.1 es a.1 (le_trans high e.0 e.1 (lt_le high e.0 (no_less high e.0 i)) a.0))

-- ---- one more range

-- no range begins where another does that it doesn't overlap
apart_keys : (low high : ℤ) (e : ℤ × ℤ) → int_le low high ≡ true → int_le e.0 e.1 ≡ true → (int_le e.0 high && int_le low e.1) ≡ false → int_cmp low e.0 ≡ Equal → ⊥
apart_keys low high e a b c d = let z : low ≡ e.0 = grind (arith, ints) in absurd (let w : (int_le low high && int_le low e.1) ≡ false = subst (λ n. (int_le n high && int_le low e.1) ≡ false) (sym z) c in let v : int_le low e.1 ≡ true = subst (λ n. int_le n e.1 ≡ true) (sym z) b in let u : true ≡ false = sym (ap₂ (λ x y. x && y) a v) ∙ w in cc)

or_swap : (a b c : Bool) → (a || (b || c)) ≡ (b || (a || c))
or_swap true true c = refl
or_swap true false c = refl
or_swap false true c = refl
or_swap false false c = refl

either : (a b : Bool) → (a || b) ≡ false → (a ≡ false) × (b ≡ false)
either true b h = absurd (let z = h in cc)
either false b h = (refl, h)

-- what overlaps a list with one more entry
inserted_overlaps : (low high : ℤ) (es : List (ℤ × ℤ)) → AreApart es → int_le low high ≡ true → overlaps low high es ≡ false → (a b : ℤ) →
    overlaps a b (insert_entry int_cmp es low high) ≡ (int_le low b && int_le a high || overlaps a b es)
inserted_overlaps low high [] p l h a b = refl
inserted_overlaps low high (e ∷ es) p l h a b =
    let q = either (int_le e.0 high && int_le low e.1) (overlaps low high es) h in
    by (int_cmp low e.0) refl (inserted_overlaps low high es p.2 l q.1 a b) (apart_keys low high e l p.0 q.0)
  where
    by : (o : Ordering) → int_cmp low e.0 ≡ o → overlaps a b (insert_entry int_cmp es low high) ≡ (int_le low b && int_le a high || overlaps a b es) → (int_cmp low e.0 ≡ Equal → ⊥) →
        overlaps a b (match_ordering o ((low, high) ∷ e ∷ es) ((e.0, high) ∷ es) (e ∷ insert_entry int_cmp es low high)) ≡ (int_le low b && int_le a high || (int_le e.0 b && int_le a e.1 || overlaps a b es))
    by Less i rest k = refl
    by Equal i rest k = absurd (k i)
    by Greater i rest k = ap (λ c. int_le e.0 b && int_le a e.1 || c) rest ∙ or_swap (int_le e.0 b && int_le a e.1) (int_le low b && int_le a high) (overlaps a b es)

behind_trans : (n m : ℤ) (es : List (ℤ × ℤ)) → int_le n m ≡ true → AreBehind m es → AreBehind n es
behind_trans n m [] h k = tt
behind_trans n m (e ∷ es) h k = (le_lt_trans n m e.0 h k.0, behind_trans n m es h k.1)

insert_behind : (n low high : ℤ) (es : List (ℤ × ℤ)) → int_lt n low ≡ true → AreBehind n es → AreBehind n (insert_entry int_cmp es low high)
insert_behind n low high [] h k = (h, tt)
insert_behind n low high (e ∷ es) h k = by (int_cmp low e.0) (insert_behind n low high es h k.1)
  where
    by : (o : Ordering) → AreBehind n (insert_entry int_cmp es low high) → AreBehind n (match_ordering o ((low, high) ∷ e ∷ es) ((e.0, high) ∷ es) (e ∷ insert_entry int_cmp es low high))
    by Less rest = (h, k)
    by Equal rest = (k.0, k.1)
    by Greater rest = (k.0, rest)

-- a range that begins before another, and doesn't overlap it, ends before
ends_before : (low high : ℤ) (e : ℤ × ℤ) → int_le e.0 e.1 ≡ true → (int_le e.0 high && int_le low e.1) ≡ false → int_cmp low e.0 ≡ Less → int_lt high e.0 ≡ true
ends_before low high e a b c = grind (arith, ints)

begins_after : (low high : ℤ) (e : ℤ × ℤ) → int_le low high ≡ true → (int_le e.0 high && int_le low e.1) ≡ false → int_cmp low e.0 ≡ Greater → int_lt e.1 low ≡ true
begins_after low high e a b c = grind (arith, ints)

inserted_apart : (low high : ℤ) (es : List (ℤ × ℤ)) → AreApart es → int_le low high ≡ true → overlaps low high es ≡ false → AreApart (insert_entry int_cmp es low high)
inserted_apart low high [] p l h = (l, tt, tt)
inserted_apart low high (e ∷ es) p l h =
    let q = either (int_le e.0 high && int_le low e.1) (overlaps low high es) h in
    by (int_cmp low e.0) refl (inserted_apart low high es p.2 l q.1) (apart_keys low high e l p.0 q.0) (ends_before low high e p.0 q.0) (begins_after low high e l q.0)
  where
    by : (o : Ordering) → int_cmp low e.0 ≡ o → AreApart (insert_entry int_cmp es low high) → (int_cmp low e.0 ≡ Equal → ⊥) → (int_cmp low e.0 ≡ Less → int_lt high e.0 ≡ true) → (int_cmp low e.0 ≡ Greater → int_lt e.1 low ≡ true) →
        AreApart (match_ordering o ((low, high) ∷ e ∷ es) ((e.0, high) ∷ es) (e ∷ insert_entry int_cmp es low high))
    by Less i rest k m n = (l, (m i, behind_trans high e.1 es (lt_le high e.1 (lt_le_trans high e.0 e.1 (m i) p.0)) p.1), p)
    by Equal i rest k m n = absurd (k i)
    by Greater i rest k m n = (p.0, insert_behind e.1 low high es (n i) p.1, rest)

pub inserted : (low high : ℤ) (es ts : List (ℤ × ℤ)) → AreRanges es ts → int_le low high ≡ true → overlaps low high ts ≡ false → AreRanges (insert_entry int_cmp es low high) ((low, high) ∷ ts)
inserted low high es ts r l h =
    let k = sym (r.same low high) ∙ h in
    record {
      apart = inserted_apart low high es r.apart l k;
      same = λ a b. ap (λ c. int_le low b && int_le a high || c) (r.same a b) ∙ sym (inserted_overlaps low high es r.apart l k a b);
    }
