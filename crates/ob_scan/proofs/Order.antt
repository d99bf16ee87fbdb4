-- The symbols of a text lie in order, and each spells its kind.
use Rattle.std.proofs.Common.{◌≡◌, ℕ, ◌+◌, ◌-◌, ◌<◌, ◌≤◌, List, [], ◌∷◌, ◌++◌, length, take, drop, slice_range, refl, sym, ap, ◌∙◌, subst, arith, append_assoc, length-append}
use Rattle.ob_symbol.specs.declared.symbol.Symbol.{Symbol}
use Rattle.ob_scan.specs.Words.{WordForm, form_of, IsWithin}
use Rattle.ob_scan.specs.Scans.{Longest, Scans, End, ends, reads, bad_byte, open_comment, open_string, too_large, too_long, InOrder, none, next, AllSpell, none_spelled, spelled}

not_empty : (u r : List ℕ) (k : WordForm) → Longest u r k → 0 < length u
not_empty [] r k w = absurd (let p = w.is in cc)
not_empty (c ∷ u) r k w = omega arith

far_end : (i : ℕ) (gap word rest : List ℕ) → (i + length gap + length word) + length rest ≡ i + length (gap ++ (word ++ rest))
far_end i gap word rest = let a = length-append gap (word ++ rest) in let b = length-append word rest in omega arith

pub in_order : {i : ℕ} {w : List ℕ} {a : List Symbol} {e : End} → Scans i w a e → InOrder i a (i + length w)
in_order (ends g) = none (omega arith)
in_order (reads {i = i} {gap = x} {word = u} {rest = r} {form = k} {more = more} g c w h s) =
    let size = not_empty u r k w in
    next (omega arith) (omega arith) (subst (λ n. InOrder (i + length x + length u) more n) (far_end i x u r) (in_order s))
in_order (bad_byte g c n) = none (omega arith)
in_order (open_comment g c) = none (omega arith)
in_order (open_string g o) = none (omega arith)
in_order (too_large g c w l) = none (omega arith)
in_order (too_long g c w l) = none (omega arith)

pub few : {low high : ℕ} {a : List Symbol} → InOrder low a high → low + length a ≤ high
few (none h) = omega arith
few (next {s = s} {more = more} h g k) = let m = few k in omega arith

-- what stands between two texts
take_front : (x y : List ℕ) → take (length x) (x ++ y) ≡ x
take_front [] y = refl
take_front (a ∷ x) y = ap (λ z. a ∷ z) (take_front x y)

drop_front : (x y : List ℕ) → drop (length x) (x ++ y) ≡ y
drop_front [] y = refl
drop_front (a ∷ x) y = drop_front x y

range_between : (x u r : List ℕ) (from to : ℕ) → from ≡ length x → to ≡ from + length u → slice_range (x ++ (u ++ r)) from to ≡ u
range_between x u r from to e h =
    let size : to - from ≡ length u = omega arith in
    (ap (λ n. take n (drop from (x ++ (u ++ r)))) size ∙ ap (take (length u)) (ap (λ n. drop n (x ++ (u ++ r))) e ∙ drop_front x (u ++ r))) ∙ take_front u r

pub spells : {i : ℕ} {w : List ℕ} {a : List Symbol} {e : End} → Scans i w a e → (p : List ℕ) → i ≡ length p → AllSpell (p ++ w) a
spells (ends g) p q = none_spelled
spells (reads {i = i} {gap = x} {word = u} {rest = r} {form = k} {more = more} g c w h s) p q =
    let whole : p ++ (x ++ (u ++ r)) ≡ (p ++ x) ++ (u ++ r) = sym (append_assoc p x (u ++ r)) in
    let after : (p ++ x) ++ (u ++ r) ≡ ((p ++ x) ++ u) ++ r = sym (append_assoc (p ++ x) u r) in
    let from : i + length x ≡ length (p ++ x) = (let a = length-append p x in omega arith) in
    let to : i + length x + length u ≡ length ((p ++ x) ++ u) = (let a = length-append (p ++ x) u in omega arith) in
    let word : slice_range (p ++ (x ++ (u ++ r))) (i + length x) (i + length x + length u) ≡ u = ap (λ z. slice_range z (i + length x) (i + length x + length u)) whole ∙ range_between (p ++ x) u r (i + length x) (i + length x + length u) from refl in
    spelled (record { form = k; is = ap form_of word ∙ w.is; kind = refl; within = subst (IsWithin k) (sym word) h })
    (subst (λ z. AllSpell z more) (sym (whole ∙ after)) (spells s ((p ++ x) ++ u) to))
spells (bad_byte g c n) p q = none_spelled
spells (open_comment g c) p q = none_spelled
spells (open_string g o) p q = none_spelled
spells (too_large g c w l) p q = none_spelled
spells (too_long g c w l) p q = none_spelled
