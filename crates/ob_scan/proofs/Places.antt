-- The places of the bytes: what stands there, and what is skipped from one place to another.
use Rattle.std.proofs.Common.{◌≡◌, ℕ, zero, suc, ◌+◌, ◌-◌, ◌<◌, ◌≤◌, List, [], ◌∷◌, ◌++◌, Bool, true, false, cond, nat_eq, ◌&&◌, Some, None, length, drop, get_or, refl, sym, ap, ◌∙◌, subst, arith, append_assoc}
use Rattle.ob_scan.specs.Words.{is_all, is_blank, closes, is_two, begins_with}
use Rattle.ob_scan.specs.Steps.{Skipped, Past, Passing, two_at, close}
use Rattle.ob_scan.proofs.Gaps.{skip_blank, skip_comment, gap_at, gap_before}

pub at_one : (w : List ℕ) (i a : ℕ) (v : List ℕ) → drop i w ≡ a ∷ v → (drop (suc i) w ≡ v) × (suc i ≤ length w)
at_one [] zero a v h = cc
at_one [] (suc i) a v h = cc
at_one (x ∷ w) zero a v h = (cc, omega arith)
at_one (x ∷ w) (suc i) a v h = let k = at_one w i a v h in (k.0, (let z = k.1 in omega arith))

pub after_one : (w : List ℕ) (i a : ℕ) (v : List ℕ) → drop i w ≡ a ∷ v → (drop (i + 1) w ≡ v) × (i + 1 ≤ length w)
after_one w i a v h =
    let e : i + 1 ≡ suc i = omega arith in
    let k = at_one w i a v h in
    (ap (λ j. drop j w) e ∙ k.0, (let z = k.1 in omega arith))

pub after_two : (w : List ℕ) (i a b : ℕ) (v : List ℕ) → drop i w ≡ a ∷ b ∷ v → (drop (i + 2) w ≡ v) × (i + 2 ≤ length w)
after_two w i a b v h =
    let e : i + 2 ≡ suc (suc i) = omega arith in
    let k = at_one w i a (b ∷ v) h in
    let m = at_one w (suc i) b v k.0 in
    (ap (λ j. drop j w) e ∙ m.0, (let z = m.1 in omega arith))

pub here : (w : List ℕ) (i : ℕ) → i < length w → drop i w ≡ get_or w i 0 ∷ drop (suc i) w
here [] i h = absurd (omega arith)
here (x ∷ w) zero h = refl
here (x ∷ w) (suc i) h = here w i (omega arith)

eq_of : (x a : ℕ) (c : Bool) → true ≡ nat_eq x a && c → (x ≡ a) × (true ≡ c)
eq_of x a c h = elim (nat_eq x a) as (λ b. (b ≡ true → x ≡ a) → true ≡ b && c → (x ≡ a) × (true ≡ c)) [ true ↦ λ f e. (f refl, e) | false ↦ λ f e. cc ] (λ e. grind arith) h

pub eq_at : (x a : ℕ) → true ≡ nat_eq x a → x ≡ a
eq_at x a h = grind arith

pub two_there : (a b : ℕ) (w : List ℕ) → true ≡ is_two a b w → (v : List ℕ) × (w ≡ a ∷ b ∷ v)
two_there a b [] h = cc
two_there a b (x ∷ []) h = cc
two_there a b (x ∷ y ∷ w) h =
    let k = eq_of x a (nat_eq y b) h in
    let p = k.0 in
    let q = eq_at y b k.1 in
    (w, cc)

pub one_there : (a : ℕ) (v : List ℕ) → true ≡ begins_with a v → (u : List ℕ) × (v ≡ a ∷ u)
one_there a [] h = cc
one_there a (x ∷ v) h = let q = eq_at x a h in (v, ap (λ z. z ∷ v) q)

pub byte_there : (w : List ℕ) (i a : ℕ) → true ≡ begins_with a (drop i w) → (drop i w ≡ a ∷ drop (i + 1) w) × (i + 1 ≤ length w)
byte_there w i a h =
    let k = one_there a (drop i w) h in
    let m = after_one w i a k.0 k.1 in
    (k.1 ∙ ap (λ z. a ∷ z) (sym m.0), m.1)

-- two bytes, one behind the other

equal_to : (a : ℕ) → true ≡ nat_eq a a
equal_to a = grind arith

second_of : (a b : ℕ) (v : List ℕ) → begins_with b v ≡ is_two a b (a ∷ v)
second_of a b [] = refl
second_of a b (y ∷ v) = ap (λ c. c && nat_eq y b) (equal_to a)

pub two_by : (a b : ℕ) (w : List ℕ) (i : ℕ) → true ≡ begins_with a (drop i w) → begins_with b (drop (i + 1) w) ≡ is_two a b (drop i w)
two_by a b w i h = let k = byte_there w i a h in second_of a b (drop (i + 1) w) ∙ ap (is_two a b) (sym k.0)

pub no_first : (a b : ℕ) (v : List ℕ) → false ≡ begins_with a v → false ≡ is_two a b v
no_first a b [] h = refl
no_first a b (x ∷ []) h = refl
no_first a b (x ∷ y ∷ v) h = ap (λ c. c && nat_eq y b) h

-- comments

pub comment_opens : (w : List ℕ) (n i : ℕ) → true ≡ is_two 40 42 (drop i w) → (close (n + 1) (drop (i + 2) w) ≡ close n (drop i w)) × (i + 2 ≤ length w)
comment_opens w n i h =
    let k = two_there 40 42 (drop i w) h in
    let m = after_two w i 40 42 k.0 k.1 in
    let e : n + 1 ≡ suc n = omega arith in
    ((ap (λ j. close j (drop (i + 2) w)) e ∙ ap (close (suc n)) m.0) ∙ (opened n k.0 ∙ ap (close n) (sym k.1)), m.1)
  where
    opened : (n : ℕ) (v : List ℕ) → close (suc n) v ≡ close n (40 ∷ 42 ∷ v)
    opened zero v = refl
    opened (suc n) v = refl

pub comment_closes : (w : List ℕ) (n i : ℕ) → 0 < n → true ≡ is_two 42 41 (drop i w) → (close (n - 1) (drop (i + 2) w) ≡ close n (drop i w)) × (i + 2 ≤ length w)
comment_closes w zero i p h = absurd (omega arith)
comment_closes w (suc n) i p h =
    let k = two_there 42 41 (drop i w) h in
    let m = after_two w i 42 41 k.0 k.1 in
    let e : suc n - 1 ≡ n = omega arith in
    ((ap (λ j. close j (drop (i + 2) w)) e ∙ ap (close n) m.0) ∙ ap (close (suc n)) (sym k.1), m.1)

pub comment_ends : (w : List ℕ) (i : ℕ) → true ≡ is_two 42 41 (drop i w) → (close zero (drop i w) ≡ Some (drop (i + 2) w)) × (i + 2 ≤ length w)
comment_ends w i h =
    let k = two_there 42 41 (drop i w) h in
    let m = after_two w i 42 41 k.0 k.1 in
    (ap (close zero) k.1 ∙ ap Some (sym m.0), m.1)

close_over : (n a : ℕ) (v : List ℕ) → false ≡ is_two 40 42 (a ∷ v) → false ≡ is_two 42 41 (a ∷ v) → close n v ≡ close n (a ∷ v)
close_over zero a [] h e = refl
close_over (suc n) a [] h e = refl
close_over zero a (b ∷ v) h e = sym (ap (λ c. cond c (close (suc zero) v) (cond (closes a b) (Some v) (close zero (b ∷ v)))) (sym h) ∙ ap (λ c. cond c (Some v) (close zero (b ∷ v))) (sym e))
close_over (suc n) a (b ∷ v) h e = sym (ap (λ c. cond c (close (suc (suc n)) v) (cond (closes a b) (close n v) (close (suc n) (b ∷ v)))) (sym h) ∙ ap (λ c. cond c (close n v) (close (suc n) (b ∷ v))) (sym e))

pub comment_goes_on : (w : List ℕ) (n i : ℕ) → i < length w → false ≡ is_two 40 42 (drop i w) → false ≡ is_two 42 41 (drop i w) → close n (drop (i + 1) w) ≡ close n (drop i w)
comment_goes_on w n i lt h e =
    let k = here w i lt in
    let m = after_one w i (get_or w i 0) (drop (suc i) w) k in
    ap (close n) m.0 ∙ (close_over n (get_or w i 0) (drop (suc i) w) (h ∙ ap (is_two 40 42) k) (e ∙ ap (is_two 42 41) k) ∙ ap (close n) (sym k))

-- blanks

low_blank : (a : ℕ) → a ≤ 32 → is_blank a ≡ true
low_blank a h = grind arith

high_blank : (a : ℕ) → 32 < a → is_blank a ≡ false
high_blank a h = grind arith

pub skips_blank : (u w : List ℕ) (i : ℕ) → i < length w → get_or w i 0 ≤ 32 → Skipped u (drop i w) → Skipped u (drop (i + 1) w)
skips_blank u w i lt h s =
    let k = here w i lt in
    let m = after_one w i (get_or w i 0) (drop (suc i) w) k in
    subst (Skipped u) (sym m.0) (skip_blank u (drop (suc i) w) (get_or w i 0) (subst (Skipped u) k s) (low_blank _ h))

pub skips_comment : (u w : List ℕ) (i j : ℕ) → true ≡ is_two 40 42 (drop i w) → close zero (drop (i + 2) w) ≡ Some (drop j w) → Skipped u (drop i w) → Skipped u (drop j w)
skips_comment u w i j h e s =
    let k = two_there 40 42 (drop i w) h in
    let m = after_two w i 40 42 k.0 k.1 in
    skip_comment u k.0 (drop j w) 40 42 (subst (Skipped u) k.1 s) refl (ap (close zero) (sym m.0) ∙ e)

pub past_open : (u w : List ℕ) (i : ℕ) → true ≡ is_two 40 42 (drop i w) → close zero (drop (i + 2) w) ≡ None → Skipped u (drop i w) → Past u (drop i w)
past_open u w i h e s =
    let k = two_there 40 42 (drop i w) h in
    let m = after_two w i 40 42 k.0 k.1 in
    let s' = subst (Skipped u) k.1 s in
    subst (Past u) (sym k.1) (record { gap = s'.front; split = s'.split; is = gap_before u k.0 40 42 s' refl (ap (close zero) (sym m.0) ∙ e) })

pub past_byte : (u w : List ℕ) (i : ℕ) → i < length w → 32 < get_or w i 0 → false ≡ is_two 40 42 (drop i w) → Skipped u (drop i w) → Past u (drop i w)
past_byte u w i lt h e s =
    let k = here w i lt in
    record { gap = s.front; split = s.split; is = gap_at u (drop i w) s (λ a y q. (let same : get_or w i 0 ≡ a = cc in subst (λ z. is_blank z ≡ false) same (high_blank _ h))) (sym e) }

pub past_end : (u : List ℕ) → Skipped u [] → Past u []
past_end u s = record { gap = s.front; split = s.split; is = gap_at u [] s (λ a y q. cc) refl }

pub nothing_left : (w : List ℕ) (i : ℕ) → length w ≤ i → drop i w ≡ []
nothing_left [] zero h = refl
nothing_left [] (suc i) h = refl
nothing_left (x ∷ w) zero h = absurd (omega arith)
nothing_left (x ∷ w) (suc i) h = nothing_left w i (omega arith)

-- bytes of a class

all_more : (p : ℕ → Bool) (s : List ℕ) (x : ℕ) → is_all p s ≡ true → p x ≡ true → is_all p (s ++ (x ∷ [])) ≡ true
all_more p [] x h e = ap (λ b. cond b true false) e
all_more p (y ∷ s) x h e = elim (p y) as (λ b. cond b (is_all p s) false ≡ true → cond b (is_all p (s ++ (x ∷ []))) false ≡ true) [ true ↦ λ k. all_more p s x k e | false ↦ λ k. k ] h

pub passes : (p : ℕ → Bool) (u w : List ℕ) (i : ℕ) → i < length w → p (get_or w i 0) ≡ true → Passing p u (drop i w) → Passing p u (drop (i + 1) w)
passes p u w i lt h s =
    let k = here w i lt in
    let m = after_one w i (get_or w i 0) (drop (suc i) w) k in
    record {
      front = s.front ++ (get_or w i 0 ∷ []);
      split = s.split ∙ (ap (λ z. s.front ++ z) (k ∙ ap (λ z. get_or w i 0 ∷ z) (sym m.0)) ∙ sym (append_assoc s.front (get_or w i 0 ∷ []) (drop (i + 1) w)));
      all = all_more p s.front (get_or w i 0) s.all h;
    }

pub no_two : (w : List ℕ) (i : ℕ) → i ≤ length w → length w - i < 2 → None ≡ two_at (drop i w)
no_two [] zero h l = refl
no_two [] (suc i) h l = refl
no_two (x ∷ []) zero h l = refl
no_two (x ∷ y ∷ w) zero h l = absurd (omega arith)
no_two (x ∷ w) (suc i) h l = no_two w i (omega arith) (omega arith)
