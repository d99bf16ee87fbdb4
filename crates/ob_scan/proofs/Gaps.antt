-- Blanks and comments: what a reading byte by byte skips is the longest gap.
use Rattle.std.proofs.Common.{◌≡◌, ℕ, zero, suc, List, [], ◌∷◌, ◌++◌, Bool, true, false, cond, Option, Some, None, refl, sym, ap, ◌∙◌, subst, arith, append_assoc}
use Rattle.std.proofs.lemmas.List.{append-nil}
use Rattle.ob_scan.specs.Words.{is_blank, opens, closes, is_gap, begins_comment}
use Rattle.ob_scan.specs.Scans.{Gap}
use Rattle.ob_scan.specs.Steps.{Skipped, close}

-- r is what follows the comment that w is inside of, under n others
pub record Closed (n : ℕ) (w r : List ℕ) : Type 0 where
  pub front : List ℕ
  pub split : w ≡ front ++ r
  pub same : (x : List ℕ) → is_gap (suc n) (front ++ x) ≡ is_gap zero x

pub cond_true : {A : Type 0} (b : Bool) (x y : A) → b ≡ true → cond b x y ≡ x
cond_true b x y h = ap (λ c. cond c x y) h

pub cond_false : {A : Type 0} (b : Bool) (x y : A) → b ≡ false → cond b x y ≡ y
cond_false b x y h = ap (λ c. cond c x y) h

gap_opens : (n a b : ℕ) (x : List ℕ) → opens a b ≡ true → is_gap (suc n) (a ∷ b ∷ x) ≡ is_gap (suc (suc n)) x
gap_opens n a b x h = cond_true (opens a b) _ _ h

gap_closes : (n a b : ℕ) (x : List ℕ) → opens a b ≡ false → closes a b ≡ true → is_gap (suc n) (a ∷ b ∷ x) ≡ is_gap n x
gap_closes n a b x h e = cond_false (opens a b) _ _ h ∙ cond_true (closes a b) _ _ e

gap_goes_on : (n a b : ℕ) (x : List ℕ) → opens a b ≡ false → closes a b ≡ false → is_gap (suc n) (a ∷ b ∷ x) ≡ is_gap (suc n) (b ∷ x)
gap_goes_on n a b x h e = cond_false (opens a b) _ _ h ∙ cond_false (closes a b) _ _ e

closed_opens : (n a b : ℕ) (v r : List ℕ) → opens a b ≡ true → Closed (suc n) v r → Closed n (a ∷ b ∷ v) r
closed_opens n a b v r h k = record { front = a ∷ b ∷ k.front; split = ap (λ z. a ∷ b ∷ z) k.split; same = λ x. gap_opens n a b (k.front ++ x) h ∙ k.same x }

closed_goes_on : (n a b : ℕ) (v r f : List ℕ) → opens a b ≡ false → closes a b ≡ false → b ∷ v ≡ f ++ r → ((x : List ℕ) → is_gap (suc n) (f ++ x) ≡ is_gap zero x) → Closed n (a ∷ b ∷ v) r
closed_goes_on n a b v r [] h e s same = absurd (let k = same [] in cc)
closed_goes_on n a b v r (y ∷ f) h e s same = record {
  front = a ∷ y ∷ f;
  split = ap (λ z. a ∷ z) s;
  same = λ x. (let q : b ≡ y = cc in subst (λ z. is_gap (suc n) (a ∷ z ∷ (f ++ x)) ≡ is_gap (suc n) (z ∷ (f ++ x))) q (gap_goes_on n a b (f ++ x) h e)) ∙ same x;
}

close_step : (n a b : ℕ) (v r : List ℕ) (c d : Bool) → opens a b ≡ c → closes a b ≡ d → (o : Option (List ℕ)) →
    cond c (close (suc n) v) (cond d o (close n (b ∷ v))) ≡ Some r →
    (close (suc n) v ≡ Some r → Closed (suc n) v r) → (closes a b ≡ true → opens a b ≡ false → o ≡ Some r → Closed n (a ∷ b ∷ v) r) → (close n (b ∷ v) ≡ Some r → Closed n (b ∷ v) r) →
    Closed n (a ∷ b ∷ v) r
close_step n a b v r true d h e o k i1 i2 i3 = closed_opens n a b v r h (i1 k)
close_step n a b v r false true h e o k i1 i2 i3 = i2 e h k
close_step n a b v r false false h e o k i1 i2 i3 = let z = i3 k in closed_goes_on n a b v r z.front h e z.split z.same

closed_here : (a b : ℕ) (v r : List ℕ) → closes a b ≡ true → opens a b ≡ false → Some v ≡ Some r → Closed zero (a ∷ b ∷ v) r
closed_here a b v r e h k = let q : v ≡ r = cc in record { front = a ∷ b ∷ []; split = ap (λ z. a ∷ b ∷ z) q; same = λ x. gap_closes zero a b x h e }

closed_deeper : (n a b : ℕ) (v r : List ℕ) → closes a b ≡ true → opens a b ≡ false → Closed n v r → Closed (suc n) (a ∷ b ∷ v) r
closed_deeper n a b v r e h k = record { front = a ∷ b ∷ k.front; split = ap (λ z. a ∷ b ∷ z) k.split; same = λ x. gap_closes (suc n) a b (k.front ++ x) h e ∙ k.same x }

pub closed : (n : ℕ) (w r : List ℕ) → close n w ≡ Some r → Closed n w r
closed n [] r h = cc
closed n (a ∷ []) r h = cc
closed zero (a ∷ b ∷ v) r h = close_step zero a b v r (opens a b) (closes a b) refl refl (Some v) h (closed (suc zero) v r) (closed_here a b v r) (closed zero (b ∷ v) r)
closed (suc n) (a ∷ b ∷ v) r h = close_step (suc n) a b v r (opens a b) (closes a b) refl refl (close n v) h (closed (suc (suc n)) v r) (λ e k q. closed_deeper n a b v r e k (closed n v r q)) (closed (suc n) (b ∷ v) r)

-- no beginning of what isn't closed is a gap
open_step : (n a b : ℕ) (v u : List ℕ) (c d : Bool) → opens a b ≡ c → closes a b ≡ d → (o : Option (List ℕ)) →
    cond c (close (suc n) v) (cond d o (close n (b ∷ v))) ≡ None →
    (close (suc n) v ≡ None → is_gap (suc (suc n)) u ≡ false) → (o ≡ None → is_gap n u ≡ false) → (close n (b ∷ v) ≡ None → is_gap (suc n) (b ∷ u) ≡ false) →
    is_gap (suc n) (a ∷ b ∷ u) ≡ false
open_step n a b v u true d h e o k i1 i2 i3 = gap_opens n a b u h ∙ i1 k
open_step n a b v u false true h e o k i1 i2 i3 = gap_closes n a b u h e ∙ i2 k
open_step n a b v u false false h e o k i1 i2 i3 = gap_goes_on n a b u h e ∙ i3 k

still_open : (n : ℕ) (w u v : List ℕ) → close n w ≡ None → w ≡ u ++ v → is_gap (suc n) u ≡ false
still_open n w [] v h e = refl
still_open n w (x ∷ []) v h e = refl
still_open n [] (x ∷ y ∷ u) v h e = cc
still_open n (a ∷ []) (x ∷ y ∷ u) v h e = cc
still_open zero (a ∷ b ∷ w) (x ∷ y ∷ u) v h e =
    let p : a ≡ x = cc in
    let q : b ≡ y = cc in
    let t : w ≡ u ++ v = cc in
    subst (λ i. is_gap (suc zero) (i ∷ y ∷ u) ≡ false) p (subst (λ j. is_gap (suc zero) (a ∷ j ∷ u) ≡ false) q
    (open_step zero a b w u (opens a b) (closes a b) refl refl (Some w) h (λ k. still_open (suc zero) w u v k t) (λ k. cc) (λ k. still_open zero (b ∷ w) (b ∷ u) v k (ap (λ z. b ∷ z) t))))
still_open (suc n) (a ∷ b ∷ w) (x ∷ y ∷ u) v h e =
    let p : a ≡ x = cc in
    let q : b ≡ y = cc in
    let t : w ≡ u ++ v = cc in
    subst (λ i. is_gap (suc (suc n)) (i ∷ y ∷ u) ≡ false) p (subst (λ j. is_gap (suc (suc n)) (a ∷ j ∷ u) ≡ false) q
    (open_step (suc n) a b w u (opens a b) (closes a b) refl refl (close n w) h (λ k. still_open (suc (suc n)) w u v k t) (λ k. still_open n w u v k t) (λ k. still_open (suc n) (b ∷ w) (b ∷ u) v k (ap (λ z. b ∷ z) t))))

pub skip_none : (w : List ℕ) → Skipped w w
skip_none w = record { front = []; split = refl; same = λ x. refl }

opens_no_blank : (a b : ℕ) → opens a b ≡ true → is_blank a ≡ false
opens_no_blank a b h = grind arith

blank_opens : (a b : ℕ) → is_blank a ≡ true → opens a b ≡ false
blank_opens a b h = grind arith

gap_blank : (a : ℕ) (x : List ℕ) → is_blank a ≡ true → is_gap zero (a ∷ x) ≡ is_gap zero x
gap_blank a [] h = h
gap_blank a (b ∷ x) h = cond_false (opens a b) _ _ (blank_opens a b h) ∙ cond_true (is_blank a) _ _ h

pub skip_blank : (w r : List ℕ) (a : ℕ) → Skipped w (a ∷ r) → is_blank a ≡ true → Skipped w r
skip_blank w r a k h = record {
  front = k.front ++ a ∷ [];
  split = k.split ∙ sym (append_assoc k.front (a ∷ []) r);
  same = λ x. ap (is_gap zero) (append_assoc k.front (a ∷ []) x) ∙ (k.same (a ∷ x) ∙ gap_blank a x h);
}

pub skip_comment : (w v r : List ℕ) (a b : ℕ) → Skipped w (a ∷ b ∷ v) → opens a b ≡ true → close zero v ≡ Some r → Skipped w r
skip_comment w v r a b k h e =
    let c = closed zero v r e in
    record {
      front = k.front ++ (a ∷ b ∷ c.front);
      split = k.split ∙ (ap (λ z. k.front ++ (a ∷ b ∷ z)) c.split ∙ sym (append_assoc k.front (a ∷ b ∷ c.front) r));
      same = λ x. ap (is_gap zero) (append_assoc k.front (a ∷ b ∷ c.front) x) ∙ (k.same (a ∷ b ∷ (c.front ++ x)) ∙ (cond_true (opens a b) _ _ h ∙ c.same x));
    }

front_gap : (w r : List ℕ) (k : Skipped w r) → is_gap zero k.front ≡ true
front_gap w r k = ap (is_gap zero) (sym (append-nil k.front)) ∙ k.same []

no_gap : (a : ℕ) (u : List ℕ) → is_blank a ≡ false → begins_comment (a ∷ u) ≡ false → is_gap zero (a ∷ u) ≡ false
no_gap a [] h e = h
no_gap a (b ∷ u) h e = cond_false (opens a b) _ _ e ∙ cond_false (is_blank a) _ _ h

comment_front : (a : ℕ) (u v r : List ℕ) → r ≡ a ∷ (u ++ v) → begins_comment r ≡ false → begins_comment (a ∷ u) ≡ false
comment_front a [] v r e h = refl
comment_front a (b ∷ u) v r e h = sym (ap begins_comment e) ∙ h

-- the gap ends at a byte that is no blank and begins no comment
pub gap_at : (w r : List ℕ) (k : Skipped w r) → ((a : ℕ) (y : List ℕ) → r ≡ a ∷ y → is_blank a ≡ false) → begins_comment r ≡ false → Gap k.front r
gap_at w r k nb nc = record { is = front_gap w r k; longest = gap_longest w r k nb nc }
  where
    gap_longest : (w r : List ℕ) (k : Skipped w r) → ((a : ℕ) (y : List ℕ) → r ≡ a ∷ y → is_blank a ≡ false) → begins_comment r ≡ false → (u v : List ℕ) → r ≡ u ++ v → is_gap zero (k.front ++ u) ≡ true → u ≡ []
    gap_longest w r k nb nc [] v e h = refl
    gap_longest w r k nb nc (a ∷ u) v e h =
        let n = no_gap a u (nb a (u ++ v) e) (comment_front a u v r e nc) in
        let s = k.same (a ∷ u) in
        cc

-- or before a comment that isn't closed
pub gap_before : (w v : List ℕ) (a b : ℕ) (k : Skipped w (a ∷ b ∷ v)) → opens a b ≡ true → close zero v ≡ None → Gap k.front (a ∷ b ∷ v)
gap_before w v a b k h e = record { is = front_gap w _ k; longest = before_longest w v a b k h e }
  where
    before_longest : (w v : List ℕ) (a b : ℕ) (k : Skipped w (a ∷ b ∷ v)) → opens a b ≡ true → close zero v ≡ None → (u x : List ℕ) → a ∷ b ∷ v ≡ u ++ x → is_gap zero (k.front ++ u) ≡ true → u ≡ []
    before_longest w v a b k h e [] x q g = refl
    before_longest w v a b k h e (c ∷ []) x q g =
        let same : a ≡ c = cc in
        let s = k.same (c ∷ []) in
        let n : is_blank c ≡ false = subst (λ i. is_blank i ≡ false) same (opens_no_blank a b h) in
        cc
    before_longest w v a b k h e (c ∷ d ∷ u) x q g =
        let p1 : a ≡ c = cc in
        let p2 : b ≡ d = cc in
        let p3 : v ≡ u ++ x = cc in
        let s = k.same (c ∷ d ∷ u) in
        let o : opens c d ≡ true = subst (λ i. opens i d ≡ true) p1 (subst (λ j. opens a j ≡ true) p2 h) in
        let n = cond_true (opens c d) (is_gap (suc zero) u) (cond (is_blank c) (is_gap zero (d ∷ u)) false) o ∙ still_open zero v u x e p3 in
        cc
