-- A text has one scan.
use Rattle.std.proofs.Common.{◌≡◌, ℕ, zero, ◌+◌, List, [], ◌∷◌, ◌++◌, true, false, nat_eq, None, ◌⊎◌, inl, inr, length, refl, sym, ap, ap₂, ◌∙◌, subst, arith}
use Rattle.std.proofs.lemmas.List.{append-nil}
use Rattle.ob_symbol.specs.declared.symbol.Symbol.{Symbol}
use Rattle.ob_scan.specs.Words.{WordForm, Name, Keyword, Decimal, Hexadecimal, Character, Quoted, Operator, form_of, kind_of, is_line_end, is_quotable, is_all_then, begins_with, is_gap, begins_comment, IsTooLarge, IsTooLong, IsWithin}
use Rattle.ob_scan.specs.Scans.{Gap, Longest, Unclosed, is_line_over, Scans, End, Broken, ends, reads, bad_byte, open_comment, open_string, too_large, too_long}
use Rattle.ob_scan.proofs.Gaps.{cond_false}
use Rattle.ob_scan.proofs.Longest.{then_never}

-- one list is the beginning of another
abbrev Longer : List ℕ → List ℕ → List ℕ → List ℕ → Type 0
Longer a x b y = (u : List ℕ) × (b ≡ a ++ u) × (x ≡ u ++ y)

longer_on : (c : ℕ) (a x b y : List ℕ) → Longer a x b y → Longer (c ∷ a) x (c ∷ b) y
longer_on c a x b y h = (h.0, ap (λ z. c ∷ z) h.1, h.2)

one_way : (a x b y : List ℕ) → a ++ x ≡ b ++ y → Longer a x b y ⊎ Longer b y a x
one_way [] x b y h = inl (b, refl, h)
one_way (c ∷ a) x [] y h = inr (c ∷ a, refl, sym h)
one_way (c ∷ a) x (d ∷ b) y h =
    let e : c ≡ d = cc in
    let t : a ++ x ≡ b ++ y = cc in
    subst (λ z. Longer (c ∷ a) x (z ∷ b) y ⊎ Longer (z ∷ b) y (c ∷ a) x) e
    (elim (one_way a x b y t) [ inl k ↦ inl (longer_on c a x b y k) | inr k ↦ inr (longer_on c b y a x k) ])

same_parts : (a x b y u : List ℕ) → b ≡ a ++ u → x ≡ u ++ y → u ≡ [] → (a ≡ b) × (x ≡ y)
same_parts a x b y u e h n = (sym (e ∙ (ap (λ z. a ++ z) n ∙ append-nil a)), h ∙ ap (λ z. z ++ y) n)

swap : (a x b y : List ℕ) → (b ≡ a) × (y ≡ x) → (a ≡ b) × (x ≡ y)
swap a x b y h = (sym h.0, sym h.1)

one_gap : (a x b y : List ℕ) → Gap a x → Gap b y → a ++ x ≡ b ++ y → (a ≡ b) × (x ≡ y)
one_gap a x b y g h e = elim (one_way a x b y e) [
  | inl k ↦ same_parts a x b y k.0 k.1 k.2 (g.longest k.0 y k.2 (ap (is_gap zero) (sym k.1) ∙ h.is))
  | inr k ↦ swap a x b y (same_parts b y a x k.0 k.1 k.2 (h.longest k.0 x k.2 (ap (is_gap zero) (sym k.1) ∙ g.is)))
]

one_word : (a x b y : List ℕ) (k l : WordForm) → Longest a x k → Longest b y l → a ++ x ≡ b ++ y → (a ≡ b) × (x ≡ y)
one_word a x b y k l g h e = elim (one_way a x b y e) [
  | inl m ↦ same_parts a x b y m.0 m.1 m.2 (g.longest m.0 y l m.2 (ap form_of (sym m.1) ∙ h.is))
  | inr m ↦ swap a x b y (same_parts b y a x m.0 m.1 m.2 (h.longest m.0 x k m.2 (ap form_of (sym m.1) ∙ g.is)))
]

one_form : (a b x y : List ℕ) (k l : WordForm) → Longest a x k → Longest b y l → a ≡ b → k ≡ l
one_form a b x y k l g h e = let p = g.is in let q = h.is in let r = ap form_of e in cc

-- what two scans can't both find where the gap ends

end_no_word : (u r : List ℕ) (k : WordForm) → Longest u r k → [] ≡ u ++ r → ⊥
end_no_word [] r k w e = let p = w.is in cc
end_no_word (c ∷ u) r k w e = cc

end_no_byte : (d : ℕ) (r : List ℕ) → [] ≡ d ∷ r → ⊥
end_no_byte d r e = cc

no_comment : (b c : List ℕ) → b ≡ c → begins_comment b ≡ false → begins_comment c ≡ true → ⊥
no_comment b c e h k = let q = ap begins_comment e in cc

end_no_string : (r : List ℕ) → Unclosed r → [] ≡ r → ⊥
end_no_string r s e = let q = e ∙ s.split in cc

word_begins : (u r t : List ℕ) (d : ℕ) (k : WordForm) → Longest u r k → ((w : List ℕ) → form_of (d ∷ w) ≡ None) → u ++ r ≡ d ∷ t → ⊥
word_begins [] r t d k w n e = let p = w.is in cc
word_begins (c ∷ u) r t d k w n e =
    let same : d ≡ c = cc in
    let p = w.is in
    let q : form_of (c ∷ u) ≡ None = subst (λ z. form_of (z ∷ u) ≡ None) same (n u) in
    cc

quote_no_comment : (r : List ℕ) → begins_comment (34 ∷ r) ≡ false
quote_no_comment [] = refl
quote_no_comment (b ∷ r) = refl

string_no_comment : (s t : List ℕ) → Unclosed s → begins_comment t ≡ true → s ≡ t → ⊥
string_no_comment s t o c e = no_comment (34 ∷ (o.inside ++ o.after)) t (sym o.split ∙ e) (quote_no_comment (o.inside ++ o.after)) c

line_end_stops : (x : ℕ) → is_line_end x ≡ true → is_quotable x ≡ false
line_end_stops x h = grind arith

over_stops : (r : List ℕ) → is_line_over r ≡ true → (x : ℕ) (y : List ℕ) → r ≡ x ∷ y → is_quotable x ≡ false
over_stops [] h x y e = cc
over_stops (b ∷ r) h x y e = let same : b ≡ x = cc in subst (λ z. is_quotable z ≡ false) same (line_end_stops b h)

line_end_no_quote : (x : ℕ) → is_line_end x ≡ true → nat_eq x 34 ≡ false
line_end_no_quote x h = grind arith

over_no_quote : (r : List ℕ) → is_line_over r ≡ true → begins_with 34 r ≡ false
over_no_quote [] h = refl
over_no_quote (b ∷ r) h = line_end_no_quote b h

quoted_none : (u : List ℕ) → is_all_then is_quotable 34 u ≡ false → form_of (34 ∷ u) ≡ None
quoted_none u h = cond_false (is_all_then is_quotable 34 u) _ _ h

word_no_string : (u r s : List ℕ) (k : WordForm) → Longest u r k → Unclosed s → u ++ r ≡ s → ⊥
word_no_string [] r s k w o e = let p = w.is in cc
word_no_string (c ∷ u) r s k w o e =
    let q = e ∙ o.split in
    let same : 34 ≡ c = cc in
    let t : o.inside ++ o.after ≡ u ++ r = cc in
    let n = then_never is_quotable 34 o.inside o.after u r refl o.quotable (over_stops o.after o.over) (over_no_quote o.after o.over) t in
    let m : form_of (c ∷ u) ≡ None = subst (λ z. form_of (z ∷ u) ≡ None) same (quoted_none u n) in
    let p = w.is in
    cc

byte_no_string : (d : ℕ) (t s : List ℕ) → ((w : List ℕ) → form_of (d ∷ w) ≡ None) → Unclosed s → d ∷ t ≡ s → ⊥
byte_no_string d t s n o e =
    let q = e ∙ o.split in
    let same : d ≡ 34 = cc in
    let m : form_of (34 ∷ 34 ∷ []) ≡ None = subst (λ z. form_of (z ∷ 34 ∷ []) ≡ None) same (n (34 ∷ [])) in
    cc

within_not_large : (k l : WordForm) (u : List ℕ) → k ≡ l → IsWithin k u → IsTooLarge l → ⊥
within_not_large k l u e h g = not k u h (subst IsTooLarge (sym e) g)
  where
    not : (k : WordForm) (u : List ℕ) → IsWithin k u → IsTooLarge k → ⊥
    not Name u h g = omega arith
    not (Keyword r) u h g = omega arith
    not (Decimal n) u h g = omega arith
    not (Hexadecimal n) u h g = omega arith
    not (Character n) u h g = omega arith
    not Quoted u h g = omega arith
    not (Operator d) u h g = omega arith

within_not_long : (k l : WordForm) (u v : List ℕ) → k ≡ l → u ≡ v → IsWithin k u → IsTooLong l v → ⊥
within_not_long k l u v e f h g = not k u h (subst (λ z. IsTooLong z u) (sym e) (subst (IsTooLong l) (sym f) g))
  where
    not : (k : WordForm) (u : List ℕ) → IsWithin k u → IsTooLong k u → ⊥
    not Name u h g = omega arith
    not (Keyword r) u h g = g
    not (Decimal n) u h g = g
    not (Hexadecimal n) u h g = g
    not (Character n) u h g = g
    not Quoted u h g = g
    not (Operator d) u h g = g

large_not_long : (k l : WordForm) (v : List ℕ) → k ≡ l → IsTooLarge k → IsTooLong l v → ⊥
large_not_long k l v e h g = not k v h (subst (λ z. IsTooLong z v) (sym e) g)
  where
    not : (k : WordForm) (u : List ℕ) → IsTooLarge k → IsTooLong k u → ⊥
    not Name u h g = omega arith
    not (Keyword r) u h g = g
    not (Decimal n) u h g = g
    not (Hexadecimal n) u h g = g
    not (Character n) u h g = g
    not Quoted u h g = g
    not (Operator d) u h g = g

places : (i j : ℕ) (a b : List ℕ) → i ≡ j → a ≡ b → i + length a ≡ j + length b
places i j a b e h = ap₂ (λ (n : ℕ) (z : List ℕ). n + length z) e h

broken : (n i j : ℕ) → i ≡ j → (let a : List Symbol = [] in a ≡ a) × (Broken n i ≡ Broken n j)
broken n i j e = (refl, ap (Broken n) e)

-- each pair of answers for one text: the same, or impossible
pub one_scan : {i j : ℕ} {w v : List ℕ} {a b : List Symbol} {e f : End} → Scans i w a e → Scans j v b f → i ≡ j → w ≡ v → (a ≡ b) × (e ≡ f)
one_scan (ends g1) (ends g2) p q = (refl, refl)
one_scan (ends {i = i1} {gap = x1} g1) (reads {i = i2} {gap = x2} {word = u2} {rest = r2} {form = k2} g2 c2 w2 n2 s2) p q = absurd (end_no_word u2 r2 k2 w2 (one_gap x1 [] x2 (u2 ++ r2) g1 g2 (append-nil x1 ∙ q)).1)
one_scan (ends {i = i1} {gap = x1} g1) (bad_byte {i = i2} {gap = x2} {b = d2} {rest = r2} g2 c2 n2) p q = absurd (end_no_byte d2 r2 (one_gap x1 [] x2 (d2 ∷ r2) g1 g2 (append-nil x1 ∙ q)).1)
one_scan (ends {i = i1} {gap = x1} g1) (open_comment {i = i2} {gap = x2} {rest = r2} g2 c2) p q = absurd (no_comment [] r2 (one_gap x1 [] x2 r2 g1 g2 (append-nil x1 ∙ q)).1 refl c2)
one_scan (ends {i = i1} {gap = x1} g1) (open_string {i = i2} {gap = x2} {rest = r2} g2 o2) p q = absurd (end_no_string r2 o2 (one_gap x1 [] x2 r2 g1 g2 (append-nil x1 ∙ q)).1)
one_scan (ends {i = i1} {gap = x1} g1) (too_large {i = i2} {gap = x2} {word = u2} {rest = r2} {form = k2} g2 c2 w2 n2) p q = absurd (end_no_word u2 r2 k2 w2 (one_gap x1 [] x2 (u2 ++ r2) g1 g2 (append-nil x1 ∙ q)).1)
one_scan (ends {i = i1} {gap = x1} g1) (too_long {i = i2} {gap = x2} {word = u2} {rest = r2} {form = k2} g2 c2 w2 n2) p q = absurd (end_no_word u2 r2 k2 w2 (one_gap x1 [] x2 (u2 ++ r2) g1 g2 (append-nil x1 ∙ q)).1)
one_scan (reads {i = i1} {gap = x1} {word = u1} {rest = r1} {form = k1} g1 c1 w1 n1 s1) (ends {i = i2} {gap = x2} g2) p q = absurd (end_no_word u1 r1 k1 w1 (sym (one_gap x1 (u1 ++ r1) x2 [] g1 g2 (q ∙ sym (append-nil x2))).1))
one_scan (reads {i = i1} {gap = x1} {word = u1} {rest = r1} {form = k1} g1 c1 w1 n1 s1) (reads {i = i2} {gap = x2} {word = u2} {rest = r2} {form = k2} g2 c2 w2 n2 s2) p q =
    let a = one_gap x1 (u1 ++ r1) x2 (u2 ++ r2) g1 g2 q in
    let d = one_word u1 r1 u2 r2 k1 k2 w1 w2 a.1 in
    let at = places i1 i2 x1 x2 p a.0 in
    let to = places (i1 + length x1) (i2 + length x2) u1 u2 at d.0 in
    let rest = one_scan s1 s2 to d.1 in
    let form = ap kind_of (one_form u1 u2 r1 r2 k1 k2 w1 w2 d.0) in
    (cc, rest.1)
one_scan (reads {i = i1} {gap = x1} {word = u1} {rest = r1} {form = k1} g1 c1 w1 n1 s1) (bad_byte {i = i2} {gap = x2} {b = d2} {rest = r2} g2 c2 n2) p q = absurd (word_begins u1 r1 r2 d2 k1 w1 n2 (one_gap x1 (u1 ++ r1) x2 (d2 ∷ r2) g1 g2 q).1)
one_scan (reads {i = i1} {gap = x1} {word = u1} {rest = r1} {form = k1} g1 c1 w1 n1 s1) (open_comment {i = i2} {gap = x2} {rest = r2} g2 c2) p q = absurd (no_comment (u1 ++ r1) r2 (one_gap x1 (u1 ++ r1) x2 r2 g1 g2 q).1 c1 c2)
one_scan (reads {i = i1} {gap = x1} {word = u1} {rest = r1} {form = k1} g1 c1 w1 n1 s1) (open_string {i = i2} {gap = x2} {rest = r2} g2 o2) p q = absurd (word_no_string u1 r1 r2 k1 w1 o2 (one_gap x1 (u1 ++ r1) x2 r2 g1 g2 q).1)
one_scan (reads {i = i1} {gap = x1} {word = u1} {rest = r1} {form = k1} g1 c1 w1 n1 s1) (too_large {i = i2} {gap = x2} {word = u2} {rest = r2} {form = k2} g2 c2 w2 n2) p q = absurd (within_not_large k1 k2 u1 (one_form u1 u2 r1 r2 k1 k2 w1 w2 (one_word u1 r1 u2 r2 k1 k2 w1 w2 (one_gap x1 (u1 ++ r1) x2 (u2 ++ r2) g1 g2 q).1).0) n1 n2)
one_scan (reads {i = i1} {gap = x1} {word = u1} {rest = r1} {form = k1} g1 c1 w1 n1 s1) (too_long {i = i2} {gap = x2} {word = u2} {rest = r2} {form = k2} g2 c2 w2 n2) p q = absurd (within_not_long k1 k2 u1 u2 (one_form u1 u2 r1 r2 k1 k2 w1 w2 (one_word u1 r1 u2 r2 k1 k2 w1 w2 (one_gap x1 (u1 ++ r1) x2 (u2 ++ r2) g1 g2 q).1).0) (one_word u1 r1 u2 r2 k1 k2 w1 w2 (one_gap x1 (u1 ++ r1) x2 (u2 ++ r2) g1 g2 q).1).0 n1 n2)
one_scan (bad_byte {i = i1} {gap = x1} {b = d1} {rest = r1} g1 c1 n1) (ends {i = i2} {gap = x2} g2) p q = absurd (end_no_byte d1 r1 (sym (one_gap x1 (d1 ∷ r1) x2 [] g1 g2 (q ∙ sym (append-nil x2))).1))
one_scan (bad_byte {i = i1} {gap = x1} {b = d1} {rest = r1} g1 c1 n1) (reads {i = i2} {gap = x2} {word = u2} {rest = r2} {form = k2} g2 c2 w2 n2 s2) p q = absurd (word_begins u2 r2 r1 d1 k2 w2 n1 (sym (one_gap x1 (d1 ∷ r1) x2 (u2 ++ r2) g1 g2 q).1))
one_scan (bad_byte {i = i1} {gap = x1} {b = d1} {rest = r1} g1 c1 n1) (bad_byte {i = i2} {gap = x2} {b = d2} {rest = r2} g2 c2 n2) p q = broken 10 (i1 + length x1) (i2 + length x2) (places i1 i2 x1 x2 p (one_gap x1 (d1 ∷ r1) x2 (d2 ∷ r2) g1 g2 q).0)
one_scan (bad_byte {i = i1} {gap = x1} {b = d1} {rest = r1} g1 c1 n1) (open_comment {i = i2} {gap = x2} {rest = r2} g2 c2) p q = absurd (no_comment (d1 ∷ r1) r2 (one_gap x1 (d1 ∷ r1) x2 r2 g1 g2 q).1 c1 c2)
one_scan (bad_byte {i = i1} {gap = x1} {b = d1} {rest = r1} g1 c1 n1) (open_string {i = i2} {gap = x2} {rest = r2} g2 o2) p q = absurd (byte_no_string d1 r1 r2 n1 o2 (one_gap x1 (d1 ∷ r1) x2 r2 g1 g2 q).1)
one_scan (bad_byte {i = i1} {gap = x1} {b = d1} {rest = r1} g1 c1 n1) (too_large {i = i2} {gap = x2} {word = u2} {rest = r2} {form = k2} g2 c2 w2 n2) p q = absurd (word_begins u2 r2 r1 d1 k2 w2 n1 (sym (one_gap x1 (d1 ∷ r1) x2 (u2 ++ r2) g1 g2 q).1))
one_scan (bad_byte {i = i1} {gap = x1} {b = d1} {rest = r1} g1 c1 n1) (too_long {i = i2} {gap = x2} {word = u2} {rest = r2} {form = k2} g2 c2 w2 n2) p q = absurd (word_begins u2 r2 r1 d1 k2 w2 n1 (sym (one_gap x1 (d1 ∷ r1) x2 (u2 ++ r2) g1 g2 q).1))
one_scan (open_comment {i = i1} {gap = x1} {rest = r1} g1 c1) (ends {i = i2} {gap = x2} g2) p q = absurd (no_comment [] r1 (sym (one_gap x1 r1 x2 [] g1 g2 (q ∙ sym (append-nil x2))).1) refl c1)
one_scan (open_comment {i = i1} {gap = x1} {rest = r1} g1 c1) (reads {i = i2} {gap = x2} {word = u2} {rest = r2} {form = k2} g2 c2 w2 n2 s2) p q = absurd (no_comment (u2 ++ r2) r1 (sym (one_gap x1 r1 x2 (u2 ++ r2) g1 g2 q).1) c2 c1)
one_scan (open_comment {i = i1} {gap = x1} {rest = r1} g1 c1) (bad_byte {i = i2} {gap = x2} {b = d2} {rest = r2} g2 c2 n2) p q = absurd (no_comment (d2 ∷ r2) r1 (sym (one_gap x1 r1 x2 (d2 ∷ r2) g1 g2 q).1) c2 c1)
one_scan (open_comment {i = i1} {gap = x1} {rest = r1} g1 c1) (open_comment {i = i2} {gap = x2} {rest = r2} g2 c2) p q = broken 11 (i1 + length x1) (i2 + length x2) (places i1 i2 x1 x2 p (one_gap x1 r1 x2 r2 g1 g2 q).0)
one_scan (open_comment {i = i1} {gap = x1} {rest = r1} g1 c1) (open_string {i = i2} {gap = x2} {rest = r2} g2 o2) p q = absurd (string_no_comment r2 r1 o2 c1 (sym (one_gap x1 r1 x2 r2 g1 g2 q).1))
one_scan (open_comment {i = i1} {gap = x1} {rest = r1} g1 c1) (too_large {i = i2} {gap = x2} {word = u2} {rest = r2} {form = k2} g2 c2 w2 n2) p q = absurd (no_comment (u2 ++ r2) r1 (sym (one_gap x1 r1 x2 (u2 ++ r2) g1 g2 q).1) c2 c1)
one_scan (open_comment {i = i1} {gap = x1} {rest = r1} g1 c1) (too_long {i = i2} {gap = x2} {word = u2} {rest = r2} {form = k2} g2 c2 w2 n2) p q = absurd (no_comment (u2 ++ r2) r1 (sym (one_gap x1 r1 x2 (u2 ++ r2) g1 g2 q).1) c2 c1)
one_scan (open_string {i = i1} {gap = x1} {rest = r1} g1 o1) (ends {i = i2} {gap = x2} g2) p q = absurd (end_no_string r1 o1 (sym (one_gap x1 r1 x2 [] g1 g2 (q ∙ sym (append-nil x2))).1))
one_scan (open_string {i = i1} {gap = x1} {rest = r1} g1 o1) (reads {i = i2} {gap = x2} {word = u2} {rest = r2} {form = k2} g2 c2 w2 n2 s2) p q = absurd (word_no_string u2 r2 r1 k2 w2 o1 (sym (one_gap x1 r1 x2 (u2 ++ r2) g1 g2 q).1))
one_scan (open_string {i = i1} {gap = x1} {rest = r1} g1 o1) (bad_byte {i = i2} {gap = x2} {b = d2} {rest = r2} g2 c2 n2) p q = absurd (byte_no_string d2 r2 r1 n2 o1 (sym (one_gap x1 r1 x2 (d2 ∷ r2) g1 g2 q).1))
one_scan (open_string {i = i1} {gap = x1} {rest = r1} g1 o1) (open_comment {i = i2} {gap = x2} {rest = r2} g2 c2) p q = absurd (string_no_comment r1 r2 o1 c2 (one_gap x1 r1 x2 r2 g1 g2 q).1)
one_scan (open_string {i = i1} {gap = x1} {rest = r1} g1 o1) (open_string {i = i2} {gap = x2} {rest = r2} g2 o2) p q = broken 12 (i1 + length x1) (i2 + length x2) (places i1 i2 x1 x2 p (one_gap x1 r1 x2 r2 g1 g2 q).0)
one_scan (open_string {i = i1} {gap = x1} {rest = r1} g1 o1) (too_large {i = i2} {gap = x2} {word = u2} {rest = r2} {form = k2} g2 c2 w2 n2) p q = absurd (word_no_string u2 r2 r1 k2 w2 o1 (sym (one_gap x1 r1 x2 (u2 ++ r2) g1 g2 q).1))
one_scan (open_string {i = i1} {gap = x1} {rest = r1} g1 o1) (too_long {i = i2} {gap = x2} {word = u2} {rest = r2} {form = k2} g2 c2 w2 n2) p q = absurd (word_no_string u2 r2 r1 k2 w2 o1 (sym (one_gap x1 r1 x2 (u2 ++ r2) g1 g2 q).1))
one_scan (too_large {i = i1} {gap = x1} {word = u1} {rest = r1} {form = k1} g1 c1 w1 n1) (ends {i = i2} {gap = x2} g2) p q = absurd (end_no_word u1 r1 k1 w1 (sym (one_gap x1 (u1 ++ r1) x2 [] g1 g2 (q ∙ sym (append-nil x2))).1))
one_scan (too_large {i = i1} {gap = x1} {word = u1} {rest = r1} {form = k1} g1 c1 w1 n1) (reads {i = i2} {gap = x2} {word = u2} {rest = r2} {form = k2} g2 c2 w2 n2 s2) p q = absurd (within_not_large k2 k1 u2 (one_form u2 u1 r2 r1 k2 k1 w2 w1 (one_word u2 r2 u1 r1 k2 k1 w2 w1 (sym (one_gap x1 (u1 ++ r1) x2 (u2 ++ r2) g1 g2 q).1)).0) n2 n1)
one_scan (too_large {i = i1} {gap = x1} {word = u1} {rest = r1} {form = k1} g1 c1 w1 n1) (bad_byte {i = i2} {gap = x2} {b = d2} {rest = r2} g2 c2 n2) p q = absurd (word_begins u1 r1 r2 d2 k1 w1 n2 (one_gap x1 (u1 ++ r1) x2 (d2 ∷ r2) g1 g2 q).1)
one_scan (too_large {i = i1} {gap = x1} {word = u1} {rest = r1} {form = k1} g1 c1 w1 n1) (open_comment {i = i2} {gap = x2} {rest = r2} g2 c2) p q = absurd (no_comment (u1 ++ r1) r2 (one_gap x1 (u1 ++ r1) x2 r2 g1 g2 q).1 c1 c2)
one_scan (too_large {i = i1} {gap = x1} {word = u1} {rest = r1} {form = k1} g1 c1 w1 n1) (open_string {i = i2} {gap = x2} {rest = r2} g2 o2) p q = absurd (word_no_string u1 r1 r2 k1 w1 o2 (one_gap x1 (u1 ++ r1) x2 r2 g1 g2 q).1)
one_scan (too_large {i = i1} {gap = x1} {word = u1} {rest = r1} {form = k1} g1 c1 w1 n1) (too_large {i = i2} {gap = x2} {word = u2} {rest = r2} {form = k2} g2 c2 w2 n2) p q = broken 13 (i1 + length x1) (i2 + length x2) (places i1 i2 x1 x2 p (one_gap x1 (u1 ++ r1) x2 (u2 ++ r2) g1 g2 q).0)
one_scan (too_large {i = i1} {gap = x1} {word = u1} {rest = r1} {form = k1} g1 c1 w1 n1) (too_long {i = i2} {gap = x2} {word = u2} {rest = r2} {form = k2} g2 c2 w2 n2) p q = absurd (large_not_long k1 k2 u2 (one_form u1 u2 r1 r2 k1 k2 w1 w2 (one_word u1 r1 u2 r2 k1 k2 w1 w2 (one_gap x1 (u1 ++ r1) x2 (u2 ++ r2) g1 g2 q).1).0) n1 n2)
one_scan (too_long {i = i1} {gap = x1} {word = u1} {rest = r1} {form = k1} g1 c1 w1 n1) (ends {i = i2} {gap = x2} g2) p q = absurd (end_no_word u1 r1 k1 w1 (sym (one_gap x1 (u1 ++ r1) x2 [] g1 g2 (q ∙ sym (append-nil x2))).1))
one_scan (too_long {i = i1} {gap = x1} {word = u1} {rest = r1} {form = k1} g1 c1 w1 n1) (reads {i = i2} {gap = x2} {word = u2} {rest = r2} {form = k2} g2 c2 w2 n2 s2) p q = absurd (within_not_long k2 k1 u2 u1 (one_form u2 u1 r2 r1 k2 k1 w2 w1 (one_word u2 r2 u1 r1 k2 k1 w2 w1 (sym (one_gap x1 (u1 ++ r1) x2 (u2 ++ r2) g1 g2 q).1)).0) (one_word u2 r2 u1 r1 k2 k1 w2 w1 (sym (one_gap x1 (u1 ++ r1) x2 (u2 ++ r2) g1 g2 q).1)).0 n2 n1)
one_scan (too_long {i = i1} {gap = x1} {word = u1} {rest = r1} {form = k1} g1 c1 w1 n1) (bad_byte {i = i2} {gap = x2} {b = d2} {rest = r2} g2 c2 n2) p q = absurd (word_begins u1 r1 r2 d2 k1 w1 n2 (one_gap x1 (u1 ++ r1) x2 (d2 ∷ r2) g1 g2 q).1)
one_scan (too_long {i = i1} {gap = x1} {word = u1} {rest = r1} {form = k1} g1 c1 w1 n1) (open_comment {i = i2} {gap = x2} {rest = r2} g2 c2) p q = absurd (no_comment (u1 ++ r1) r2 (one_gap x1 (u1 ++ r1) x2 r2 g1 g2 q).1 c1 c2)
one_scan (too_long {i = i1} {gap = x1} {word = u1} {rest = r1} {form = k1} g1 c1 w1 n1) (open_string {i = i2} {gap = x2} {rest = r2} g2 o2) p q = absurd (word_no_string u1 r1 r2 k1 w1 o2 (one_gap x1 (u1 ++ r1) x2 r2 g1 g2 q).1)
one_scan (too_long {i = i1} {gap = x1} {word = u1} {rest = r1} {form = k1} g1 c1 w1 n1) (too_large {i = i2} {gap = x2} {word = u2} {rest = r2} {form = k2} g2 c2 w2 n2) p q = absurd (large_not_long k2 k1 u1 (one_form u2 u1 r2 r1 k2 k1 w2 w1 (one_word u2 r2 u1 r1 k2 k1 w2 w1 (sym (one_gap x1 (u1 ++ r1) x2 (u2 ++ r2) g1 g2 q).1)).0) n2 n1)
one_scan (too_long {i = i1} {gap = x1} {word = u1} {rest = r1} {form = k1} g1 c1 w1 n1) (too_long {i = i2} {gap = x2} {word = u2} {rest = r2} {form = k2} g2 c2 w2 n2) p q = broken 14 (i1 + length x1) (i2 + length x2) (places i1 i2 x1 x2 p (one_gap x1 (u1 ++ r1) x2 (u2 ++ r2) g1 g2 q).0)
