-- What a reading byte by byte finds is the longest symbol.
use Rattle.std.proofs.Common.{◌≡◌, ℕ, List, [], ◌∷◌, ◌++◌, Bool, true, false, cond, nat_eq, Some, None, refl, sym, ap, ◌∙◌, subst, arith, append_assoc}
use Rattle.ob_symbol.specs.declared.symbol.Delimiter.{Delimiter}
use Rattle.ob_scan.specs.Tables.{reserved_of, one_mark, two_mark, mark_of}
use Rattle.ob_scan.specs.Words.{is_letter, is_letter_or_digit, is_digit, is_hexadecimal, is_line_end, is_quotable, is_all, is_all_then, begins_with, value_from, WordForm, Decimal, Hexadecimal, Character, Quoted, Operator, name_or_keyword, name_form, number_form, text_form, operator, form_of}
use Rattle.ob_scan.specs.Scans.{Longest, is_line_over}
use Rattle.ob_scan.specs.Steps.{Spanned}
use Rattle.ob_scan.proofs.Gaps.{cond_true, cond_false}

-- a word's first byte says which forms it can have

form_of_letter : (b : ℕ) (w : List ℕ) → is_letter b ≡ true → form_of (b ∷ w) ≡ name_form (b ∷ w)
form_of_letter b w h = cond_true (is_letter b) _ _ h

form_of_digit : (b : ℕ) (w : List ℕ) → is_letter b ≡ false → is_digit b ≡ true → form_of (b ∷ w) ≡ number_form (b ∷ w)
form_of_digit b w h d = cond_false (is_letter b) _ _ h ∙ cond_true (is_digit b) _ _ d

form_of_quote : (b : ℕ) (w : List ℕ) → is_letter b ≡ false → is_digit b ≡ false → nat_eq b 34 ≡ true → form_of (b ∷ w) ≡ text_form w
form_of_quote b w h d q = cond_false (is_letter b) _ _ h ∙ (cond_false (is_digit b) _ _ d ∙ cond_true (nat_eq b 34) _ _ q)

form_of_mark : (b : ℕ) (w : List ℕ) → is_letter b ≡ false → is_digit b ≡ false → nat_eq b 34 ≡ false → form_of (b ∷ w) ≡ operator (mark_of (b ∷ w))
form_of_mark b w h d q = cond_false (is_letter b) _ _ h ∙ (cond_false (is_digit b) _ _ d ∙ cond_false (nat_eq b 34) _ _ q)

-- a word that is longer than the bytes that pass doesn't pass

not_all : (p : ℕ → Bool) (s : List ℕ) (x : ℕ) (u : List ℕ) → p x ≡ false → is_all p (s ++ (x ∷ u)) ≡ false
not_all p [] x u h = ap (λ b. cond b (is_all p u) false) h
not_all p (y ∷ s) x u h = elim (p y) as (λ b. cond b (is_all p (s ++ (x ∷ u))) false ≡ false) [ true ↦ not_all p s x u h | false ↦ refl ]

pub all_more : (p : ℕ → Bool) (y : ℕ) (s : List ℕ) → p y ≡ true → is_all p s ≡ true → is_all p (y ∷ s) ≡ true
all_more p y s h e = cond_true (p y) _ _ h ∙ e

pub all_first : (p : ℕ → Bool) (y : ℕ) (s : List ℕ) → is_all p (y ∷ s) ≡ true → p y ≡ true
all_first p y s h = elim (p y) as (λ b. cond b (is_all p s) false ≡ true → b ≡ true) [ true ↦ λ e. refl | false ↦ λ e. e ] h

pub all_rest : (p : ℕ → Bool) (y : ℕ) (s : List ℕ) → is_all p (y ∷ s) ≡ true → is_all p s ≡ true
all_rest p y s h = elim (p y) as (λ b. cond b (is_all p s) false ≡ true → is_all p s ≡ true) [ true ↦ λ e. e | false ↦ λ e. cc ] h

-- bytes that pass, and then one that doesn't: the whole of a literal with a suffix, or of a string

then_one : (p : ℕ → Bool) (last y : ℕ) (w : List ℕ) → p y ≡ true → (last_not : p last ≡ false) → is_all_then p last (y ∷ w) ≡ is_all_then p last w
then_one p last y [] h n = elim (nat_eq y last) as (λ b. (b ≡ true → y ≡ last) → b ≡ false) [ true ↦ λ f. (let same = f refl in let q = ap p same in cc) | false ↦ λ f. refl ] (λ e. grind arith)
then_one p last y (c ∷ w) h n = cond_true (p y) _ _ h

pub then_all : (p : ℕ → Bool) (last : ℕ) (s : List ℕ) → p last ≡ false → is_all p s ≡ true → is_all_then p last (s ++ (last ∷ [])) ≡ true
then_all p last [] n h = grind arith
then_all p last (y ∷ s) n h = then_one p last y (s ++ (last ∷ [])) (all_first p y s h) n ∙ then_all p last s n (all_rest p y s h)

-- no more bytes can follow the last one
then_longer : (p : ℕ → Bool) (last : ℕ) (s : List ℕ) (x y : ℕ) (u : List ℕ) → p x ≡ false → is_all p s ≡ true → is_all_then p last (s ++ (x ∷ y ∷ u)) ≡ false
then_longer p last [] x y u n h = cond_false (p x) _ _ n
then_longer p last (a ∷ []) x y u n h = cond_true (p a) _ _ (all_first p a [] h) ∙ then_longer p last [] x y u n refl
then_longer p last (a ∷ b ∷ s) x y u n h = cond_true (p a) _ _ (all_first p a (b ∷ s) h) ∙ then_longer p last (b ∷ s) x y u n (all_rest p a (b ∷ s) h)

-- no beginning of a text is such a word, where the bytes that pass are followed by another byte or by none
pub then_never : (p : ℕ → Bool) (last : ℕ) (s r u v : List ℕ) → p last ≡ false → is_all p s ≡ true → ((x : ℕ) (y : List ℕ) → r ≡ x ∷ y → p x ≡ false) → begins_with last r ≡ false → s ++ r ≡ u ++ v → is_all_then p last u ≡ false
then_never p last s r [] v n h stop begins e = refl
then_never p last [] r (x ∷ []) v n h stop begins e = sym (ap (begins_with last) e) ∙ begins
then_never p last [] r (x ∷ y ∷ u) v n h stop begins e = cond_false (p x) _ _ (stop x (y ∷ u ++ v) e)
then_never p last (a ∷ s) r (x ∷ u) v n h stop begins e =
    let same : a ≡ x = cc in
    let t : s ++ r ≡ u ++ v = cc in
    subst (λ z. is_all_then p last (z ∷ u) ≡ false) same (then_one p last a u (all_first p a s h) n ∙ then_never p last s r u v n (all_rest p a s h) stop begins t)

-- names

letter_no_digit : (b : ℕ) → is_letter b ≡ true → is_digit b ≡ false
letter_no_digit b h = grind arith

letter_is_name : (b : ℕ) → is_letter b ≡ true → is_letter_or_digit b ≡ true
letter_is_name b h = cond_true (is_letter b) _ _ h

pub name_longest : (b : ℕ) (v s r : List ℕ) → is_letter b ≡ true → Spanned is_letter_or_digit v s r → Longest (b ∷ s) r (name_or_keyword (reserved_of (b ∷ s)))
name_longest b v s r h p = record {
  is = form_of_letter b s h ∙ cond_true (is_all is_letter_or_digit (b ∷ s)) _ _ (all_more is_letter_or_digit b s (letter_is_name b h) p.all);
  longest = no_longer b v s r h p;
}
  where
    no_longer : (b : ℕ) (v s r : List ℕ) → is_letter b ≡ true → Spanned is_letter_or_digit v s r → (u w : List ℕ) (other : WordForm) → r ≡ u ++ w → form_of (b ∷ (s ++ u)) ≡ Some other → u ≡ []
    no_longer b v s r h p [] w other e k = refl
    no_longer b v s r h p (x ∷ u) w other e k =
        let n = cond_false (is_all is_letter_or_digit (b ∷ (s ++ (x ∷ u)))) (Some (name_or_keyword (reserved_of (b ∷ (s ++ (x ∷ u)))))) None (not_all is_letter_or_digit (b ∷ s) x u (p.stop x (u ++ w) e)) in
        let m = form_of_letter b (s ++ (x ∷ u)) h in
        cc

-- numbers

digit_no_letter : (b : ℕ) → is_digit b ≡ true → is_letter b ≡ false
digit_no_letter b h = grind arith

pub digit_is_hexadecimal : (b : ℕ) → is_digit b ≡ true → is_hexadecimal b ≡ true
digit_is_hexadecimal b h = cond_true (is_digit b) _ _ h

no_hexadecimal_no_digit : (b : ℕ) → is_hexadecimal b ≡ false → is_digit b ≡ false
no_hexadecimal_no_digit b h = grind arith

pub all_hexadecimal : (s : List ℕ) → is_all is_digit s ≡ true → is_all is_hexadecimal s ≡ true
all_hexadecimal [] h = refl
all_hexadecimal (b ∷ s) h = all_more is_hexadecimal b s (digit_is_hexadecimal b (all_first is_digit b s h)) (all_hexadecimal s (all_rest is_digit b s h))

-- the value of a literal is that of its digits
value_until : (base : ℕ) (s : List ℕ) (n x : ℕ) → is_hexadecimal x ≡ false → value_from base n (s ++ (x ∷ [])) ≡ value_from base n s
value_until base [] n x h = cond_false (is_hexadecimal x) _ _ h
value_until base (b ∷ s) n x h = ap (λ z. cond (is_hexadecimal b) z n) (value_until base s _ x h)

number_form_decimal : (w : List ℕ) → is_all is_digit w ≡ true → number_form w ≡ Some (Decimal (value_from 10 0 w))
number_form_decimal w h = cond_true (is_all is_digit w) _ _ h

number_form_hexadecimal : (w : List ℕ) → is_all is_digit w ≡ false → is_all_then is_hexadecimal 72 w ≡ true → number_form w ≡ Some (Hexadecimal (value_from 16 0 w))
number_form_hexadecimal w h e = cond_false (is_all is_digit w) _ _ h ∙ cond_true (is_all_then is_hexadecimal 72 w) _ _ e

number_form_character : (w : List ℕ) → is_all is_digit w ≡ false → is_all_then is_hexadecimal 72 w ≡ false → is_all_then is_hexadecimal 88 w ≡ true → number_form w ≡ Some (Character (value_from 16 0 w))
number_form_character w h e k = cond_false (is_all is_digit w) _ _ h ∙ (cond_false (is_all_then is_hexadecimal 72 w) _ _ e ∙ cond_true (is_all_then is_hexadecimal 88 w) _ _ k)

number_form_none : (w : List ℕ) → is_all is_digit w ≡ false → is_all_then is_hexadecimal 72 w ≡ false → is_all_then is_hexadecimal 88 w ≡ false → number_form w ≡ None
number_form_none w h e k = cond_false (is_all is_digit w) _ _ h ∙ (cond_false (is_all_then is_hexadecimal 72 w) _ _ e ∙ cond_false (is_all_then is_hexadecimal 88 w) _ _ k)

-- bytes after a suffix make no number
suffix_longer : (b : ℕ) (s : List ℕ) (x y : ℕ) (u : List ℕ) → is_digit b ≡ true → is_all is_hexadecimal s ≡ true → is_hexadecimal x ≡ false → form_of (b ∷ (s ++ (x ∷ y ∷ u))) ≡ None
suffix_longer b s x y u d h n =
    form_of_digit b (s ++ (x ∷ y ∷ u)) (digit_no_letter b d) d ∙
    number_form_none (b ∷ (s ++ (x ∷ y ∷ u))) (not_all is_digit (b ∷ s) x (y ∷ u) (no_hexadecimal_no_digit x n))
    (then_longer is_hexadecimal 72 (b ∷ s) x y u n (all_more is_hexadecimal b s (digit_is_hexadecimal b d) h))
    (then_longer is_hexadecimal 88 (b ∷ s) x y u n (all_more is_hexadecimal b s (digit_is_hexadecimal b d) h))

suffix_longest : (b : ℕ) (s : List ℕ) (x : ℕ) (r : List ℕ) (form : WordForm) → is_digit b ≡ true → is_all is_hexadecimal s ≡ true → is_hexadecimal x ≡ false → form_of (b ∷ (s ++ (x ∷ []))) ≡ Some form → Longest (b ∷ (s ++ (x ∷ []))) r form
suffix_longest b s x r form d h n is = record { is = is; longest = no_longer b s x r d h n }
  where
    no_longer : (b : ℕ) (s : List ℕ) (x : ℕ) (r : List ℕ) → is_digit b ≡ true → is_all is_hexadecimal s ≡ true → is_hexadecimal x ≡ false → (u w : List ℕ) (other : WordForm) → r ≡ u ++ w → form_of ((b ∷ (s ++ (x ∷ []))) ++ u) ≡ Some other → u ≡ []
    no_longer b s x r d h n [] w other e k = refl
    no_longer b s x r d h n (y ∷ u) w other e k =
        let m = suffix_longer b s x y u d h n in
        let q : form_of (b ∷ ((s ++ (x ∷ [])) ++ (y ∷ u))) ≡ form_of (b ∷ (s ++ (x ∷ y ∷ u))) = ap (λ z. form_of (b ∷ z)) (append_assoc s (x ∷ []) (y ∷ u)) in
        cc

pub hexadecimal_longest : (b : ℕ) (s r : List ℕ) → is_digit b ≡ true → is_all is_hexadecimal s ≡ true → Longest (b ∷ (s ++ (72 ∷ []))) r (Hexadecimal (value_from 16 0 (b ∷ s)))
hexadecimal_longest b s r d h =
    let all = all_more is_hexadecimal b s (digit_is_hexadecimal b d) h in
    suffix_longest b s 72 r _ d h refl
    (form_of_digit b (s ++ (72 ∷ [])) (digit_no_letter b d) d ∙
    (number_form_hexadecimal (b ∷ (s ++ (72 ∷ []))) (not_all is_digit (b ∷ s) 72 [] refl) (then_all is_hexadecimal 72 (b ∷ s) refl all) ∙
    ap (λ n. Some (Hexadecimal n)) (value_until 16 (b ∷ s) 0 72 refl)))

not_then : (p : ℕ → Bool) (last other : ℕ) (s : List ℕ) → nat_eq other last ≡ false → is_all p s ≡ true → is_all_then p last (s ++ (other ∷ [])) ≡ false
not_then p last other [] n h = n
not_then p last other (a ∷ []) n h = cond_true (p a) _ _ (all_first p a [] h) ∙ n
not_then p last other (a ∷ b ∷ s) n h = cond_true (p a) _ _ (all_first p a (b ∷ s) h) ∙ not_then p last other (b ∷ s) n (all_rest p a (b ∷ s) h)

pub character_longest : (b : ℕ) (s r : List ℕ) → is_digit b ≡ true → is_all is_hexadecimal s ≡ true → Longest (b ∷ (s ++ (88 ∷ []))) r (Character (value_from 16 0 (b ∷ s)))
character_longest b s r d h =
    let all = all_more is_hexadecimal b s (digit_is_hexadecimal b d) h in
    suffix_longest b s 88 r _ d h refl
    (form_of_digit b (s ++ (88 ∷ [])) (digit_no_letter b d) d ∙
    (number_form_character (b ∷ (s ++ (88 ∷ []))) (not_all is_digit (b ∷ s) 88 [] refl) (not_then is_hexadecimal 72 88 (b ∷ s) refl all) (then_all is_hexadecimal 88 (b ∷ s) refl all) ∙
    ap (λ n. Some (Character n)) (value_until 16 (b ∷ s) 0 88 refl)))

-- the digits and letters after b are h, followed by q, which begins with no suffix; the decimal digits are s, followed by r
pub decimal_longest : (b : ℕ) (v s r h q : List ℕ) → is_digit b ≡ true → Spanned is_digit v s r → Spanned is_hexadecimal v h q → begins_with 72 q ≡ false → begins_with 88 q ≡ false → Longest (b ∷ s) r (Decimal (value_from 10 0 (b ∷ s)))
decimal_longest b v s r h q d p hex no_h no_x = record {
  is = form_of_digit b s (digit_no_letter b d) d ∙ number_form_decimal (b ∷ s) (all_more is_digit b s d p.all);
  longest = no_longer b v s r h q d p hex no_h no_x;
}
  where
    no_longer : (b : ℕ) (v s r h q : List ℕ) → is_digit b ≡ true → Spanned is_digit v s r → Spanned is_hexadecimal v h q → begins_with 72 q ≡ false → begins_with 88 q ≡ false → (u w : List ℕ) (other : WordForm) → r ≡ u ++ w → form_of (b ∷ (s ++ u)) ≡ Some other → u ≡ []
    no_longer b v s r h q d p hex no_h no_x [] w other e k = refl
    no_longer b v s r h q d p hex no_h no_x (x ∷ u) w other e k =
        let all = all_more is_hexadecimal b h (digit_is_hexadecimal b d) hex.all in
        let same : b ∷ (h ++ q) ≡ b ∷ ((s ++ (x ∷ u)) ++ w) = ap (λ z. b ∷ z) (sym hex.split ∙ (p.split ∙ (ap (λ z. s ++ z) e ∙ sym (append_assoc s (x ∷ u) w)))) in
        let n = number_form_none (b ∷ (s ++ (x ∷ u))) (not_all is_digit (b ∷ s) x u (p.stop x (u ++ w) e))
        (then_never is_hexadecimal 72 (b ∷ h) q (b ∷ (s ++ (x ∷ u))) w refl all hex.stop no_h same)
        (then_never is_hexadecimal 88 (b ∷ h) q (b ∷ (s ++ (x ∷ u))) w refl all hex.stop no_x same) in
        let m = form_of_digit b (s ++ (x ∷ u)) (digit_no_letter b d) d in
        cc

-- strings

pub text_longest : (s r : List ℕ) → is_all is_quotable s ≡ true → Longest (34 ∷ (s ++ (34 ∷ []))) r Quoted
text_longest s r h = record {
  is = cond_true (is_all_then is_quotable 34 (s ++ (34 ∷ []))) _ _ (then_all is_quotable 34 s refl h);
  longest = no_longer s r h;
}
  where
    no_longer : (s r : List ℕ) → is_all is_quotable s ≡ true → (u w : List ℕ) (other : WordForm) → r ≡ u ++ w → form_of ((34 ∷ (s ++ (34 ∷ []))) ++ u) ≡ Some other → u ≡ []
    no_longer s r h [] w other e k = refl
    no_longer s r h (y ∷ u) w other e k =
        let n = cond_false (is_all_then is_quotable 34 (s ++ (34 ∷ y ∷ u))) (Some Quoted) None (then_longer is_quotable 34 s 34 y u refl h) in
        let q : form_of (34 ∷ ((s ++ (34 ∷ [])) ++ (y ∷ u))) ≡ form_of (34 ∷ (s ++ (34 ∷ y ∷ u))) = ap (λ z. form_of (34 ∷ z)) (append_assoc s (34 ∷ []) (y ∷ u)) in
        cc

-- what isn't quotable, and no quote, ends a line
line_ends : (x : ℕ) → is_quotable x ≡ false → nat_eq x 34 ≡ false → is_line_end x ≡ true
line_ends x h n = grind arith

pub line_over : (r : List ℕ) → ((x : ℕ) (y : List ℕ) → r ≡ x ∷ y → is_quotable x ≡ false) → begins_with 34 r ≡ false → is_line_over r ≡ true
line_over [] stop n = refl
line_over (x ∷ r) stop n = line_ends x (stop x r refl) n

-- operators and delimiters

pub one_longest : (b : ℕ) (r : List ℕ) (d : Delimiter) → is_letter b ≡ false → is_digit b ≡ false → nat_eq b 34 ≡ false → one_mark b ≡ Some d → ((x : ℕ) (y : List ℕ) → r ≡ x ∷ y → two_mark b x ≡ None) → Longest (b ∷ []) r (Operator d)
one_longest b r d l g q h p = record { is = form_of_mark b [] l g q ∙ ap operator h; longest = no_longer b r d l g q p }
  where
    no_longer : (b : ℕ) (r : List ℕ) (d : Delimiter) → is_letter b ≡ false → is_digit b ≡ false → nat_eq b 34 ≡ false → ((x : ℕ) (y : List ℕ) → r ≡ x ∷ y → two_mark b x ≡ None) → (u w : List ℕ) (other : WordForm) → r ≡ u ++ w → form_of (b ∷ u) ≡ Some other → u ≡ []
    no_longer b r d l g q p [] w other e k = refl
    no_longer b r d l g q p (x ∷ []) w other e k =
        let n = form_of_mark b (x ∷ []) l g q ∙ ap operator (p x w e) in
        cc
    no_longer b r d l g q p (x ∷ y ∷ u) w other e k =
        let n = form_of_mark b (x ∷ y ∷ u) l g q in
        cc

pub two_longest : (a b : ℕ) (r : List ℕ) (d : Delimiter) → is_letter a ≡ false → is_digit a ≡ false → nat_eq a 34 ≡ false → two_mark a b ≡ Some d → Longest (a ∷ b ∷ []) r (Operator d)
two_longest a b r d l g q h = record { is = form_of_mark a (b ∷ []) l g q ∙ ap operator h; longest = no_longer a b r l g q }
  where
    no_longer : (a b : ℕ) (r : List ℕ) → is_letter a ≡ false → is_digit a ≡ false → nat_eq a 34 ≡ false → (u w : List ℕ) (other : WordForm) → r ≡ u ++ w → form_of (a ∷ b ∷ u) ≡ Some other → u ≡ []
    no_longer a b r l g q [] w other e k = refl
    no_longer a b r l g q (x ∷ u) w other e k =
        let n = form_of_mark a (b ∷ x ∷ u) l g q in
        cc

-- a mark of two bytes begins with a mark of one
no_one_no_two : (b x : ℕ) → one_mark b ≡ None → two_mark b x ≡ None
no_one_no_two b x h = grind arith

-- a byte that begins no symbol
pub no_beginning : (b : ℕ) (w : List ℕ) → is_letter b ≡ false → is_digit b ≡ false → nat_eq b 34 ≡ false → one_mark b ≡ None → form_of (b ∷ w) ≡ None
no_beginning b [] l d q h = form_of_mark b [] l d q ∙ ap operator h
no_beginning b (x ∷ []) l d q h = form_of_mark b (x ∷ []) l d q ∙ ap operator (no_one_no_two b x h)
no_beginning b (x ∷ y ∷ w) l d q h = form_of_mark b (x ∷ y ∷ w) l d q
