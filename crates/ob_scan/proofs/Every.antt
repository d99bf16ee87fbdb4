-- Each text has a scan.
use Rattle.std.proofs.Common.{◌≡◌, ℕ, zero, suc, ◌+◌, ◌<◌, ◌≤◌, ◌^◌, List, [], ◌∷◌, ◌++◌, Bool, true, false, nat_eq, nat_lt, Option, Some, None, ◌⊎◌, inl, inr, length, refl, sym, ap, ◌∙◌, subst, arith, length-append}
use Rattle.std.proofs.lemmas.List.{append-nil}
use Rattle.ob_symbol.specs.declared.symbol.Delimiter.{Delimiter}
use Rattle.ob_symbol.specs.declared.symbol.Symbol.{Symbol}
use Rattle.ob_scan.specs.Tables.{one_mark, two_mark}
use Rattle.ob_scan.specs.Words.{WordForm, Name, Keyword, Decimal, Hexadecimal, Character, Quoted, Operator, is_letter, is_letter_or_digit, is_digit, is_hexadecimal, is_quotable, is_blank, begins_with, begins_comment, IsTooLarge, IsTooLong, IsWithin}
use Rattle.ob_scan.specs.Scans.{Gap, Longest, Unclosed, Scans, End, Done, ends, reads, bad_byte, open_comment, open_string, too_large, too_long}
use Rattle.ob_scan.specs.Steps.{Spanned, Skipped, Past, NoBeginning, two_at, close}
use Rattle.ob_scan.proofs.Gaps.{closed, skip_none, skip_blank, skip_comment, gap_at, gap_before}
use Rattle.ob_scan.proofs.Longest.{all_more, name_longest, hexadecimal_longest, character_longest, decimal_longest, text_longest, line_over, one_longest, two_longest, no_beginning}
use Rattle.ob_scan.proofs.Places.{one_there, two_there, past_end}

-- where the bytes that pass are over
record Cut (p : ℕ → Bool) (v : List ℕ) : Type 0 where
  front : List ℕ
  rest : List ℕ
  is : Spanned p v front rest

cut_on : (p : ℕ → Bool) (b : ℕ) (v : List ℕ) (c : Bool) → p b ≡ c → Cut p v → Cut p (b ∷ v)
cut_on p b v true h k = record { front = b ∷ k.front; rest = k.rest; is = record { split = ap (λ z. b ∷ z) k.is.split; all = all_more p b k.front h k.is.all; stop = k.is.stop } }
cut_on p b v false h k = record { front = []; rest = b ∷ v; is = record { split = refl; all = refl; stop = λ x y e. (let same : b ≡ x = cc in subst (λ z. p z ≡ false) same h) } }

cut : (p : ℕ → Bool) (v : List ℕ) → Cut p v
cut p [] = record { front = []; rest = []; is = record { split = refl; all = refl; stop = λ x y e. cc } }
cut p (b ∷ v) = cut_on p b v (p b) refl (cut p v)

-- what a text begins with
data Begins (w : List ℕ) : Type 0 where
  a_symbol : (word rest : List ℕ) (form : WordForm) → w ≡ word ++ rest → Longest word rest form → Begins w
  nothing : NoBeginning w → Begins w
  a_quote : Unclosed w → Begins w

suffixed : (b last : ℕ) (v s r : List ℕ) → v ≡ s ++ r → true ≡ begins_with last r → (u : List ℕ) × (b ∷ v ≡ (b ∷ (s ++ (last ∷ []))) ++ u)
suffixed b last v s r e h =
    let k = one_there last r h in
    (k.0, ap (λ z. b ∷ z) (e ∙ (ap (λ z. s ++ z) k.1 ∙ between s last k.0)))
  where
    between : (s : List ℕ) (last : ℕ) (u : List ℕ) → s ++ (last ∷ u) ≡ (s ++ (last ∷ [])) ++ u
    between [] last u = refl
    between (a ∷ s) last u = ap (λ z. a ∷ z) (between s last u)

number_begins : (b : ℕ) (v : List ℕ) → is_digit b ≡ true → (h : Cut is_hexadecimal v) → (x y : Bool) → begins_with 72 h.rest ≡ x → begins_with 88 h.rest ≡ y → Begins (b ∷ v)
number_begins b v d h true y e f = let k = suffixed b 72 v h.front h.rest h.is.split (sym e) in a_symbol (b ∷ (h.front ++ (72 ∷ []))) k.0 _ k.1 (hexadecimal_longest b h.front k.0 d h.is.all)
number_begins b v d h false true e f = let k = suffixed b 88 v h.front h.rest h.is.split (sym f) in a_symbol (b ∷ (h.front ++ (88 ∷ []))) k.0 _ k.1 (character_longest b h.front k.0 d h.is.all)
number_begins b v d h false false e f = let k = cut is_digit v in a_symbol (b ∷ k.front) k.rest _ (ap (λ z. b ∷ z) k.is.split) (decimal_longest b v k.front k.rest h.front h.rest d k.is h.is e f)

string_begins : (v : List ℕ) (k : Cut is_quotable v) (x : Bool) → begins_with 34 k.rest ≡ x → Begins (34 ∷ v)
string_begins v k true e = let t = suffixed 34 34 v k.front k.rest k.is.split (sym e) in a_symbol (34 ∷ (k.front ++ (34 ∷ []))) t.0 Quoted t.1 (text_longest k.front t.0 k.is.all)
string_begins v k false e = a_quote (record { inside = k.front; after = k.rest; split = ap (λ z. 34 ∷ z) k.is.split; quotable = k.is.all; over = line_over k.rest k.is.stop e })

no_two : (b : ℕ) (v : List ℕ) → two_at (b ∷ v) ≡ None → (x : ℕ) (y : List ℕ) → v ≡ x ∷ y → two_mark b x ≡ None
no_two b v h x y e = ap (λ z. two_at (b ∷ z)) (sym e) ∙ h

mark_begins : (b : ℕ) (v : List ℕ) → is_letter b ≡ false → is_digit b ≡ false → nat_eq b 34 ≡ false → (m n : Option Delimiter) → two_at (b ∷ v) ≡ m → one_mark b ≡ n → Begins (b ∷ v)
mark_begins b [] l d q (Some m) n e f = absurd (cc)
mark_begins b (x ∷ v) l d q (Some m) n e f = a_symbol (b ∷ x ∷ []) v (Operator m) refl (two_longest b x v m l d q e)
mark_begins b v l d q None (Some n) e f = a_symbol (b ∷ []) v (Operator n) refl (one_longest b v n l d q f (no_two b v e))
mark_begins b v l d q None None e f = nothing (record { byte = b; rest = v; split = refl; is = λ u. no_beginning b u l d q f })

is_34 : (b : ℕ) → nat_eq b 34 ≡ true → 34 ≡ b
is_34 b h = grind arith

begins_by : (b : ℕ) (v : List ℕ) (x y z : Bool) → is_letter b ≡ x → is_digit b ≡ y → nat_eq b 34 ≡ z → Begins (b ∷ v)
begins_by b v true y z l d q = let k = cut is_letter_or_digit v in a_symbol (b ∷ k.front) k.rest _ (ap (λ u. b ∷ u) k.is.split) (name_longest b v k.front k.rest l k.is)
begins_by b v false true z l d q = let h = cut is_hexadecimal v in number_begins b v d h (begins_with 72 h.rest) (begins_with 88 h.rest) refl refl
begins_by b v false false true l d q = let k = cut is_quotable v in subst (λ a. Begins (a ∷ v)) (is_34 b q) (string_begins v k (begins_with 34 k.rest) refl)
begins_by b v false false false l d q = mark_begins b v l d q (two_at (b ∷ v)) (one_mark b) refl refl

begins : (b : ℕ) (v : List ℕ) → Begins (b ∷ v)
begins b v = begins_by b v (is_letter b) (is_digit b) (nat_eq b 34) refl refl refl

-- a form and its limits

below_or_not : (a b : ℕ) (c : Bool) → nat_lt a b ≡ c → (a < b) ⊎ (b ≤ a)
below_or_not a b true h = inl (grind arith)
below_or_not a b false h = inr (grind arith)

data Judged (form : WordForm) (w : List ℕ) : Type 0 where
  within : IsWithin form w → Judged form w
  large : IsTooLarge form → Judged form w
  long : IsTooLong form w → Judged form w

judged : (form : WordForm) (w : List ℕ) → Judged form w
judged Name w = elim (below_or_not (length w) 256 (nat_lt (length w) 256) refl) [ inl h ↦ within (omega arith) | inr h ↦ long (omega arith) ]
judged (Keyword r) w = within (omega arith)
judged (Decimal n) w = elim (below_or_not n (2 ^ 63) (nat_lt n (2 ^ 63)) refl) [ inl h ↦ within h | inr h ↦ large h ]
judged (Hexadecimal n) w = elim (below_or_not n (2 ^ 64) (nat_lt n (2 ^ 64)) refl) [ inl h ↦ within h | inr h ↦ large h ]
judged (Character n) w = elim (below_or_not n (2 ^ 8) (nat_lt n (2 ^ 8)) refl) [ inl h ↦ within h | inr h ↦ large h ]
judged Quoted w = within (omega arith)
judged (Operator d) w = within (omega arith)

-- the gap at the front of a text

record Passed (w : List ℕ) : Type 0 where
  rest : List ℕ
  past : Past w rest

after_comment : (n : ℕ) (w v : List ℕ) → length v ≤ n → Skipped w (40 ∷ 42 ∷ v) → (o : Option (List ℕ)) → close zero v ≡ o → ((u : List ℕ) → length u ≤ n → Skipped w u → Passed w) → Passed w
after_comment n w v h s None e more = record { rest = 40 ∷ 42 ∷ v; past = record { gap = s.front; split = s.split; is = gap_before w v 40 42 s refl e } }
after_comment n w v h s (Some r) e more =
    let c = closed zero v r e in
    let size : length v ≡ length c.front + length r = ap length c.split ∙ length-append c.front r in
    more r (omega arith) (skip_comment w v r 40 42 s refl e)

pass_on : (n : ℕ) (w : List ℕ) (a : ℕ) (v : List ℕ) → length v ≤ n → Skipped w (a ∷ v) → (x y : Bool) → is_blank a ≡ x → begins_comment (a ∷ v) ≡ y → ((u : List ℕ) → length u ≤ n → Skipped w u → Passed w) → Passed w
pass_on n w a v h s true y b c more = more v h (skip_blank w v a s b)
pass_on n w a v h s false true b c more =
    let k = two_there 40 42 (a ∷ v) (sym c) in
    let size : suc (length v) ≡ suc (suc (length k.0)) = ap length k.1 in
    after_comment n w k.0 (omega arith) (subst (Skipped w) k.1 s) (close zero k.0) refl more
pass_on n w a v h s false false b c more = record { rest = a ∷ v; past = record { gap = s.front; split = s.split; is = gap_at w (a ∷ v) s (λ z y e. (let same : a ≡ z = cc in subst (λ q. is_blank q ≡ false) same b)) c } }

pass : (n : ℕ) (w u : List ℕ) → length u ≤ n → Skipped w u → Passed w
pass n w [] h s = record { rest = []; past = past_end w s }
pass zero w (a ∷ v) h s = absurd (omega arith)
pass (suc n) w (a ∷ v) h s = pass_on n w a v (omega arith) s (is_blank a) (begins_comment (a ∷ v)) refl refl (λ u k t. pass n w u k t)

-- the scan

record Scan (i : ℕ) (w : List ℕ) : Type 0 where
  pub symbols : List Symbol
  pub end : End
  pub is : Scans i w symbols end

scan_of : (i : ℕ) (w v : List ℕ) (a : List Symbol) (e : End) → w ≡ v → Scans i v a e → Scan i w
scan_of i w v a e h s = record { symbols = a; end = e; is = subst (λ z. Scans i z a e) (sym h) s }

symbol_turn : (i : ℕ) (w gap r word rest : List ℕ) (form : WordForm) → w ≡ gap ++ r → Gap gap r → begins_comment r ≡ false → r ≡ word ++ rest → Longest word rest form → Judged form word → ((j : ℕ) → Scan j rest) → Scan i w
symbol_turn i w gap r word rest form e g c f k (within h) more =
    let s = more (i + length gap + length word) in
    scan_of i w (gap ++ (word ++ rest)) _ _ (e ∙ ap (λ z. gap ++ z) f) (reads {i = i} (subst (Gap gap) f g) (ap begins_comment (sym f) ∙ c) k h s.is)
symbol_turn i w gap r word rest form e g c f k (large h) more = scan_of i w (gap ++ (word ++ rest)) _ _ (e ∙ ap (λ z. gap ++ z) f) (too_large {i = i} (subst (Gap gap) f g) (ap begins_comment (sym f) ∙ c) k h)
symbol_turn i w gap r word rest form e g c f k (long h) more = scan_of i w (gap ++ (word ++ rest)) _ _ (e ∙ ap (λ z. gap ++ z) f) (too_long {i = i} (subst (Gap gap) f g) (ap begins_comment (sym f) ∙ c) k h)

not_empty : (u r : List ℕ) (k : WordForm) → Longest u r k → 0 < length u
not_empty [] r k w = absurd (let p = w.is in cc)
not_empty (c ∷ u) r k w = omega arith

turn : (n i : ℕ) (w gap r : List ℕ) → length w ≤ suc n → w ≡ gap ++ r → Gap gap r → begins_comment r ≡ false → Begins r → ((j : ℕ) (u : List ℕ) → length u ≤ n → Scan j u) → Scan i w
turn n i w gap r h e g c (a_symbol word rest form f k) more =
    let size = not_empty word rest form k in
    let all : length w ≡ length gap + (length word + length rest) = ap length (e ∙ ap (λ z. gap ++ z) f) ∙ (length-append gap (word ++ rest) ∙ ap (λ m. length gap + m) (length-append word rest)) in
    let less : length rest ≤ n = omega arith in
    symbol_turn i w gap r word rest form e g c f k (judged form word) (λ j. more j rest less)
turn n i w gap r h e g c (nothing b) more = scan_of i w (gap ++ (b.byte ∷ b.rest)) _ _ (e ∙ ap (λ z. gap ++ z) b.split) (bad_byte {i = i} (subst (Gap gap) b.split g) (ap begins_comment (sym b.split) ∙ c) b.is)
turn n i w gap r h e g c (a_quote o) more = scan_of i w (gap ++ r) _ _ e (open_string {i = i} g o)

after_gap : (n i : ℕ) (w gap r : List ℕ) → length w ≤ suc n → w ≡ gap ++ r → Gap gap r → (x : Bool) → begins_comment r ≡ x → ((j : ℕ) (u : List ℕ) → length u ≤ n → Scan j u) → Scan i w
after_gap n i w gap r h e g true c more = scan_of i w (gap ++ r) _ _ e (open_comment {i = i} g c)
after_gap n i w gap [] h e g false c more = scan_of i w gap _ _ (e ∙ append-nil gap) (ends {i = i} g)
after_gap n i w gap (b ∷ v) h e g false c more = turn n i w gap (b ∷ v) h e g c (begins b v) more

scan_by : (n i : ℕ) (w : List ℕ) → length w ≤ n → Scan i w
scan_by zero i w h = (let p = pass zero w w h (skip_none w) in after_gap zero i w p.past.gap p.rest (omega arith) p.past.split p.past.is (begins_comment p.rest) refl (λ j u k. scan_none j u k))
  where
    scan_none : (j : ℕ) (u : List ℕ) → length u ≤ zero → Scan j u
    scan_none j [] k = record { symbols = []; end = Done; is = ends (record { is = refl; longest = λ u v e g. all_empty u v e }) }
      where
        all_empty : (u v : List ℕ) → [] ≡ u ++ v → u ≡ []
        all_empty [] v e = refl
        all_empty (x ∷ u) v e = cc
    scan_none j (a ∷ u) k = absurd (omega arith)
scan_by (suc n) i w h = (let p = pass (suc n) w w h (skip_none w) in after_gap n i w p.past.gap p.rest h p.past.split p.past.is (begins_comment p.rest) refl (λ j u k. scan_by n j u k))

pub every_scan : (i : ℕ) (w : List ℕ) → (a : List Symbol) × (e : End) × Scans i w a e
every_scan i w = let s = scan_by (length w) i w (omega arith) in (s.symbols, s.end, s.is)
