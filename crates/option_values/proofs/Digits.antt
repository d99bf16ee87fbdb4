-- Texts of digits, as numbers.
use Rattle.std.proofs.Common.{◌≡◌, ℕ, ◌<◌, ◌≤◌, ◌^◌, Bool, true, false, ◌&&◌, List, [], ◌∷◌, length, drop, nat_le, Some, None, cond, ⊎_elim, refl, sym, ap, ap₂, subst, arith}
use Rattle.std.specs.List.{list_all}
use Rattle.std.specs.Str.Parse.{AllDigits, IsNumeral, digits_value, without_leading_plus}
use Rattle.std.specs.Char.{digit_value}
use Rattle.std.proofs.lemmas.Bool.{leb-true, ne_eqb}
use Rattle.std.proofs.lemmas.Bool.Decides.{leb_tells}
use Rattle.std.proofs.lemmas.Str.{digit_value_digit}
use Rattle.option_values.specs.Numbers.{is_digit, is_number, is_between, number_between}

first_holds : (a b : Bool) → (a && b) ≡ true → a ≡ true
first_holds true b e = refl
first_holds false b e = cc

second_holds : (a b : Bool) → (a && b) ≡ true → b ≡ true
second_holds true b e = e
second_holds false b e = cc

not_le : (a b : ℕ) → (a ≤ b → ⊥) → nat_le a b ≡ false
not_le a b h = ⊎_elim (λ t. absurd (h t.1)) (λ f. f.0) (leb_tells a b)

not_and : (a b : Bool) → b ≡ false → (a && b) ≡ false
not_and true b e = e
not_and false b e = refl

digit_below : (byte : ℕ) → is_digit byte ≡ true → digit_value byte < 10
digit_below byte e =
    let least : 48 ≤ byte = leb-true 48 byte (first_holds (nat_le 48 byte) (nat_le byte 57) e) in
    let most : byte ≤ 57 = leb-true byte 57 (second_holds (nat_le 48 byte) (nat_le byte 57) e) in
    let value = digit_value_digit byte (least, most) in
    omega (arith, value, most)

all_digits : (text : List ℕ) → list_all is_digit text ≡ true → AllDigits 10 text
all_digits [] e = tt
all_digits (byte ∷ rest) e = (digit_below byte (first_holds _ _ e), all_digits rest (second_holds _ _ e))

no_plus : (text : List ℕ) → list_all is_digit text ≡ true → without_leading_plus text ≡ text
no_plus [] e = refl
no_plus (byte ∷ rest) e =
    let most : byte ≤ 57 = leb-true byte 57 (second_holds (nat_le 48 byte) (nat_le byte 57) (first_holds (is_digit byte) (list_all is_digit rest) e)) in
    let least : 48 ≤ byte = leb-true 48 byte (first_holds (nat_le 48 byte) (nat_le byte 57) (first_holds (is_digit byte) (list_all is_digit rest) e)) in
    ap (λ b. drop (cond b 1 0) (byte ∷ rest)) (ne_eqb byte 43 (λ h. absurd (omega (arith, least, h))))

-- a text of digits is a numeral, as `parse` reads it
pub numeral : (text : List ℕ) → is_number text ≡ true → IsNumeral 10 (without_leading_plus text) × (digits_value 10 (without_leading_plus text) ≡ digits_value 10 text)
numeral text e =
    let size : (nat_le 1 (length text) && nat_le (length text) 19) ≡ true = first_holds _ (list_all is_digit text) e in
    let digits : list_all is_digit text ≡ true = second_holds (nat_le 1 (length text) && nat_le (length text) 19) _ e in
    let some : 1 ≤ length text = leb-true 1 (length text) (first_holds _ (nat_le (length text) 19) size) in
    let plain = no_plus text digits in
    (subst (IsNumeral 10) (sym plain) (some, all_digits text digits), ap (digits_value 10) plain)

-- what isn't read is more than 64 bits have
pub unread : (least most : ℕ) (text : List ℕ) → is_number text ≡ true → most < 2 ^ 64
    → (IsNumeral 10 (without_leading_plus text) × (digits_value 10 (without_leading_plus text) < 2 ^ 64) → ⊥) → None ≡ number_between least most text
unread least most text e l refused =
    let n = numeral text e in
    let large : (digits_value 10 text < 2 ^ 64 → ⊥) = λ h. refused (n.0, subst (λ x. x < 2 ^ 64) (sym n.1) h) in
    let over : nat_le (digits_value 10 text) most ≡ false = not_le (digits_value 10 text) most (λ h. large (omega (arith, l, h))) in
    let outside : is_between least most (digits_value 10 text) ≡ false = not_and (nat_le least (digits_value 10 text)) _ over in
    sym (ap₂ (λ a b. cond (a && b) (Some (digits_value 10 text)) None) e outside)
