-- One hexadecimal digit more.
use Rattle.std.proofs.Common.{◌≡◌, ◌<◌, ◌-◌, ◌*◌, ◌/◌, ◌%◌, ◌^◌, ℕ, zero, suc, List, [], ◌∷◌, ◌++◌, false, ap, ◌∙◌, subst, append_assoc, arith}
use Rattle.std.specs.Fmt.{digit_glyph}
use Rattle.a64_text.specs.Operands.{last_digits}

-- the digit before the last ones
pub next_digit : (text : List ℕ) (digit left number : ℕ) → 0 < left → digit ≡ digit_glyph false (number / 2 ^ (4 * (left - 1)) % 16)
    → (text ++ digit ∷ []) ++ last_digits (left - 1) number ≡ text ++ last_digits left number
next_digit text digit zero number l e = absurd (omega arith)
next_digit text digit (suc k) number l e =
    let less : suc k - 1 ≡ k = omega arith in
    let same : digit ≡ digit_glyph false (number / 2 ^ (4 * k) % 16) = subst (λ m. digit ≡ digit_glyph false (number / 2 ^ (4 * m) % 16)) less e in
    append_assoc text (digit ∷ []) (last_digits (suc k - 1) number) ∙ ap (λ m. text ++ digit ∷ last_digits m number) less ∙ ap (λ d. text ++ d ∷ last_digits k number) same
