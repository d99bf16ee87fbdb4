-- Hexadecimal digits, from the last one on.
use Rattle.std.proofs.Common.{◌≡◌, ℕ, suc, subst, ◌+◌, ◌-◌, ◌/◌, ◌%◌, ◌<◌, ◌≤◌, List, [], ◌∷◌, ◌++◌, length, drop, refl, sym, ap, ◌∙◌, append_assoc, arith}
use Rattle.std.proofs.lemmas.List.{append-nil, drop-set, length-set}
use Rattle.std.proofs.Math.Seq.{drop-length}
use Rattle.std.proofs.Math.ListN.{set}
use Rattle.trc_answers.specs.Causes.{hex, hex_digit}

more : (digits n : ℕ) → hex (suc digits) n ≡ hex digits (n / 16) ++ hex_digit (n % 16) ∷ []
unfolding hex
more digits n = refl

none : (n : ℕ) → hex 0 n ≡ []
unfolding hex
none n = refl

-- no digit is put yet
pub begun : (digits : List ℕ) (n : ℕ) → hex (length digits) n ≡ hex (length digits) n ++ drop (length digits) digits
begun digits n = sym (ap (λ d. hex (length digits) n ++ d) (drop-length digits) ∙ append-nil _)

-- one more digit is put, in front of those that are there
pub put : (whole : List ℕ) (at left : ℕ) (digits : List ℕ) → at < length digits → whole ≡ hex (suc at) left ++ drop (suc at) digits
    → whole ≡ hex at (left / 16) ++ drop at (set digits at (hex_digit (left % 16)))
put whole at left digits l e =
    let next : at + 1 ≡ suc at = omega arith in
    let new : drop at (set digits at (hex_digit (left % 16))) ≡ hex_digit (left % 16) ∷ drop (suc at) digits = drop-set digits at (hex_digit (left % 16)) l ∙ ap (λ n. hex_digit (left % 16) ∷ drop n digits) next in
    e ∙ ap (λ h. h ++ drop (suc at) digits) (more at left) ∙ append_assoc (hex at (left / 16)) (hex_digit (left % 16) ∷ []) (drop (suc at) digits)
    ∙ ap (λ d. hex at (left / 16) ++ d) (sym new)

-- all are put
pub whole : (digits hexed : List ℕ) (left : ℕ) → hexed ≡ hex 0 left ++ drop 0 digits → digits ≡ hexed
whole digits hexed left e = sym (e ∙ ap (λ h. h ++ digits) (none left))

-- a round: the digit in front of those that are put
pub round : (n number at left : ℕ) (digits : List ℕ) (digit : ℕ) → 0 < at → (at ≤ length digits) × (length digits ≡ n) × (hex n number ≡ hex at left ++ drop at digits) → digit ≡ hex_digit (left % 16)
    → (at - 1 ≤ length (set digits (at - 1) digit)) × (length (set digits (at - 1) digit) ≡ n) × (hex n number ≡ hex (at - 1) (left / 16) ++ drop (at - 1) (set digits (at - 1) digit))
round n number at left digits digit some kept is =
    let within = kept.0 in
    let same : length (set digits (at - 1) digit) ≡ length digits = length-set digits (at - 1) digit in
    let next : suc (at - 1) ≡ at = omega (arith, some) in
    let before : hex n number ≡ hex (suc (at - 1)) left ++ drop (suc (at - 1)) digits = kept.2 ∙ ap (λ x. hex x left ++ drop x digits) (sym next) in
    let here : at - 1 < length digits = omega (arith, some, within) in (
      omega (arith, within, same),
      same ∙ kept.1,
      subst (λ d. hex n number ≡ hex (at - 1) (left / 16) ++ drop (at - 1) (set digits (at - 1) d)) (sym is) (put (hex n number) (at - 1) left digits here before),
    )

-- behind the last round
pub done : (n number at left : ℕ) (digits : List ℕ) → (at ≤ length digits) × (length digits ≡ n) × (hex n number ≡ hex at left ++ drop at digits) → (0 < at → ⊥) → digits ≡ hex n number
done n number at left digits kept none_left =
    let last : at ≡ 0 = omega (arith, none_left) in
    whole digits (hex n number) left (kept.2 ∙ ap (λ x. hex x left ++ drop x digits) last)
