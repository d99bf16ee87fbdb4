-- Words of other lengths, and words by their first letters.
use Rattle.std.proofs.Common.{◌≡◌, ℕ, ◌<◌, List, [], ◌∷◌, length, get_or, Bool, true, false, nat_eq, refl, sym, subst, arith, ◌∙◌, ⊎_elim}
use Rattle.std.proofs.lemmas.Bool.Decides.{eqb_tells}
use lib.Pointwise.{pointwise_long}
use Rattle.ob_scan.specs.Tables.{is_same, reserved_of, reserved_with}

false_by : (b : Bool) → (b ≡ true → ⊥) → b ≡ false
false_by true h = absurd (h refl)
false_by false h = refl

unequal : (a b : ℕ) → (a ≡ b → ⊥) → nat_eq a b ≡ false
unequal a b h = ⊎_elim (λ p. absurd (h p.1)) (λ p. p.0) (eqb_tells a b)

-- words of other lengths aren't the same
pub of_other_lengths : (x y : List ℕ) → (length x ≡ length y → ⊥) → nat_eq (length x) (length y) ≡ is_same x y
unfolding is_same
of_other_lengths x y h = unequal (length x) (length y) h ∙ sym (false_by (is_same x y) (λ e. h (pointwise_long nat_eq x y e)))

-- what holds of a letter and of all other bytes
by_letter : (P : ℕ → Type 0) (k b : ℕ) → P k → (nat_eq b k ≡ false → P b) → P b
by_letter P k b same other = ⊎_elim (λ p. subst P (sym p.1) same) (λ p. other p.0) (eqb_tells b k)

with_none : (b : ℕ) (v : List ℕ) → nat_eq b 65 ≡ false → nat_eq b 66 ≡ false → nat_eq b 67 ≡ false → nat_eq b 68 ≡ false → nat_eq b 69 ≡ false → nat_eq b 70 ≡ false → nat_eq b 73 ≡ false → nat_eq b 77 ≡ false → nat_eq b 78 ≡ false → nat_eq b 79 ≡ false → nat_eq b 80 ≡ false → nat_eq b 82 ≡ false → nat_eq b 84 ≡ false → nat_eq b 85 ≡ false → nat_eq b 86 ≡ false → nat_eq b 87 ≡ false → reserved_with b (b ∷ v) ≡ reserved_of (b ∷ v)
unfolding is_same
with_none b v n65 n66 n67 n68 n69 n70 n73 n77 n78 n79 n80 n82 n84 n85 n86 n87 = rw (n65, n66, n67, n68, n69, n70, n73, n77, n78, n79, n80, n82, n84, n85, n86, n87) refl

-- the reserved word that a word is, found among those that begin as it does
pub with_first : (b : ℕ) (v : List ℕ) → reserved_with b (b ∷ v) ≡ reserved_of (b ∷ v)
unfolding is_same
with_first b v =
    by_letter (λ n. reserved_with n (n ∷ v) ≡ reserved_of (n ∷ v)) 65 b refl (λ n65.
    by_letter (λ n. reserved_with n (n ∷ v) ≡ reserved_of (n ∷ v)) 66 b refl (λ n66.
    by_letter (λ n. reserved_with n (n ∷ v) ≡ reserved_of (n ∷ v)) 67 b refl (λ n67.
    by_letter (λ n. reserved_with n (n ∷ v) ≡ reserved_of (n ∷ v)) 68 b refl (λ n68.
    by_letter (λ n. reserved_with n (n ∷ v) ≡ reserved_of (n ∷ v)) 69 b refl (λ n69.
    by_letter (λ n. reserved_with n (n ∷ v) ≡ reserved_of (n ∷ v)) 70 b refl (λ n70.
    by_letter (λ n. reserved_with n (n ∷ v) ≡ reserved_of (n ∷ v)) 73 b refl (λ n73.
    by_letter (λ n. reserved_with n (n ∷ v) ≡ reserved_of (n ∷ v)) 77 b refl (λ n77.
    by_letter (λ n. reserved_with n (n ∷ v) ≡ reserved_of (n ∷ v)) 78 b refl (λ n78.
    by_letter (λ n. reserved_with n (n ∷ v) ≡ reserved_of (n ∷ v)) 79 b refl (λ n79.
    by_letter (λ n. reserved_with n (n ∷ v) ≡ reserved_of (n ∷ v)) 80 b refl (λ n80.
    by_letter (λ n. reserved_with n (n ∷ v) ≡ reserved_of (n ∷ v)) 82 b refl (λ n82.
    by_letter (λ n. reserved_with n (n ∷ v) ≡ reserved_of (n ∷ v)) 84 b refl (λ n84.
    by_letter (λ n. reserved_with n (n ∷ v) ≡ reserved_of (n ∷ v)) 85 b refl (λ n85.
    by_letter (λ n. reserved_with n (n ∷ v) ≡ reserved_of (n ∷ v)) 86 b refl (λ n86.
    by_letter (λ n. reserved_with n (n ∷ v) ≡ reserved_of (n ∷ v)) 87 b refl (λ n87.
    with_none b v n65 n66 n67 n68 n69 n70 n73 n77 n78 n79 n80 n82 n84 n85 n86 n87))))))))))))))))

pub with_its_first : (w : List ℕ) → 0 < length w → reserved_with (get_or w 0 0) w ≡ reserved_of w
with_its_first [] h = absurd (omega arith)
with_its_first (b ∷ v) h = with_first b v
