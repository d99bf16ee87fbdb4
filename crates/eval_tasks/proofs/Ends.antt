-- The last items of a list, and those before them.
use Rattle.std.proofs.Common.{◌≡◌, ℕ, ◌+◌, ◌-◌, ◌≤◌, List, [], ◌++◌, length, take, drop, refl, sym, ap, ◌∙◌, ◌⊎◌, inl, inr, arith}
use Rattle.std.specs.Prelude.{reverse}
use Rattle.std.proofs.lemmas.List.{take-append-drop, reverse-append, reverse-reverse, length-reverse, length-drop, take_at, drop_at, take_all, drop_all}

less_or_past : (i n : ℕ) → (i ≤ n) ⊎ (n ≤ i)
less_or_past i n = grind arith

back_again : (n m : ℕ) → n ≤ m → m - (m - n) ≡ n
back_again n m h = omega (arith, h)

nothing_left : (n m : ℕ) → m ≤ n → m - n ≡ 0
nothing_left n m h = omega (arith, h)

module _ {A : Type 0} where
  -- so many behind some others
  parted : (xs : List A) (k n : ℕ) → length xs - k ≡ n → (drop k xs ≡ reverse (take n (reverse xs))) × (reverse (take k xs) ≡ drop n (reverse xs))
  parted xs k n e =
      let turned : reverse xs ≡ reverse (drop k xs) ++ reverse (take k xs) = ap reverse (sym (take-append-drop k xs)) ∙ reverse-append (take k xs) (drop k xs) in
      let many : length (reverse (drop k xs)) ≡ n = length-reverse (drop k xs) ∙ length-drop k xs ∙ e in (
        sym (ap (λ l. reverse (take n l)) turned ∙ ap reverse (take_at (reverse (drop k xs)) (reverse (take k xs)) n many) ∙ reverse-reverse (drop k xs)),
        sym (ap (λ l. drop n l) turned ∙ drop_at (reverse (drop k xs)) (reverse (take k xs)) n many),
      )

  -- all of them
  all_parted : (xs : List A) (n : ℕ) → length xs ≤ n → (xs ≡ reverse (take n (reverse xs))) × ([] ≡ drop n (reverse xs))
  all_parted xs n h =
      let few : length (reverse xs) ≤ n = omega (arith, length-reverse xs, h) in (
        sym (ap reverse (take_all n (reverse xs) few) ∙ reverse-reverse xs),
        sym (drop_all n (reverse xs) few),
      )

  pub last_of : (xs : List A) (n : ℕ) → (drop (length xs - n) xs ≡ reverse (take n (reverse xs))) × (reverse (take (length xs - n) xs) ≡ drop n (reverse xs))
  last_of xs n = by (less_or_past n (length xs))
    where
      by : (n ≤ length xs) ⊎ (length xs ≤ n) → (drop (length xs - n) xs ≡ reverse (take n (reverse xs))) × (reverse (take (length xs - n) xs) ≡ drop n (reverse xs))
      by (inl h) = parted xs (length xs - n) n (back_again n (length xs) h)
      by (inr h) =
          let all = all_parted xs n h in
          let none = nothing_left n (length xs) h in
          (ap (λ k. drop k xs) none ∙ all.0, ap (λ k. reverse (take k xs)) none ∙ all.1)
