-- Where parts begin that stand one behind the other, from their widths.
use Rattle.std.specs.Prelude.{◌≡◌, ℕ, ◌+◌, ◌<◌, List, [], ◌∷◌, length}
use Rattle.placed_code.specs.Layout.{position}
use Rattle.link_words.specs.Fields.{entry_in}

abbrev pub starts_from : ℕ → List ℕ → List ℕ
starts_from k [] = []
starts_from k (w ∷ ws) = k ∷ starts_from (k + w) ws

-- where the last one ends
abbrev pub end_from : ℕ → List ℕ → ℕ
end_from k [] = k
end_from k (w ∷ ws) = end_from (k + w) ws

-- so many places, and at each number what stands in the other list at the number's first place in the order
pub record IsByNumber (order starts : List ℕ) (count : ℕ) (places : List ℕ) : Type 0 where
  pub size : length places ≡ count
  pub found : (b : ℕ) → b < count → position order b < length order → entry_in places b ≡ entry_in starts (position order b)
