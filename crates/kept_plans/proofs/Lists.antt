-- What a list has at a place, and what the list of its images has there.
use Rattle.std.proofs.Common.{◌≡◌, ◌<◌, ℕ, List, [], map, length, get_or, sym, ap, ◌∙◌}
use Rattle.std.proofs.lemmas.List.{get_or-map}

pub imaged : {X Y : Type 0} (f : X → List Y) (xs : List X) (i : ℕ) (x : X) (ys : List Y) → i < length xs → x ≡ get_or xs i x → ys ≡ f x → ys ≡ get_or (map f xs) i []
imaged f xs i x ys l is e = e ∙ ap f is ∙ sym (get_or-map f xs i x [] l)
