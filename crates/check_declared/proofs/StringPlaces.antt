-- The characters at the place of a string constant.
use Rattle.std.proofs.Common.{◌≡◌, ℕ, zero, suc, ◌<◌, ◌≤◌, List, [], ◌∷◌, length, get_or, refl, ap, ◌∙◌, arith}
use Rattle.std.specs.Prelude.{slice_index_or}
use Rattle.check_making.specs.declared.making.TextPlace.{TextPlace}
use Rattle.check_making.specs.Making.{characters_at, AreTextPlaces}

pub characters_there : (texts strings : List (List ℕ)) (xs : List TextPlace) (k : ℕ) (x : TextPlace) → k < length xs → x ≡ get_or xs k x → AreTextPlaces texts xs strings → characters_at texts x ≡ slice_index_or strings k []
characters_there texts strings [] k x l is h = absurd (omega (arith, l))
characters_there texts (cs ∷ strings) (y ∷ xs) zero x l is h = ap (characters_at texts) is ∙ h.0
characters_there texts (cs ∷ strings) (y ∷ xs) (suc k) x l is h = characters_there texts strings xs k x (omega (arith, l)) is h.1
characters_there texts [] (y ∷ xs) k x l is h = absurd h

pub none_there : (texts strings : List (List ℕ)) (xs : List TextPlace) (k : ℕ) → length xs ≤ k → AreTextPlaces texts xs strings → [] ≡ slice_index_or strings k []
none_there texts [] [] k l h = refl
none_there texts (cs ∷ strings) (y ∷ xs) zero l h = absurd (omega (arith, l))
none_there texts (cs ∷ strings) (y ∷ xs) (suc k) l h = none_there texts strings xs k (omega (arith, l)) h.1
none_there texts (cs ∷ strings) [] k l h = absurd h
none_there texts [] (y ∷ xs) k l h = absurd h
