-- When reading and spelling are inverse.
use Rattle.std.specs.Prelude.{◌≡◌, ℕ, ◌<◌, List, ◌++◌, get_or, Ok}
use Rattle.plain_form.specs.Reading.{Reading}

abbrev pub IsBytes : List ℕ → Type 0
IsBytes bytes = (i : ℕ) → get_or bytes i 0 < 256

-- what a reader took from the front
pub record Takes (bytes text rest : List ℕ) : Type 0 where
  pub parts : bytes ≡ text ++ rest
  pub rest_fits : IsBytes rest

-- what is read is spelled so, and what is spelled so is read again
pub record IsFormat {X : Type 0} (spell : X → List ℕ) (read : Reading X) (Fits : X → Type 0) : Type 0 where
  pub takes : (bytes : List ℕ) (x : X) (rest : List ℕ) → IsBytes bytes → read bytes ≡ Ok (x, rest) → Takes bytes (spell x) rest × Fits x
  pub again : (x : X) (rest : List ℕ) → Fits x → read (spell x ++ rest) ≡ Ok (x, rest)
