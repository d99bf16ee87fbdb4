-- Where labels stand.
use Rattle.std.proofs.Common.{◌≡◌, ℕ, ◌+◌, ◌<◌, ◌==◌, Bool, true, false, Option, Some, None, List, [], ◌∷◌, if◌then◌else◌, arith}
use Rattle.a64_encode.specs.declared.asm.Asm.{Asm}
use Rattle.a64_encode.specs.declared.asm.Asm.TheVariants.{Word, Label, To}
use Rattle.a64_encode.specs.Assembly.{count, or_else, place_from, AreFollowed}

-- either a label stands further on, or it is the one here
here_or_later : (k p n : ℕ) (later : Option ℕ) (same : Bool) → 0 < n → ((q : ℕ) → later ≡ Some q → q < k + n) → or_else later (if same then Some k else None) ≡ Some p → p < k + n
here_or_later k p n (Some q) same some below is = below p is
here_or_later k p n None true some below is = let e : k ≡ p = cc is in omega arith
here_or_later k p n None false some below is = absurd (cc is)

-- a label's word is one of the words
pub place_below : (k : ℕ) (lines : List Asm) (label p : ℕ) → AreFollowed lines → place_from k lines label ≡ Some p → p < k + count lines
place_below k [] label p followed is = absurd (cc is)
place_below k (Label other ∷ lines) label p followed is = let below : p < k + count lines = here_or_later k p (count lines) (place_from k lines label) (other == label) followed.0 (λ q. place_below k lines label q followed.1) is in omega arith
place_below k (Word instr ∷ lines) label p followed is = let below : p < k + 1 + count lines = place_below (k + 1) lines label p followed is in omega arith
place_below k (To kind other ∷ lines) label p followed is = let below : p < k + 1 + count lines = place_below (k + 1) lines label p followed is in omega arith
