-- Texts in arrays, character by character.
use Rattle.std.specs.Prelude.{◌≡◌, ℕ, List, Bool, slice_index_or}
use Rattle.run_laws.specs.Turns.{State, Gives}
use Rattle.ob_types.specs.Store.{Address, Store}
use Rattle.ob_types.specs.Operators.{text_of, text_order, text_common}
use Rattle.ob_types.specs.Expressions.{bits_from}
use Rattle.eval_store.specs.declared.texts.Parting.{Parting}

-- so many cells from an address on hold these numbers
abbrev pub Holds : ℕ → Address → State Store → List ℕ → Type 0
Holds n a s xs = bits_from n a s ≡ Gives xs s

-- the character at a place: 0X behind the end
abbrev pub character : List ℕ → ℕ → ℕ
character xs i = slice_index_or xs i 0

-- where two texts part, and by which characters
pub record PartAt (xs ys : List ℕ) (q : Parting) : Type 0 where
  pub common : text_common (text_of xs) (text_of ys) ≡ q.common
  pub order : (r : ℕ → ℕ → Bool) → text_order r (text_of xs) (text_of ys) ≡ r q.left q.right
