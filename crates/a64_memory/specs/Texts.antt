-- Texts in memory, as a service writes them.
use Rattle.std.specs.Prelude.{ℕ, zero, suc, List, [], ◌∷◌, ◌++◌, Option, Some, None}
use Rattle.wrapping_numbers.specs.Numbers.{add64}
use Rattle.a64_memory.specs.Memory.{Area, load1}

-- the bytes of a text, or the first address of it that lies in no area
pub data Text : Type 0 where
  Bytes : List ℕ → Text
  Outside : (address : ℕ) → Text

abbrev pub before : ℕ → Text → Text
before byte (Bytes bytes) = Bytes (byte ∷ bytes)
before byte (Outside address) = Outside address

-- bytes in front of a text
abbrev pub after_bytes : List ℕ → Text → Text
after_bytes front (Bytes bytes) = Bytes (front ++ bytes)
after_bytes front (Outside address) = Outside address

-- the text that begins with the byte at an address, where there is one and it isn't 0
abbrev pub text_with : Option ℕ → ℕ → Text → Text
text_with None address rest = Outside address
text_with (Some zero) address rest = Bytes []
text_with (Some (suc n)) address rest = before (suc n) rest

-- the bytes at an address, and so on by so many bytes, before the first 0 and at most so many of them
abbrev pub text_at : List Area → ℕ → ℕ → ℕ → Text
text_at memory by address zero = Bytes []
text_at memory by address (suc most) = text_with (load1 memory address) address (text_at memory by (add64 address by) most)
