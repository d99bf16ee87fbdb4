-- Reading from the front of bytes, with the first rule that they break.
use Rattle.std.specs.Prelude.{◌≡◌, ℕ, zero, suc, ◌-◌, List, [], ◌∷◌, length, take, drop, Result, Ok, Err, nat_lt, nat_le, ◌==◌, if◌then◌else◌}
use Rattle.std.specs.Str.{bytes_eq}
use Rattle.std.specs.Int.{w32, from_le_bytes}
use Rattle.plain_form.specs.declared.fault.FormRule.{FormRule}
use Rattle.plain_form.specs.declared.fault.FormRule.TheVariants.{Missing, Mark, Range, Trailing}
use Rattle.plain_form.specs.declared.fault.FormFault.{FormFault}
use Rattle.plain_form.specs.declared.fault.FormFault.TheVariants as faults

-- a rule that is broken, and the place
pub record Broken : Type 0 where
  pub rule : FormRule
  pub at : ℕ

infixl 10 ◌>>=◌
abbrev pub ◌>>=◌ : {A B : Type 0} → Result A Broken → (A → Result B Broken) → Result B Broken
(Ok x) >>= f = f x
(Err e) >>= f = Err e

-- what a call answered, seen by `view`, is what reading gives, unless memory ran out
abbrev pub Fails : {Y : Type 0} → FormFault → Result Y Broken → Type 0
Fails faults.Memory read = Unit {0}
Fails (faults.Broken rule at) read = read ≡ Err (record { rule = rule; at = at })

abbrev pub Gives : {X Y : Type 0} → (X → Y) → Result X FormFault → Result Y Broken → Type 0
Gives view (Ok x) read = read ≡ Ok (view x)
Gives view (Err e) read = Fails e read

-- a reader takes a value from the front of bytes, and gives what is left
abbrev pub Reading : Type 0 → Type 0
Reading X = List ℕ → Result (X × List ℕ) Broken

---- Numbers and lists, where all the bytes are so many

-- bytes are missing: told at the length
abbrev pub missing : {X : Type 0} → ℕ → Result X Broken
missing total = Err (record { rule = Missing; at = total })

-- the number at the front of these is too great
abbrev pub out_of_range : {X : Type 0} → ℕ → List ℕ → Result X Broken
out_of_range total bytes = Err (record { rule = Range; at = total - length bytes })

unfoldable pub number_at : ℕ → Reading ℕ
number_at total bytes = if nat_lt (length bytes) 4 then missing total else Ok (from_le_bytes w32 (take 4 bytes), drop 4 bytes)

-- a number up to another
unfoldable pub up_to_at : ℕ → ℕ → Reading ℕ
up_to_at most total bytes = number_at total bytes >>= λ n. if nat_le n.0 most then Ok n else out_of_range total bytes

abbrev pub register_at : ℕ → Reading ℕ
register_at total = up_to_at 15 total

-- so many, one behind the other
abbrev pub several : {X : Type 0} → Reading X → ℕ → Reading (List X)
several one zero bytes = Ok ([], bytes)
several one (suc n) bytes = one bytes >>= λ first. several one n first.1 >>= λ others. Ok (first.0 ∷ others.0, others.1)

unfoldable pub list_at : {X : Type 0} → Reading X → ℕ → Reading (List X)
list_at one total bytes = number_at total bytes >>= λ n. several one n.0 n.1

---- All of the bytes

-- what stands behind the mark
unfoldable pub mark_at : List ℕ → List ℕ → Result (List ℕ) Broken
mark_at mark bytes =
    if nat_lt (length bytes) (length mark) then missing (length bytes)
    else (if bytes_eq (take (length mark) bytes) mark then Ok (drop (length mark) bytes) else Err (record { rule = Mark; at = 0 }))

-- a mark, what is read behind it, and nothing more
unfoldable pub whole_of : {X : Type 0} → List ℕ → (ℕ → Reading X) → List ℕ → Result X Broken
whole_of mark read bytes =
    mark_at mark bytes >>= λ rest.
    read (length bytes) rest >>= λ x.
    if length x.1 == 0 then Ok x.0 else Err (record { rule = Trailing; at = length bytes - length x.1 })
