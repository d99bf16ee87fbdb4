-- What a sink took.
use Rattle.std.specs.Prelude.{◌≡◌, ℕ, List, ◌++◌, length, Option, Some, None}
use Rattle.outside.specs.Counts.{raised, Rose}

-- what a sink tells of itself: the bytes that it took and how many they are, where it tells them, and how many faults
-- there were
pub record Account : Type 0 where
  pub taken : Option (List ℕ)
  pub amount : Option ℕ
  pub faults : ℕ

-- where content is told, the bytes joined it at its end; where it isn't told, it isn't told afterwards
abbrev pub Took : Option (List ℕ) → List ℕ → Option (List ℕ) → Type 0
Took None bytes new = new ≡ None
Took (Some old) bytes new = new ≡ Some (old ++ bytes)

-- where the amount is told, it rose by n, up to the greatest count
abbrev pub Grew : Option ℕ → ℕ → Option ℕ → Type 0
Grew None n new = new ≡ None
Grew (Some old) n new = new ≡ Some (raised old n)

-- between two accounts the sink took these bytes, and no others
pub record TookAll (old new : Account) (bytes : List ℕ) : Type 0 where
  pub took : Took old.taken bytes new.taken
  pub grew : Grew old.amount (length bytes) new.amount

-- it took a front of these bytes
pub record TookFront (old new : Account) (bytes : List ℕ) : Type 0 where
  pub front : List ℕ
  pub rest : List ℕ
  pub parts : bytes ≡ front ++ rest
  pub took : TookAll old new front

-- it took nothing
pub record TookNothing (old new : Account) : Type 0 where
  pub taken : new.taken ≡ old.taken
  pub amount : new.amount ≡ old.amount

-- its count of faults rose, or stands at the greatest
abbrev pub Faulted : Account → Account → Type 0
Faulted old new = Rose old.faults new.faults
