-- Meanings that are counted in turns: recursions that thread a store, what was written, and the turns that are left.
use Rattle.std.specs.Prelude.{ℕ, zero, suc, List, [], ◌∷◌, ◌++◌, Bool, true, false, if◌then◌else◌}
use Rattle.run_laws.specs.Runs.{Outcome, Ended, Trapped, Going}

-- what a meaning has at a moment
pub record State (C : Type 0) : Type 0 where
  pub store : C
  pub out : List ℕ
  pub turns : ℕ

-- how a part of a meaning comes out: a value, a trap, or all turns used up
pub data Ending (C U A : Type 0) : Type 0 where
  Gives : A → State C → Ending C U A
  Fails : (trap : U) (out : List ℕ) → Ending C U A
  Spent : (out : List ℕ) → Ending C U A

-- what comes next, where there is a value
abbrev pub after : {C U A B : Type 0} → Ending C U A → (A → State C → Ending C U B) → Ending C U B
after (Gives a s) go = go a s
after (Fails trap out) go = Fails trap out
after (Spent out) go = Spent out

infixl 10 ◌>>=◌
-- one part, and then another
abbrev pub ◌>>=◌ : {C U A B : Type 0} → (State C → Ending C U A) → (A → State C → Ending C U B) → State C → Ending C U B
(m >>= f) s = after (m s) f

-- a value, with nothing done
abbrev pub give : {C U A : Type 0} → A → State C → Ending C U A
give a s = Gives a s

-- a trap
abbrev pub fail : {C U A : Type 0} → U → State C → Ending C U A
fail trap s = Fails trap s.out

-- one more number is written
abbrev pub print : {C U : Type 0} → ℕ → State C → Ending C U (Unit {0})
print n s = Gives tt (record s { out = s.out ++ n ∷ [] })

-- the store, looked at
abbrev pub look : {C U A : Type 0} → (C → A) → State C → Ending C U A
look f s = Gives (f s.store) s

-- another store
abbrev pub change : {C U : Type 0} → (C → C) → State C → Ending C U (Unit {0})
change f s = Gives tt (record s { store = f s.store })

-- one of so many turns
abbrev pub spend_of : {C U : Type 0} → ℕ → State C → Ending C U (Unit {0})
spend_of zero s = Spent s.out
spend_of (suc n) s = Gives tt (record s { turns = n })

-- a moment: one turn is spent
abbrev pub spend : {C U : Type 0} → State C → Ending C U (Unit {0})
spend s = spend_of s.turns s

-- rounds, a turn each, as long as they say so; fuel bounds the recursion, and is never met before the turns are used up
abbrev pub repeat : {C U : Type 0} → ℕ → (State C → Ending C U Bool) → State C → Ending C U (Unit {0})
repeat zero round s = Spent s.out
repeat (suc fuel) round s = (do
  _ ← spend
  goes_on ← round
  if goes_on then repeat fuel round else give tt) s

-- a test and, where it holds, a body: a turn each time
abbrev pub while_so : {C U : Type 0} → ℕ → (State C → Ending C U Bool) → (State C → Ending C U (Unit {0})) → State C → Ending C U (Unit {0})
while_so fuel test body = repeat fuel (do
  holds ← test
  if holds then (body >>= λ _. give true) else give false)

-- a body and then, for a turn, a test, and both again until it holds
abbrev pub until_so : {C U : Type 0} → ℕ → (State C → Ending C U (Unit {0})) → (State C → Ending C U Bool) → State C → Ending C U (Unit {0})
until_so fuel body test = do
  _ ← body
  repeat fuel (do
    holds ← test
    if holds then give false else (body >>= λ _. give true))

-- at most n parts, numbered from i on, a turn behind each, as long as they say so: cells that are copied, say
abbrev pub each_so : {C U : Type 0} → ℕ → ℕ → (ℕ → State C → Ending C U Bool) → State C → Ending C U (Unit {0})
each_so zero i part = give tt
each_so (suc n) i part = do
  goes_on ← part i
  _ ← spend
  if goes_on then each_so n (suc i) part else give tt

-- the outcome of a whole meaning
abbrev pub outcome : {C U A : Type 0} → Ending C U A → Outcome U
outcome (Gives a s) = Ended s.out
outcome (Fails trap out) = Trapped trap out
outcome (Spent out) = Going out
