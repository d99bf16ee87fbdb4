-- What a part of the parser does to the symbols that are ahead. The contracts of the parser's own functions cite it.
use Rattle.std.specs.Prelude.{◌≡◌, ℕ, suc, ◌+◌, ◌<◌, ◌≤◌, List, [], ◌∷◌, ◌++◌, length, Result, Ok, Err, Option, None, Some, Bool, true, false}
use Rattle.ob_grammar.specs.Grammar.{Phrase, many, nest}
use Rattle.ob_grammar.specs.Trees.{depth_limit}
use Rattle.ob_grammar.specs.Reading.{is_next, first, Item, item, Outcome, Wrong, Deep, Stops}
use Rattle.ob_syntax.specs.Leaves.{Leaf, numbered}
use Rattle.parse_steps.specs.declared.fault.ParseFault.{ParseFault}
use Rattle.parse_steps.specs.declared.fault.ParseFault.TheVariants.{Syntax, TooDeep, Memory}

-- where a parser is: the terminals ahead, the index of the first, and how many constructs are open
pub record State : Type 0 where
  pub rest : List ℕ
  pub at : ℕ
  pub level : ℕ

-- the terminals ahead with their indexes
abbrev pub ahead : State → List Leaf
ahead a = numbered a.at a.rest

-- f was read from a to b, and its terminals are t
pub record Parsed (f : Phrase) (a b : State) (t : List Leaf) : Type 0 where
  pub text : ahead a ≡ t ++ ahead b
  pub level : b.level ≡ a.level
  pub later : a.at ≤ b.at
  pub whole : a.at + length a.rest ≡ b.at + length b.rest
  pub by : (s : List Item) (r : List ℕ) (o : Outcome) → Stops s b.rest r o → Stops (item a.level f ∷ s) a.rest r o

-- reading f from a stops at b
pub record Stopped (f : Phrase) (a b : State) (at : ℕ) (o : Outcome) : Type 0 where
  pub place : at ≡ b.at
  pub whole : a.at + length a.rest ≡ b.at + length b.rest
  pub by : (s : List Item) → Stops (item a.level f ∷ s) a.rest b.rest o

-- want of memory says nothing of the symbols
abbrev pub StopsBy : Phrase → State → State → ParseFault → Type 0
StopsBy f a b (Syntax at) = Stopped f a b at Wrong
StopsBy f a b (TooDeep at) = Stopped f a b at Deep
StopsBy f a b Memory = Unit {0}

-- reading f from a failed at b
pub record Fails (f : Phrase) (a b : State) (e : ParseFault) : Type 0 where
  pub stops : StopsBy f a b e

-- f was read, and its terminals are those of the answer; or reading it failed
abbrev pub Gives : {X : Type 0} → Phrase → (X → List Leaf) → State → State → Result X ParseFault → Type 0
Gives f text a b (Ok x) = Parsed f a b (text x)
Gives f text a b (Err e) = Fails f a b e

-- what f begins with was next, and f was read from a to b, with the terminals t
pub record Taken (f : Phrase) (a b : State) (t : List Leaf) : Type 0 where
  pub here : true ≡ is_next (first f) a.rest
  pub read : Parsed f a b t
  pub next : a.at < b.at

-- what f begins with isn't next, and nothing was read
pub record Left (f : Phrase) (a b : State) : Type 0 where
  pub none : false ≡ is_next (first f) a.rest
  pub same : b ≡ a

-- f was read where it stands, and its terminals are those of the answer; or it doesn't stand there
abbrev pub Takes : {X : Type 0} → Phrase → (X → List Leaf) → State → State → Option X → Type 0
Takes f text a b (Some x) = Taken f a b (text x)
Takes f text a b None = Left f a b

-- the construct that k opens was entered
pub record Entered (k : ℕ) (a b : State) (i : ℕ) : Type 0 where
  pub place : i ≡ a.at
  pub next : a.rest ≡ k ∷ b.rest
  pub later : b.at ≡ suc a.at
  pub room : a.level < depth_limit
  pub level : b.level ≡ suc a.level

abbrev pub Enters : ℕ → State → State → Result ℕ ParseFault → Type 0
Enters k a b (Ok i) = Entered k a b i
Enters k a b (Err e) = (f : Phrase) → Fails (nest k f) a b e

-- some rounds of a repetition of f were read from a to b, and their terminals are t
pub record Repeated (f : Phrase) (a b : State) (t : List Leaf) : Type 0 where
  pub text : ahead a ≡ t ++ ahead b
  pub level : b.level ≡ a.level
  pub later : a.at ≤ b.at
  pub whole : a.at + length a.rest ≡ b.at + length b.rest
  pub by : (s : List Item) (r : List ℕ) (o : Outcome) → Stops (item a.level (many f) ∷ s) b.rest r o → Stops (item a.level (many f) ∷ s) a.rest r o

-- the first terminal, where there is one
abbrev pub first_of : List ℕ → Option ℕ
first_of [] = None
first_of (k ∷ w) = Some k

-- whether no terminal is left
abbrev pub is_none : List ℕ → Bool
is_none [] = true
is_none (k ∷ w) = false
