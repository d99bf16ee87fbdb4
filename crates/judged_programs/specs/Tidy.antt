-- What each part of the judgement keeps, whatever the whole program is: the types that are named are known, record types
-- are completed one after the other, variables are of types that variables may have.
use Rattle.std.specs.Prelude.{◌≡◌, ◌<◌, ◌≤◌, ◌+◌, ℕ, List, [], ◌∷◌, length, Bool, true, false, Option, Some, None, slice_get}
use Rattle.ob_types.specs.WellFormed.{words_of}
use Rattle.ob_judge.specs.Shapes.{Shape, Layout}
use Rattle.ob_judge.specs.Image.{Global, Formal, Procedure}
use Rattle.ob_judge.specs.Scopes.{Object, AType, AVariable, Entry, KnownModule, World}
use Rattle.ob_judge.specs.Making.{Making}
use Rattle.ob_judge.specs.Parameters.{Listed, mode_of}
use Rattle.judged_well.specs.Standing.{is_whole, is_formal, is_result}
use Rattle.judged_modules.specs.Sound.{AllNames}
use Rattle.judged_modules.specs.Lines.{AllLines}
use Rattle.judged_modules.specs.Lists.{Each}
use Rattle.judged_programs.specs.Complete.{IsKnown}
use Rattle.judged_programs.specs.Ranked.{IsRanked}

-- a type that is named is known
abbrev pub IsKnownObject : List Layout → Object → Type 0
IsKnownObject records (AType a) = IsKnown records a
IsKnownObject records o = Unit {0}

-- all types that a module offers are known
abbrev pub OffersKnown : List Layout → KnownModule → Type 0
OffersKnown records m = (q : List ℕ) (x : Entry) → m.names q ≡ Some x → IsKnownObject records x.object

-- a variable that is known in a whole module is one of the module's
abbrev pub IsOfModule : ℕ → Object → Type 0
IsOfModule n (AVariable v) = (v.procedure ≡ None) × (j : ℕ) × (v.place ≡ Global n j)
IsOfModule n o = Unit {0}

abbrev pub AreOfModule : ℕ → (List ℕ → Option Entry) → Type 0
AreOfModule n l = (q : List ℕ) (x : Entry) → l q ≡ Some x → IsOfModule n x.object

-- the predeclared names, the module's, and then those of procedures
abbrev pub IsNested : List (List ℕ → Option Entry) → Option ℕ → ℕ → Type 0
IsNested [] o n = ⊥
IsNested (l ∷ []) o n = ⊥
IsNested (l ∷ k ∷ []) o n = (o ≡ None) × AreOfModule n k
IsNested (l ∷ k ∷ m ∷ ls) o n = AreOfModule n k

abbrev pub AreWhole : List Shape → Type 0
AreWhole as' = Each (λ a. is_whole a ≡ true) as'

abbrev pub words_in : List Formal → ℕ
words_in [] = 0
words_in (x ∷ xs) = words_of x.mode + words_in xs

-- a parameter of a type that parameters may have, handed over as its type is
abbrev pub IsHandedOver : Formal → Type 0
IsHandedOver x = (x.mode ≡ mode_of x.variable x.shape) × (is_formal x.shape ≡ true)

pub record IsLegalProcedure (q : Procedure) : Type 0 where
  pub locals : AreWhole q.locals
  pub words : words_in q.formals ≤ 24
  pub result : is_result q.result ≡ true
  pub formals : Each IsHandedOver q.formals

-- what is known in scope, and what is made so far; from this number on no procedure is a module's body
pub record TidyIn (from : ℕ) (v : World) (variables : List Shape) (procedures : List Procedure) : Type 0 where
  pub nested : IsNested v.levels v.procedure v.module_number
  pub names : AllNames (IsKnownObject v.known.records) v.levels
  pub members : (n : ℕ) (m : KnownModule) → slice_get v.modules n ≡ Some m → OffersKnown v.known.records m
  pub lines : AllLines v.known.records
  pub ranked : IsRanked v.known.records
  pub targets : (n r : ℕ) → slice_get v.known.bases n ≡ Some (Some r) → r < length v.known.records
  pub whole : AreWhole variables
  pub legal : (f : ℕ) (q : Procedure) → slice_get procedures f ≡ Some q → IsLegalProcedure q
  pub no_body : (f : ℕ) (q : Procedure) → from ≤ f → slice_get procedures f ≡ Some q → q.is_body ≡ false

abbrev pub Tidy : ℕ → Making → Type 0
Tidy from s = TidyIn from s.world s.variables s.procedures

-- parameters of types that they may have, whose argument words are counted, and few
pub record AreListed (l : Listed) : Type 0 where
  pub counted : words_in l.parameters ≡ l.words
  pub few : l.words ≤ 24
  pub formals : Each IsHandedOver l.parameters

-- where names are made known, it is in a procedure
abbrev pub IsInProcedure : Bool → Making → Type 0
IsInProcedure b s = b ≡ true → (f : ℕ) × (s.world.procedure ≡ Some f)
