-- What a part of the judgement leaves in the state.
use Rattle.std.specs.Prelude.{◌≡◌, ℕ, List, length, map, Bool, Result}
use Rattle.ob_judge.specs.Modules.{SoFar}
use Rattle.check_types.specs.declared.table.TypeTable.{TypeTable}
use Rattle.check_types.specs.Known.{known_of}
use Rattle.check_types.specs.names.Meaning.{module_of}
use Rattle.ob_judge.specs.Judged.{Judged}
use Rattle.ob_judge.specs.Scopes.{World}
use Rattle.ob_judge.specs.Making.{Making, Part}
use Rattle.check_types.specs.steps.Answers.{Answers}
use Rattle.check_types.specs.declared.steps.fault.CheckFault.{CheckFault}
use Rattle.check_types.specs.declared.types.TypeRef.TheVariants as TheType
use Rattle.table_builder.specs.Entries.{IsElement}
use Rattle.check_making.specs.declared.making.Declaring.{Declaring}
use Rattle.check_making.specs.declared.making.Surroundings.{Surroundings}
use Rattle.check_making.specs.Making.{Makes}

-- the state stands for what it leaves
pub record Made (r : Surroundings) (s : Declaring) (b : Unit {0}) (left : Unit {0} × Making) : Type 0 where
  pub makes : Makes r s left.1

-- and the value stands for what it gives
pub record Gave {A B : Type 0} (R : B → A → Type 0) (r : Surroundings) (s : Declaring) (b : B) (left : A × Making) : Type 0 where
  pub value : R b left.0
  pub makes : Makes r s left.1

-- this is the number, and the type that it makes has one
pub record IsRecord (s : Declaring) (b : ℕ) (n : ℕ) : Type 0 where
  pub number : b ≡ n
  pub element : IsElement s.types.table.entries.items (TheType.Record b)

pub record IsPointer (s : Declaring) (b : ℕ) (n : ℕ) : Type 0 where
  pub number : b ≡ n
  pub element : IsElement s.types.table.entries.items (TheType.Pointer b)

-- this answer is that part's, from each state of the judgement that the state stood for
abbrev pub Judges : Surroundings → (old new : Declaring) → Part (Unit {0}) → Result (Unit {0}) CheckFault → Type 0
Judges r old new part result = (m : Making) → Makes r old m → Answers (Made r new) (part m) result

-- the same of a part that gives something, and of a judgement in the scope as it is
abbrev pub JudgesAs : {A B : Type 0} → (B → A → Type 0) → Surroundings → (old new : Declaring) → Part A → Result B CheckFault → Type 0
JudgesAs R r old new part result = (m : Making) → Makes r old m → Answers (Gave R r new) (part m) result

abbrev pub JudgesHere : {A B : Type 0} → (B → A → Type 0) → Surroundings → Declaring → (World → Judged A) → Result B CheckFault → Type 0
JudgesHere R r s judged result = (m : Making) → Makes r s m → Answers R (judged m.world) result

-- all modules before are these, and this is the next
pub record IsNextModule (r : Surroundings) (t : TypeTable) (strings : List (List ℕ)) (imports_in : Bool) (c : SoFar) : Type 0 where
  pub imports : c.imports_in ≡ imports_in
  pub modules : c.modules ≡ map (module_of t.types strings) r.modules.now
  pub known : c.known ≡ known_of t
  pub number : length c.modules ≡ r.module_number
