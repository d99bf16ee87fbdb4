-- States that stand for what the judgement has made, part after part.
use Rattle.std.proofs.Common.{◌≡◌, Result, Ok, Err, sym, ap, ◌∙◌}
use Rattle.std.specs.Prelude.{OnOk, IfOk}
use Rattle.ob_judge.specs.Judged.{Judged, Keeps, Breaks}
use Rattle.ob_judge.specs.Scopes.{World}
use Rattle.ob_judge.specs.Making.{Making, Part}
use Rattle.judged_well.specs.Gives.{Gives}
use Rattle.check_types.specs.steps.Answers.{Answers}
use Rattle.check_types.specs.declared.steps.fault.CheckFault.{CheckFault}
use Rattle.check_making.specs.declared.making.Declaring.{Declaring}
use Rattle.check_making.specs.declared.making.Surroundings.{Surroundings}
use Rattle.check_making.specs.Making.{Makes, IsSettled}
use Rattle.check_making.specs.Parts.{Judges, JudgesAs, JudgesHere}
use Rattle.check_making.specs.parameters.Stands.{Stands}

given : {A B : Type 0} {R : B → A → Type 0} {b : B} (m : Judged A) → Answers R m (Ok b) → (a : A) × R b a
given (Keeps a) h = (a, h.by)
given (Breaks n at) h = absurd h.by

module _ {r : Surroundings} {s t : Declaring} (old : Stands r s) where
  pub stands_made : {part : Part (Unit {0})} → IsSettled r t → Judges r s t part (Ok tt) → Stands r t
  stands_made {part} ok h = let g = given (part old.making) (h old.making old.makes) in record { settled = ok; making = (g.0).1; makes = (g.1).makes }

  pub stands_gave : {A B : Type 0} {R : B → A → Type 0} {part : Part A} {b : B} → IsSettled r t → JudgesAs R r s t part (Ok b) → Stands r t
  stands_gave {part = part} ok h = let g = given (part old.making) (h old.making old.makes) in record { settled = ok; making = (g.0).1; makes = (g.1).makes }

  pub stands_still : IsSettled r t → ((m : Making) → Makes r s m → Makes r t m) → Stands r t
  stands_still ok h = record { settled = ok; making = old.making; makes = h old.making old.makes }

  -- what a part gave
  pub came : {A B : Type 0} {R : B → A → Type 0} {part : Part A} {b : B} → JudgesAs R r s t part (Ok b) → (a : A) × R b a
  came {part = part} h = let g = given (part old.making) (h old.making old.makes) in ((g.0).0, (g.1).value)

  -- a part after which the same procedure is open
  stays : {A B : Type 0} {R : B → A × Making → Type 0} {b : B} (m : Judged (A × Making)) → Answers R m (Ok b) → ((a : A × Making) → R b a → Makes r t a.1) → Gives (λ (a : A × Making). (a.1).world.procedure ≡ old.making.world.procedure) m → t.procedure ≡ s.procedure
  stays (Keeps a) h f g = sym (ap (λ (w : World). w.procedure) (f a h.by).world) ∙ g.holds ∙ ap (λ (w : World). w.procedure) old.makes.world
  stays (Breaks n at) h f g = absurd h.by

  pub open_made : {part : Part (Unit {0})} → Judges r s t part (Ok tt) → Gives (λ (a : Unit {0} × Making). (a.1).world.procedure ≡ old.making.world.procedure) (part old.making) → t.procedure ≡ s.procedure
  open_made {part} h g = stays (part old.making) (h old.making old.makes) (λ a k. k.makes) g

  pub open_gave : {A B : Type 0} {R : B → A → Type 0} {part : Part A} {b : B} → JudgesAs R r s t part (Ok b) → Gives (λ (a : A × Making). (a.1).world.procedure ≡ old.making.world.procedure) (part old.making) → t.procedure ≡ s.procedure
  open_gave {part = part} h g = stays (part old.making) (h old.making old.makes) (λ a k. k.makes) g

  pub open_still : ((m : Making) → Makes r s m → Makes r t m) → t.procedure ≡ s.procedure
  open_still h = sym (ap (λ (w : World). w.procedure) (h old.making old.makes).world) ∙ ap (λ (w : World). w.procedure) old.makes.world

-- what was found in the scope as it is
module _ {r : Surroundings} {s : Declaring} (old : Stands r s) where
  pub found : {A B : Type 0} {R : B → A → Type 0} {b : B} (j : World → Judged A) → JudgesHere R r s j (Ok b) → (a : A) × R b a
  found j h = given (j old.making.world) (h old.making old.makes)

pub on_ok : {A E P Q : Type 0} (r : Result A E) → (P → Q) → OnOk r P → OnOk r Q
on_ok (Ok a) f h = f h
on_ok (Err e) f h = h

-- the state behind a part whose answer is handed on
module _ {r : Surroundings} {s t : Declaring} (old : Stands r s) where
  pub stands_by : {A B : Type 0} {R : B → A → Type 0} {part : Part A} (result : Result B CheckFault) → OnOk result (IsSettled r t) → JudgesAs R r s t part result → OnOk result (Stands r t)
  stands_by (Ok b) ok h = stands_gave old ok h
  stands_by (Err e) ok h = ok

  pub stands_by_made : {part : Part (Unit {0})} (result : Result (Unit {0}) CheckFault) → OnOk result (IsSettled r t) → Judges r s t part result → OnOk result (Stands r t)
  stands_by_made (Ok b) ok h = stands_made old ok h
  stands_by_made (Err e) ok h = ok

pub on_ok_if : {A E : Type 0} {P Q : A → Type 0} (r : Result A E) → IfOk r P → ((a : A) → P a → Q a) → IfOk r Q
on_ok_if (Ok a) h f = f a h
on_ok_if (Err e) h f = h
