-- What parts leave, and what holds of the states that stand for it.
use Rattle.std.proofs.Common.{◌≡◌, ◌≤◌, ◌*◌, ℕ, Result, Ok, Err, sym, subst}
use Rattle.std.specs.Prelude.{OnOk, IfOk, min}
use Rattle.ob_syntax.specs.Syntax as S
use Rattle.ob_judge.specs.Judged.{Judged, Keeps, Breaks, ◌>>=◌}
use Rattle.ob_judge.specs.Shapes as J
use Rattle.ob_judge.specs.Scopes.{Source}
use Rattle.ob_judge.specs.Making.{Making, Part, new_pointer}
use Rattle.ob_judge.specs.Types.{type_part}
use Rattle.judged_well.specs.Gives.{Gives}
use Rattle.judged_well.proofs.Judging.{weaken}
use Rattle.judged_modules.proofs.TypesGrow.{i_type}
use Rattle.check_types.specs.steps.Answers.{Answers, Refuses}
use Rattle.check_types.specs.declared.steps.fault.CheckFault.{CheckFault}
use Rattle.check_types.specs.declared.steps.fault.CheckFault.TheVariants.{Fault, Memory}
use Rattle.check_types.specs.declared.types.TypeRef.{TypeRef}
use Rattle.check_types.specs.declared.types.TypeRef.TheVariants as TheType
use Rattle.check_types.specs.declared.table.Layout.{Layout}
use Rattle.check_types.specs.declared.table.TypeTable.{TypeTable}
use Rattle.table_builder.specs.Cells.{most_cells}
use Rattle.table_builder.specs.Entries.{IsElement}
use Rattle.check_making.specs.declared.making.Declaring.{Declaring}
use Rattle.check_making.specs.declared.making.Surroundings.{Surroundings}
use Rattle.check_making.specs.Making.{Makes, IsSettled}
use Rattle.check_making.specs.Parts.{Gave, Judges, JudgesAs, IsPointer}
use Rattle.check_making.specs.parameters.Stands.{Stands}
use Rattle.check_making.proofs.parameters.Stages.{came, open_made, open_gave}
use Rattle.check_making.specs.new_types.Layouts.{IsSoFar, IsSoFarIn}
use Rattle.check_making.proofs.new_types.Cells.{narrow_counted}
use Rattle.check_making.specs.new_types.Records.{IsKnown}
use Rattle.check_declared.specs.type_parts.Records.{HasLayout}

-- what was given, and what is known of it
pub left_with : {A B : Type 0} {R : B → A → Type 0} {P : A → Type 0} {b : B} (m : Judged A) → Answers R m (Ok b) → Gives P m → (a : A) × R b a × P a
left_with (Keeps a) h g = (a, h.by, g.holds)
left_with (Breaks n at) h g = absurd h.by

refuses_in : {A : Type 0} (a : A) (m : Making) (e : CheckFault) → Refuses (Keeps a) e → Refuses {A = A × Making} (Keeps (a, m)) e
refuses_in a m (Fault n at) h = h
refuses_in a m Memory h = tt

-- what was judged in the scope as it is
pub gives_in : {A B : Type 0} {R : B → A → Type 0} {r : Surroundings} {t : Declaring} (a : A) (m : Making) (result : Result B CheckFault) → Makes r t m → Answers R (Keeps a) result → Answers (Gave R r t) (Keeps (a, m)) result
gives_in a m (Ok b) makes h = record { by = record { value = h.by; makes = makes } }
gives_in a m (Err e) makes h = record { by = refuses_in a m e h.by }

pub gives_here : {A B : Type 0} {R : B → A → Type 0} {r : Surroundings} {t : Declaring} (j : Judged A) (m : Making) (result : Result B CheckFault) → OnOk result (Makes r t m) → Answers R j result → Answers (Gave R r t) (j >>= λ a. Keeps (a, m)) result
gives_here (Keeps a) m (Ok b) makes h = gives_in a m (Ok b) makes h
gives_here (Keeps a) m (Err e) makes h = record { by = refuses_in a m e h.by }
gives_here (Breaks n at) m (Ok b) makes h = absurd h.by
gives_here (Breaks n at) m (Err e) makes h = record { by = h.by }

pub all_ok : {A E : Type 0} {P : Type 0} (r : Result A E) → P → OnOk r P
all_ok (Ok a) h = h
all_ok (Err e) h = tt

-- fields that stand for some
pub has_layout : (s : Declaring) (j : Judged J.Layout) (result : Result Layout CheckFault) → Answers (IsSoFarIn s) j result → IfOk result (λ l. HasLayout s l)
has_layout s (Keeps a) (Ok l) h = record { layout = a; so_far = h.by }
has_layout s (Breaks n at) (Ok l) h = absurd h.by
has_layout s j (Err e) h = tt

thin : {t : TypeTable} {g : J.Layout} (l : Layout) → IsSoFar t l g → l.extent.bytes ≤ 8 * l.cells
thin {g = g} l k = subst (λ x. x.bytes ≤ 8 * l.cells) (sym k.extent) (subst (λ n. min most_cells g.extent.bytes ≤ 8 * n) (sym k.cells) (narrow_counted g.extent.bytes g.cells k.narrow))

pub layout_known : (s t : Declaring) (l : Layout) → t.types ≡ s.types → HasLayout s l → IsKnown t.types.table l
layout_known s t l e h =
    let k = h.so_far in
    subst (λ z. IsKnown z.table l) (sym e) (record { elements = k.elements; closed = k.closed; short = k.short; narrow = thin l k })

-- ---- fields, and the state in which they were judged

pub record FieldsStand (r : Surroundings) (b : Declaring × Layout) (a : J.Layout × Making) : Type 0 where
  pub so_far : IsSoFarIn b.0 b.1 a.0
  pub makes : Makes r b.0 a.1

pub fields_stand : {r : Surroundings} {t : Declaring} {l : Layout} (m : Judged (J.Layout × Making)) → Answers (Gave (IsSoFarIn t) r t) m (Ok l) → Answers (FieldsStand r) m (Ok (t, l))
fields_stand (Keeps a) h = record { by = record { so_far = (h.by).value; makes = (h.by).makes } }
fields_stand (Breaks n at) h = absurd h.by

pub fields_left : {r : Surroundings} (t : Declaring) (l : Layout) (a : J.Layout × Making) → FieldsStand r (t, l) a → Answers (Gave (IsSoFarIn t) r t) (Keeps a) (Ok l)
fields_left t l a h = record { by = record { value = h.so_far; makes = h.makes } }

-- the same procedure is open
module _ {r : Surroundings} {s t : Declaring} (old : Stands r s) where
  pub type_opens : (p : Source) (x : S.TypeTree) {R : TypeRef → J.Shape → Type 0} (result : Result TypeRef CheckFault) → JudgesAs R r s t (type_part p x) result → OnOk result (t.procedure ≡ s.procedure)
  type_opens p x (Ok k) h = open_gave old h (weaken (i_type p x old.making) (λ a g. g.grown.procedure))
  type_opens p x (Err e) h = tt

  pub part_opens : (part : Part (Unit {0})) → Gives (λ (a : Unit {0} × Making). (a.1).world.procedure ≡ old.making.world.procedure) (part old.making) → (result : Result (Unit {0}) CheckFault) → Judges r s t part result → OnOk result (t.procedure ≡ s.procedure)
  part_opens part g (Ok k) h = open_made old h g
  part_opens part g (Err e) h = tt

-- a part that leaves the judgement's state as it was
pub stands_by_still : {B : Type 0} {r : Surroundings} {s : Declaring} (t : Declaring) → Stands r s → (result : Result B CheckFault) → OnOk result (IsSettled r t) → OnOk result ((m : Making) → Makes r s m → Makes r t m) → OnOk result (Stands r t)
stands_by_still t old (Ok b) ok f = record { settled = ok; making = old.making; makes = f old.making old.makes }
stands_by_still t old (Err e) ok f = tt

pub pointer_made : {r : Surroundings} {s : Declaring} (t : Declaring) → Stands r s → (result : Result ℕ CheckFault) → JudgesAs (IsPointer t) r s t new_pointer result → IfOk result (λ n. IsElement t.types.table.entries.items (TheType.Pointer n))
pointer_made t old (Ok n) h = ((came old h).1).element
pointer_made t old (Err e) h = tt
