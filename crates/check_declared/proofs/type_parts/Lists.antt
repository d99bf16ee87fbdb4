-- Declarations, one after the other.
use Rattle.std.proofs.Common.{◌≡◌, ℕ, ◌+◌, ◌<◌, List, [], ◌∷◌, length, drop, get_or, Ok, Err, refl}
use Rattle.ob_syntax.specs.Plain.{plain_each, plain_type_decl, plain_var_decl}
use Rattle.ob_syntax.specs.declared.declarations.TypeDecl.{TypeDecl}
use Rattle.ob_syntax.specs.declared.declarations.VarDecl.{VarDecl}
use Rattle.ob_judge.specs.Judged.{Judged, Keeps, ◌>>=◌}
use Rattle.ob_judge.specs.Making.{Making, Part}
use Rattle.ob_judge.specs.Declarations.{each, type_decl_part, var_part}
use Rattle.check_types.specs.steps.Answers.{Answers}
use Rattle.check_types.specs.declared.steps.fault.CheckFault.{CheckFault}
use Rattle.check_types.proofs.steps.Answering.{Judging}
use Rattle.check_declared.proofs.Parts.{StateMakes, left_first, left_next, left_stops, left_none}
use Rattle.check_making.specs.declared.making.Declaring.{Declaring}
use Rattle.check_making.specs.declared.making.Surroundings.{Surroundings}
use Rattle.check_making.specs.Making.{Makes}
use Rattle.check_making.specs.Parts.{Made}

-- ---- any parts, each of which is the syntax of a tree

module _ {X Y : Type 0} (r : Surroundings) (part : X → Part (Unit {0})) (plain : Y → X) where
  abbrev pub parts_from : Unit {0} × Making → List Y → Judged (Unit {0} × Making)
  parts_from a ys = each part (plain_each plain ys) a.1

  abbrev pub part_item : Unit {0} × Making → Y → Judged (Unit {0} × Making)
  part_item a y = part (plain y) a.1

  parts_law : (a : Unit {0} × Making) (y : Y) (ys : List Y) → parts_from a (y ∷ ys) ≡ (part_item a y >>= λ z. parts_from z ys)
  parts_law a y ys = refl

  parts_end : (a : Unit {0} × Making) → parts_from a [] ≡ Keeps a
  parts_end a = refl

  pub parts_next : (whole : Judged (Unit {0} × Making)) (s t : Declaring) (ys : List Y) (i : ℕ) (d : Y) → i < length ys → Judging (StateMakes r) parts_from whole s (drop i ys)
      → ((m : Making) → Makes r s m → Answers (Made r t) (part_item (tt, m) (get_or ys i d)) (Ok tt)) → Judging (StateMakes r) parts_from whole t (drop (i + 1) ys)
  parts_next = left_next r parts_from part_item parts_law parts_end

  pub parts_stop : (whole : Judged (Unit {0} × Making)) (s t : Declaring) (ys : List Y) (i : ℕ) (d : Y) (e : CheckFault) → i < length ys → Judging (StateMakes r) parts_from whole s (drop i ys)
      → ((m : Making) → Makes r s m → Answers (Made r t) (part_item (tt, m) (get_or ys i d)) (Err e)) → Answers (Made r t) whole (Err e)
  parts_stop = left_stops r parts_from part_item parts_law parts_end

  pub parts_done : (whole : Judged (Unit {0} × Making)) (s : Declaring) → Judging (StateMakes r) parts_from whole s [] → Answers (Made r s) whole (Ok tt)
  parts_done = left_none r parts_from part_item parts_law parts_end

  pub parts_first : (s : Declaring) (m : Making) → Makes r s m → (ys : List Y) → Judging (StateMakes r) parts_from (parts_from (tt, m) ys) s ys
  parts_first = left_first r parts_from part_item parts_law parts_end

-- ---- those of a TYPE part and of a VAR part

abbrev pub types_from : Surroundings → Unit {0} × Making → List TypeDecl → Judged (Unit {0} × Making)
types_from r = parts_from r (type_decl_part r.source.now) plain_type_decl

abbrev pub type_item : Surroundings → Unit {0} × Making → TypeDecl → Judged (Unit {0} × Making)
type_item r = part_item r (type_decl_part r.source.now) plain_type_decl

abbrev pub variables_from : Surroundings → Unit {0} × Making → List VarDecl → Judged (Unit {0} × Making)
variables_from r = parts_from r (var_part r.source.now) plain_var_decl

abbrev pub variables_item : Surroundings → Unit {0} × Making → VarDecl → Judged (Unit {0} × Making)
variables_item r = part_item r (var_part r.source.now) plain_var_decl
