-- Which operand of the judgement a variable or a part of one is.
use Rattle.std.specs.Prelude.{◌≡◌, ℕ, List, Bool, Option, Result, Some}
use Rattle.ob_types.specs.Table.{Table}
use Rattle.ob_judge.specs.Judged.{Judged, Keeps}
use Rattle.ob_judge.specs.Shapes.{Shape}
use Rattle.ob_judge.specs.Image as I
use Rattle.ob_judge.specs.Operands as J
use Rattle.ob_judge.specs.Names.{narrowed_to}
use Rattle.ob_judge.specs.Parts.{part_of, guard_of}
use Rattle.judged_tree.specs.TypeShapes.{shape_of_kind, shape_of}
use Rattle.judged_tree.specs.Plain.{guarded, pointer_at}
use Rattle.judged_tree.specs.Outline.{outlined_expr, outlined_place, outlined_pointer}
use Rattle.check_operands.specs.declared.trees.places.Place.{Place}
use Rattle.check_operands.specs.trees.Lists.{place_image}
use Rattle.check_types.specs.declared.steps.fault.CheckFault.{CheckFault}
use Rattle.check_types.specs.steps.Answers.{Answers}
use Rattle.check_types.specs.declared.types.TypeRef.{TypeRef}
use Rattle.check_types.specs.TypeMeaning.{type_shape, kind_of_type}
use Rattle.check_types.specs.declared.names.scope.Scope.{Scope}
use Rattle.check_types.specs.declared.names.scope.Variable.{Variable}
use Rattle.check_types.specs.declared.names.scope.Narrowing.{Narrowing}
use Rattle.check_types.specs.names.Meaning.{variable_of, narrowing_of}
use Rattle.check_types.specs.names.Worlds.{table_of, strings_of, world_of}
use Rattle.check_operands.specs.declared.operand.Operand.{Operand}
use Rattle.check_operands.specs.Operands.{texts_of, bases_of, use_of, outlined_what, Stands}
use Rattle.check_selectors.specs.declared.parts.part.Part.{Part}
use Rattle.check_selectors.specs.declared.parts.part.Reach.{Reach}
use Rattle.check_selectors.specs.declared.parts.part.Reach.TheVariants as TheReach

-- a place as a whole
abbrev pub image_in : Scope → Place → I.Place
image_in s place = place_image (table_of s) (texts_of s) place

-- its value, as a pointer of this type
abbrev pub load_of : Scope → Place → TypeRef → I.Expr
load_of s place own = I.Load (I.of_type (image_in s place) (shape_of_kind (table_of s) (kind_of_type (bases_of s) own)))

-- this is the value of the pointer there, guarded; also where it is followed, which has no type in a tree
pub record IsGuarded (s : Scope) (place : Place) (own : TypeRef) (tags : List ℕ) (w : J.What) : Type 0 where
  pub value : I.Expr
  pub is : w ≡ J.Valued value
  pub form : guarded tags (load_of s place own) ≡ outlined_expr (bases_of s) value
  pub pointer : guarded tags (pointer_at (image_in s place)) ≡ outlined_pointer (bases_of s) value

-- a place that is named
pub record IsNamedAt (s : Scope) (place : Place) (w : J.What) : Type 0 where
  pub at : I.Place
  pub is : w ≡ J.Named at
  pub placed : image_in s place ≡ outlined_place (bases_of s) at

abbrev pub Reaches : Scope → Reach → J.What → Type 0
Reaches s (TheReach.Named place) w = IsNamedAt s place w
Reaches s (TheReach.Guarded place own tags) w = IsGuarded s place own tags w

pub record IsPart (s : Scope) (x : Part) (a : J.Operand) : Type 0 where
  pub shape : type_shape (table_of s) x.of ≡ a.shape
  pub reach : Reaches s x.reach a.what
  pub usage : use_of x.usage ≡ a.use_

-- this is the operand's value, guarded by these, also where it is followed
pub record IsGuardedForm (s : Scope) (place : Place) (own : TypeRef) (tags : List ℕ) (a : J.Operand) : Type 0 where
  pub form : guarded tags (load_of s place own) ≡ outlined_expr (bases_of s) (J.form a)
  pub pointer : guarded tags (pointer_at (image_in s place)) ≡ outlined_pointer (bases_of s) (J.form a)

-- whichever part of the judgement this is, the answer is what the judgement makes of that
abbrev pub JudgesPart : Scope → Part → (J.Operand → Judged J.Operand) → Result Part CheckFault → Type 0
JudgesPart s x m r = (a : J.Operand) → IsPart s x a → Answers (IsPart s) (m a) r

-- the same of a part and an index
abbrev pub JudgesElement : Scope → Part → Operand → (J.Operand → J.Operand → Judged J.Operand) → Result Part CheckFault → Type 0
JudgesElement s x i m r = (a b : J.Operand) → IsPart s x a → Stands s i b → Answers (IsPart s) (m a b) r

-- an element of this type, by the array's length where its type has one
abbrev pub element_in : Scope → Option ℕ → (element : ℕ) → J.Operand → J.Operand → Judged J.Operand
element_in s length element a b =
    let shape = shape_of (table_of s) element in Keeps (part_of a shape (I.Index (J.place_of a) length shape (J.form b)))

-- an operand guarded
abbrev pub guard_in : Scope → Shape → (tag : ℕ) → J.Operand → Judged J.Operand
guard_in s shape tag a = Keeps (guard_of a shape tag)

-- a variable that is narrowed, which is a pointer or a VAR record parameter
abbrev pub narrowed_in : Scope → Variable → (is_pointer : Bool) → Narrowing → Judged J.Operand
narrowed_in s v is_pointer n =
    Keeps (narrowed_to (J.whole_variable (world_of s) (variable_of (table_of s) (strings_of s) v)) is_pointer (Some (narrowing_of (table_of s) (strings_of s) n)))
