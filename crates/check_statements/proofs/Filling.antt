-- Parts of a CASE put together, and what they stand for.
use Rattle.std.proofs.Common.{◌≡◌, ℕ, ℤ, List, [], Bool, true, false, Vec, Global, Result, Ok, refl, sym, ap, ap₂, ◌∙◌, subst}
use Rattle.ob_types.proofs.Tests.{no}
use Rattle.ob_types.specs.Table.{Table}
use Rattle.ob_types.specs.declared.statements.Label.{Label}
use Rattle.ob_types.specs.declared.statements.Stmt.{Stmt}
use Rattle.ob_types.specs.declared.statements.CasePart.{CasePart}
use Rattle.ob_types.specs.declared.statements.TypePart.{TypePart}
use Rattle.ob_syntax.specs.Syntax as S
use Rattle.ob_judge.specs.Shapes.{Shape, Integer, Boolean, Char, Byte, Set, Nil, Nothing, Text, Array, Open, Record, Pointer, Procedure, is_pointer}
use Rattle.ob_judge.specs.Image as I
use Rattle.ob_judge.specs.Scopes.{Source}
use Rattle.ob_judge.specs.Operands.{Operand, checked, designator_of}
use Rattle.ob_judge.specs.Cases.{SelectorOf, OnType, Labelled, narrow, case_of}
use Rattle.ob_judge.specs.Statements.{statements}
use Rattle.check_statements.specs.steps.Steps.{on_value}
use Rattle.judged_tree.specs.Plain.{plain_body}
use Rattle.judged_tree.specs.Outline.{outlined_parts}
use Rattle.check_statements.specs.trees.Onto.{case_parts_onto, type_parts_onto}
use Rattle.check_types.specs.steps.Answers.{Answers}
use Rattle.check_types.specs.declared.steps.fault.CheckFault.{CheckFault}
use Rattle.check_types.proofs.steps.Answering.{as_judged}
use Rattle.check_types.specs.declared.types.TypeRef.{TypeRef}
use Rattle.check_types.specs.TypeMeaning.{type_shape}
use Rattle.check_types.specs.declared.names.scope.Scope.{Scope}
use Rattle.check_types.specs.declared.names.scope.VariablePlace.{VariablePlace}
use Rattle.check_types.specs.declared.names.scope.Narrowing.{Narrowing}
use Rattle.check_types.specs.names.Meaning.{place_of, narrowings_before}
use Rattle.check_types.specs.names.Worlds.{table_of, strings_of, world_of, IsOfType}
use Rattle.check_operands.specs.Operands.{texts_of, bases_of}
use Rattle.check_statements.specs.ranges.Ranges.{AreRanges}
use Rattle.check_statements.specs.declared.parts.CaseParts.{CaseParts}
use Rattle.check_statements.specs.declared.parts.CaseParts.TheVariants.{Values, Types}
use Rattle.check_statements.specs.Standing.{AreStatements, SoFar, on_of, ArePutParts, AreParts}

-- a CASE on types that isn't on a pointer
pub on_parameter : (p : Source) (d : I.Place) (s : Shape) (x : Operand) (parts : I.Parts) → is_pointer s ≡ false → case_of (OnType d s) x parts ≡ I.CaseParameter (designator_of x) parts
on_parameter p d Integer x parts h = refl
on_parameter p d Boolean x parts h = refl
on_parameter p d Char x parts h = refl
on_parameter p d Byte x parts h = refl
on_parameter p d Set x parts h = refl
on_parameter p d Nil x parts h = refl
on_parameter p d Nothing x parts h = refl
on_parameter p d (Text n) x parts h = refl
on_parameter p d (Array n a) x parts h = refl
on_parameter p d (Open a) x parts h = refl
on_parameter p d (Record r) x parts h = refl
on_parameter p d (Pointer n) x parts h = no (sym h)
on_parameter p d (Procedure ps r) x parts h = refl

pub on_pointer : (p : Source) (d : I.Place) (s : Shape) (x : Operand) (parts : I.Parts) → is_pointer s ≡ true → case_of (OnType d s) x parts ≡ I.CasePointer (checked x) parts
on_pointer p d (Pointer n) x parts h = refl
on_pointer p d Integer x parts h = no h
on_pointer p d Boolean x parts h = no h
on_pointer p d Char x parts h = no h
on_pointer p d Byte x parts h = no h
on_pointer p d Set x parts h = no h
on_pointer p d Nil x parts h = no h
on_pointer p d Nothing x parts h = no h
on_pointer p d (Text n) x parts h = no h
on_pointer p d (Array n a) x parts h = no h
on_pointer p d (Open a) x parts h = no h
on_pointer p d (Record r) x parts h = no h
on_pointer p d (Procedure ps r) x parts h = no h

pub on_values : (p : Source) (b : Bool) (x : Operand) (parts : I.Parts) → case_of (on_value b) x parts ≡ I.Case (checked x) parts
on_values p false x parts = refl
on_values p true x parts = refl

-- the same statements, judged where a variable is narrowed
pub in_scope : (s i : Scope) (r : _) (body : S.Stats) (res : Result (Vec Stmt Global) CheckFault) → i ≡ record s { narrowed = r } →
    Answers (AreStatements i) (statements i.source.now (world_of i) body) res →
    Answers (AreStatements s) (statements s.source.now (record (world_of s) { narrowed = narrowings_before (table_of s) (strings_of s) [] r.now }) body) res
in_scope s i r body res e h = subst (λ (z : Scope). Answers (AreStatements z) (statements z.source.now (world_of z) body) res) e h

module _ (s : Scope) where
  narrow_is : (v : VariablePlace) (to : TypeRef) (shape : Shape) (ns : List Narrowing) → IsOfType s to shape →
      narrowings_before (table_of s) (strings_of s) [] ns ≡ (narrow (world_of s) (place_of v) (type_shape (table_of s) to)).narrowed →
      narrow (world_of s) (place_of v) shape ≡ record (world_of s) { narrowed = narrowings_before (table_of s) (strings_of s) [] ns }
  narrow_is v to shape ns k e = ap (narrow (world_of s) (place_of v)) (sym k) ∙ ap (λ z. record (world_of s) { narrowed = z }) (sym e)

  -- the body of a part for a type
  pub narrowed_answers : (i : Scope) (v : VariablePlace) (to : TypeRef) (shape : Shape) (body : S.Stats) (res : Result (Vec Stmt Global) CheckFault) →
      i ≡ record s { narrowed = i.narrowed } → IsOfType s to shape →
      narrowings_before (table_of s) (strings_of s) [] i.narrowed.now ≡ (narrow (world_of s) (place_of v) (type_shape (table_of s) to)).narrowed →
      Answers (AreStatements i) (statements i.source.now (world_of i) body) res →
      Answers (AreStatements s) (statements s.source.now (narrow (world_of s) (place_of v) shape) body) res
  narrowed_answers i v to shape body res e k n h =
      as_judged (ap (λ z. statements s.source.now z body) (narrow_is v to shape i.narrowed.now k n)) (in_scope s i i.narrowed body res e h)

  -- one more part
  pub value_put : (on : SelectorOf) (of_char : Bool) (parts all : Vec CasePart Global) (before after : List (ℤ × ℤ)) (a : SoFar) (labels : List Label) (body : Vec Stmt Global) (l : Labelled) (b : I.Statements) →
      ArePutParts s on (Values of_char parts before) a → labels ≡ l.labels → AreRanges after l.taken → AreStatements s body b →
      ((t : Table) (texts : List (List ℕ)) (rest : I.Parts) →
      case_parts_onto t texts all.items rest ≡ case_parts_onto t texts parts.items (I.next_part (I.Labels labels) (plain_body t texts body.items) rest)) →
      ArePutParts s on (Values of_char all after) ((λ rest. a.0 (I.next_part (I.Labels l.labels) b rest)), l.taken)
  value_put on of_char parts all before after a labels body l b h k n m made = record {
    selector = h.selector;
    parts = λ rest.
        made (table_of s) (texts_of s) (outlined_parts (bases_of s) rest)
        ∙ ap₂ (λ y z. case_parts_onto (table_of s) (texts_of s) parts.items (I.next_part (I.Labels y) z (outlined_parts (bases_of s) rest))) k m
        ∙ h.parts (I.next_part (I.Labels l.labels) b rest);
    taken = n;
  }

  pub type_put : (on : SelectorOf) (v : VariablePlace) (of : TypeRef) (parts all : Vec TypePart Global) (a : SoFar) (tag judged : ℕ) (body : Vec Stmt Global) (b : I.Statements) →
      ArePutParts s on (Types v of parts) a → tag ≡ judged → AreStatements s body b →
      ((t : Table) (texts : List (List ℕ)) (rest : I.Parts) →
      type_parts_onto t texts all.items rest ≡ type_parts_onto t texts parts.items (I.next_part (I.Extends tag) (plain_body t texts body.items) rest)) →
      ArePutParts s on (Types v of all) ((λ rest. a.0 (I.next_part (I.Extends judged) b rest)), a.1)
  type_put on v of parts all a tag judged body b h k m made = record {
    selector = h.selector;
    parts = λ rest.
        made (table_of s) (texts_of s) (outlined_parts (bases_of s) rest)
        ∙ ap₂ (λ y z. type_parts_onto (table_of s) (texts_of s) parts.items (I.next_part (I.Extends y) z (outlined_parts (bases_of s) rest))) k m
        ∙ h.parts (I.next_part (I.Extends judged) b rest);
    taken = tt;
  }
