-- What types and formal parameters spell, by cases on the tree.
use Rattle.std.specs.Prelude.{List, []}
use Rattle.ob_grammar.specs.Grammar as G
use Rattle.ob_syntax.specs.Leaves.{Leaf, leaf, maybe, optional, each, ◌⧺◌}
use Rattle.ob_syntax.specs.NameText.{qualident_text, idents_text, next_ident_text}
use Rattle.ob_syntax.specs.ExpressionText.{next_expression_text, expression_text}
use Rattle.ob_syntax.specs.declared.types.TypeTree.{TypeTree}
use Rattle.ob_syntax.specs.declared.types.TypeTree.TheVariants as TheTypeTree
use Rattle.ob_syntax.specs.declared.types.ArrayType.{ArrayType}
use Rattle.ob_syntax.specs.declared.types.RecordType.{RecordType, RecordType', Held-NextFields-fields, None', Some', Row_of-NextFields, end_of-NextFields, more_of-NextFields}
use Rattle.ob_syntax.specs.declared.types.Base.{Base}
use Rattle.ob_syntax.specs.declared.types.Fields.{Fields}
use Rattle.ob_syntax.specs.declared.types.NextFields.{NextFields, NextFields'}
use Rattle.ob_syntax.specs.declared.types.PointerType.{PointerType}
use Rattle.ob_syntax.specs.declared.types.ProcedureType.{ProcedureType}
use Rattle.ob_syntax.specs.declared.types.Formals.{Formals}
use Rattle.ob_syntax.specs.declared.types.Sections.{Sections}
use Rattle.ob_syntax.specs.declared.types.NextSection.{NextSection}
use Rattle.ob_syntax.specs.declared.types.ResultType.{ResultType}
use Rattle.ob_syntax.specs.declared.types.Section.{Section}
use Rattle.ob_syntax.specs.declared.types.OpenArray.{OpenArray}

-- `"(" qualident ")"`
abbrev pub base_text : Base → List Leaf
base_text x = leaf G.left_paren x.left_paren ⧺ qualident_text x.name ⧺ leaf G.right_paren x.right_paren

-- `ARRAY OF`
abbrev pub open_array_text : OpenArray → List Leaf
open_array_text x = leaf G.ARRAY x.array_word ⧺ leaf G.OF x.of_word

-- `[VAR] ident {"," ident} ":" [ARRAY OF] qualident`
abbrev pub section_text : Section → List Leaf
section_text x = maybe G.VAR x.var_word ⧺ leaf G.ident x.first ⧺ each next_ident_text x.more.items
    ⧺ leaf G.colon x.colon ⧺ optional open_array_text x.open_array ⧺ qualident_text x.of

-- `";" section`
abbrev pub next_section_text : NextSection → List Leaf
next_section_text x = leaf G.semicolon x.semicolon ⧺ section_text x.section

-- `section {";" section}`
abbrev pub sections_text : Sections → List Leaf
sections_text x = section_text x.first ⧺ each next_section_text x.more.items

-- `":" qualident`
abbrev pub result_type_text : ResultType → List Leaf
result_type_text x = leaf G.colon x.colon ⧺ qualident_text x.name

-- `"(" [section {";" section}] ")" [":" qualident]`
abbrev pub formals_text : Formals → List Leaf
formals_text x = leaf G.left_paren x.left_paren ⧺ optional sections_text x.sections
    ⧺ leaf G.right_paren x.right_paren ⧺ optional result_type_text x.result

-- `PROCEDURE [formals]`
abbrev pub procedure_type_text : ProcedureType → List Leaf
procedure_type_text x = leaf G.PROCEDURE x.procedure_word ⧺ optional formals_text x.formals

abbrev mutual
  pub type_tree_text : TypeTree → List Leaf
  type_tree_text (TheTypeTree.Named x) = qualident_text x
  type_tree_text (TheTypeTree.Array' array_word first more of_word _ element) = leaf G.ARRAY array_word ⧺ expression_text first
      ⧺ each next_expression_text more.items ⧺ leaf G.OF of_word ⧺ type_tree_text element
  type_tree_text (TheTypeTree.Record x) = record_type_text x
  type_tree_text (TheTypeTree.Pointer' pointer_word to_word _ base) = leaf G.POINTER pointer_word ⧺ leaf G.TO to_word
      ⧺ type_tree_text base
  type_tree_text (TheTypeTree.Procedure x) = procedure_type_text x

  pub record_type_text : RecordType → List Leaf
  record_type_text (RecordType' record_word base first _ more end_word) = leaf G.RECORD record_word
      ⧺ optional base_text base ⧺ held_fields_text first ⧺ next_fields_row more ⧺ leaf G.END end_word

  pub next_fields_text : NextFields → List Leaf
  next_fields_text (NextFields' semicolon fields) = leaf G.semicolon semicolon ⧺ held_fields_text fields

  pub held_fields_text : Held-NextFields-fields → List Leaf
  held_fields_text None' = []
  held_fields_text (Some' names colon _ of) = idents_text names ⧺ leaf G.colon colon ⧺ type_tree_text of

  pub next_fields_row : {m : _} → Row_of-NextFields m → List Leaf
  next_fields_row end_of-NextFields = []
  next_fields_row (more_of-NextFields x rest) = next_fields_text x ⧺ next_fields_row rest

-- `ARRAY expression {"," expression} OF type`
abbrev pub array_type_text : ArrayType → List Leaf
array_type_text x = leaf G.ARRAY x.array_word ⧺ expression_text x.first ⧺ each next_expression_text x.more.items
    ⧺ leaf G.OF x.of_word ⧺ type_tree_text x.element.value

-- `idents ":" type`
abbrev pub fields_text : Fields → List Leaf
fields_text x = idents_text x.names ⧺ leaf G.colon x.colon ⧺ type_tree_text x.of.value

-- `POINTER TO type`
abbrev pub pointer_type_text : PointerType → List Leaf
pointer_type_text x = leaf G.POINTER x.pointer_word ⧺ leaf G.TO x.to_word ⧺ type_tree_text x.base.value
