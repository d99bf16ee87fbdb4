-- What a module spells.
use Rattle.std.specs.Prelude.{List}
use Rattle.ob_grammar.specs.Grammar as G
use Rattle.ob_syntax.specs.Leaves.{Leaf, leaf, optional, each, ◌⧺◌}
use Rattle.ob_syntax.specs.StatementText.{body_text}
use Rattle.ob_syntax.specs.DeclarationText.{decls_text}
use Rattle.ob_syntax.specs.declared.modules.Module.{Module}
use Rattle.ob_syntax.specs.declared.modules.Imports.{Imports}
use Rattle.ob_syntax.specs.declared.modules.NextImport.{NextImport}
use Rattle.ob_syntax.specs.declared.modules.Import.{Import}
use Rattle.ob_syntax.specs.declared.modules.ImportedName.{ImportedName}

-- `":=" ident`
abbrev pub imported_name_text : ImportedName → List Leaf
imported_name_text x = leaf G.becomes x.becomes ⧺ leaf G.ident x.name

-- `ident [":=" ident]`
abbrev pub import_text : Import → List Leaf
import_text x = leaf G.ident x.name ⧺ optional imported_name_text x.of

-- `"," import`
abbrev pub next_import_text : NextImport → List Leaf
next_import_text x = leaf G.comma x.comma ⧺ import_text x.import

-- `IMPORT import {"," import} ";"`
abbrev pub imports_text : Imports → List Leaf
imports_text x = leaf G.IMPORT x.import_word ⧺ import_text x.first ⧺ each next_import_text x.more.items
    ⧺ leaf G.semicolon x.semicolon

-- `MODULE ident ";" [IMPORT import {"," import} ";"] decls [BEGIN stats] END ident "."`
abbrev pub module_text : Module → List Leaf
module_text x = leaf G.MODULE x.module_word ⧺ leaf G.ident x.name ⧺ leaf G.semicolon x.semicolon
    ⧺ optional imports_text x.imports ⧺ decls_text x.decls ⧺ optional body_text x.body ⧺ leaf G.END x.end_word
    ⧺ leaf G.ident x.end_name ⧺ leaf G.period x.period
