-- Modules are spelled by trees of the grammar.
use Rattle.std.proofs.Common.{◌≡◌, sym, ◌∙◌}
use Rattle.ob_grammar.specs.Grammar as G
use Rattle.ob_grammar.proofs.OneTree.{one_module}
use Rattle.ob_grammar.specs.Grammar.{part, ◌·◌, many}
use Rattle.ob_syntax.specs.StatementText.{body_text}
use Rattle.ob_syntax.specs.ModuleText.{module_text, imports_text, next_import_text, import_text, imported_name_text}
use Rattle.ob_syntax.specs.declared.modules.Module.{Module}
use Rattle.ob_syntax.specs.declared.modules.Imports.{Imports}
use Rattle.ob_syntax.specs.declared.modules.NextImport.{NextImport}
use Rattle.ob_syntax.specs.declared.modules.Import.{Import}
use Rattle.ob_syntax.specs.declared.modules.ImportedName.{ImportedName}
use Rattle.ob_syntax.proofs.StatementsSpelled.{body_part}
use Rattle.ob_syntax.proofs.DeclarationsSpelled.{decls}
use Rattle.ob_syntax.proofs.Spelled.{Spelled, symbol, ◌then◌, named, if_there, all}

abbrev pub imported_name : (x : ImportedName) → Spelled (G.becomes · G.ident) (imported_name_text x)
imported_name x = symbol x.becomes then symbol x.name

abbrev pub import : (x : Import) → Spelled (part G.import) (import_text x)
import x = named (symbol x.name then if_there imported_name_text (imported_name) x.of)

abbrev pub next_import : (x : NextImport) → Spelled (G.comma · part G.import) (next_import_text x)
next_import x = symbol x.comma then import x.import

abbrev pub imports : (x : Imports) → Spelled (G.IMPORT · part G.import · many (G.comma · part G.import)
    · G.semicolon) (imports_text x)
imports x = symbol x.import_word then import x.first then all next_import_text (next_import) x.more.items
    then symbol x.semicolon

abbrev pub module_spelled : (x : Module) → Spelled (part G.module_) (module_text x)
module_spelled x = named (symbol x.module_word then symbol x.name then symbol x.semicolon
    then if_there imports_text (imports) x.imports then decls x.decls
    then if_there body_text (body_part) x.body then symbol x.end_word then symbol x.end_name then symbol x.period)

-- modules that spell the same symbols are one tree of the grammar
pub one_tree : (m n : Module) → module_text m ≡ module_text n → (module_spelled m).tree ≡ (module_spelled n).tree
one_tree m n e = let a = module_spelled m in let b = module_spelled n in one_module a.tree b.tree (a.same ∙ (e ∙ sym b.same))
