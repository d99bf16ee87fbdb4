use Rattle.std.proofs.Common.{subst, sym}
use Rattle.std.proofs.lemmas.List.{length-map}
use Rattle.ob_grammar.specs.Modules.{Shallow}
use Rattle.parse_steps.specs.declared.fault.ParseFault.TheVariants.{Syntax}
use Rattle.ob_syntax.specs.ModuleText.{module_text}
use Rattle.ob_grammar.specs.Terminals.{number_at, numbers}
use Rattle.ob_parse.proofs.Top.{fault_of, err_fault, err_only, not_taken, tree_of, wrong_of}
use Rattle.ob_parse.proofs.parsing.parse.Goals as goal

pub returns-in_err-module-clause-fault : goal.returns-in_err-module-clause-fault
returns-in_err-module-clause-fault c = err_fault (numbers c.args.symbols.now) c.in_err-module.field-0.0 c.from_residual.result c.from_residual.ensures.1 (fault_of (numbers c.args.symbols.now) _ _ _ c.new-parser.ensures c.in_err-module.ensures)

pub returns-in_err-module-clause-only : goal.returns-in_err-module-clause-only
returns-in_err-module-clause-only c v x k s = err_only (numbers c.args.symbols.now) c.in_err-module.field-0.0 c.from_residual.result c.from_residual.ensures.1 (fault_of (numbers c.args.symbols.now) _ _ _ c.new-parser.ensures c.in_err-module.ensures) v x k (subst (Shallow v) (sym (length-map c.args.symbols.now number_at)) s)

pub returns-then-is_at_end-clause-tree : goal.returns-then-is_at_end-clause-tree
returns-then-is_at_end-clause-tree c = tree_of (numbers c.args.symbols.now) _ _ c.in_ok-module.module c.new-parser.ensures c.in_ok-module.ensures c.if-is_at_end.ensures

pub returns-else-is_at_end-clause-fault : goal.returns-else-is_at_end-clause-fault
returns-else-is_at_end-clause-fault c = wrong_of (numbers c.args.symbols.now) _ _ (module_text c.in_ok-module.module) c.place.result c.new-parser.ensures c.in_ok-module.ensures c.if-is_at_end.ensures c.place.ensures

pub returns-else-is_at_end-clause-only : goal.returns-else-is_at_end-clause-only
returns-else-is_at_end-clause-only c v x k s =
    not_taken (numbers c.args.symbols.now) (Syntax c.place.result) (wrong_of (numbers c.args.symbols.now) _ _ (module_text c.in_ok-module.module) c.place.result c.new-parser.ensures c.in_ok-module.ensures c.if-is_at_end.ensures c.place.ensures) v x k (subst (Shallow v) (sym (length-map c.args.symbols.now number_at)) s)
