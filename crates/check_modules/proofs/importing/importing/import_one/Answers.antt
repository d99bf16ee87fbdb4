use Rattle.std.proofs.Common.{map, option_map, sym, ap, ◌∙◌}
use Rattle.ob_judge.specs.Scopes.{place, spelled}
use Rattle.ob_judge.specs.Modules.{imported}
use Rattle.check_types.specs.declared.steps.fault.CheckFault.TheVariants.{Fault}
use Rattle.check_types.proofs.steps.Answering.{exit, stop, goes_on}
use Rattle.check_types.specs.names.Meaning.{module_of, imported_of}
use Rattle.check_making.specs.Making.{table_of, strings_of}
use Rattle.check_modules.proofs.importing.ImportSteps.{none_here, some_here}
use Rattle.check_modules.proofs.importing.importing.import_one.Goals as goal

pub returns-in_err-stand-clause-judged : goal.returns-in_err-stand-clause-judged
returns-in_err-stand-clause-judged c = λ m makes. exit _ c.from_residual.ensures.1 (stop _ _ (c.in_err-stand.ensures.judged m makes))

pub returns-in-None-clause-judged : goal.returns-in-None-clause-judged
returns-in-None-clause-judged c = λ m makes.
    let r = c.args.round.now in
    let s = c.stand.new.self in
    goes_on _ _ (c.in_ok-stand.ensures.judged m makes) (λ a h.
    none_here r c.args.tree.now s s a.1 h.makes (option_map imported_of c.in_ok-imported.field-0)
    (ap (imported (map (module_of (table_of s) (strings_of s)) r.modules.now)) (sym (c.spelled.ensures ∙ ap (spelled r.source.now) c.origin-symbol.ensures)) ∙ c.in_ok-imported.ensures.imported (table_of s) (strings_of s))
    (ap (option_map imported_of) c.in-None.is) c.fault.result (c.fault.ensures ∙ ap (λ i. Fault 38 (place r.source.now i)) c.origin-symbol.ensures))

pub returns-in-Some-clause-judged : goal.returns-in-Some-clause-judged
returns-in-Some-clause-judged c = λ m makes.
    let r = c.args.round.now in
    let s = c.stand.new.self in
    goes_on _ _ (c.in_ok-stand.ensures.judged m makes) (λ a h.
    some_here r c.args.tree.now s c.know.new.state a.1 h.makes (option_map imported_of c.in_ok-imported.field-0)
    (ap (imported (map (module_of (table_of s) (strings_of s)) r.modules.now)) (sym (c.spelled.ensures ∙ ap (spelled r.source.now) c.origin-symbol.ensures)) ∙ c.in_ok-imported.ensures.imported (table_of s) (strings_of s))
    (imported_of c.in-Some.of) (ap (option_map imported_of) c.in-Some.is) c.know.result (c.know.ensures.judged a.1 h.makes))
