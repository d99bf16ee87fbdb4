use Rattle.std.proofs.Common.{subst, ◌∙◌, sym}
use Rattle.check_making.specs.Making.{table_of, strings_of, offered_of, AreTextPlaces}
use Rattle.check_modules.specs.programs.Entities.{AreObjects}
use Rattle.check_modules.proofs.programs.MadeModule.{module_is}
use Rattle.check_modules.proofs.programs.own.module_with.Goals as goal

pub returns-clause-is_module : goal.returns-clause-is_module
returns-clause-is_module c =
    let s = c.args.state.now in
    module_is c.args.round.now.texts.now s.types.table _ (offered_of (table_of s) (strings_of s) s.objects.items) s.variables.items _ (c.in_ok-name.ensures ∙ c.spelled.ensures)
    (subst (λ os. AreObjects c.args.round.now.texts.now s.types.table c.in_ok-objects.objects (offered_of (table_of s) (strings_of s) os)) c.deref-2.ensures.value
    (c.in_ok-objects.ensures.objects c.args.round.now.texts.now (strings_of s) (subst (λ ps. AreTextPlaces c.args.round.now.texts.now ps (strings_of s)) (sym c.deref.ensures.value) c.requires.settled.places)))
    c.in_ok-variables.ensures.numbers
