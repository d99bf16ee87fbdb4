-- A module as the program has it.
use Rattle.std.proofs.Common.{◌≡◌, ℕ, List, map, ap, ◌∙◌}
use Rattle.ob_types.specs.declared.program.Module.{Module}
use Rattle.ob_judge.specs.Image as I
use Rattle.judged_tree.specs.TypeShapes.{shape_of}
use Rattle.judged_tree.specs.Plain.{plain_object}
use Rattle.check_types.specs.declared.types.TypeRef.{TypeRef}
use Rattle.check_types.specs.declared.table.TypeTable.{TypeTable}
use Rattle.check_types.specs.TypeMeaning.{type_shape}
use Rattle.check_making.specs.scopes.Numbers.{AreNumbersOf}
use Rattle.check_making.proofs.scopes.ByNumber.{numbers_mean, numbers_still}
use Rattle.check_modules.specs.programs.Entities.{AreObjects}
use Rattle.check_modules.specs.programs.Modules.{IsModuleOf}

pub module_is : (texts : List (List ℕ)) (t : TypeTable) (own : Module) (ds : List I.Declared) (ks : List TypeRef) (name : List ℕ) → own.name ≡ name → AreObjects texts t own.objects ds → AreNumbersOf t.entries.items own.variables ks
    → IsModuleOf texts t own (record { name = name; objects = ds; variables = map (type_shape t.types) ks; body = own.body })
module_is texts t own ds ks name is objects variables = record {
  image = ap (λ n. record { name = n; objects = map (plain_object t.types texts) own.objects; variables = map (shape_of t.types) own.variables; body = own.body }) is
      ∙ ap (λ os. record { name = name; objects = os; variables = map (shape_of t.types) own.variables; body = own.body }) objects.same
      ∙ ap (λ vs. record { name = name; objects = ds; variables = vs; body = own.body }) (numbers_mean t own.variables ks variables);
  stays = λ u g. ap (λ os. record { name = own.name; objects = os; variables = map (shape_of u.types) own.variables; body = own.body }) (objects.stays u g)
      ∙ ap (λ vs. record { name = own.name; objects = map (plain_object t.types texts) own.objects; variables = vs; body = own.body }) (numbers_still t u g own.variables ks variables);
}
