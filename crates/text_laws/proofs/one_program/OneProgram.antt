-- Programs that the same texts are the judgement gives of the same modules, with uses of strings in order.
use Rattle.std.proofs.Common.{◌≡◌, List, ℕ, sym, subst}
use Rattle.ob_symbol.specs.declared.symbol.Symbol.{Symbol}
use Rattle.ob_syntax.specs.declared.modules.Module.{Module}
use Rattle.ob_syntax.specs.Plain.{plain_module}
use Rattle.ob_types.specs.declared.program.Program.{Program}
use Rattle.ob_read.specs.Texts.{IsModuleText}
use Rattle.judged_programs.specs.ProgramOf.{IsProgramOf}
use Rattle.one_lowering.specs.Order.{UsesInOrder}
use Rattle.source_image.specs.source_program.Texts.{IsProgramOfTexts}
use Rattle.text_laws.proofs.one_program.InTurn.{in_order}
use Rattle.text_laws.proofs.one_program.Reading.{all_parsed_once}

-- where a text has one reading
module _ (read_once : (w : List ℕ) (a b : List Symbol) (m n : Module) → IsModuleText w a m → IsModuleText w b n → (a ≡ b) × (plain_module m ≡ plain_module n))
    (texts : List (List ℕ)) (p q : Program) (x : IsProgramOfTexts texts p) (y : IsProgramOfTexts texts q) where
  pub of_the_same : IsProgramOf x.modules q
  of_the_same = subst (λ ms. IsProgramOf ms q) (sym (all_parsed_once read_once texts x.modules y.modules x.are_parsed y.are_parsed)) y.program

pub uses_in_order : (texts : List (List ℕ)) (p : Program) → IsProgramOfTexts texts p → UsesInOrder p
uses_in_order texts p x = in_order p x.few_strings x.in_turn
