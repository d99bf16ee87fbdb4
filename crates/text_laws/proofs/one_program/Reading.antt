-- Texts are read as one list of modules.
use Rattle.std.proofs.Common.{◌≡◌, ℕ, List, [], ◌∷◌, refl, sym, ap₂, ◌∙◌}
use Rattle.ob_symbol.specs.declared.symbol.Symbol.{Symbol}
use Rattle.ob_syntax.specs.Syntax as S
use Rattle.ob_syntax.specs.declared.modules.Module.{Module}
use Rattle.ob_syntax.specs.Plain.{plain_module}
use Rattle.ob_judge.specs.Modules.{Parsed}
use Rattle.ob_read.specs.Texts.{IsModuleText}
use Rattle.source_image.specs.source_program.Texts.{IsParsed, AreParsed}

-- where a text has one reading
module _ (read_once : (w : List ℕ) (a b : List Symbol) (m n : Module) → IsModuleText w a m → IsModuleText w b n → (a ≡ b) × (plain_module m ≡ plain_module n)) where
  parsed_once : (bytes : List ℕ) (m n : Parsed) → IsParsed bytes m → IsParsed bytes n → m ≡ n
  parsed_once bytes m n x y =
      let e = read_once bytes x.symbols y.symbols x.tree y.tree x.text y.text in
      x.is ∙ (ap₂ (λ (s : List Symbol) (t : S.Module). record { source = record { bytes = bytes; symbols = s }; tree = t }) e.0 e.1 ∙ sym y.is)

  pub all_parsed_once : (ts : List (List ℕ)) (ms ns : List Parsed) → AreParsed ts ms → AreParsed ts ns → ms ≡ ns
  all_parsed_once [] [] [] x y = refl
  all_parsed_once [] [] (n ∷ ns) x y = absurd y
  all_parsed_once [] (m ∷ ms) ns x y = absurd x
  all_parsed_once (t ∷ ts) [] ns x y = absurd x
  all_parsed_once (t ∷ ts) (m ∷ ms) [] x y = absurd y
  all_parsed_once (t ∷ ts) (m ∷ ms) (n ∷ ns) x y = ap₂ (λ k ks. k ∷ ks) (parsed_once t m n x.0 y.0) (all_parsed_once ts ms ns x.1 y.1)
