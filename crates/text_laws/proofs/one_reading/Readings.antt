-- Two readings of one text.
use Rattle.std.proofs.Common.{◌≡◌, ℕ, suc, zero, List, [], ◌∷◌, refl, sym, ap, ap₂, subst, ◌∙◌}
use Rattle.ob_symbol.specs.declared.symbol.Symbol.{Symbol}
use Rattle.ob_scan.specs.Scans.{Scans, End, Done, Broken}
use Rattle.ob_grammar.specs.Leaves.{asked}
use Rattle.ob_grammar.specs.Terminals.{numbers}
use Rattle.ob_grammar.specs.Trees.{Token, terminals}
use Rattle.ob_grammar.specs.Modules.{IsModule, IsWrong, OpensTooMany}
use Rattle.ob_syntax.specs.declared.modules.Module.{Module}
use Rattle.ob_syntax.specs.Leaves.{numbered}
use Rattle.ob_syntax.specs.ModuleText.{module_text}
use Rattle.ob_read.specs.Texts.{place_in, IsModuleText, IsBrokenAt, Breaks, OfSymbols, OfGrammar, OfDepth}
use Rattle.text_laws.proofs.one_reading.Places.{one_wrong, one_too_many, never_both, not_too_many}

asked_numbered : (i : ℕ) (v : List ℕ) → asked (numbered i v) ≡ v
asked_numbered i [] = refl
asked_numbered i (k ∷ v) = ap (λ z. k ∷ z) (asked_numbered (suc i) v)

-- a text has one scan
module _ (once : (i : ℕ) (w : List ℕ) (a b : List Symbol) (e f : End) → Scans i w a e → Scans i w b f → (a ≡ b) × (e ≡ f)) (w : List ℕ) where
  same_symbols : (a b : List Symbol) → Scans zero w a Done → Scans zero w b Done → a ≡ b
  same_symbols a b x y = (once zero w a b Done Done x y).0

  done_or_broken : (a b : List Symbol) (number at : ℕ) → Scans zero w a Done → Scans zero w b (Broken number at) → ⊥
  done_or_broken a b number at x y = let e = (once zero w a b Done (Broken number at) x y).1 in cc

  pub same_text : (a b : List Symbol) (m n : Module) → IsModuleText w a m → IsModuleText w b n → (a ≡ b) × (module_text m ≡ module_text n)
  same_text a b m n x y =
      let e = same_symbols a b x.scanned y.scanned in
      (e, x.parsed.text ∙ (ap (λ s. numbered 0 (numbers s)) e ∙ sym y.parsed.text))

  -- a rule that symbols break at one index at most
  same_place : (rule : List ℕ → ℕ → Type 0) → ((v : List ℕ) (k j : ℕ) → rule v k → rule v j → k ≡ j) → (at place : ℕ) → IsBrokenAt rule w at → IsBrokenAt rule w place → at ≡ place
  same_place rule one at place x y =
      let e = same_symbols x.symbols y.symbols x.scanned y.scanned in
      let k = one (numbers y.symbols) x.index y.index (subst (λ (s : List Symbol). rule (numbers s) x.index) e x.broken) y.broken in
      x.place ∙ (ap₂ (λ s i. place_in w s i) e k ∙ sym y.place)

  wrong_or_deep : (at place : ℕ) → IsBrokenAt IsWrong w at → IsBrokenAt OpensTooMany w place → ⊥
  wrong_or_deep at place x y =
      let e = same_symbols x.symbols y.symbols x.scanned y.scanned in
      never_both (numbers y.symbols) x.index y.index (subst (λ (s : List Symbol). IsWrong (numbers s) x.index) e x.broken) y.broken

  pub same_fault : (number other at place : ℕ) → Breaks w number at → Breaks w other place → (number ≡ other) × (at ≡ place)
  same_fault number other at place (OfSymbols a x) (OfSymbols b y) = let e = (once zero w a b (Broken number at) (Broken other place) x y).1 in (cc, cc)
  same_fault number other at place (OfSymbols a x) (OfGrammar j y) = absurd (done_or_broken y.symbols a number at y.scanned x)
  same_fault number other at place (OfSymbols a x) (OfDepth j y) = absurd (done_or_broken y.symbols a number at y.scanned x)
  same_fault number other at place (OfGrammar i x) (OfSymbols b y) = absurd (done_or_broken x.symbols b other place x.scanned y)
  same_fault number other at place (OfGrammar i x) (OfGrammar j y) = (i ∙ sym j, same_place IsWrong one_wrong at place x y)
  same_fault number other at place (OfGrammar i x) (OfDepth j y) = absurd (wrong_or_deep at place x y)
  same_fault number other at place (OfDepth i x) (OfSymbols b y) = absurd (done_or_broken x.symbols b other place x.scanned y)
  same_fault number other at place (OfDepth i x) (OfGrammar j y) = absurd (wrong_or_deep place at y x)
  same_fault number other at place (OfDepth i x) (OfDepth j y) = (i ∙ sym j, same_place OpensTooMany one_too_many at place x y)

  -- what the tree of a text is a module of
  spelled : (a : List Symbol) (m : Module) (v : List Token) → IsModuleText w a m → terminals v ≡ asked (module_text m) → terminals v ≡ numbers a
  spelled a m v x t = t ∙ (ap (λ z. asked z) x.parsed.text ∙ asked_numbered 0 (numbers a))

  pub read_or_broken : (a : List Symbol) (m : Module) (v : List Token) → IsModule v → terminals v ≡ asked (module_text m) → (number at : ℕ) → IsModuleText w a m → Breaks w number at → ⊥
  read_or_broken a m v is t number at x (OfSymbols b y) = done_or_broken a b number at x.scanned y
  read_or_broken a m v is t number at x (OfGrammar j y) =
      let e = same_symbols a y.symbols x.scanned y.scanned in y.broken.none v is (spelled a m v x t ∙ ap (λ s. numbers s) e)
  read_or_broken a m v is t number at x (OfDepth j y) =
      let e = same_symbols y.symbols a y.scanned x.scanned in
      let s = spelled a m v x t in
      not_too_many (numbers a) y.index v is s (x.parsed.shallow v is s) (subst (λ (s : List Symbol). OpensTooMany (numbers s) y.index) e y.broken)
