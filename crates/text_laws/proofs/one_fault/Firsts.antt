-- Two answers about the same texts.
use Rattle.std.proofs.Common.{◌≡◌, ℕ, zero, suc, ◌<◌, ◌⊎◌, inl, inr, List, [], ◌∷◌, length, take, Some, refl, sym, ap, ap₂, subst, ◌∙◌, arith}
use Rattle.std.specs.Prelude.{slice_get}
use Rattle.std.proofs.lemmas.Bool.{cases_order}
use Rattle.std.proofs.lemmas.List.{take_all}
use Rattle.ob_symbol.specs.declared.symbol.Symbol.{Symbol}
use Rattle.ob_syntax.specs.Syntax as S
use Rattle.ob_syntax.specs.declared.modules.Module.{Module}
use Rattle.ob_syntax.specs.Plain.{plain_module}
use Rattle.ob_types.proofs.Tests.{none_some, some_same}
use Rattle.ob_types.specs.declared.program.Program.{Program}
use Rattle.ob_judge.specs.Judged.{Judged, Keeps, Breaks, ◌>>=◌}
use Rattle.ob_judge.specs.Image as I
use Rattle.ob_judge.specs.Modules.{SoFar, Parsed, Legal, no_modules, judged_after, checked_after, with_module}
use Rattle.ob_read.specs.Texts.{IsModuleText, most_bytes}
use Rattle.ob_read.specs.Texts as Read
use Rattle.source_image.specs.source_program.declared.fault.SourceFault.{SourceFault}
use Rattle.source_image.specs.source_program.declared.fault.SourceFault.TheVariants.{TooLong, Fault, Memory}
use Rattle.source_image.specs.source_program.Texts.{IsParsed, AreParsed, accepted_after, BreaksBehind, InText, InModule, IsFirst, IsProgramOfTexts, IsSourceFault}

-- what a text of over 1,048,576 bytes breaks
abbrev IsLong : SoFar → List ℕ → Type 0
IsLong c bytes = most_bytes < length bytes

abbrev Breaking : ℕ → ℕ → SoFar → List ℕ → Type 0
Breaking rule at c bytes = BreaksBehind c bytes rule at

-- one module that is accepted, and then those behind it
next_accepted : (j : Judged SoFar) (ms : List Parsed) (e : SoFar) → (j >>= λ d. accepted_after d ms) ≡ Keeps e → (d : SoFar) × (j ≡ Keeps d) × (accepted_after d ms ≡ Keeps e)
next_accepted (Keeps d) ms e h = (d, refl, h)
next_accepted (Breaks number at) ms e h = absurd (let z = h in cc)

keeps_same : (a b : SoFar) → Keeps a ≡ Keeps b → a ≡ b
keeps_same a b h = cc

accepted_once : (ms ns : List Parsed) (c d e : SoFar) → ms ≡ ns → accepted_after c ms ≡ Keeps d → accepted_after c ns ≡ Keeps e → d ≡ e
accepted_once ms ns c d e same x y = keeps_same d e (sym x ∙ (ap (λ z. accepted_after c z) same ∙ y))

next_legal : (j : Judged SoFar) (n : ℕ) (ms : List Parsed) (q : I.Program) → judged_after j n (λ d. checked_after d ms) ≡ Legal q → (d : SoFar) × (j ≡ Keeps d) × (checked_after d ms ≡ Legal q)
next_legal (Keeps d) n ms q h = (d, refl, h)
next_legal (Breaks number at) n ms q h = absurd (let z = h in cc)

-- what is checked is accepted
legal_accepted : (ms : List Parsed) (c : SoFar) (q : I.Program) → checked_after c ms ≡ Legal q → (d : SoFar) × (accepted_after c ms ≡ Keeps d)
legal_accepted [] c q h = (c, refl)
legal_accepted (m ∷ ms) c q h =
    let k = next_legal (with_module m.source m.tree c) (length c.modules) ms q h in
    let r = legal_accepted ms k.0 q k.2 in
    (r.0, ap (λ j. j >>= λ x. accepted_after x ms) k.1 ∙ r.1)

-- the law of one reading
module _
    (read_once : (w : List ℕ) (a b : List Symbol) (m n : Module) → IsModuleText w a m → IsModuleText w b n → (a ≡ b) × (plain_module m ≡ plain_module n))
    (breaks_once : (w : List ℕ) (number other at place : ℕ) → Read.Breaks w number at → Read.Breaks w other place → (number ≡ other) × (at ≡ place))
    (read_or_broken : (w : List ℕ) (a : List Symbol) (m : Module) (number at : ℕ) → IsModuleText w a m → Read.Breaks w number at → ⊥) where
  parsed_once : (bytes : List ℕ) (m n : Parsed) → IsParsed bytes m → IsParsed bytes n → m ≡ n
  parsed_once bytes m n x y =
      let e = read_once bytes x.symbols y.symbols x.tree y.tree x.text y.text in
      x.is ∙ (ap₂ (λ (s : List Symbol) (t : S.Module). record { source = record { bytes = bytes; symbols = s }; tree = t }) e.0 e.1 ∙ sym y.is)

  all_parsed_once : (ts : List (List ℕ)) (ms ns : List Parsed) → AreParsed ts ms → AreParsed ts ns → ms ≡ ns
  all_parsed_once [] [] [] x y = refl
  all_parsed_once [] [] (n ∷ ns) x y = absurd y
  all_parsed_once [] (m ∷ ms) ns x y = absurd x
  all_parsed_once (t ∷ ts) [] ns x y = absurd x
  all_parsed_once (t ∷ ts) (m ∷ ms) [] x y = absurd y
  all_parsed_once (t ∷ ts) (m ∷ ms) (n ∷ ns) x y = ap₂ (λ k ks. k ∷ ks) (parsed_once t m n x.0 y.0) (all_parsed_once ts ms ns x.1 y.1)

  -- what keeps a text from being a module that is accepted
  abbrev Refuses : (SoFar → List ℕ → Type 0) → Type 0
  Refuses Wrong = (c d : SoFar) (bytes : List ℕ) (m : Parsed) → Wrong c bytes → IsParsed bytes m → with_module m.source m.tree c ≡ Keeps d → ⊥

  long_refuses : Refuses IsLong
  long_refuses c d bytes m h x e = let s = x.text.short in omega (arith, h, s)

  breaking_refuses : (rule at : ℕ) → Refuses (Breaking rule at)
  breaking_refuses rule at c d bytes m (InText h) x e = read_or_broken bytes x.symbols x.tree rule at x.text h.1
  breaking_refuses rule at c d bytes m (InModule n y f) x e =
      let same = parsed_once bytes n m y x in
      let g : Breaks rule at ≡ Keeps d = sym f ∙ (ap (λ k. with_module k.source k.tree c) same ∙ e) in
      cc

  -- such a text stops them: no more modules are accepted with it
  stops : (Wrong : SoFar → List ℕ → Type 0) → Refuses Wrong → (ts : List (List ℕ)) (i j : ℕ) (ms ns : List Parsed) (c d e : SoFar) (bytes : List ℕ) → AreParsed (take i ts) ms → accepted_after c ms ≡ Keeps d → slice_get ts i ≡ Some bytes → Wrong d bytes
      → AreParsed (take j ts) ns → accepted_after c ns ≡ Keeps e → i < j → ⊥
  stops Wrong refuses [] i j ms ns c d e bytes x f at wrong y g h = none_some bytes at
  stops Wrong refuses (t ∷ ts) i zero ms ns c d e bytes x f at wrong y g h = omega (arith, h)
  stops Wrong refuses (t ∷ ts) zero (suc j) [] [] c d e bytes x f at wrong y g h = y
  stops Wrong refuses (t ∷ ts) zero (suc j) [] (n ∷ ns) c d e bytes x f at wrong y g h =
      let k = next_accepted (with_module n.source n.tree c) ns e g in
      let here : Wrong c t = subst (λ b. Wrong c b) (sym (some_same t bytes at)) (subst (λ s. Wrong s bytes) (sym (keeps_same c d f)) wrong) in
      refuses c k.0 t n here y.0 k.1
  stops Wrong refuses (t ∷ ts) zero (suc j) (m ∷ ms) ns c d e bytes x f at wrong y g h = x
  stops Wrong refuses (t ∷ ts) (suc i) (suc j) [] ns c d e bytes x f at wrong y g h = x
  stops Wrong refuses (t ∷ ts) (suc i) (suc j) (m ∷ ms) [] c d e bytes x f at wrong y g h = y
  stops Wrong refuses (t ∷ ts) (suc i) (suc j) (m ∷ ms) (n ∷ ns) c d e bytes x f at wrong y g h =
      let k = next_accepted (with_module m.source m.tree c) ms d f in
      let l = next_accepted (with_module n.source n.tree c) ns e g in
      let same = parsed_once t m n x.0 y.0 in
      let behind : k.0 ≡ l.0 = keeps_same k.0 l.0 (sym k.1 ∙ (ap (λ z. with_module z.source z.tree c) same ∙ l.1)) in
      stops Wrong refuses ts i j ms ns k.0 d e bytes x.1 k.2 at wrong y.1 (subst (λ z. accepted_after z ns ≡ Keeps e) (sym behind) l.2) (omega (arith, h))

  module _ (texts : List (List ℕ)) where
    not_before : (A B : SoFar → List ℕ → Type 0) → Refuses A → (i j : ℕ) → IsFirst A texts i → IsFirst B texts j → i < j → ⊥
    not_before A B refuses i j x y h =
        stops A refuses texts i j x.before y.before no_modules x.so_far y.so_far x.bytes x.are_parsed x.accepts x.text x.wrong y.are_parsed y.accepts h

    one_module : (A B : SoFar → List ℕ → Type 0) → Refuses A → Refuses B → (i j : ℕ) → IsFirst A texts i → IsFirst B texts j → i ≡ j
    one_module A B a b i j x y = by (cases_order i j)
      where
        by : (i ≡ j) ⊎ ((i < j) ⊎ (j < i)) → i ≡ j
        by (inl e) = e
        by (inr (inl h)) = absurd (not_before A B a i j x y h)
        by (inr (inr h)) = absurd (not_before B A b j i y x h)

    -- what stands there, behind the same modules
    record Meets (A B : SoFar → List ℕ → Type 0) : Type 0 where
      so_far : SoFar
      bytes : List ℕ
      one : A so_far bytes
      other : B so_far bytes

    some_once : (a b : List ℕ) → Some a ≡ Some b → a ≡ b
    some_once a b h = some_same a b h

    meets : (A B : SoFar → List ℕ → Type 0) (i j : ℕ) → IsFirst A texts i → IsFirst B texts j → i ≡ j → Meets A B
    meets A B i j x y same =
        let before = all_parsed_once (take j texts) x.before y.before (subst (λ n. AreParsed (take n texts) x.before) same x.are_parsed) y.are_parsed in
        let behind = accepted_once x.before y.before no_modules x.so_far y.so_far before x.accepts y.accepts in
        let text : x.bytes ≡ y.bytes = some_once x.bytes y.bytes (sym x.text ∙ (ap (λ n. slice_get texts n) same ∙ y.text)) in
        record { so_far = y.so_far; bytes = y.bytes; one = subst (λ b. A y.so_far b) text (subst (λ s. A s x.bytes) behind x.wrong); other = y.wrong }

    -- at one module one rule is broken, at one byte
    one_rule : (c : SoFar) (bytes : List ℕ) (rule other at place : ℕ) → BreaksBehind c bytes rule at → BreaksBehind c bytes other place → (rule ≡ other) × (at ≡ place)
    one_rule c bytes rule other at place (InText x) (InText y) = breaks_once bytes rule other at place x.1 y.1
    one_rule c bytes rule other at place (InText x) (InModule n y f) = absurd (read_or_broken bytes y.symbols y.tree rule at y.text x.1)
    one_rule c bytes rule other at place (InModule m x e) (InText y) = absurd (read_or_broken bytes x.symbols x.tree other place x.text y.1)
    one_rule c bytes rule other at place (InModule m x e) (InModule n y f) =
        let same = parsed_once bytes m n x y in
        let g : Breaks rule at ≡ Breaks other place = sym e ∙ (ap (λ k. with_module k.source k.tree c) same ∙ f) in
        (cc, cc)

    long_or_broken : (c : SoFar) (bytes : List ℕ) (rule at : ℕ) → most_bytes < length bytes → BreaksBehind c bytes rule at → ⊥
    long_or_broken c bytes rule at h (InText x) = let s = x.0 in omega (arith, h, s)
    long_or_broken c bytes rule at h (InModule m x e) = let s = x.text.short in omega (arith, h, s)

    pub one_fault : (a b : SourceFault) → IsSourceFault texts a → IsSourceFault texts b → ¬ (a ≡ Memory) → ¬ (b ≡ Memory) → a ≡ b
    one_fault Memory b x y f g = absurd (f refl)
    one_fault (TooLong i) Memory x y f g = absurd (g refl)
    one_fault (Fault i rule at) Memory x y f g = absurd (g refl)
    one_fault (TooLong i) (TooLong j) x y f g = ap TooLong (one_module IsLong IsLong long_refuses long_refuses i j x y)
    one_fault (TooLong i) (Fault j other place) x y f g =
        let n = one_module IsLong (Breaking other place) long_refuses (breaking_refuses other place) i j x y in
        let k = meets IsLong (Breaking other place) i j x y n in
        absurd (long_or_broken k.so_far k.bytes other place k.one k.other)
    one_fault (Fault i rule at) (TooLong j) x y f g =
        let n = one_module (Breaking rule at) IsLong (breaking_refuses rule at) long_refuses i j x y in
        let k = meets (Breaking rule at) IsLong i j x y n in
        absurd (long_or_broken k.so_far k.bytes rule at k.other k.one)
    one_fault (Fault i rule at) (Fault j other place) x y f g =
        let n = one_module (Breaking rule at) (Breaking other place) (breaking_refuses rule at) (breaking_refuses other place) i j x y in
        let k = meets (Breaking rule at) (Breaking other place) i j x y n in
        let e = one_rule k.so_far k.bytes rule other at place k.one k.other in
        ap₂ (λ z r. Fault z r at) n e.0 ∙ ap (λ z. Fault j other z) e.1

    -- all texts of a program are of modules that are accepted
    none_first : (p : Program) → IsProgramOfTexts texts p → (Wrong : SoFar → List ℕ → Type 0) → Refuses Wrong → (i : ℕ) → IsFirst Wrong texts i → ⊥
    none_first p h Wrong refuses i x =
        let k = legal_accepted h.modules no_modules h.program.image h.program.legal in
        stops Wrong refuses texts i (length texts) x.before h.modules no_modules x.so_far k.0 x.bytes x.are_parsed x.accepts x.text x.wrong
        (subst (λ ts. AreParsed ts h.modules) (sym (take_all (length texts) texts (omega arith))) h.are_parsed) k.1 (there texts i x.bytes x.text)
      where
        there : (ts : List (List ℕ)) (i : ℕ) (b : List ℕ) → slice_get ts i ≡ Some b → i < length ts
        there [] i b e = none_some b e
        there (t ∷ ts) zero b e = omega arith
        there (t ∷ ts) (suc i) b e = let r = there ts i b e in omega (arith, r)

    pub only_memory : (p : Program) (a : SourceFault) → IsProgramOfTexts texts p → IsSourceFault texts a → a ≡ Memory
    only_memory p Memory h x = refl
    only_memory p (TooLong i) h x = absurd (none_first p h IsLong long_refuses i x)
    only_memory p (Fault i rule at) h x = absurd (none_first p h (Breaking rule at) (breaking_refuses rule at) i x)
