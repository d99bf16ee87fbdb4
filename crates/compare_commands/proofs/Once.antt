-- Texts have one table.
use Rattle.std.proofs.Common.{◌≡◌, ℕ, List, [], ◌∷◌, map, Bool, true, Option, Some, None, refl, sym, ap, ap₂, ◌∙◌, subst}
use Rattle.std.specs.List.{AllByRecursion}
use Rattle.std.proofs.lemmas.List.Elements.{recursion_from_All}
use Rattle.image_form.specs.declared.image.Image.{Image}
use Rattle.ob_types.specs.WellFormed.{well_formed}
use Rattle.ob_types.specs.declared.program.Program.{Program}
use Rattle.ssa_lowered.specs.Limits.{Limit, limit_of}
use Rattle.linked_flows.specs.Allocations.{Cut}
use Rattle.program_figures.specs.words.alloc_choice.declared.choice.Choice.{Choice}
use Rattle.one_lowering.specs.Forms.{HaveOneLowering}
use Rattle.program_figures.proofs.words.text_laws.one_refusal.Passed.{first_once, first_apart}
use Rattle.program_figures.proofs.words.text_laws.one_refusal.Refused.{excluded, refused_once}
use Rattle.program_figures.specs.words.program_image.Images.{IsProgramImage}
use Rattle.program_figures.specs.planned_image.Plans.{TellsOfLowering}
use Rattle.program_figures.specs.words.source_program.Texts.{IsProgramOfTexts, IsSourceFault}
use Rattle.program_figures.specs.words.source_program.declared.fault.SourceFault.{SourceFault}
use Rattle.program_figures.specs.words.source_program.declared.fault.SourceFault.TheVariants as source
use Rattle.program_figures.specs.words.source_image.Refusals.{IsRefusalOf}
use Rattle.program_figures.specs.words.source_image.declared.refusal.Refusal.{Refusal}
use Rattle.program_figures.specs.words.source_image.declared.refusal.Refusal.TheVariants.{Memory}
use Rattle.trc_answers.specs.Verdict.{Verdict, Refuses}
use Rattle.meaning_commands.specs.trc_texts.Texts.{cause_of_refusal}
use Rattle.meaning_commands.specs.Programs.{AreProgram}
use Rattle.meaning_commands.proofs.Once.{input_once}
use Rattle.program_figures.specs.Images.{figures_of}
use Rattle.program_figures.specs.declared.figuring.CodeFigures.{CodeFigures}
use Rattle.program_figures.specs.declared.figuring.FiguredImage.{FiguredImage}
use Rattle.compare_commands.specs.Rows.{IsOutcome, IsRow, AreRows}
use Rattle.compare_commands.specs.Compares.{ComparesComeTo, HaveNoneToCompare, HaveTable, IsTableTold, TableComesTo}
use Rattle.compare_commands.specs.declared.rows.Row.{Row}
use Rattle.compare_commands.specs.declared.rows.RowOutcome.{RowOutcome}
use Rattle.compare_commands.specs.declared.rows.RowOutcome.TheVariants.{Made, Refused}

---- Limits of lowering

no_limit : (l : Limit) (a b : Option Limit) → a ≡ None → a ≡ b → b ≡ Some l → ⊥
no_limit l a b none same e = cc

same_limit : (l m : Limit) (a b : Option Limit) → a ≡ Some l → a ≡ b → b ≡ Some m → l ≡ m
same_limit l m a b e same f = cc

---- Rows

module _ (one_image : (a b : Choice) (p q : Program) (cuts others : List Cut) (image another : Image) → a.policy ≡ b.policy → a.builder ≡ b.builder → a.regs ≡ b.regs
    → HaveOneLowering p q → IsProgramImage a p cuts image → IsProgramImage b q others another → (cuts ≡ others) × (image ≡ another)) where
  no_limit_of_choice : (p q : Program) (choice : Choice) (made : FiguredImage) (number : ℕ) → HaveOneLowering p q → limit_of p ≡ None → IsOutcome p choice (Made made) → IsOutcome q choice (Refused number) → ⊥
  no_limit_of_choice p q choice made number one within h k =
      first_apart choice choice refl p q one (λ cuts others image another i j. (one_image choice choice p q cuts others image another refl refl refl one i j).0)
      h.cuts made.image (record { number = number; index = k.0 }) within h.is h.form k.1

  module _ (p q : Program) (one : HaveOneLowering p q) (back : HaveOneLowering q p) (within : limit_of p ≡ None) (there : limit_of q ≡ None) where
    outcome_once : (choice : Choice) (a b : RowOutcome) → IsOutcome p choice a → IsOutcome q choice b → a ≡ b
    outcome_once choice (Made made) (Made other) h k =
        let same = one_image choice choice p q h.cuts k.cuts made.image other.image refl refl refl one h.is k.is in
        let figures = h.figures ∙ ap₂ figures_of same.0 same.1 ∙ sym k.figures in
        ap₂ (λ (image : Image) (figures : CodeFigures). Made (record { image = image; figures = figures })) same.1 figures
    outcome_once choice (Made made) (Refused number) h k = absurd (no_limit_of_choice p q choice made number one within h k)
    outcome_once choice (Refused number) (Made made) h k = absurd (no_limit_of_choice q p choice made number back there k h)
    outcome_once choice (Refused number) (Refused other) h k =
        ap (λ (l : Limit). Refused l.number) (first_once choice choice refl p q one (record { number = number; index = h.0 }) (record { number = other; index = k.0 }) h.1 k.1)

    row_once : (x y : Row) → x.choice ≡ y.choice → IsRow p x → IsRow q y → x ≡ y
    row_once x y same h k =
        ap₂ (λ (choice : Choice) (outcome : RowOutcome). let row : Row = record { choice = choice; outcome = outcome } in row) same
        (outcome_once x.choice x.outcome y.outcome h (subst (λ choice. IsOutcome q choice y.outcome) (sym same) k))

    each_once : (rows others : List Row) → map (λ (row : Row). row.choice) rows ≡ map (λ (row : Row). row.choice) others → AllByRecursion (IsRow p) rows → AllByRecursion (IsRow q) others → rows ≡ others
    each_once [] [] same h k = refl
    each_once [] (y ∷ ys) same h k = absurd (let e = same in cc)
    each_once (x ∷ xs) [] same h k = absurd (let e = same in cc)
    each_once (x ∷ xs) (y ∷ ys) same h k =
        let first : x.choice ≡ y.choice = cc in
        let more : map (λ (row : Row). row.choice) xs ≡ map (λ (row : Row). row.choice) ys = cc in
        ap₂ (λ row rows. row ∷ rows) (row_once x y first h.0 k.0) (each_once xs ys more h.1 k.1)

    rows_once : (jobs : ℕ) (rows others : List Row) → AreRows jobs p rows → AreRows jobs q others → rows ≡ others
    rows_once jobs rows others h k =
        each_once rows others (h.choices ∙ sym k.choices) (recursion_from_All (IsRow p) rows h.each) (recursion_from_All (IsRow q) others k.each)

  ---- Texts

  module _ (one_lowering : (texts : List (List ℕ)) (p q : Program) → IsProgramOfTexts texts p → IsProgramOfTexts texts q → well_formed p ≡ true → well_formed q ≡ true → HaveOneLowering p q)
      (one_fault : (texts : List (List ℕ)) (a b : SourceFault) → IsSourceFault texts a → IsSourceFault texts b → ¬ (a ≡ source.Memory) → ¬ (b ≡ source.Memory) → a ≡ b)
      (apart : (texts : List (List ℕ)) (p : Program) (a : SourceFault) → IsProgramOfTexts texts p → IsSourceFault texts a → a ≡ source.Memory) where
    one_refusal : (texts : List (List ℕ)) (r s : Refusal) → IsRefusalOf TellsOfLowering texts r → IsRefusalOf TellsOfLowering texts s → ¬ (r ≡ Memory) → ¬ (s ≡ Memory) → r ≡ s
    one_refusal texts r s =
        refused_once one_fault apart one_lowering TellsOfLowering TellsOfLowering
        (λ p q one n i m j x y.
        let same = same_limit (record { number = n; index = i }) (record { number = m; index = j }) (limit_of p) (limit_of q) x one.limit y in
        (ap (λ (l : Limit). l.number) same, ap (λ (l : Limit). l.index) same)) texts r s

    no_refusal : (texts : List (List ℕ)) (p : Program) (r : Refusal) → AreProgram texts p → limit_of p ≡ None → IsRefusalOf TellsOfLowering texts r → r ≡ Memory
    no_refusal texts p r x within is =
        excluded one_fault apart one_lowering TellsOfLowering texts p x.of_texts x.well_formed
        (λ q one n i h. no_limit (record { number = n; index = i }) (limit_of p) (limit_of q) within one.limit h) r is

    table_once : (left : List ℕ) (jobs steps : ℕ) (texts : List (List ℕ)) (p q : Program) (rows others : List Row) (a b : Verdict) → AreProgram texts p → AreProgram texts q
        → limit_of p ≡ None → limit_of q ≡ None → AreRows jobs p rows → AreRows jobs q others
        → TableComesTo (Some left) p.imports_in steps rows a → TableComesTo (Some left) q.imports_in steps others b → a ≡ b
    table_once left jobs steps texts p q rows others a b x y within there h k i j =
        let one = one_lowering texts p q x.of_texts y.of_texts x.well_formed y.well_formed in
        let back = one_lowering texts q p y.of_texts x.of_texts y.well_formed x.well_formed in
        let same = rows_once p q one back within there jobs rows others h k in
        input_once left p.imports_in (IsTableTold p.imports_in steps rows) (λ input v w e f. e ∙ sym f) a b i
        (subst (λ (rs : List Row). TableComesTo (Some left) p.imports_in steps rs b) (sym same)
        (subst (λ (wanted : Bool). TableComesTo (Some left) wanted steps others b) (sym one.imports) j))

    pub compares_once : (left : List ℕ) (jobs steps : ℕ) (texts : List (List ℕ)) (a b : Verdict)
        → ComparesComeTo (Some left) jobs steps texts a → ComparesComeTo (Some left) jobs steps texts b → a ≡ b
    compares_once left jobs steps texts a b (HaveNoneToCompare r) (HaveNoneToCompare s) =
        r.verdict_is ∙ (ap (λ x. Refuses (cause_of_refusal x)) (one_refusal texts r.refusal s.refusal r.is s.is r.tells s.tells) ∙ sym s.verdict_is)
    compares_once left jobs steps texts a b (HaveNoneToCompare r) (HaveTable q others y there k j) = absurd (r.tells (no_refusal texts q r.refusal y there r.is))
    compares_once left jobs steps texts a b (HaveTable p rows x within h i) (HaveNoneToCompare s) = absurd (s.tells (no_refusal texts p s.refusal x within s.is))
    compares_once left jobs steps texts a b (HaveTable p rows x within h i) (HaveTable q others y there k j) = table_once left jobs steps texts p q rows others a b x y within there h k i j
