-- Texts come to one page.
use Rattle.std.proofs.Common.{◌≡◌, ℕ, true, List, map, length, Option, Some, None, refl, sym, ap, ◌∙◌, subst, arith}
use Rattle.image_form.specs.declared.image.Image.{Image}
use Rattle.ob_types.specs.WellFormed.{well_formed}
use Rattle.ob_types.specs.declared.program.Program.{Program}
use Rattle.lir_core.specs.declared.flow.Flow.{Flow}
use Rattle.lir_core.specs.declared.flow.Trace.{Trace}
use Rattle.boundary_resolve.specs.Placing.{placed_of}
use Rattle.linked_flows.specs.Allocations.{Cut}
use Rattle.program_page.specs.words.link_plan.Linked.{plans_of}
use Rattle.program_page.specs.words.alloc_choice.declared.choice.Choice.{Choice}
use Rattle.program_page.specs.words.alloc_choice.declared.choice.Policy.{Policy}
use Rattle.ssa_lowered.specs.Limits.{Limit}
use Rattle.one_lowering.specs.Forms.{HaveOneLowering}
use Rattle.program_page.specs.words.program_image.Images.{IsProgramImage}
use Rattle.program_page.specs.words.program_image.Limits.{IsPassedFirst}
use Rattle.program_page.specs.words.source_program.Texts.{IsProgramOfTexts, IsSourceFault}
use Rattle.program_page.specs.words.source_program.declared.fault.SourceFault.{SourceFault}
use Rattle.program_page.specs.words.source_program.declared.fault.SourceFault.TheVariants as source
use Rattle.program_page.specs.words.source_image.Refusals.{IsRefusalOf}
use Rattle.program_page.specs.words.source_image.declared.refusal.Refusal.{Refusal}
use Rattle.program_page.specs.words.source_image.declared.refusal.Refusal.TheVariants.{Memory}
use Rattle.program_page.specs.kept_plans.Above.{AreAllParents}
use Rattle.program_page.specs.shown_program.Shown.{IsShownProgram}
use Rattle.program_page.specs.shown_program.declared.making.ShownProgram.{ShownProgram}
use Rattle.program_page.specs.whole_page.Pages.{page_text}
use Rattle.program_page.specs.Faults.{IsPassedForPage, ForImage, ForOther, ByPage, TellsOfPage}
use Rattle.program_page.specs.Pages.{IsBeside, IsPageOfTexts, IsPageText, IsProgramPage, Wish, program_view, view_beside, wish_of, with_policy}
use Rattle.program_page.proofs.words.text_laws.one_refusal.Passed.{first_once, first_apart}
use Rattle.program_page.proofs.words.text_laws.one_refusal.Refused.{refused_once, excluded}
use Rattle.trc_answers.specs.Verdict.{Verdict, Refuses, Writes}
use Rattle.trc_texts.specs.Texts.{cause_of_refusal}
use Rattle.show_commands.specs.Shows.{ShowComesTo, HaveNoPage, HavePage}
use Rattle.show_commands.proofs.Above.{all_once}

backwards : (p q : Program) → HaveOneLowering p q → HaveOneLowering q p
backwards p q h = record {
  procedures = sym h.procedures;
  places = sym h.places;
  globals = sym h.globals;
  constants = λ base. sym (h.constants base);
  limit = sym h.limit;
  imports = sym h.imports;
}

none_some : (policy : Policy) → None ≡ Some policy → ⊥
none_some policy e = cc

some_same : (a b : Policy) → Some a ≡ Some b → a ≡ b
some_same a b e = cc

-- the program by the other policy
made_beside : (choice : Choice) (asked : Option Policy) (policy : Policy) (q : Program) (other : Option ShownProgram) → asked ≡ Some policy → IsBeside choice asked q other
    → (made : ShownProgram) × IsShownProgram (with_policy choice policy) q made
made_beside choice None policy q other e h = absurd (none_some policy e)
made_beside choice (Some named) policy q None e h = absurd h
made_beside choice (Some named) policy q (Some made) e h = (made, subst (λ x. IsShownProgram (with_policy choice x) q made) (some_same named policy e) h)

module _ (one_image : (a b : Choice) (p q : Program) (cuts others : List Cut) (image another : Image) → a.policy ≡ b.policy → a.builder ≡ b.builder → a.regs ≡ b.regs → HaveOneLowering p q
    → IsProgramImage a p cuts image → IsProgramImage b q others another → (cuts ≡ others) × (image ≡ another)) where
  -- what is shown of programs with one lowering
  view_once : (choice : Choice) (p q : Program) → HaveOneLowering p q → (x y : ShownProgram) → IsShownProgram choice p x → IsShownProgram choice q y
      → (program_view choice x ≡ program_view choice y) × (x.image ≡ y.image)
  view_once choice p q one x y h k =
      let same = one_image choice choice p q h.cuts k.cuts x.image y.image refl refl refl one h.is k.is in
      let flows = h.flows ∙ ap (λ (cs : List Cut). map (λ (c : Cut). c.flow) cs) same.0 ∙ sym k.flows in
      let traces = h.traces ∙ ap (λ (cs : List Cut). map (λ (c : Cut). c.traces) cs) same.0 ∙ sym k.traces in
      let outs = h.outs ∙ ap (λ (cs : List Cut). map (λ (c : Cut). c.outs) cs) same.0 ∙ sym k.outs in
      let lines = h.lines ∙ ap (λ (cs : List Cut). map (λ (c : Cut). placed_of c.flow c.traces c.outs) cs) same.0 ∙ sym k.lines in
      let plans = h.plans ∙ ap plans_of same.0 ∙ sym k.plans in
      let parents = all_once y.flows.items (map (λ v. v.items) y.cuts.items) _ _
      (subst (λ (ts : List (List Trace)). AreAllParents y.flows.items ts (map (λ v. v.items) x.parents.items)) traces
      (subst (λ (fs : List Flow). AreAllParents fs (map (λ v. v.items) x.cuts.items) (map (λ v. v.items) x.parents.items)) flows h.parents)) k.parents in (
        λ i. record {
          policy = choice.policy;
          registers = choice.regs;
          flows = flows i;
          cuts = traces i;
          parents = parents i;
          outs = outs i;
          lines = lines i;
          plans = plans i;
          code = (same.1 i).code;
          places = (same.1 i).places;
        },
        same.1,
      )

  beside_once : (choice : Choice) (policy : Option Policy) (p q : Program) → HaveOneLowering p q → (x y : Option ShownProgram) → IsBeside choice policy p x → IsBeside choice policy q y
      → view_beside choice policy x ≡ view_beside choice policy y
  beside_once choice None p q one x y h k = refl
  beside_once choice (Some policy) p q one None y h k = absurd h
  beside_once choice (Some policy) p q one (Some x) None h k = absurd k
  beside_once choice (Some policy) p q one (Some x) (Some y) h k = ap Some (view_once (with_policy choice policy) p q one x y h k).0

  text_once : (wish : Wish) (p q : Program) → HaveOneLowering p q → (t u : List ℕ) → IsPageText wish p t → IsPageText wish q u → t ≡ u
  text_once wish p q one t u x y =
      let same = view_once wish.choice p q one x.own y.own x.own_is y.own_is in
      let beside = beside_once wish.choice wish.policy p q one x.other y.other x.beside y.beside in
      x.is ∙ (λ i. page_text wish.names wish.texts wish.choice wish.policy (same.1 i) (same.0 i) (beside i)) ∙ sym y.is

  -- a program with an image passes no limit on the way to it
  image_apart : (choice : Choice) (p q : Program) → HaveOneLowering p q → (own : ShownProgram) → IsShownProgram choice p own → (l : Limit) → IsPassedFirst choice q l → ⊥
  image_apart choice p q one own is l passed =
      first_apart choice choice refl p q one (λ cuts others image another u v. (one_image choice choice p q cuts others image another refl refl refl one u v).0) is.cuts own.image l is.within is.is is.form passed

  beside_apart : (wish : Wish) (policy : Policy) (p q : Program) → HaveOneLowering p q → wish.policy ≡ Some policy → (text : List ℕ) → IsPageText wish p text → (l : Limit) → IsPassedFirst (with_policy wish.choice policy) q l → ⊥
  beside_apart wish policy p q one e text is l passed =
      let made = made_beside wish.choice wish.policy policy p is.other e is.beside in
      image_apart (with_policy wish.choice policy) p q one made.0 made.1 l passed

  passed_once : (wish : Wish) (p q : Program) → HaveOneLowering p q → (l m : Limit) → IsPassedForPage wish p l → IsPassedForPage wish q m → l ≡ m
  passed_once wish p q one l m (ForImage _ x) (ForImage _ y) = first_once wish.choice wish.choice refl p q one l m x y
  passed_once wish p q one l m (ForImage _ x) (ForOther _ policy own e is y) = absurd (image_apart wish.choice q p (backwards p q one) own is l x)
  passed_once wish p q one l m (ForImage _ x) (ByPage text is long) = absurd (image_apart wish.choice q p (backwards p q one) is.own is.own_is l x)
  passed_once wish p q one l m (ForOther _ policy own e is x) (ForImage _ y) = absurd (image_apart wish.choice p q one own is m y)
  passed_once wish p q one l m (ForOther _ policy own e is x) (ForOther _ other owned f its y) = first_once (with_policy wish.choice policy) (with_policy wish.choice other) refl p q one l m x y
  passed_once wish p q one l m (ForOther _ policy own e is x) (ByPage text its long) = absurd (beside_apart wish policy q p (backwards p q one) e text its l x)
  passed_once wish p q one l m (ByPage text is long) (ForImage _ y) = absurd (image_apart wish.choice p q one is.own is.own_is m y)
  passed_once wish p q one l m (ByPage text is long) (ForOther _ policy own e its y) = absurd (beside_apart wish policy p q one e text is m y)
  passed_once wish p q one l m (ByPage text is long) (ByPage other its also) = refl

  -- a program with a page passes none
  page_apart : (wish : Wish) (p q : Program) → HaveOneLowering p q → (page : List ℕ) → IsProgramPage wish p page → (l : Limit) → IsPassedForPage wish q l → ⊥
  page_apart wish p q one page h l (ForImage _ y) = image_apart wish.choice p q one h.text.own h.text.own_is l y
  page_apart wish p q one page h l (ForOther _ policy own e is y) = beside_apart wish policy p q one e page h.text l y
  page_apart wish p q one page h l (ByPage text is long) =
      let same = ap length (text_once wish p q one page text h.text is) in
      let short = h.short in
      omega (arith, same, short, long)

  module _ (one_fault : (texts : List (List ℕ)) (a b : SourceFault) → IsSourceFault texts a → IsSourceFault texts b → ¬ (a ≡ source.Memory) → ¬ (b ≡ source.Memory) → a ≡ b)
      (apart : (texts : List (List ℕ)) (p : Program) (a : SourceFault) → IsProgramOfTexts texts p → IsSourceFault texts a → a ≡ source.Memory)
      (one_lowering : (texts : List (List ℕ)) (p q : Program) → IsProgramOfTexts texts p → IsProgramOfTexts texts q → well_formed p ≡ true → well_formed q ≡ true → HaveOneLowering p q) where
    refusal : (wish : Wish) (r s : Refusal) → IsRefusalOf (TellsOfPage wish) wish.texts r → IsRefusalOf (TellsOfPage wish) wish.texts s → ¬ (r ≡ Memory) → ¬ (s ≡ Memory) → r ≡ s
    refusal wish r s =
        refused_once one_fault apart one_lowering (TellsOfPage wish) (TellsOfPage wish)
        (λ p q one n i m j x y.
        let same = passed_once wish p q one (record { number = n; index = i }) (record { number = m; index = j }) x y in
        (ap (λ (l : Limit). l.number) same, ap (λ (l : Limit). l.index) same)) wish.texts r s

    -- texts with a page are refused for want of memory alone
    page_excludes : (wish : Wish) (page : List ℕ) (r : Refusal) → IsPageOfTexts wish page → IsRefusalOf (TellsOfPage wish) wish.texts r → r ≡ Memory
    page_excludes wish page r x h =
        excluded one_fault apart one_lowering (TellsOfPage wish) wish.texts x.program x.of_texts x.well_formed
        (λ q one n i k. page_apart wish x.program q one page x.is (record { number = n; index = i }) k) r h

    page_once : (wish : Wish) (page other : List ℕ) → IsPageOfTexts wish page → IsPageOfTexts wish other → page ≡ other
    page_once wish page other x y = text_once wish x.program y.program (one_lowering wish.texts x.program y.program x.of_texts y.of_texts x.well_formed y.well_formed) page other x.is.text y.is.text

    pub show_once : (choice : Choice) (against : Option Policy) (out : List ℕ) (names texts : List (List ℕ)) (a b : Verdict)
        → ShowComesTo choice against out names texts a → ShowComesTo choice against out names texts b → a ≡ b
    show_once choice against out names texts a b (HaveNoPage r) (HaveNoPage s) =
        r.verdict_is ∙ ap (λ x. Refuses (cause_of_refusal x)) (refusal (wish_of names texts choice against) r.refusal s.refusal r.is s.is r.tells s.tells) ∙ sym s.verdict_is
    show_once choice against out names texts a b (HaveNoPage r) (HavePage page is h) = absurd (r.tells (page_excludes (wish_of names texts choice against) page r.refusal is r.is))
    show_once choice against out names texts a b (HavePage page is h) (HaveNoPage r) = absurd (r.tells (page_excludes (wish_of names texts choice against) page r.refusal is r.is))
    show_once choice against out names texts a b (HavePage page is h) (HavePage other also k) =
        h ∙ ap (Writes out) (page_once (wish_of names texts choice against) page other is also) ∙ sym k
