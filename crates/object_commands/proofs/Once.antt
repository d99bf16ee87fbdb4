-- Texts come to one object, and files of objects to one link.
use Rattle.std.proofs.Common.{◌≡◌, ◌<◌, ◌⊎◌, inl, inr, ℕ, zero, suc, true, List, [], ◌∷◌, take, Option, Some, None, Result, Ok, Err, refl, sym, ap, ap₂, ◌∙◌, subst, arith}
use Rattle.std.specs.Prelude.{slice_get}
use Rattle.outside.specs.Files.{Held}
use Rattle.ob_types.specs.WellFormed.{well_formed}
use Rattle.ob_types.specs.declared.program.Program.{Program}
use Rattle.lir_core.specs.declared.places.TraceOut.{TraceOut}
use Rattle.trace_build.specs.declared.builder.Builder.{Builder}
use Rattle.note_commands.specs.words.alloc_choice.declared.choice.Choice.{Choice}
use Rattle.one_lowering.specs.Forms.{HaveOneLowering}
use Rattle.note_commands.specs.words.program_image.Faults.{TellsOfTraces}
use Rattle.note_commands.specs.words.source_program.Texts.{IsProgramOfTexts, IsSourceFault}
use Rattle.note_commands.specs.words.source_program.declared.fault.SourceFault.{SourceFault}
use Rattle.note_commands.specs.words.source_program.declared.fault.SourceFault.TheVariants as source
use Rattle.note_commands.specs.words.source_image.Refusals.{IsRefusalOf, IsRefusalOfTraces}
use Rattle.note_commands.specs.words.source_image.declared.refusal.Refusal.{Refusal}
use Rattle.note_commands.specs.words.source_image.declared.refusal.Refusal.TheVariants.{Memory}
use Rattle.note_commands.specs.planned_image.Plans.{IsPlanOfTexts, TellsOfPlan}
use Rattle.note_commands.specs.planned_image.declared.planning.ProgramPlan.{ProgramPlan}
use Rattle.object_form.specs.declared.object.Object.{Object}
use Rattle.object_form.specs.Reading.{object_in}
use Rattle.object_form.specs.Faults.{numbered}
use Rattle.object_form.proofs.Objects.{object_again, one_object}
use Rattle.obj_link.specs.Joining.{other_choice, results_of, texts_of}
use Rattle.object_laws.specs.module_object.Objects.{IsObjectOfTexts}
use Rattle.object_laws.proofs.One.{one_object_of_texts}
use Rattle.note_commands.proofs.words.text_laws.one_refusal.Passed.{early_apart}
use Rattle.note_commands.proofs.words.text_laws.one_refusal.Refused.{excluded}
use Rattle.trc_answers.specs.Verdict.{Verdict, Refuses, Written}
use Rattle.trc_answers.specs.declared.causes.Cause.TheVariants as cause
use Rattle.note_commands.specs.trc_texts.Texts.{cause_of_refusal}
use Rattle.note_commands.proofs.Once.{results_once}
use Rattle.object_commands.specs.Objects.{IsStored, IsTooLong, IsShort, ObjectComesTo, HaveNoObject, HaveObject}
use Rattle.object_commands.specs.Links.{AreHeld, AreObjectsIn, ContentsComeTo, HaveObjects, IsFirstBroken, IsNoObject, BreaksRule, IsObjectIn, JoinedComeTo, HaveNoPlan, HavePlan, LinkComesTo, AreTooMany, LacksOne, HaveContents, ObjectsComeTo, HasOther, AreOfOne}
use Rattle.object_commands.specs.Links.{HaveNoObject as HaveABrokenOne}
use Rattle.object_commands.specs.Links.{IsTooLong as IsTooLongFor}

---- Objects of texts

stored_once : (out : List ℕ) (o : Object) (a b : Verdict) → IsStored out o a → IsStored out o b → a ≡ b
stored_once out o a b (IsTooLong long e) (IsTooLong also f) = e ∙ sym f
stored_once out o a b (IsTooLong long e) (IsShort short is f) = absurd (omega (arith, long, short))
stored_once out o a b (IsShort short is e) (IsTooLong long f) = absurd (omega (arith, long, short))
stored_once out o a b (IsShort short is e) (IsShort also is' f) = e ∙ sym f

module _ (one_fault : (texts : List (List ℕ)) (a b : SourceFault) → IsSourceFault texts a → IsSourceFault texts b → ¬ (a ≡ source.Memory) → ¬ (b ≡ source.Memory) → a ≡ b)
    (apart : (texts : List (List ℕ)) (p : Program) (a : SourceFault) → IsProgramOfTexts texts p → IsSourceFault texts a → a ≡ source.Memory)
    (one_lowering : (texts : List (List ℕ)) (p q : Program) → IsProgramOfTexts texts p → IsProgramOfTexts texts q → well_formed p ≡ true → well_formed q ≡ true → HaveOneLowering p q)
    (refusal : (a b : Choice) (texts : List (List ℕ)) (r s : Refusal) → a.builder ≡ b.builder → IsRefusalOfTraces a texts r → IsRefusalOfTraces b texts s → ¬ (r ≡ Memory) → ¬ (s ≡ Memory) → r ≡ s) where
  same_object : (choice : Choice) (texts : List (List ℕ)) (o p : Object) → IsObjectOfTexts choice texts o → IsObjectOfTexts choice texts p → o ≡ p
  same_object choice texts o p x y = one_object_of_texts choice choice refl refl refl one_lowering texts o p x y

  -- texts with an object are refused for want of memory alone
  object_excludes : (choice : Choice) (texts : List (List ℕ)) (o : Object) (r : Refusal) → IsObjectOfTexts choice texts o → IsRefusalOfTraces choice texts r → r ≡ Memory
  object_excludes choice texts o r x h =
      excluded one_fault apart one_lowering (TellsOfTraces choice) texts x.program x.of_texts x.well_formed
      (λ q one n i k. early_apart choice choice refl x.program q one (record { number = n; index = i }) x.within x.few k) r h

  pub object_once : (choice : Choice) (out : List ℕ) (texts : List (List ℕ)) (a b : Verdict) → ObjectComesTo choice out texts a → ObjectComesTo choice out texts b → a ≡ b
  object_once choice out texts a b (HaveNoObject r) (HaveNoObject s) =
      r.verdict_is ∙ ap (λ x. Refuses (cause_of_refusal x)) (refusal choice choice texts r.refusal s.refusal refl r.is s.is r.tells s.tells) ∙ sym s.verdict_is
  object_once choice out texts a b (HaveNoObject r) (HaveObject o is h) = absurd (r.tells (object_excludes choice texts o r.refusal is r.is))
  object_once choice out texts a b (HaveObject o is h) (HaveNoObject r) = absurd (r.tells (object_excludes choice texts o r.refusal is r.is))
  object_once choice out texts a b (HaveObject o is h) (HaveObject p also k) = stored_once out o a b h (subst (λ x. IsStored out x b) (sym (same_object choice texts o p is also)) k)

---- Bytes of objects

same_in : (bytes : List ℕ) (o p : Object) → IsObjectIn bytes o → IsObjectIn bytes p → o ≡ p
same_in bytes o p h k = one_object o p h.object_is k.object_is (sym h.is ∙ k.is)

err_same : (read : Result Object (ℕ × ℕ)) (a b : ℕ × ℕ) → read ≡ Err a → read ≡ Err b → a ≡ b
err_same read a b e f = cc

ok_err : (o : Object) (b : ℕ × ℕ) → Ok o ≡ Err b → ⊥
ok_err o b e = cc

pub no_rule : (bytes : List ℕ) (o : Object) (n t : ℕ) → IsObjectIn bytes o → IsNoObject bytes n t → ⊥
no_rule bytes o n t h (IsTooLongFor long e f) = let few = h.few in omega (arith, few, long)
no_rule bytes o n t h (BreaksRule few e) = ok_err o (n, t) (sym (ap (λ xs. numbered (object_in xs)) h.is ∙ ap numbered (object_again o h.object_is)) ∙ e)

rule_once : (bytes : List ℕ) (n t m u : ℕ) → IsNoObject bytes n t → IsNoObject bytes m u → (n ≡ m) × (t ≡ u)
rule_once bytes n t m u (IsTooLongFor long e f) (IsTooLongFor also g h) = (e ∙ sym g, f ∙ sym h)
rule_once bytes n t m u (IsTooLongFor long e f) (BreaksRule few g) = absurd (omega (arith, long, few))
rule_once bytes n t m u (BreaksRule few e) (IsTooLongFor long g h) = absurd (omega (arith, long, few))
rule_once bytes n t m u (BreaksRule few e) (BreaksRule also g) = let same = err_same (numbered (object_in bytes)) (n, t) (m, u) e g in (ap (λ (x : ℕ × ℕ). x.0) same, ap (λ (x : ℕ × ℕ). x.1) same)

pub objects_same : (contents : List (List ℕ)) (os ps : List Object) → AreObjectsIn contents os → AreObjectsIn contents ps → os ≡ ps
objects_same [] [] [] h k = refl
objects_same [] [] (p ∷ ps) h k = absurd k
objects_same [] (o ∷ os) ps h k = absurd h
objects_same (b ∷ contents) [] ps h k = absurd h
objects_same (b ∷ contents) (o ∷ os) [] h k = absurd k
objects_same (b ∷ contents) (o ∷ os) (p ∷ ps) h k = ap₂ (λ x xs. x ∷ xs) (same_in b o p h.0 k.0) (objects_same contents os ps h.1 k.1)

-- each of these bytes is an object's
pub object_at : (contents : List (List ℕ)) (os : List Object) (n : ℕ) (bytes : List ℕ) → AreObjectsIn contents os → slice_get contents n ≡ Some bytes → (o : Object) × IsObjectIn bytes o
object_at [] os zero bytes h e = absurd (let z = e in cc)
object_at [] os (suc n) bytes h e = absurd (let z = e in cc)
object_at (b ∷ contents) [] n bytes h e = absurd h
object_at (b ∷ contents) (o ∷ os) zero bytes h e = let same : b ≡ bytes = cc in (o, subst (λ xs. IsObjectIn xs o) same h.0)
object_at (b ∷ contents) (o ∷ os) (suc n) bytes h e = object_at contents os n bytes h.1 e

taken_at : {A : Type 0} (xs : List A) (n m : ℕ) (x : A) → n < m → slice_get xs n ≡ Some x → slice_get (take m xs) n ≡ Some x
taken_at [] zero m x l e = absurd (let z = e in cc)
taken_at [] (suc n) m x l e = absurd (let z = e in cc)
taken_at (y ∷ xs) n zero x l e = absurd (omega (arith, l))
taken_at (y ∷ xs) zero (suc m) x l e = e
taken_at (y ∷ xs) (suc n) (suc m) x l e = taken_at xs n m x (omega (arith, l)) e

ordered : (n m : ℕ) → (n ≡ m) ⊎ ((n < m) ⊎ (m < n))
ordered n m = grind arith

some_same : {A : Type 0} (x y : A) (o : Option A) → o ≡ Some x → o ≡ Some y → x ≡ y
some_same x y o e f = cc

-- no bytes before the first broken ones are broken
not_before : (contents : List (List ℕ)) (n m t u s r : ℕ) → IsFirstBroken contents n t s → IsFirstBroken contents m u r → n < m → ⊥
not_before contents n m t u s r h k l = let o = object_at (take m contents) k.objects n h.bytes k.before (taken_at contents n m h.bytes l h.there) in no_rule h.bytes o.0 t s o.1 h.broken

word_once : (contents : List (List ℕ)) (n m t u s r : ℕ) → IsFirstBroken contents n t s → IsFirstBroken contents m u r → (n ≡ m) ⊎ ((n < m) ⊎ (m < n)) → n ≡ m
word_once contents n m t u s r h k (inl e) = e
word_once contents n m t u s r h k (inr (inl l)) = absurd (not_before contents n m t u s r h k l)
word_once contents n m t u s r h k (inr (inr l)) = absurd (not_before contents m n u t r s k h l)

broken_once : (contents : List (List ℕ)) (n m t u s r : ℕ) → IsFirstBroken contents n t s → IsFirstBroken contents m u r → cause.NotObject n t s ≡ cause.NotObject m u r
broken_once contents n m t u s r h k =
    let word = word_once contents n m t u s r h k (ordered n m) in
    let bytes = some_same h.bytes k.bytes (slice_get contents n) h.there (ap (slice_get contents) word ∙ k.there) in
    let rule = rule_once k.bytes t s u r (subst (λ xs. IsNoObject xs t s) bytes h.broken) k.broken in
    λ i. cause.NotObject (word i) (rule.0 i) (rule.1 i)

---- Files

pub held_same : (held : Held) (names xs ys : List (List ℕ)) → AreHeld (Some held) names xs → AreHeld (Some held) names ys → xs ≡ ys
held_same held [] [] [] h k = refl
held_same held [] [] (y ∷ ys) h k = absurd k
held_same held [] (x ∷ xs) ys h k = absurd h
held_same held (n ∷ names) [] ys h k = absurd h
held_same held (n ∷ names) (x ∷ xs) [] h k = absurd k
held_same held (n ∷ names) (x ∷ xs) (y ∷ ys) h k = ap₂ (λ z zs. z ∷ zs) (some_same x y (held n) h.0 k.0) (held_same held names xs ys h.1 k.1)

not_held : (bytes : List ℕ) (o : Option (List ℕ)) → o ≡ Some bytes → o ≡ None → ⊥
not_held bytes o e f = cc

-- each of these names is held
pub held_at : (held : Held) (names contents : List (List ℕ)) (n : ℕ) (name : List ℕ) → AreHeld (Some held) names contents → slice_get names n ≡ Some name → held name ≡ None → ⊥
held_at held [] contents zero name h e none = absurd (let z = e in cc)
held_at held [] contents (suc n) name h e none = absurd (let z = e in cc)
held_at held (x ∷ names) [] n name h e none = absurd h
held_at held (x ∷ names) (b ∷ contents) zero name h e none = let same : x ≡ name = cc in not_held b (held name) (subst (λ k. held k ≡ Some b) same h.0) none
held_at held (x ∷ names) (b ∷ contents) (suc n) name h e none = held_at held names contents n name h.1 e none

lack_once : (held : Held) (names xs ys : List (List ℕ)) (n m : ℕ) (x y : List ℕ) → AreHeld (Some held) (take n names) xs → AreHeld (Some held) (take m names) ys
    → slice_get names n ≡ Some x → slice_get names m ≡ Some y → held x ≡ None → held y ≡ None → (n ≡ m) ⊎ ((n < m) ⊎ (m < n)) → n ≡ m
lack_once held names xs ys n m x y h k there there' none none' (inl e) = e
lack_once held names xs ys n m x y h k there there' none none' (inr (inl l)) = absurd (held_at held (take m names) ys n x k (taken_at names n m x l there) none)
lack_once held names xs ys n m x y h k there there' none none' (inr (inr l)) = absurd (held_at held (take n names) xs m y h (taken_at names m n y l there') none')

---- Links

other_same : (o : Option ℕ) (n m : ℕ) → o ≡ Some n → o ≡ Some m → n ≡ m
other_same o n m e f = cc

none_some : (o : Option ℕ) (n : ℕ) → o ≡ None → o ≡ Some n → ⊥
none_some o n e f = cc

first_same : (objects : List Object) (o p : Object) (os ps : List Object) → objects ≡ o ∷ os → objects ≡ p ∷ ps → o ≡ p
first_same objects o p os ps e f = cc

module _ (one_lowering : (texts : List (List ℕ)) (p q : Program) → IsProgramOfTexts texts p → IsProgramOfTexts texts q → well_formed p ≡ true → well_formed q ≡ true → HaveOneLowering p q)
    (refusal : (builder : Builder) (texts : List (List ℕ)) (r s : Refusal) → IsRefusalOf (TellsOfPlan builder) texts r → IsRefusalOf (TellsOfPlan builder) texts s → ¬ (r ≡ Memory) → ¬ (s ≡ Memory) → r ≡ s)
    (apart : (builder : Builder) (texts : List (List ℕ)) (plan : ProgramPlan) (r : Refusal) → IsPlanOfTexts builder texts plan → IsRefusalOf (TellsOfPlan builder) texts r → r ≡ Memory) where
  joined_once : (out : List ℕ) (builder : Builder) (regs : ℕ) (texts : List (List ℕ)) (outs : List TraceOut) (a b : Verdict) → JoinedComeTo out builder regs texts outs a → JoinedComeTo out builder regs texts outs b → a ≡ b
  joined_once out builder regs texts outs a b (HaveNoPlan r) (HaveNoPlan s) =
      r.verdict_is ∙ ap (λ x. Refuses (cause_of_refusal x)) (refusal builder texts r.refusal s.refusal r.is s.is r.tells s.tells) ∙ sym s.verdict_is
  joined_once out builder regs texts outs a b (HaveNoPlan r) (HavePlan plan is h) = absurd (r.tells (apart builder texts plan r.refusal is r.is))
  joined_once out builder regs texts outs a b (HavePlan plan is h) (HaveNoPlan r) = absurd (r.tells (apart builder texts plan r.refusal is r.is))
  joined_once out builder regs texts outs a b (HavePlan plan is h) (HavePlan other also k) =
      let one = one_lowering texts is.program also.program is.of_texts also.of_texts is.well_formed also.well_formed in
      results_once builder regs is.program also.program one plan other is.is also.is outs (Written out) (λ image x y e f. e ∙ sym f) a b h k

  objects_once : (out : List ℕ) (objects : List Object) (a b : Verdict) → ObjectsComeTo out objects a → ObjectsComeTo out objects b → a ≡ b
  objects_once out objects a b (HasOther n other e) (HasOther m other' f) = e ∙ ap (λ x. Refuses (cause.OtherChoice x)) (other_same (other_choice objects) n m other other') ∙ sym f
  objects_once out objects a b (HasOther n other e) (AreOfOne o os is none h) = absurd (none_some (other_choice objects) n none other)
  objects_once out objects a b (AreOfOne o os is none h) (HasOther n other e) = absurd (none_some (other_choice objects) n none other)
  objects_once out objects a b (AreOfOne o os is none h) (AreOfOne p ps is' none' k) =
      joined_once out o.builder o.regs (texts_of objects) (results_of objects) a b h (subst (λ (x : Object). JoinedComeTo out x.builder x.regs (texts_of objects) (results_of objects) b) (sym (first_same objects o p os ps is is')) k)

  contents_once : (out : List ℕ) (contents : List (List ℕ)) (a b : Verdict) → ContentsComeTo out contents a → ContentsComeTo out contents b → a ≡ b
  contents_once out contents a b (HaveABrokenOne n t s h e) (HaveABrokenOne m u r k f) = e ∙ ap Refuses (broken_once contents n m t u s r h k) ∙ sym f
  contents_once out contents a b (HaveABrokenOne n t s h e) (HaveObjects os are k) = let o = object_at contents os n h.bytes are h.there in absurd (no_rule h.bytes o.0 t s o.1 h.broken)
  contents_once out contents a b (HaveObjects os are h) (HaveABrokenOne n t s k e) = let o = object_at contents os n k.bytes are k.there in absurd (no_rule k.bytes o.0 t s o.1 k.broken)
  contents_once out contents a b (HaveObjects os are h) (HaveObjects ps are' k) = objects_once out os a b h (subst (λ xs. ObjectsComeTo out xs b) (sym (objects_same contents os ps are are')) k)

  pub link_once : (held : Held) (out : List ℕ) (names : List (List ℕ)) (a b : Verdict) → LinkComesTo (Some held) out names a → LinkComesTo (Some held) out names b → a ≡ b
  link_once held out names a b (AreTooMany many e) (AreTooMany many' f) = e ∙ sym f
  link_once held out names a b (AreTooMany many e) (LacksOne n x before few are there none f) = absurd (omega (arith, many, few))
  link_once held out names a b (AreTooMany many e) (HaveContents contents few are h) = absurd (omega (arith, many, few))
  link_once held out names a b (LacksOne n x before few are there none e) (AreTooMany many f) = absurd (omega (arith, many, few))
  link_once held out names a b (LacksOne n x before few are there none e) (LacksOne m y before' few' are' there' none' f) =
      e ∙ ap (λ k. Refuses (cause.NoSuchFile k)) (lack_once held names before before' n m x y are are' there there' none none' (ordered n m)) ∙ sym f
  link_once held out names a b (LacksOne n x before few are there none e) (HaveContents contents few' are' h) = absurd (held_at held names contents n x are' there none)
  link_once held out names a b (HaveContents contents few are h) (AreTooMany many f) = absurd (omega (arith, many, few))
  link_once held out names a b (HaveContents contents few are h) (LacksOne n x before few' are' there none f) = absurd (held_at held names contents n x are there none)
  link_once held out names a b (HaveContents contents few are h) (HaveContents others few' are' k) =
      contents_once out contents a b h (subst (λ xs. ContentsComeTo out xs b) (sym (held_same held names contents others are are')) k)
