-- From parts of the commands of objects to the whole.
use Rattle.std.proofs.Common.{◌≡◌, ◌≤◌, ◌<◌, ℕ, List, [], ◌∷◌, length, map, Option, None, refl, sym, ap, ◌∙◌, subst, arith}
use Rattle.std.specs.Prelude.{All}
use Rattle.std.specs.Borrow.{Bor}
use Rattle.std.proofs.lemmas.List.{length-map}
use Rattle.outside.specs.Files.{Held}
use Rattle.outside.specs.Sink.{Account}
use Rattle.note_commands.specs.words.alloc_choice.declared.choice.Choice.{Choice}
use Rattle.trace_build.specs.declared.builder.Builder.{Builder}
use Rattle.lir_core.specs.declared.places.TraceOut.{TraceOut}
use Rattle.note_commands.specs.words.source_image.Refusals.{IsRefusalOf, IsRefusalOfTraces}
use Rattle.note_commands.specs.planned_image.Plans.{IsPlanOfTexts, TellsOfPlan}
use Rattle.note_commands.specs.planned_image.declared.planning.ProgramPlan.{ProgramPlan}
use Rattle.object_form.specs.declared.object.Object.{Object}
use Rattle.object_form.specs.Objects.{IsObject, most_bytes, object_bytes}
use Rattle.obj_link.specs.Joining.{HasChoice, IsJoined, TellsOfJoin, other_choice, results_of, texts_of}
use Rattle.obj_link.specs.declared.joining.Joined.{Joined}
use Rattle.obj_link.specs.declared.fault.JoinFault.{JoinFault}
use Rattle.obj_link.specs.declared.fault.JoinFault.TheVariants as join_fault
use Rattle.object_laws.specs.module_object.Objects.{IsObjectOfTexts}
use Rattle.trc_answers.specs.Verdict.{Verdict, Refuses, IsWritten, Written}
use Rattle.trc_answers.specs.Answers.{Devices, devices, Answers}
use Rattle.trc_answers.specs.declared.causes.Cause.{Cause}
use Rattle.trc_answers.specs.declared.causes.Cause.TheVariants as cause
use Rattle.trc_answers.proofs.Answering.{refuses, lacks, files_failed, mapped, later, wrote}
use Rattle.note_commands.specs.trc_texts.Texts.{IsRefusedAs}
use Rattle.note_commands.proofs.trc_texts.Refusing.{refused}
use Rattle.note_commands.specs.Audits.{AuditedComeTo}
use Rattle.object_commands.specs.Objects.{IsStored, IsTooLong, IsShort, ObjectComesTo, HaveNoObject, HaveObject}
use Rattle.object_commands.specs.Links.{AreHeld, ContentsComeTo, JoinedComeTo, HaveNoPlan, HavePlan, LinkComesTo, LacksOne, HaveContents, ObjectsComeTo, HasOther, AreOfOne, cause_of_join}
use Rattle.object_commands.specs.Reading.{AreUnread, LackOne, OneFailed, LackMemory}

---- Names

-- names that are lent, as many as there are
lent_many : (names : List (Bor (List ℕ))) → length (map (λ name. name.now) names) ≡ length names
lent_many names = length-map names (λ name. name.now)

pub some_names : (names : List (Bor (List ℕ))) → 1 ≤ length names → 1 ≤ length (map (λ name. name.now) names)
some_names names some = let same = lent_many names in omega (arith, same, some)

pub few_names : (names : List (Bor (List ℕ))) → length names ≤ 64 → length (map (λ name. name.now) names) ≤ 64
few_names names few = let same = lent_many names in omega (arith, same, few)

pub many_names : (names : List (Bor (List ℕ))) → 64 < length names → 64 < length (map (λ name. name.now) names)
many_names names many = let same = lent_many names in omega (arith, same, many)

---- An object

-- it is written
pub stored : (out : List ℕ) (object : Object) (slice bytes : List ℕ) (old new : Devices) (c : Cause) → slice ≡ bytes → bytes ≡ object_bytes object → length bytes ≤ most_bytes → IsObject object
    → Answers (λ _. IsWritten out slice) old new c → Answers (λ _. IsStored out object) old new c
stored out object slice bytes old new c same is short read answers =
    mapped (λ _. IsWritten out (object_bytes object)) (λ _. IsStored out object) old new c (λ _ v it. IsShort (subst (λ (xs : List ℕ). length xs ≤ most_bytes) is short) read it)
    (wrote out slice (object_bytes object) old new c (same ∙ is) answers)

-- it is too long
pub not_stored : (out : List ℕ) (object : Object) → most_bytes < length (object_bytes object)
    → (held : Option Held) (m : ℕ) (left : Option (List ℕ)) (k : ℕ) (output : Account) → Answers (λ _. IsStored out object) (devices held m left k output) (devices held m left k output) (cause.Limit 68 0)
not_stored out object long held m left k output = refuses (λ _. IsStored out object) held held m m left k output (cause.Limit 68 0) refl (IsTooLong long refl)

-- texts have one
pub has_object : (choice : Choice) (out : List ℕ) (texts : List (List ℕ)) (object : Object) (old new : Devices) (c : Cause) → IsObjectOfTexts choice texts object
    → Answers (λ _. IsStored out object) old new c → Answers (λ _. ObjectComesTo choice out texts) old new c
has_object choice out texts object old new c is answers = mapped (λ _. IsStored out object) (λ _. ObjectComesTo choice out texts) old new c (λ _ v it. HaveObject object is it) answers

-- or none
pub no_object : (choice : Choice) (out : List ℕ) (texts : List (List ℕ)) (c : Cause) → IsRefusedAs (IsRefusalOfTraces choice texts) c
    → (held : Option Held) (m : ℕ) (left : Option (List ℕ)) (k : ℕ) (output : Account) → Answers (λ _. ObjectComesTo choice out texts) (devices held m left k output) (devices held m left k output) c
no_object choice out texts c h = refused (IsRefusalOfTraces choice texts) (λ _. ObjectComesTo choice out texts) (λ _ v r. HaveNoObject r) c h

---- Objects that are joined

module _ (out : List ℕ) (builder : Builder) (regs : ℕ) (texts : List (List ℕ)) (outs : List TraceOut) where
  abbrev Joins : Option (List ℕ) → Verdict → Type 0
  Joins _ verdict = JoinedComeTo out builder regs texts outs verdict

  pub has_plan : (plan : ProgramPlan) (is : IsPlanOfTexts builder texts plan) (old new : Devices) (c : Cause) → Answers (λ _. AuditedComeTo builder regs (Written out) is.program plan outs) old new c → Answers Joins old new c
  has_plan plan is old new c answers = mapped (λ _. AuditedComeTo builder regs (Written out) is.program plan outs) Joins old new c (λ _ v it. HavePlan plan is it) answers

  pub no_plan : (c : Cause) → IsRefusedAs (IsRefusalOf (TellsOfPlan builder) texts) c
      → (held : Option Held) (m : ℕ) (left : Option (List ℕ)) (k : ℕ) (output : Account) → Answers Joins (devices held m left k output) (devices held m left k output) c
  no_plan c h = refused (IsRefusalOf (TellsOfPlan builder) texts) Joins (λ _ v r. HaveNoPlan r) c h

-- the first of some objects has the choice that all have
first_choice : (joined : Joined) (o : Object) (os : List Object) → All (HasChoice joined) (o ∷ os) → HasChoice joined o
first_choice joined o os each = each 0 o (omega arith)

first_object : (o : Object) (os : List Object) → All IsObject (o ∷ os) → IsObject o
first_object o os each = each 0 o (omega arith)

pub regs_enough : (objects : List Object) (joined : Joined) → 1 ≤ length objects → All IsObject objects → IsJoined objects joined → 4 ≤ joined.regs
regs_enough [] joined some each is = absurd (omega (arith, some))
regs_enough (o ∷ os) joined some each is = let same = (first_choice joined o os is.choice).regs in let enough = (first_object o os each).regs.0 in omega (arith, same, enough)

pub regs_few : (objects : List Object) (joined : Joined) → 1 ≤ length objects → All IsObject objects → IsJoined objects joined → joined.regs ≤ 16
regs_few [] joined some each is = absurd (omega (arith, some))
regs_few (o ∷ os) joined some each is = let same = (first_choice joined o os is.choice).regs in let few = (first_object o os each).regs.1 in omega (arith, same, few)

pub few_joined : (objects : List Object) (joined : Joined) → length objects ≤ 64 → IsJoined objects joined → length joined.texts.items ≤ 64
few_joined objects joined few is = let same = ap length is.texts in let count = length-map objects (λ o. o.source) in omega (arith, same, count, few)

joined_as : (out : List ℕ) (o : Object) (os : List Object) (joined : Joined) (v : Verdict) → IsJoined (o ∷ os) joined
    → JoinedComeTo out joined.builder joined.regs joined.texts.items joined.outs.items v → JoinedComeTo out o.builder o.regs (texts_of (o ∷ os)) (results_of (o ∷ os)) v
joined_as out o os joined v is it =
    let has = first_choice joined o os is.choice in
    subst (λ (b : Builder). JoinedComeTo out b o.regs (texts_of (o ∷ os)) (results_of (o ∷ os)) v) (sym has.builder)
    (subst (λ k. JoinedComeTo out joined.builder k (texts_of (o ∷ os)) (results_of (o ∷ os)) v) (sym has.regs)
    (subst (λ ts. JoinedComeTo out joined.builder joined.regs ts (results_of (o ∷ os)) v) is.texts
    (subst (λ rs. JoinedComeTo out joined.builder joined.regs joined.texts.items rs v) is.outs it)))

pub are_joined : (out : List ℕ) (objects : List Object) (joined : Joined) (slice : List (List ℕ)) (old new : Devices) (c : Cause) → 1 ≤ length objects → IsJoined objects joined → other_choice objects ≡ None → slice ≡ joined.texts.items
    → Answers (λ _. JoinedComeTo out joined.builder joined.regs slice joined.outs.items) old new c → Answers (λ _. ObjectsComeTo out objects) old new c
are_joined out [] joined slice old new c some is none same answers = absurd (omega (arith, some))
are_joined out (o ∷ os) joined slice old new c some is none same answers =
    mapped (λ _. JoinedComeTo out joined.builder joined.regs joined.texts.items joined.outs.items) (λ _. ObjectsComeTo out (o ∷ os)) old new c
    (λ _ v it. AreOfOne o os refl none (joined_as out o os joined v is it))
    (subst (λ (ts : List (List ℕ)). Answers (λ _. JoinedComeTo out joined.builder joined.regs ts joined.outs.items) old new c) same answers)

pub not_joined : (out : List ℕ) (objects : List Object) (fault : JoinFault) (c : Cause) → c ≡ cause_of_join fault → TellsOfJoin objects fault
    → (held : Option Held) (m : ℕ) (left : Option (List ℕ)) (k : ℕ) (output : Account) → Answers (λ _. ObjectsComeTo out objects) (devices held m left k output) (devices held m left k output) c
not_joined out objects (join_fault.OtherChoice object) c is told held m left k output =
    refuses (λ _. ObjectsComeTo out objects) held held m m left k output c refl (HasOther object told (ap Refuses is))
not_joined out objects join_fault.Memory c is told held m left k output = lacks (λ _. ObjectsComeTo out objects) held held m m left k output c is refl

---- Files

module _ (held mid : Option Held) (out : List ℕ) (names : List (List ℕ)) (m n : ℕ) (same : mid ≡ held) (few : length names ≤ 64) where
  abbrev Links : Option (List ℕ) → Verdict → Type 0
  Links _ verdict = LinkComesTo held out names verdict

  -- the files were read
  pub reads_contents : (contents : List (List ℕ)) → AreHeld held names contents → m ≤ n
      → (left : Option (List ℕ)) (k : ℕ) (output : Account) (new : Devices) (c : Cause) → Answers (λ _. ContentsComeTo out contents) (devices mid n left k output) new c
      → Answers Links (devices held m left k output) new c
  reads_contents contents are l left k output new c answers =
      later Links held m n left k output new c l
      (mapped (λ _. ContentsComeTo out contents) Links (devices held n left k output) new c (λ _ v it. HaveContents contents few are it)
      (subst (λ h. Answers (λ _. ContentsComeTo out contents) (devices h n left k output) new c) same answers))

  -- or weren't
  pub unread : (c : Cause) → AreUnread held names m n c → (left : Option (List ℕ)) (k : ℕ) (output : Account) → Answers Links (devices held m left k output) (devices mid n left k output) c
  unread c (LackOne number name before are there none e) left k output =
      refuses Links held mid m n left k output c same (LacksOne number name before few are there none (ap Refuses e))
  unread c (OneFailed rose e) left k output =
      subst (Answers Links (devices held m left k output) (devices mid n left k output)) (sym e) (files_failed Links held mid m n left k output same rose)
  unread c (LackMemory e) left k output = lacks Links held mid m n left k output c e same
