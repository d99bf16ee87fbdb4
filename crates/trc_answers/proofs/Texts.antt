-- One text more, and why the next isn't read.
use Rattle.std.proofs.Common.{◌≡◌, ◌<◌, ◌≤◌, ◌+◌, ℕ, zero, suc, List, [], ◌∷◌, ◌++◌, length, take, map, Option, Some, Ok, Err, refl, sym, ap, ◌∙◌, subst, arith}
use Rattle.std.specs.Prelude.{get_or, slice_get, Result, IfErr}
use Rattle.std.specs.Result.{IsErrAnd}
use Rattle.std.specs.Borrow.{Bor}
use Rattle.std.proofs.lemmas.List.{take_more, map-append}
use Rattle.outside.specs.Files.{Held}
use Rattle.trc_answers.specs.Verdict.{Verdict, Refuses, IsHeld}
use Rattle.trc_answers.specs.Answers.{Devices, devices, Answers}
use Rattle.outside.specs.Sink.{Account}
use Rattle.trc_answers.specs.declared.places.Position.{Position}
use Rattle.trc_answers.specs.Causes.{IsPlain, IsPlaced}
use Rattle.trc_answers.specs.Reading.{IsRead, AreRead, AreTextsOf, IsReached, FilesComeTo, AreTooMany, LacksOne, HasALongOne, HaveTexts, Nothing, IsUnreadAt, IsMissing, IsTooLong, IsUnread, IsRefused, OneFailed, LackMemory}
use Rattle.trc_answers.specs.Reading as reading
use Rattle.trc_answers.specs.declared.causes.Cause.{Cause}
use Rattle.trc_answers.specs.declared.causes.Cause.TheVariants.{Source}
use Rattle.trc_answers.proofs.Answering.{refuses, files_failed, lacks, mapped, later}

read_more : (held : Option Held) (names texts : List (List ℕ)) (name text : List ℕ) → AreRead held names texts → IsRead held name text → AreRead held (names ++ name ∷ []) (texts ++ text ∷ [])
read_more held [] [] name text h one = (one, tt)
read_more held [] (t ∷ texts) name text h one = absurd h
read_more held (n ∷ names) [] name text h one = absurd h
read_more held (n ∷ names) (t ∷ texts) name text h one = (h.0, read_more held names texts name text h.1 one)

-- the text that stands at a number is held under the name of that number
pub text_at : (held : Option Held) (names texts : List (List ℕ)) (number : ℕ) (text : List ℕ) → AreRead held names texts → slice_get texts number ≡ Some text
    → (name : List ℕ) × (slice_get names number ≡ Some name) × IsHeld held name (Some text)
text_at held [] [] number text h e = absurd (none number e)
  where
    none : (n : ℕ) → slice_get [] n ≡ Some text → ⊥
    none zero e = cc
    none (suc n) e = cc
text_at held [] (t ∷ texts) number text h e = absurd h
text_at held (n ∷ names) [] number text h e = absurd h
text_at held (n ∷ names) (t ∷ texts) zero text h e = let same : t ≡ text = cc in (n, refl, subst (λ x. IsHeld held n (Some x)) same h.0.is)
text_at held (n ∷ names) (t ∷ texts) (suc number) text h e = text_at held names texts number text h.1 e

-- there are at most as many texts as names
as_many : (held : Option Held) (names texts : List (List ℕ)) → AreRead held names texts → length texts ≡ length names
as_many held [] [] h = refl
as_many held [] (t ∷ texts) h = absurd h
as_many held (n ∷ names) [] h = absurd h
as_many held (n ∷ names) (t ∷ texts) h = ap suc (as_many held names texts h.1)

pub few_texts : (held : Option Held) (names texts : List (List ℕ)) → AreTextsOf held names texts → length texts ≤ 64
few_texts held names texts h = let many = as_many held names texts h.read in let few = h.few in omega (arith, many, few)

-- one text more is read
pub read_next : (held : Option Held) (names texts : List (List ℕ)) (number : ℕ) (name text : List ℕ) → take (number + 1) names ≡ take number names ++ name ∷ []
    → AreRead held (take number names) texts → IsRead held name text → AreRead held (take (number + 1) names) (texts ++ text ∷ [])
read_next held names texts number name text more before one = subst (λ ns. AreRead held ns (texts ++ text ∷ [])) (sym more) (read_more held (take number names) texts name text before one)

-- the file of the next name isn't read
pub unread_next : (held : Option Held) (names texts : List (List ℕ)) (number : ℕ) (name : List ℕ) (old mid new : ℕ) (cause : Cause) → length names ≤ 64
    → AreRead held (take number names) texts → slice_get names number ≡ Some name → old ≤ mid → IsUnreadAt held number name mid new cause → IsUnread held names old new cause
unread_next held names texts number name old mid new cause few before is l (IsMissing none e) =
    IsRefused (LacksOne number name (record { few = few; texts = texts; before = before; is = is }) none (ap Refuses e))
unread_next held names texts number name old mid new cause few before is l (IsTooLong text there long e) =
    IsRefused (HasALongOne number name text (record { few = few; texts = texts; before = before; is = is }) there long (ap Refuses e))
unread_next held names texts number name old mid new cause few before is l (reading.Failed rose e) = OneFailed (omega (arith, l, rose)) e
unread_next held names texts number name old mid new cause few before is l (reading.LacksMemory e) = LackMemory e

---- What reading is for a command

no_texts : (held : Option Held) (names : List (List ℕ)) (next : List (List ℕ) → Verdict → Type 0) (v : Verdict) → FilesComeTo held names Nothing v → FilesComeTo held names next v
no_texts held names next v (AreTooMany many e) = AreTooMany many e
no_texts held names next v (LacksOne number name reached none e) = LacksOne number name reached none e
no_texts held names next v (HasALongOne number name text reached is long e) = HasALongOne number name text reached is long e
no_texts held names next v (HaveTexts texts are none) = absurd none

-- the files weren't read
pub unread : (held mid : Option Held) (names : List (List ℕ)) (m n : ℕ) (cause : Cause) (next : Option (List ℕ) → List (List ℕ) → Verdict → Type 0) → mid ≡ held → IsUnread held names m n cause
    → (left : Option (List ℕ)) (k : ℕ) (out : Account) → Answers (λ l. FilesComeTo held names (next l)) (devices held m left k out) (devices mid n left k out) cause
unread held mid names m n cause next same (IsRefused comes) left k out = refuses (λ l. FilesComeTo held names (next l)) held mid m n left k out cause same (no_texts held names (next left) (Refuses cause) comes)
unread held mid names m n cause next same (OneFailed rose e) left k out =
    subst (Answers (λ l. FilesComeTo held names (next l)) (devices held m left k out) (devices mid n left k out)) (sym e) (files_failed (λ l. FilesComeTo held names (next l)) held mid m n left k out same rose)
unread held mid names m n cause next same (LackMemory e) left k out = lacks (λ l. FilesComeTo held names (next l)) held mid m n left k out cause e same

-- the files were read, and what their texts come to
pub reads_texts : (held mid : Option Held) (names texts : List (List ℕ)) (m n : ℕ) (next : Option (List ℕ) → List (List ℕ) → Verdict → Type 0) → mid ≡ held → AreTextsOf held names texts → m ≤ n
    → (left : Option (List ℕ)) (k : ℕ) (out : Account) (new : Devices) (cause : Cause) → Answers (λ l. next l texts) (devices mid n left k out) new cause → Answers (λ l. FilesComeTo held names (next l)) (devices held m left k out) new cause
reads_texts held mid names texts m n next same are l left k out new cause answers =
    later _ held m n left k out new cause l
    (mapped (λ x. next x texts) (λ x. FilesComeTo held names (next x)) (devices held n left k out) new cause (λ x v it. HaveTexts texts are it)
    (subst (λ h. Answers (λ x. next x texts) (devices h n left k out) new cause) same answers))

---- Places

pub plain_placed : (IsText : ℕ → List ℕ → Type 0) (cause : Cause) (place : Position) → IsPlain cause → IsPlaced IsText cause place
plain_placed IsText (Source number m at) place plain = absurd plain
plain_placed IsText _ place plain = tt

pub placed_as : (IsText IsOther : ℕ → List ℕ → Type 0) (cause : Cause) (place : Position) → ((m : ℕ) (text : List ℕ) → IsText m text → IsOther m text) → IsPlaced IsText cause place → IsPlaced IsOther cause place
placed_as IsText IsOther (Source number m at) place f h = (h.0, f m h.0 h.1, h.2)
placed_as IsText IsOther _ place f h = tt

---- Answers

-- what holds of a fault holds of the answer that has it
pub err_as : {X : Type 0} (r : Result X Cause) (cause : Cause) (P : Cause → Type 0) → IsErrAnd r (λ x. x ≡ cause) → P cause → IfErr r P
err_as (Ok x) cause P h p = tt
err_as (Err x) cause P h p = subst P (sym h) p

---- Lists of names

-- the texts of names that are lent, one further
pub read_further : (held : Option Held) (names : List (Bor (List ℕ))) (i : ℕ) (d : Bor (List ℕ)) (texts after : List (List ℕ)) (text : List ℕ) → i < length names
    → AreRead held (map (λ n. n.now) (take i names)) texts → IsRead held (get_or names i d).now text → after ≡ texts ++ text ∷ [] → AreRead held (map (λ n. n.now) (take (i + 1) names)) after
read_further held names i d texts after text l before one is =
    subst (AreRead held (map (λ (n : Bor (List ℕ)). n.now) (take (i + 1) names))) (sym is)
    (subst (λ ns. AreRead held ns (texts ++ text ∷ []))
    (sym (ap (λ (ns : List (Bor (List ℕ))). map (λ (n : Bor (List ℕ)). n.now) ns) (take_more names i d l) ∙ map-append (λ (n : Bor (List ℕ)). n.now) (take i names) (get_or names i d ∷ [])))
    (read_more held (map (λ (n : Bor (List ℕ)). n.now) (take i names)) texts (get_or names i d).now text before one))

lent_at : (names : List (Bor (List ℕ))) (i : ℕ) (d : Bor (List ℕ)) → i < length names → slice_get (map (λ n. n.now) names) i ≡ Some (get_or names i d).now
lent_at [] i d l = absurd (omega (arith, l))
lent_at (n ∷ names) zero d l = refl
lent_at (n ∷ names) (suc i) d l = lent_at names i d (omega (arith, l))

taken_lent : (names : List (Bor (List ℕ))) (i : ℕ) → map (λ n. n.now) (take i names) ≡ take i (map (λ n. n.now) names)
taken_lent names zero = refl
taken_lent [] (suc i) = refl
taken_lent (n ∷ names) (suc i) = ap (λ ns. n.now ∷ ns) (taken_lent names i)

counted_lent : (names : List (Bor (List ℕ))) → length (map (λ n. n.now) names) ≡ length names
counted_lent [] = refl
counted_lent (n ∷ names) = ap suc (counted_lent names)

-- the file of the next name that is lent isn't read
pub unread_further : (held : Option Held) (names : List (Bor (List ℕ))) (i : ℕ) (d : Bor (List ℕ)) (texts : List (List ℕ)) (old mid new : ℕ) (cause : Cause) → i < length names → length names ≤ 64
    → AreRead held (map (λ n. n.now) (take i names)) texts → old ≤ mid → IsUnreadAt held i (get_or names i d).now mid new cause → IsUnread held (map (λ n. n.now) names) old new cause
unread_further held names i d texts old mid new cause l few before rises one =
    let count = counted_lent names in
    unread_next held (map (λ (n : Bor (List ℕ)). n.now) names) texts i (get_or names i d).now old mid new cause (omega (arith, count, few))
    (subst (λ ns. AreRead held ns texts) (taken_lent names i) before) (lent_at names i d l) rises one
