-- A list comes to one thing, where what is held is told and texts have one reply.
use Rattle.std.proofs.Common.{◌≡◌, ◌≤◌, ◌+◌, ℕ, zero, suc, List, [], ◌∷◌, ◌++◌, length, take, Option, Some, None, inl, inr, refl, sym, ap, ap₂, ◌∙◌, subst, arith}
use Rattle.std.specs.Prelude.{slice_get}
use Rattle.std.specs.List.{AllZip}
use Rattle.std.proofs.lemmas.List.Sums.{sum_by-cons}
use Rattle.outside.specs.Files.{Held}
use Rattle.trc_texts.specs.words.alloc_choice.declared.choice.Choice.{Choice}
use Rattle.trc_answers.specs.Verdict.{Verdict, Refuses, Prints}
use Rattle.trc_answers.specs.declared.causes.Cause.TheVariants.{BadLine}
use Rattle.batch_list.specs.Form.{ListLine}
use Rattle.batch_list.proofs.Once.{bad_once, lines_once, never_both}
use Rattle.batch_jobs.specs.Jobs.{Task, IsRefused, HasTexts, Reply, IsReplyTo, IsRunReply}
use Rattle.batch_jobs.specs.Replies.{replies_text}
use Rattle.batch_jobs.specs.Sources.{IsSource, AreSources, GivesNone, IsMissing, IsTooLong, Reading, IsReadingOf, HasTooMany, EndsAtOne, HasAll, AreReadings, AreJobs, PassesJobBytes, bytes_of, read_for, tasks_for}
use Rattle.batch_jobs.specs.Batches.{AreReplied, LinesComeTo, AreTooMany, AreTooLarge, HaveJobs, ListComesTo, HasBadLine, HasLines, BatchComesTo, LacksList, HasLongList, HasList}

pub some_is : {A : Type 0} (x y : A) (o : Option A) → o ≡ Some x → o ≡ Some y → x ≡ y
some_is x y o e f = cc

pub some_none : {A : Type 0} (x : A) (o : Option A) → o ≡ Some x → o ≡ None → ⊥
some_none x o e f = cc

none_there : {A : Type 0} (n : ℕ) (x : A) → slice_get [] n ≡ Some x → ⊥
none_there zero x e = cc
none_there (suc n) x e = cc

no_sources : (held : Option Held) (texts : List (List ℕ)) → AreSources held [] texts → texts ≡ []
no_sources held [] h = refl
no_sources held (t ∷ ts) h = absurd h

-- how many bytes were read for a job
abbrev read_of : Reading → ℕ
read_of reading = bytes_of reading.sources

same_reading : (a b : Reading) → a.sources ≡ b.sources → a.task ≡ b.task → a ≡ b
same_reading a b e f = λ i. record { sources = e i; task = f i }

module _ (held : Held) where
  -- a name that gives a source doesn't give none
  gives_one : (name text : List ℕ) (status : ℕ) → IsSource (Some held) name text → GivesNone (Some held) name status → ⊥
  gives_one name text status h (IsMissing (inl none) e) = some_none text (held name) h.read.is none
  gives_one name text status h (IsMissing (inr not) e) = not h.utf8
  gives_one name text status h (IsTooLong other utf8 is long e) =
      let few = h.read.within in
      let same = ap length (some_is text other (held name) h.read.is is) in
      omega (arith, few, long, same)

  status_once : (name : List ℕ) (s s' : ℕ) → GivesNone (Some held) name s → GivesNone (Some held) name s' → s ≡ s'
  status_once name s s' (IsMissing none e) (IsMissing none' e') = e ∙ sym e'
  status_once name s s' (IsMissing (inl none) e) (IsTooLong text utf8 is long e') = absurd (some_none text (held name) is none)
  status_once name s s' (IsMissing (inr not) e) (IsTooLong text utf8 is long e') = absurd (not utf8)
  status_once name s s' (IsTooLong text utf8 is long e) (IsMissing (inl none) e') = absurd (some_none text (held name) is none)
  status_once name s s' (IsTooLong text utf8 is long e) (IsMissing (inr not) e') = absurd (not utf8)
  status_once name s s' (IsTooLong text utf8 is long e) (IsTooLong text' utf8' is' long' e') = e ∙ sym e'

  source_once : (name t u : List ℕ) → IsSource (Some held) name t → IsSource (Some held) name u → t ≡ u
  source_once name t u h k = some_is t u (held name) h.read.is k.read.is

  sources_once : (names ts us : List (List ℕ)) → AreSources (Some held) names ts → AreSources (Some held) names us → ts ≡ us
  sources_once [] ts us h k = no_sources (Some held) ts h ∙ sym (no_sources (Some held) us k)
  sources_once (x ∷ names) [] us h k = absurd h
  sources_once (x ∷ names) (t ∷ ts) [] h k = absurd k
  sources_once (x ∷ names) (t ∷ ts) (u ∷ us) h k = ap₂ (λ z zs. z ∷ zs) (source_once x t u h.0 k.0) (sources_once names ts us h.1 k.1)

  -- where reading ends, it ends at one place
  end_once : (names : List (List ℕ)) (n m : ℕ) (x y : List ℕ) (ts us : List (List ℕ)) (s s' : ℕ) → AreSources (Some held) (take n names) ts → slice_get names n ≡ Some x → GivesNone (Some held) x s
      → AreSources (Some held) (take m names) us → slice_get names m ≡ Some y → GivesNone (Some held) y s' → (ts ≡ us) × (s ≡ s')
  end_once [] n m x y ts us s s' h e f k e' f' = absurd (none_there n x e)
  end_once (z ∷ names) zero zero x y ts us s s' h e f k e' f' =
      let same : x ≡ y = some_is x y (Some z) e e' in
      (no_sources (Some held) ts h ∙ sym (no_sources (Some held) us k), status_once y s s' (subst (λ w. GivesNone (Some held) w s) same f) f')
  end_once (z ∷ names) zero (suc m) x y ts [] s s' h e f k e' f' = absurd k
  end_once (z ∷ names) zero (suc m) x y ts (u ∷ us) s s' h e f k e' f' =
      let same : x ≡ z = some_is x z (Some z) e refl in
      absurd (gives_one z u s k.0 (subst (λ w. GivesNone (Some held) w s) same f))
  end_once (z ∷ names) (suc n) zero x y [] us s s' h e f k e' f' = absurd h
  end_once (z ∷ names) (suc n) zero x y (t ∷ ts) us s s' h e f k e' f' =
      let same : y ≡ z = some_is y z (Some z) e' refl in
      absurd (gives_one z t s' h.0 (subst (λ w. GivesNone (Some held) w s') same f'))
  end_once (z ∷ names) (suc n) (suc m) x y [] us s s' h e f k e' f' = absurd h
  end_once (z ∷ names) (suc n) (suc m) x y (t ∷ ts) [] s s' h e f k e' f' = absurd k
  end_once (z ∷ names) (suc n) (suc m) x y (t ∷ ts) (u ∷ us) s s' h e f k e' f' =
      let rest = end_once names n m x y ts us s s' h.1 e f k.1 e' f' in
      (ap₂ (λ w ws. w ∷ ws) (source_once z t u h.0 k.0) rest.0, rest.1)

  -- where all are read, it doesn't end before
  never_ends : (names : List (List ℕ)) (n : ℕ) (x : List ℕ) (ts : List (List ℕ)) (s : ℕ) → AreSources (Some held) names ts → slice_get names n ≡ Some x → GivesNone (Some held) x s → ⊥
  never_ends [] n x ts s h e f = none_there n x e
  never_ends (z ∷ names) n x [] s h e f = h
  never_ends (z ∷ names) zero x (t ∷ ts) s h e f =
      let same : x ≡ z = some_is x z (Some z) e refl in
      gives_one z t s h.0 (subst (λ w. GivesNone (Some held) w s) same f)
  never_ends (z ∷ names) (suc n) x (t ∷ ts) s h e f = never_ends names n x ts s h.1 e f

  reading_once : (names : List (List ℕ)) (a b : Reading) → IsReadingOf (Some held) names a → IsReadingOf (Some held) names b → a ≡ b
  reading_once names a b (HasTooMany many none is) (HasTooMany many' none' is') = same_reading a b (none ∙ sym none') (is ∙ sym is')
  reading_once names a b (HasTooMany many none is) (EndsAtOne s few ends is') = absurd (omega (arith, many, few))
  reading_once names a b (HasTooMany many none is) (HasAll few are is') = absurd (omega (arith, many, few))
  reading_once names a b (EndsAtOne s few ends is) (HasTooMany many none is') = absurd (omega (arith, many, few))
  reading_once names a b (EndsAtOne s few ends is) (EndsAtOne s' few' ends' is') =
      let one = end_once names ends.number ends'.number ends.name ends'.name a.sources b.sources s s' ends.before ends.is ends.none ends'.before ends'.is ends'.none in
      same_reading a b one.0 (is ∙ ap IsRefused one.1 ∙ sym is')
  reading_once names a b (EndsAtOne s few ends is) (HasAll few' are is') = absurd (never_ends names ends.number ends.name b.sources s are ends.is ends.none)
  reading_once names a b (HasAll few are is) (HasTooMany many none is') = absurd (omega (arith, many, few))
  reading_once names a b (HasAll few are is) (EndsAtOne s few' ends is') = absurd (never_ends names ends.number ends.name a.sources s are ends.is ends.none)
  reading_once names a b (HasAll few are is) (HasAll few' are' is') =
      let same = sources_once names a.sources b.sources are are' in
      same_reading a b same (is ∙ ap HasTexts same ∙ sym is')

  readings_once : (lines : List ListLine) (a b : List Reading) → AreReadings (Some held) lines a → AreReadings (Some held) lines b → a ≡ b
  readings_once [] [] [] h k = refl
  readings_once [] [] (y ∷ ys) h k = absurd k
  readings_once [] (x ∷ xs) b h k = absurd h
  readings_once (l ∷ ls) [] b h k = absurd h
  readings_once (l ∷ ls) (x ∷ xs) [] h k = absurd k
  readings_once (l ∷ ls) (x ∷ xs) (y ∷ ys) h k = ap₂ (λ z zs. z ∷ zs) (reading_once l.names x y h.0 k.0) (readings_once ls xs ys h.1 k.1)

  ---- Sources that pass the limit

  -- the sources of first names are among those that are read
  among_all : (names : List (List ℕ)) (n : ℕ) (ts us : List (List ℕ)) → AreSources (Some held) (take n names) ts → AreSources (Some held) names us → bytes_of ts ≤ bytes_of us
  among_all names zero ts us h k = let none = ap bytes_of (no_sources (Some held) ts h) in omega (arith, none)
  among_all [] (suc n) ts us h k = let none = ap bytes_of (no_sources (Some held) ts h) in omega (arith, none)
  among_all (z ∷ names) (suc n) [] us h k = absurd h
  among_all (z ∷ names) (suc n) (t ∷ ts) [] h k = absurd k
  among_all (z ∷ names) (suc n) (t ∷ ts) (u ∷ us) h k =
      let rest = among_all names n ts us h.1 k.1 in
      let same = ap length (source_once z t u h.0 k.0) in
      omega (arith, rest, same, sum_by-cons length t ts, sum_by-cons length u us)

  among_first : (names : List (List ℕ)) (n m : ℕ) (x : List ℕ) (ts us : List (List ℕ)) (s : ℕ) → AreSources (Some held) (take n names) ts → AreSources (Some held) (take m names) us
      → slice_get names m ≡ Some x → GivesNone (Some held) x s → bytes_of ts ≤ bytes_of us
  among_first names zero m x ts us s h k e f = let none = ap bytes_of (no_sources (Some held) ts h) in omega (arith, none)
  among_first [] (suc n) m x ts us s h k e f = absurd (none_there m x e)
  among_first (z ∷ names) (suc n) m x [] us s h k e f = absurd h
  among_first (z ∷ names) (suc n) zero x (t ∷ ts) us s h k e f =
      let same : x ≡ z = some_is x z (Some z) e refl in
      absurd (gives_one z t s h.0 (subst (λ w. GivesNone (Some held) w s) same f))
  among_first (z ∷ names) (suc n) (suc m) x (t ∷ ts) [] s h k e f = absurd k
  among_first (z ∷ names) (suc n) (suc m) x (t ∷ ts) (u ∷ us) s h k e f =
      let rest = among_first names n m x ts us s h.1 k.1 e f in
      let same = ap length (source_once z t u h.0 k.0) in
      omega (arith, rest, same, sum_by-cons length t ts, sum_by-cons length u us)

  among_read : (names : List (List ℕ)) (n : ℕ) (ts : List (List ℕ)) (r : Reading) → length names ≤ 64 → AreSources (Some held) (take n names) ts → IsReadingOf (Some held) names r → bytes_of ts ≤ bytes_of r.sources
  among_read names n ts r few h (HasTooMany many none is) = absurd (omega (arith, many, few))
  among_read names n ts r few h (EndsAtOne s few' ends is) = among_first names n ends.number ends.name ts r.sources s h ends.before ends.is ends.none
  among_read names n ts r few h (HasAll few' are is) = among_all names n ts r.sources h are

  -- what is read for some lines and a front of the next is among what is read for all
  at_least : (before : List ListLine) (line : ListLine) (after : List ListLine) (all some : List Reading) (n : ℕ) (ts : List (List ℕ)) → AreReadings (Some held) (before ++ line ∷ after) all
      → AreReadings (Some held) before some → length line.names ≤ 64 → AreSources (Some held) (take n line.names) ts → read_for some + bytes_of ts ≤ read_for all
  at_least [] line after [] some n ts h k few front = absurd h
  at_least [] line after (r ∷ rs) [] n ts h k few front = let one = among_read line.names n ts r few front h.0 in omega (arith, one, sum_by-cons read_of r rs)
  at_least [] line after (r ∷ rs) (b ∷ bs) n ts h k few front = absurd k
  at_least (l ∷ ls) line after [] some n ts h k few front = absurd h
  at_least (l ∷ ls) line after (r ∷ rs) [] n ts h k few front = absurd k
  at_least (l ∷ ls) line after (r ∷ rs) (b ∷ bs) n ts h k few front =
      let rest = at_least ls line after rs bs n ts h.1 k.1 few front in
      let same = ap read_of (reading_once l.names r b h.0 k.0) in
      omega (arith, rest, same, sum_by-cons read_of r rs, sum_by-cons read_of b bs)

  within_once : (lines : List ListLine) (first second : List Task) → AreJobs (Some held) lines first second → PassesJobBytes (Some held) lines → ⊥
  within_once lines first second jobs passes =
      let few = jobs.within in
      let over = passes.passes.over in
      let least = at_least passes.before passes.line passes.after jobs.readings passes.readings passes.passes.number passes.passes.texts
      (subst (λ ls. AreReadings (Some held) ls jobs.readings) passes.cut jobs.are) passes.are passes.passes.few passes.passes.read in
      omega (arith, few, over, least)

  ---- Replies

  module _ (choice : Choice) (steps : ℕ) (one_reply : (texts : List (List ℕ)) (a b : Reply) → IsRunReply choice steps texts a → IsRunReply choice steps texts b → a ≡ b) where
    reply_once : (task : Task) (a b : Reply) → IsReplyTo choice steps task a → IsReplyTo choice steps task b → a ≡ b
    reply_once (IsRefused status) a b h k = h ∙ sym k
    reply_once (HasTexts texts) a b h k = one_reply texts a b h k

    replies_once : (tasks : List Task) (a b : List Reply) → AllZip (IsReplyTo choice steps) tasks a → AllZip (IsReplyTo choice steps) tasks b → a ≡ b
    replies_once [] [] [] h k = refl
    replies_once [] [] (y ∷ ys) h k = absurd k
    replies_once [] (x ∷ xs) b h k = absurd h
    replies_once (t ∷ ts) [] b h k = absurd h
    replies_once (t ∷ ts) (x ∷ xs) [] h k = absurd k
    replies_once (t ∷ ts) (x ∷ xs) (y ∷ ys) h k = ap₂ (λ z zs. z ∷ zs) (reply_once t x y h.0 k.0) (replies_once ts xs ys h.1 k.1)

    replied_once : (first second : List Task) (v w : Verdict) → AreReplied choice steps first second v → AreReplied choice steps first second w → v ≡ w
    replied_once first second v w h k =
        h.verdict_is
        ∙ ap₂ (λ one two. Prints (replies_text 0 one ++ replies_text 1 two)) (replies_once first h.one k.one h.first_are k.first_are) (replies_once second h.two k.two h.second_are k.second_are)
        ∙ sym k.verdict_is

    -- jobs that lines give are replied to in one way
    jobs_once : (lines : List ListLine) (first second first' second' : List Task) (v w : Verdict) → AreJobs (Some held) lines first second → AreJobs (Some held) lines first' second'
        → AreReplied choice steps first second v → AreReplied choice steps first' second' w → v ≡ w
    jobs_once lines first second first' second' v w jobs others h k =
        let same = readings_once lines others.readings jobs.readings others.are jobs.are in
        let one : first' ≡ first = others.first_are ∙ ap (tasks_for 0 lines) same ∙ sym jobs.first_are in
        let two : second' ≡ second = others.second_are ∙ ap (tasks_for 1 lines) same ∙ sym jobs.second_are in
        replied_once first second v w h (subst (λ ts. AreReplied choice steps first ts w) two (subst (λ ts. AreReplied choice steps ts second' w) one k))

    lines_come_once : (lines : List ListLine) (v w : Verdict) → LinesComeTo (Some held) choice steps lines v → LinesComeTo (Some held) choice steps lines w → v ≡ w
    lines_come_once lines v w (AreTooMany many e) (AreTooMany many' f) = e ∙ sym f
    lines_come_once lines v w (AreTooMany many e) (AreTooLarge few passes f) = absurd (omega (arith, many, few))
    lines_come_once lines v w (AreTooMany many e) (HaveJobs first second few jobs k) = absurd (omega (arith, many, few))
    lines_come_once lines v w (AreTooLarge few passes e) (AreTooMany many f) = absurd (omega (arith, many, few))
    lines_come_once lines v w (AreTooLarge few passes e) (AreTooLarge few' passes' f) = e ∙ sym f
    lines_come_once lines v w (AreTooLarge few passes e) (HaveJobs first second few' jobs k) = absurd (within_once lines first second jobs passes)
    lines_come_once lines v w (HaveJobs first second few jobs h) (AreTooMany many f) = absurd (omega (arith, many, few))
    lines_come_once lines v w (HaveJobs first second few jobs h) (AreTooLarge few' passes f) = absurd (within_once lines first second jobs passes)
    lines_come_once lines v w (HaveJobs first second few jobs h) (HaveJobs first' second' few' others k) = jobs_once lines first second first' second' v w jobs others h k

    list_once : (list : List ℕ) (v w : Verdict) → ListComesTo (Some held) choice steps list v → ListComesTo (Some held) choice steps list w → v ≡ w
    list_once list v w (HasBadLine m bad e) (HasBadLine n bad' f) = e ∙ ap (λ k. Refuses (BadLine k)) (bad_once list m n bad bad') ∙ sym f
    list_once list v w (HasBadLine m bad e) (HasLines lines are k) = absurd (never_both list lines m are bad)
    list_once list v w (HasLines lines are h) (HasBadLine m bad f) = absurd (never_both list lines m are bad)
    list_once list v w (HasLines lines are h) (HasLines others also k) = lines_come_once lines v w h (subst (λ ls. LinesComeTo (Some held) choice steps ls w) (lines_once list others lines also are) k)

    pub batch_once : (name : List ℕ) (v w : Verdict) → BatchComesTo (Some held) choice steps name v → BatchComesTo (Some held) choice steps name w → v ≡ w
    batch_once name v w (LacksList none e) (LacksList none' f) = e ∙ sym f
    batch_once name v w (LacksList none e) (HasLongList list is long f) = absurd (some_none list (held name) is none)
    batch_once name v w (LacksList none e) (HasList list is few k) = absurd (some_none list (held name) is none)
    batch_once name v w (HasLongList list is long e) (LacksList none f) = absurd (some_none list (held name) is none)
    batch_once name v w (HasLongList list is long e) (HasLongList list' is' long' f) = e ∙ sym f
    batch_once name v w (HasLongList list is long e) (HasList list' is' few k) = let same = ap length (some_is list list' (held name) is is') in absurd (omega (arith, long, few, same))
    batch_once name v w (HasList list is few h) (LacksList none f) = absurd (some_none list (held name) is none)
    batch_once name v w (HasList list is few h) (HasLongList list' is' long f) = let same = ap length (some_is list list' (held name) is is') in absurd (omega (arith, long, few, same))
    batch_once name v w (HasList list is few h) (HasList list' is' few' k) = list_once list v w h (subst (λ l. ListComesTo (Some held) choice steps l w) (some_is list' list (held name) is' is) k)
