-- One name more, and one line more.
use Rattle.std.proofs.Common.{◌≡◌, ◌≢◌, ◌<◌, ◌≤◌, ◌+◌, ℕ, zero, suc, List, [], ◌∷◌, ◌++◌, length, take, drop, map, get_or, cond, true, false, Bool, eqb, eq-eqb, ne_eqb, Option, Some, Vec, refl, sym, ap, ◌∙◌, subst, arith, length-append}
use Rattle.std.specs.Prelude.{slice_get}
use Rattle.std.specs.Global.{Global}
use native.Mathlib.Decide.{ℕ_discrete}
use Rattle.std.specs.List.{AllZip}
use Rattle.std.proofs.lemmas.List.{take_more, take_all, map-append}
use Rattle.std.proofs.lemmas.List.Sums.{sum_by-append}
use Rattle.outside.specs.Files.{Held}
use Rattle.outside.specs.Counts.{Rose}
use Rattle.trc_answers.specs.declared.causes.Cause.{Cause}
use Rattle.trc_answers.specs.declared.causes.Cause.TheVariants.{Limit}
use Rattle.batch_list.specs.Form.{ListLine}
use Rattle.batch_jobs.specs.Jobs.{Task, IsRefused, HasTexts, task_of}
use Rattle.batch_jobs.specs.Sources.{IsSource, AreSources, GivesNone, Reading, IsReadingOf, HasTooMany, EndsAtOne, HasAll, AreReadings, AreJobs, PassesWithin, FailsToRead, FilesFailed, LacksMemory, IsUnreadJob, PassesLimit, Fails, AreUnreadJobs, PassLimit, Fail, bytes_of, read_for, tasks_for, most_job_bytes}
use Rattle.batch_jobs.specs.Found.{IsFoundAs, IsJobRead}
use Rattle.batch_jobs.specs.declared.sources.Found.{Found}
use Rattle.batch_jobs.specs.declared.sources.Found.TheVariants.{Source, Nothing}
use Rattle.batch_jobs.specs.declared.jobs.Job.{Job}

---- Lists

-- what stands at a place of a mapped list
pub at_place : {A B : Type 0} (f : A → B) (xs : List A) (i : ℕ) (x : A) (d : B) → i < length xs → x ≡ get_or xs i x → get_or (map f xs) i d ≡ f x
at_place f [] i x d small e = absurd (omega arith)
at_place f (y ∷ ys) zero x d small e = ap f (sym e)
at_place f (y ∷ ys) (suc i) x d small e = at_place f ys i x d (omega arith) e

found_at : {A : Type 0} (xs : List A) (i : ℕ) (d : A) → i < length xs → slice_get xs i ≡ Some (get_or xs i d)
found_at [] i d small = absurd (omega arith)
found_at (y ∷ ys) zero d small = refl
found_at (y ∷ ys) (suc i) d small = found_at ys i d (omega arith)

mapped_length : {A B : Type 0} (f : A → B) (xs : List A) → length (map f xs) ≡ length xs
mapped_length f [] = refl
mapped_length f (x ∷ xs) = ap suc (mapped_length f xs)

zip_push : {A B : Type 0} (R : A → B → Type 0) (xs : List A) (ys : List B) (x : A) (y : B) → AllZip R xs ys → R x y → AllZip R (xs ++ x ∷ []) (ys ++ y ∷ [])
zip_push R [] [] x y all r = (r, tt)
zip_push R [] (b ∷ bs) x y all r = absurd all
zip_push R (a ∷ as') [] x y all r = absurd all
zip_push R (a ∷ as') (b ∷ bs) x y all r = (all.0, zip_push R as' bs x y all.1 r)

cut_at : {A : Type 0} (xs : List A) (i : ℕ) (d : A) → i < length xs → xs ≡ take i xs ++ get_or xs i d ∷ drop (suc i) xs
cut_at [] i d small = absurd (omega arith)
cut_at (x ∷ xs) zero d small = refl
cut_at (x ∷ xs) (suc i) d small = ap (λ l. x ∷ l) (cut_at xs i d (omega arith))

---- The files of a line

-- what was found for a name
pub none_found : (held held' : Option Held) (name name' : List ℕ) (found : Found) (status : ℕ) → held' ≡ held → name' ≡ name → found ≡ Nothing status → IsFoundAs held' name' found → GivesNone held name status
none_found held held' name name' found status e f is h = subst (λ (y : Option Held × List ℕ × Found). IsFoundAs y.0 y.1 y.2) (λ i. (e i, f i, is i)) h

pub source_found : (held held' : Option Held) (name name' : List ℕ) (found : Found) (text : List ℕ) → held' ≡ held → name' ≡ name → found ≡ Source text → IsFoundAs held' name' found → IsSource held name text
source_found held held' name name' found text e f is h = subst (λ (y : Option Held × List ℕ × Found). IsFoundAs y.0 y.1 y.2) (λ i. (e i, f i, is i)) h

-- names as bytes
abbrev pub plain_names : List (Vec ℕ Global) → List (List ℕ)
plain_names names = map (λ (name : Vec ℕ Global). name.items) names

one_more : (texts : List (List ℕ)) (text : List ℕ) → bytes_of (texts ++ text ∷ []) ≡ bytes_of texts + length text
one_more texts text = sum_by-append length texts (text ∷ []) ∙ (let e : bytes_of (text ∷ []) ≡ length text = omega arith in omega arith)

-- the next name's source is read
pub read_further : (held : Option Held) (names : List (Vec ℕ Global)) (i : ℕ) (name : Vec ℕ Global) (texts : List (List ℕ)) (text : List ℕ) → i < length names → name ≡ get_or names i name
    → AreSources held (take i (plain_names names)) texts → IsSource held name.items text → AreSources held (take (i + 1) (plain_names names)) (texts ++ text ∷ [])
read_further held names i name texts text small its before one =
    let at : get_or (plain_names names) i [] ≡ name.items = at_place (λ (n : Vec ℕ Global). n.items) names i name [] small its in
    let count = mapped_length (λ (n : Vec ℕ Global). n.items) names in
    let more : take (i + 1) (plain_names names) ≡ take i (plain_names names) ++ name.items ∷ [] = take_more (plain_names names) i [] (omega (arith, count)) ∙ ap (λ n. take i (plain_names names) ++ n ∷ []) at in
    subst (λ ns. AreSources held ns (texts ++ text ∷ [])) (sym more) (zip_push (IsSource held) (take i (plain_names names)) texts name.items text before one)

-- over 64 names give a job that is refused
pub too_many : (held : Option Held) (names : List (Vec ℕ Global)) (read : ℕ) (job : Job) → 64 < length names → read ≤ most_job_bytes → task_of job ≡ IsRefused 3 → IsJobRead held (plain_names names) read read job
too_many held names read job many few is =
    let count = mapped_length (λ (n : Vec ℕ Global). n.items) names in
    record {
      reading = record { sources = []; task = IsRefused 3 };
      is = HasTooMany (omega (arith, count)) refl refl;
      task_is = is;
      counted = omega arith;
      within = few;
    }

-- a name that gives no source ends the reading
pub ends : (held : Option Held) (names : List (Vec ℕ Global)) (i : ℕ) (name : Vec ℕ Global) (texts : List (List ℕ)) (status old new : ℕ) (job : Job) → i < length names → name ≡ get_or names i name
    → length names ≤ 64 → AreSources held (take i (plain_names names)) texts → GivesNone held name.items status → new ≡ old + bytes_of texts → new ≤ most_job_bytes → task_of job ≡ IsRefused status
    → IsJobRead held (plain_names names) old new job
ends held names i name texts status old new job small its few before none counted within is =
    let at : get_or (plain_names names) i [] ≡ name.items = at_place (λ (n : Vec ℕ Global). n.items) names i name [] small its in
    let count = mapped_length (λ (n : Vec ℕ Global). n.items) names in
    let there : slice_get (plain_names names) i ≡ Some name.items = found_at (plain_names names) i [] (omega (arith, count)) ∙ ap Some at in
    record {
      reading = record { sources = texts; task = IsRefused status };
      is = EndsAtOne status (omega (arith, count)) (record { number = i; name = name.items; before = before; is = there; none = none }) refl;
      task_is = is;
      counted = counted;
      within = within;
    }

-- all names gave their sources
pub whole : (held : Option Held) (names : List (Vec ℕ Global)) (i : ℕ) (texts : List (List ℕ)) (old new : ℕ) (job : Job) → length names ≤ i
    → length names ≤ 64 → AreSources held (take i (plain_names names)) texts → new ≡ old + bytes_of texts → new ≤ most_job_bytes → task_of job ≡ HasTexts texts
    → IsJobRead held (plain_names names) old new job
whole held names i texts old new job end few before counted within is =
    let count = mapped_length (λ (n : Vec ℕ Global). n.items) names in
    record {
      reading = record { sources = texts; task = HasTexts texts };
      is = HasAll (omega (arith, count)) (subst (λ ns. AreSources held ns texts) (take_all i (plain_names names) (omega (arith, count))) before) refl;
      task_is = is;
      counted = counted;
      within = within;
    }

-- the count of bytes with one text more
pub counted_more : (old mid new : ℕ) (texts : List (List ℕ)) (text : List ℕ) → mid ≡ old + bytes_of texts → new ≡ mid + length text → new ≡ old + bytes_of (texts ++ text ∷ [])
counted_more old mid new texts text before more = let e = one_more texts text in omega arith

-- one text more passes the limit
pub over : (held : Option Held) (names : List (Vec ℕ Global)) (i : ℕ) (name : Vec ℕ Global) (texts : List (List ℕ)) (text : List ℕ) (old mid new faults after : ℕ) → i < length names → name ≡ get_or names i name
    → length names ≤ 64 → AreSources held (take i (plain_names names)) texts → IsSource held name.items text → mid ≡ old + bytes_of texts → new ≡ mid + length text → most_job_bytes < new
    → IsUnreadJob held (plain_names names) old faults after (Limit 70 0)
over held names i name texts text old mid new faults after small its few before one counted more many =
    let count = mapped_length (λ (n : Vec ℕ Global). n.items) names in
    let e = counted_more old mid new texts text counted more in
    PassesLimit (record {
      few = omega (arith, count);
      number = i + 1;
      texts = texts ++ text ∷ [];
      read = read_further held names i name texts text small its before one;
      over = omega arith;
    }) refl

rose_later : (a b c : ℕ) → a ≤ b → Rose b c → Rose a c
rose_later a b c l rose = omega (arith, l, rose)

pub fails_later : (old mid new : ℕ) (cause : Cause) → old ≤ mid → FailsToRead mid new cause → FailsToRead old new cause
fails_later old mid new cause l (FilesFailed rose is) = FilesFailed (rose_later old mid new l rose) is
fails_later old mid new cause l (LacksMemory is) = LacksMemory is

---- Lines

-- the jobs of these lines are read
pub record SoFar (held : Option Held) (lines : List ListLine) (first second : List Task) (read : ℕ) : Type 0 where
  pub readings : List Reading
  pub are : AreReadings held lines readings
  pub first_are : first ≡ tasks_for 0 lines readings
  pub second_are : second ≡ tasks_for 1 lines readings
  pub counted : read ≡ read_for readings

pub none_yet : (held : Option Held) → SoFar held [] [] [] 0
none_yet held = record { readings = []; are = tt; first_are = refl; second_are = refl; counted = refl }

tasks-own : (s : ℕ) (held : Option Held) (lines : List ListLine) (readings : List Reading) (line : ListLine) (reading : Reading) → AreReadings held lines readings → line.sender ≡ s
    → tasks_for s (lines ++ line ∷ []) (readings ++ reading ∷ []) ≡ tasks_for s lines readings ++ reading.task ∷ []
tasks-own s held [] [] line reading are own = rw (eq-eqb line.sender s own) refl
tasks-own s held [] (r ∷ rs) line reading are own = absurd are
tasks-own s held (l ∷ ls) [] line reading are own = absurd are
tasks-own s held (l ∷ ls) (r ∷ rs) line reading are own = by_test (eqb l.sender s) (tasks-own s held ls rs line reading are.1 own)
  where
    by_test : (b : Bool) → tasks_for s (ls ++ line ∷ []) (rs ++ reading ∷ []) ≡ tasks_for s ls rs ++ reading.task ∷ []
        → cond b (r.task ∷ tasks_for s (ls ++ line ∷ []) (rs ++ reading ∷ [])) (tasks_for s (ls ++ line ∷ []) (rs ++ reading ∷ [])) ≡ cond b (r.task ∷ tasks_for s ls rs) (tasks_for s ls rs) ++ reading.task ∷ []
    by_test b e = elim b as (λ v. cond v (r.task ∷ tasks_for s (ls ++ line ∷ []) (rs ++ reading ∷ [])) (tasks_for s (ls ++ line ∷ []) (rs ++ reading ∷ [])) ≡ cond v (r.task ∷ tasks_for s ls rs) (tasks_for s ls rs) ++ reading.task ∷ []) [
      | true ↦ ap (λ l. r.task ∷ l) e
      | false ↦ e
    ]

tasks-other : (s : ℕ) (held : Option Held) (lines : List ListLine) (readings : List Reading) (line : ListLine) (reading : Reading) → AreReadings held lines readings → line.sender ≢ s
    → tasks_for s (lines ++ line ∷ []) (readings ++ reading ∷ []) ≡ tasks_for s lines readings
tasks-other s held [] [] line reading are other = rw (ne_eqb line.sender s other) refl
tasks-other s held [] (r ∷ rs) line reading are other = absurd are
tasks-other s held (l ∷ ls) [] line reading are other = absurd are
tasks-other s held (l ∷ ls) (r ∷ rs) line reading are other =
    ap (λ ts. cond (eqb l.sender s) (r.task ∷ ts) ts) (tasks-other s held ls rs line reading are.1 other)

-- one line more, with its job
module _ (held : Option Held) (lines : List ListLine) (line : ListLine) (first second : List Task) (old new : ℕ) (job : Job) (names : List (List ℕ)) (so_far : SoFar held lines first second old)
    (its : names ≡ line.names) (read : IsJobRead held names old new job) where
  more_are : AreReadings held (lines ++ line ∷ []) (so_far.readings ++ read.reading ∷ [])
  more_are = zip_push (λ l r. IsReadingOf held l.names r) lines so_far.readings line read.reading so_far.are (subst (λ ns. IsReadingOf held ns read.reading) its read.is)

  more_counted : new ≡ read_for (so_far.readings ++ read.reading ∷ [])
  more_counted =
      let e = sum_by-append (λ (r : Reading). bytes_of r.sources) so_far.readings (read.reading ∷ []) in
      let f = read.counted in let g = so_far.counted in omega arith

  pub one_first : (pushed : List Task) → line.sender ≡ 0 → pushed ≡ first ++ task_of job ∷ [] → SoFar held (lines ++ line ∷ []) pushed second new
  one_first pushed own is = record {
    readings = so_far.readings ++ read.reading ∷ [];
    are = more_are;
    first_are = is ∙ ((λ i. so_far.first_are i ++ read.task_is i ∷ []) ∙ sym (tasks-own 0 held lines so_far.readings line read.reading so_far.are own));
    second_are = so_far.second_are ∙ sym (tasks-other 1 held lines so_far.readings line read.reading so_far.are (λ e. omega arith));
    counted = more_counted;
  }

  pub one_second : (pushed : List Task) → line.sender ≡ 1 → pushed ≡ second ++ task_of job ∷ [] → SoFar held (lines ++ line ∷ []) first pushed new
  one_second pushed own is = record {
    readings = so_far.readings ++ read.reading ∷ [];
    are = more_are;
    first_are = so_far.first_are ∙ sym (tasks-other 0 held lines so_far.readings line read.reading so_far.are (λ e. omega arith));
    second_are = is ∙ ((λ i. so_far.second_are i ++ read.task_is i ∷ []) ∙ sym (tasks-own 1 held lines so_far.readings line read.reading so_far.are own));
    counted = more_counted;
  }

-- one line more, whose job was put to its submitter's
pub one_more_line : (held : Option Held) (lines : List ListLine) (line : ListLine) (first second first' second' : List Job) (old new : ℕ) (job : Job) (names : List (List ℕ)) → line.sender < 2
    → SoFar held lines (map task_of first) (map task_of second) old → names ≡ line.names → IsJobRead held names old new job
    → (line.sender ≡ 0 → (first' ≡ first ++ job ∷ []) × (second' ≡ second)) → (line.sender ≢ 0 → (first' ≡ first) × (second' ≡ second ++ job ∷ []))
    → SoFar held (lines ++ line ∷ []) (map task_of first') (map task_of second') new
one_more_line held lines line first second first' second' old new job names small so_far its read own other = elim (ℕ_discrete line.sender 0) [
  | yes e ↦
      let p = own e in
      subst (λ l. SoFar held (lines ++ line ∷ []) (map task_of first') (map task_of l) new) (sym p.1)
      (one_first held lines line (map task_of first) (map task_of second) old new job names so_far its read (map task_of first') e (ap (map task_of) p.0 ∙ map-append task_of first (job ∷ [])))
  | no n ↦
      let p = other n in
      subst (λ l. SoFar held (lines ++ line ∷ []) (map task_of l) (map task_of second') new) (sym p.0)
      (one_second held lines line (map task_of first) (map task_of second) old new job names so_far its read (map task_of second') (omega arith) (ap (map task_of) p.1 ∙ map-append task_of second (job ∷ [])))
]

one_longer : (xs ys : List Job) (job : Job) → ys ≡ xs ++ job ∷ [] → length ys ≡ length xs + 1
one_longer xs ys job e = ap length e ∙ length-append xs (job ∷ [])

-- as many jobs as lines
pub one_more_job : (sender n : ℕ) (first second first' second' : List Job) (job : Job) → length first + length second ≤ n
    → (sender ≡ 0 → (first' ≡ first ++ job ∷ []) × (second' ≡ second)) → (sender ≢ 0 → (first' ≡ first) × (second' ≡ second ++ job ∷ []))
    → length first' + length second' ≤ n + 1
one_more_job sender n first second first' second' job few own other = elim (ℕ_discrete sender 0) [
  | yes e ↦ let p = own e in let a = one_longer first first' job p.0 in let b = ap length p.1 in omega (arith, a, b)
  | no m ↦ let p = other m in let a = ap length p.0 in let b = one_longer second second' job p.1 in omega (arith, a, b)
]

both_moved : (held : Option Held) (names names' : List (List ℕ)) (n n' : ℕ) → names ≡ names' → n ≡ n' → PassesWithin held names n → PassesWithin held names' n'
both_moved held names names' n n' e f h = subst (λ (y : List (List ℕ) × ℕ). PassesWithin held y.0 y.1) (λ i. (e i, f i)) h

-- the job of the next line isn't read
pub unread_line : (held : Option Held) (lines : List ListLine) (i : ℕ) (line : ListLine) (names : List (List ℕ)) (first second : List Task) (read old mid new : ℕ) (cause : Cause)
    → i < length lines → get_or lines i line ≡ line → names ≡ line.names → SoFar held (take i lines) first second read → old ≤ mid → IsUnreadJob held names read mid new cause
    → AreUnreadJobs held lines old new cause
unread_line held lines i line names first second read old mid new cause small at its so_far l (PassesLimit passes is) =
    PassLimit (record {
      before = take i lines;
      line = line;
      after = drop (suc i) lines;
      cut = cut_at lines i line small ∙ ap (λ x. take i lines ++ x ∷ drop (suc i) lines) at;
      readings = so_far.readings;
      are = so_far.are;
      passes = both_moved held names line.names read (read_for so_far.readings) its so_far.counted passes;
    }) is
unread_line held lines i line names first second read old mid new cause small at its so_far l (Fails fails) = Fail (fails_later old mid new cause l fails)

-- all lines have their jobs
pub all_lines : (held : Option Held) (lines : List ListLine) (i : ℕ) (first second : List Task) (read : ℕ) → length lines ≤ i → read ≤ most_job_bytes → SoFar held (take i lines) first second read
    → AreJobs held lines first second
all_lines held lines i first second read end few so_far =
    let same : take i lines ≡ lines = take_all i lines end in
    let s : SoFar held lines first second read = subst (λ ls. SoFar held ls first second read) same so_far in
    record { readings = s.readings; are = s.are; within = (let e = s.counted in omega arith); first_are = s.first_are; second_are = s.second_are }
