-- What holds of all values.
use Rattle.std.proofs.Common.{◌≡◌, ◌≤◌, ℕ, Bool, true, false, ◌&&◌, List, [], ◌∷◌, length, nat_le, Option, Some, None, cond, refl, subst, arith, codes, lit≤}
use Rattle.std.proofs.lemmas.Bool.{leb-true}
use Rattle.std.proofs.lemmas.Option.{none-some, same_Some}
use Rattle.std.specs.Str.Parse.{digits_value}
use Rattle.clap.specs.Words.{Row, all_of, first_of}
use Rattle.alloc_choice.specs.declared.choice.Policy.{Policy}
use Rattle.alloc_choice.specs.Choice.{IsFitChoice}
use Rattle.trace_build.specs.declared.builder.Builder.{Builder}
use Rattle.option_values.specs.Numbers.{is_between, is_number, number_between}
use Rattle.option_values.specs.Values.{files_in, given, names_in, some_of, value_or}
use Rattle.option_values.specs.Options.{choice_in, jobs_in, policy_in, regs_in, seed_in, shown_choice_in, size_in, steps_in, traces_choice_in, traces_in, turns_in}

module _ {A : Type 0} where
  -- what is there has the property
  abbrev pub Holds : (A → Type 0) → Option A → Type 0
  Holds P o = (a : A) → o ≡ Some a → P a

  pub none_holds : (P : A → Type 0) → Holds P None
  none_holds P a e = absurd (none-some a e)

  pub some_holds : (P : A → Type 0) (a : A) → P a → Holds P (Some a)
  some_holds P a h b e = subst P (same_Some a b e) h

  pub cond_holds : (P : A → Type 0) (test : Bool) (one other : Option A) → Holds P one → Holds P other → Holds P (cond test one other)
  cond_holds P true one other h k = h
  cond_holds P false one other h k = k

  value_holds : (P : A → Type 0) (default : A) (stands_for : List ℕ → Option A) (text : Option (List ℕ))
      → P default → ((t : List ℕ) → Holds P (stands_for t)) → Holds P (value_or default stands_for text)
  value_holds P default stands_for None h all = some_holds P default h
  value_holds P default stands_for (Some t) h all = all t

module _ {A B : Type 0} where
  pub given_holds : (P : A → Type 0) (Q : B → Type 0) (o : Option A) (f : A → Option B)
      → Holds P o → ((a : A) → P a → Holds Q (f a)) → Holds Q (given o f)
  given_holds P Q None f h next = none_holds Q
  given_holds P Q (Some a) f h next = next a (h a refl)

abbrev pub Between : ℕ → ℕ → ℕ → Type 0
Between least most n = (least ≤ n) × (n ≤ most)

between : (least most n : ℕ) → is_between least most n ≡ true → Between least most n
between least most n e = go (nat_le least n) (nat_le n most) refl refl e
  where
    go : (a b : Bool) → nat_le least n ≡ a → nat_le n most ≡ b → (a && b) ≡ true → Between least most n
    go true true l m e = (leb-true least n l, leb-true n most m)
    go true false l m e = cc
    go false b l m e = cc

number_holds : (least most : ℕ) (text : List ℕ) → Holds (Between least most) (number_between least most text)
number_holds least most text = go (is_number text) (is_between least most (digits_value 10 text)) refl
  where
    go : (a b : Bool) → is_between least most (digits_value 10 text) ≡ b
        → Holds (Between least most) (cond (a && b) (Some (digits_value 10 text)) None)
    go true true e = some_holds (Between least most) (digits_value 10 text) (between least most (digits_value 10 text) e)
    go true false e = none_holds (Between least most)
    go false b e = none_holds (Between least most)

---- Options

pub regs_hold : (rows : List Row) → Holds (Between 4 16) (regs_in rows)
regs_hold rows = value_holds (Between 4 16) 16 (number_between 4 16) (first_of (codes "regs") rows) (lit≤ tt, lit≤ tt) (number_holds 4 16)

pub jobs_hold : (rows : List Row) → Holds (Between 1 64) (jobs_in rows)
jobs_hold rows = value_holds (Between 1 64) 4 (number_between 1 64) (first_of (codes "jobs") rows) (lit≤ tt, lit≤ tt) (number_holds 1 64)

pub steps_hold : (rows : List Row) → Holds (λ n. n ≤ 1000000000000000) (steps_in rows)
steps_hold rows =
    value_holds (λ n. n ≤ 1000000000000000) 1000000000 (number_between 0 1000000000000000) (first_of (codes "steps") rows) (lit≤ tt)
    (λ text n e. (number_holds 0 1000000000000000 text n e).1)

pub turns_hold : (rows : List Row) → Holds (λ n. n ≤ 1000000000000000) (turns_in rows)
turns_hold rows =
    value_holds (λ n. n ≤ 1000000000000000) 100000000 (number_between 0 1000000000000000) (first_of (codes "turns") rows) (lit≤ tt)
    (λ text n e. (number_holds 0 1000000000000000 text n e).1)

abbrev pub Any : {A : Type 0} → A → Type 0
Any a = Unit {0}

chosen : (policy : Policy) (builder : Builder) (regs jobs : ℕ) → Between 4 16 regs → Between 1 64 jobs
    → IsFitChoice (record { policy = policy; builder = builder; regs = regs; jobs = jobs })
chosen policy builder regs jobs r j = record { enough = r.0; few = r.1; some_jobs = j.0; few_jobs = j.1 }

pub choice_holds : (rows : List Row) → Holds IsFitChoice (choice_in rows)
choice_holds rows =
    given_holds Any IsFitChoice (policy_in rows) _ (λ _ _. tt) (λ policy _.
    given_holds Any IsFitChoice (traces_in rows) _ (λ _ _. tt) (λ builder _.
    given_holds (Between 4 16) IsFitChoice (regs_in rows) _ (regs_hold rows) (λ regs r.
    given_holds (Between 1 64) IsFitChoice (jobs_in rows) _ (jobs_hold rows) (λ jobs j.
    some_holds IsFitChoice _ (chosen policy builder regs jobs r j)))))

pub traces_choice_holds : (rows : List Row) → Holds IsFitChoice (traces_choice_in rows)
traces_choice_holds rows =
    given_holds Any IsFitChoice (policy_in rows) _ (λ _ _. tt) (λ policy _.
    given_holds Any IsFitChoice (traces_in rows) _ (λ _ _. tt) (λ builder _.
    some_holds IsFitChoice _ (chosen policy builder 16 4 (lit≤ tt, lit≤ tt) (lit≤ tt, lit≤ tt))))

pub shown_choice_holds : (rows : List Row) → Holds IsFitChoice (shown_choice_in rows)
shown_choice_holds rows =
    given_holds Any IsFitChoice (policy_in rows) _ (λ _ _. tt) (λ policy _.
    given_holds Any IsFitChoice (traces_in rows) _ (λ _ _. tt) (λ builder _.
    given_holds (Between 4 16) IsFitChoice (regs_in rows) _ (regs_hold rows) (λ regs r.
    some_holds IsFitChoice _ (chosen policy builder regs 4 r (lit≤ tt, lit≤ tt)))))

---- Names and made modules

abbrev pub IsFull : List (List ℕ) → Type 0
IsFull files = 1 ≤ length files

some_full : (files : List (List ℕ)) → Holds IsFull (some_of files)
some_full [] = none_holds IsFull
some_full (first ∷ rest) = some_holds IsFull (first ∷ rest) (omega arith)

pub names_hold : (name : List ℕ) (rows : List Row) → Holds IsFull (names_in name rows)
names_hold name rows = given_holds Any IsFull (all_of name rows) some_of (λ _ _. tt) (λ files _. some_full files)

pub files_hold : (rows : List Row) → Holds IsFull (files_in rows)
files_hold rows = names_hold (codes "FILE") rows

pub seed_holds : (rows : List Row) → Holds (λ n. n ≤ 9223372036854775807) (seed_in rows)
seed_holds rows =
    given_holds Any (λ n. n ≤ 9223372036854775807) (first_of (codes "SEED") rows) (number_between 0 9223372036854775807) (λ _ _. tt)
    (λ text _ n e. (number_holds 0 9223372036854775807 text n e).1)

pub size_holds : (rows : List Row) → Holds (Between 1 1000) (size_in rows)
size_holds rows = given_holds Any (Between 1 1000) (first_of (codes "SIZE") rows) (number_between 1 1000) (λ _ _. tt) (λ text _. number_holds 1 1000 text)
