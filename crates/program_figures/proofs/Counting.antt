-- A run, counted step by step.
use Rattle.std.proofs.Common.{◌≡◌, ℕ, zero, suc, ◌+◌, ◌-◌, ◌<◌, ◌≤◌, inl, inr, ⊎_elim, List, [], ◌++◌, true, false, cond, Some, None, refl, sym, ap, ◌∙◌, subst, arith}
use Rattle.std.proofs.lemmas.Bool.{cases_lt}
use Rattle.run_laws.specs.Runs.{Outcome, Ended, Trapped, Going, Step, Moves, Ends, Traps, act, run, IsOver}
use Rattle.run_laws.proofs.BoundedRuns.{run-longer_to}
use Rattle.a64_machine.specs.State.{State, Trap}
use Rattle.a64_machine.specs.declared.answers.Halt.{Halt}
use Rattle.a64_machine.specs.declared.answers.Halt.TheVariants.{Ended as HasEnded, Spent}
use Rattle.program_figures.specs.Runs.{halt_of, halt_of_trap, is_over, first_over, AreFewest}
use Rattle.program_figures.specs.Steps.{halt_of_step, IsMove}

---- The first of some runs that is over

over_is : (o : Outcome Trap) → IsOver o → is_over o ≡ true
over_is (Ended out) over = refl
over_is (Trapped trap out) over = refl
over_is (Going out) over = absurd over

going_is : (o : Outcome Trap) → (IsOver o → ⊥) → is_over o ≡ false
going_is (Ended out) none = absurd (none tt)
going_is (Trapped trap out) none = absurd (none tt)
going_is (Going out) none = refl

module _ (runs : ℕ → Outcome Trap) where
  goes_past : (count least : ℕ) → (IsOver (runs least) → ⊥) → first_over runs (suc count) least ≡ first_over runs count (suc least)
  goes_past count least none = ap (λ b. cond b least (first_over runs count (suc least))) (going_is (runs least) none)

  stops_at : (count least : ℕ) → IsOver (runs least) → first_over runs (suc count) least ≡ least
  stops_at count least over = ap (λ b. cond b least (first_over runs count (suc least))) (over_is (runs least) over)

  first_at : (count least n : ℕ) → least ≤ suc n → n < least + count → ((m : ℕ) → m ≤ n → IsOver (runs m) → ⊥) → IsOver (runs (suc n)) → first_over runs count least ≡ suc n
  first_at zero least n low high none over = omega (arith, low, high)
  first_at (suc count) least n low high none over =
      ⊎_elim
      (λ lt. let same : least ≡ suc n = omega (arith, low, lt) in stops_at count least (subst (λ m. IsOver (runs m)) (sym same) over) ∙ same)
      (λ le. goes_past count least (none least le) ∙ first_at count (suc least) n (omega (arith, le)) (omega (arith, high)) none over)
      (cases_lt n least)

  first_of_none : (count least : ℕ) → ((m : ℕ) → m < least + count → IsOver (runs m) → ⊥) → first_over runs count least ≡ least + count
  first_of_none zero least none = omega arith
  first_of_none (suc count) least none =
      goes_past count least (none least (omega arith)) ∙ first_of_none count (suc least) (λ m lt. none m (omega (arith, lt))) ∙ omega arith

---- A machine, some steps behind its start

-- n steps lead from a state to another, and all further ones go on from there, behind what was written
pub record Goes (f : State → Step State Trap) (first : State) (n : ℕ) (now : State) : Type 0 where
  pub wrote : List ℕ
  pub goes : (k : ℕ) → run f (n + k) first [] ≡ run f k now wrote

pub begins : (f : State → Step State Trap) (first : State) → Goes f first 0 first
begins f first = record { wrote = []; goes = λ k. let e : 0 + k ≡ k = omega arith in ap (λ m. run f m first []) e }

one_halt : (a b : Halt) → Some a ≡ Some b → a ≡ b
one_halt a b e = cc

no_halt : (halt : Halt) → None ≡ Some halt → ⊥
no_halt halt e = cc

act_halts : (x : Step State Trap) (go : State → List ℕ → Outcome Trap) (out : List ℕ) (halt : Halt) → halt_of_step x ≡ Some halt → (halt_of (act x go out) ≡ halt) × IsOver (act x go out)
act_halts (Moves wrote after) go out halt e = absurd (no_halt halt e)
act_halts Ends go out halt e = (one_halt HasEnded halt e, tt)
act_halts (Traps trap) go out halt e = (one_halt (halt_of_trap trap) halt e, tt)

module _ (f : State → Step State Trap) (first : State) (n : ℕ) (now : State) (made : Goes f first n now) where
  abbrev after : ℕ → Outcome Trap
  after m = run f m first []

  going : after n ≡ Going made.wrote
  going = let e : n ≡ n + 0 = omega arith in ap after e ∙ made.goes 0

  too_few : (m : ℕ) → m ≤ n → IsOver (after m) → ⊥
  too_few m le over = subst IsOver (sym (run-longer_to f m n first [] le over) ∙ going) over

  -- one more step
  pub goes_on : (t : State) → IsMove (f now) t → Goes f first (n + 1) t
  goes_on t move = record {
    wrote = made.wrote ++ move.wrote;
    goes = λ k. let e : n + 1 + k ≡ n + suc k = omega arith in ap after e ∙ made.goes (suc k) ∙ ap (λ x. act x (run f k) made.wrote) move.is;
  }

  -- the next step halts
  module _ (halt : Halt) (halts : halt_of_step (f now) ≡ Some halt) where
    over_with : (m : ℕ) → n < m → (halt_of (after m) ≡ halt) × IsOver (after m)
    over_with m lt =
        let k = m - suc n in
        let e : m ≡ n + suc k = omega (arith, lt) in
        subst (λ o. (halt_of o ≡ halt) × IsOver o) (sym (ap after e ∙ made.goes (suc k))) (act_halts (f now) (run f k) made.wrote halt halts)

    pub halts_so : (allowed : ℕ) → n < allowed → halt_of (after allowed) ≡ halt
    halts_so allowed lt = (over_with allowed lt).0

    pub halts_first : (allowed : ℕ) → n < allowed → first_over after allowed 0 ≡ n + 1
    halts_first allowed lt = let over = (over_with (suc n) (omega arith)).1 in first_at after allowed 0 n (omega arith) (omega (arith, lt)) too_few over ∙ omega arith

    pub halts_soonest : (allowed : ℕ) → n < allowed → AreFewest after allowed (n + 1)
    halts_soonest allowed lt = record {
      within = omega (arith, lt);
      too_few = λ m small. too_few m (omega (arith, small));
      enough = inl ((over_with (n + 1) (omega arith)).1);
    }

  -- all steps were made
  module _ (allowed : ℕ) (all : n ≡ allowed) where
    pub spent_so : halt_of (after allowed) ≡ Spent
    spent_so = ap halt_of (ap after (sym all) ∙ going)

    pub spent_all : first_over after allowed 0 ≡ allowed
    spent_all = first_of_none after allowed 0 (λ m lt. too_few m (omega (arith, lt, all))) ∙ omega arith

    pub spent_fewest : AreFewest after allowed allowed
    spent_fewest = record { within = omega arith; too_few = λ m lt. too_few m (omega (arith, lt, all)); enough = inr refl }
