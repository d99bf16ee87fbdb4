-- Steps of loops: what stops them, and what is left behind them.
use Rattle.std.proofs.Common.{◌≡◌, ◌≢◌, ℕ, zero, suc, ◌-◌, List, [], ◌∷◌, length, Bool, true, false, Some, None, Err, refl, sym, ap, subst, ◌∙◌, eqb-true, arith}
use Rattle.std.specs.Prelude.{if◌then◌else◌, nat_eq, ℤ}
use Rattle.wrapping_numbers.specs.Numbers.{unsigned, add64}
use Rattle.run_laws.specs.Turns.{State, Ending, Gives, Fails, Spent, after, ◌>>=◌, give, spend, repeat}
use Rattle.ob_types.specs.Store.{Cell, Bits, Store, Trap, Senseless, Act, Address, Handed, At, Value, fetch, put, bits, bits_in}
use Rattle.ob_types.specs.Operators.{holds}
use Rattle.ob_types.specs.Statements.{Deed, skip, test, at_limit}
use Rattle.ob_types.specs.Meaning.{value, at_most}
use Rattle.ob_types.specs.declared.tree.Expr.{Expr}
use Rattle.ob_types.specs.declared.statements.Stmt.{Stmt}
use Rattle.ob_types.specs.declared.statements.Branch.{Branch}
use Rattle.ob_types.specs.declared.program.Program.{Program}
use Rattle.eval_store.specs.Areas.{address_of}
use Rattle.eval_store.specs.Cells.{number_of}
use Rattle.eval_store.specs.Did.{Stopped}
use Rattle.eval_store.specs.declared.stop.Stop.{Stop}
use Rattle.eval_store.proofs.Endings.{assoc, same}
use Rattle.eval_at_once.specs.Here.{here_of}
use Rattle.eval_at_once.proofs.Going.{stops_first}
use Rattle.eval_tasks.specs.declared.task.Branching.TheVariants.{Try, Rounds, Again}
use Rattle.eval_tasks.specs.declared.task.Stage.TheVariants.{Behind}
use Rattle.eval_tasks.specs.declared.task.Stage.TheVariants.{Rounds as StageRounds}
use Rattle.eval_tasks.specs.Tasks.{tries, for_test, for_step, for_rounds, evaluates, performs_all, branching, staged, rest}
use Rattle.eval_tasks.proofs.Statements.{again_flag}
use Rattle.ob_eval.specs.Parts.{body_of, for_goes, for_behind, repeat_round, repeat_goes, repeat_behind, IsFor, IsRepeat}
use Rattle.ob_eval.specs.Limits.{with_limit, TookLimit}
use Rattle.ob_eval.specs.Steps.{left, before, TookNumber}
use Rattle.ob_eval.specs.declared.loops.Limit.{Limit}
use Rattle.ob_eval.specs.declared.machine.Machine.{Machine}
use Rattle.ob_eval.proofs.Looping.{first_round, while_ends, while_goes, repeat_ends, repeat_again, repeat_asks, for_turn, for_stepped, repeat_tested}
use Rattle.ob_eval.proofs.Steps.{number_stops, no_bits, bits_are}

-- what stops the same
pub stopped_as : {A : Type 0} (e f : Ending Store Trap A) (stop : Stop) (out : List ℕ) → e ≡ f → Stopped f stop out → Stopped e stop out
stopped_as e f stop out is h = subst (λ e. Stopped e stop out) (sym is) h

-- a turn that isn't there stops rounds
pub repeat_stops : (n : ℕ) → n ≢ 0 → (round : Act Bool) (K : Unit {0} → Deed) (s : State Store) (stop : Stop) (out : List ℕ) → Stopped (spend {C = Store} {U = Trap} s) stop out → Stopped ((repeat n round >>= K) s) stop out
repeat_stops zero some round K s stop out h = absurd (some refl)
repeat_stops (suc n) some round K s stop out h =
    let F : Unit {0} → Deed = λ _. round >>= λ ok. if ok then repeat n round else give tt in
    stops_first (after (spend s) F) K ((repeat (suc n) round >>= K) s) stop out refl (stops_first (spend s) F (after (spend s) F) stop out refl h)

-- WHILE: some rounds were done at once, and the next one begins

module _ (p : Program) (first m : Machine) (most n : ℕ) (bs : List Branch) (as_first : before p (branching p (Rounds most) bs) first ≡ before p (branching p (Rounds n) bs) m) where
  pub no_round : n ≡ 0 → before p (branching p (Rounds most) bs) first ≡ Spent m.world.out
  no_round e = as_first ∙ ap (λ n. before p (branching p (Rounds n) bs) m) e

  pub no_turn : n ≢ 0 → (stop : Stop) (out : List ℕ) → Stopped (spend m.world) stop out → Stopped (before p (branching p (Rounds most) bs) first) stop out
  no_turn some stop out h = stopped_as (before p (branching p (Rounds most) bs) first) (before p (branching p (Rounds n) bs) m) stop out as_first (repeat_stops n some (tries p m.active bs) (λ _. rest p m.tasks m.active m.values) m.world stop out h)

  module _ (some : n ≢ 0) (t : State Store) (turn : spend {C = Store} {U = Trap} m.world ≡ Gives tt t) where
    abbrev F : Bool → Deed
    F ok = if ok then repeat (n - 1) (tries p m.active bs) else give tt

    abbrev K : Unit {0} → Deed
    K u = rest p m.tasks m.active m.values

    goes : before p (branching p (Rounds most) bs) first ≡ after (after (tries p m.active bs t) F) K
    goes = as_first ∙ first_round p (rest p m.tasks) m.active m.values m.world t n some turn (tries p m.active bs) n some

    pub condition_stops : (stop : Stop) (out : List ℕ) → Stopped (tries p m.active bs t) stop out → Stopped (before p (branching p (Rounds most) bs) first) stop out
    condition_stops stop out h =
        stops_first (after (tries p m.active bs t) F) K (before p (branching p (Rounds most) bs) first) stop out goes
        (stops_first (tries p m.active bs t) F (after (tries p m.active bs t) F) stop out refl h)

    pub no_branch : tries p m.active bs t ≡ Gives false t → left p (record m { world = t }) ≡ before p (branching p (Rounds most) bs) first
    no_branch h = sym (as_first ∙ while_ends p (rest p m.tasks) m.active m.values m.world t n some turn bs h)

    pub asks : before p (λ k. branching p Try bs (branching p (Again (n - 1)) bs k)) (record m { world = t }) ≡ before p (branching p (Rounds most) bs) first
    asks = sym (goes ∙ assoc (tries p m.active bs t) F K ∙ same (tries p m.active bs t) (λ b u. again_flag p (rest p m.tasks) m.active m.values u (n - 1) bs b u))

    module _ (body : List Stmt) (chosen : tries p m.active bs t ≡ (body_of p m.active body >>= λ _. give true) t) where
      abbrev J : Unit {0} → Deed
      J u = branching p (Rounds (n - 1)) bs (rest p m.tasks) m.active m.values

      does_body : before p (branching p (Rounds most) bs) first ≡ after (body_of p m.active body t) J
      does_body = as_first ∙ while_goes p (rest p m.tasks) m.active m.values m.world t n some turn bs body chosen

      pub body_stops : (stop : Stop) (out : List ℕ) → Stopped (body_of p m.active body t) stop out → Stopped (before p (branching p (Rounds most) bs) first) stop out
      body_stops stop out h = stops_first (body_of p m.active body t) J (before p (branching p (Rounds most) bs) first) stop out does_body h

      pub some_done : (more : List Stmt) (u : State Store) → body_of p m.active body t ≡ body_of p m.active more u → before p (λ k. performs_all p more (branching p (Rounds (n - 1)) bs k)) (record m { world = u }) ≡ before p (branching p (Rounds most) bs) first
      some_done more u h = sym (does_body ∙ ap (λ e. after e J) h)

      -- all of it was, and the next round begins
      pub all_done : (more : List Stmt) (u : State Store) → more ≡ [] → body_of p m.active body t ≡ body_of p m.active more u → before p (branching p (Rounds most) bs) first ≡ before p (branching p (Rounds (n - 1)) bs) (record m { world = u })
      all_done more u e h = sym (ap (λ l. before p (λ k. performs_all p l (branching p (Rounds (n - 1)) bs k)) (record m { world = u })) (sym e) ∙ some_done more u h)

-- no statements are left
pub empty_is : (l : List Stmt) → length l ≡ 0 → l ≡ []
empty_is [] e = refl
empty_is (s ∷ ss) e = absurd (omega (arith, e))

pub none_there : (l : List Stmt) (ok : Bool) → ok ≡ nat_eq (length l) 0 → ok ≡ true → l ≡ []
none_there l ok e h = empty_is l (eqb-true (length l) 0 (sym e ∙ h))

-- FOR

module _ (p : Program) (s : Stmt) (step : ℤ) (body : List Stmt) (is : IsFor p s step body) where
  -- what isn't a limit on an address
  pub no_limit : (n : ℕ) (old new : Machine) (stop : Stop) → TookLimit old (Err stop) new → Stopped (before p (staged p (StageRounds n) s) old) stop new.world.out
  no_limit n old new stop h =
      let G : ℕ → Address → List Handed → Deed = λ limit a more. for_rounds p n a step limit (body_of p old.active body) >>= λ _. rest p old.tasks old.active more in
      subst (λ e. Stopped (before p (staged p (StageRounds n) s) old) e new.world.out) (sym h.0) (is.rounds n (rest p old.tasks) old.active old.values old.world ∙ h.1 G)

  pub no_limit_behind : (n : ℕ) (old new : Machine) (stop : Stop) → TookLimit old (Err stop) new → Stopped (before p (staged p (Behind n) s) old) stop new.world.out
  no_limit_behind n old new stop h =
      let G : ℕ → Address → List Handed → Deed = λ limit a more. (for_step p a step >>= λ _. for_rounds p n a step limit (body_of p old.active body)) >>= λ _. rest p old.tasks old.active more in
      subst (λ e. Stopped (before p (staged p (Behind n) s) old) e new.world.out) (sym h.0) (is.behind n (rest p old.tasks) old.active old.values old.world ∙ h.1 G)

  module _ (m : Machine) (w : Limit) (n : ℕ) where
    abbrev A : Address
    A = address_of w.variable

    abbrev vs : List Handed
    vs = Value (Bits w.value) ∷ At A ∷ m.values

    round : before p (staged p (StageRounds n) s) (with_limit w m) ≡ for_goes p n step body (rest p m.tasks) m.active vs m.world
    round = is.rounds n (rest p m.tasks) m.active vs m.world

    pub for_no_round : n ≡ 0 → before p (staged p (StageRounds n) s) (with_limit w m) ≡ Spent m.world.out
    for_no_round e = round ∙ ap (λ n. for_goes p n step body (rest p m.tasks) m.active vs m.world) e

    pub for_no_turn : n ≢ 0 → (stop : Stop) (out : List ℕ) → Stopped (spend m.world) stop out → Stopped (before p (staged p (StageRounds n) s) (with_limit w m)) stop out
    for_no_turn some stop out h = stopped_as (before p (staged p (StageRounds n) s) (with_limit w m)) (for_goes p n step body (rest p m.tasks) m.active vs m.world) stop out round (repeat_stops n some (do
      ok ← for_test p A step w.value
      if ok then ((body_of p m.active body >>= λ _. for_step p A step) >>= λ _. give true) else give false) (λ _. rest p m.tasks m.active m.values) m.world stop out h)

    module _ (some : n ≢ 0) (t : State Store) (turn : spend {C = Store} {U = Trap} m.world ≡ Gives tt t) where
      abbrev G : Bool → Deed
      G ok = if ok then performs_all p body (for_behind p (n - 1) step body (rest p m.tasks)) m.active vs else rest p m.tasks m.active m.values

      tests : before p (staged p (StageRounds n) s) (with_limit w m) ≡ after (for_test p A step w.value t) G
      tests = round ∙ for_turn p (rest p m.tasks) m.active m.values m.world t n some turn step body w.value A

      pub for_fetch_stops : (stop : Stop) (out : List ℕ) → Stopped (fetch A t) stop out → Stopped (before p (staged p (StageRounds n) s) (with_limit w m)) stop out
      for_fetch_stops stop out h =
          stops_first (for_test p A step w.value t) G (before p (staged p (StageRounds n) s) (with_limit w m)) stop out tests
          (stops_first (bits (fetch A) t) (λ v. give (at_limit step v w.value)) (for_test p A step w.value t) stop out refl
          (stops_first (fetch A t) bits_in (bits (fetch A) t) stop out refl h))

      pub for_no_number : (c : Cell) → fetch A t ≡ Gives c t → number_of c ≡ None → before p (staged p (StageRounds n) s) (with_limit w m) ≡ Fails Senseless t.out
      for_no_number c h none = tests ∙ ap (λ e. after (after (after e bits_in) (λ v. give (at_limit step v w.value))) G) h ∙ ap (λ e. after (after e (λ v. give (at_limit step v w.value))) G) (no_bits c t none)

      tested : (c : Cell) (v : ℕ) (ok : Bool) → fetch A t ≡ Gives c t → number_of c ≡ Some v → at_limit step v w.value ≡ ok → before p (staged p (StageRounds n) s) (with_limit w m) ≡ G ok t
      tested c v ok h is e = tests ∙ ap (λ e. after (after (after e bits_in) (λ v. give (at_limit step v w.value))) G) h ∙ ap (λ e. after (after e (λ v. give (at_limit step v w.value))) G) (bits_are c v t is) ∙ ap (λ ok. G ok t) e

      pub for_over : (c : Cell) (v : ℕ) → fetch A t ≡ Gives c t → number_of c ≡ Some v → at_limit step v w.value ≡ false → left p (record m { world = t }) ≡ before p (staged p (StageRounds n) s) (with_limit w m)
      for_over c v h is e = sym (tested c v false h is e)

      pub for_on : (c : Cell) (v : ℕ) → fetch A t ≡ Gives c t → number_of c ≡ Some v → at_limit step v w.value ≡ true → before p (λ k. performs_all p body (staged p (Behind (n - 1)) s k)) (with_limit w (record m { world = t })) ≡ before p (staged p (StageRounds n) s) (with_limit w m)
      for_on c v h number e = same (body_of p m.active body t) (λ _ u. is.behind (n - 1) (rest p m.tasks) m.active vs u) ∙ sym (tested c v true h number e)

    -- behind a round's body

    behind : before p (staged p (Behind n) s) (with_limit w m) ≡ for_behind p n step body (rest p m.tasks) m.active vs m.world
    behind = is.behind n (rest p m.tasks) m.active vs m.world

    pub step_stops : (stop : Stop) (out : List ℕ) → Stopped (for_step p A step m.world) stop out → Stopped (before p (staged p (Behind n) s) (with_limit w m)) stop out
    step_stops stop out h =
        let F : Unit {0} → Deed = λ _. for_rounds p n A step w.value (body_of p m.active body) in
        stops_first (after (for_step p A step m.world) F) (λ _. rest p m.tasks m.active m.values) (before p (staged p (Behind n) s) (with_limit w m)) stop out behind
        (stops_first (for_step p A step m.world) F (after (for_step p A step m.world) F) stop out refl h)

    pub step_done : (t : State Store) → for_step p A step m.world ≡ Gives tt t → before p (staged p (StageRounds n) s) (with_limit w (record m { world = t })) ≡ before p (staged p (Behind n) s) (with_limit w m)
    step_done t h = is.rounds n (rest p m.tasks) m.active vs t ∙ sym (behind ∙ for_stepped p (rest p m.tasks) m.active m.values m.world t n step body w.value A h)

-- FOR's step, by its parts
module _ (p : Program) (a : Address) (step : ℤ) (s : State Store) where
  pub step_fetch_stops : (stop : Stop) (out : List ℕ) → Stopped (fetch a s) stop out → Stopped (for_step p a step s) stop out
  step_fetch_stops stop out h =
      stops_first (bits (fetch a) s) (λ v. put a (Bits (add64 v (unsigned step)))) (for_step p a step s) stop out refl
      (stops_first (fetch a s) bits_in (bits (fetch a) s) stop out refl h)

  pub step_no_number : (c : Cell) → fetch a s ≡ Gives c s → number_of c ≡ None → for_step p a step s ≡ Fails Senseless s.out
  step_no_number c h none = ap (λ e. after (after e bits_in) (λ v. put a (Bits (add64 v (unsigned step))))) h ∙ ap (λ e. after e (λ v. put a (Bits (add64 v (unsigned step))))) (no_bits c s none)

  pub step_is : (c : Cell) (v : ℕ) → fetch a s ≡ Gives c s → number_of c ≡ Some v → for_step p a step s ≡ put a (Bits (add64 v (unsigned step))) s
  step_is c v h is = ap (λ e. after (after e bits_in) (λ v. put a (Bits (add64 v (unsigned step))))) h ∙ ap (λ e. after e (λ v. put a (Bits (add64 v (unsigned step))))) (bits_are c v s is)

-- REPEAT

module _ (p : Program) (s : Stmt) (body : List Stmt) (y : Expr) (is : IsRepeat p s body y) (m : Machine) (n : ℕ) where
  starts : before p (staged p (StageRounds n) s) m ≡ repeat_goes p n body y (rest p m.tasks) m.active m.values m.world
  starts = is.rounds n (rest p m.tasks) m.active m.values m.world

  pub repeat_no_round : n ≡ 0 → before p (staged p (StageRounds n) s) m ≡ Spent m.world.out
  repeat_no_round e = starts ∙ ap (λ n. repeat_goes p n body y (rest p m.tasks) m.active m.values m.world) e

  pub repeat_no_turn : n ≢ 0 → (stop : Stop) (out : List ℕ) → Stopped (spend m.world) stop out → Stopped (before p (staged p (StageRounds n) s) m) stop out
  repeat_no_turn some stop out h = stopped_as (before p (staged p (StageRounds n) s) m) (repeat_goes p n body y (rest p m.tasks) m.active m.values m.world) stop out starts (repeat_stops n some (repeat_round p m.active body y) (λ _. rest p m.tasks m.active m.values) m.world stop out h)

  module _ (some : n ≢ 0) (t : State Store) (turn : spend {C = Store} {U = Trap} m.world ≡ Gives tt t) where
    abbrev T : Act Bool
    T = test (value p (at_most p m.active.fuel) (here_of m.active) y)

    pub test_stops : (stop : Stop) (out : List ℕ) → Stopped (T t) stop out → Stopped (before p (staged p (StageRounds n) s) m) stop out
    test_stops stop out h =
        let F : Bool → Deed = λ ok. if ok then repeat (n - 1) (repeat_round p m.active body y) else give tt in
        let G : Bool → Act Bool = λ ok. if ok then give false else (body_of p m.active body >>= λ _. give true) in
        stops_first (after (repeat_round p m.active body y t) F) (λ _. rest p m.tasks m.active m.values) (before p (staged p (StageRounds n) s) m) stop out (starts ∙ first_round p (rest p m.tasks) m.active m.values m.world t n some turn (repeat_round p m.active body y) n some)
        (stops_first (repeat_round p m.active body y t) F (after (repeat_round p m.active body y t) F) stop out refl
        (stops_first (T t) G (repeat_round p m.active body y t) stop out refl h))

    pub test_asks : before p (λ k. evaluates p y (staged p (Behind (n - 1)) s k)) (record m { world = t }) ≡ before p (staged p (StageRounds n) s) m
    test_asks =
        same (value p (at_most p m.active.fuel) (here_of m.active) y t) (λ c u. is.behind (n - 1) (rest p m.tasks) m.active (Value c ∷ m.values) u)
        ∙ sym (starts ∙ repeat_asks p (rest p m.tasks) m.active m.values m.world t n some turn body y)

    pub test_ends : T t ≡ Gives true t → left p (record m { world = t }) ≡ before p (staged p (StageRounds n) s) m
    test_ends h = sym (starts ∙ repeat_ends p (rest p m.tasks) m.active m.values m.world t n some turn body y h)

    pub test_goes_on : T t ≡ Gives false t → before p (λ k. performs_all p body (staged p (StageRounds (n - 1)) s k)) (record m { world = t }) ≡ before p (staged p (StageRounds n) s) m
    test_goes_on h =
        same (body_of p m.active body t) (λ _ u. is.rounds (n - 1) (rest p m.tasks) m.active m.values u)
        ∙ sym (starts ∙ repeat_again p (rest p m.tasks) m.active m.values m.world t n some turn body y h)

  -- behind its condition

  pub repeat_over : (a : ℕ) → holds a ≡ true → left p m ≡ before p (staged p (Behind n) s) (record m { values = Value (Bits a) ∷ m.values })
  repeat_over a h = sym (is.behind n (rest p m.tasks) m.active (Value (Bits a) ∷ m.values) m.world ∙ repeat_tested p (rest p m.tasks) m.active m.values m.world n body y a true h)

  pub repeat_on : (a : ℕ) → holds a ≡ false → before p (λ k. performs_all p body (staged p (StageRounds n) s k)) m ≡ before p (staged p (Behind n) s) (record m { values = Value (Bits a) ∷ m.values })
  repeat_on a h =
      same (body_of p m.active body m.world) (λ _ u. is.rounds n (rest p m.tasks) m.active m.values u)
      ∙ sym (is.behind n (rest p m.tasks) m.active (Value (Bits a) ∷ m.values) m.world ∙ repeat_tested p (rest p m.tasks) m.active m.values m.world n body y a false h)

  pub repeat_no_number : (m1 : Machine) (stop : Stop) → TookNumber m (Err stop) m1 → Stopped (before p (staged p (Behind n) s) m) stop m1.world.out
  repeat_no_number m1 stop h =
      let F : Bool → Act Bool = λ ok. if ok then give false else (body_of p m.active body >>= λ _. give true) in
      let G : Bool → Deed = λ ok. if ok then repeat n (repeat_round p m.active body y) else skip in
      stopped_as (before p (staged p (Behind n) s) m) (repeat_behind p n body y (rest p m.tasks) m.active m.values m.world) stop m1.world.out (is.behind n (rest p m.tasks) m.active m.values m.world)
      (number_stops m m1 _ (λ a more t. after (after (after (give (holds a) t) F) G) (λ _. rest p m.tasks m.active more)) stop h (λ c more t.
      ap (λ e. after (after e G) (λ _. rest p m.tasks m.active more)) (assoc (bits_in c t) (λ a. give (holds a)) F)
      ∙ ap (λ e. after e (λ _. rest p m.tasks m.active more)) (assoc (bits_in c t) _ G)
      ∙ assoc (bits_in c t) _ (λ _. rest p m.tasks m.active more)))
