-- What comes after a part of a meaning: the system stands where the part's value says, or has halted, or its turns are used up.
use Rattle.std.proofs.Common.{◌≡◌, ℕ, zero, suc, ◌<◌, ◌≤◌, List, Bool, true, false, refl, subst, ◌+◌, arith}
use Rattle.std.specs.Prelude.{if◌then◌else◌, MatchBool}
use Rattle.run_laws.specs.Runs.{Trapped, Going, Traps, weigh, System, Keeps}
use Rattle.run_laws.specs.Runs.{Ends as Stops}
use Rattle.run_laws.specs.Turns.{State, Ending, Gives, Fails, Spent, after, ◌>>=◌, give, spend, spend_of, repeat, each_so, outcome}
use Rattle.run_laws.proofs.Reached.{Reached, moment, spent, halts}

module _ {S T P C U : Type 0} (sense : U → Type 0) (y : System S T P) (least : P → ℕ) (all : List P) (s0 : S) (n0 : ℕ) (same : U → T → Type 0) where
  -- what Good says where there is a value; else what the system did from its start to its end, of a trap only where it makes sense
  abbrev pub Came : {A : Type 0} → Ending C U A → (A → State C → Type 0) → Type 0
  Came (Gives a s) Good = Good a s
  Came (Fails trap out) Good = sense trap → Keeps y least all same s0 n0 (Trapped trap out)
  Came (Spent out) Good = Keeps y least all same s0 n0 (Going out)

  -- the same as a record, so that the ending and Good are found from it
  pub record Comes {A : Type 0} (e : Ending C U A) (Good : A → State C → Type 0) : Type 0 where
    pub by : Came e Good

  -- one part, and then another
  pub comes_bind : {A B : Type 0} {Good : A → State C → Type 0} {Next : B → State C → Type 0} (e : Ending C U A) (f : A → State C → Ending C U B) → Comes e Good → ((a : A) (s : State C) → Good a s → Comes (f a s) Next) → Comes (after e f) Next
  comes_bind (Gives a s) f c go = go a s c.by
  comes_bind (Fails trap out) f c go = record { by = c.by }
  comes_bind (Spent out) f c go = record { by = c.by }

  -- less is said of the value
  pub comes_map : {A : Type 0} {Good Next : A → State C → Type 0} (e : Ending C U A) → Comes e Good → ((a : A) (s : State C) → Good a s → Next a s) → Comes e Next
  comes_map (Gives a s) c go = record { by = go a s c.by }
  comes_map (Fails trap out) c go = record { by = c.by }
  comes_map (Spent out) c go = record { by = c.by }

  -- a trap of the meaning, where the system's next step is the same trap
  pub comes_trap : {A : Type 0} {Good : A → State C → Type 0} {m g left : ℕ} {out : List ℕ} {s : S} {free : (P → ℕ) → ℕ} (trap : U) (mine : T) → Reached y least all s0 n0 m g left out s free → y.step s ≡ Traps mine → same trap mine → ((h : P → ℕ) → h (y.at s) ≤ free h) → Comes {A = A} (Fails trap out) Good
  comes_trap trap mine r step is fits =
      record { by = λ _. (mine, is, halts y least all s0 n0 (Traps mine) r step fits) }

  -- a moment with no turn left
  pub comes_spent : {A : Type 0} {Good : A → State C → Type 0} {m g left : ℕ} {out : List ℕ} {s : S} {free : (P → ℕ) → ℕ} → Reached y least all s0 n0 m (suc g) left out s free → left ≡ 0 → Comes {A = A} (Spent out) Good
  comes_spent r none = record { by = spent y least all s0 n0 r none }

  -- a moment: with a turn left, one less and all points free again; what was paid beyond it stays paid
  pub comes_spend : {B : Type 0} {Next : B → State C → Type 0} {m g : ℕ} {s : S} {free : (P → ℕ) → ℕ} (st : State C) (f : Unit {0} → State C → Ending C U B) (rest : (P → ℕ) → ℕ) → Reached y least all s0 n0 m (suc g) st.turns st.out s free → ((h : P → ℕ) → rest h ≤ weigh h all) → ((n : ℕ) → st.turns ≡ suc n → Reached y least all s0 n0 n g n st.out s rest → Comes (f tt (record st { turns = n })) Next) → Comes (after (spend st) f) Next
  comes_spend {B} {Next} {m} {g} {s} {free} st f rest r fits go = by_turns st.turns refl
    where
      by_turns : (k : ℕ) → st.turns ≡ k → Comes (after (spend_of k st) f) Next
      by_turns zero is = comes_spent r is
      by_turns (suc n) is = go n is (moment y least all s0 n0 n rest r is fits)

  -- the system stands before a moment
  pub record Open (m : ℕ) (st : State C) : Type 0 where
    pub gain : ℕ
    pub place : S
    pub free : (P → ℕ) → ℕ
    pub reached : Reached y least all s0 n0 m (suc gain) st.turns st.out place free

  -- rounds, a turn each: Head holds before each round's moment, and Done behind the last round
  module _ (round : State C → Ending C U Bool) (most : ℕ) (Head : ℕ → State C → Type 0) (Done : Unit {0} → State C → Type 0)
      (opens : (m : ℕ) (st : State C) → Head m st → Open m st)
      (turn : (m n : ℕ) (st : State C) → m ≤ most → n < m → Head m st → st.turns ≡ suc n → Comes (round (record st { turns = n })) (λ goes_on t. MatchBool goes_on (Head n t) (Done tt t))) where
    after_round : (fuel n : ℕ) → ((t : State C) → Head n t → Comes (repeat fuel round t) Done) → (goes_on : Bool) (t : State C) → MatchBool goes_on (Head n t) (Done tt t) → Comes ((if goes_on then repeat fuel round else give tt) t) Done
    after_round fuel n again true t h = again t h
    after_round fuel n again false t h = record { by = h }

    by_turns : (fuel m k : ℕ) (st : State C) → m ≤ suc fuel → m ≤ most → ((n : ℕ) (t : State C) → n ≤ fuel → n ≤ most → Head n t → Comes (repeat fuel round t) Done) → Head m st → st.turns ≡ k → Comes (after (spend_of k st) (λ _. round >>= λ goes_on. if goes_on then repeat fuel round else give tt)) Done
    by_turns fuel m zero st le less again h is = comes_spent (opens m st h).reached is
    by_turns fuel m (suc n) st le less again h is =
        let bound = (opens m st h).reached.bound in
        comes_bind (round (record st { turns = n })) (λ goes_on. if goes_on then repeat fuel round else give tt)
        (turn m n st less (omega (arith, bound, is)) h is)
        (λ goes_on t good. after_round fuel n (λ u head. again n u (omega (arith, bound, is, le)) (omega (arith, bound, is, less)) head) goes_on t good)

    pub comes_repeat : (fuel m : ℕ) (st : State C) → m ≤ fuel → m ≤ most → Head m st → Comes (repeat fuel round st) Done
    comes_repeat zero m st le less h =
        let o = opens m st h in
        let bound = o.reached.bound in
        comes_spent o.reached (omega (arith, bound, le))
    comes_repeat (suc fuel) m st le less h = by_turns fuel m st.turns st le less (λ n t a b head. comes_repeat fuel n t a b head) h refl

  -- parts with a turn behind each: Head holds before each part, Behind between it and its moment, and Done after the last
  module _ (part : ℕ → State C → Ending C U Bool) (most total : ℕ) (Head : (m i : ℕ) → State C → Type 0) (Behind : (m i : ℕ) → Bool → State C → Type 0) (Done : Unit {0} → State C → Type 0)
      (does : (m i : ℕ) (st : State C) → m ≤ most → i < total → Head m i st → Comes (part i st) (Behind m i))
      (opens : (m i : ℕ) (goes_on : Bool) (t : State C) → Behind m i goes_on t → Open m t)
      (turn : (m n i : ℕ) (goes_on : Bool) (t : State C) → m ≤ most → n < m → Behind m i goes_on t → t.turns ≡ suc n → MatchBool goes_on (Head n (suc i) (record t { turns = n })) (Done tt (record t { turns = n })))
      (over : (m : ℕ) (st : State C) → m ≤ most → Head m total st → Done tt st) where
    part_done : (k i : ℕ) → ((m : ℕ) (st : State C) → m ≤ most → Head m (suc i) st → Comes (each_so k (suc i) part st) Done) → (m : ℕ) → m ≤ most → (goes_on : Bool) (t : State C) → Behind m i goes_on t → (l : ℕ) → t.turns ≡ l → Comes (after (spend_of l t) (λ _. if goes_on then each_so k (suc i) part else give tt)) Done
    part_done k i again m less goes_on t h zero is = comes_spent (opens m i goes_on t h).reached is
    part_done k i again m less true t h (suc n) is =
        let bound = (opens m i true t h).reached.bound in
        again n (record t { turns = n }) (omega (arith, bound, is, less)) (turn m n i true t less (omega (arith, bound, is)) h is)
    part_done k i again m less false t h (suc n) is =
        let bound = (opens m i false t h).reached.bound in
        record { by = turn m n i false t less (omega (arith, bound, is)) h is }

    pub comes_each : (k i m : ℕ) (st : State C) → k + i ≡ total → m ≤ most → Head m i st → Comes (each_so k i part st) Done
    comes_each zero i m st all less h =
        let e : i ≡ total = omega (arith, all) in
        record { by = over m st less (subst (λ j. Head m j st) e h) }
    comes_each (suc k) i m st all less h =
        comes_bind (part i st) (λ goes_on. spend >>= λ _. if goes_on then each_so k (suc i) part else give tt)
        (does m i st less (omega (arith, all)) h)
        (λ goes_on t b. part_done k i (λ n u a head. comes_each k (suc i) n u (omega (arith, all)) a head) m less goes_on t b t.turns refl)

  -- the whole: where the meaning gives a value the system's next step ends
  pub record Stopped (A : Type 0) (a : A) (st : State C) : Type 0 where
    pub most : ℕ
    pub gain : ℕ
    pub place : S
    pub free : (P → ℕ) → ℕ
    pub reached : Reached y least all s0 n0 most gain st.turns st.out place free
    pub stops : y.step place ≡ Stops
    pub fits : (h : P → ℕ) → h (y.at place) ≤ free h

  -- of a trap without sense nothing is said
  pub comes_senseless : {A : Type 0} {Good : A → State C → Type 0} (trap : U) (out : List ℕ) → (sense trap → ⊥) → Comes {A = A} (Fails trap out) Good
  comes_senseless trap out none = record { by = λ s. absurd (none s) }

  -- the ending is no trap without sense
  abbrev pub MakesSense : {A : Type 0} → Ending C U A → Type 0
  MakesSense (Fails trap out) = sense trap
  MakesSense _ = Unit {0}

  -- the whole meaning
  pub keeps_comes : {A : Type 0} (e : Ending C U A) → MakesSense e → Comes e (Stopped A) → Keeps y least all same s0 n0 (outcome e)
  keeps_comes (Gives a st) m c = halts y least all s0 n0 Stops c.by.reached c.by.stops c.by.fits
  keeps_comes (Fails trap out) m c = c.by m
  keeps_comes (Spent out) m c = c.by
