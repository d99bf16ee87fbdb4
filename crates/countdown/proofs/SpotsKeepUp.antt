-- The worked instance, first layer: the loop's spots keep up with its meaning.
use Rattle.std.proofs.Common.{◌≡◌, ℕ, zero, suc, ◌≤◌, List, [], ◌∷◌, ◌++◌, Bool, true, false, refl, arith}
use Rattle.std.specs.Prelude.{if◌then◌else◌, MatchBool}
use Rattle.run_laws.specs.Runs.{weigh, Keeps}
use Rattle.run_laws.specs.Turns.{State, Ending, Gives, Fails, Spent, ◌>>=◌, give, look, while_so}
use Rattle.countdown.specs.Countdown.{Trap, BelowZero, is_positive, less_of, acts, meaning, Spot, Begin, Test, Leave, Body, Node, spots, body_spots, all_spots, least}
use Rattle.countdown.specs.declared.Act.{Act}
use Rattle.countdown.specs.declared.Act.TheVariants.{Print, Down}
use Rattle.countdown.specs.declared.Countdown.{Countdown}
use Rattle.run_laws.proofs.Reached.{Reached, starts, pass, pass_quiet, moment, loosen}
use Rattle.run_laws.proofs.Comes.{Comes, comes_bind, comes_map, comes_trap, comes_repeat, MakesSense, keeps_comes}

module _ (p : Countdown) (n0 : ℕ) where
  abbrev pub start : Node
  start = record { spot = Begin; counter = 0 }

  -- the system stands at this spot, with the meaning's counter
  abbrev At : (m g : ℕ) → Spot → ((Spot → ℕ) → ℕ) → State ℕ → Type 0
  At m g spot free st = Reached (spots p) least (all_spots p) start n0 m g st.turns st.out (record { spot = spot; counter = st.store }) free

  -- the one trap makes sense
  abbrev Always : Trap → Type 0
  Always trap = Unit {0}

  abbrev CameTo : {A : Type 0} → Ending ℕ Trap A → (A → State ℕ → Type 0) → Type 0
  CameTo e Good = Comes Always (spots p) least (all_spots p) start n0 (λ (u t : Trap). u ≡ t) e Good

  -- behind a round's acts
  abbrev Ran : ℕ → Unit {0} → State ℕ → Type 0
  Ran m _ t = At m 1 (Body []) (λ h. h (Body [])) t

  -- one taken from the counter n, and then the rest of the round
  lessened : (rest : List Act) (m : ℕ) → ((t : State ℕ) → At m 1 (Body rest) (λ h. weigh h (body_spots rest)) t → CameTo (acts rest t) (Ran m)) → (n : ℕ) (st : State ℕ) → Reached (spots p) least (all_spots p) start n0 m 1 st.turns st.out (record { spot = Body (Down ∷ rest); counter = n }) (λ h. weigh h (body_spots (Down ∷ rest))) → CameTo ((less_of n >>= λ _. acts rest) st) (Ran m)
  lessened rest m again zero st r = comes_trap Always (spots p) least (all_spots p) start n0 (λ (u t : Trap). u ≡ t) BelowZero BelowZero r refl refl (λ h. omega arith)
  lessened rest m again (suc n) st r =
      again (record st { store = n })
      (pass_quiet (spots p) least (all_spots p) start n0 1 (λ h. weigh h (body_spots rest)) (Body (Down ∷ rest)) (record { spot = Body rest; counter = n }) r refl refl (λ h. omega arith) (omega arith))

  -- a round's acts lead to the jump back
  ran : (todo : List Act) (m : ℕ) (st : State ℕ) → At m 1 (Body todo) (λ h. weigh h (body_spots todo)) st → CameTo (acts todo st) (Ran m)
  ran [] m st r = record { by = loosen (spots p) least (all_spots p) start n0 m 1 (λ h. h (Body [])) r (omega arith) (omega arith) (λ h. omega arith) }
  ran (Print ∷ rest) m st r =
      ran rest m (record st { out = st.out ++ st.store ∷ [] })
      (pass (spots p) least (all_spots p) start n0 1 (λ h. weigh h (body_spots rest)) (Body (Print ∷ rest)) (st.store ∷ []) (record { spot = Body rest; counter = st.store }) r refl refl (λ h. omega arith) (omega arith))
  ran (Down ∷ rest) m st r = lessened rest m (λ t at. ran rest m t at) st.store st r

  -- before each moment the system stands at the test
  abbrev Head : ℕ → State ℕ → Type 0
  Head m st = At m 1 Test (λ h. 0) st

  -- and behind the loop at its end
  abbrev Done : Unit {0} → State ℕ → Type 0
  Done _ st = At n0 1 Leave (λ h. h Leave) st

  abbrev Turned : ℕ → Bool → State ℕ → Type 0
  Turned n goes_on t = MatchBool goes_on (Head n t) (Done tt t)

  -- a round, just behind its moment
  round : (n c : ℕ) (out : List ℕ) → n ≤ n0 → Reached (spots p) least (all_spots p) start n0 n 0 n out (record { spot = Test; counter = c }) (λ h. weigh h (all_spots p))
      → CameTo ((if is_positive c then (acts p.body.items >>= λ _. give true) else give false) (record { store = c; out = out; turns = n })) (Turned n)
  round n zero out le r = record {
    by =
        loosen (spots p) least (all_spots p) start n0 n0 1 (λ h. h Leave)
        (pass_quiet (spots p) least (all_spots p) start n0 1 (λ h. h Leave) Test (record { spot = Leave; counter = 0 }) r refl refl (λ h. omega arith) (omega arith))
        le (omega arith) (λ h. omega arith);
  }
  round n (suc c) out le r =
      comes_bind Always (spots p) least (all_spots p) start n0 (λ (u t : Trap). u ≡ t) (acts p.body.items (record { store = suc c; out = out; turns = n })) (λ _. give true)
      (ran p.body.items n (record { store = suc c; out = out; turns = n })
      (pass_quiet (spots p) least (all_spots p) start n0 1 (λ h. weigh h (body_spots p.body.items)) Test (record { spot = Body p.body.items; counter = suc c }) r refl refl (λ h. omega arith) (omega arith)))
      (λ _ t at. record { by = pass_quiet (spots p) least (all_spots p) start n0 1 (λ h. 0) (Body []) (record { spot = Test; counter = t.store }) at refl refl (λ h. omega arith) (omega arith) })

  sensible : (e : Ending ℕ Trap (Unit {0})) → MakesSense Always (spots p) least (all_spots p) start n0 (λ (u t : Trap). u ≡ t) e
  sensible (Gives a st) = tt
  sensible (Fails trap out) = tt
  sensible (Spent out) = tt

  -- the spots keep up with the meaning
  pub keeps_up : Keeps (spots p) least (all_spots p) (λ (u t : Trap). u ≡ t) start n0 (meaning p n0)
  keeps_up =
      let first : State ℕ = record { store = p.start; out = []; turns = n0 } in
      let begun = starts (spots p) least (all_spots p) start n0 (λ h. h Begin) (λ h. omega arith) in
      let entered : At n0 1 Test (λ h. 0) first = pass_quiet (spots p) least (all_spots p) start n0 1 (λ h. 0) Begin (record { spot = Test; counter = p.start }) begun refl refl (λ h. omega arith) (omega arith) in
      keeps_comes Always (spots p) least (all_spots p) start n0 (λ (u t : Trap). u ≡ t) (while_so n0 (look is_positive) (acts p.body.items) first) (sensible (while_so n0 (look is_positive) (acts p.body.items) first))
      (comes_map Always (spots p) least (all_spots p) start n0 (λ (u t : Trap). u ≡ t) (while_so n0 (look is_positive) (acts p.body.items) first)
      (comes_repeat Always (spots p) least (all_spots p) start n0 (λ (u t : Trap). u ≡ t) (look is_positive >>= λ holds. if holds then (acts p.body.items >>= λ _. give true) else give false) n0 Head Done
      (λ m st at. record { gain = 0; place = record { spot = Test; counter = st.store }; free = λ h. 0; reached = at })
      (λ m n st le lt at is. round n st.store st.out (omega (arith, le, lt)) (moment (spots p) least (all_spots p) start n0 n (λ h. weigh h (all_spots p)) at is (λ h. omega arith)))
      n0 n0 first (omega arith) (omega arith) entered)
      (λ _ t at. record { most = n0; gain = 1; place = record { spot = Leave; counter = t.store }; free = λ h. h Leave; reached = at; stops = refl; fits = λ h. omega arith }))
