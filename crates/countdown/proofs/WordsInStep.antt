-- The worked instance, second layer: the machine's words carry out the spots, and so are in step with the meaning.
use Rattle.std.proofs.Common.{◌≡◌, ℕ, zero, suc, ◌+◌, ◌-◌, ◌≤◌, List, [], ◌∷◌, ◌++◌, length, drop, Some, slice_get, refl, sym, ap, ◌∙◌, subst, arith, length-append}
use Rattle.std.specs.Prelude.{flat_map}
use Rattle.run_laws.specs.Runs.{Step, Moves, Ends, Traps, weigh, Within, InStep}
use Rattle.run_laws.specs.Layers.{CarriesStep, CarriesBy, Through, places_from, InRow}
use Rattle.countdown.specs.Countdown.{Trap, meaning, Spot, Begin, Test, Leave, Body, Node, go, spots, body_spots, all_spots, least, code_of, words_of, Stop, TrapAt, Machine, next, jump_of, trap_of, exec, machine, at_start, SameTrap}
use Rattle.countdown.specs.declared.Act.{Act}
use Rattle.countdown.specs.declared.Act.TheVariants.{Print, Down}
use Rattle.countdown.specs.declared.Countdown.{Countdown}
use Rattle.countdown.specs.declared.Word.{Word}
use Rattle.countdown.specs.declared.Word.TheVariants.{Load, JumpIfPositive, Halt, Write, TrapIfZero, Less, Jump}
use Rattle.run_laws.proofs.Walks.{Walk-one, Walk-append}
use Rattle.run_laws.proofs.Lowering.{in_step_down, in_step_same}
use Rattle.run_laws.proofs.Layers.{length-places_from, fits_in_row}
use Rattle.countdown.proofs.SpotsKeepUp.{keeps_up}

-- a word at a place, and what stands behind it
word_at : (words : List Word) (i : ℕ) (w : Word) (rest : List Word) → drop i words ≡ w ∷ rest → (slice_get words i ≡ Some w) × (drop (i + 1) words ≡ rest)
word_at [] zero w rest e = absurd cc
word_at [] (suc i) w rest e = absurd cc
word_at (x ∷ xs) zero w rest e = (cc, cc)
word_at (x ∷ xs) (suc i) w rest e =
    let r = word_at xs i w rest e in
    let n : suc i + 1 ≡ suc (i + 1) = omega arith in
    (r.0, ap (λ k. drop k (x ∷ xs)) n ∙ r.1)

module _ (p : Countdown) where
  abbrev words : List Word
  words = words_of p

  abbrev size : ℕ
  size = length (code_of p.body.items)

  -- where a spot's words begin, and how many they are
  abbrev place : Spot → ℕ
  place Begin = 0
  place Test = 1
  place Leave = 2
  place (Body rest) = 3 + size - length (code_of rest)

  abbrev width : Spot → ℕ
  width (Body (Down ∷ rest)) = 2
  width _ = 1

  abbrev places : Spot → List ℕ
  places spot = places_from (place spot) (width spot)

  -- the words from a spot on
  abbrev code_from : Spot → List Word
  code_from Begin = words
  code_from Test = drop 1 words
  code_from Leave = drop 2 words
  code_from (Body rest) = code_of rest ++ Jump 1 ∷ []

  abbrev Short : Spot → Type 0
  Short (Body rest) = length (code_of rest) ≤ size
  Short _ = Unit {0}

  -- the machine stands at the spot's first word, with its counter
  record Similar (s : Node) (m : Machine) : Type 0 where
    pub here : m.place ≡ place s.spot
    pub counter : m.counter ≡ s.counter
    pub stands : drop m.place words ≡ code_from s.spot
    pub short : Short s.spot

  abbrev Done : Spot → Machine → Step Node Trap → Type 0
  Done spot m step = CarriesStep (machine words) least (λ _. 1) places Similar SameTrap spot m step

  least_one : (spot : Spot) → least spot ≤ 1
  least_one Begin = omega arith
  least_one Test = omega arith
  least_one Leave = omega arith
  least_one (Body []) = omega arith
  least_one (Body (a ∷ rest)) = omega arith

  -- the machine does what stands at its place
  does : (m : Machine) (w : Word) (rest : List Word) (step : Step Machine Stop) → drop m.place words ≡ w ∷ rest → exec (Some w) m ≡ step → (machine words).step m ≡ step
  does m w rest step stands e = ap (λ o. exec o m) (word_at words m.place w rest stands).0 ∙ e

  -- a spot of one word
  one_word : (spot : Spot) (m t : Machine) (w : Word) (rest : List Word) (out : List ℕ) (after : Node) → m.place ≡ place spot → width spot ≡ 1 → drop m.place words ≡ w ∷ rest → exec (Some w) m ≡ Moves out t → Similar after t → Done spot m (Moves out after)
  one_word spot m t w rest out after here narrow stands e sim = record {
    after = t;
    passed = m.place ∷ [];
    walk = Walk-one (machine words) m t out (does m w rest (Moves out t) stands e);
    similar = sim;
    within = λ h. let a = ap h here in let b = ap (λ n. weigh h (places_from (place spot) n)) narrow in omega (arith, a, b);
    enough = least_one spot;
  }

  carried : (spot : Spot) (n : ℕ) (m : Machine) → Similar (record { spot = spot; counter = n }) m → Done spot m (go p spot n)
  carried Begin n m sim =
      let here = sim.here in
      one_word Begin m (next m p.start) (Load p.start) (drop 1 words) [] (record { spot = Test; counter = p.start }) here refl sim.stands refl
      (record { here = omega (arith, here); counter = refl; stands = (word_at words m.place (Load p.start) (drop 1 words) sim.stands).1; short = tt })
  carried Test zero m sim =
      let here = sim.here in
      one_word Test m (next m m.counter) (JumpIfPositive 3) (drop 2 words) [] (record { spot = Leave; counter = 0 }) here refl sim.stands (ap (λ c. Moves [] (jump_of c 3 m)) sim.counter)
      (record { here = omega (arith, here); counter = sim.counter; stands = (word_at words m.place (JumpIfPositive 3) (drop 2 words) sim.stands).1; short = tt })
  carried Test (suc n) m sim =
      one_word Test m (record m { place = 3 }) (JumpIfPositive 3) (drop 2 words) [] (record { spot = Body p.body.items; counter = suc n }) sim.here refl sim.stands (ap (λ c. Moves [] (jump_of c 3 m)) sim.counter)
      (record { here = omega arith; counter = sim.counter; stands = refl; short = omega arith })
  carried Leave n m sim =
      record { stop = m; passed = []; walk = (refl, refl); halts = does m Halt (drop 3 words) Ends sim.stands refl; within = λ h. let a = ap h sim.here in omega (arith, a) }
  carried (Body []) n m sim =
      let r = one_word (Body []) m (record m { place = 1 }) (Jump 1) [] [] (record { spot = Test; counter = n }) sim.here refl sim.stands refl (record { here = refl; counter = sim.counter; stands = refl; short = tt }) in
      r
  carried (Body (Print ∷ rest)) n m sim =
      let here = sim.here in let short = sim.short in
      one_word (Body (Print ∷ rest)) m (next m m.counter) Write (code_of rest ++ Jump 1 ∷ []) (n ∷ []) (record { spot = Body rest; counter = n }) here refl sim.stands (ap (λ c. Moves (c ∷ []) (next m m.counter)) sim.counter)
      (record { here = omega (arith, here, short); counter = sim.counter; stands = (word_at words m.place Write (code_of rest ++ Jump 1 ∷ []) sim.stands).1; short = omega (arith, short) })
  carried (Body (Down ∷ rest)) zero m sim = (
    TrapAt m.place,
    tt,
    record {
      stop = m;
      passed = [];
      walk = (refl, refl);
      halts = does m TrapIfZero (Less ∷ (code_of rest ++ Jump 1 ∷ [])) (Traps (TrapAt m.place)) sim.stands (ap (λ c. trap_of c m) sim.counter);
      within = λ h. let a = ap h sim.here in omega (arith, a);
    },
  )
  carried (Body (Down ∷ rest)) (suc n) m sim =
      let here = sim.here in let short = sim.short in let counter = sim.counter in
      let tail = code_of rest ++ Jump 1 ∷ [] in
      let one = next m m.counter in
      let two = next one (m.counter - 1) in
      let first = word_at words m.place TrapIfZero (Less ∷ tail) sim.stands in
      let second = word_at words one.place Less tail first.1 in
      let up : one.place ≡ suc (place (Body (Down ∷ rest))) = omega (arith, here) in
      record {
        after = two;
        passed = m.place ∷ one.place ∷ [];
        walk = Walk-append (machine words) (m.place ∷ []) (one.place ∷ []) m one two [] []
            (Walk-one (machine words) m one [] (does m TrapIfZero (Less ∷ tail) (Moves [] one) sim.stands (ap (λ c. trap_of c m) sim.counter)))
            (Walk-one (machine words) one two [] (does one Less tail (Moves [] two) first.1 refl));
        similar = record { here = omega (arith, here, short); counter = omega (arith, counter); stands = second.1; short = omega (arith, short) };
        within = λ h. let a = ap h here in let b = ap h up in omega (arith, a, b);
        enough = omega arith;
      }

  carries : CarriesBy (spots p) (machine words) least (λ _. 1) places Similar SameTrap
  carries = record { each = λ s m sim. carried s.spot s.counter m sim }

  -- what is left of a round stands in a row, behind the test and the end
  body_in_row : (rest : List Act) (a : ℕ) → length (code_of rest) ≤ size → place (Body rest) ≡ a → InRow place width a (body_spots rest)
  body_in_row [] a le is = (is, tt)
  body_in_row (Print ∷ rest) a le is = (is, body_in_row rest (a + 1) (omega (arith, le)) (omega (arith, le, is)))
  body_in_row (Down ∷ rest) a le is = (is, body_in_row rest (a + 2) (omega (arith, le)) (omega (arith, le, is)))

  weigh-body_spots : (rest : List Act) → weigh width (body_spots rest) ≡ suc (length (code_of rest))
  weigh-body_spots [] = refl
  weigh-body_spots (Print ∷ rest) = let e = weigh-body_spots rest in omega (arith, e)
  weigh-body_spots (Down ∷ rest) = let e = weigh-body_spots rest in omega (arith, e)

  fits : Within (places_from 0 (length words)) (flat_map places (all_spots p))
  fits =
      let e = weigh-body_spots p.body.items in let f = length-append (code_of p.body.items) (Jump 1 ∷ []) in
      fits_in_row place width (length words) (all_spots p) (refl, (refl, (refl, body_in_row p.body.items 3 (omega arith) (omega arith)))) (omega (arith, e, f))

  -- the words are in step with the meaning
  pub words_in_step : InStep (machine words) (length words) SameTrap at_start (meaning p)
  words_in_step =
      subst (λ n. InStep (machine words) n SameTrap at_start (meaning p)) (length-places_from 0 (length words))
      (in_step_same (machine words) (length (places_from 0 (length words))) (Through (λ (u t : Trap). u ≡ t) SameTrap) SameTrap (λ u b r. subst (λ t. SameTrap t b) (sym r.1) r.2) at_start (meaning p)
      (in_step_down (spots p) (machine words) least places (all_spots p) (places_from 0 (length words)) Similar (λ (u t : Trap). u ≡ t) SameTrap carries fits (record { spot = Begin; counter = 0 }) at_start
      (record { here = refl; counter = refl; stands = refl; short = tt }) (meaning p) (λ n. keeps_up p n)))
