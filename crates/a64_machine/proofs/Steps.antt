-- Steps one after the other: what a sequence of code words does.
use Rattle.std.proofs.Common.{◌≡◌, ℕ, ◌+◌, ◌%◌, ◌^◌, ◌<◌, ◌==◌, ◌&&◌, true, nat_le, ◌≤◌, suc, List, [], ◌∷◌, ◌++◌, map, length, Some, None, refl, sym, ap, ◌∙◌, subst, arith, append_assoc, length-append}
use Rattle.std.specs.Prelude.{slice_get, option_and_then}
use Rattle.std.proofs.lemmas.Bool.Decides.{nat_tests}
use Rattle.std.proofs.lemmas.Bool.{cond-true}
use Rattle.std.proofs.lemmas.List.{append-nil}
use Rattle.run_laws.specs.Runs.{Moves, Walk}
use Rattle.a64_table.specs.Table.{word_of, InRange}
use Rattle.a64_table.specs.Decode.{decode_of}
use Rattle.a64_table.proofs.Laws.{decodes}
use Rattle.a64_instr.specs.declared.instr.Instr.{Instr}
use Rattle.a64_machine.specs.State.{State, code_base, address_of, place_at}
use Rattle.a64_machine.specs.Effects.{effect}
use Rattle.a64_machine.specs.Machine.{fetch, step_of, system_of}
use Rattle.a64_machine.proofs.Making.{step-effect}

-- the word at an address of the code is that word of the code
pub place-address : (place : ℕ) → place_at (address_of place) ≡ place
place-address place = omega arith

-- a code word is fetched at its address
pub fetch-address : (code : List ℕ) (place : ℕ) → fetch code (address_of place) ≡ slice_get code place
fetch-address code place =
    let low : nat_le code_base (address_of place) ≡ true = grind (arith, nat_tests) in
    let whole : (address_of place % 4 == 0) ≡ true = grind (arith, nat_tests) in
    let both : (nat_le code_base (address_of place) && address_of place % 4 == 0) ≡ true = grind (arith, nat_tests) in
    cond-true (nat_le code_base (address_of place) && address_of place % 4 == 0) (slice_get code (place_at (address_of place))) None both ∙ ap (slice_get code) (place-address place)

-- at a code word stands this instruction
pub record Stands (code : List ℕ) (place : ℕ) (i : Instr) : Type 0 where
  pub word : ℕ
  pub is_word : slice_get code place ≡ Some word
  pub is_instr : decode_of word ≡ Some i

-- from s the machine passes these words, writes these bytes, and stands at t
pub record Walks (code : List ℕ) (s : State) (places bytes : List ℕ) (t : State) : Type 0 where
  pub walk : Walk (system_of code) s places bytes t

module _ {code : List ℕ} (place : ℕ) {i : Instr} (stands : Stands code place i) (s : State) (here : s.pc ≡ address_of place) where
  -- the step there is the instruction's effect
  pub step-at : step_of code s ≡ effect i s
  step-at = step-effect code s i (ap (option_and_then decode_of) (ap (fetch code) here ∙ fetch-address code place ∙ stands.is_word) ∙ stands.is_instr)

  -- the state stands at that word
  pub point-at : (system_of code).at s ≡ place
  point-at = ap place_at here ∙ place-address place

  -- one step on
  pub walks-one : {bytes : List ℕ} {t : State} → effect i s ≡ Moves bytes t → Walks code s (place ∷ []) bytes t
  walks-one {bytes} {t} e = record { walk = record { after = t; now = bytes; later = []; here = point-at; moves = step-at ∙ e; wrote = sym (append-nil bytes); more = (refl, refl) } }

  -- one step that writes nothing, before a walk
  pub walks-on : {places bytes : List ℕ} {t u : State} → effect i s ≡ Moves [] t → Walks code t places bytes u → Walks code s (place ∷ places) bytes u
  walks-on {places} {bytes} {t} {u} e more = record { walk = record { after = t; now = []; later = bytes; here = point-at; moves = step-at ∙ e; wrote = refl; more = more.walk } }

  -- one step that writes, before a walk
  pub walks-writing : {places now bytes : List ℕ} {t u : State} → effect i s ≡ Moves now t → Walks code t places bytes u → Walks code s (place ∷ places) (now ++ bytes) u
  walks-writing {places} {now} {bytes} {t} {u} e more = record { walk = record { after = t; now = now; later = bytes; here = point-at; moves = step-at ∙ e; wrote = refl; more = more.walk } }

-- a walk that ends at a state that is the wanted one
pub walks-is : {code places bytes : List ℕ} {s t u : State} → t ≡ u → Walks code s places bytes t → Walks code s places bytes u
walks-is {code} {places} {bytes} {s} {t} {u} e w = subst (λ x. Walks code s places bytes x) e w

-- no step
pub walks-none : (code : List ℕ) (s : State) → Walks code s [] [] s
walks-none code s = record { walk = (refl, refl) }

-- two walks, one after the other
pub walks-append : {code ps qs v w : List ℕ} {s t u : State} → Walks code s ps v t → Walks code t qs w u → Walks code s (ps ++ qs) (v ++ w) u
walks-append {code} {ps} {qs} {v} {w} {s} {t} {u} a b = record { walk = joined ps s v a.walk }
  where
    joined : (ps : List ℕ) (s : State) (v : List ℕ) → Walk (system_of code) s ps v t → Walk (system_of code) s (ps ++ qs) (v ++ w) u
    joined [] s v a = subst (λ x. Walk (system_of code) s qs x u) (ap (λ x. x ++ w) (sym a.1)) (subst (λ x. Walk (system_of code) x qs w u) a.0 b.walk)
    joined (p ∷ ps) s v a = record { after = a.after; now = a.now; later = a.later ++ w; here = a.here; moves = a.moves; wrote = ap (λ x. x ++ w) a.wrote ∙ append_assoc a.now a.later w; more = joined ps a.after a.later a.more }

-- the word of an instruction in range stands for it
pub stands_word : (code : List ℕ) (place : ℕ) (i : Instr) → slice_get code place ≡ Some (word_of i) → InRange i → Stands code place i
stands_word code place i e fits = record { word = word_of i; is_word = e; is_instr = decodes i fits }

-- instructions stand one after the other in the code from word k on, which is no further than code may reach
abbrev pub StandAll : List ℕ → ℕ → List Instr → Type 0
StandAll code k [] = Unit {0}
StandAll code k (i ∷ is) = (k < 2 ^ 18) × Stands code k i × StandAll code (suc k) is

pub stand_append : (code : List ℕ) (is js : List Instr) (k : ℕ) → StandAll code k (is ++ js) → StandAll code k is × StandAll code (k + length is) js
stand_append code [] js k h = let e : k ≡ k + 0 = omega arith in (tt, subst (λ n. StandAll code n js) e h)
stand_append code (i ∷ is) js k h =
    let rest = stand_append code is js (suc k) h.2 in
    let e : suc k + length is ≡ k + suc (length is) = omega arith in
    ((h.0, h.1, rest.0), subst (λ n. StandAll code n js) e rest.1)

-- each instruction's fields fit
abbrev pub AllInRange : List Instr → Type 0
AllInRange [] = Unit {0}
AllInRange (i ∷ is) = InRange i × AllInRange is

pub in_range_append : (is js : List Instr) → AllInRange is → AllInRange js → AllInRange (is ++ js)
in_range_append [] js a b = b
in_range_append (i ∷ is) js a b = (a.0, in_range_append is js a.1 b)

-- so their words stand behind other words
pub stand_behind : (front : List ℕ) (is : List Instr) (k : ℕ) → length front ≡ k → k + length is ≤ 2 ^ 18 → AllInRange is → StandAll (front ++ map word_of is) k is
stand_behind front [] k e few fits = tt
stand_behind front (i ∷ is) k e few fits =
    let more = length-append front (word_of i ∷ []) in (
      omega (arith, few),
      stands_word (front ++ map word_of (i ∷ is)) k i (ap (slice_get (front ++ map word_of (i ∷ is))) (sym e) ∙ at_front front (word_of i) (map word_of is)) fits.0,
      subst (λ code. StandAll code (suc k) is) (append_assoc front (word_of i ∷ []) (map word_of is)) (stand_behind (front ++ word_of i ∷ []) is (suc k) (omega (arith, e, more)) (omega (arith, few)) fits.1),
    )
  where
    at_front : (front : List ℕ) (w : ℕ) (rest : List ℕ) → slice_get (front ++ w ∷ rest) (length front) ≡ Some w
    at_front [] w rest = refl
    at_front (x ∷ front) w rest = at_front front w rest

pub stands_all : (is : List Instr) → length is ≤ 2 ^ 18 → AllInRange is → StandAll (map word_of is) 0 is
stands_all is few fits = stand_behind [] is 0 refl (omega (arith, few)) fits

-- the address behind a code word is the next one's
pub next_pc : (place : ℕ) → place < 2 ^ 32 → (address_of place + 4) % 2 ^ 64 ≡ address_of (place + 1)
next_pc place small = omega arith
