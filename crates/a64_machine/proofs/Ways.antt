-- Ways through words that stand one after the other, none of them passed twice; some may be left out.
use Rattle.std.proofs.Common.{◌≡◌, ℕ, suc, ◌+◌, ◌<◌, ◌≤◌, List, [], ◌∷◌, ◌++◌, arith, ap, ◌∙◌, subst, ⊎_elim}
use Rattle.std.proofs.lemmas.Bool.{cases_lt}
use Rattle.run_laws.specs.Runs.{Traps, weigh, Within}
use Rattle.run_laws.specs.Layers.{places_from}
use Rattle.run_laws.proofs.Layers.{places_from-append}
use Rattle.run_laws.proofs.Weights.{weigh-append}
use Rattle.a64_instr.specs.declared.instr.Instr.TheVariants.{Brk}
use Rattle.a64_machine.specs.State.{State, Trap, Broke, Undefined, BadAddress, BadCall, address_of, place_at}
use Rattle.a64_machine.specs.Machine.{step_of}
use Rattle.a64_machine.proofs.Steps.{Stands, Walks, step-at, walks-none, walks-append, place-address}

-- from a, n words from word k on lead to t; they write nothing, none is passed twice, and where there is a word one is passed
pub record Way (code : List ℕ) (k n : ℕ) (a t : State) : Type 0 where
  pub places : List ℕ
  pub walk : Walks code a places [] t
  pub within : Within (places_from k n) places
  pub some : 0 < n → 0 < weigh (λ p. 1) places

-- no word
pub way_none : (code : List ℕ) (k : ℕ) (a : State) → Way code k 0 a a
way_none code k a = record { places = []; walk = walks-none code a; within = λ h. omega arith; some = λ z. omega (arith, z) }

-- one word, and perhaps some behind it left out
pub way_one : (code : List ℕ) (k n : ℕ) (a t : State) → Walks code a (k ∷ []) [] t → Way code k (suc n) a t
way_one code k n a t w = record { places = k ∷ []; walk = w; within = λ h. omega arith; some = λ z. omega arith }

-- one way behind another
pub way_append : (code : List ℕ) (k m n : ℕ) (a b c : State) → Way code k m a b → Way code (k + m) n b c → Way code k (m + n) a c
way_append code k m n a b c one two = record {
  places = one.places ++ two.places;
  walk = walks-append one.walk two.walk;
  within = λ h.
      let x = one.within h in let y = two.within h in
      let e = ap (weigh h) (places_from-append k m n) in
      omega (arith, x, y, e, weigh-append h one.places two.places, weigh-append h (places_from k m) (places_from (k + m) n));
  some = λ z. ⊎_elim
      (λ l. let x = one.some l in let e = weigh-append (λ p. 1) one.places two.places in omega (arith, x, e))
      (λ l. let x = two.some (omega (arith, z, l)) in let e = weigh-append (λ p. 1) one.places two.places in omega (arith, x, e))
      (cases_lt 0 m);
}

-- as many words by another sum
pub way_is : (code : List ℕ) (k m n : ℕ) (a t : State) → m ≡ n → Way code k m a t → Way code k n a t
way_is code k m n a t e w = subst (λ i. Way code k i a t) e w

-- where a BRK stands: among n words from word k on
abbrev pub Located : Trap → ℕ → ℕ → Type 0
Located (Broke kind place) k n = (k ≤ place) × (place < k + n)
Located _ k n = Unit {0}

located_more : (mine : Trap) (k n j m : ℕ) → j ≤ k → k + n ≤ j + m → Located mine k n → Located mine j m
located_more (Broke kind place) k n j m l u h = (let x = h.0 in omega (arith, l, x), let y = h.1 in omega (arith, u, y))
located_more (Undefined word) k n j m l u h = tt
located_more (BadAddress address) k n j m l u h = tt
located_more (BadCall number) k n j m l u h = tt

-- from a, n words from word k on lead to a word among them that stops the machine with this trap
pub record Stops (code : List ℕ) (k n : ℕ) (a : State) (mine : Trap) : Type 0 where
  pub after : State
  pub places : List ℕ
  pub walk : Walks code a places [] after
  pub stops : step_of code after ≡ Traps mine
  pub within : Within (places_from k n) (places ++ place_at after.pc ∷ [])
  pub located : Located mine k n

-- with words behind, and before
pub stops_longer : (code : List ℕ) (k m n : ℕ) (a : State) (mine : Trap) → Stops code k m a mine → Stops code k (m + n) a mine
stops_longer code k m n a mine s = record {
  after = s.after;
  places = s.places;
  walk = s.walk;
  stops = s.stops;
  within = λ h. let x = s.within h in let e = ap (weigh h) (places_from-append k m n) in omega (arith, x, e, weigh-append h (places_from k m) (places_from (k + m) n));
  located = located_more mine k m k (m + n) (omega arith) (omega arith) s.located;
}

pub stops_behind : (code : List ℕ) (k m n : ℕ) (a b : State) (mine : Trap) → Way code k m a b → Stops code (k + m) n b mine → Stops code k (m + n) a mine
stops_behind code k m n a b mine one s = record {
  after = s.after;
  places = one.places ++ s.places;
  walk = walks-append one.walk s.walk;
  stops = s.stops;
  within = λ h.
      let x = s.within h in let y = one.within h in
      let e = ap (weigh h) (places_from-append k m n) in
      omega (arith, x, y, e, weigh-append h (places_from k m) (places_from (k + m) n), weigh-append h one.places s.places, weigh-append h (one.places ++ s.places) (place_at s.after.pc ∷ []), weigh-append h s.places (place_at s.after.pc ∷ []));
  located = located_more mine (k + m) n k (m + n) (omega arith) (omega arith) s.located;
}

-- BRK stops at itself
pub stops_here : (code : List ℕ) (k kind : ℕ) (a : State) → Stands code k (Brk kind) → a.pc ≡ address_of k → Stops code k 1 a (Broke kind k)
stops_here code k kind a stands here = record {
  after = a;
  places = [];
  walk = walks-none code a;
  stops = step-at k stands a here ∙ ap (λ (n : ℕ). Traps (Broke kind n)) (ap place_at here ∙ place-address k);
  within = λ h. let p = ap h (ap place_at here ∙ place-address k) in omega (arith, p);
  located = (omega arith, omega arith);
}
