-- Of valid flows it can't be that nothing says what is live.
use Rattle.std.proofs.Common.{◌≡◌, ℕ, zero, suc, ◌<◌, Bool, true, false, cond, List, [], ◌∷◌, length, refl, ap, ◌∙◌, arith}
use Rattle.std.specs.Prelude.{nat_lt, All}
use Rattle.std.specs.List.{AllByRecursion}
use Rattle.std.proofs.lemmas.Bool.{ltb-true, lt-ltb}
use Rattle.std.proofs.lemmas.List.Elements.{recursion_from_All}
use Rattle.std.proofs.lemmas.Option.{slice_get_within}
use Rattle.block_runs.specs.Blocks.{CodeBlock}
use Rattle.block_runs.specs.Live.{Live, Here, Later}
use Rattle.lir_core.specs.declared.flow.Flow.{Flow}
use Rattle.lir_core.specs.Flows.{code_nodes, IsValidFlow}
use Rattle.alloc_audit.specs.Results.{IsLive, AreLive}
use Rattle.alloc_audit.proofs.Sounds.{live_below}

---- Tests of numbers

-- the test says whether this holds of a number
abbrev Decides : (ℕ → Type 0) → (ℕ → Bool) → ℕ → Type 0
Decides P f i = (f i ≡ true → P i) × (P i → f i ≡ true)

abbrev before : {A : Type 0} → A → (ℕ → A) → ℕ → A
before a f zero = a
before a f (suc i) = f i

decides_all : (n : ℕ) (P : ℕ → Type 0) (b : Bool) (f : ℕ → Bool) → (b ≡ true → P 0) → (P 0 → b ≡ true) → ((i : ℕ) → i < n → Decides (λ j. P (suc j)) f i) → (i : ℕ) → i < suc n → Decides P (before b f) i
decides_all n P b f one other ok zero l = (one, other)
decides_all n P b f one other ok (suc i) l = ok i (omega (arith, l))

-- what holds of so many numbers has a test, or it isn't so that it has none
decided : (n : ℕ) (P : ℕ → Type 0) → ((f : ℕ → Bool) → ((i : ℕ) → i < n → Decides P f i) → ⊥) → ⊥
decided zero P never = never (λ i. false) (λ i l. absurd (omega (arith, l)))
decided (suc n) P never = decided n (λ i. P (suc i)) (λ f ok. never (before false f) (decides_all n P false f (λ e. cc) (λ p. absurd (never (before true f) (decides_all n P true f (λ e. p) (λ q. refl) ok))) ok))

-- the same of pairs of numbers
rows_decide : (n m : ℕ) (P : ℕ → ℕ → Type 0) (g : ℕ → Bool) (f : ℕ → ℕ → Bool) → ((j : ℕ) → j < m → Decides (P 0) g j) → ((i : ℕ) → i < n → (j : ℕ) → j < m → Decides (P (suc i)) (f i) j)
    → (i : ℕ) → i < suc n → (j : ℕ) → j < m → Decides (P i) (before g f i) j
rows_decide n m P g f first ok zero l j k = first j k
rows_decide n m P g f first ok (suc i) l j k = ok i (omega (arith, l)) j k

rows_decided : (n m : ℕ) (P : ℕ → ℕ → Type 0) → ((f : ℕ → ℕ → Bool) → ((i : ℕ) → i < n → (j : ℕ) → j < m → Decides (P i) (f i) j) → ⊥) → ⊥
rows_decided zero m P never = never (λ i j. false) (λ i l. absurd (omega (arith, l)))
rows_decided (suc n) m P never = decided m (P 0) (λ g first. rows_decided n m (λ i. P (suc i)) (λ f ok. never (before g f) (rows_decide n m P g f first ok)))

---- What is live

live_within : (bls : List CodeBlock) (v n : ℕ) → Live bls v n → n < length bls
live_within bls v n (Here b bl there p r) = slice_get_within bls b bl there
live_within bls v n (Later b to bl there u s l) = slice_get_within bls b bl there

-- no more numbers are asked than there are nodes and values
abbrev bounded : ℕ → ℕ → (ℕ → ℕ → Bool) → ℕ → ℕ → Bool
bounded nodes values live n v = cond (nat_lt n nodes) (cond (nat_lt v values) (live n v) false) false

module _ (f : Flow) (valid : IsValidFlow f) where
  abbrev bls : List CodeBlock
  bls = code_nodes f.nodes

  module _ (live : ℕ → ℕ → Bool) (ok : (n : ℕ) → n < length bls → (v : ℕ) → v < f.values → Decides (λ u. Live bls u n) (live n) v) where
    exact_by : (n v : ℕ) (a b : Bool) → nat_lt n (length bls) ≡ a → nat_lt v f.values ≡ b → cond a (cond b (live n v) false) false ≡ true → Live bls v n
    exact_by n v true true x y e = (ok n (ltb-true n (length bls) x) v (ltb-true v f.values y)).0 e
    exact_by n v true false x y e = cc
    exact_by n v false b x y e = cc

    whole_by : (n v : ℕ) → Live bls v n → bounded (length bls) f.values live n v ≡ true
    whole_by n v l =
        let there = live_within bls v n l in
        let value = live_below f.values bls valid.code.read_below v n l in
        ap (λ a. cond a (cond (nat_lt v f.values) (live n v) false) false) (lt-ltb n (length bls) there)
        ∙ ap (λ b. cond b (live n v) false) (lt-ltb v f.values value)
        ∙ (ok n there v value).1 l

    said : IsLive f (bounded (length bls) f.values live)
    said = record { valid = valid; exact = λ n v. exact_by n v (nat_lt n (length bls)) (nat_lt v f.values) refl refl; whole = whole_by }

  live_said : ((live : ℕ → ℕ → Bool) → IsLive f live → ⊥) → ⊥
  live_said never = rows_decided (length bls) f.values (λ n v. Live bls v n) (λ live ok. never (bounded (length bls) f.values live) (said live ok))

lives_by : (fs : List Flow) → AllByRecursion IsValidFlow fs → ((lives : List (ℕ → ℕ → Bool)) → AreLive fs lives → ⊥) → ⊥
lives_by [] valid never = never [] tt
lives_by (f ∷ fs) valid never = live_said f valid.0 (λ live is. lives_by fs valid.1 (λ lives are. never (live ∷ lives) (is, are)))

pub lives_are_said : (fs : List Flow) → All IsValidFlow fs → ((lives : List (ℕ → ℕ → Bool)) → AreLive fs lives → ⊥) → ⊥
lives_are_said fs valid = lives_by fs (recursion_from_All IsValidFlow fs valid)
