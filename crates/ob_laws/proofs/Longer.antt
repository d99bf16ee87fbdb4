-- A meaning that is over with n turns is the same with more.
use Rattle.std.proofs.Common.{◌≡◌, ℕ, zero, suc, ◌+◌, ◌≤◌, List, [], ◌∷◌, ◌++◌, length, take, Bool, true, false, Option, Some, None, refl, sym, ap, subst, arith}
use Rattle.std.specs.Prelude.{if◌then◌else◌}
use Rattle.run_laws.specs.Runs.{IsOver}
use Rattle.run_laws.specs.Turns.{State, Ending, Gives, Fails, Spent, after, ◌>>=◌, give, fail, look, change, spend, spend_of, repeat, outcome}
use Rattle.ob_types.specs.Store.{Cell, Address, Store, Trap, Act, Handed, senseless, given, objects, with_objects, cell_of, cell_put, can_write, put}
use Rattle.ob_types.specs.Expressions.{Calls}
use Rattle.ob_types.specs.Statements.{next_byte_of, next_byte}
use Rattle.ob_types.specs.Meaning.{within, invoked, at_most, bodies, start, meaning}
use Rattle.ob_laws.proofs.Related.{r_invoked, r_bodies}
use Rattle.ob_types.specs.declared.program.Program.{Program}

-- the same state with d more turns
abbrev more_turns : ℕ → State Store → State Store
more_turns d s = record s { turns = s.turns + d }

-- what is over stays as it is
abbrev Stays : {A : Type 0} → ℕ → Ending Store Trap A → Ending Store Trap A → Type 0
Stays d (Gives a t) e = e ≡ Gives a (more_turns d t)
Stays d (Fails trap out) e = e ≡ Fails trap out
Stays d (Spent out) e = Unit {0}

record Longer (d : ℕ) {A : Type 0} (m n : Act A) : Type 0 where
  by : (s : State Store) → Stays d (m s) (n (more_turns d s))

stays_after : {A B : Type 0} (d : ℕ) (e later : Ending Store Trap A) (f g : A → Act B) → Stays d e later → ((a : A) → Longer d (f a) (g a)) → Stays d (after e f) (after later g)
stays_after d (Gives a t) later f g h q = subst (λ x. Stays d (f a t) (after x g)) (sym h) ((q a).by t)
stays_after d (Fails trap out) later f g h q = ap (λ x. after x g) h
stays_after d (Spent out) later f g h q = tt

longer_bind : {d : ℕ} {A B : Type 0} {m n : Act A} {f g : A → Act B} → Longer d m n → ((a : A) → Longer d (f a) (g a)) → Longer d (m >>= f) (n >>= g)
longer_bind {d = d} {m = m} {n = n} {f = f} {g = g} p q = record { by = λ s. stays_after d (m s) (n (more_turns d s)) f g (p.by s) q }

longer_give : (d : ℕ) {A : Type 0} (a : A) → Longer d (give a) (give a)
longer_give d a = record { by = λ s. refl }

longer_fail : (d : ℕ) {A : Type 0} (t : Trap) → Longer d (fail {A = A} t) (fail {A = A} t)
longer_fail d t = record { by = λ s. refl }

longer_look : (d : ℕ) {A : Type 0} (f : Store → A) → Longer d (look f) (look f)
longer_look d f = record { by = λ s. refl }

longer_spend : (d : ℕ) → Longer d spend spend
longer_spend d = record { by = λ s. at s s.turns refl }
  where
    at : (s : State Store) (k : ℕ) → s.turns ≡ k → Stays d (spend_of k s) (spend_of (s.turns + d) (more_turns d s))
    at s zero is = tt
    at s (suc k) is = let e : s.turns + d ≡ suc (k + d) = omega (arith, is) in ap (λ n. spend_of n (more_turns d s)) e

longer_next : (d fuel more : ℕ) (round again : Act Bool) → Longer d (repeat fuel round) (repeat more again) → (goes_on : Bool) → Longer d (if goes_on then repeat fuel round else give tt) (if goes_on then repeat more again else give tt)
longer_next d fuel more round again p true = p
longer_next d fuel more round again p false = longer_give d tt

longer_repeat : (d fuel more : ℕ) → fuel ≤ more → {round again : Act Bool} → Longer d round again → Longer d (repeat fuel round) (repeat more again)
longer_repeat d zero more le p = record { by = λ s. tt }
longer_repeat d (suc fuel) zero le p = absurd (omega (arith, le))
longer_repeat d (suc fuel) (suc more) le {round = round} {again = again} p = record { by = λ s. (longer_bind (longer_spend d) (λ _. longer_bind p (longer_next d fuel more round again (longer_repeat d fuel more (omega (arith, le)) p)))).by s }

longer_put : (d : ℕ) (a : Address) (c : Cell) → Longer d (put a c) (put a c)
longer_put d a c = record { by = λ s. at s (cell_of (objects a.area s.store) a.object a.cell) }
  where
    at : (s : State Store) (o : Option Cell) → Stays d (after (given o s) (λ _. look (objects a.area) >>= λ all. if can_write a.area then change (with_objects a.area (cell_put all a.object a.cell c)) else senseless)) (after (given o (more_turns d s)) (λ _. look (objects a.area) >>= λ all. if can_write a.area then change (with_objects a.area (cell_put all a.object a.cell c)) else senseless))
    at s None = refl
    at s (Some v) = by (can_write a.area)
      where
        by : (ok : Bool) → Stays d ((if ok then change (with_objects a.area (cell_put (objects a.area s.store) a.object a.cell c)) else senseless) s) ((if ok then change (with_objects a.area (cell_put (objects a.area s.store) a.object a.cell c)) else senseless) (more_turns d s))
        by true = refl
        by false = refl

longer_next_byte : (d : ℕ) → Longer d next_byte next_byte
longer_next_byte d = record { by = λ s. at s s.store.input }
  where
    at : (s : State Store) (xs : List ℕ) → Stays d (next_byte_of xs s) (next_byte_of xs (more_turns d s))
    at s [] = refl
    at s (x ∷ xs) = refl

abbrev inner : List Cell → State Store → State Store
inner own s = record s { store = record s.store { frames = s.store.frames ++ own ∷ [] } }

abbrev outer : {A : Type 0} → State Store → A → Act A
outer s a t = Gives a (record t { store = record t.store { frames = take (length s.store.frames) t.store.frames } })

longer_within : (d : ℕ) {A : Type 0} (own : List Cell) {body other : ℕ → Act A} → ((k : ℕ) → Longer d (body k) (other k)) → Longer d (within own body) (within own other)
longer_within d own {body = body} {other = other} p = record { by = λ s. stays_after d (body (length s.store.frames) (inner own s)) (other (length s.store.frames) (more_turns d (inner own s))) (outer s) (outer s) ((p (length s.store.frames)).by (inner own s)) (λ a. record { by = λ t. refl }) }

longer_invoked : (p : Program) (d fuel more : ℕ) → fuel ≤ more → (calls others : Calls) → ((g : ℕ) (hs : List Handed) → Longer d (calls g hs) (others g hs)) → (f : ℕ) (hs : List Handed) → Longer d (invoked p calls fuel f hs) (invoked p others more f hs)
longer_invoked p d fuel more le calls others same f hs =
    r_invoked (λ A m n. Longer d m n) fuel more
    (λ A B m n f g. longer_bind) (λ A a. longer_give d a) (λ A t. longer_fail d t) (λ A f. longer_look d f) (longer_spend d)
    (λ round again. longer_repeat d fuel more le)
    (λ a c. longer_put d a c) (λ xs. record { by = λ s. refl }) (λ cells tag. record { by = λ s. refl }) (longer_next_byte d)
    (λ A own body other. longer_within d own)
    p calls others same f hs

longer_at_most : (p : Program) (d fuel more : ℕ) → fuel ≤ more → (f : ℕ) (hs : List Handed) → Longer d (at_most p fuel f hs) (at_most p more f hs)
longer_at_most p d zero more le f hs = record { by = λ s. tt }
longer_at_most p d (suc fuel) zero le f hs = absurd (omega (arith, le))
longer_at_most p d (suc fuel) (suc more) le f hs = record { by = λ s. (longer_bind (longer_spend d) (λ _. longer_invoked p d fuel more (omega (arith, le)) (at_most p fuel) (at_most p more) (longer_at_most p d fuel more (omega (arith, le))) f hs)).by s }

longer_bodies : (p : Program) (d fuel more : ℕ) → fuel ≤ more → Longer d (bodies p fuel p.modules) (bodies p more p.modules)
longer_bodies p d fuel more le =
    r_bodies (λ A m n. Longer d m n) fuel more
    (λ A B m n f g. longer_bind) (λ A a. longer_give d a) (λ A t. longer_fail d t) (λ A f. longer_look d f) (longer_spend d)
    (λ round again. longer_repeat d fuel more le)
    (λ a c. longer_put d a c) (λ xs. record { by = λ s. refl }) (λ cells tag. record { by = λ s. refl }) (longer_next_byte d)
    (λ A own body other. longer_within d own)
    p (longer_at_most p d fuel more le) p.modules

over_stays : {A : Type 0} (d : ℕ) (e later : Ending Store Trap A) → Stays d e later → IsOver (outcome e) → outcome later ≡ outcome e
over_stays d (Gives a t) later h over = ap outcome h
over_stays d (Fails trap out) later h over = ap outcome h
over_stays d (Spent out) later h over = absurd over

-- with d more turns
pub over_with_more : (p : Program) (input : List ℕ) (n d : ℕ) → IsOver (meaning p input n) → meaning p input (n + d) ≡ meaning p input n
over_with_more p input n d over =
    over_stays d (bodies p n p.modules (record { store = start p input; out = []; turns = n })) (bodies p (n + d) p.modules (record { store = start p input; out = []; turns = n + d }))
    ((longer_bodies p d n (n + d) (omega arith)).by (record { store = start p input; out = []; turns = n })) over
