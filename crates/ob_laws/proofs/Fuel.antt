-- More fuel than turns changes nothing.
use Rattle.std.proofs.Common.{◌≡◌, ℕ, zero, suc, ◌≤◌, List, [], ◌∷◌, ◌++◌, length, take, Bool, true, false, refl, sym, ap, ◌∙◌, arith}
use Rattle.std.specs.Prelude.{if◌then◌else◌}
use Rattle.run_laws.specs.Turns.{State, Ending, Gives, Fails, Spent, after, ◌>>=◌, give, spend_of, repeat, outcome}
use Rattle.ob_types.specs.Store.{Cell, Store, Trap, Act, Handed}
use Rattle.ob_types.specs.Expressions.{Calls}
use Rattle.ob_types.specs.Meaning.{within, invoked, at_most, bodies, start, meaning}
use Rattle.ob_laws.specs.Laws.{Grows, OnlyAdds}
use Rattle.ob_laws.proofs.Adds.{adds_bind, adds_give, adds_fail, adds_look, adds_spend, adds_repeat, adds_put, adds_write, adds_made}
use Rattle.ob_laws.proofs.Adds.{adds_next_byte, adds_within, adds_at_most}
use Rattle.ob_laws.proofs.Related.{r_invoked, r_bodies}
use Rattle.ob_types.specs.declared.program.Program.{Program}

-- m and n do the same wherever at most b turns are left
pub record Alike (b : ℕ) {A : Type 0} (m n : Act A) : Type 0 where
  pub same : (s : State Store) → s.turns ≤ b → m s ≡ n s
  pub keeps : OnlyAdds n

alike_refl : {b : ℕ} {A : Type 0} {m : Act A} → OnlyAdds m → Alike b m m
alike_refl k = record { same = λ s le. refl; keeps = k }

alike_less : {b c : ℕ} {A : Type 0} {m n : Act A} → c ≤ b → Alike b m n → Alike c m n
alike_less less p = record { same = λ s le. p.same s (omega (arith, less, le)); keeps = p.keeps }

after_same : {A B : Type 0} (b : ℕ) (s : State Store) (e : Ending Store Trap A) (f g : A → Act B) → s.turns ≤ b → Grows s e → ((a : A) → Alike b (f a) (g a)) → after e f ≡ after e g
after_same b s (Gives a t) f g le later q = let x = later.turns in (q a).same t (omega (arith, le, x))
after_same b s (Fails trap out) f g le later q = refl
after_same b s (Spent out) f g le later q = refl

alike_bind : {b : ℕ} {A B : Type 0} {m n : Act A} {f g : A → Act B} → Alike b m n → ((a : A) → Alike b (f a) (g a)) → Alike b (m >>= f) (n >>= g)
alike_bind {b = b} {m = m} {n = n} {f = f} {g = g} p q = record {
  same = λ s le. ap (λ e. after e f) (p.same s le) ∙ after_same b s (n s) f g le (p.keeps.by s) q;
  keeps = adds_bind p.keeps (λ a. (q a).keeps);
}

-- what comes behind a turn has one turn less
spend_same : {B : Type 0} (b : ℕ) (f g : Act B) → ((n : ℕ) → n ≤ b → (s : State Store) → s.turns ≡ n → f s ≡ g s) → (s : State Store) → s.turns ≤ suc b → (k : ℕ) → s.turns ≡ k → after (spend_of k s) (λ _. f) ≡ after (spend_of k s) (λ _. g)
spend_same b f g q s le zero is = refl
spend_same b f g q s le (suc n) is = q n (omega (arith, le, is)) (record s { turns = n }) refl

none_left : {B : Type 0} (f : Act B) (s : State Store) → s.turns ≤ 0 → (k : ℕ) → s.turns ≡ k → after (spend_of k s) (λ _. f) ≡ Spent s.out
none_left f s le zero is = refl
none_left f s le (suc n) is = absurd (omega (arith, le, is))

repeat_same : {round again : Act Bool} (fuel more b : ℕ) → b ≤ fuel → b ≤ more → Alike b round again → (s : State Store) → s.turns ≤ b → repeat fuel round s ≡ repeat more again s
repeat_same zero zero b less few p s le = refl
repeat_same {again = again} zero (suc more) b less few p s le = sym (none_left (again >>= λ goes_on. if goes_on then repeat more again else give tt) s (omega (arith, le, less)) s.turns refl)
repeat_same {round = round} (suc fuel) zero b less few p s le = none_left (round >>= λ goes_on. if goes_on then repeat fuel round else give tt) s (omega (arith, le, few)) s.turns refl
repeat_same {round = round} {again = again} (suc fuel) (suc more) zero less few p s le =
    none_left (round >>= λ goes_on. if goes_on then repeat fuel round else give tt) s le s.turns refl
    ∙ sym (none_left (again >>= λ goes_on. if goes_on then repeat more again else give tt) s le s.turns refl)
repeat_same {round = round} {again = again} (suc fuel) (suc more) (suc b) less few p s le =
    spend_same b (round >>= λ goes_on. if goes_on then repeat fuel round else give tt) (again >>= λ goes_on. if goes_on then repeat more again else give tt) (λ n small t is. (alike_bind (alike_less (omega arith) p) (next (repeat_same fuel more b (omega (arith, less)) (omega (arith, few)) (alike_less (omega arith) p)))).same t (omega (arith, small, is))) s le s.turns refl
  where
    next : ((t : State Store) → t.turns ≤ b → repeat fuel round t ≡ repeat more again t) → (goes_on : Bool) → Alike b (if goes_on then repeat fuel round else give tt) (if goes_on then repeat more again else give tt)
    next same true = record { same = same; keeps = adds_repeat more p.keeps }
    next same false = alike_refl (adds_give tt)

alike_repeat : (fuel more b : ℕ) → b ≤ fuel → b ≤ more → {round again : Act Bool} → Alike b round again → Alike b (repeat fuel round) (repeat more again)
alike_repeat fuel more b less few p = record { same = repeat_same fuel more b less few p; keeps = adds_repeat more p.keeps }

-- a call's own object
alike_within : {A : Type 0} (b : ℕ) (own : List Cell) {body other : ℕ → Act A} → ((k : ℕ) → Alike b (body k) (other k)) → Alike b (within own body) (within own other)
alike_within b own p = record {
  same = λ s le. ap (λ e. after e (λ a t. Gives a (record t { store = record t.store { frames = take (length s.store.frames) t.store.frames } }))) ((p (length s.store.frames)).same (record s { store = record s.store { frames = s.store.frames ++ own ∷ [] } }) le);
  keeps = adds_within own (λ k. (p k).keeps);
}

alike_invoked : (p : Program) (b fuel more : ℕ) → b ≤ fuel → b ≤ more → (calls others : Calls) → ((g : ℕ) (hs : List Handed) → Alike b (calls g hs) (others g hs)) → (f : ℕ) (hs : List Handed) → Alike b (invoked p calls fuel f hs) (invoked p others more f hs)
alike_invoked p b fuel more less few calls others same f hs =
    r_invoked (λ A m n. Alike b m n) fuel more
    (λ A B m n f g. alike_bind) (λ A a. alike_refl (adds_give a)) (λ A t. alike_refl (adds_fail t)) (λ A f. alike_refl (adds_look f)) (alike_refl adds_spend)
    (λ round again. alike_repeat fuel more b less few)
    (λ a c. alike_refl (adds_put a c)) (λ xs. alike_refl (adds_write xs)) (λ cells tag. alike_refl (adds_made cells tag)) (alike_refl adds_next_byte)
    (λ A own body other. alike_within b own)
    p calls others same f hs

at_most_same : (p : Program) (fuel more b : ℕ) → b ≤ fuel → b ≤ more → (f : ℕ) (hs : List Handed) (s : State Store) → s.turns ≤ b → at_most p fuel f hs s ≡ at_most p more f hs s
at_most_same p zero zero b less few f hs s le = refl
at_most_same p zero (suc more) b less few f hs s le = sym (none_left (invoked p (at_most p more) more f hs) s (omega (arith, le, less)) s.turns refl)
at_most_same p (suc fuel) zero b less few f hs s le = none_left (invoked p (at_most p fuel) fuel f hs) s (omega (arith, le, few)) s.turns refl
at_most_same p (suc fuel) (suc more) zero less few f hs s le = none_left (invoked p (at_most p fuel) fuel f hs) s le s.turns refl ∙ sym (none_left (invoked p (at_most p more) more f hs) s le s.turns refl)
at_most_same p (suc fuel) (suc more) (suc b) less few f hs s le =
    spend_same b (invoked p (at_most p fuel) fuel f hs) (invoked p (at_most p more) more f hs)
    (λ n small t is. (alike_invoked p b fuel more (omega (arith, less)) (omega (arith, few)) (at_most p fuel) (at_most p more) (λ g xs. record { same = at_most_same p fuel more b (omega (arith, less)) (omega (arith, few)) g xs; keeps = adds_at_most p more g xs }) f hs).same t (omega (arith, small, is)))
    s le s.turns refl

pub alike_at_most : (p : Program) (b fuel more : ℕ) → b ≤ fuel → b ≤ more → (f : ℕ) (hs : List Handed) → Alike b (at_most p fuel f hs) (at_most p more f hs)
alike_at_most p b fuel more less few f hs = record { same = at_most_same p fuel more b less few f hs; keeps = adds_at_most p more f hs }

pub alike_bodies : (p : Program) (b fuel more : ℕ) → b ≤ fuel → b ≤ more → Alike b (bodies p fuel p.modules) (bodies p more p.modules)
alike_bodies p b fuel more less few =
    r_bodies (λ A m n. Alike b m n) fuel more
    (λ A B m n f g. alike_bind) (λ A a. alike_refl (adds_give a)) (λ A t. alike_refl (adds_fail t)) (λ A f. alike_refl (adds_look f)) (alike_refl adds_spend)
    (λ round again. alike_repeat fuel more b less few)
    (λ a c. alike_refl (adds_put a c)) (λ xs. alike_refl (adds_write xs)) (λ cells tag. alike_refl (adds_made cells tag)) (alike_refl adds_next_byte)
    (λ A own body other. alike_within b own)
    p (alike_at_most p b fuel more less few) p.modules

-- the bound on the recursion is never met before the turns are used up
pub fuel_is_free : (p : Program) (input : List ℕ) (n more : ℕ) → n ≤ more → outcome (bodies p more p.modules (record { store = start p input; out = []; turns = n })) ≡ meaning p input n
fuel_is_free p input n more le = ap outcome ((alike_bodies p n more n le (omega arith)).same (record { store = start p input; out = []; turns = n }) (omega arith))
