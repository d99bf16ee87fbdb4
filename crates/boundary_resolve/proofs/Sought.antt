-- The tables that find where values are before an edge.
use Rattle.std.proofs.Common.{◌≡◌, ℕ, suc, ◌+◌, ◌<◌, ◌≤◌, Bool, true, false, ◌&&◌, ◌||◌, cond, List, [], ◌∷◌, ◌++◌, length, take, drop, get_or, Option, Some, None, refl, sym, ap, ap₂, ◌∙◌, subst, arith}
use Rattle.std.specs.Prelude.{◌==◌, nat_lt, nat_le, min, unwrap_or}
use Rattle.std.specs.Ordering.{nat_cmp, is_eq}
use Rattle.std.specs.Cmp.{nat_cmp_is}
use Rattle.std.specs.declared.cmp.Ordering.TheVariants.{Less, Equal, Greater}
use Rattle.std.specs.BTreeMap.{BTreeMap, get}
use Rattle.std.specs.BTreeMap.{Updates as Puts}
use Rattle.std.specs.BTreeSet.{BTreeSet, contains}
use Rattle.std.specs.BTreeSet.{Updates as Adds}
use Rattle.std.proofs.lemmas.Bool.{eqb-true, eq-eqb, ltb-true}
use Rattle.std.proofs.lemmas.Bool.Decides.{nat_tests}
use Rattle.std.proofs.lemmas.List.{take_more, drop_more, drop_all, append_assoc}
use Rattle.block_runs.specs.Live.{has}
use Rattle.lir_core.specs.declared.places.Place.{Place}
use Rattle.lir_core.specs.declared.places.Place.TheVariants.{Reg, Home}
use Rattle.lir_core.specs.declared.places.Move.{Move}
use Rattle.lir_core.specs.declared.places.Places.{Places}
use Rattle.lir_core.specs.Spots.{argument_of, IsRising}
use Rattle.global_live.proofs.Lists.{has-append}
use Rattle.boundary_resolve.specs.declared.moves.Before.{Before}
use Rattle.boundary_resolve.specs.Moves.{register_of, register_or_home, place_of, reg_moves, home_moves, stays_home, edge_moves, FewRegs}
use Rattle.boundary_resolve.specs.Before.{argument_before, place_before, homed_before, stays_before, moves_before, HasFew, Rises, HasHomes, HasArguments, IsBefore}

at_key : (x y : ℕ) → is_eq (nat_cmp x y) ≡ (x == y)
at_key x y = at_equal (x == y) refl (nat_lt x y) refl
  where
    at_equal : (b : Bool) → (x == y) ≡ b → (c : Bool) → nat_lt x y ≡ c → is_eq (nat_cmp x y) ≡ b
    at_equal true e c f = ap is_eq (sym (nat_cmp_is x y Equal (eqb-true x y e)))
    at_equal false e true f = ap is_eq (sym (nat_cmp_is x y Less (ltb-true x y f)))
    at_equal false e false f = let h : y < x = grind (arith, nat_tests) in ap is_eq (sym (nat_cmp_is x y Greater h))

---- Homes

pub homes_more : (vs : List ℕ) (i x : ℕ) (before after : BTreeSet ℕ) → HasHomes (take i vs) before → i < length vs → x ≡ get_or vs i 0 → Adds nat_cmp before after x true → HasHomes (take (i + 1) vs) after
homes_more vs i x before after h lt is adds v =
    adds.0 v ∙ ap (λ b. cond b true (contains nat_cmp before v)) (at_key x v) ∙ ap (λ b. cond (x == v) true b) (h v)
    ∙ at_test (x == v) (has (take i vs) v) ∙ sym (ap (λ xs. has xs v) (take_more vs i 0 lt ∙ ap (λ y. take i vs ++ y ∷ []) (sym is)) ∙ has-append (take i vs) (x ∷ []) v)
  where
    at_test : (a b : Bool) → cond a true b ≡ (b || cond a true false)
    at_test true true = refl
    at_test true false = refl
    at_test false true = refl
    at_test false false = refl

---- Arguments

pub no_arguments : (params args : List ℕ) (i : ℕ) (m : BTreeMap ℕ ℕ) → i ≡ min (length params) (length args) → ((v : ℕ) → get nat_cmp m v ≡ None) → HasArguments (drop i params) (drop i args) m
no_arguments params args i m is none v = ap (λ o. unwrap_or o v) (none v) ∙ at_side (nat_lt (length params) (length args)) refl
  where
    empty : (xs ys : List ℕ) → xs ≡ [] → v ≡ argument_of xs ys v
    empty xs ys e = ap (λ z. argument_of z ys v) (sym e)

    unpaired : (xs ys : List ℕ) → ys ≡ [] → v ≡ argument_of xs ys v
    unpaired [] ys e = refl
    unpaired (x ∷ xs) ys e = ap (λ z. argument_of (x ∷ xs) z v) (sym e)

    at_side : (b : Bool) → nat_lt (length params) (length args) ≡ b → v ≡ argument_of (drop i params) (drop i args) v
    at_side true e = empty (drop i params) (drop i args) (drop_all i params (let l = ltb-true (length params) (length args) e in omega (arith, is, l)))
    at_side false e = unpaired (drop i params) (drop i args) (drop_all i args (let l : length args ≤ length params = grind (arith, nat_tests) in omega (arith, is, l)))

pub arguments_more : (params args : List ℕ) (i j p a : ℕ) (before after : BTreeMap ℕ ℕ) → HasArguments (drop i params) (drop i args) before → i ≡ j + 1 → j < length params → j < length args → p ≡ get_or params j 0 → a ≡ get_or args j 0 → Puts nat_cmp before after p (Some a) → HasArguments (drop j params) (drop j args) after
arguments_more params args i j p a before after h is lp la at_p at_a puts v =
    ap (λ o. unwrap_or o v) (puts.0 v ∙ ap (λ b. cond b (Some a) (get nat_cmp before v)) (at_key p v))
    ∙ at_test (p == v) refl
    ∙ sym (ap₂ (λ xs ys. argument_of xs ys v) (drop_more params j 0 lp ∙ ap₂ (λ y n. y ∷ drop n params) (sym at_p) (sym is)) (drop_more args j 0 la ∙ ap₂ (λ y n. y ∷ drop n args) (sym at_a) (sym is)))
  where
    turned : (b : Bool) → (p == v) ≡ b → (v == p) ≡ b
    turned true e = eq-eqb v p (sym (eqb-true p v e))
    turned false e = grind (arith, nat_tests)

    at_test : (b : Bool) → (p == v) ≡ b → unwrap_or (cond b (Some a) (get nat_cmp before v)) v ≡ cond (v == p) a (argument_of (drop i params) (drop i args) v)
    at_test true e = sym (ap (λ b. cond b a (argument_of (drop i params) (drop i args) v)) (turned true e))
    at_test false e = h v ∙ sym (ap (λ b. cond b a (argument_of (drop i params) (drop i args) v)) (turned false e))

pub argument_alone : (params args : List ℕ) (i v : ℕ) → length args ≤ i → argument_of (drop i params) (drop i args) v ≡ v
argument_alone params args i v past = none (drop i params) (drop i args) (drop_all i args past)
  where
    none : (xs ys : List ℕ) → ys ≡ [] → argument_of xs ys v ≡ v
    none [] ys e = refl
    none (x ∷ xs) ys e = ap (λ z. argument_of (x ∷ xs) z v) e

pub argument_further : (params args : List ℕ) (i p v : ℕ) → i < length params → i < length args → p ≡ get_or params i 0 → (p ≡ v → ⊥) → argument_of (drop i params) (drop i args) v ≡ argument_of (drop (i + 1) params) (drop (i + 1) args) v
argument_further params args i p v lp la is other =
    ap₂ (λ xs ys. argument_of xs ys v) (drop_more params i 0 lp ∙ ap (λ y. y ∷ drop (i + 1) params) (sym is)) (drop_more args i 0 la)
    ∙ ap (λ b. cond b (get_or args i 0) (argument_of (drop (i + 1) params) (drop (i + 1) args) v)) (at_test (v == p) refl)
  where
    at_test : (b : Bool) → (v == p) ≡ b → b ≡ false
    at_test true e = absurd (other (sym (eqb-true v p e)))
    at_test false e = refl

---- Moves

reg_same : (f g : ℕ → Place) → ((v : ℕ) → f v ≡ g v) → (i : ℕ) (regs : List (Option ℕ)) → reg_moves f i regs ≡ reg_moves g i regs
reg_same f g h i [] = refl
reg_same f g h i (None ∷ regs) = reg_same f g h (suc i) regs
reg_same f g h i (Some v ∷ regs) = ap₂ (λ p ms. let m : Move = record { to = Reg i; from = p } in m ∷ ms) (h v) (reg_same f g h (suc i) regs)

home_same : (s t : ℕ → Bool) (f g : ℕ → Place) → ((v : ℕ) → s v ≡ t v) → ((v : ℕ) → f v ≡ g v) → (vs : List ℕ) → home_moves s f vs ≡ home_moves t g vs
home_same s t f g e h [] = refl
home_same s t f g e h (v ∷ vs) =
    ap₂ (λ p ms. cond (s v) ms (let m : Move = record { to = Home v; from = p } in m ∷ ms)) (h v) (home_same s t f g e h vs)
    ∙ ap (λ b. cond b (home_moves t g vs) (let m : Move = record { to = Home v; from = g v } in m ∷ home_moves t g vs)) (e v)

homed_is : (before : Places) (params args : List ℕ) (b : Before) → IsBefore before params args b → (v : ℕ) → homed_before b v ≡ has before.homed v
homed_is before params args b is v = at_test b.rises refl
  where
    at_test : (t : Bool) → b.rises ≡ t → cond t (has b.homed.now v) (contains nat_cmp b.set v) ≡ has before.homed v
    at_test true e = ap (λ vs. has vs v) is.homed
    at_test false e = is.set e v

pub rises_before : (before : Places) (params args : List ℕ) (b : Before) → IsBefore before params args b → Rises b
rises_before before params args b is e = subst IsRising (sym is.homed) (is.rises e)

pub before_is : (before after : Places) (params args : List ℕ) (b : Before) → IsBefore before params args b → moves_before b after ≡ edge_moves before after (argument_of params args)
before_is before after params args b is =
    ap₂ (λ (x y : List Move). x ++ y)
    (reg_same (place_before b) (λ v. place_of before (argument_of params args v)) place_is 0 after.regs)
    (home_same (stays_before b) (stays_home before (argument_of params args)) (place_before b) (λ v. place_of before (argument_of params args v)) stays_is place_is after.homed)
  where
    place_is : (v : ℕ) → place_before b v ≡ place_of before (argument_of params args v)
    place_is v = ap₂ (λ rs u. register_or_home (register_of rs 0 u) u) is.regs (is.arguments v)

    stays_is : (v : ℕ) → stays_before b v ≡ stays_home before (argument_of params args) v
    stays_is v = ap₂ (λ x u. x && u == v) (homed_is before params args b is v) (is.arguments v)

pub has_few : (before : Places) (params args : List ℕ) (b : Before) → IsBefore before params args b → FewRegs before → HasFew b
has_few before params args b is few = subst (λ (rs : List (Option ℕ)). length rs ≤ 16) (sym is.regs) few

---- The table of arguments

pub arguments_are : (b : Before) (params args : List ℕ) → b.params.now ≡ params → b.args.now ≡ args → (8 < length params → HasArguments params args b.arguments) → (v : ℕ) → argument_before b v ≡ argument_of params args v
arguments_are b params args p a table v = ap₂ (λ xs ys. cond (nat_le (length xs) 8) (argument_of xs ys v) (unwrap_or (get nat_cmp b.arguments v) v)) p a ∙ at_test (nat_le (length params) 8) refl
  where
    at_test : (t : Bool) → nat_le (length params) 8 ≡ t → cond t (argument_of params args v) (unwrap_or (get nat_cmp b.arguments v) v) ≡ argument_of params args v
    at_test true e = refl
    at_test false e = table (grind (arith, nat_tests)) v

pub home_step : (stays : ℕ → Bool) (from : ℕ → Place) (vs : List ℕ) (i v : ℕ) (all moves moves' : List Move) → moves ++ home_moves stays from (drop i vs) ≡ all → i < length vs → v ≡ get_or vs i 0 → (b : Bool) → stays v ≡ b → moves' ≡ cond b moves (moves ++ (record { to = Home v; from = from v }) ∷ []) → moves' ++ home_moves stays from (drop (i + 1) vs) ≡ all
home_step stays from vs i v all moves moves' inv lt is true s e =
    ap (λ x. x ++ home_moves stays from (drop (i + 1) vs)) e ∙ sym (ap (λ x. moves ++ home_moves stays from x) (drop_more vs i 0 lt ∙ ap (λ y. y ∷ drop (i + 1) vs) (sym is)) ∙ ap (λ b. moves ++ cond b (home_moves stays from (drop (i + 1) vs)) ((record { to = Home v; from = from v }) ∷ home_moves stays from (drop (i + 1) vs))) s) ∙ inv
home_step stays from vs i v all moves moves' inv lt is false s e =
    ap (λ x. x ++ home_moves stays from (drop (i + 1) vs)) e ∙ append_assoc moves ((record { to = Home v; from = from v }) ∷ []) (home_moves stays from (drop (i + 1) vs))
    ∙ sym (ap (λ x. moves ++ home_moves stays from x) (drop_more vs i 0 lt ∙ ap (λ y. y ∷ drop (i + 1) vs) (sym is)) ∙ ap (λ b. moves ++ cond b (home_moves stays from (drop (i + 1) vs)) ((record { to = Home v; from = from v }) ∷ home_moves stays from (drop (i + 1) vs))) s) ∙ inv
