-- Where a node starts: what is live into it and its parameters that are wanted have places, and nothing else.
use Rattle.std.proofs.Common.{◌≡◌, ℕ, zero, suc, ◌<◌, ◌≤◌, Bool, true, false, ◌&&◌, cond, List, [], ◌∷◌, map, filter, length, replicate, Option, Some, None, refl, sym, ap, ◌∙◌, subst, arith, length-set, ◌⊎◌, inl, inr, ⊎_elim}
use Rattle.std.specs.Prelude.{◌==◌, is_some, slice_get}
use Rattle.std.proofs.lemmas.Bool.{and_parts}
use Rattle.block_runs.specs.Live.{has}
use Rattle.block_runs.specs.Valid.{times}
use Rattle.lir_core.specs.declared.places.Places.{Places}
use Rattle.lir_core.specs.Spots.{reg, home, out, target, saved, get, in_register, placed, IsSingle}
use Rattle.global_live.proofs.Lists.{has-filter, times_of_in}
use Rattle.loc_state.specs.Registers.{register_of, lowest_empty}
use Rattle.loc_state.specs.Homed.{all_inserted}
use Rattle.loc_state.specs.Steps.{places, begun}
use Rattle.loc_state.specs.Walked.{AreValues}
use Rattle.loc_state.proofs.Homing.{has_all_inserted, all_inserted_rises}
use Rattle.loc_state.proofs.Numbers.{numbers_same, test_same, or_rest, register_at, in_register_at, in_row, either, in_reg, in_home}
use Rattle.loc_state.proofs.Keeping.{is_marked}
use Rattle.linear_scan.specs.Policy.{from, is_needed}
use Rattle.linear_scan.specs.Starts.{if_live, only_live, is_empty, param_reg, with_value, with_param, with_params}
use Rattle.linear_scan.proofs.Candidates.{lowest_is}
use Rattle.linear_scan.proofs.Safe.{Safe, safe_defined, safe_homed, safe_less}

---- What is live where it was

plain_or : (a : Bool) → cond a true false ≡ a
plain_or true = refl
plain_or false = refl

has_sorted : (xs : List ℕ) (v : ℕ) → has (all_inserted xs []) v ≡ has xs v
has_sorted xs v = has_all_inserted xs [] v ∙ plain_or (has xs v)

pub get_live : (p : ℕ → Bool) (xs : List (Option ℕ)) (r v : ℕ) → get (map (if_live p) xs) r ≡ Some v → (get xs r ≡ Some v) × (p v ≡ true)
get_live p [] r v e = cc
get_live p (None ∷ xs) zero v e = cc
get_live p (Some u ∷ xs) zero v e = by (p u) refl e
  where
    by : (b : Bool) → p u ≡ b → cond b (Some u) None ≡ Some v → (Some u ≡ Some v) × (p v ≡ true)
    by true q e = let z : u ≡ v = cc in (e, ap p (sym z) ∙ q)
    by false q e = cc
get_live p (None ∷ xs) (suc r) v e = get_live p xs r v e
get_live p (Some u ∷ xs) (suc r) v e = get_live p xs r v e

pub stays_live : (p : ℕ → Bool) (xs : List (Option ℕ)) (r v : ℕ) → get xs r ≡ Some v → p v ≡ true → get (map (if_live p) xs) r ≡ Some v
stays_live p [] r v e q = cc
stays_live p (x ∷ xs) zero v e q = ap (if_live p) e ∙ ap (λ b. cond b (Some v) None) q
stays_live p (x ∷ xs) (suc r) v e q = stays_live p xs r v e q

module _ (p : ℕ → Bool) (q : Places) where
  pub live_placed : (v : ℕ) → placed q v ≡ true → p v ≡ true → placed (only_live p q) v ≡ true
  live_placed v h l = by (either q v h)
    where
      by : (in_register q.regs v ≡ true) ⊎ (has q.homed v ≡ true) → placed (only_live p q) v ≡ true
      by (inl e) = in_reg (only_live p q) v (in_register_at (map (if_live p) q.regs) (register_of v q.regs) v (stays_live p q.regs (register_of v q.regs) v (register_at q.regs v e) l))
      by (inr e) = in_home (only_live p q) v (has_sorted (filter p q.homed) v ∙ has-filter p q.homed v ∙ ap (λ b. b && p v) e ∙ l)

  pub placed_live : (v : ℕ) → placed (only_live p q) v ≡ true → p v ≡ true
  placed_live v h = by (either (only_live p q) v h)
    where
      by : (in_register (map (if_live p) q.regs) v ≡ true) ⊎ (has (all_inserted (filter p q.homed) []) v ≡ true) → p v ≡ true
      by (inl e) = (get_live p q.regs (register_of v (map (if_live p) q.regs)) v (register_at (map (if_live p) q.regs) v e)).1
      by (inr e) = (and_parts (has q.homed v) (p v) (sym (has-filter p q.homed v) ∙ sym (has_sorted (filter p q.homed) v) ∙ e)).1

  -- places for all that is live
  pub only_live_safe : (live : ℕ → Bool) (Known : ℕ → Type 0) → IsSingle q.regs → ((v : ℕ) → live v ≡ true → (placed q v ≡ true) × (p v ≡ true)) → ((v : ℕ) → p v ≡ true → Known v) → Safe live Known (only_live p q)
  only_live_safe live Known single on knows = record {
    covers = λ v h. let m = on v h in live_placed v m.0 m.1;
    single = λ r t v e f. single r t v (get_live p q.regs r v e).0 (get_live p q.regs t v f).0;
    rising = all_inserted_rises (filter p q.homed) [] tt;
    known = λ v h. knows v (placed_live v h);
  }

pub get_none : (n r v : ℕ) → get (replicate n None) r ≡ Some v → ⊥
get_none zero r v e = cc
get_none (suc n) zero v e = cc
get_none (suc n) (suc r) v e = get_none n r v e

pub in_none : (n v : ℕ) → in_register (replicate n None) v ≡ true → ⊥
in_none zero v e = cc
in_none (suc n) v e = in_none n v e

pub homed_safe : (k : ℕ) (vs : List ℕ) (live : ℕ → Bool) (Known : ℕ → Type 0) → ((v : ℕ) → live v ≡ true → has vs v ≡ true) → ((v : ℕ) → has vs v ≡ true → Known v) → Safe live Known (record { regs = replicate k None; homed = all_inserted vs [] })
homed_safe k vs live Known on knows = record {
  covers = λ v h. in_home (record { regs = replicate k None; homed = all_inserted vs [] }) v (has_sorted vs v ∙ on v h);
  single = λ r t v e f. absurd (get_none k r v e);
  rising = all_inserted_rises vs [] tt;
  known = λ v h. by v (either (record { regs = replicate k None; homed = all_inserted vs [] }) v h);
}
  where
    by : (v : ℕ) → (in_register (replicate k None) v ≡ true) ⊎ (has (all_inserted vs []) v ≡ true) → Known v
    by v (inl e) = absurd (in_none k v e)
    by v (inr e) = knows v (sym (has_sorted vs v) ∙ e)

---- Parameters

-- a register that is found is empty
reg_is : (hint : List (Option ℕ)) (a : Option ℕ) (regs : List (Option ℕ)) (r : ℕ) → length hint ≤ length regs → param_reg hint a regs ≡ Some r → (r < length regs) × (get regs r ≡ None)
reg_is hint None regs r l e = lowest_is regs r e
reg_is hint (Some a) regs r l e = by (in_register hint a) refl (get regs (register_of a hint)) refl e
  where
    by : (b : Bool) → in_register hint a ≡ b → (o : Option ℕ) → get regs (register_of a hint) ≡ o → cond (b && is_empty o) (Some (register_of a hint)) (lowest_empty 0 regs) ≡ Some r → (r < length regs) × (get regs r ≡ None)
    by true h None g e = let q : register_of a hint ≡ r = cc in let m = in_row hint (register_of a hint) a (register_at hint a h) in (omega (arith, q, m, l), ap (get regs) (sym q) ∙ g)
    by true h (Some u) g e = lowest_is regs r e
    by false h o g e = lowest_is regs r e

module _ (need : ℕ → ℕ → Option ℕ) (p : ℕ) (live : ℕ → Bool) (Known : ℕ → Type 0) (hint : List (Option ℕ)) (args : List ℕ) where
  -- what lives and is none of the parameters that are to come, and what is known and is none of them
  abbrev Left : List ℕ → ℕ → Bool
  Left vs v = cond (has vs v) false (live v)

  abbrev Old : List ℕ → ℕ → Type 0
  Old vs v = Known v × (has vs v ≡ false)

  pub params_safe : (vs : List ℕ) (i : ℕ) (q : Places) → length hint ≤ length q.regs → ((v : ℕ) → times vs v ≤ 1) → ((v : ℕ) → has vs v ≡ true → live v ≡ true → is_needed need p v ≡ true) → ((v : ℕ) → has vs v ≡ true → is_needed need p v ≡ true → Known v) → Safe (Left vs) (Old vs) q
      → Safe live Known (with_params (from need p) hint args i vs q) × (length (with_params (from need p) hint args i vs q).regs ≡ length q.regs)
  params_safe [] i q l once want know s = (safe_less (Left []) (Old []) q s live Known (λ v h. h) (λ v k. k.0), refl)
  params_safe (v ∷ vs) i q l once want know s =
      let one = by (is_some (need v p)) refl in
      let rest = params_safe vs (suc i) (with_param (from need p) v (param_reg hint (slice_get args i) q.regs) q) (let m = one.1 in omega (arith, l, m)) (λ w. let o = once w in few (v == w) w o) (λ w h. want w (or_rest (v == w) (has vs w) h)) (λ w h. know w (or_rest (v == w) (has vs w) h)) one.0 in
      (rest.0, rest.1 ∙ one.1)
    where
      few : (b : Bool) (w : ℕ) → cond b (suc (times vs w)) (times vs w) ≤ 1 → times vs w ≤ 1
      few true w h = omega (arith, h)
      few false w h = h

      here : has (v ∷ vs) v ≡ true
      here = ap (λ b. cond b true (has vs v)) (test_same v)

      not_again : has vs v ≡ false
      not_again = at (has vs v) refl
        where
          at : (b : Bool) → has vs v ≡ b → b ≡ false
          at false e = refl
          at true e = let a = times_of_in vs v e in let o = once v in let c = ap (λ b. cond b (suc (times vs v)) (times vs v)) (test_same v) in absurd (omega (arith, a, o, c))

      left_on : (w : ℕ) → Left vs w ≡ true → (w ≡ v) ⊎ (Left (v ∷ vs) w ≡ true)
      left_on w h = at (v == w) refl
        where
          at : (b : Bool) → (v == w) ≡ b → (w ≡ v) ⊎ (cond (cond (v == w) true (has vs w)) false (live w) ≡ true)
          at true e = inl (sym (numbers_same v w e))
          at false e = inr (ap (λ b. cond (cond b true (has vs w)) false (live w)) e ∙ h)

      old_less : (w : ℕ) → Old (v ∷ vs) w → Old vs w
      old_less w k = (k.0, at (v == w) k.1)
        where
          at : (b : Bool) → cond b true (has vs w) ≡ false → has vs w ≡ false
          at true e = cc
          at false e = e

      knows : is_needed need p v ≡ true → (w : ℕ) → (w ≡ v) ⊎ Old (v ∷ vs) w → Old vs w
      knows n w (inl e) = (subst Known (sym e) (know v here n), ap (has vs) e ∙ not_again)
      knows n w (inr k) = old_less w k

      new : placed q v ≡ false
      new = at (placed q v) refl
        where
          at : (b : Bool) → placed q v ≡ b → b ≡ false
          at false e = refl
          at true e = let k = s.known v e in let z : true ≡ false = sym here ∙ k.1 in cc

      by_reg : is_needed need p v ≡ true → (o : Option ℕ) → param_reg hint (slice_get args i) q.regs ≡ o → Safe (Left vs) (Old vs) (with_value v o q) × (length (with_value v o q).regs ≡ length q.regs)
      by_reg n (Some r) e = let m = reg_is hint (slice_get args i) q.regs r l e in (safe_defined (Left (v ∷ vs)) (Old (v ∷ vs)) q s (Left vs) (Old vs) r v m.0 m.1 new left_on (knows n), length-set q.regs r (Some v))
      by_reg n None e = (safe_homed (Left (v ∷ vs)) (Old (v ∷ vs)) q s (Left vs) (Old vs) v left_on (knows n), refl)

      dead_out : is_needed need p v ≡ false → (w : ℕ) → Left vs w ≡ true → Left (v ∷ vs) w ≡ true
      dead_out d w h = ⊎_elim (λ e. absurd (dead e)) (λ k. k) (left_on w h)
        where
          live_it : (b : Bool) → cond b false (live w) ≡ true → live w ≡ true
          live_it true e = cc
          live_it false e = e

          dead : (w ≡ v) → ⊥
          dead e = let a : is_needed need p v ≡ true = want v here (ap live (sym e) ∙ live_it (has vs w) h) in let z : true ≡ false = sym a ∙ d in cc

      by : (b : Bool) → is_some (need v p) ≡ b → Safe (Left vs) (Old vs) (cond b (with_value v (param_reg hint (slice_get args i) q.regs) q) q) × (length (cond b (with_value v (param_reg hint (slice_get args i) q.regs) q) q).regs ≡ length q.regs)
      by true n = by_reg n (param_reg hint (slice_get args i) q.regs) refl
      by false d = (safe_less (Left (v ∷ vs)) (Old (v ∷ vs)) q s (Left vs) (Old vs) (dead_out d) old_less, refl)

---- What places name

pub are_values : (values : ℕ) (q : Places) → ((v : ℕ) → placed q v ≡ true → v < values) → AreValues values q
are_values values q h (reg r) v e = h v (in_reg q v (in_register_at q.regs r v e))
are_values values q h (home x) v e = let m = is_marked (has q.homed x) x v e in h v (in_home q v (ap (has q.homed) (sym m.1) ∙ m.0))
are_values values q h (out s) v e = cc
are_values values q h target v e = cc
are_values values q h saved v e = cc

-- a node that is begun has its places
pub begun_safe : (live : ℕ → Bool) (Known : ℕ → Type 0) (q : Places) → Safe live Known q → Safe live Known (places (begun q))
begun_safe live Known q s = record {
  covers = λ v h. there v (either q v (s.covers v h));
  single = s.single;
  rising = all_inserted_rises q.homed [] tt;
  known = λ v h. s.known v (back v (either (places (begun q)) v h));
}
  where
    there : (v : ℕ) → (in_register q.regs v ≡ true) ⊎ (has q.homed v ≡ true) → placed (places (begun q)) v ≡ true
    there v (inl e) = in_reg (places (begun q)) v e
    there v (inr e) = in_home (places (begun q)) v (has_sorted q.homed v ∙ e)

    back : (v : ℕ) → (in_register q.regs v ≡ true) ⊎ (has (all_inserted q.homed []) v ≡ true) → placed q v ≡ true
    back v (inl e) = in_reg q v e
    back v (inr e) = in_home q v (sym (has_sorted q.homed v) ∙ e)
