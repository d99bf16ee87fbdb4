-- Values of variables: what a map of values says of them, and how joins renew them.
use Rattle.std.proofs.Common.{◌≡◌, ◌≢◌, ℕ, zero, suc, ◌<◌, ◌≤◌, List, [], ◌∷◌, map, length, Bool, true, false, cond, nat_eq, slice_index, slice_set, refl, sym, ap, ap₂, ◌∙◌, arith, eq-eqb, ne_eqb}
use Rattle.block_runs.specs.Steps.{set, set_all}
use Rattle.ssa_lowered.specs.Pieces.{params, merged, beyond, picked}

-- a map of values with one more, and with a block.s parameters
abbrev pub put : ℕ → ℕ → (ℕ → ℕ) → ℕ → ℕ
put d x f = set f d x

abbrev pub enter : List ℕ → List ℕ → (ℕ → ℕ) → ℕ → ℕ
enter ps xs f = set_all ps xs f

-- all numbers are below v
abbrev pub Under : ℕ → List ℕ → Type 0
Under v [] = Unit {0}
Under v (u ∷ us) = (u < v) × Under v us

-- two maps are the same below v
abbrev pub Same : ℕ → (ℕ → ℕ) → (ℕ → ℕ) → Type 0
Same v f g = (u : ℕ) → u < v → g u ≡ f u

-- two environments are the same at variables that do not change
pub record Off (mask : ℕ → Bool) (old new : List ℕ) : Type 0 where
  pub size : length new ≡ length old
  pub at : (x : ℕ) → mask x ≡ false → slice_index new x ≡ slice_index old x

pub put_here : (d x : ℕ) (f : ℕ → ℕ) → put d x f d ≡ x
put_here d x f = ap (λ b. cond b x (f d)) (eq-eqb d d refl)

pub put_else : (d x : ℕ) (f : ℕ → ℕ) (u : ℕ) → u ≢ d → put d x f u ≡ f u
put_else d x f u ne = ap (λ b. cond b x (f u)) (ne_eqb u d ne)

pub put_same : (v d x : ℕ) (f : ℕ → ℕ) → v ≤ d → Same v f (put d x f)
put_same v d x f le u lt = put_else d x f u (λ e. absurd (omega (arith, e, lt, le)))

pub same_on : (v w : ℕ) (f g k : ℕ → ℕ) → v ≤ w → Same v f g → Same w g k → Same v f k
same_on v w f g k le a b u lt = b u (omega (arith, lt, le)) ∙ a u lt

pub under_more : (v w : ℕ) (us : List ℕ) → v ≤ w → Under v us → Under w us
under_more v w [] le h = tt
under_more v w (u ∷ us) le h = let a = h.0 in (omega (arith, a, le), under_more v w us le h.1)

pub map_same : (v : ℕ) (us : List ℕ) (f g : ℕ → ℕ) → Under v us → Same v f g → map g us ≡ map f us
map_same v [] f g h s = refl
map_same v (u ∷ us) f g h s = ap₂ (λ a b. a ∷ b) (s u h.0) (map_same v us f g h.1 s)

pub under_at : (v : ℕ) (us : List ℕ) (x : ℕ) → x < length us → Under v us → slice_index us x < v
under_at v [] x lt h = absurd (omega (arith, lt))
under_at v (u ∷ us) zero lt h = h.0
under_at v (u ∷ us) (suc x) lt h = under_at v us x (omega (arith, lt)) h.1

pub map_at : (f : ℕ → ℕ) (us : List ℕ) (x : ℕ) → x < length us → slice_index (map f us) x ≡ f (slice_index us x)
map_at f [] x lt = absurd (omega (arith, lt))
map_at f (u ∷ us) zero lt = refl
map_at f (u ∷ us) (suc x) lt = map_at f us x (omega (arith, lt))

pub map_set : (f : ℕ → ℕ) (us : List ℕ) (x r : ℕ) → map f (slice_set us x r) ≡ slice_set (map f us) x (f r)
map_set f [] x r = refl
map_set f (u ∷ us) zero r = refl
map_set f (u ∷ us) (suc x) r = ap (λ t. f u ∷ t) (map_set f us x r)

pub under_set : (v : ℕ) (us : List ℕ) (x r : ℕ) → Under v us → r < v → Under v (slice_set us x r)
under_set v [] x r h lt = tt
under_set v (u ∷ us) zero r h lt = (lt, h.1)
under_set v (u ∷ us) (suc x) r h lt = (h.0, under_set v us x r h.1 lt)

pub size_set : (us : List ℕ) (x r : ℕ) → length (slice_set us x r) ≡ length us
size_set [] x r = refl
size_set (u ∷ us) zero r = refl
size_set (u ∷ us) (suc x) r = let e = size_set us x r in omega (arith, e)

pub set_else : (us : List ℕ) (x r y : ℕ) → x ≢ y → slice_index (slice_set us x r) y ≡ slice_index us y
set_else [] x r y ne = refl
set_else (u ∷ us) zero r zero ne = absurd (ne refl)
set_else (u ∷ us) zero r (suc y) ne = refl
set_else (u ∷ us) (suc x) r zero ne = refl
set_else (u ∷ us) (suc x) r (suc y) ne = set_else us x r y (λ e. ne (ap suc e))

pub differs : (x y : ℕ) → nat_eq x y ≡ false → x ≢ y
differs x y h e = absurd (let t = eq-eqb x y e in cc)

pub off_refl : (mask : ℕ → Bool) (us : List ℕ) → Off mask us us
off_refl mask us = record { size = refl; at = λ x h. refl }

pub off_on : (mask : ℕ → Bool) (us vs ws : List ℕ) → Off mask us vs → Off mask vs ws → Off mask us ws
off_on mask us vs ws a b = record { size = b.size ∙ a.size; at = λ x h. b.at x h ∙ a.at x h }

pub off_tail : (mask : ℕ → Bool) (u v : ℕ) (us vs : List ℕ) → Off mask (u ∷ us) (v ∷ vs) → Off (λ x. mask (suc x)) us vs
off_tail mask u v us vs a = let e = a.size in record { size = omega (arith, e); at = λ x h. a.at (suc x) h }

pub off_more : (few many : ℕ → Bool) (us vs : List ℕ) → ((x : ℕ) → many x ≡ false → few x ≡ false) → Off few us vs → Off many us vs
off_more few many us vs less a = record { size = a.size; at = λ x h. a.at x (less x h) }

pub size_merged : (mask : ℕ → Bool) (v : ℕ) (us : List ℕ) → length (merged mask v us) ≡ length us
size_merged mask v [] = refl
size_merged mask v (u ∷ us) = by (mask 0) (size_merged (λ x. mask (suc x)) (suc v) us) (size_merged (λ x. mask (suc x)) v us)
  where
    by : (b : Bool) → length (merged (λ x. mask (suc x)) (suc v) us) ≡ length us → length (merged (λ x. mask (suc x)) v us) ≡ length us → length (cond b (v ∷ merged (λ x. mask (suc x)) (suc v) us) (u ∷ merged (λ x. mask (suc x)) v us)) ≡ length (u ∷ us)
    by true e f = omega (arith, e)
    by false e f = omega (arith, f)

pub beyond_more : (mask : ℕ → Bool) (v : ℕ) (us : List ℕ) → v ≤ beyond mask v us
beyond_more mask v [] = omega arith
beyond_more mask v (u ∷ us) = by (mask 0) (beyond_more (λ x. mask (suc x)) (suc v) us) (beyond_more (λ x. mask (suc x)) v us)
  where
    by : (b : Bool) → suc v ≤ beyond (λ x. mask (suc x)) (suc v) us → v ≤ beyond (λ x. mask (suc x)) v us → v ≤ cond b (beyond (λ x. mask (suc x)) (suc v) us) (beyond (λ x. mask (suc x)) v us)
    by true e f = omega (arith, e)
    by false e f = f

pub under_merged : (mask : ℕ → Bool) (v : ℕ) (us : List ℕ) → Under v us → Under (beyond mask v us) (merged mask v us)
under_merged mask v [] h = tt
under_merged mask v (u ∷ us) h =
    by (mask 0) (under_merged (λ x. mask (suc x)) (suc v) us (under_more v (suc v) us (omega arith) h.1)) (under_merged (λ x. mask (suc x)) v us h.1) h.0
  where
    by : (b : Bool) → Under (beyond (λ x. mask (suc x)) (suc v) us) (merged (λ x. mask (suc x)) (suc v) us) → Under (beyond (λ x. mask (suc x)) v us) (merged (λ x. mask (suc x)) v us) → u < v → Under (cond b (beyond (λ x. mask (suc x)) (suc v) us) (beyond (λ x. mask (suc x)) v us)) (cond b (v ∷ merged (λ x. mask (suc x)) (suc v) us) (u ∷ merged (λ x. mask (suc x)) v us))
    by true e f lt = (let m = beyond_more (λ x. mask (suc x)) (suc v) us in omega (arith, m), e)
    by false e f lt = (let m = beyond_more (λ x. mask (suc x)) v us in omega (arith, m, lt), f)

merged_at : (mask : ℕ → Bool) (v : ℕ) (us : List ℕ) (x : ℕ) → mask x ≡ false → slice_index (merged mask v us) x ≡ slice_index us x
merged_at mask v [] x h = refl
merged_at mask v (u ∷ us) zero h = ap (λ b. slice_index (cond b (v ∷ merged (λ x. mask (suc x)) (suc v) us) (u ∷ merged (λ x. mask (suc x)) v us)) 0) h
merged_at mask v (u ∷ us) (suc x) h = by (mask 0) (merged_at (λ x. mask (suc x)) (suc v) us x h) (merged_at (λ x. mask (suc x)) v us x h)
  where
    by : (b : Bool) → slice_index (merged (λ x. mask (suc x)) (suc v) us) x ≡ slice_index us x → slice_index (merged (λ x. mask (suc x)) v us) x ≡ slice_index us x → slice_index (cond b (v ∷ merged (λ x. mask (suc x)) (suc v) us) (u ∷ merged (λ x. mask (suc x)) v us)) (suc x) ≡ slice_index us x
    by true e f = e
    by false e f = f

pub off_merged : (mask : ℕ → Bool) (v : ℕ) (us : List ℕ) → Off mask us (merged mask v us)
off_merged mask v us = record { size = size_merged mask v us; at = λ x h. merged_at mask v us x h }

-- entering a block changes nothing below its parameters
pub enter_same : (mask : ℕ → Bool) (v : ℕ) (us xs : List ℕ) (f : ℕ → ℕ) → Same v f (enter (params mask v us) xs f)
enter_same mask v [] xs f = λ u lt. refl
enter_same mask v (u ∷ us) xs f = by (mask 0) xs (λ xs. enter_same (λ x. mask (suc x)) (suc v) us xs f) (λ xs. enter_same (λ x. mask (suc x)) v us xs f)
  where
    by : (b : Bool) (xs : List ℕ) → ((xs : List ℕ) → Same (suc v) f (enter (params (λ x. mask (suc x)) (suc v) us) xs f)) → ((xs : List ℕ) → Same v f (enter (params (λ x. mask (suc x)) v us) xs f)) → Same v f (enter (cond b (v ∷ params (λ x. mask (suc x)) (suc v) us) (params (λ x. mask (suc x)) v us)) xs f)
    by true [] e g = λ u lt. refl
    by true (x ∷ xs) e g = λ u lt. put_else v x (enter (params (λ x. mask (suc x)) (suc v) us) xs f) u (λ q. absurd (omega (arith, q, lt))) ∙ e xs u (omega (arith, lt))
    by false xs e g = g xs

abbrev Apart : ℕ → List ℕ → Type 0
Apart v [] = Unit {0}
Apart v (u ∷ us) = (u ≢ v) × Apart v us

merged_apart : (mask : ℕ → Bool) (v w : ℕ) (us : List ℕ) → v < w → Under v us → Apart v (merged mask w us)
merged_apart mask v w [] lt h = tt
merged_apart mask v w (u ∷ us) lt h =
    by (mask 0) (merged_apart (λ x. mask (suc x)) v (suc w) us (omega (arith, lt)) h.1) (merged_apart (λ x. mask (suc x)) v w us lt h.1) h.0
  where
    by : (b : Bool) → Apart v (merged (λ x. mask (suc x)) (suc w) us) → Apart v (merged (λ x. mask (suc x)) w us) → u < v → Apart v (cond b (w ∷ merged (λ x. mask (suc x)) (suc w) us) (u ∷ merged (λ x. mask (suc x)) w us))
    by true e f below = ((λ q. absurd (omega (arith, q, lt))), e)
    by false e f below = ((λ q. absurd (omega (arith, q, below))), f)

map_apart : (v x : ℕ) (g : ℕ → ℕ) (us : List ℕ) → Apart v us → map (put v x g) us ≡ map g us
map_apart v x g [] h = refl
map_apart v x g (u ∷ us) h = ap₂ (λ a b. a ∷ b) (put_else v x g u h.0) (map_apart v x g us h.1)

-- what the parameters get is what the variables have
pub enter_merged : (mask : ℕ → Bool) (v : ℕ) (us ws : List ℕ) (f : ℕ → ℕ) → Off mask us ws → Under v us → map (enter (params mask v us) (map f (picked mask ws)) f) (merged mask v us) ≡ map f ws
enter_merged mask v [] [] f o h = refl
enter_merged mask v [] (w ∷ ws) f o h = let e = o.size in absurd (omega (arith, e))
enter_merged mask v (u ∷ us) [] f o h = let e = o.size in absurd (omega (arith, e))
enter_merged mask v (u ∷ us) (w ∷ ws) f o h =
    by (mask 0) refl
    (enter_merged (λ x. mask (suc x)) (suc v) us ws f (off_tail mask u w us ws o) (under_more v (suc v) us (omega arith) h.1))
    (enter_merged (λ x. mask (suc x)) v us ws f (off_tail mask u w us ws o) h.1)
  where
    by : (b : Bool) → mask 0 ≡ b
        → map (enter (params (λ x. mask (suc x)) (suc v) us) (map f (picked (λ x. mask (suc x)) ws)) f) (merged (λ x. mask (suc x)) (suc v) us) ≡ map f ws
        → map (enter (params (λ x. mask (suc x)) v us) (map f (picked (λ x. mask (suc x)) ws)) f) (merged (λ x. mask (suc x)) v us) ≡ map f ws
        → map (enter (cond b (v ∷ params (λ x. mask (suc x)) (suc v) us) (params (λ x. mask (suc x)) v us)) (map f (cond b (w ∷ picked (λ x. mask (suc x)) ws) (picked (λ x. mask (suc x)) ws))) f) (cond b (v ∷ merged (λ x. mask (suc x)) (suc v) us) (u ∷ merged (λ x. mask (suc x)) v us)) ≡ map f (w ∷ ws)
    by true is e g =
        let k = enter (params (λ x. mask (suc x)) (suc v) us) (map f (picked (λ x. mask (suc x)) ws)) f in
        ap₂ (λ a b. a ∷ b) (put_here v (f w) k) (map_apart v (f w) k (merged (λ x. mask (suc x)) (suc v) us) (merged_apart (λ x. mask (suc x)) v (suc v) us (omega arith) h.1) ∙ e)
    by false is e g =
        ap₂ (λ a b. a ∷ b) (enter_same (λ x. mask (suc x)) v us (map f (picked (λ x. mask (suc x)) ws)) f u h.0 ∙ ap f (sym (o.at 0 is))) g
