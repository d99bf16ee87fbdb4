-- Each procedure begins behind all those before it.
use Rattle.std.proofs.Common.{◌≡◌, ℕ, zero, suc, ◌+◌, ◌<◌, ◌≤◌, List, [], ◌∷◌, ◌++◌, length, Bool, true, false, refl, ap, arith, length-append}
use Rattle.std.specs.Prelude.{nat_lt}
use Rattle.std.proofs.lemmas.Bool.{ltb-true}
use Rattle.std.proofs.lemmas.Bool.Decides.{nat_tests}
use Rattle.run_laws.specs.Layers.{width_before, whole_width}
use Rattle.run_laws.proofs.Rows.{width_before-next}
use Rattle.placed_code.specs.Placed.{Placed, no_procedure, proc_of}
use Rattle.placed_code.specs.Words.{depth_words, frame_words, local_words, frame_of}
use Rattle.placed_code.specs.Layout.{proc_width, all_words, entry}
use Rattle.placed_code.specs.Claims.{sizes}
use Rattle.placed_code.proofs.Linking.{nth, get_of_drop, all_size}

-- a procedure has three words at least
pub wide : (p : ℕ) (pr : Placed) → 3 ≤ proc_width p pr
wide p pr =
    let a = length-append (depth_words pr.counted) (frame_words (frame_of pr) pr.outs ++ local_words pr.cells pr.bytes) in
    omega (arith, a)

pub rises : (j : ℕ) (ps : List Placed) (p q : ℕ) → p < q → q ≤ length ps → width_before proc_width j ps p < width_before proc_width j ps q
rises j [] p q l m = absurd (omega (arith, l, m))
rises j (x ∷ ps) p zero l m = absurd (omega (arith, l))
rises j (x ∷ ps) zero (suc q) l m = let w = wide j x in omega (arith, w)
rises j (x ∷ ps) (suc p) (suc q) l m = let l' : p < q = omega (arith, l) in let m' : q ≤ length ps = omega (arith, m) in let r = rises (suc j) ps p q l' m' in omega (arith, r)

within : (j : ℕ) (ps : List Placed) (p : ℕ) → p < length ps → width_before proc_width j ps p < whole_width proc_width j ps
within j [] p l = absurd (omega (arith, l))
within j (x ∷ ps) zero l = let w = wide j x in omega (arith, w)
within j (x ∷ ps) (suc p) l = let l' : p < length ps = omega (arith, l) in let r = within (suc j) ps p l' in omega (arith, r)

pub entry_rises : (ps : List Placed) (p q : ℕ) → p < q → q ≤ length ps → entry ps p < entry ps q
entry_rises ps p q l m = let r = rises 0 ps p q l m in omega (arith, r)

pub entry_le : (ps : List Placed) (p q : ℕ) → p ≤ q → q ≤ length ps → entry ps p ≤ entry ps q
entry_le ps p q l m = by_test (nat_lt p q) refl
  where
    by_test : (b : Bool) → nat_lt p q ≡ b → entry ps p ≤ entry ps q
    by_test true e = let r = entry_rises ps p q (ltb-true p q e) m in omega (arith, r)
    by_test false e = let n : q ≤ p = grind (arith, nat_tests) in let same : p ≡ q = omega (arith, l, n) in let z = ap (entry ps) same in omega (arith, z)

pub entry_within : (ps : List Placed) (p : ℕ) → p < length ps → entry ps p < length (all_words ps)
entry_within ps p l = let w = within 0 ps p l in let s = all_size ps in omega (arith, w, s)

-- a procedure ends where the next one begins
pub entry_next : (ps : List Placed) (p : ℕ) → p < length ps → entry ps (suc p) ≡ entry ps p + sizes ps p
entry_next ps p l =
    let r = nth ps p l in
    let n = width_before-next proc_width 0 ps p r.item r.rest r.drops in
    let is : proc_of ps p ≡ r.item = get_of_drop ps p no_procedure r.item r.rest r.drops in
    let w : sizes ps p ≡ proc_width (0 + p) r.item = ap (λ (x : Placed). proc_width p x) is in
    omega (arith, n, w)
