-- Holes in order, one after the other.
use Rattle.std.proofs.Common.{◌≡◌, ℕ, suc, ◌+◌, ◌<◌, ◌≤◌, List, [], ◌∷◌, ◌++◌, length, refl, arith, ap, ◌∙◌, subst, append_assoc}
use Rattle.std.specs.Prelude.{slice_set, Result, OnOk, Ok, Err}
use Rattle.run_laws.specs.Layers.{spread}
use Rattle.a64_table.specs.Table.{word_of}
use Rattle.procedure_pieces.specs.Pieces.{Hole, put_in, all_filled}
use Rattle.procedure_pieces.specs.Claims.{AreInOrder}
use Rattle.procedure_pieces.proofs.Ordered.{in_order_sooner}
use Rattle.procedure_code.specs.Joined.{filled_at}

pub in_order_room : (a b : ℕ) (hs : List Hole) → AreInOrder a b hs → a ≤ b
in_order_room a b [] r = r
in_order_room a b (h ∷ hs) r = let s = r.0 in let t = in_order_room (suc h.at) b hs r.1 in omega (arith, s, t)

pub next_in_order : (a b : ℕ) (h : Hole) (hs all : List Hole) → all ≡ h ∷ hs → AreInOrder a b all → (h.at < b) × AreInOrder 0 b hs
next_in_order a b h hs all e r =
    let r' : AreInOrder a b (h ∷ hs) = subst (AreInOrder a b) e r in
    let t = in_order_room (suc h.at) b hs r'.1 in
    (omega (arith, t), in_order_sooner 0 (suc h.at) b hs (omega arith) r'.1)

-- one more item's holes, or other contents
pub holes_more : {A X : Type 0} (h : ℕ → ℕ → A → List X) (width : ℕ → A → ℕ) (j i n m : ℕ) (x : A) (xs : List A) (old new all : List X) → i ≡ suc j → m ≡ n + width j x → new ≡ old ++ h j n x
    → old ++ spread h width j n (x ∷ xs) ≡ all → new ++ spread h width i m xs ≡ all
holes_more h width j i n m x xs old new all is next e inv =
    let rest = spread h width (suc j) (n + width j x) xs in
    ap (λ a. new ++ spread h width a m xs) is
    ∙ ap (λ a. new ++ spread h width (suc j) a xs) next
    ∙ ap (λ l. l ++ rest) e
    ∙ append_assoc old (h j n x) rest ∙ inv

pub on_ok_so : {A E : Type 0} (P : Type 0) (r : Result A E) → P → OnOk r P
on_ok_so P (Ok x) p = p
on_ok_so P (Err e) p = tt

set_behind : (before ws : List ℕ) (n w : ℕ) → slice_set (before ++ ws) (length before + n) w ≡ before ++ slice_set ws n w
set_behind [] ws n w = let z : 0 + n ≡ n = omega arith in ap (λ m. slice_set ws m w) z
set_behind (b ∷ before) ws n w =
    let z : length (b ∷ before) + n ≡ suc (length before + n) = omega arith in
    ap (λ m. slice_set (b ∷ (before ++ ws)) m w) z ∙ ap (λ l. b ∷ l) (set_behind before ws n w)

-- holes filled among all words
pub filled_behind : (entry : ℕ → ℕ) (start k : ℕ) (hs : List Hole) (before ws : List ℕ) → k ≡ length before → filled_at entry start k hs (before ++ ws) ≡ before ++ all_filled entry start k hs ws
filled_behind entry start k [] before ws e = refl
filled_behind entry start k (h ∷ hs) before ws e =
    let w = word_of (put_in entry start (k + h.at) h.what) in
    ap (λ l. filled_at entry start k hs l) (ap (λ m. slice_set (before ++ ws) (m + h.at) w) e ∙ set_behind before ws h.at w)
    ∙ filled_behind entry start k hs before (slice_set ws h.at w) e
