-- What is read is spelled so, and what is spelled so is read again: for numbers, and for what is put together.
use Rattle.std.proofs.Common.{◌≡◌, ℕ, zero, suc, ◌+◌, ◌^◌, ◌<◌, ◌≤◌, Bool, true, false, cond, ltb, List, [], ◌∷◌, ◌++◌, length, take, drop, Result, Ok, Err, refl, sym, ap, subst, ◌∙◌, append_assoc, arith, inl, inr}
use Rattle.std.specs.Prelude.{nat_le}
use Rattle.std.specs.List.{flat_map, AllByRecursion}
use Rattle.std.specs.Int.{w32, from_le_bytes}
use Rattle.std.proofs.lemmas.Bool.{cases_lt, ltb-false, le-ltb, leb-true, le-leb}
use Rattle.std.proofs.lemmas.List.{take_at, drop_at, take-append-drop, length-append, length-take, get_or-drop, get_or-take, get_or_past}
use Rattle.std.proofs.lemmas.List.Concat.{flat_map-cons}
use Rattle.std.proofs.lemmas.List.Elements.{All-from_recursion, recursion_from_All}
use Rattle.std.proofs.lemmas.Nat.{le_bytes_4, from_le_bytes-to_le_bytes_4}
use Rattle.plain_form.specs.declared.fault.FormRule.TheVariants.{Missing}
use Rattle.plain_form.specs.Spelling.{number, list, IsNumber, KeepsList}
use Rattle.plain_form.specs.Reading.{Broken, Reading, ◌>>=◌, missing, out_of_range, number_at, up_to_at, several, list_at}
use Rattle.plain_form.specs.Formats.{IsBytes, Takes, IsFormat}

IsBytes-drop : (n : ℕ) (bytes : List ℕ) → IsBytes bytes → IsBytes (drop n bytes)
IsBytes-drop n bytes h i = rw get_or-drop (h (n + i))

IsBytes-take : (n : ℕ) (bytes : List ℕ) → IsBytes bytes → IsBytes (take n bytes)
IsBytes-take n bytes h i =
    elim (cases_lt i n) [
      | inl lt ↦ rw (get_or-take n bytes i 0 lt) (h i)
      | inr le ↦ rw (get_or_past (take n bytes) i 0 (omega (arith, length-take n bytes))) (omega arith)
    ]

pub bind_ok : {A B : Type 0} (r : Result A Broken) (f : A → Result B Broken) (y : B) → (r >>= f) ≡ Ok y → (x : A) × (r ≡ Ok x) × (f x ≡ Ok y)
bind_ok (Ok x) f y e = (x, refl, e)
bind_ok (Err d) f y e = absurd cc

pub bind_of : {A B : Type 0} (r : Result A Broken) (f : A → Result B Broken) (x : A) → r ≡ Ok x → (r >>= f) ≡ f x
bind_of r f x e = ap (λ s. s >>= f) e

abbrev pub give : {X : Type 0} → X → List ℕ → Result (X × List ℕ) Broken
give x rest = Ok (x, rest)

guard_ok : {A : Type 0} (b : Bool) (d : Result A Broken) (x y : A) → cond b (Ok x) d ≡ Ok y → (d ≡ Ok y → ⊥) → (b ≡ true) × (x ≡ y)
guard_ok true d x y e h = (refl, cc)
guard_ok false d x y e h = absurd (h e)

guard_not : {A : Type 0} (b : Bool) (d : Broken) (x y : A) → cond b (Err d) (Ok x) ≡ Ok y → (b ≡ false) × (x ≡ y)
guard_not true d x y e = absurd cc
guard_not false d x y e = (refl, cc)

abbrev pub done : {A : Type 0} → A → Result A Broken
done x = Ok x

pub ok_is : {A : Type 0} (x y : A) → done x ≡ done y → x ≡ y
ok_is x y e = cc

pub takes_then : (a x b y c : List ℕ) → Takes a x b → Takes b y c → Takes a (x ++ y) c
takes_then a x b y c p q = record { parts = p.parts ∙ ap (λ (t : List ℕ). x ++ t) q.parts ∙ sym (append_assoc x y c); rest_fits = q.rest_fits }

---- Numbers

number_takes : (total : ℕ) (bytes : List ℕ) (n : ℕ) (rest : List ℕ) → IsBytes bytes → number_at total bytes ≡ Ok (n, rest) → Takes bytes (number n) rest × IsNumber n
unfolding number_at number
number_takes total bytes n rest fits e =
    let g = guard_not (ltb (length bytes) 4) (record { rule = Missing; at = total }) (from_le_bytes w32 (take 4 bytes), drop 4 bytes) (n, rest) e in
    let long : 4 ≤ length bytes = ltb-false _ _ g.0 in
    let n-is : from_le_bytes w32 (take 4 bytes) ≡ n = ap (λ (p : ℕ × List ℕ). p.0) g.1 in
    let rest-is : drop 4 bytes ≡ rest = ap (λ (p : ℕ × List ℕ). p.1) g.1 in
    let few : length (take 4 bytes) ≡ 4 = omega (arith, length-take 4 bytes) in
    let small = IsBytes-take 4 bytes fits in
    let back : number (from_le_bytes w32 (take 4 bytes)) ≡ take 4 bytes = le_bytes_4 (take 4 bytes) _ few small refl in
    let front : number n ≡ take 4 bytes = ap number (sym n-is) ∙ back in
    let below : from_le_bytes w32 (take 4 bytes) < 2 ^ 32 = omega (arith, small 0, small 1, small 2, small 3) in
    (record { parts = sym (take-append-drop 4 bytes) ∙ ap (λ t. t ++ drop 4 bytes) (sym front) ∙ ap (λ d. number n ++ d) rest-is; rest_fits = subst IsBytes rest-is (IsBytes-drop 4 bytes fits) }, subst (λ m. m < 2 ^ 32) n-is below)

number_again : (total n : ℕ) (rest : List ℕ) → n < 2 ^ 32 → number_at total (number n ++ rest) ≡ Ok (n, rest)
unfolding number_at number
number_again total n rest lt =
    let len : length (number n) ≡ 4 = refl in
    let long : ltb (length (number n ++ rest)) 4 ≡ false = le-ltb _ _ (omega (arith, len, length-append (number n) rest)) in
    let t : take 4 (number n ++ rest) ≡ number n = take_at (number n) rest 4 len in
    let d : drop 4 (number n ++ rest) ≡ rest = drop_at (number n) rest 4 len in
    let back : from_le_bytes w32 (number n) ≡ n = from_le_bytes-to_le_bytes_4 n lt in
    ap (λ b. cond b (missing {X = ℕ × List ℕ} total) (give (from_le_bytes w32 (take 4 (number n ++ rest))) (drop 4 (number n ++ rest)))) long
    ∙ ap (λ x. give (from_le_bytes w32 x) (drop 4 (number n ++ rest))) t
    ∙ ap (λ x. give (from_le_bytes w32 (number n)) x) d
    ∙ ap (λ x. give x rest) back

pub number_format : (total : ℕ) → IsFormat number (number_at total) IsNumber
number_format total = record { takes = number_takes total; again = number_again total }

no_range : (total : ℕ) (bytes : List ℕ) (y : ℕ × List ℕ) → out_of_range total bytes ≡ Ok y → ⊥
no_range total bytes y e = cc

pub up_to_format : (most total : ℕ) → most < 2 ^ 32 → IsFormat number (up_to_at most total) (λ n. n ≤ most)
unfolding up_to_at
up_to_format most total lt = record {
  takes = λ bytes x rest fits e.
      let a = bind_ok (number_at total bytes) (λ n. cond (nat_le n.0 most) (Ok n) (out_of_range total bytes)) (x, rest) e in
      let g = guard_ok (nat_le a.0.0 most) (out_of_range total bytes) a.0 (x, rest) a.2 (no_range total bytes (x, rest)) in
      let n-is : a.0.0 ≡ x = ap (λ (p : ℕ × List ℕ). p.0) g.1 in
      let t = number_takes total bytes x rest fits (a.1 ∙ ap (λ (p : ℕ × List ℕ). Ok p) g.1) in
      (t.0, subst (λ (n : ℕ). n ≤ most) n-is (leb-true _ _ g.0));
  again = λ x rest le.
      let small : x < 2 ^ 32 = omega arith in
      let inside : nat_le x most ≡ true = le-leb _ _ le in
      bind_of (number_at total (number x ++ rest)) (λ n. cond (nat_le n.0 most) (Ok n) (out_of_range total (number x ++ rest))) (x, rest) (number_again total x rest small)
      ∙ ap (λ b. cond b (done (x, rest)) (out_of_range total (number x ++ rest))) inside;
}

---- Putting together

-- a value behind another
pub pair_format : {X Y Z : Type 0} (sx : X → List ℕ) (rx : Reading X) (FX : X → Type 0) (sy : Y → List ℕ) (ry : Reading Y) (FY : Y → Type 0) (make : X → Y → Z) (first : Z → X) (second : Z → Y)
    → ((z : Z) → make (first z) (second z) ≡ z) → ((x : X) (y : Y) → first (make x y) ≡ x) → ((x : X) (y : Y) → second (make x y) ≡ y)
    → IsFormat sx rx FX → IsFormat sy ry FY
    → IsFormat (λ z. sx (first z) ++ sy (second z)) (λ bytes. rx bytes >>= λ x. ry x.1 >>= λ y. Ok (make x.0 y.0, y.1)) (λ z. FX (first z) × FY (second z))
pair_format {X} {Y} {Z} sx rx FX sy ry FY make first second whole one two p q = record {
  takes = λ bytes z rest fits e.
      let a = bind_ok (rx bytes) (λ x. ry x.1 >>= λ y. Ok (make x.0 y.0, y.1)) (z, rest) e in
      let b = bind_ok (ry a.0.1) (λ y. Ok (make a.0.0 y.0, y.1)) (z, rest) a.2 in
      let s = p.takes bytes a.0.0 a.0.1 fits a.1 in
      let t = q.takes a.0.1 b.0.0 b.0.1 s.0.rest_fits b.1 in
      let both = takes_then bytes (sx a.0.0) a.0.1 (sy b.0.0) b.0.1 s.0 t.0 in
      let made : Z × List ℕ = (make a.0.0 b.0.0, b.0.1) in
      let named : Takes bytes (sx (first made.0) ++ sy (second made.0)) made.1 × (FX (first made.0) × FY (second made.0)) =
      subst (λ (x : X). Takes bytes (sx x ++ sy (second made.0)) made.1 × (FX x × FY (second made.0))) (sym (one a.0.0 b.0.0))
      (subst (λ (y : Y). Takes bytes (sx a.0.0 ++ sy y) made.1 × (FX a.0.0 × FY y)) (sym (two a.0.0 b.0.0)) (both, (s.1, t.1))) in
      subst (λ (w : Z × List ℕ). Takes bytes (sx (first w.0) ++ sy (second w.0)) w.1 × (FX (first w.0) × FY (second w.0))) (ok_is made (z, rest) b.2) named;
  again = λ z rest fits.
      ap (λ bytes. rx bytes >>= λ x. ry x.1 >>= λ y. done (make x.0 y.0, y.1)) (append_assoc (sx (first z)) (sy (second z)) rest)
      ∙ bind_of (rx (sx (first z) ++ (sy (second z) ++ rest))) (λ x. ry x.1 >>= λ y. done (make x.0 y.0, y.1)) (first z, sy (second z) ++ rest) (p.again (first z) (sy (second z) ++ rest) fits.0)
      ∙ bind_of (ry (sy (second z) ++ rest)) (λ y. done (make (first z) y.0, y.1)) (second z, rest) (q.again (second z) rest fits.1)
      ∙ ap (λ w. done (w, rest)) (whole z);
}

module _ {X : Type 0} (spell : X → List ℕ) (read : Reading X) (Fits : X → Type 0) (f : IsFormat spell read Fits) where
  several_take : (n : ℕ) (bytes : List ℕ) (x : List X × List ℕ) → IsBytes bytes → several read n bytes ≡ Ok x → Takes bytes (flat_map spell x.0) x.1 × (length x.0 ≡ n) × AllByRecursion Fits x.0
  several_take zero bytes x fits e = subst (λ (y : List X × List ℕ). Takes bytes (flat_map spell y.0) y.1 × (length y.0 ≡ 0) × AllByRecursion Fits y.0) (ok_is ([], bytes) x e) (record { parts = refl; rest_fits = fits }, refl, tt)
  several_take (suc n) bytes x fits e =
      let a = bind_ok (read bytes) (λ first. several read n first.1 >>= λ others. Ok (first.0 ∷ others.0, others.1)) x e in
      let b = bind_ok (several read n a.0.1) (λ others. Ok (a.0.0 ∷ others.0, others.1)) x a.2 in
      let first = f.takes bytes a.0.0 a.0.1 fits a.1 in
      let second = several_take n a.0.1 b.0 first.0.rest_fits b.1 in
      let both = takes_then bytes (spell a.0.0) a.0.1 (flat_map spell b.0.0) b.0.1 first.0 second.0 in
      let made : List X × List ℕ = (a.0.0 ∷ b.0.0, b.0.1) in
      subst (λ (y : List X × List ℕ). Takes bytes (flat_map spell y.0) y.1 × (length y.0 ≡ suc n) × AllByRecursion Fits y.0) (ok_is made x b.2) (rw flat_map-cons both, ap suc second.1, (first.1, second.2))

  several_again : (xs : List X) (rest : List ℕ) → AllByRecursion Fits xs → several read (length xs) (flat_map spell xs ++ rest) ≡ Ok (xs, rest)
  several_again [] rest fits = refl
  several_again (x ∷ xs) rest fits =
      let regrouped : flat_map spell (x ∷ xs) ++ rest ≡ spell x ++ (flat_map spell xs ++ rest) = ap (λ (t : List ℕ). t ++ rest) (flat_map-cons spell x xs) ∙ append_assoc (spell x) (flat_map spell xs) rest in
      ap (several read (suc (length xs))) regrouped
      ∙ bind_of (read (spell x ++ (flat_map spell xs ++ rest))) (λ first. several read (length xs) first.1 >>= λ others. done (first.0 ∷ others.0, others.1)) (x, flat_map spell xs ++ rest) (f.again x (flat_map spell xs ++ rest) fits.0)
      ∙ bind_of (several read (length xs) (flat_map spell xs ++ rest)) (λ others. done (x ∷ others.0, others.1)) (xs, rest) (several_again xs rest fits.1)

  pub list_format : (total : ℕ) → IsFormat (list spell) (list_at read total) (KeepsList IsNumber Fits)
  unfolding list_at
  list_format total = record {
    takes = λ bytes xs rest fits e.
        let a = bind_ok (number_at total bytes) (λ n. several read n.0 n.1) (xs, rest) e in
        let t = number_takes total bytes a.0.0 a.0.1 fits a.1 in
        let s = several_take a.0.0 a.0.1 (xs, rest) t.0.rest_fits a.2 in
        let both = takes_then bytes (number a.0.0) a.0.1 (flat_map spell xs) rest t.0 s.0 in
        let same : a.0.0 ≡ length xs = sym s.1 in
        (subst (λ n. Takes bytes (number n ++ flat_map spell xs) rest) same both, (subst (λ n. n < 2 ^ 32) same t.1, All-from_recursion Fits xs s.2));
    again = λ xs rest fits.
        ap (λ bytes. number_at total bytes >>= λ n. several read n.0 n.1) (append_assoc (number (length xs)) (flat_map spell xs) rest)
        ∙ bind_of (number_at total (number (length xs) ++ (flat_map spell xs ++ rest))) (λ n. several read n.0 n.1) (length xs, flat_map spell xs ++ rest) (number_again total (length xs) (flat_map spell xs ++ rest) fits.0)
        ∙ several_again xs rest (recursion_from_All Fits xs fits.1);
  }
