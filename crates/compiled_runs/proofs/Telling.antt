-- The places of an image tell the procedure of each of its words.
use Rattle.std.proofs.Common.{◌≡◌, ℕ, zero, suc, ◌+◌, ◌-◌, ◌<◌, ◌≤◌, List, [], ◌∷◌, map, length, get_or, Bool, true, false, cond, Some, refl, arith, sym, ap, ap₂, ◌∙◌, subst}
use Rattle.std.specs.Prelude.{nat_le, filter, slice_get}
use Rattle.std.proofs.lemmas.Bool.Decides.{nat_tests}
use Rattle.image_form.specs.declared.image.ProcPlace.{ProcPlace}
use Rattle.image_form.specs.Places.{place_before}
use Rattle.ob_types.specs.Meaning.{procedure_of, no_procedure}
use Rattle.ob_types.specs.declared.program.Procedure.{Procedure}
use Rattle.ob_types.specs.declared.program.Program.{Program}
use Rattle.placed_code.specs.declared.data.ProcName.{ProcName}
use Rattle.placed_code.specs.Placed.{Placed}
use Rattle.placed_code.specs.Layout.{entry}
use Rattle.placed_code.specs.Claims.{places_of, sizes}
use Rattle.placed_code.proofs.Rising.{entry_le, entry_next}
use Rattle.compiled_runs.specs.Compiled.{name_of, procedure_names, place_of}

not_over : (a b : ℕ) → a ≤ b → nat_le a b ≡ true
not_over a b l = grind (arith, nat_tests)

over : (a b : ℕ) → b < a → nat_le a b ≡ false
over a b l = grind (arith, nat_tests)

---- Places of words that rise

module _ (f : ℕ → ℕ) (w : ℕ) where
  abbrev at_name : ℕ → ProcName → ProcPlace
  at_name q name = record { word = f q; «module» = name.«module»; line = name.line }

  abbrev begun : List ProcPlace → List ProcPlace
  begun places = filter (λ (place : ProcPlace). nat_le place.word w) places

  abbrev kept : Bool → ℕ → ProcName → List ProcName → List ProcPlace
  kept b p x xs = cond b (at_name p x ∷ begun (places_of f (suc p) xs)) (begun (places_of f (suc p) xs))

  none_begun : (p : ℕ) (names : List ProcName) → ((i : ℕ) → i < length names → w < f (p + i)) → begun (places_of f p names) ≡ []
  none_begun p [] late = refl
  none_begun p (x ∷ xs) late =
      let here : p + 0 ≡ p = omega arith in
      let l = subst (λ n. w < f n) here (late 0 (omega arith)) in
      ap (λ b. kept b p x xs) (over (f p) w l)
      ∙ none_begun (suc p) xs (λ i m. let z : p + suc i ≡ suc p + i = omega arith in subst (λ n. w < f n) z (late (suc i) (omega (arith, m))))

  -- of places that rise, those up to number n have begun, and that one is the last
  last_begun : (p n : ℕ) (names : List ProcName) (x : ProcName) → slice_get names n ≡ Some x → ((i : ℕ) → i ≤ n → f (p + i) ≤ w) → ((i : ℕ) → n < i → i < length names → w < f (p + i))
      → (slice_get (begun (places_of f p names)) n ≡ Some (at_name (p + n) x)) × (length (begun (places_of f p names)) ≡ suc n)
  last_begun p n [] x e early late = cc
  last_begun p zero (y ∷ ys) x e early late =
      let here : p + 0 ≡ p = omega arith in
      let first = ap (λ b. kept b p y ys) (not_over (f p) w (subst (λ n. f n ≤ w) here (early 0 (omega arith)))) in
      let rest = none_begun (suc p) ys (λ i m. let z : p + suc i ≡ suc p + i = omega arith in subst (λ n. w < f n) z (late (suc i) (omega arith) (omega (arith, m)))) in
      let all : begun (places_of f p (y ∷ ys)) ≡ at_name p y ∷ [] = first ∙ ap (λ (places : List ProcPlace). at_name p y ∷ places) rest in
      let same : y ≡ x = cc in
      (ap (λ (places : List ProcPlace). slice_get places 0) all ∙ ap₂ (λ n (z : ProcName). Some (at_name n z)) (sym here) same, ap (λ (places : List ProcPlace). length places) all)
  last_begun p (suc n) (y ∷ ys) x e early late =
      let here : p + 0 ≡ p = omega arith in
      let first = ap (λ b. kept b p y ys) (not_over (f p) w (subst (λ m. f m ≤ w) here (early 0 (omega arith)))) in
      let more = last_begun (suc p) n ys x e
      (λ i m. let z : p + suc i ≡ suc p + i = omega arith in subst (λ j. f j ≤ w) z (early (suc i) (omega (arith, m))))
      (λ i l m. let z : p + suc i ≡ suc p + i = omega arith in subst (λ j. w < f j) z (late (suc i) (omega (arith, l)) (omega (arith, m)))) in
      let z : suc p + n ≡ p + suc n = omega arith in
      (ap (λ (places : List ProcPlace). slice_get places (suc n)) first ∙ more.0 ∙ ap (λ j. Some (at_name j x)) z, ap (λ (places : List ProcPlace). length places) first ∙ ap suc more.1)

  pub place_is : (n : ℕ) (names : List ProcName) (x : ProcName) → slice_get names n ≡ Some x → ((i : ℕ) → i ≤ n → f i ≤ w) → ((i : ℕ) → n < i → i < length names → w < f i) → place_before (places_of f 0 names) w ≡ Some (at_name n x)
  place_is n names x e early late =
      let r = last_begun 0 n names x e (λ i l. let z : i ≡ 0 + i = omega arith in subst (λ j. f j ≤ w) z (early i l)) (λ i l m. let z : i ≡ 0 + i = omega arith in subst (λ j. w < f j) z (late i l m)) in
      let many = r.1 in
      let last : length (begun (places_of f 0 names)) - 1 ≡ n = omega (arith, many) in
      let z : 0 + n ≡ n = omega arith in
      ap (slice_get (begun (places_of f 0 names))) last ∙ r.0 ∙ ap (λ j. Some (at_name j x)) z

---- Procedures

name_at : (qs : List Procedure) (f : ℕ) → f < length qs → slice_get (map name_of qs) f ≡ Some (name_of (get_or qs f no_procedure))
name_at [] f l = absurd (omega (arith, l))
name_at (q ∷ qs) zero l = refl
name_at (q ∷ qs) (suc f) l = name_at qs f (omega (arith, l))

pub names_length : (qs : List Procedure) → length (map name_of qs) ≡ length qs
names_length [] = refl
names_length (q ∷ qs) = ap suc (names_length qs)

-- a word of a procedure's code comes behind the procedure's place, and before the next one
pub told : (p : Program) (ps : List Placed) (f place : ℕ) → length ps ≡ length p.procedures → f < length ps → entry ps f ≤ place → place < entry ps f + sizes ps f
    → place_before (places_of (entry ps) 0 (procedure_names p)) place ≡ Some (place_of p ps f)
told p ps f place count known from to =
    place_is (entry ps) place f (procedure_names p) (name_of (procedure_of p f)) (name_at p.procedures f (omega (arith, known, count)))
    (λ i l. let e = entry_le ps i f l (omega (arith, known)) in omega (arith, e, from))
    (λ i l m.
    let n = names_length p.procedures in
    let e = entry_le ps (suc f) i (omega (arith, l)) (omega (arith, m, n, count)) in
    let next = entry_next ps f known in
    omega (arith, e, next, to))
