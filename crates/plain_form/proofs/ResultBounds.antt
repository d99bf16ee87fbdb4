-- From what types say, the conditions on registers and values, and a length, to what is read again.
use Rattle.std.proofs.Common.{◌≡◌, ℕ, ◌+◌, ◌^◌, ◌<◌, ◌≤◌, List, [], ◌∷◌, ◌++◌, length, Option, Some, None, All, refl, arith, ap, ◌∙◌, length-append}
use Rattle.std.specs.Prelude.{slice_index_or}
use Rattle.std.specs.List.{flat_map, AllByRecursion}
use Rattle.std.proofs.lemmas.List.Concat.{flat_map-cons}
use Rattle.std.proofs.lemmas.List.Elements.{All-from_recursion, recursion_from_All}
use Rattle.lir_core.specs.declared.places.Place.{Place}
use Rattle.lir_core.specs.declared.places.Place.TheVariants.{Reg, Home, Out}
use Rattle.lir_core.specs.declared.places.Move.{Move}
use Rattle.lir_core.specs.declared.places.Places.{Places}
use Rattle.lir_core.specs.declared.places.Line.{Line}
use Rattle.lir_core.specs.declared.places.Line.TheVariants.{Lir, Store, Load, Moves, Result, Target}
use Rattle.lir_core.specs.declared.places.TraceOut.{TraceOut}
use Rattle.plain_form.specs.Spelling.{number, list, IsNumber, IsRegister, Any, KeepsList}
use Rattle.plain_form.specs.results.Spelling.{held, places, place, move, line, result}
use Rattle.plain_form.specs.results.Bounds.{KeepsHeld, KeepsPlaces, KeepsPlace, KeepsMove, KeepsLine, IsHeld, TypedHeld, TypedPlaces, TypedPlace, TypedMove, TypedLine, TypedResult, IsNotable, FitsHeld, FitsPlaces, FitsPlace, FitsMove, FitsLine, FitsResult}

pub number_length : (n : ℕ) → length (number n) ≡ 4
unfolding number
number_length n = refl

---- Lists

module _ {X : Type 0} (spell : X → List ℕ) (A B C : X → Type 0) (some : (x : X) → 1 ≤ length (spell x)) (each : (x : X) → A x → B x → length (spell x) < 2 ^ 32 → C x) where
  spelled_cons : (x : X) (xs : List X) → length (flat_map spell (x ∷ xs)) ≡ length (spell x) + length (flat_map spell xs)
  spelled_cons x xs = ap (λ (ys : List ℕ). length ys) (flat_map-cons spell x xs) ∙ length-append (spell x) (flat_map spell xs)

  count : (xs : List X) → length xs ≤ length (flat_map spell xs)
  count [] = omega arith
  count (x ∷ xs) = omega (arith, count xs, some x, spelled_cons x xs)

  all_fit : (xs : List X) → AllByRecursion A xs → AllByRecursion B xs → length (flat_map spell xs) < 2 ^ 32 → AllByRecursion C xs
  all_fit [] a b lt = tt
  all_fit (x ∷ xs) a b lt = (each x a.0 b.0 (omega (arith, lt, spelled_cons x xs)), all_fit xs a.1 b.1 (omega (arith, lt, spelled_cons x xs)))

  pub list_fits : (xs : List X) → KeepsList Any A xs → KeepsList Any B xs → length (list spell xs) < 2 ^ 32 → KeepsList IsNumber C xs
  list_fits xs a b lt =
      let e = length-append (number (length xs)) (flat_map spell xs) in
      let short : length (flat_map spell xs) < 2 ^ 32 = omega (arith, lt, e) in
      (omega (arith, count xs, short), All-from_recursion C xs (all_fit xs (recursion_from_All A xs a.1) (recursion_from_All B xs b.1) short))

pub list_some : {X : Type 0} (spell : X → List ℕ) (xs : List X) → 1 ≤ length (list spell xs)
list_some spell xs = let e = length-append (number (length xs)) (flat_map spell xs) in let n = number_length (length xs) in omega (arith, e, n)

---- Parts of results

held_fits : (o : Option ℕ) → TypedHeld o → KeepsHeld Any Any IsRegister IsHeld o → length (held o) < 2 ^ 32 → FitsHeld o
held_fits None a b lt = tt
held_fits (Some v) a b lt = b

held_some : (o : Option ℕ) → 1 ≤ length (held o)
held_some None = let n = number_length 0 in omega (arith, n)
held_some (Some v) = let n = number_length (v + 1) in omega (arith, n)

number_some : (n : ℕ) → 1 ≤ length (number n)
number_some n = let e = number_length n in omega (arith, e)

register_fits : (r : ℕ) → Any r → IsRegister r → length (number r) < 2 ^ 32 → IsRegister r
register_fits r a b lt = b

number_fits : (n : ℕ) → IsNumber n → Any n → length (number n) < 2 ^ 32 → IsNumber n
number_fits n a b lt = a

places_fit : (q : Places) → TypedPlaces q → KeepsPlaces Any Any IsRegister IsHeld q → length (places q) < 2 ^ 32 → FitsPlaces q
places_fit q a b lt =
    let e = length-append (list held q.regs) (list number q.homed) in (
      list_fits held TypedHeld (KeepsHeld Any Any IsRegister IsHeld) FitsHeld held_some held_fits q.regs a.0 b.0 (omega (arith, lt, e)),
      list_fits number IsNumber Any IsNumber number_some number_fits q.homed a.1 b.1 (omega (arith, lt, e)),
    )

places_some : (q : Places) → 1 ≤ length (places q)
places_some q = let e = length-append (list held q.regs) (list number q.homed) in let s = list_some held q.regs in omega (arith, e, s)

place_fits : (p : Place) → TypedPlace p → KeepsPlace Any Any IsRegister IsHeld p → FitsPlace p
place_fits (Reg r) a b = b
place_fits (Home v) a b = a
place_fits (Out s) a b = a

move_fits : (m : Move) → TypedMove m → KeepsMove Any Any IsRegister IsHeld m → length (move m) < 2 ^ 32 → FitsMove m
move_fits m a b lt = (place_fits m.to a.0 b.0, place_fits m.from a.1 b.1)

place_some : (p : Place) → 1 ≤ length (place p)
place_some (Reg r) = let e = length-append (number 0) (number r) in let n = number_length 0 in omega (arith, e, n)
place_some (Home v) = let e = length-append (number 1) (number v) in let n = number_length 1 in omega (arith, e, n)
place_some (Out s) = let e = length-append (number 2) (number s) in let n = number_length 2 in omega (arith, e, n)

move_some : (m : Move) → 1 ≤ length (move m)
move_some m = let e = length-append (place m.to) (place m.from) in let s = place_some m.to in omega (arith, e, s)

line_fits : (l : Line) → TypedLine l → KeepsLine Any Any IsRegister IsHeld l → length (line l) < 2 ^ 32 → FitsLine l
line_fits (Lir i) a b lt = a
line_fits (Store r v) a b lt = (b.0, a.1)
line_fits (Load r v) a b lt = (b.0, a.1)
line_fits (Moves ms) a b lt = let e = length-append (number 3) (list move ms) in list_fits move TypedMove (KeepsMove Any Any IsRegister IsHeld) FitsMove move_some move_fits ms a b (omega (arith, lt, e))
line_fits (Result r) a b lt = b
line_fits (Target p) a b lt = place_fits p a b

line_some : (l : Line) → 1 ≤ length (line l)
line_some (Lir i) = let e = length-append (number 0) (number i) in let n = number_length 0 in omega (arith, e, n)
line_some (Store r v) = let e = length-append (number 1) (number r ++ number v) in let n = number_length 1 in omega (arith, e, n)
line_some (Load r v) = let e = length-append (number 2) (number r ++ number v) in let n = number_length 2 in omega (arith, e, n)
line_some (Moves ms) = let e = length-append (number 3) (list move ms) in let n = number_length 3 in omega (arith, e, n)
line_some (Result r) = let e = length-append (number 4) (number r) in let n = number_length 4 in omega (arith, e, n)
line_some (Target p) = let e = length-append (number 5) (place p) in let n = number_length 5 in omega (arith, e, n)

---- Results

result_some : (o : TraceOut) → 1 ≤ length (result o)
result_some o = let e = length-append (number o.trace) (list places o.starts ++ (list places o.ends ++ (list (list line) o.lines ++ list (list number) o.regs))) in let n = number_length o.trace in omega (arith, e, n)

result_fits : (o : TraceOut) → TypedResult o → IsNotable o → length (result o) < 2 ^ 32 → FitsResult o
result_fits o a b lt =
    let e0 = length-append (number o.trace) (list places o.starts ++ (list places o.ends ++ (list (list line) o.lines ++ list (list number) o.regs))) in
    let e1 = length-append (list places o.starts) (list places o.ends ++ (list (list line) o.lines ++ list (list number) o.regs)) in
    let e2 = length-append (list places o.ends) (list (list line) o.lines ++ list (list number) o.regs) in
    let e3 = length-append (list (list line) o.lines) (list (list number) o.regs) in
    record {
      trace = a.trace;
      starts = list_fits places TypedPlaces (KeepsPlaces Any Any IsRegister IsHeld) FitsPlaces places_some places_fit o.starts a.starts b.starts (omega (arith, lt, e0, e1));
      ends = list_fits places TypedPlaces (KeepsPlaces Any Any IsRegister IsHeld) FitsPlaces places_some places_fit o.ends a.ends b.ends (omega (arith, lt, e0, e1, e2));
      lines = list_fits (list line) (KeepsList Any TypedLine) (KeepsList Any (KeepsLine Any Any IsRegister IsHeld)) (KeepsList IsNumber FitsLine) (list_some line) (list_fits line TypedLine (KeepsLine Any Any IsRegister IsHeld) FitsLine line_some line_fits) o.lines a.lines b.lines (omega (arith, lt, e0, e1, e2, e3));
      regs = list_fits (list number) (KeepsList Any Any) (KeepsList Any IsRegister) (KeepsList IsNumber IsRegister) (list_some number) (list_fits number Any IsRegister IsRegister number_some register_fits) o.regs a.regs b.regs (omega (arith, lt, e0, e1, e2, e3));
    }

-- results of which all registers and values are notable, and whose bytes are few enough, are read again
pub results_fit : (os : List TraceOut) → KeepsList Any TypedResult os → All IsNotable os → length (list result os) < 2 ^ 32 → KeepsList IsNumber FitsResult os
results_fit os a b lt = list_fits result TypedResult IsNotable FitsResult result_some result_fits os a (tt, b) lt

---- What is read again can be written

list_less : {X : Type 0} (A C : X → Type 0) → ((x : X) → A x → C x) → (xs : List X) → KeepsList IsNumber A xs → KeepsList Any C xs
list_less A C less xs a = (tt, λ k d lt. less (slice_index_or xs k d) (a.1 k d lt))

held_less : (o : Option ℕ) → FitsHeld o → KeepsHeld Any Any IsRegister IsHeld o
held_less None h = tt
held_less (Some v) h = h

places_less : (q : Places) → FitsPlaces q → KeepsPlaces Any Any IsRegister IsHeld q
places_less q h = (list_less FitsHeld (KeepsHeld Any Any IsRegister IsHeld) held_less q.regs h.0, list_less IsNumber Any (λ n k. tt) q.homed h.1)

place_less : (p : Place) → FitsPlace p → KeepsPlace Any Any IsRegister IsHeld p
place_less (Reg r) h = h
place_less (Home v) h = tt
place_less (Out s) h = tt

move_less : (m : Move) → FitsMove m → KeepsMove Any Any IsRegister IsHeld m
move_less m h = (place_less m.to h.0, place_less m.from h.1)

line_less : (l : Line) → FitsLine l → KeepsLine Any Any IsRegister IsHeld l
line_less (Lir i) h = tt
line_less (Store r v) h = (h.0, tt)
line_less (Load r v) h = (h.0, tt)
line_less (Moves ms) h = list_less FitsMove (KeepsMove Any Any IsRegister IsHeld) move_less ms h
line_less (Result r) h = h
line_less (Target p) h = place_less p h

pub fits_notable : (o : TraceOut) → FitsResult o → IsNotable o
fits_notable o h = record {
  trace = tt;
  starts = list_less FitsPlaces (KeepsPlaces Any Any IsRegister IsHeld) places_less o.starts h.starts;
  ends = list_less FitsPlaces (KeepsPlaces Any Any IsRegister IsHeld) places_less o.ends h.ends;
  lines = list_less (KeepsList IsNumber FitsLine) (KeepsList Any (KeepsLine Any Any IsRegister IsHeld)) (list_less FitsLine (KeepsLine Any Any IsRegister IsHeld) line_less) o.lines h.lines;
  regs = list_less (KeepsList IsNumber IsRegister) (KeepsList Any IsRegister) (list_less IsRegister IsRegister (λ r k. k)) o.regs h.regs;
}
