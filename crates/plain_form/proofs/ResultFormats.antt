-- The formats of results.
use Rattle.std.proofs.Common.{◌≡◌, ℕ, zero, suc, ◌+◌, ◌^◌, ◌<◌, ◌≤◌, List, ◌++◌, Option, Some, None, Ok, refl, sym, ap, subst, ◌∙◌, append_assoc, arith, add-one, lit<, lit≤}
use Rattle.lir_core.specs.declared.places.Place.{Place}
use Rattle.lir_core.specs.declared.places.Place.TheVariants.{Reg, Home, Out}
use Rattle.lir_core.specs.declared.places.Move.{Move}
use Rattle.lir_core.specs.declared.places.Places.{Places}
use Rattle.lir_core.specs.declared.places.Line.{Line}
use Rattle.lir_core.specs.declared.places.Line.TheVariants as lines
use Rattle.lir_core.specs.declared.places.TraceOut.{TraceOut}
use Rattle.plain_form.specs.Spelling.{number, list, IsNumber, IsRegister, KeepsList}
use Rattle.plain_form.specs.results.Spelling.{held, places, place, move, line, from_ends, from_starts, result}
use Rattle.plain_form.specs.results.Bounds.{FitsHeld, FitsPlaces, FitsPlace, FitsMove, FitsLine, FitsResult}
use Rattle.plain_form.specs.Reading.{Reading, ◌>>=◌, number_at, up_to_at, register_at, list_at}
use Rattle.plain_form.specs.results.Reading.{held_by, held_at, places_at, kind_of_place, place_at, move_at, stored_at, kind_of_line, line_at, result_at}
use Rattle.plain_form.specs.Formats.{IsBytes, Takes, IsFormat}
use Rattle.plain_form.proofs.Formats.{bind_ok, bind_of, give, ok_is, takes_then, number_format, up_to_format, pair_format, list_format}

register_format : (total : ℕ) → IsFormat number (register_at total) IsRegister
register_format total = up_to_format 15 total (lit< tt)

---- What registers have

held_spelled : (n : ℕ) → held (held_by n) ≡ number n
held_spelled zero = refl
held_spelled (suc v) = ap number (add-one v)

held_fits : (n : ℕ) → n < 2 ^ 32 → FitsHeld (held_by n)
held_fits zero lt = tt
held_fits (suc v) lt = omega arith

held_format : (total : ℕ) → IsFormat held (held_at total) FitsHeld
unfolding held_at
held_format total = record {
  takes = λ bytes x rest fits e.
      let a = bind_ok (number_at total bytes) (λ n. give (held_by n.0) n.1) (x, rest) e in
      let t = (number_format total).takes bytes a.0.0 a.0.1 fits a.1 in
      let made : Option ℕ × List ℕ = (held_by a.0.0, a.0.1) in
      subst (λ (y : Option ℕ × List ℕ). Takes bytes (held y.0) y.1 × FitsHeld y.0) (ok_is made (x, rest) a.2) (subst (λ s. Takes bytes s a.0.1) (sym (held_spelled a.0.0)) t.0, held_fits a.0.0 t.1);
  again = λ x rest fits. again x rest fits;
}
  where
    again : (x : Option ℕ) (rest : List ℕ) → FitsHeld x → (number_at total (held x ++ rest) >>= λ n. give (held_by n.0) n.1) ≡ Ok (x, rest)
    again None rest fits = bind_of (number_at total (number 0 ++ rest)) (λ n. give (held_by n.0) n.1) (0, rest) ((number_format total).again 0 rest (lit< tt))
    again (Some v) rest fits =
        bind_of (number_at total (number (v + 1) ++ rest)) (λ n. give (held_by n.0) n.1) (v + 1, rest) ((number_format total).again (v + 1) rest fits)
        ∙ ap (λ n. give (held_by n) rest) (add-one v)

places_format : (total : ℕ) → IsFormat places (places_at total) FitsPlaces
unfolding places_at
places_format total = pair_format (list held) (list_at (held_at total) total) (KeepsList IsNumber FitsHeld) (list number) (list_at (number_at total) total) (KeepsList IsNumber IsNumber)
    (λ a b. let q : Places = record { regs = a; homed = b } in q) (λ q. q.regs) (λ q. q.homed) (λ q. refl) (λ a b. refl) (λ a b. refl)
    (list_format held (held_at total) FitsHeld (held_format total) total) (list_format number (number_at total) IsNumber (number_format total) total)

---- Variants

-- what a variant's reader took
pub record Took {X Z : Type 0} (spell : X → List ℕ) (Fits : X → Type 0) (make : X → Z) (bytes : List ℕ) (z : Z) (rest : List ℕ) : Type 0 where
  pub value : X
  pub is : make value ≡ z
  pub text : Takes bytes (spell value) rest
  pub fits : Fits value

took : {X Z : Type 0} (spell : X → List ℕ) (read : Reading X) (Fits : X → Type 0) (make : X → Z) → IsFormat spell read Fits → (bytes : List ℕ) (z : Z) (rest : List ℕ) → IsBytes bytes → (read bytes >>= λ x. give (make x.0) x.1) ≡ Ok (z, rest) → Took spell Fits make bytes z rest
took {X} {Z} spell read Fits make f bytes z rest fits e =
    let a = bind_ok (read bytes) (λ x. give (make x.0) x.1) (z, rest) e in
    let made : Z × List ℕ = (make a.0.0, a.0.1) in
    let q = ok_is made (z, rest) a.2 in
    let t = f.takes bytes a.0.0 a.0.1 fits a.1 in
    record { value = a.0.0; is = ap (λ (p : Z × List ℕ). p.0) q; text = subst (λ r. Takes bytes (spell a.0.0) r) (ap (λ (p : Z × List ℕ). p.1) q) t.0; fits = t.1 }

-- a variant behind its kind is read again
kind_again : {X Z : Type 0} (most total k : ℕ) (of : ℕ → Reading Z) (spell : X → List ℕ) (read : Reading X) (Fits : X → Type 0) (make : X → Z) → k ≤ most → most < 2 ^ 32 → ((bytes : List ℕ) → of k bytes ≡ (read bytes >>= λ x. give (make x.0) x.1))
    → IsFormat spell read Fits → (x : X) (rest : List ℕ) → Fits x → (up_to_at most total ((number k ++ spell x) ++ rest) >>= λ kind. of kind.0 kind.1) ≡ Ok (make x, rest)
kind_again most total k of spell read Fits make le lt is f x rest fits =
    ap (λ bytes. up_to_at most total bytes >>= λ kind. of kind.0 kind.1) (append_assoc (number k) (spell x) rest)
    ∙ bind_of (up_to_at most total (number k ++ (spell x ++ rest))) (λ kind. of kind.0 kind.1) (k, spell x ++ rest) ((up_to_format most total lt).again k (spell x ++ rest) le)
    ∙ is (spell x ++ rest)
    ∙ bind_of (read (spell x ++ rest)) (λ y. give (make y.0) y.1) (x, rest) (f.again x rest fits)

-- a value, its kind and the text behind
pub record Kinded {Z : Type 0} (spell : Z → List ℕ) (Fits : Z → Type 0) (k : ℕ) (bytes : List ℕ) (z : Z) (rest : List ℕ) : Type 0 where
  pub tail : List ℕ
  pub is : spell z ≡ number k ++ tail
  pub text : Takes bytes tail rest
  pub fits : Fits z

-- from a variant to the whole
as_kind : {X Z : Type 0} (spell : Z → List ℕ) (Fits : Z → Type 0) (k : ℕ) (own : X → List ℕ) (OwnFits : X → Type 0) (make : X → Z) (bytes : List ℕ) (z : Z) (rest : List ℕ)
    → ((x : X) → spell (make x) ≡ number k ++ own x) → ((x : X) → OwnFits x → Fits (make x)) → Took own OwnFits make bytes z rest → Kinded spell Fits k bytes z rest
as_kind {X} {Z} spell Fits k own OwnFits make bytes z rest is fits t = record {
  tail = own t.value;
  is = ap spell (sym t.is) ∙ is t.value;
  text = t.text;
  fits = subst Fits t.is (fits t.value t.fits);
}

-- a kind and what stands behind it
kind_takes : {Z : Type 0} (spell : Z → List ℕ) (Fits : Z → Type 0) (most total : ℕ) (of : ℕ → Reading Z) → most < 2 ^ 32
    → ((k : ℕ) (bytes : List ℕ) (z : Z) (rest : List ℕ) → k ≤ most → IsBytes bytes → of k bytes ≡ Ok (z, rest) → Kinded spell Fits k bytes z rest)
    → (bytes : List ℕ) (z : Z) (rest : List ℕ) → IsBytes bytes → (up_to_at most total bytes >>= λ kind. of kind.0 kind.1) ≡ Ok (z, rest) → Takes bytes (spell z) rest × Fits z
kind_takes spell Fits most total of lt each bytes z rest fits e =
    let a = bind_ok (up_to_at most total bytes) (λ kind. of kind.0 kind.1) (z, rest) e in
    let t = (up_to_format most total lt).takes bytes a.0.0 a.0.1 fits a.1 in
    let k = each a.0.0 a.0.1 z rest t.1 t.0.rest_fits a.2 in
    (subst (λ s. Takes bytes s rest) (sym k.is) (takes_then bytes (number a.0.0) a.0.1 k.tail rest t.0 k.text), k.fits)

---- Places

place_kind : (total k : ℕ) (bytes : List ℕ) (z : Place) (rest : List ℕ) → k ≤ 2 → IsBytes bytes → kind_of_place k total bytes ≡ Ok (z, rest) → Kinded place FitsPlace k bytes z rest
place_kind total zero bytes z rest le fits e = as_kind place FitsPlace 0 number IsRegister Reg bytes z rest (λ x. refl) (λ x f. f) (took number (register_at total) IsRegister Reg (register_format total) bytes z rest fits e)
place_kind total (suc zero) bytes z rest le fits e = as_kind place FitsPlace 1 number IsNumber Home bytes z rest (λ x. refl) (λ x f. f) (took number (number_at total) IsNumber Home (number_format total) bytes z rest fits e)
place_kind total (suc (suc zero)) bytes z rest le fits e = as_kind place FitsPlace 2 number IsNumber Out bytes z rest (λ x. refl) (λ x f. f) (took number (number_at total) IsNumber Out (number_format total) bytes z rest fits e)
place_kind total (suc (suc (suc k))) bytes z rest le fits e = absurd (omega arith)

abbrev places_of : ℕ → ℕ → Reading Place
places_of total k bytes = kind_of_place k total bytes

place_format : (total : ℕ) → IsFormat place (place_at total) FitsPlace
unfolding place_at
place_format total = record {
  takes = kind_takes place FitsPlace 2 total (places_of total) (lit< tt) (place_kind total);
  again = again;
}
  where
    again : (z : Place) (rest : List ℕ) → FitsPlace z → (up_to_at 2 total (place z ++ rest) >>= λ kind. kind_of_place kind.0 total kind.1) ≡ Ok (z, rest)
    again (Reg r) rest fits = kind_again 2 total 0 (places_of total) number (register_at total) IsRegister Reg (lit≤ tt) (lit< tt) (λ bytes. refl) (register_format total) r rest fits
    again (Home v) rest fits = kind_again 2 total 1 (places_of total) number (number_at total) IsNumber Home (lit≤ tt) (lit< tt) (λ bytes. refl) (number_format total) v rest fits
    again (Out s) rest fits = kind_again 2 total 2 (places_of total) number (number_at total) IsNumber Out (lit≤ tt) (lit< tt) (λ bytes. refl) (number_format total) s rest fits

move_format : (total : ℕ) → IsFormat move (move_at total) FitsMove
unfolding move_at
move_format total = pair_format place (place_at total) FitsPlace place (place_at total) FitsPlace (λ a b. let m : Move = record { to = a; from = b } in m) (λ m. m.to) (λ m. m.from) (λ m. refl) (λ a b. refl) (λ a b. refl) (place_format total) (place_format total)

---- Lines

abbrev stored : ℕ × ℕ → List ℕ
stored p = number p.0 ++ number p.1

abbrev FitsStored : ℕ × ℕ → Type 0
FitsStored p = IsRegister p.0 × IsNumber p.1

stored_format : (total : ℕ) → IsFormat stored (stored_at total) FitsStored
unfolding stored_at
stored_format total = pair_format number (register_at total) IsRegister number (number_at total) IsNumber (λ a b. (a, b)) (λ p. p.0) (λ p. p.1) (λ p. refl) (λ a b. refl) (λ a b. refl) (register_format total) (number_format total)

moves_format : (total : ℕ) → IsFormat (list move) (list_at (move_at total) total) (KeepsList IsNumber FitsMove)
moves_format total = list_format move (move_at total) FitsMove (move_format total) total

abbrev to_store : ℕ × ℕ → Line
to_store p = lines.Store p.0 p.1

abbrev to_load : ℕ × ℕ → Line
to_load p = lines.Load p.0 p.1

line_kind : (total k : ℕ) (bytes : List ℕ) (z : Line) (rest : List ℕ) → k ≤ 5 → IsBytes bytes → kind_of_line k total bytes ≡ Ok (z, rest) → Kinded line FitsLine k bytes z rest
line_kind total zero bytes z rest le fits e = as_kind line FitsLine 0 number IsNumber lines.Lir bytes z rest (λ x. refl) (λ x f. f) (took number (number_at total) IsNumber lines.Lir (number_format total) bytes z rest fits e)
line_kind total (suc zero) bytes z rest le fits e = as_kind line FitsLine 1 stored FitsStored to_store bytes z rest (λ x. refl) (λ x f. f) (took stored (stored_at total) FitsStored to_store (stored_format total) bytes z rest fits e)
line_kind total (suc (suc zero)) bytes z rest le fits e = as_kind line FitsLine 2 stored FitsStored to_load bytes z rest (λ x. refl) (λ x f. f) (took stored (stored_at total) FitsStored to_load (stored_format total) bytes z rest fits e)
line_kind total (suc (suc (suc zero))) bytes z rest le fits e = as_kind line FitsLine 3 (list move) (KeepsList IsNumber FitsMove) lines.Moves bytes z rest (λ x. refl) (λ x f. f) (took (list move) (list_at (move_at total) total) (KeepsList IsNumber FitsMove) lines.Moves (moves_format total) bytes z rest fits e)
line_kind total (suc (suc (suc (suc zero)))) bytes z rest le fits e = as_kind line FitsLine 4 number IsRegister lines.Result bytes z rest (λ x. refl) (λ x f. f) (took number (register_at total) IsRegister lines.Result (register_format total) bytes z rest fits e)
line_kind total (suc (suc (suc (suc (suc zero))))) bytes z rest le fits e = as_kind line FitsLine 5 place FitsPlace lines.Target bytes z rest (λ x. refl) (λ x f. f) (took place (place_at total) FitsPlace lines.Target (place_format total) bytes z rest fits e)
line_kind total (suc (suc (suc (suc (suc (suc k)))))) bytes z rest le fits e = absurd (omega arith)

abbrev lines_of : ℕ → ℕ → Reading Line
lines_of total k bytes = kind_of_line k total bytes

line_format : (total : ℕ) → IsFormat line (line_at total) FitsLine
unfolding line_at
line_format total = record {
  takes = kind_takes line FitsLine 5 total (lines_of total) (lit< tt) (line_kind total);
  again = again;
}
  where
    again : (z : Line) (rest : List ℕ) → FitsLine z → (up_to_at 5 total (line z ++ rest) >>= λ kind. kind_of_line kind.0 total kind.1) ≡ Ok (z, rest)
    again (lines.Lir i) rest fits = kind_again 5 total 0 (lines_of total) number (number_at total) IsNumber lines.Lir (lit≤ tt) (lit< tt) (λ bytes. refl) (number_format total) i rest fits
    again (lines.Store r v) rest fits = kind_again 5 total 1 (lines_of total) stored (stored_at total) FitsStored to_store (lit≤ tt) (lit< tt) (λ bytes. refl) (stored_format total) (r, v) rest fits
    again (lines.Load r v) rest fits = kind_again 5 total 2 (lines_of total) stored (stored_at total) FitsStored to_load (lit≤ tt) (lit< tt) (λ bytes. refl) (stored_format total) (r, v) rest fits
    again (lines.Moves ms) rest fits = kind_again 5 total 3 (lines_of total) (list move) (list_at (move_at total) total) (KeepsList IsNumber FitsMove) lines.Moves (lit≤ tt) (lit< tt) (λ bytes. refl) (moves_format total) ms rest fits
    again (lines.Result r) rest fits = kind_again 5 total 4 (lines_of total) number (register_at total) IsRegister lines.Result (lit≤ tt) (lit< tt) (λ bytes. refl) (register_format total) r rest fits
    again (lines.Target p) rest fits = kind_again 5 total 5 (lines_of total) place (place_at total) FitsPlace lines.Target (lit≤ tt) (lit< tt) (λ bytes. refl) (place_format total) p rest fits

---- Results

module _ (total : ℕ) where
  rows : IsFormat (list places) (list_at (places_at total) total) (KeepsList IsNumber FitsPlaces)
  rows = list_format places (places_at total) FitsPlaces (places_format total) total

  line_lists : IsFormat (list (list line)) (list_at (list_at (line_at total) total) total) (KeepsList IsNumber (KeepsList IsNumber FitsLine))
  line_lists = list_format (list line) (list_at (line_at total) total) (KeepsList IsNumber FitsLine) (list_format line (line_at total) FitsLine (line_format total) total) total

  reg_lists : IsFormat (list (list number)) (list_at (list_at (register_at total) total) total) (KeepsList IsNumber (KeepsList IsNumber IsRegister))
  reg_lists = list_format (list number) (list_at (register_at total) total) (KeepsList IsNumber IsRegister) (list_format number (register_at total) IsRegister (register_format total) total) total

  abbrev made : ℕ → List Places → List Places → List (List Line) → List (List ℕ) → TraceOut
  made t s e l g = record { trace = t; starts = s; ends = e; lines = l; regs = g }

  pub result_format : IsFormat result (result_at total) FitsResult
  unfolding result_at
  result_format = record {
    takes = λ bytes z rest fits e.
        let a = bind_ok (number_at total bytes) (λ t. list_at (places_at total) total t.1 >>= λ s. list_at (places_at total) total s.1 >>= λ n. list_at (list_at (line_at total) total) total n.1 >>= λ l. list_at (list_at (register_at total) total) total l.1 >>= λ g. give (made t.0 s.0 n.0 l.0 g.0) g.1) (z, rest) e in
        let b = bind_ok (list_at (places_at total) total a.0.1) (λ s. list_at (places_at total) total s.1 >>= λ n. list_at (list_at (line_at total) total) total n.1 >>= λ l. list_at (list_at (register_at total) total) total l.1 >>= λ g. give (made a.0.0 s.0 n.0 l.0 g.0) g.1) (z, rest) a.2 in
        let c = bind_ok (list_at (places_at total) total b.0.1) (λ n. list_at (list_at (line_at total) total) total n.1 >>= λ l. list_at (list_at (register_at total) total) total l.1 >>= λ g. give (made a.0.0 b.0.0 n.0 l.0 g.0) g.1) (z, rest) b.2 in
        let d = bind_ok (list_at (list_at (line_at total) total) total c.0.1) (λ l. list_at (list_at (register_at total) total) total l.1 >>= λ g. give (made a.0.0 b.0.0 c.0.0 l.0 g.0) g.1) (z, rest) c.2 in
        let f = bind_ok (list_at (list_at (register_at total) total) total d.0.1) (λ g. give (made a.0.0 b.0.0 c.0.0 d.0.0 g.0) g.1) (z, rest) d.2 in
        let t0 = (number_format total).takes bytes a.0.0 a.0.1 fits a.1 in
        let t1 = rows.takes a.0.1 b.0.0 b.0.1 t0.0.rest_fits b.1 in
        let t2 = rows.takes b.0.1 c.0.0 c.0.1 t1.0.rest_fits c.1 in
        let t3 = line_lists.takes c.0.1 d.0.0 d.0.1 t2.0.rest_fits d.1 in
        let t4 = reg_lists.takes d.0.1 f.0.0 f.0.1 t3.0.rest_fits f.1 in
        let e3 = takes_then c.0.1 (list (list line) d.0.0) d.0.1 (list (list number) f.0.0) f.0.1 t3.0 t4.0 in
        let e2 = takes_then b.0.1 (list places c.0.0) c.0.1 (list (list line) d.0.0 ++ list (list number) f.0.0) f.0.1 t2.0 e3 in
        let e1 = takes_then a.0.1 (list places b.0.0) b.0.1 (list places c.0.0 ++ (list (list line) d.0.0 ++ list (list number) f.0.0)) f.0.1 t1.0 e2 in
        let e0 = takes_then bytes (number a.0.0) a.0.1 (list places b.0.0 ++ (list places c.0.0 ++ (list (list line) d.0.0 ++ list (list number) f.0.0))) f.0.1 t0.0 e1 in
        let all : TraceOut × List ℕ = (made a.0.0 b.0.0 c.0.0 d.0.0 f.0.0, f.0.1) in
        subst (λ (y : TraceOut × List ℕ). Takes bytes (result y.0) y.1 × FitsResult y.0) (ok_is all (z, rest) f.2) (e0, record { trace = t0.1; starts = t1.1; ends = t2.1; lines = t3.1; regs = t4.1 });
    again = λ z rest fits.
        let r3 = list (list number) z.regs ++ rest in
        let r2 = list (list line) z.lines ++ r3 in
        let r1 = list places z.ends ++ r2 in
        let r0 = list places z.starts ++ r1 in
        let grouped : result z ++ rest ≡ number z.trace ++ r0 =
        append_assoc (number z.trace) (from_starts z) rest
        ∙ ap (λ x. number z.trace ++ x) (append_assoc (list places z.starts) (from_ends z) rest
        ∙ ap (λ x. list places z.starts ++ x) (append_assoc (list places z.ends) (list (list line) z.lines ++ list (list number) z.regs) rest
        ∙ ap (λ x. list places z.ends ++ x) (append_assoc (list (list line) z.lines) (list (list number) z.regs) rest))) in
        ap (result_at total) grouped
        ∙ bind_of (number_at total (number z.trace ++ r0)) (λ t. list_at (places_at total) total t.1 >>= λ s. list_at (places_at total) total s.1 >>= λ n. list_at (list_at (line_at total) total) total n.1 >>= λ l. list_at (list_at (register_at total) total) total l.1 >>= λ g. give (made t.0 s.0 n.0 l.0 g.0) g.1) (z.trace, r0) ((number_format total).again z.trace r0 fits.trace)
        ∙ bind_of (list_at (places_at total) total r0) (λ s. list_at (places_at total) total s.1 >>= λ n. list_at (list_at (line_at total) total) total n.1 >>= λ l. list_at (list_at (register_at total) total) total l.1 >>= λ g. give (made z.trace s.0 n.0 l.0 g.0) g.1) (z.starts, r1) (rows.again z.starts r1 fits.starts)
        ∙ bind_of (list_at (places_at total) total r1) (λ n. list_at (list_at (line_at total) total) total n.1 >>= λ l. list_at (list_at (register_at total) total) total l.1 >>= λ g. give (made z.trace z.starts n.0 l.0 g.0) g.1) (z.ends, r2) (rows.again z.ends r2 fits.ends)
        ∙ bind_of (list_at (list_at (line_at total) total) total r2) (λ l. list_at (list_at (register_at total) total) total l.1 >>= λ g. give (made z.trace z.starts z.ends l.0 g.0) g.1) (z.lines, r3) (line_lists.again z.lines r3 fits.lines)
        ∙ bind_of (list_at (list_at (register_at total) total) total r3) (λ g. give (made z.trace z.starts z.ends z.lines g.0) g.1) (z.regs, rest) (reg_lists.again z.regs rest fits.regs);
  }
