-- Programs with one form, whose uses of strings are numbered in order, have one form with those numbers.
use Rattle.std.proofs.Common.{◌≡◌, ℕ, ◌≤◌, List, [], ◌∷◌, map, length, None, refl, sym, ap, ap₂, subst, ◌∙◌, arith}
use Rattle.std.specs.Prelude.{option_map, flat_map}
use Rattle.std.proofs.lemmas.List.{length-append}
use Rattle.ob_types.specs.Meaning.{texts_of}
use Rattle.ob_types.specs.declared.program.Procedure.{Procedure}
use Rattle.ob_types.specs.declared.program.Program.{Program}
use Rattle.ob_judge.specs.Image as I
use Rattle.ob_judge.specs.Texts.{in_statements, in_answer}
use Rattle.ob_judge.specs.Texts.{texts_of as strings_of}
use Rattle.judged_tree.specs.Plain.{plain_program, plain_procedure, plain_body, plain_checked}
use Rattle.ob_types.specs.Table.{Table}
use Rattle.one_lowering.specs.Forms.{tally, numbered_procedure, HaveOneForm}
use Rattle.one_lowering.specs.Order.{UsesInOrder}
use Rattle.one_lowering.proofs.Lists.{map_map, flat_of_map}
use Rattle.one_lowering.proofs.Erased.{erased_statements, erased_answer, same_with_strings}
use Rattle.one_lowering.proofs.Uses.{AllBelow, parts, same_body, same_answer, tally_below}

-- a form without its body and answer
abbrev pub outside : I.Procedure → I.Procedure
outside q = record q { texts = []; body = I.no_statement; answer = None }

-- a procedure's form with so many numbers for its strings
abbrev pub with_numbers : Table → ℕ → Procedure → I.Procedure
with_numbers t many q = plain_procedure t (numbered_procedure many q)

-- a procedure's uses are in order
abbrev pub InOrder : Table → ℕ → Procedure → Type 0
InOrder v many q = strings_of (plain_body v (tally 0 many) q.body) (option_map (plain_checked v (tally 0 many)) q.answer) ≡ tally 0 (length q.texts)

without_strings : (v : Table) (many : ℕ) (q : Procedure) → length q.texts ≤ many → InOrder v many q
    → (erased_statements (plain_body v (tally 0 many) q.body) ≡ erased_statements (plain_body v q.texts q.body))
    × (erased_answer (option_map (plain_checked v (tally 0 many)) q.answer) ≡ erased_answer (option_map (plain_checked v q.texts) q.answer))
without_strings v many q few order =
    let all = subst (λ xs. AllBelow (length q.texts) xs) (sym order) (tally_below (length q.texts) 0 (length q.texts) (omega arith)) in
    let b = parts (length q.texts) (in_statements (plain_body v (tally 0 many) q.body)) (in_answer (option_map (plain_checked v (tally 0 many)) q.answer)) all in
    (same_body v many q.texts few q.body b.0, same_answer v many q.texts few q.answer b.1)

-- procedures whose forms are the same have one body and one answer also with numbers for their strings, however many
pub bodies_alike : (t u : Table) (many more : ℕ) (q r : Procedure) → length q.texts ≤ many → length r.texts ≤ more → plain_procedure t q ≡ plain_procedure u r → InOrder t many q → InOrder u more r
    → ((with_numbers t many q).body ≡ (with_numbers u more r).body) × ((with_numbers t many q).answer ≡ (with_numbers u more r).answer)
bodies_alike t u many more q r few less same first second =
    let a = without_strings t many q few first in
    let b = without_strings u more r less second in
    let texts : q.texts ≡ r.texts = ap (λ x. x.texts) same in
    let bodies = a.0 ∙ (ap (λ x. erased_statements x.body) same ∙ sym b.0) in
    let answers = a.1 ∙ (ap (λ x. erased_answer x.answer) same ∙ sym b.1) in
    let strings = first ∙ (ap (λ xs. tally 0 (length xs)) texts ∙ sym second) in
    same_with_strings (plain_body t (tally 0 many) q.body) (plain_body u (tally 0 more) r.body) (option_map (plain_checked t (tally 0 many)) q.answer) (option_map (plain_checked u (tally 0 more)) r.answer) bodies answers strings

-- with as many numbers for the strings of each
module _ (t u : Table) (many : ℕ) where
  procedure_alike : (q r : Procedure) → length q.texts ≤ many → length r.texts ≤ many → plain_procedure t q ≡ plain_procedure u r → InOrder t many q → InOrder u many r → with_numbers t many q ≡ with_numbers u many r
  procedure_alike q r few less same first second =
      let both = bodies_alike t u many many q r few less same first second in
      λ k. record (same k) { texts = tally 0 many; body = both.0 k; answer = both.1 k }

  -- one by one
  abbrev AllInOrder : Table → List Procedure → Type 0
  AllInOrder v qs = map (λ (x : I.Procedure). strings_of x.body x.answer) (map (plain_procedure v) (map (numbered_procedure many) qs)) ≡ map (λ (x : Procedure). tally 0 (length x.texts)) qs

  first_of : {A : Type 0} (x y : A) (xs ys : List A) → x ∷ xs ≡ y ∷ ys → x ≡ y
  first_of x y xs ys e = cc

  rest_of : {A : Type 0} (x y : A) (xs ys : List A) → x ∷ xs ≡ y ∷ ys → xs ≡ ys
  rest_of x y xs ys e = cc

  few_of : (q : Procedure) (qs : List Procedure) → length (texts_of (q ∷ qs)) ≤ many → (length q.texts ≤ many) × (length (texts_of qs) ≤ many)
  few_of q qs l = let e = length-append q.texts (texts_of qs) in (omega (arith, e, l), omega (arith, e, l))

  procedures_alike : (qs rs : List Procedure) → length (texts_of qs) ≤ many → length (texts_of rs) ≤ many → map (plain_procedure t) qs ≡ map (plain_procedure u) rs → AllInOrder t qs → AllInOrder u rs
      → map (plain_procedure t) (map (numbered_procedure many) qs) ≡ map (plain_procedure u) (map (numbered_procedure many) rs)
  procedures_alike [] [] few less same first second = refl
  procedures_alike [] (r ∷ rs) few less same first second = absurd (let e = same in cc)
  procedures_alike (q ∷ qs) [] few less same first second = absurd (let e = same in cc)
  procedures_alike (q ∷ qs) (r ∷ rs) few less same first second =
      let a = few_of q qs few in
      let b = few_of r rs less in
      ap₂ (λ x xs. x ∷ xs)
      (procedure_alike q r a.0 b.0 (first_of _ _ (map (plain_procedure t) qs) (map (plain_procedure u) rs) same) (first_of _ _ _ _ first) (first_of _ _ _ _ second))
      (procedures_alike qs rs a.1 b.1 (rest_of (plain_procedure t q) (plain_procedure u r) _ _ same) (rest_of _ _ _ _ first) (rest_of _ _ _ _ second))

pub one_form : (p q : Program) (sources others : List (List ℕ)) → plain_program sources p ≡ plain_program others q → UsesInOrder p → UsesInOrder q → HaveOneForm p q
one_form p q sources others same first second =
    let texts : map (λ (x : Procedure). x.texts) p.procedures ≡ map (λ (x : Procedure). x.texts) q.procedures =
    sym (map_map (λ (x : I.Procedure). x.texts) (plain_procedure p.types) p.procedures) ∙ (ap (λ x. map (λ (y : I.Procedure). y.texts) x.procedures) same ∙ map_map (λ (x : I.Procedure). x.texts) (plain_procedure q.types) q.procedures) in
    let all : texts_of p.procedures ≡ texts_of q.procedures =
    sym (flat_of_map (λ (x : Procedure). x.texts) p.procedures) ∙ (ap (λ xss. flat_map (λ xs. xs) xss) texts ∙ flat_of_map (λ (x : Procedure). x.texts) q.procedures) in
    let many : length (texts_of q.procedures) ≡ length (texts_of p.procedures) = ap length (sym all) in
    let own = first.each in
    let its = subst (λ n. map (λ (x : I.Procedure). strings_of x.body x.answer) (map (plain_procedure q.types) (map (numbered_procedure n) q.procedures)) ≡ map (λ (x : Procedure). tally 0 (length x.texts)) q.procedures) many second.each in
    let alike = procedures_alike p.types q.types (length (texts_of p.procedures)) p.procedures q.procedures (omega arith) (omega (arith, many)) (ap (λ x. x.procedures) same) own its in
    record {
      sources = sources;
      others = others;
      form = (λ k. record (same k) { procedures = alike k }) ∙ ap (λ n. record (plain_program others q) { procedures = map (plain_procedure q.types) (map (numbered_procedure n) q.procedures) }) (sym many);
      texts = texts;
    }
