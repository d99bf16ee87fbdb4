-- Procedures that are the first of others are so with numbers for their strings too, but for how many numbers there are.
use Rattle.std.proofs.Common.{◌≡◌, ℕ, ◌≤◌, List, [], ◌∷◌, ◌++◌, map, length, refl, sym, ap₂, arith}
use Rattle.std.proofs.lemmas.List.{length-append}
use Rattle.ob_types.specs.Meaning.{texts_of}
use Rattle.ob_types.specs.Table.{Table}
use Rattle.ob_types.specs.declared.program.Procedure.{Procedure}
use Rattle.ob_judge.specs.Image as I
use Rattle.ob_judge.specs.Texts.{texts_of as strings_of}
use Rattle.judged_tree.specs.Plain.{plain_procedure}
use Rattle.judged_fronts.specs.Fronts.{IsFront}
use Rattle.one_lowering.specs.Forms.{tally, numbered_procedure}
use Rattle.one_lowering.proofs.InOrder.{with_numbers, bodies_alike}
use Rattle.moved_lowering.specs.Starts.{unspelled, bodies_of}

first_of : {A : Type 0} (x y : A) (xs ys : List A) → x ∷ xs ≡ y ∷ ys → x ≡ y
first_of x y xs ys e = cc

rest_of : {A : Type 0} (x y : A) (xs ys : List A) → x ∷ xs ≡ y ∷ ys → xs ≡ ys
rest_of x y xs ys e = cc

few_of : (many : ℕ) (q : Procedure) (qs : List Procedure) → length (texts_of (q ∷ qs)) ≤ many → (length q.texts ≤ many) × (length (texts_of qs) ≤ many)
few_of many q qs l = let e = length-append q.texts (texts_of qs) in (omega (arith, e, l), omega (arith, e, l))

-- the forms of procedures, each with so many numbers
abbrev forms : Table → ℕ → List Procedure → List I.Procedure
forms v many qs = map (plain_procedure v) (map (numbered_procedure many) qs)

-- their uses are in order
abbrev AllInOrder : Table → ℕ → List Procedure → Type 0
AllInOrder v many qs = map (λ (x : I.Procedure). strings_of x.body x.answer) (forms v many qs) ≡ map (λ (x : Procedure). tally 0 (length x.texts)) qs

module _ (t u : Table) (many more : ℕ) where
  one_alike : (q r : Procedure) → length q.texts ≤ many → length r.texts ≤ more → plain_procedure t q ≡ plain_procedure u r
      → strings_of (with_numbers t many q).body (with_numbers t many q).answer ≡ tally 0 (length q.texts)
      → strings_of (with_numbers u more r).body (with_numbers u more r).answer ≡ tally 0 (length r.texts)
      → unspelled (with_numbers u more r) ≡ unspelled (with_numbers t many q)
  one_alike q r few less same first second =
      let both = bodies_alike t u many more q r few less same first second in
      sym (λ k. record (same k) { texts = []; body = both.0 k; answer = both.1 k })

  pub first_numbered : (qs rs : List Procedure) → length (texts_of qs) ≤ many → length (texts_of rs) ≤ more → (rest : List I.Procedure) → map (plain_procedure u) rs ≡ map (plain_procedure t) qs ++ rest
      → AllInOrder t many qs → AllInOrder u more rs → IsFront (bodies_of (forms t many qs)) (bodies_of (forms u more rs))
  first_numbered [] rs few less rest same first second = record { rest = bodies_of (forms u more rs); is = refl }
  first_numbered (q ∷ qs) [] few less rest same first second = absurd (let e = same in cc)
  first_numbered (q ∷ qs) (r ∷ rs) few less rest same first second =
      let a = few_of many q qs few in
      let b = few_of more r rs less in
      let head = one_alike q r a.0 b.0 (sym (first_of (plain_procedure u r) (plain_procedure t q) (map (plain_procedure u) rs) (map (plain_procedure t) qs ++ rest) same)) (first_of _ _ _ _ first) (first_of _ _ _ _ second) in
      let tail = first_numbered qs rs a.1 b.1 rest (rest_of (plain_procedure u r) (plain_procedure t q) (map (plain_procedure u) rs) (map (plain_procedure t) qs ++ rest) same) (rest_of _ _ _ _ first) (rest_of _ _ _ _ second) in
      record { rest = tail.rest; is = ap₂ (λ x xs. x ∷ xs) head tail.is }
