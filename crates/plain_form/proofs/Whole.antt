-- A whole file: a mark, what is read behind it, and nothing more.
use Rattle.std.proofs.Common.{◌≡◌, ℕ, ◌+◌, ◌-◌, ◌<◌, Bool, true, false, cond, ltb, eqb, List, [], ◌++◌, length, get_or, take, drop, Ok, Err, refl, sym, ap, subst, ◌∙◌, arith, get_or-drop}
use Rattle.std.specs.Str.{bytes_eq}
use Rattle.std.proofs.lemmas.Slice.Eq.{bytes_eq-Decides}
use Rattle.std.proofs.lemmas.Bool.{le-ltb, eqb-true}
use Rattle.std.proofs.lemmas.List.{append-nil, nil_from_length, take_at, drop_at, take-append-drop, length-append}
use Rattle.plain_form.specs.declared.fault.FormRule.{FormRule}
use Rattle.plain_form.specs.declared.fault.FormRule.TheVariants.{Mark, Trailing}
use Rattle.plain_form.specs.Reading.{Broken, Reading, ◌>>=◌, missing, mark_at, whole_of}
use Rattle.plain_form.specs.Formats.{IsBytes, IsFormat}
use Rattle.plain_form.proofs.Formats.{bind_ok, bind_of, done}

abbrev fault : FormRule → ℕ → Broken
fault rule at = record { rule = rule; at = at }

guard_ended : {A : Type 0} (b : Bool) (d : Broken) (x y : A) → cond b (Ok x) (Err d) ≡ Ok y → (b ≡ true) × (x ≡ y)
guard_ended true d x y e = (refl, cc)
guard_ended false d x y e = absurd cc

module _ (mark : List ℕ) where
  mark_takes : (bytes rest : List ℕ) → mark_at mark bytes ≡ Ok rest → (bytes ≡ mark ++ rest) × (rest ≡ drop (length mark) bytes)
  unfolding mark_at
  mark_takes bytes rest e = by (ltb (length bytes) (length mark)) e
    where
      by : (b : Bool) → cond b (missing {X = List ℕ} (length bytes)) (cond (bytes_eq (take (length mark) bytes) mark) (done (drop (length mark) bytes)) (Err (fault Mark 0))) ≡ Ok rest → (bytes ≡ mark ++ rest) × (rest ≡ drop (length mark) bytes)
      by true e = cc
      by false e =
          let g = guard_ended (bytes_eq (take (length mark) bytes) mark) (fault Mark 0) (drop (length mark) bytes) rest e in
          let same : take (length mark) bytes ≡ mark = (bytes_eq-Decides (take (length mark) bytes) mark).0 g.0 in
          (sym (take-append-drop (length mark) bytes) ∙ ap (λ t. t ++ drop (length mark) bytes) same ∙ ap (λ t. mark ++ t) g.1, sym g.1)

  mark_again : (rest : List ℕ) → mark_at mark (mark ++ rest) ≡ Ok rest
  unfolding mark_at
  mark_again rest =
      let long : ltb (length (mark ++ rest)) (length mark) ≡ false = le-ltb _ _ (omega (arith, length-append mark rest)) in
      let front : take (length mark) (mark ++ rest) ≡ mark = take_at mark rest (length mark) refl in
      let back : drop (length mark) (mark ++ rest) ≡ rest = drop_at mark rest (length mark) refl in
      ap (λ b. cond b (missing {X = List ℕ} (length (mark ++ rest))) (cond (bytes_eq (take (length mark) (mark ++ rest)) mark) (done (drop (length mark) (mark ++ rest))) (Err (fault Mark 0)))) long
      ∙ ap (λ b. cond b (done (drop (length mark) (mark ++ rest))) (Err (fault Mark 0))) ((bytes_eq-Decides (take (length mark) (mark ++ rest)) mark).1 front)
      ∙ ap done back

  module _ {X : Type 0} (spell : X → List ℕ) (read : ℕ → Reading X) (Fits : X → Type 0) (format : (total : ℕ) → IsFormat spell (read total) Fits) where
    -- what is read of a whole has just these bytes
    pub whole_takes : (bytes : List ℕ) (x : X) → IsBytes bytes → whole_of mark read bytes ≡ Ok x → Fits x × (bytes ≡ mark ++ spell x)
    unfolding whole_of
    whole_takes bytes x fits e =
        let n = length bytes in
        let a = bind_ok (mark_at mark bytes) (λ m. read n m >>= λ y. cond (eqb (length y.1) 0) (Ok y.0) (Err (fault Trailing (n - length y.1)))) x e in
        let b = bind_ok (read n a.0) (λ y. cond (eqb (length y.1) 0) (Ok y.0) (Err (fault Trailing (n - length y.1)))) x a.2 in
        let g = guard_ended (eqb (length b.0.1) 0) (fault Trailing (n - length b.0.1)) b.0.0 x b.2 in
        let m = mark_takes bytes a.0 a.1 in
        let small : IsBytes a.0 = λ i. subst (λ xs. get_or xs i 0 < 256) (sym m.1) (rw get_or-drop (fits (length mark + i))) in
        let t = (format n).takes a.0 b.0.0 b.0.1 small b.1 in
        let nothing : b.0.1 ≡ [] = nil_from_length b.0.1 (eqb-true _ _ g.0) in
        let whole : bytes ≡ mark ++ spell b.0.0 = m.0 ∙ ap (λ y. mark ++ y) (t.0.parts ∙ ap (λ r. spell b.0.0 ++ r) nothing ∙ append-nil (spell b.0.0)) in
        subst (λ y. Fits y × (bytes ≡ mark ++ spell y)) g.1 (t.1, whole)

    -- and what has these bytes is read again
    pub whole_again : (x : X) → Fits x → whole_of mark read (mark ++ spell x) ≡ Ok x
    unfolding whole_of
    whole_again x fits =
        let n = length (mark ++ spell x) in
        let text : read n (spell x) ≡ Ok (x, []) = ap (read n) (sym (append-nil (spell x))) ∙ (format n).again x [] fits in
        bind_of (mark_at mark (mark ++ spell x)) (λ m. read n m >>= λ y. cond (eqb (length y.1) 0) (Ok y.0) (Err (fault Trailing (n - length y.1)))) (spell x) (mark_again (spell x))
        ∙ bind_of (read n (spell x)) (λ y. cond (eqb (length y.1) 0) (Ok y.0) (Err (fault Trailing (n - length y.1)))) (x, []) text
