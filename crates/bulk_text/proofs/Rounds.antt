-- One part more, and those that are left.
use Rattle.std.proofs.Common.{◌≡◌, ℕ, zero, suc, ◌+◌, ◌-◌, ◌<◌, ◌≤◌, List, ◌++◌, sym, ap, ◌∙◌, append_assoc, arith}
use Rattle.std.proofs.lemmas.List.{append-nil}
use Rattle.std.specs.Prelude.{codes, decimal}
use Rattle.bulk_text.specs.Bulk.{line, statement, behind_statement, statements, behind_statements, ending, procedure, behind_procedure, procedures}

-- a text so far with so many statements that are left is the whole
pub record Lefts (whole : List ℕ) (end : ℕ) (text : List ℕ) (left x : ℕ) : Type 0 where
  pub text_is : text ++ statements left x ≡ whole
  pub end_is : behind_statements left x ≡ end

pub one_statement : (whole : List ℕ) (end : ℕ) (text after : List ℕ) (i x y : ℕ) → i < 8 → after ≡ text ++ statement x → y ≡ behind_statement x → Lefts whole end text (8 - i) x → Lefts whole end after (8 - (i + 1)) y
one_statement whole end text after i x y less now then left =
    let k : 8 - i ≡ suc (8 - (i + 1)) = omega arith in
    record {
      text_is = ap (λ (t : List ℕ). t ++ statements (8 - (i + 1)) y) now ∙ ap (λ (z : ℕ). (text ++ statement x) ++ statements (8 - (i + 1)) z) then
          ∙ append_assoc text (statement x) (statements (8 - (i + 1)) (behind_statement x)) ∙ ap (λ (n : ℕ). text ++ statements n x) (sym k) ∙ left.text_is;
      end_is = ap (λ (z : ℕ). behind_statements (8 - (i + 1)) z) then ∙ ap (λ (n : ℕ). behind_statements n x) (sym k) ∙ left.end_is;
    }

pub statements_done : (whole : List ℕ) (end : ℕ) (text : List ℕ) (i x : ℕ) → 8 ≤ i → Lefts whole end text (8 - i) x → (text ≡ whole) × (x ≡ end)
statements_done whole end text i x all left =
    let k : 8 - i ≡ 0 = omega arith in
    (sym (append-nil text) ∙ ap (λ (n : ℕ). text ++ statements n x) (sym k) ∙ left.text_is, ap (λ (n : ℕ). behind_statements n x) (sym k) ∙ left.end_is)

-- the same for procedures
pub one_procedure : (whole text after : List ℕ) (size i x y : ℕ) → i < size → after ≡ text ++ procedure i x → y ≡ behind_procedure x → text ++ procedures i (size - i) x ≡ whole → after ++ procedures (i + 1) (size - (i + 1)) y ≡ whole
one_procedure whole text after size i x y less now then left =
    let k : size - i ≡ suc (size - (i + 1)) = omega arith in
    let next : i + 1 ≡ suc i = omega arith in
    ap (λ (t : List ℕ). t ++ procedures (i + 1) (size - (i + 1)) y) now ∙ ap (λ (z : ℕ). (text ++ procedure i x) ++ procedures (i + 1) (size - (i + 1)) z) then
    ∙ ap (λ (n : ℕ). (text ++ procedure i x) ++ procedures n (size - (i + 1)) (behind_procedure x)) next
    ∙ append_assoc text (procedure i x) (procedures (suc i) (size - (i + 1)) (behind_procedure x)) ∙ ap (λ (n : ℕ). text ++ procedures i n x) (sym k) ∙ left

pub procedures_done : (whole text : List ℕ) (size i x : ℕ) → size ≤ i → text ++ procedures i (size - i) x ≡ whole → text ≡ whole
procedures_done whole text size i x all left =
    let k : size - i ≡ 0 = omega arith in
    sym (append-nil text) ∙ ap (λ (n : ℕ). text ++ procedures i n x) (sym k) ∙ left

---- Lines

pub ending_is : (i j : ℕ) → 1 ≤ i → j ≡ i - 1 → line (codes "RETURN P" ++ (decimal j ++ (codes "(c, d) END P" ++ (decimal i ++ codes ";")))) ≡ ending i
ending_is zero j some is = absurd (omega arith)
ending_is (suc n) j some is =
    let j_is : j ≡ n = omega (arith, is) in
    ap (λ (k : ℕ). line (codes "RETURN P" ++ (decimal k ++ (codes "(c, d) END P" ++ (decimal (suc n) ++ codes ";"))))) j_is

pub three_parts : (text a b c one two three : List ℕ) → one ≡ text ++ a → two ≡ one ++ b → three ≡ two ++ c → three ≡ text ++ (a ++ b ++ c)
three_parts text a b c one two three first second third =
    third ∙ ap (λ (xs : List ℕ). xs ++ c) (second ∙ ap (λ (xs : List ℕ). xs ++ b) first ∙ append_assoc text a b) ∙ append_assoc text (a ++ b) c
