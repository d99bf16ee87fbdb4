-- The lines of record types: each is its record type before the line of its base.
use Rattle.std.proofs.Common.{◌≡◌, ℕ, zero, suc, ◌<◌, ◌≤◌, List, [], ◌∷◌, ◌++◌, length, Some, refl, ap, sym, ◌∙◌, arith, ◌⊎◌, inl, inr}
use Rattle.std.specs.Prelude.{slice_get, slice_set}
use Rattle.ob_types.proofs.Tests.{some_same, less_or_past}
use Rattle.ob_judge.specs.Shapes.{Layout}
use Rattle.ob_judge.specs.Making.{no_layout}
use Rattle.judged_modules.specs.Lines.{IsLine, AllLines, unknown, root, behind}
use Rattle.judged_modules.proofs.Lists.{get_append, get_last, get_within, set_other, set_here, append_length}

-- the line of its base: none, or that of a record type
pub data IsBaseLine (records : List Layout) (line : List ℕ) : Type 0 where
  alone : line ≡ [] → IsBaseLine records line
  based : (b : ℕ) (l : Layout) → slice_get records b ≡ Some l → (l.line ≡ [] → ⊥) → line ≡ l.line → IsBaseLine records line

-- where what is there stays
pub base_line_later : (records more : List Layout) (line : List ℕ) → ((r : ℕ) → r < length records → slice_get more r ≡ slice_get records r) → IsBaseLine records line → IsBaseLine more line
base_line_later records more line same h = elim h as (λ _. IsBaseLine more line) [
  | alone a ↦ alone a
  | based b l at some e ↦ based b l (same b (get_within records b l at) ∙ at) some e
]

is_last : (r n : ℕ) → n ≤ r → r < suc n → r ≡ n
is_last r n a b = omega (arith, a, b)

last_more : (xs : List Layout) (y : Layout) (r : ℕ) → r < length (xs ++ y ∷ []) → r < suc (length xs)
last_more xs y r l = let h = append_length xs (y ∷ []) in omega (arith, l, h)

pub lines_with_record : (records : List Layout) → AllLines records → AllLines (records ++ no_layout ∷ [])
lines_with_record records all r l at = elim (less_or_past r (length records)) as (λ _. IsLine (records ++ no_layout ∷ []) r l.line) [
  | inl less ↦ elim (all r l (sym (get_append records (no_layout ∷ []) r less) ∙ at)) as (λ _. IsLine (records ++ no_layout ∷ []) r l.line) [
    | unknown e ↦ unknown e
    | root e ↦ root e
    | behind b m at_b some e ↦ behind b m (get_append records (no_layout ∷ []) b (get_within records b m at_b) ∙ at_b) some e
  ]
  | inr past ↦
      let e = is_last r (length records) past (last_more records no_layout r (get_within (records ++ no_layout ∷ []) r l at)) in
      unknown (sym (ap (λ x. x.line) (some_same no_layout l (sym (get_last records no_layout) ∙ ap (slice_get (records ++ no_layout ∷ [])) (sym e) ∙ at))))
]

pub decided : (r n : ℕ) → (r ≡ n) ⊎ (r ≡ n → ⊥)
decided zero zero = inl refl
decided zero (suc n) = inr (λ e. absurd (omega (arith, e)))
decided (suc r) zero = inr (λ e. absurd (omega (arith, e)))
decided (suc r) (suc n) = elim (decided r n) as (λ _. (suc r ≡ suc n) ⊎ (suc r ≡ suc n → ⊥)) [ inl e ↦ inl (ap suc e) | inr d ↦ inr (λ e. d (omega (arith, e))) ]

complete_apart : (records : List Layout) (n b : ℕ) (m : Layout) → slice_get records n ≡ Some no_layout → slice_get records b ≡ Some m → (m.line ≡ [] → ⊥) → b ≡ n → ⊥
complete_apart records n b m empty at some e = some (sym (ap (λ x. x.line) (some_same no_layout m (sym empty ∙ ap (slice_get records) (sym e) ∙ at))))

pub lines_set : (records : List Layout) (n : ℕ) (line : List ℕ) (l : Layout) → slice_get records n ≡ Some no_layout → l.line ≡ n ∷ line → AllLines records → IsBaseLine records line → AllLines (slice_set records n l)
lines_set records n line l empty is all base r m at = elim (decided r n) as (λ _. IsLine (slice_set records n l) r m.line) [
  | inl e ↦
      let same = some_same l m (sym (set_here records n l (get_within records n no_layout empty)) ∙ ap (slice_get (slice_set records n l)) (sym e) ∙ at) in
      let mine : m.line ≡ r ∷ line = sym (ap (λ x. x.line) same) ∙ is ∙ ap (λ k. k ∷ line) (sym e) in
      elim base as (λ _. IsLine (slice_set records n l) r m.line) [
        | alone a ↦ root (mine ∙ ap (λ xs. r ∷ xs) a)
        | based b k at_b some e2 ↦ behind b k (set_other records n b l (complete_apart records n b k empty at_b some) ∙ at_b) some (mine ∙ ap (λ xs. r ∷ xs) e2)
      ]
  | inr d ↦ elim (all r m (sym (set_other records n r l d) ∙ at)) as (λ _. IsLine (slice_set records n l) r m.line) [
    | unknown e ↦ unknown e
    | root e ↦ root e
    | behind b k at_b some e ↦ behind b k (set_other records n b l (complete_apart records n b k empty at_b some) ∙ at_b) some e
  ]
]
