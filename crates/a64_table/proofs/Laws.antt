-- The laws of the table: a word stands for an instruction exactly where it is that instruction's word.
use Rattle.std.proofs.Common.{◌≡◌, ◌↔◌, ℕ, Option, Some, None, if◌then◌else◌, refl, sym, ap, ◌∙◌, subst, ⊎_elim}
use Rattle.std.proofs.lemmas.Bool.{eq-eqb, ne_eqb}
use Rattle.std.proofs.lemmas.Bool.Decides.{eqb_tells}
use Rattle.std.specs.Prelude.{IfSome}
use Rattle.a64_table.specs.Table.{word_of, InRange}
use Rattle.a64_table.specs.Decode.{row_at, exactly, decode_of}
use Rattle.a64_table.proofs.Rows.{reads}
use Rattle.a64_table.proofs.Ranges.{Fits, row_fits}
use Rattle.a64_instr.specs.declared.instr.Instr.{Instr}

-- each instruction with fields in range is what its word stands for
pub decodes : (i : Instr) → InRange i → decode_of (word_of i) ≡ Some i
unfolding decode_of
decodes i h = ap (exactly (word_of i)) (reads i h) ∙ ap (λ b. if b then Some i else None) (eq-eqb (word_of i) (word_of i) refl)

found_exactly : (w : ℕ) (row : Option Instr) → Fits row → (j : Instr) → exactly w row ≡ Some j → InRange j × (word_of j ≡ w)
found_exactly w None fits j e = cc
found_exactly w (Some i) fits j e =
    ⊎_elim
    (λ t. let hit : Some i ≡ Some j = sym (ap (λ b. if b then Some i else None) t.0) ∙ e in let same : i ≡ j = cc in subst (λ x. InRange x × (word_of x ≡ w)) same (fits.by i refl, t.1))
    (λ t. let miss : None ≡ Some j = sym (ap (λ b. if b then Some i else None) t.0) ∙ e in cc)
    (eqb_tells (word_of i) w)

-- the instruction that a word stands for has fields in range, and its word is the word
pub found : (w : ℕ) (i : Instr) → decode_of w ≡ Some i → InRange i × (word_of i ≡ w)
unfolding decode_of
found w i e = found_exactly w (row_at w) (row_fits w) i e

-- a word is the word of one instruction at most, which it stands for
pub only : (w : ℕ) (i : Instr) → InRange i → word_of i ≡ w → decode_of w ≡ Some i
only w i h is = ap decode_of (sym is) ∙ decodes i h

-- a word stands for an instruction exactly where it is that instruction's word
pub table : (w : ℕ) (i : Instr) → (decode_of w ≡ Some i) ↔ (InRange i × (word_of i ≡ w))
table w i = (found w i, λ h. only w i h.0 h.1)

-- a word stands for nothing exactly where it is no instruction's word
pub nothing : (w : ℕ) → (decode_of w ≡ None) ↔ ((i : Instr) → InRange i → word_of i ≡ w → ⊥)
nothing w = (λ e i h is. let there = only w i h is in cc, λ never. at_value (decode_of w) refl never)
  where
    at_value : (d : Option Instr) → decode_of w ≡ d → ((i : Instr) → InRange i → word_of i ≡ w → ⊥) → decode_of w ≡ None
    at_value None e never = e
    at_value (Some i) e never = let f = found w i e in absurd (never i f.0 f.1)

-- what a word stands for, where it stands for anything, has the word
pub again : (w : ℕ) → IfSome (decode_of w) (λ i. InRange i × (word_of i ≡ w))
again w = at_value (decode_of w) refl
  where
    at_value : (d : Option Instr) → decode_of w ≡ d → IfSome d (λ i. InRange i × (word_of i ≡ w))
    at_value None e = tt
    at_value (Some i) e = found w i e

-- a word stands for nothing where no row can have it
pub no_row : (w : ℕ) → row_at w ≡ None → decode_of w ≡ None
unfolding decode_of
no_row w e = ap (exactly w) e

-- a word stands for the instruction of the row that can have it, where that instruction's word is the word
pub that_row : (w : ℕ) (i : Instr) → row_at w ≡ Some i → word_of i ≡ w → decode_of w ≡ Some i
unfolding decode_of
that_row w i e is = ap (exactly w) e ∙ ap (λ b. if b then Some i else None) (eq-eqb (word_of i) w is)

-- and for nothing where it isn't
pub another_row : (w : ℕ) (i : Instr) → row_at w ≡ Some i → (word_of i ≡ w → ⊥) → decode_of w ≡ None
unfolding decode_of
another_row w i e other = ap (exactly w) e ∙ ap (λ b. if b then Some i else None) (ne_eqb (word_of i) w other)
