-- The worked instance: what the code has made of the words, from the first to the jump back.
use Rattle.std.proofs.Common.{◌≡◌, ℕ, suc, ◌+◌, ◌<◌, ◌≤◌, List, [], ◌∷◌, ◌++◌, length, drop, get_or, refl, sym, ap, ◌∙◌, subst, append_assoc, add-one, drop-cons}
use Rattle.std.proofs.lemmas.List.{drop_all}
use Rattle.run_laws.specs.Runs.{InStep, run, Trapped}
use Rattle.countdown.specs.Countdown.{Trap, BelowZero, code_of, words_of, meaning, SameTrap, Undefined, machine, at_start}
use Rattle.run_laws.proofs.Agreement.{trap_never}
use Rattle.countdown.proofs.WordsInStep.{words_in_step}
use Rattle.countdown.specs.declared.Act.{Act}
use Rattle.countdown.specs.declared.Act.TheVariants.{Print, Down}
use Rattle.countdown.specs.declared.Countdown.{Countdown}
use Rattle.countdown.specs.declared.Word.{Word}
use Rattle.countdown.specs.declared.Word.TheVariants.{Load, JumpIfPositive, Halt, Jump}
use Rattle.run_laws.proofs.Weights.{append-nil}

-- the words of an act, and of the rest
code_of-cons : (a : Act) (rest : List Act) → code_of (a ∷ rest) ≡ code_of (a ∷ []) ++ code_of rest
code_of-cons Print rest = refl
code_of-cons Down rest = refl

-- one more act
pub act_added : (items : List Act) (i : ℕ) (a : Act) (old new whole : List Word) → i < length items → a ≡ get_or items i a → old ++ code_of (drop i items) ≡ whole → new ≡ old ++ code_of (a ∷ []) → new ++ code_of (drop (i + 1) items) ≡ whole
act_added items i a old new whole lt is before added =
    let e : drop i items ≡ a ∷ drop (i + 1) items = drop-cons items i a lt ∙ ap (λ x. x ∷ drop (suc i) items) (sym is) ∙ ap (λ k. a ∷ drop k items) (sym (add-one i)) in
    ap (λ x. x ++ code_of (drop (i + 1) items)) added
    ∙ append_assoc old (code_of (a ∷ [])) (code_of (drop (i + 1) items))
    ∙ ap (λ x. old ++ x) (sym (ap code_of e ∙ code_of-cons a (drop (i + 1) items)))
    ∙ before

-- all of them, and the jump back
pub words_done : (p : Countdown) (items : List Act) (i : ℕ) (before now new : List Word) → length items ≤ i → items ≡ p.body.items → now ++ code_of (drop i items) ≡ before ++ code_of items → before ≡ Load p.start ∷ JumpIfPositive 3 ∷ Halt ∷ [] → new ≡ now ++ Jump 1 ∷ [] → new ≡ words_of p
words_done p items i before now new le same kept first last =
    let all : now ≡ before ++ code_of items = sym (append-nil now) ∙ ap (λ x. now ++ code_of x) (sym (drop_all i items le)) ∙ kept in
    last
    ∙ ap (λ x. x ++ Jump 1 ∷ []) (all ∙ ap (λ x. x ++ code_of items) first ∙ ap (λ x. Load p.start ∷ JumpIfPositive 3 ∷ Halt ∷ code_of x) same)

-- the three words before the body
pub words_begun : (p : Countdown) (none one two three : List Word) → none ≡ [] → one ≡ none ++ Load p.start ∷ [] → two ≡ one ++ JumpIfPositive 3 ∷ [] → three ≡ two ++ Halt ∷ [] → three ≡ Load p.start ∷ JumpIfPositive 3 ∷ Halt ∷ []
words_begun p none one two three a b c d = d ∙ ap (λ x. x ++ Halt ∷ []) (c ∙ ap (λ x. x ++ JumpIfPositive 3 ∷ []) (b ∙ ap (λ x. x ++ Load p.start ∷ []) a))

-- from the words to what they do
pub made_in_step : (p : Countdown) (words : List Word) → words ≡ words_of p → InStep (machine words) (length words) SameTrap at_start (meaning p)
made_in_step p words is = subst (λ x. InStep (machine x) (length x) SameTrap at_start (meaning p)) (sym is) (words_in_step p)

pub made_defined : (p : Countdown) (words : List Word) → words ≡ words_of p → (m : ℕ) (out : List ℕ) → run (machine words).step m at_start [] ≡ Trapped Undefined out → ⊥
made_defined p words is = trap_never (machine words) (length words) SameTrap at_start (meaning p) (made_in_step p words is) Undefined (λ mine same. never mine same)
  where
    never : (mine : Trap) → SameTrap mine Undefined → ⊥
    never BelowZero same = same
