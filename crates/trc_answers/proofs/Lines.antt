-- Lines that are written in parts.
use Rattle.std.proofs.Common.{◌≡◌, ℕ, List, [], ◌∷◌, ◌++◌, Result, Ok, Err, OnOk, sym, ap, ◌∙◌, subst, append_assoc}
use Rattle.outside.specs.Sink.{Account, TookAll}
use Rattle.outside.proofs.Taking.{all_on}
use Rattle.trc_answers.specs.Causes.{line}

-- two parts that are taken one after the other, in a row that goes on
joined : (a b c : Account) (front rest : List ℕ) → TookAll a b front → TookAll b c rest → TookAll a c (front ++ rest)
joined a b c front rest h k = all_on a b c front rest h k

-- a message and a number, and the rest
pub two_parts : (a b c : Account) (message number rest : List ℕ) → TookAll a b (message ++ number) → TookAll b c rest → TookAll a c (message ++ (number ++ rest))
two_parts a b c message number rest h k = subst (TookAll a c) (append_assoc message number rest) (joined a b c (message ++ number) rest h k)

-- where a call that comes last goes well
pub on_ok : {A B P Q : Type 0} (r : Result A B) → (P → Q) → OnOk r P → OnOk r Q
on_ok (Ok a) f h = f h
on_ok (Err b) f h = tt

-- the line of a limit: four parts
pub limit_parts : (a b c d e : Account) (message number blank name rest : List ℕ) → TookAll a b (message ++ number) → TookAll b c blank → TookAll c d name → TookAll d e rest
    → TookAll a e (message ++ (number ++ (blank ++ (name ++ rest))))
limit_parts a b c d e message number blank name rest h k l m =
    subst (TookAll a e) (append_assoc message number (blank ++ (name ++ rest)))
    (joined a b e (message ++ number) (blank ++ (name ++ rest)) h (joined b c e blank (name ++ rest) k (joined c d e name rest l m)))

-- a place in three parts, and what stands behind it
behind_place : (message name first row second column rest : List ℕ)
    → (message ++ (name ++ (first ++ (row ++ (second ++ column))))) ++ rest ≡ message ++ (name ++ (first ++ (row ++ (second ++ (column ++ rest)))))
behind_place message name first row second column rest =
    append_assoc message (name ++ (first ++ (row ++ (second ++ column)))) rest ∙ ap (λ r. message ++ r)
    (append_assoc name (first ++ (row ++ (second ++ column))) rest ∙ ap (λ r. name ++ r)
    (append_assoc first (row ++ (second ++ column)) rest ∙ ap (λ r. first ++ r)
    (append_assoc row (second ++ column) rest ∙ ap (λ r. row ++ r) (append_assoc second column rest))))

-- the line of a rule that is broken: its place, its number, and the rest
pub source_parts : (a b c d : Account) (message name first row second column between number rest : List ℕ)
    → TookAll a b (message ++ (name ++ (first ++ (row ++ (second ++ column))))) → TookAll b c (between ++ number) → TookAll c d rest
    → TookAll a d (message ++ (name ++ (first ++ (row ++ (second ++ (column ++ (between ++ (number ++ rest))))))))
source_parts a b c d message name first row second column between number rest h k l =
    subst (TookAll a d) (behind_place message name first row second column (between ++ (number ++ rest)))
    (joined a b d (message ++ (name ++ (first ++ (row ++ (second ++ column))))) (between ++ (number ++ rest)) h
    (subst (TookAll b d) (append_assoc between number rest) (joined b c d (between ++ number) rest k l)))

-- the line of bytes that are no image: a number, and the rest of the line
pub image_parts : (a b c : Account) (message number between rest : List ℕ) → TookAll a b (message ++ number) → TookAll b c (line between rest)
    → TookAll a c (line message (number ++ (between ++ rest)))
image_parts a b c message number between rest h k =
    subst (TookAll a c) (append_assoc message number (line between rest) ∙ ap (λ r. message ++ r)
    (sym (append_assoc number (between ++ rest) (10 ∷ []) ∙ ap (λ r. number ++ r) (append_assoc between rest (10 ∷ [])))))
    (joined a b c (message ++ number) (line between rest) h k)

-- the line of results that aren't sound: two numbers, and the rest of the line
pub unsound_parts : (a b c d : Account) (message trace blank node at : List ℕ) → TookAll a b (message ++ trace) → TookAll b c (blank ++ node) → TookAll c d (line blank at)
    → TookAll a d (line message (trace ++ (blank ++ (node ++ (blank ++ at)))))
unsound_parts a b c d message trace blank node at h k l = image_parts a b d message trace blank (node ++ (blank ++ at)) h (image_parts b c d blank node blank at k l)
