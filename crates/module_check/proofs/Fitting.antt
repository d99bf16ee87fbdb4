-- What is marked stands in the text.
use Rattle.std.proofs.Common.{◌≤◌, ℕ, suc, List, [], ◌∷◌, length, Bool, true, false, nat_eq, cond, arith, drop, take, max, length-drop, length-take}
use Rattle.ob_judge.specs.Scopes.{line_ends}
use Rattle.trc_answers.specs.Places.{last_line}
use Rattle.module_check.specs.Marks.{is_letter, letters, marked}

letters_step : (b : Bool) (n m : ℕ) → n ≤ m → cond b (suc n) 0 ≤ suc m
letters_step true n m l = omega (arith, l)
letters_step false n m l = omega arith

-- a text has no more letters than bytes
pub letters_fit : (text : List ℕ) → letters text ≤ length text
letters_fit [] = omega arith
letters_fit (b ∷ bs) = letters_step (is_letter b) (letters bs) (length bs) (letters_fit bs)

last_step : (b : Bool) (xs ys : List ℕ) (m : ℕ) → length xs ≤ m → length ys ≤ m → length (cond b xs ys) ≤ m
last_step true xs ys m h k = h
last_step false xs ys m h k = k

-- a text's last line is no longer than the text
pub last_line_fits : (text : List ℕ) → length (last_line text) ≤ length text
last_line_fits [] = omega arith
last_line_fits (b ∷ bs) = let l = last_line_fits bs in last_step (nat_eq (line_ends (b ∷ bs)) 0) (b ∷ bs) (last_line bs) (suc (length bs)) (omega arith) (omega (arith, l))

-- so a column is at most one more than a text is long
pub column_fits : (text : List ℕ) (at : ℕ) → length (last_line (take at text)) ≤ length text
column_fits text at = let l = last_line_fits (take at text) in omega (arith, l, length-take at text)

-- and no more bytes are marked than it has, or one
pub marked_fits : (text : List ℕ) (at : ℕ) → marked (drop at text) ≤ max 1 (length text)
marked_fits text at = let l = letters_fit (drop at text) in omega (arith, l, length-drop at text)
