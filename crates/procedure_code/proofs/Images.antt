-- The start, the routines and the pieces in one row.
use Rattle.std.proofs.Common.{◌≡◌, ℕ, zero, suc, ◌+◌, ◌-◌, ◌<◌, ◌≤◌, ◌^◌, List, [], ◌∷◌, ◌++◌, map, length, Bool, true, false, min, refl, arith, ap, ap₂, sym, ◌∙◌, append_assoc, length-append}
use Rattle.std.specs.Prelude.{if◌then◌else◌}
use Rattle.run_laws.specs.Layers.{width_before, whole_width, spread}
use Rattle.run_laws.proofs.Rows.{length-spread}
use Rattle.a64_table.specs.Table.{word_of}
use Rattle.a64_runtime.specs.Routines.{routines}
use Rattle.placed_code.specs.Layout.{start_words}
use Rattle.placed_code.proofs.Parts.{length_map}
use Rattle.placed_code.proofs.Linking.{length_start}
use Rattle.link_words.specs.Fields.{entry_in, InReach}
use Rattle.procedure_pieces.specs.Pieces.{Piece}
use Rattle.procedure_pieces.specs.Linked.{piece_width, bodies_in, routines_from, pieces_from, begins, filled_in, linked}
use Rattle.procedure_pieces.proofs.Ordered.{filled_size}
use Rattle.procedure_code.specs.declared.pieces.Piece.{Piece as Made}
use Rattle.procedure_code.specs.Parts.{entry_at}
use Rattle.procedure_code.specs.Views.{piece_in}
use Rattle.procedure_code.specs.Joined.{filled_by, begin_from}
use Rattle.procedure_code.proofs.Rows.{longer}

---- How many there are

filled_in_size : (qs : List Piece) (j k : ℕ) (piece : Piece) → length (filled_in qs j k piece) ≡ piece_width j piece
filled_in_size qs j k piece = filled_size (begins qs) (routines_from qs) k piece.holes piece.words

pub linked_size : (qs : List Piece) → length (linked qs) ≡ pieces_from qs + whole_width piece_width 0 qs
linked_size qs =
    let start = map word_of (start_words (begins qs) 0 (bodies_in 0 qs)) in
    let rest = spread (filled_in qs) piece_width 0 (pieces_from qs) qs in
    let a = length-append start (map word_of routines ++ rest) in
    let b = length-append (map word_of routines) rest in
    let c = length_map word_of (start_words (begins qs) 0 (bodies_in 0 qs)) in
    let d = length_start (begins qs) 0 (bodies_in 0 qs) in
    let e = length-spread (filled_in qs) piece_width (filled_in_size qs) 0 (pieces_from qs) qs in
    omega (arith, a, b, c, d, e)

-- each piece has a word
pub some_each : (j : ℕ) (pieces : List Made) → length pieces ≤ whole_width piece_width j (map piece_in pieces)
some_each j [] = omega arith
some_each j (p ∷ pieces) = let a = p.some_words in let r = some_each (suc j) pieces in omega (arith, a, r)

pub few_bodies : (n : ℕ) (qs : List Piece) → length (bodies_in n qs) ≤ length qs
few_bodies n [] = omega arith
few_bodies n (q ∷ qs) = by_test q.counted (few_bodies (suc n) qs)
  where
    by_test : (b : Bool) → length (bodies_in (suc n) qs) ≤ length qs → length (if b then bodies_in (suc n) qs else (n ∷ bodies_in (suc n) qs)) ≤ suc (length qs)
    by_test true l = omega (arith, l)
    by_test false l = omega (arith, l)

-- more pieces than words
pub many : (pieces : List Made) → 2 ^ 18 < length pieces → 2 ^ 18 < length (linked (map piece_in pieces))
many pieces l = let s = linked_size (map piece_in pieces) in let e = some_each 0 pieces in omega (arith, l, s, e)

pub over_bodies : (qs : List Piece) → 2 ^ 18 < length (bodies_in 0 qs) → 2 ^ 18 < length (linked qs)
over_bodies qs l = let s = linked_size qs in omega (arith, l, s)

-- where an image has room, its bodies are few
pub routines_near : (pieces : List Made) (bodies : ℕ) → bodies ≡ length (bodies_in 0 (map piece_in pieces)) → bodies + 39 + whole_width piece_width 0 (map piece_in pieces) ≤ 2 ^ 18 → bodies + 1 < 2 ^ 17
routines_near pieces bodies e l =
    let s = some_each 0 pieces in
    let f = few_bodies 0 (map piece_in pieces) in
    let n = length_map piece_in pieces in
    omega (arith, e, l, s, f, n)

---- Where they begin

pub begin_long : (k : ℕ) (qs : List Piece) → length (begin_from k qs) ≡ suc (length qs)
begin_long k [] = refl
begin_long k (q ∷ qs) = ap suc (begin_long (k + length q.words) qs)

begin_at : (j k : ℕ) (qs : List Piece) (p : ℕ) → entry_in (begin_from k qs) (min p (length qs)) ≡ k + width_before piece_width j qs p
begin_at j k [] zero = omega arith
begin_at j k [] (suc p) = let z : min (suc p) 0 ≡ 0 = omega arith in ap (entry_in (k ∷ [])) z ∙ omega arith
begin_at j k (q ∷ qs) zero = let z : min 0 (suc (length qs)) ≡ 0 = omega arith in ap (entry_in (begin_from k (q ∷ qs))) z ∙ omega arith
begin_at j k (q ∷ qs) (suc p) =
    let z : min (suc p) (suc (length qs)) ≡ suc (min p (length qs)) = omega arith in
    let r = begin_at (suc j) (k + length q.words) qs p in
    ap (entry_in (begin_from k (q ∷ qs))) z ∙ omega (arith, r)

entry_begins : (k : ℕ) (qs : List Piece) (p : ℕ) → entry_at (begin_from k qs) p ≡ k + width_before piece_width 0 qs p
entry_begins k qs p =
    let n : length (begin_from k qs) - 1 ≡ length qs = (let l = begin_long k qs in omega (arith, l)) in
    ap (λ m. entry_in (begin_from k qs) (min p m)) n ∙ begin_at 0 k qs p

-- the list of entries is that of the pieces' places
pub entries_are : (qs : List Piece) (bodies : ℕ) (entries : List ℕ) → bodies ≡ length (bodies_in 0 qs) → entries ≡ begin_from (bodies + 39) qs → (p : ℕ) → entry_at entries p ≡ begins qs p
entries_are qs bodies entries b e p = ap (λ (es : List ℕ). entry_at es p) e ∙ entry_begins (bodies + 39) qs p ∙ omega (arith, b)

pub begin_reach : (j k : ℕ) (qs : List Piece) → k + whole_width piece_width j qs ≤ 2 ^ 18 → InReach (begin_from k qs)
begin_reach j k [] l zero = omega (arith, l)
begin_reach j k [] l (suc p) = omega arith
begin_reach j k (q ∷ qs) l zero = omega (arith, l)
begin_reach j k (q ∷ qs) l (suc p) = begin_reach (suc j) (k + length q.words) qs (omega (arith, l)) p

before_next : (j : ℕ) (pieces : List Made) (q : ℕ) → q < length pieces → width_before piece_width j (map piece_in pieces) q < width_before piece_width j (map piece_in pieces) (suc q)
before_next j [] q l = absurd (omega (arith, l))
before_next j (p ∷ pieces) zero l = let s = p.some_words in omega (arith, s)
before_next j (p ∷ pieces) (suc q) l = let r = before_next (suc j) pieces q (omega (arith, l)) in omega (arith, r)

before_within : (j : ℕ) (pieces : List Made) (q : ℕ) → q < length pieces → width_before piece_width j (map piece_in pieces) q < whole_width piece_width j (map piece_in pieces)
before_within j [] q l = absurd (omega (arith, l))
before_within j (p ∷ pieces) zero l = let s = p.some_words in omega (arith, s)
before_within j (p ∷ pieces) (suc q) l = let r = before_within (suc j) pieces q (omega (arith, l)) in omega (arith, r)

-- each piece begins behind those before it, and within the words
pub begins_next : (pieces : List Made) (q : ℕ) → q < length pieces → begins (map piece_in pieces) q < begins (map piece_in pieces) (suc q)
begins_next pieces q l = let r = before_next 0 pieces q l in omega (arith, r)

pub begins_within : (pieces : List Made) (q : ℕ) → q < length pieces → begins (map piece_in pieces) q < length (linked (map piece_in pieces))
begins_within pieces q l = let r = before_within 0 pieces q l in let s = linked_size (map piece_in pieces) in omega (arith, r, s)

-- one piece more begins
pub begin_more : (k n : ℕ) (q : Piece) (rest qs : List Piece) (old new all : List ℕ) → qs ≡ q ∷ rest → n ≡ k + length q.words → new ≡ old ++ k ∷ [] → old ++ begin_from k qs ≡ all → new ++ begin_from n rest ≡ all
begin_more k n q rest qs old new all d e f inv =
    ap₂ (λ (l : List ℕ) m. l ++ begin_from m rest) f e
    ∙ append_assoc old (k ∷ []) (begin_from (k + length q.words) rest)
    ∙ sym (ap (λ (l : List Piece). old ++ begin_from k l) d) ∙ inv

---- All words

module _ (qs : List Piece) (entries : List ℕ) (start : ℕ) (are : (p : ℕ) → entry_at entries p ≡ begins qs p) (routines_are : start ≡ routines_from qs)
    (w0 w1 w2 : List ℕ) (none : w0 ≡ []) (e1 : w1 ≡ w0 ++ map word_of (start_words (entry_at entries) (length w0) (bodies_in 0 qs))) (e2 : w2 ≡ w1 ++ map word_of routines) where
  first : w1 ≡ map word_of (start_words (entry_at entries) 0 (bodies_in 0 qs))
  first = e1 ∙ ap (λ (ws : List ℕ). ws ++ map word_of (start_words (entry_at entries) (length ws) (bodies_in 0 qs))) none

  pub next : length w2 ≡ pieces_from qs
  next =
      let a = ap length first in
      let b = length_map word_of (start_words (entry_at entries) 0 (bodies_in 0 qs)) in
      let c = length_start (entry_at entries) 0 (bodies_in 0 qs) in
      let d = longer w1 w2 routines e2 in
      omega (arith, a, b, c, d)

  pub all_joined : (w3 : List ℕ) → w3 ≡ w2 ++ spread (filled_by (entry_at entries) start) piece_width 0 (length w2) qs → w3 ≡ linked qs
  all_joined w3 e3 =
      let E : entry_at entries ≡ begins qs = λ i p. are p i in
      let rest = spread (filled_in qs) piece_width 0 (pieces_from qs) qs in
      let f1 : w1 ≡ map word_of (start_words (begins qs) 0 (bodies_in 0 qs)) = first ∙ ap (λ (f : ℕ → ℕ). map word_of (start_words f 0 (bodies_in 0 qs))) E in
      let f3 : w3 ≡ w2 ++ rest =
      e3 ∙ ap₂ (λ (f : ℕ → ℕ) m. w2 ++ spread (filled_by f m) piece_width 0 (length w2) qs) E routines_are
      ∙ ap (λ m. w2 ++ spread (filled_in qs) piece_width 0 m qs) next in
      f3 ∙ ap (λ (l : List ℕ). l ++ rest) (e2 ∙ ap (λ (l : List ℕ). l ++ map word_of routines) f1)
      ∙ append_assoc (map word_of (start_words (begins qs) 0 (bodies_in 0 qs))) (map word_of routines) rest
