-- Symbols have at most one tree.
use Rattle.std.proofs.Common.{◌≡◌, ℕ, suc, List, [], ◌∷◌, ◌++◌, true, false, refl, sym, ap, ap₂, ◌∙◌, subst, append_assoc}
use Rattle.ob_grammar.specs.Grammar.{module_, Phrase, part, many, rule}
use Rattle.ob_grammar.specs.Leaves.{Leaf, Tree, symbol, named, ◌then◌, left, right, there, absent, again, done, within, leaves, asked}
use Rattle.ob_grammar.specs.Reading.{is_in, is_empty, first}
use Rattle.ob_grammar.specs.Trees.{Token, token, terminals, Is, a_terminal, a_part, both, the_left, the_right, with, without, once_more, no_more, inside}
use Rattle.ob_grammar.proofs.LookAhead.{first_then, Good, good_within, is_good, follows, rule_good}
use Rattle.ob_grammar.proofs.Sets.{Apart}
use Rattle.ob_grammar.proofs.Shapes.{Begins, first_both, first_second, begins}

-- a tree as one of the grammar at a level

abbrev pub tokens : {f : Phrase} → ℕ → Tree f → List Token
tokens l (symbol {k} i) = token k l ∷ []
tokens l (named x) = tokens l x
tokens l (x then y) = tokens l x ++ tokens l y
tokens l (left x) = tokens l x
tokens l (right x) = tokens l x
tokens l (there x) = tokens l x
tokens l absent = []
tokens l (again x y) = tokens l x ++ tokens l y
tokens l done = []
tokens l (within {k} i x) = token k (suc l) ∷ tokens (suc l) x

pub is : {f : Phrase} (l : ℕ) (x : Tree f) → Is f l (tokens l x)
is l (symbol i) = a_terminal
is l (named x) = a_part (is l x)
is l (x then y) = both (is l x) (is l y)
is l (left x) = the_left (is l x)
is l (right x) = the_right (is l x)
is l (there x) = with (is l x)
is l absent = without
is l (again x y) = once_more (is l x) (is l y)
is l done = no_more
is l (within i x) = inside (is (suc l) x)

terminals_append : (u v : List Token) → terminals (u ++ v) ≡ terminals u ++ terminals v
terminals_append [] v = refl
terminals_append (m ∷ u) v = ap (λ z. m.terminal ∷ z) (terminals_append u v)

asked_append : (u v : List Leaf) → asked (u ++ v) ≡ asked u ++ asked v
asked_append [] v = refl
asked_append (m ∷ u) v = ap (λ z. m.asks ∷ z) (asked_append u v)

same_both : (u v : List Token) (x y : List Leaf) → terminals u ≡ asked x → terminals v ≡ asked y → terminals (u ++ v) ≡ asked (x ++ y)
same_both u v x y e h = terminals_append u v ∙ (ap₂ (λ a b. a ++ b) e h ∙ sym (asked_append x y))

pub same : {f : Phrase} (l : ℕ) (x : Tree f) → terminals (tokens l x) ≡ asked (leaves x)
same l (symbol i) = refl
same l (named x) = same l x
same l (x then y) = same_both _ _ _ _ (same l x) (same l y)
same l (left x) = same l x
same l (right x) = same l x
same l (there x) = same l x
same l absent = refl
same l (again x y) = same_both _ _ _ _ (same l x) (same l y)
same l done = refl
same l (within {k} i x) = ap (λ z. k ∷ z) (same (suc l) x)

-- what a tree begins with

-- what stands here begins with one of these, or there is nothing
abbrev pub Follows : List ℕ → List Leaf → Type 0
Follows F [] = Unit {0}
Follows F (m ∷ r) = is_in F m.asks ≡ true

abbrev Starts : Phrase → List Leaf → Type 0
Starts f [] = is_empty f ≡ true
Starts f (m ∷ v) = is_in (first f) m.asks ≡ true

starts_same : (f : Phrase) (v : List Token) (u : List Leaf) → terminals v ≡ asked u → Begins f v → Starts f u
starts_same f [] [] e a = a
starts_same f [] (n ∷ u) e a = cc
starts_same f (m ∷ v) [] e a = cc
starts_same f (m ∷ v) (n ∷ u) e a =
    let same : m.terminal ≡ n.asks = cc in
    subst (λ k. is_in (first f) k ≡ true) same a

starts : {f : Phrase} (x : Tree f) → Starts f (leaves x)
starts {f} x = starts_same f (tokens 0 x) (leaves x) (same 0 x) (begins (is 0 x))

heads_of : (f : Phrase) (F : List ℕ) (u r : List Leaf) → Starts f u → Follows F r → Follows (first_then f F) (u ++ r)
heads_of f F [] [] a h = tt
heads_of f F [] (m ∷ r) a h = first_second (is_empty f) (first f) F m.asks a h
heads_of f F (m ∷ u) r a h = first_both (is_empty f) (first f) F m.asks a

heads : {f : Phrase} (x : Tree f) (F : List ℕ) (r : List Leaf) → Follows F r → Follows (first_then f F) (leaves x ++ r)
heads {f} x F r h = heads_of f F (leaves x) r (starts x) h

first_of_it : (f : Phrase) (u r : List Leaf) → is_empty f ≡ false → Starts f u → Follows (first f) (u ++ r)
first_of_it f [] r e a = let c : true ≡ false = sym a ∙ e in cc
first_of_it f (m ∷ u) r e a = a

apart_from : (f : Phrase) (G : List ℕ) (u r w : List Leaf) → is_empty f ≡ false → Starts f u → Apart (first f) G → u ++ r ≡ w → Follows G w → ⊥
apart_from f G [] r w e a p h b = let c : true ≡ false = sym a ∙ e in cc
apart_from f G (m ∷ u) r [] e a p h b = cc
apart_from f G (m ∷ u) r (n ∷ w) e a p h b =
    let same : m ≡ n = cc in
    p n.asks (subst (λ (k : Leaf). is_in (first f) k.asks ≡ true) same a) b

clash : {f : Phrase} (x : Tree f) (G : List ℕ) (r w : List Leaf) → is_empty f ≡ false → Apart (first f) G → leaves x ++ r ≡ w → Follows G w → ⊥
clash {f} x G r w e p h b = apart_from f G (leaves x) r w e (starts x) p h b

-- one tree

-- these are one tree, and the same stands behind
abbrev One : {f : Phrase} → Tree f → Tree f → List Leaf → List Leaf → Type 0
One x y r s = (x ≡ y) × (r ≡ s)

same_at : (k i j : ℕ) (r s : List Leaf) → record { asks = k; at = i } ∷ r ≡ record { asks = k; at = j } ∷ s → (i ≡ j) × (r ≡ s)
same_at k i j r s e =
    let x : Leaf = record { asks = k; at = i } in
    let y : Leaf = record { asks = k; at = j } in
    let m : x ≡ y = cc in
    let t : r ≡ s = cc in
    (ap (λ (x : Leaf). x.at) m, t)

one_then : {f g : Phrase} (x y : Tree f) (x' y' : Tree g) (r s : List Leaf) → One x y (leaves x' ++ r) (leaves y' ++ s) → (leaves x' ++ r ≡ leaves y' ++ s → One x' y' r s) → One (x then x') (y then y') r s
one_then x y x' y' r s a h = let b = h a.1 in (ap₂ (λ z z'. z then z') a.0 b.0, b.1)

one_again : {f : Phrase} (x y : Tree f) (x' y' : Tree (many f)) (r s : List Leaf) → One x y (leaves x' ++ r) (leaves y' ++ s) → (leaves x' ++ r ≡ leaves y' ++ s → One x' y' r s) → One (again x x') (again y y') r s
one_again x y x' y' r s a h = let b = h a.1 in (ap₂ (λ z z'. again z z') a.0 b.0, b.1)

along : (u v r u' v' s : List Leaf) → (u ++ v) ++ r ≡ (u' ++ v') ++ s → u ++ (v ++ r) ≡ u' ++ (v' ++ s)
along u v r u' v' s e = sym (append_assoc u v r) ∙ (e ∙ append_assoc u' v' s)

pub one_tree : {f : Phrase} (x y : Tree f) (F : List ℕ) → Good f F → (r s : List Leaf) → Follows F r → Follows F s → leaves x ++ r ≡ leaves y ++ s → One x y r s
one_tree (symbol {k} i) (symbol j) F g r s a b e = let h = same_at k i j r s e in (ap (λ z. symbol z) h.0, h.1)
one_tree (named {p} x) (named y) F g r s a b e =
    let h = one_tree x y F (good_within (rule p) F (follows p) g (is_good (rule p) (follows p) (rule_good p))) r s a b e in
    (ap (λ z. named z) h.0, h.1)
one_tree (◌then◌ {f} {g} x x') (y then y') F good r s a b e =
    one_then x y x' y' r s (one_tree x y (first_then g F) good.0 (leaves x' ++ r) (leaves y' ++ s) (heads x' F r a) (heads y' F s b) (along _ _ r _ _ s e)) (λ h. one_tree x' y' F good.1 r s a b h)
one_tree (left x) (left y) F g r s a b e = let h = one_tree x y F g.3 r s a b e in (ap (λ z. left z) h.0, h.1)
one_tree (left {g = f'} x) (right y) F g r s a b e = absurd (clash x (first f') r (leaves y ++ s) g.0 g.2 e (first_of_it f' (leaves y) s g.1 (starts y)))
one_tree (right x) (left {g = f'} y) F g r s a b e = absurd (clash y (first f') s (leaves x ++ r) g.0 g.2 (sym e) (first_of_it f' (leaves x) r g.1 (starts x)))
one_tree (right x) (right y) F g r s a b e = let h = one_tree x y F g.4 r s a b e in (ap (λ z. right z) h.0, h.1)
one_tree (there x) (there y) F g r s a b e = let h = one_tree x y F g.2 r s a b e in (ap (λ z. there z) h.0, h.1)
one_tree (there x) absent F g r s a b e = absurd (clash x F r s g.0 g.1 e b)
one_tree absent (there y) F g r s a b e = absurd (clash y F s r g.0 g.1 (sym e) a)
one_tree absent absent F g r s a b e = (refl, e)
one_tree (again {f} x x') (again y y') F g r s a b e =
    one_again x y x' y' r s (one_tree x y (first f ++ F) g.2 (leaves x' ++ r) (leaves y' ++ s) (heads x' F r a) (heads y' F s b) (along _ _ r _ _ s e)) (λ h. one_tree x' y' F g r s a b h)
one_tree (again x x') done F g r s a b e = absurd (clash x F (leaves x' ++ r) s g.0 g.1 (sym (append_assoc _ _ r) ∙ e) b)
one_tree done (again y y') F g r s a b e = absurd (clash y F (leaves y' ++ s) r g.0 g.1 (sym (append_assoc _ _ s) ∙ sym e) a)
one_tree done done F g r s a b e = (refl, e)
one_tree (within {k} {f} i x) (within j y) F g r s a b e =
    let c = same_at k i j (leaves x ++ r) (leaves y ++ s) e in
    let h = one_tree x y F g r s a b c.1 in
    (ap₂ (λ n z. within n z) c.0 h.0, h.1)

pub one_module : (x y : Tree (part module_)) → leaves x ≡ leaves y → x ≡ y
one_module x y e = (one_tree x y [] (λ k h. h) [] [] tt tt (ap (λ v. v ++ []) e)).0
