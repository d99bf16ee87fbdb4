-- Weights of lists of points, and lists within others.
use Rattle.std.proofs.Common.{◌≡◌, ℕ, zero, suc, ◌+◌, ◌≤◌, Bool, true, false, cond, List, [], ◌∷◌, ◌++◌, length, map, take, drop, refl, ap, ◌∙◌, arith}
use Rattle.std.specs.Prelude.{flat_map, filter}
use Rattle.run_laws.specs.Runs.{weigh, Within}

pub append-nil : {X : Type 0} (xs : List X) → xs ++ [] ≡ xs
append-nil [] = refl
append-nil (x ∷ xs) = ap (λ t. x ∷ t) (append-nil xs)

pub weigh-append : {P : Type 0} (h : P → ℕ) (a b : List P) → weigh h (a ++ b) ≡ weigh h a + weigh h b
weigh-append h [] b = let e : weigh h b ≡ 0 + weigh h b = omega arith in e
weigh-append h (p ∷ a) b = let e = weigh-append h a b in omega (arith, e)

pub weigh-length : {P : Type 0} (ps : List P) → weigh (λ _. 1) ps ≡ length ps
weigh-length [] = refl
weigh-length (p ∷ ps) = let e = weigh-length ps in omega (arith, e)

pub weigh-map : {P Q : Type 0} (h : Q → ℕ) (f : P → Q) (ps : List P) → weigh h (map f ps) ≡ weigh (λ p. h (f p)) ps
weigh-map h f [] = refl
weigh-map h f (p ∷ ps) = ap (λ n. h (f p) + n) (weigh-map h f ps)

pub weigh-flat_map : {P Q : Type 0} (h : Q → ℕ) (words : P → List Q) (ps : List P) → weigh h (flat_map words ps) ≡ weigh (λ p. weigh h (words p)) ps
weigh-flat_map h words [] = refl
weigh-flat_map h words (p ∷ ps) = weigh-append h (words p) (flat_map words ps) ∙ ap (λ n. weigh h (words p) + n) (weigh-flat_map h words ps)

-- two weights at once
pub weigh-sum : {P : Type 0} (g h : P → ℕ) (ps : List P) → weigh (λ p. g p + h p) ps ≡ weigh g ps + weigh h ps
weigh-sum g h [] = refl
weigh-sum g h (p ∷ ps) = let e = weigh-sum g h ps in omega (arith, e)

pub weigh-nothing : {P : Type 0} (ps : List P) → weigh (λ _. 0) ps ≡ 0
weigh-nothing [] = refl
weigh-nothing (p ∷ ps) = let e = weigh-nothing ps in omega (arith, e)

-- weights that are the same at each point
pub weigh-same : {P : Type 0} (g h : P → ℕ) → ((p : P) → g p ≡ h p) → (ps : List P) → weigh g ps ≡ weigh h ps
weigh-same g h is [] = refl
weigh-same g h is (p ∷ ps) = let a = is p in let e = weigh-same g h is ps in omega (arith, a, e)

-- a weight that is less at each point
pub weigh-below : {P : Type 0} (g h : P → ℕ) → ((p : P) → g p ≤ h p) → (ps : List P) → weigh g ps ≤ weigh h ps
weigh-below g h le [] = omega arith
weigh-below g h le (p ∷ ps) = let a = le p in let e = weigh-below g h le ps in omega (arith, a, e)

pub weigh-take_drop : {P : Type 0} (h : P → ℕ) (k : ℕ) (ps : List P) → weigh h (take k ps) + weigh h (drop k ps) ≡ weigh h ps
weigh-take_drop h zero ps = omega arith
weigh-take_drop h (suc k) [] = refl
weigh-take_drop h (suc k) (p ∷ ps) = let e = weigh-take_drop h k ps in omega (arith, e)

kept_or_not : {P : Type 0} (h : P → ℕ) (p : P) (few ps : List P) → weigh h few ≤ weigh h ps → (b : Bool) → weigh h (cond b (p ∷ few) few) ≤ weigh h (p ∷ ps)
kept_or_not h p few ps le true = omega (arith, le)
kept_or_not h p few ps le false = omega (arith, le)

pub weigh-filter : {P : Type 0} (h : P → ℕ) (test : P → Bool) (ps : List P) → weigh h (filter test ps) ≤ weigh h ps
weigh-filter h test [] = omega arith
weigh-filter h test (p ∷ ps) = kept_or_not h p (filter test ps) ps (weigh-filter h test ps) (test p)

pub Within_refl : {P : Type 0} (all : List P) → Within all all
Within_refl all = λ h. omega arith

pub Within_trans : {P : Type 0} (all ps qs : List P) → Within all ps → Within ps qs → Within all qs
Within_trans all ps qs a b = λ h. let x = a h in let y = b h in omega (arith, x, y)

pub Within-nothing : {P : Type 0} (all : List P) → Within all []
Within-nothing all = λ h. omega arith

pub Within-append : {P : Type 0} (all more ps qs : List P) → Within all ps → Within more qs → Within (all ++ more) (ps ++ qs)
Within-append all more ps qs a b = λ h. let x = a h in let y = b h in omega (arith, x, y, weigh-append h all more, weigh-append h ps qs)

-- one more point in both, or only in the longer
pub Within-cons : {P : Type 0} (p : P) (all ps : List P) → Within all ps → Within (p ∷ all) (p ∷ ps)
Within-cons p all ps a = λ h. let x = a h in omega (arith, x)

pub Within-skip : {P : Type 0} (p : P) (all ps : List P) → Within all ps → Within (p ∷ all) ps
Within-skip p all ps a = λ h. let x = a h in omega (arith, x)

-- a point of a list
pub Within-one : {P : Type 0} (before : List P) (p : P) (behind : List P) → Within (before ++ p ∷ behind) (p ∷ [])
Within-one before p behind = λ h. omega (arith, weigh-append h before (p ∷ behind))

pub Within-take : {P : Type 0} (k : ℕ) (ps : List P) → Within ps (take k ps)
Within-take k ps = λ h. omega (arith, weigh-take_drop h k ps)

pub Within-drop : {P : Type 0} (k : ℕ) (ps : List P) → Within ps (drop k ps)
Within-drop k ps = λ h. omega (arith, weigh-take_drop h k ps)

-- the parts of a list
pub Within-first : {P : Type 0} (ps qs : List P) → Within (ps ++ qs) ps
Within-first ps qs = λ h. omega (arith, weigh-append h ps qs)

pub Within-second : {P : Type 0} (ps qs : List P) → Within (ps ++ qs) qs
Within-second ps qs = λ h. omega (arith, weigh-append h ps qs)

-- the parts in the other order
pub Within-swap : {P : Type 0} (ps qs : List P) → Within (ps ++ qs) (qs ++ ps)
Within-swap ps qs = λ h. omega (arith, weigh-append h ps qs, weigh-append h qs ps)

pub Within-length : {P : Type 0} (all ps : List P) → Within all ps → length ps ≤ length all
Within-length all ps a = let x = a (λ _. 1) in omega (arith, x, weigh-length ps, weigh-length all)

pub Within-map : {P Q : Type 0} (f : P → Q) (all ps : List P) → Within all ps → Within (map f all) (map f ps)
Within-map f all ps a = λ h. let x = a (λ p. h (f p)) in omega (arith, x, weigh-map h f all, weigh-map h f ps)

pub Within-flat_map : {P Q : Type 0} (words : P → List Q) (all ps : List P) → Within all ps → Within (flat_map words all) (flat_map words ps)
Within-flat_map words all ps a = λ h. let x = a (λ p. weigh h (words p)) in omega (arith, x, weigh-flat_map h words all, weigh-flat_map h words ps)

pub Within-filter : {P : Type 0} (test : P → Bool) (ps : List P) → Within ps (filter test ps)
Within-filter test ps = λ h. weigh-filter h test ps
