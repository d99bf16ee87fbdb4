-- The links of a chain, and conditions.
use Rattle.std.proofs.Common.{◌≡◌, ℕ, zero, suc, ◌-◌, ◌<◌, ◌≤◌, None, true, false, List, [], ◌∷◌, Box, Vec, Global, take, length, get_or, refl, sym, ap, ap₂, ◌∙◌, subst, arith}
use mathlib.Core.Former.{Count}
use Rattle.block_runs.specs.declared.end.End.TheVariants.{Jump}
use Rattle.ob_types.specs.declared.program.Program.{Program}
use Rattle.ob_types.specs.declared.tree.Unary.{Unary}
use Rattle.ob_types.specs.declared.tree.Unary.TheVariants.{Negate, Complement, Not, Abs, Odd}
use Rattle.ob_types.specs.declared.tree.Expr.{Expr, Unary as UnaryOf, Literal, Routine, Load, Guard', Unary', Compare', CompareTexts', In', IsPointer', IsParameter, Byte', Length, Call', Chain, Chain', Row_of-Link, end_of-Link, more_of-Link, items-the_row-Link, items_hidden-the_row-Link-2}
use Rattle.ob_types.specs.declared.tree.Link.{Link}
use Rattle.ssa_lowered.specs.Data.{layout}
use Rattle.ssa_lowered.specs.Pieces.{Low}
use Rattle.ssa_lowered.specs.Values.{const}
use Rattle.ssa_lowered.specs.Control.{Lowers, Test, half, flag, fork_value, fork_not}
use Rattle.ssa_lowered.specs.Lowered.{Here, linked}
use Rattle.ssa_exprs.specs.Making.{View, Gives, Tests, asked, bound, closed}
use Rattle.ssa_exprs.specs.Tables.{expr_in}
use Rattle.ssa_exprs.specs.Walk.{link_in, linked_in, is_plain}
use Rattle.ssa_exprs.proofs.Flags.{gives_flag}

take_none : (xs : List Link) → take 0 xs ≡ []
take_none [] = refl
take_none (x ∷ xs) = refl

take_whole : (xs : List Link) → take (length xs) xs ≡ xs
take_whole [] = refl
take_whole (x ∷ xs) = ap (λ ys. x ∷ ys) (take_whole xs)

module _ (p : Program) (here : Here) where
  linked_row : (m : _) (row : Row_of-Link m) (x : Lowers) → linked p (layout p.types) here row x ≡ linked_in p here (items-the_row-Link m row) x
  linked_row m end_of-Link x = refl
  linked_row m (more_of-Link k rest) x = linked_row _ rest (link_in p here k x)

  more_linked : (ks : List Link) (n : ℕ) (d : Link) (x : Lowers) → n < length ks → linked_in p here (take (suc n) ks) x ≡ link_in p here (get_or ks n d) (linked_in p here (take n ks) x)
  more_linked [] n d x lt = absurd (omega (arith, lt))
  more_linked (k ∷ ks) zero d x lt = ap (λ l. linked_in p here l (link_in p here k x)) (take_none ks) ∙ sym (ap (λ l. link_in p here k (linked_in p here l x)) (take_none (k ∷ ks)))
  more_linked (k ∷ ks) (suc n) d x lt = more_linked ks n d (link_in p here k x) (omega (arith, lt))

  -- the first so many links: none, all, and with the last of them apart
  pub no_links : (ks : List Link) (n : ℕ) (x : Lowers) → n ≤ 0 → linked_in p here (take n ks) x ≡ x
  no_links ks n x le = let e : n ≡ 0 = omega (arith, le) in ap (λ k. linked_in p here (take k ks) x) e ∙ ap (λ l. linked_in p here l x) (take_none ks)

  pub all_links : (ks : List Link) (x : Lowers) → linked_in p here (take (length ks) ks) x ≡ linked_in p here ks x
  all_links ks x = ap (λ l. linked_in p here l x) (take_whole ks)

  pub last_link : (ks : List Link) (n : ℕ) (k : Link) (x : Lowers) → 0 < n → n - 1 < length ks → k ≡ get_or ks (n - 1) k → linked_in p here (take n ks) x ≡ link_in p here k (linked_in p here (take (n - 1) ks) x)
  last_link ks n k x pos lt at =
      let e : n ≡ suc (n - 1) = omega (arith, pos) in
      ap (λ m. linked_in p here (take m ks) x) e ∙ more_linked ks (n - 1) k x lt ∙ ap (λ l. link_in p here l (linked_in p here (take (n - 1) ks) x)) (sym at)

  abbrev row_in : Expr → (n : Count) × Row_of-Link n
  row_in (Chain' _ x _ row) = (_, row)
  row_in e = (_, end_of-Link)

  chain_linked : (x : Box Expr Global) (ks : Vec Link Global) → expr_in p here (Chain x ks) ≡ linked_in p here ks.items (expr_in p here x.value)
  chain_linked x ks =
      let r = row_in (Chain x ks) in
      linked_row r.0 r.1 (expr_in p here x.value) ∙ ap (λ l. linked_in p here l (expr_in p here x.value)) (items_hidden-the_row-Link-2 ks)

  -- a chain is its links, behind its first operand
  pub chain_is : (x : Box Expr Global) (ks : Vec Link Global) {e y : Expr} {ls : List Link} → e ≡ Chain x ks → y ≡ x.value → ls ≡ ks.items → expr_in p here e ≡ linked_in p here ls (expr_in p here y)
  chain_is x ks {e} {y} {ls} is ey el = ap (expr_in p here) is ∙ chain_linked x ks ∙ sym (ap₂ (λ l z. linked_in p here l (expr_in p here z)) el ey)

-- between other views and labels that are equal
pub tests_at : {v v1 w : View} {t : Test} {yes1 yes2 no1 no2 f1 f2 : ℕ} → v1 ≡ v → yes1 ≡ yes2 → no1 ≡ no2 → f1 ≡ f2 → Tests v1 w t yes1 no1 f1 → Tests v w t yes2 no2 f2
tests_at {v = v} {v1 = v1} {w = w} {t = t} {yes1 = yes1} {yes2 = yes2} {no1 = no1} {no2 = no2} {f1 = f1} {f2 = f2} a b d e x =
    subst (λ z. Tests z w t yes2 no2 f2) a (subst (λ z. Tests v1 w t z no2 f2) b (subst (λ z. Tests v1 w t yes1 z f2) d (subst (λ z. Tests v1 w t yes1 no1 z) e x)))

pub gives_from : {A : Type 0} {v v1 w : View} {m : Low A} {r : A} → v1 ≡ v → Gives v1 w m r → Gives v w m r
gives_from {w = w} {m = m} {r = r} e g = subst (λ z. Gives z w m r) e g

-- a condition's value, from what the code did
pub flagged_done : {v u u1 u2 u3 u4 u5 u6 u8 u9 : View} {t : Test} (y_to n_to freq out one z r : ℕ) (args1 args2 : List ℕ) (h : ℕ)
    → y_to ≡ v.labels → n_to ≡ suc v.labels → freq ≡ v.freq → Tests (asked (asked v)) u t y_to n_to (half v.freq)
    → u1 ≡ bound u y_to → Gives u1 u2 (const 1) one → u3 ≡ asked u2 → out ≡ u2.labels → args1 ≡ one ∷ [] → h ≡ half freq → u4 ≡ closed u3 (Jump out args1) 0 h None
    → u5 ≡ bound u4 n_to → Gives u5 u6 (const 0) z → r ≡ u6.values → args2 ≡ z ∷ [] → u8 ≡ closed u6 (Jump out args2) 1 freq None → u9 ≡ bound u8 out
    → Gives v u9 (flag t) r
flagged_done {v} {u} {u1} {u2} {u3} {u4} {u5} {u6} {u8} {u9} {t} y_to n_to freq out one z r args1 args2 h ey en ef x e1 g1 e3 eo ea1 eh e4 e5 g2 er ea2 e8 e9 =
    let first : Tests (asked (asked v)) u t v.labels (suc v.labels) (half v.freq) = tests_at refl ey en refl x in
    let second : Gives (bound u v.labels) u2 (const 1) one = gives_from (e1 ∙ ap (bound u) ey) g1 in
    let ends1 : Jump out args1 ≡ Jump u2.labels (one ∷ []) = ap₂ (λ a b. Jump a b) eo ea1 in
    let four : u4 ≡ closed (asked u2) (Jump u2.labels (one ∷ [])) 0 (half v.freq) None =
    e4 ∙ ap (λ s. closed s (Jump out args1) 0 h None) e3 ∙ ap₂ (λ e k. closed (asked u2) e 0 k None) ends1 (eh ∙ ap half ef) in
    let third : Gives (bound (closed (asked u2) (Jump u2.labels (one ∷ [])) 0 (half v.freq) None) (suc v.labels)) u6 (const 0) z = gives_from (e5 ∙ ap₂ bound four en) g2 in
    let ends2 : Jump out args2 ≡ Jump u2.labels (z ∷ []) = ap₂ (λ a b. Jump a b) eo ea2 in
    let last : u9 ≡ bound (closed u6 (Jump u2.labels (z ∷ [])) 1 v.freq None) u2.labels =
    e9 ∙ ap₂ bound (e8 ∙ ap₂ (λ e k. closed u6 e 1 k None) ends2 ef) eo in
    subst (λ n. Gives v u9 (flag t) n) (sym er) (subst (λ w. Gives v w (flag t) u6.values) (sym last) (gives_flag first second third))

module _ (p : Program) (here : Here) where
  -- an expression whose condition is its value
  pub plain_test : (e : Expr) → is_plain e ≡ true → (expr_in p here e).test ≡ fork_value (expr_in p here e).value
  plain_test (Literal n) h = refl
  plain_test (Routine g) h = refl
  plain_test (Load d) h = refl
  plain_test (Guard' _ d rs) h = refl
  plain_test (Unary' Negate _ x) h = refl
  plain_test (Unary' Complement _ x) h = refl
  plain_test (Unary' Not _ x) h = absurd (cc)
  plain_test (Unary' Abs _ x) h = refl
  plain_test (Unary' Odd _ x) h = refl
  plain_test (Chain' _ x _ row) h = absurd (cc)
  plain_test (Compare' r _ x _ y) h = absurd (cc)
  plain_test (CompareTexts' r _ d _ e) h = refl
  plain_test (In' _ x _ s) h = refl
  plain_test (IsPointer' _ x r) h = refl
  plain_test (IsParameter d r) h = refl
  plain_test (Byte' _ x) h = refl
  plain_test (Length d) h = refl
  plain_test (Call' _ c) h = refl

not_test : (p : Program) (here : Here) (op : Unary) (x : Box Expr Global) → is_plain (UnaryOf op x) ≡ false → (expr_in p here (UnaryOf op x)).test ≡ fork_not (expr_in p here x.value).test
not_test p here Negate x h = absurd (cc)
not_test p here Complement x h = absurd (cc)
not_test p here Not x h = refl
not_test p here Abs x h = absurd (cc)
not_test p here Odd x h = absurd (cc)

pub unary_test : (p : Program) (here : Here) (e : Expr) (op : Unary) (x : Box Expr Global) → e ≡ UnaryOf op x → is_plain e ≡ false → (expr_in p here e).test ≡ fork_not (expr_in p here x.value).test
unary_test p here e op x is h = ap (λ z. (expr_in p here z).test) is ∙ not_test p here op x (sym (ap is_plain is) ∙ h)

pub tests_to : {v w w1 : View} {t : Test} {yes_to no_to next : ℕ} → w1 ≡ w → Tests v w t yes_to no_to next → Tests v w1 t yes_to no_to next
tests_to {v = v} {t = t} {yes_to = yes_to} {no_to = no_to} {next = next} e x = subst (λ z. Tests v z t yes_to no_to next) (sym e) x
