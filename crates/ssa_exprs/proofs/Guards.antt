-- Guards of a pointer, and selectors, one after the other.
use Rattle.std.proofs.Common.{◌≡◌, ℕ, ◌+◌, ◌<◌, ◌≤◌, List, [], ◌∷◌, ◌++◌, drop, length, get_or, sym, ap, ap₂, ◌∙◌, subst, append_assoc}
use Rattle.std.proofs.lemmas.List.{append-nil, drop_more}
use Rattle.std.proofs.Math.ListN.{drop_of_length-le}
use Rattle.ob_types.specs.declared.program.Program.{Program}
use Rattle.ob_types.specs.declared.tree.Selector.{Selector}
use Rattle.ob_types.specs.declared.tree.Argument.{Argument}
use Rattle.ssa_lowered.specs.Pieces.{Low}
use Rattle.ssa_lowered.specs.Values.{Named, guarded}
use Rattle.ssa_lowered.specs.Lowered.{Here, descriptor, level}
use Rattle.ssa_lowered.specs.Data.{layout}
use Rattle.ssa_exprs.specs.declared.tables.Tables.{Tables}
use Rattle.ssa_exprs.specs.Making.{View, Gives, Passed}
use Rattle.ssa_exprs.specs.Tables.{Serves, descriptor_in, level_in}
use Rattle.ssa_exprs.specs.Walk.{select_in, selected_in, argument_in, arguments_in, guarded_in}
use Rattle.ssa_exprs.proofs.Giving.{gives_give}
use Rattle.ssa_exprs.proofs.Parts.{gives_also}

module _ (program : Program) (here : Here) where
  -- whatever made the pointer, it is guarded by these
  pub record Guarding (rs : List ℕ) (a b : View) (p : ℕ) : Type 0 where
    pub by : (v : View) (m : Low ℕ) → Gives v a m p → Gives v b (guarded_in program here rs m) p

  pub guarding_more : (t : Tables) (rs : List ℕ) (i r : ℕ) {a b c : View} {p : ℕ} → Serves t program here → i < length rs
      → ((v : View) (m : Low ℕ) → Gives v a m p → Gives v b (guarded m (descriptor_in t.program.now (get_or rs i r)) (level_in t.program.now (get_or rs i r))) p) → Guarding (drop (i + 1) rs) b c p → Guarding (drop i rs) a c p
  guarding_more t rs i d {a = a} {b = b} {c = c} {p = p} s lt one rest =
      let r = get_or rs i d in
      subst (λ l. Guarding l a c p) (sym (drop_more rs i d lt)) (record {
        by = λ v m g. rest.by v (guarded m (descriptor program (layout program.types) here r) (level program (layout program.types) here r))
            (subst (λ (k : ℕ × ℕ). Gives v b (guarded m k.0 k.1) p) (ap₂ (λ x y. (x, y)) (s.descriptor r) (s.level r)) (one v m g));
      })

  pub guarding_end : (rs : List ℕ) (i : ℕ) (a : View) (p : ℕ) → length rs ≤ i → Guarding (drop i rs) a a p
  guarding_end rs i a p le = subst (λ l. Guarding l a a p) (sym (drop_of_length-le rs le)) (record { by = λ v m g. g })

  -- whatever made what is named, these selectors lead on
  pub record Selecting (ss : List Selector) (a b : View) (h k : Named) : Type 0 where
    pub by : (v : View) (d : Low Named) → Gives v a d h → Gives v b (selected_in program here ss d) k

  pub selecting_more : (ss : List Selector) (i : ℕ) (s : Selector) {a b c : View} {h k l : Named} → i < length ss → s ≡ get_or ss i s
      → ((v : View) (d : Low Named) → Gives v a d h → Gives v b (select_in program here s d) k) → Selecting (drop (i + 1) ss) b c k l → Selecting (drop i ss) a c h l
  selecting_more ss i s {a = a} {c = c} {h = h} {l = l} lt is one rest =
      let here_is = ap (λ x. x ∷ drop (i + 1) ss) is ∙ sym (drop_more ss i s lt) in
      subst (λ z. Selecting z a c h l) here_is (record { by = λ v d g. rest.by v (select_in program here s d) (one v d g) })

  pub selecting_end : (ss : List Selector) (i : ℕ) (a : View) (h : Named) → length ss ≤ i → Selecting (drop i ss) a a h h
  selecting_end ss i a h le = subst (λ l. Selecting l a a h h) (sym (drop_of_length-le ss le)) (record { by = λ v d g. g })

  -- these arguments' words were added
  pub record Passing (xs : List Argument) (a b : View) (old new : List ℕ) : Type 0 where
    pub by : Passed a b (arguments_in program here xs) old new

  pub passing_more : (xs : List Argument) (i : ℕ) (x : Argument) {a b c : View} {old mid new : List ℕ} → i < length xs → x ≡ get_or xs i x
      → Passed a b (argument_in program here x) old mid → Passing (drop (i + 1) xs) b c mid new → Passing (drop i xs) a c old new
  passing_more xs i x {a = a} {c = c} {old = old} {new = new} lt is one rest =
      let here_is = ap (λ z. z ∷ drop (i + 1) xs) is ∙ sym (drop_more xs i x lt) in
      subst (λ z. Passing z a c old new) here_is (record {
        by = (
          one.0 ++ rest.by.0,
          rest.by.1 ∙ ap (λ l. l ++ rest.by.0) one.1 ∙ append_assoc old one.0 rest.by.0,
          gives_also one.2 rest.by.2,
        );
      })

  pub passing_end : (xs : List Argument) (i : ℕ) (a : View) (words : List ℕ) → length xs ≤ i → Passing (drop i xs) a a words words
  passing_end xs i a words le = subst (λ l. Passing l a a words words) (sym (drop_of_length-le xs le)) (record { by = ([], sym (append-nil words), gives_give a []) })
