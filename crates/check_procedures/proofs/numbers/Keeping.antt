-- Parts that keep their meaning make up wholes that do.
use Rattle.std.proofs.Common.{◌≡◌, ℕ, ◌<◌, ◌≤◌, List, [], ◌∷◌, ◌++◌, ◌+◌, ◌-◌, length, take, drop, set, get_or, refl, sym, ap, ap₂, ◌∙◌, subst, append_assoc, arith}
use Rattle.std.specs.List.{between, flat_map}
use Rattle.std.proofs.Math.Seq.{take-add}
use Rattle.std.proofs.lemmas.List.{append-nil, map-append, length-append, length-set, get_or-set_other, take_all, take_more, take_more_set, drop-drop}
use Rattle.std.proofs.lemmas.List.Edits.{between_none}
use Rattle.std.proofs.lemmas.Grind.{flat_map-append}
use Rattle.ob_types.specs.Table.{Table}
use Rattle.ob_judge.specs.Texts.{Strings}
use Rattle.check_procedures.specs.numbers.Numbering.{Numbering, LastsIn, BeginsWith, Reading, Renewed, KeepsMeaning}
use Rattle.check_procedures.specs.numbers.Readings.{each, pair}

-- what begins with more begins with less
begins_at : (front after added all : Strings) → after ≡ front ++ added → BeginsWith after all → BeginsWith front all
begins_at front after added all e h = record { more = added ++ h.more; is = h.is ∙ ap (λ l. l ++ h.more) e ∙ append_assoc front added h.more; few = h.few }

-- what stands between two places, and then up to a third
pub between_on : (xs : Strings) (i j k : ℕ) → i ≤ j → j ≤ k → between i j xs ++ between j k xs ≡ between i k xs
between_on xs i j k l m =
    let there : i + (j - i) ≡ j = omega (arith, l) in
    let whole : (j - i) + (k - j) ≡ k - i = omega (arith, l, m) in
    sym (ap (λ n. take n (drop i xs)) (sym whole) ∙ take-add (j - i) (k - j) (drop i xs)
    ∙ ap (λ ys. take (j - i) (drop i xs) ++ take (k - j) ys) (drop-drop (j - i) i xs ∙ ap (λ n. drop n xs) there))

-- a list to which others were added is as long, or longer
pub no_shorter : (before added after : Strings) → after ≡ before ++ added → length before ≤ length after
no_shorter before added after e = let l = ap (λ us. length us) e ∙ length-append before added in omega (arith, l)

module _ (n : Numbering) where
  -- a part that uses no strings
  pub unused : {A B : Type 0} (r : Reading A B) (tree made : A) (a : Strings) → r.uses (r.image n.types.types n.texts tree) ≡ []
      → ((v : Table) (all : Strings) → LastsIn n.types v → BeginsWith a all → r.image v all made ≡ r.image n.types.types n.texts tree)
      → ((v : Table) (all : Strings) → length all ≤ 4294967295 → r.uses (r.image v all made) ≡ [])
      → KeepsMeaning r n (record { tree = tree; made = made; before = a; after = a })
  unused r tree made a none same bare = record {
    added = sym (ap (λ l. a ++ l) none ∙ append-nil a);
    few = λ h. h;
    same = same;
    in_turn = λ v all many few. bare v all few ∙ sym (between_none all (length a));
  }

  -- of the same part
  pub at : {A B : Type 0} (r : Reading A B) (x z y : A) (a b : Strings) → x ≡ z → KeepsMeaning r n (record { tree = z; made = y; before = a; after = b })
      → KeepsMeaning r n (record { tree = x; made = y; before = a; after = b })
  at r x z y a b e h = subst (λ t. KeepsMeaning r n (record { tree = t; made = y; before = a; after = b })) (sym e) h

  -- a whole with one part
  pub within : {A B C D : Type 0} (r : Reading A B) (s : Reading C D) (f : B → D) (x : Renewed A) (tree made : C)
      → ((v : Table) (all : Strings) → s.image v all tree ≡ f (r.image v all x.tree))
      → ((v : Table) (all : Strings) → s.image v all made ≡ f (r.image v all x.made))
      → ((b : B) → s.uses (f b) ≡ r.uses b)
      → KeepsMeaning r n x → KeepsMeaning s n (record { tree = tree; made = made; before = x.before; after = x.after })
  within r s f x tree made of_tree of_made uses h = record {
    added = h.added ∙ ap (λ l. x.before ++ l) (sym (ap s.uses (of_tree n.types.types n.texts) ∙ uses (r.image n.types.types n.texts x.tree)));
    few = h.few;
    same = λ v all lasts front. of_made v all ∙ ap f (h.same v all lasts front) ∙ sym (of_tree n.types.types n.texts);
    in_turn = λ v all many few. ap s.uses (of_made v all) ∙ uses (r.image v all x.made) ∙ h.in_turn v all many few;
  }

  -- a whole with two
  pub joined : {A B C D E F : Type 0} (q : Reading A B) (r : Reading C D) (s : Reading E F) (f : B → D → F) (x : Renewed A) (y : Renewed C) (tree made : E)
      → x.after ≡ y.before
      → ((v : Table) (all : Strings) → s.image v all tree ≡ f (q.image v all x.tree) (r.image v all y.tree))
      → ((v : Table) (all : Strings) → s.image v all made ≡ f (q.image v all x.made) (r.image v all y.made))
      → ((b : B) (d : D) → s.uses (f b d) ≡ q.uses b ++ r.uses d)
      → KeepsMeaning q n x → KeepsMeaning r n y → KeepsMeaning s n (record { tree = tree; made = made; before = x.before; after = y.after })
  joined q r s f x y tree made meets of_tree of_made uses g h =
      let b = q.image n.types.types n.texts x.tree in
      let d = r.image n.types.types n.texts y.tree in
      let added = h.added ∙ ap (λ l. l ++ r.uses d) (sym meets) in
      record {
        added = added ∙ ap (λ l. l ++ r.uses d) g.added ∙ append_assoc x.before (q.uses b) (r.uses d)
            ∙ ap (λ l. x.before ++ l) (sym (ap s.uses (of_tree n.types.types n.texts) ∙ uses b d));
        few = λ l. h.few (subst (λ us. length us ≤ 4294967295) meets (g.few l));
        same = λ v all lasts front.
            of_made v all
            ∙ ap₂ f (g.same v all lasts (begins_at x.after y.after (r.uses d) all added front)) (h.same v all lasts front)
            ∙ sym (of_tree n.types.types n.texts);
        in_turn = λ v all many few.
            let first = no_shorter x.before (q.uses b) x.after g.added in
            let met = ap (λ us. length us) meets in
            let second = no_shorter x.after (r.uses d) y.after added in
            ap s.uses (of_made v all) ∙ uses (q.image v all x.made) (r.image v all y.made)
            ∙ ap₂ (λ (us ws : Strings). us ++ ws) (g.in_turn v all (omega (arith, second, many)) few)
            (h.in_turn v all many few ∙ ap (λ i. between i (length y.after) all) (sym met))
            ∙ between_on all (length x.before) (length x.after) (length y.after) first second;
      }

  -- no items
  pub no_item : {A B : Type 0} (r : Reading A B) (a : Strings) → KeepsMeaning (each r) n (record { tree = []; made = []; before = a; after = a })
  no_item r a = unused (each r) [] [] a refl (λ v all lasts front. refl) (λ v all few. refl)

  -- one more item
  pub one_more : {A B : Type 0} (r : Reading A B) (x : Renewed (List A)) (y : Renewed A) → x.after ≡ y.before → KeepsMeaning (each r) n x → KeepsMeaning r n y
      → KeepsMeaning (each r) n (record { tree = x.tree ++ y.tree ∷ []; made = x.made ++ y.made ∷ []; before = x.before; after = y.after })
  one_more r x y meets g h =
      joined (each r) r (each r) (λ bs b. bs ++ b ∷ []) x y (x.tree ++ y.tree ∷ []) (x.made ++ y.made ∷ []) meets
      (λ v all. map-append (r.image v all) x.tree (y.tree ∷ []))
      (λ v all. map-append (r.image v all) x.made (y.made ∷ []))
      (λ bs b. flat_map-append r.uses bs (b ∷ []) ∙ ap (λ l. flat_map r.uses bs ++ l) (append-nil (r.uses b)))
      g h

  -- one part behind another
  pub paired : {A B C D : Type 0} (q : Reading A B) (r : Reading C D) (x : Renewed A) (y : Renewed C) → x.after ≡ y.before → KeepsMeaning q n x → KeepsMeaning r n y
      → KeepsMeaning (pair q r) n (record { tree = (x.tree, y.tree); made = (x.made, y.made); before = x.before; after = y.after })
  paired q r x y meets g h =
      joined q r (pair q r) (λ b d. (b, d)) x y (x.tree, y.tree) (x.made, y.made) meets (λ v all. refl) (λ v all. refl) (λ b d. refl) g h

  -- the item at a place, where those before it are done
  pub next_item : {A B : Type 0} (r : Reading A B) (old cur : List A) (i : ℕ) (x y : A) (a b c : Strings) → i < length old → i < length cur → x ≡ get_or old i x
      → KeepsMeaning (each r) n (record { tree = take i old; made = take i cur; before = a; after = b }) → KeepsMeaning r n (record { tree = x; made = y; before = b; after = c })
      → KeepsMeaning (each r) n (record { tree = take (i + 1) old; made = take (i + 1) (set cur i y); before = a; after = c })
  next_item r old cur i x y a b c lo lc is g h =
      subst (λ t. KeepsMeaning (each r) n (record { tree = t; made = take (i + 1) (set cur i y); before = a; after = c }))
      (ap (λ z. take i old ++ z ∷ []) is ∙ sym (take_more old i x lo))
      (subst (λ m. KeepsMeaning (each r) n (record { tree = take i old ++ x ∷ []; made = m; before = a; after = c })) (sym (take_more_set cur i y lc))
      (one_more r (record { tree = take i old; made = take i cur; before = a; after = b }) (record { tree = x; made = y; before = b; after = c }) refl g h))

  -- all items are done
  pub all_items : {A B : Type 0} (r : Reading A B) (old cur : List A) (i : ℕ) (a b : Strings) → length old ≤ i → length cur ≤ i
      → KeepsMeaning (each r) n (record { tree = take i old; made = take i cur; before = a; after = b }) → KeepsMeaning (each r) n (record { tree = old; made = cur; before = a; after = b })
  all_items r old cur i a b lo lc h =
      subst (λ t. KeepsMeaning (each r) n (record { tree = t; made = cur; before = a; after = b })) (take_all i old lo)
      (subst (λ m. KeepsMeaning (each r) n (record { tree = take i old; made = m; before = a; after = b })) (take_all i cur lc) h)

  -- one turn of a loop that changes one item after the other
  pub next_turn : {A B : Type 0} (r : Reading A B) (old cur : List A) (i : ℕ) (x y : A) (a b c : Strings)
      → length cur ≡ length old → ((k : ℕ) (d : A) → i ≤ k → get_or cur k d ≡ get_or old k d) → i < length old → x ≡ get_or cur i x
      → KeepsMeaning (each r) n (record { tree = take i old; made = take i cur; before = a; after = b }) → KeepsMeaning r n (record { tree = x; made = y; before = b; after = c })
      → ((length (set cur i y) ≡ length old) × ((k : ℕ) (d : A) → i + 1 ≤ k → get_or (set cur i y) k d ≡ get_or old k d))
      × KeepsMeaning (each r) n (record { tree = take (i + 1) old; made = take (i + 1) (set cur i y); before = a; after = c })
  next_turn r old cur i x y a b c long rest lo is g h = (
    (
      length-set cur i y ∙ long,
      λ k d l. get_or-set_other cur i k y d (λ e. absurd (omega (arith, l, e))) ∙ rest k d (omega (arith, l)),
    ),
    next_item r old cur i x y a b c lo (omega (arith, lo, long)) (is ∙ rest i x (omega arith)) g h,
  )

  -- one part behind another, by what becomes of each
  pub beside : {A B C D : Type 0} (q : Reading A B) (r : Reading C D) (x x' : A) (y y' : C) (a b c : Strings)
      → KeepsMeaning q n (record { tree = x; made = x'; before = a; after = b }) → KeepsMeaning r n (record { tree = y; made = y'; before = b; after = c })
      → KeepsMeaning (pair q r) n (record { tree = (x, y); made = (x', y'); before = a; after = c })
  beside q r x x' y y' a b c g h = paired q r (record { tree = x; made = x'; before = a; after = b }) (record { tree = y; made = y'; before = b; after = c }) refl g h

  -- of a part that is made so
  pub made_so : {A B : Type 0} (r : Reading A B) (x y z : A) (a b : Strings) → KeepsMeaning r n (record { tree = x; made = z; before = a; after = b }) → y ≡ z
      → KeepsMeaning r n (record { tree = x; made = y; before = a; after = b })
  made_so r x y z a b h e = subst (λ m. KeepsMeaning r n (record { tree = x; made = m; before = a; after = b })) (sym e) h
