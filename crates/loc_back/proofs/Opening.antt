-- An operation from its definition to its uses: what each step keeps.
use Rattle.std.proofs.Common.{◌≡◌, ◌≢◌, ℕ, ◌+◌, ◌<◌, Bool, true, false, cond, List, [], ◌∷◌, ◌++◌, map, length, set, Option, Some, None, refl, sym, ap, ◌∙◌, subst, arith, inl, inr, ⊎_elim}
use Rattle.std.specs.Prelude.{◌==◌, slice_get}
use Rattle.std.proofs.lemmas.List.{get_or-set_same}
use Rattle.block_runs.specs.Blocks.{Operation}
use Rattle.block_runs.specs.Live.{has}
use Rattle.lir_core.specs.declared.places.Line.TheVariants.{Lir as Does}
use Rattle.lir_core.specs.Spots.{get, in_register}
use Rattle.lir_core.specs.Lines.{Room, AllBelow}
use Rattle.lir_core.specs.Walks.{without}
use Rattle.loc_state.specs.Steps.{saved}
use Rattle.loc_state.specs.Walked.{Apart}
use Rattle.loc_state.proofs.Numbers.{numbers_same, numbers_apart, test_same, test_apart, or_rest, below_push, append_nil, in_row}
use Rattle.loc_back.specs.declared.part.Begun.{Begun}
use Rattle.loc_back.specs.declared.part.Loading.{Loading}
use Rattle.loc_back.specs.declared.part.Stage.{Stage}
use Rattle.loc_back.specs.declared.part.Stage.TheVariants.{Operation as Within}
use Rattle.loc_back.specs.declared.part.BackPart.{BackPart}
use Rattle.loc_back.specs.Steps.{storing, loading, opening, names_of, end_of, settled_stage, leaving, if_homed, within, begins}
use Rattle.loc_back.specs.Served.{lives_from, Leads, Route, MayBeHomed, Backed, IsOpen, or_first, loaded, ComesFrom, AllLoads, IsMadeIn, stored_of, IsOwn, CanDefine, with_def, IsAt}
use Rattle.loc_back.proofs.Leading.{lives_before, used_lives}
use Rattle.loc_back.proofs.Turning.{turned}
use Rattle.loc_back.proofs.Standing.{has_saved, saves_it, saved_other, extends_saved, extends_made, same_mark, was_back, stays_in, standing_emptied, was_written, standing_filled, not_noted, apart_has, noted_value, has_push, has_pushed, used_push, used_written}

-- what is begun at a stage, once it is written
abbrev pub settled_at : Stage → BackPart → BackPart
settled_at st t = record t { end = end_of st t.regs t.end; lines = opening st (loading t.loads t.lines); named = t.noted ++ (names_of st ++ t.named); stage = settled_stage st; noted = []; loads = [] }

loads_weaken : (room : Room) (alive can may : ℕ → Bool) (def : Option ℕ) → ((v : ℕ) → can v ≡ true → may v ≡ true) → (ls : List Loading) → AllLoads room alive can def ls → AllLoads room alive may def ls
loads_weaken room alive can may def on [] h = tt
loads_weaken room alive can may def on (l ∷ ls) h = (h.0, h.1, h.2, on l.value h.3, h.4, loads_weaken room alive can may def on ls h.5)

---- It is whole

pub opened_backed : (x : Route) (n : ℕ) (op : Operation) (b : Begun) (t : BackPart) → IsOpen x n op op.uses b t → Backed x n (settled_at (Within b) t)
opened_backed x n op b t o = record {
  row = o.row;
  living = λ r v e. ⊎_elim (λ m. lives_before x.here n op o.there v m.1 m.0) (λ m. used_lives x.here n op o.there v (noted_value t.regs t.noted op.uses r v o.are_noted.used m e)) (o.origin r v e);
  serves = λ marks ext homes marked w wn wm wants.
      subst (λ i. Leads x.room x.here (record { regs = t.end; homed = homes }) (Does i ∷ storing b.reg b.stored (loading t.loads t.lines)) w) (sym o.index)
      (subst (λ s. Leads x.room x.here (record { regs = t.end; homed = homes }) (Does n ∷ storing b.reg s (loading t.loads t.lines)) w) (sym o.stored)
      (turned x.room x.here (record { regs = t.end; homed = homes }) marks n op t.noted t.named t.regs o.now t.loads t.lines t.homed o.there o.plain o.are_noted.used o.are_noted.below
      (loads_weaken x.room (lives_from x.here (n + 1)) (has t.homed) marks op.def ext.grown t.loads o.fit) (o.serves marks ext homes marked) op.def b.reg refl o.place
      (λ d e. same_mark x.made t.homed marks ext d (o.is_made d e)) o.comes w wn wm wants));
}

---- It is begun

module _ (x : Route) (n : ℕ) (op : Operation) (there : slice_get x.here.ops n ≡ Some op) (t : BackPart) (noted : t.noted ≡ []) (loads : t.loads ≡ []) (s : Backed x (n + 1) t) where
  begun_none : Rattle.block_runs.specs.Valid.is_call op.code ≡ false → op.def ≡ None → IsOpen (with_def None x) n op [] (record { index = n; reg = None; stored = None }) (record t { stage = within n None None })
  begun_none plain d = record {
    now = t.regs;
    index = refl;
    there = there;
    plain = plain;
    place = subst (λ o. IsMadeIn x.room o None) (sym d) tt;
    stored = sym (ap (stored_of t.homed) d);
    is_made = λ v e. (let z : None ≡ Some v = sym d ∙ e in cc);
    serves = s.serves;
    row = s.row;
    are_noted = record { below = subst (AllBelow x.room.regs) (sym noted) tt; used = ap (map (get t.regs)) noted };
    comes = λ r v e. subst (λ ls. ComesFrom (loaded ls r) None op.def t.regs r v) (sym loads) (inr ((λ q. cc), e, λ q. let z : None ≡ Some v = sym d ∙ q in cc));
    fit = subst (AllLoads x.room (lives_from x.here (n + 1)) (has t.homed) op.def) (sym loads) tt;
    origin = λ r v e. inl (s.living r v e, (λ q. let z : None ≡ Some v = sym d ∙ q in cc), ap (λ ls. loaded ls r) loads, λ q. cc);
  }

  module _ (d p : ℕ) (plain : Rattle.block_runs.specs.Valid.is_call op.code ≡ false) (def : op.def ≡ Some d) (in_row : p < x.room.regs) (value : d < x.room.values) (own : (r : ℕ) → get t.regs r ≡ Some d → Some p ≡ Some r) where
    in_length : p < length t.regs
    in_length = let l = s.row.size in omega (arith, l, in_row)

    -- what the register has is the definition, or leaves it
    IsLeft : Option ℕ → Type 0
    IsLeft None = (v : ℕ) → get t.regs p ≡ Some v → v ≡ d
    IsLeft (Some w) = (get t.regs p ≡ Some w) × (w ≢ d)

    other_def : (r v : ℕ) → get t.regs r ≡ Some v → r ≢ p → v ≢ d
    other_def r v e ne q = let z = own r (e ∙ ap Some q) in let y : p ≡ r = cc in ne (sym y)

    not_out : (out : Option ℕ) → IsLeft out → out ≢ Some d
    unfolding IsLeft
    not_out None l q = cc
    not_out (Some w) l q = l.1 (let z : w ≡ d = cc in z)

    begun_left : (out : Option ℕ) → IsLeft out → IsOpen (with_def (Some d) x) n op [] (record { index = n; reg = Some p; stored = if_homed t.homed d }) (record t { regs = set t.regs p None; homed = saved out t.homed; loads = leaving p out; stage = within n (Some p) (if_homed t.homed d) })
    unfolding IsLeft
    begun_left out left =
        let row = standing_emptied x t.homed t.regs p out in_length s.row in
        record {
          now = t.regs;
          index = refl;
          there = there;
          plain = plain;
          place = subst (λ o. IsMadeIn x.room o (Some p)) (sym def) (in_row, value);
          stored = ap (λ b. cond b (Some d) None) (sym (saved_other out t.homed d (not_out out left))) ∙ sym (ap (stored_of (saved out t.homed)) def);
          is_made = λ v e. (let z : Some d ≡ Some v = sym def ∙ e in let y : d ≡ v = cc in ap (λ b. cond b true (has x.made v)) (ap (λ y. y == v) y ∙ test_same v));
          serves = λ marks ext. s.serves marks (extends_saved x.made t.homed out marks (λ w q. free_out out left w q) (extends_made x.made (d ∷ x.made) (saved out t.homed) marks (λ v h. or_rest (d == v) (has x.made v) h) ext));
          row = record { size = row.size; single = row.single; values = row.values; free = λ r v e h. row.free r v e (unmade r v e h) };
          are_noted = record { below = subst (AllBelow x.room.regs) (sym noted) tt; used = ap (map (get (set t.regs p None))) noted };
          comes = λ r v e. subst (λ o. ComesFrom (loaded (leaving p out) r) (Some p) o (set t.regs p None) r v) (sym def) (come out left r v e (r == p) refl);
          fit = fits out left;
          origin = λ r v e. (let m = was_back t.regs p r v in_length e in inl (s.living r v m.1, (λ q. other_def r v m.1 m.0 (let z : Some d ≡ Some v = sym def ∙ q in let y : d ≡ v = cc in sym y)), no_load out r m.0, λ q. m.0 (let z : p ≡ r = cc in sym z)));
        }
      where
        free_out : (out : Option ℕ) → IsLeft out → (w : ℕ) → out ≡ Some w → MayBeHomed x.made t.homed w
        free_out None l w q = cc
        free_out (Some u) l w q = s.row.free p w (l.0 ∙ q)

        unmade : (r v : ℕ) → get (set t.regs p None) r ≡ Some v → cond (d == v) true (has x.made v) ≡ true → has x.made v ≡ true
        unmade r v e h = let m = was_back t.regs p r v in_length e in sym (ap (λ b. cond b true (has x.made v)) (test_apart d v (λ q. other_def r v m.1 m.0 (sym q)))) ∙ h

        no_load : (out : Option ℕ) (r : ℕ) → r ≢ p → loaded (leaving p out) r ≡ None
        no_load None r ne = refl
        no_load (Some w) r ne = ap (λ b. cond b (Some w) None) (test_apart r p ne)

        come : (out : Option ℕ) → IsLeft out → (r v : ℕ) → get t.regs r ≡ Some v → (b : Bool) → (r == p) ≡ b → ComesFrom (loaded (leaving p out) r) (Some p) (Some d) (set t.regs p None) r v
        come None l r v e true q = let same = numbers_same r p q in inl (ap Some (sym same), ap Some (sym (l v (ap (get t.regs) (sym same) ∙ e))))
        come (Some w) l r v e true q =
            let same = numbers_same r p q in
            let z : Some w ≡ Some v = sym l.0 ∙ ap (get t.regs) (sym same) ∙ e in
            subst (λ b. ComesFrom (cond b (Some w) None) (Some p) (Some d) (set t.regs p None) r v) (sym q) (let y : w ≡ v = cc in y)
        come out l r v e false q =
            let ne = numbers_apart r p q in
            subst (λ o. ComesFrom o (Some p) (Some d) (set t.regs p None) r v) (sym (no_load out r ne)) (inr ((λ y. ne (let z : p ≡ r = cc in sym z)), stays_in t.regs p r v None in_length ne e, λ y. other_def r v e ne (let z : d ≡ v = cc in sym z)))

        fits : (out : Option ℕ) → IsLeft out → AllLoads x.room (lives_from x.here (n + 1)) (has (saved out t.homed)) op.def (leaving p out)
        fits None l = tt
        fits (Some w) l = (in_row, s.row.values p w l.0, s.living p w l.0, saves_it w t.homed, (λ q. l.1 (let z : Some d ≡ Some w = sym def ∙ q in let y : d ≡ w = cc in sym y)), tt)

    is_left : (o : Option ℕ) → get t.regs p ≡ o → IsLeft (without d o)
    unfolding IsLeft
    is_left None e = λ v q. (let z : None ≡ Some v = sym e ∙ q in cc)
    is_left (Some w) e = by (w == d) refl
      where
        by : (b : Bool) → (w == d) ≡ b → IsLeft (cond b None (Some w))
        by true q = λ v g. (let z : Some w ≡ Some v = sym e ∙ g in let y : w ≡ v = cc in sym y ∙ numbers_same w d q)
        by false q = (e, numbers_apart w d q)

    begun_some : IsOpen (with_def (Some d) x) n op [] (record { index = n; reg = Some p; stored = if_homed t.homed d }) (begins n (Some d) (Some p) t)
    begun_some = begun_left (without d (get t.regs p)) (is_left (get t.regs p) refl)

  pub begun : (place : Option ℕ) → CanDefine x op place t → IsAt (with_def op.def x) n [] (begins n op.def place t).stage (begins n op.def place t)
  begun place c = by op.def refl place c.given c.own
    where
      by : (o : Option ℕ) → op.def ≡ o → (place : Option ℕ) → IsMadeIn x.room o place → IsOwn o place t.regs → IsAt (with_def o x) n [] (begins n o place t).stage (begins n o place t)
      by None d None m own = (op, begun_none c.plain d)
      by None d (Some p) m own = absurd m
      by (Some v) d None m own = absurd m
      by (Some v) d (Some p) m own = (op, begun_some v p c.plain d m.0 m.1 own)

---- Uses within an operation

module _ (x : Route) (n : ℕ) (op : Operation) (noted : List ℕ) (b : Begun) (t : BackPart) (o : IsOpen x n op noted b t) where
  pub noted_open : (r v : ℕ) → get t.regs r ≡ Some v → IsOpen x n op (noted ++ v ∷ []) b (record t { noted = t.noted ++ r ∷ [] })
  noted_open r v e = record {
    now = o.now;
    index = o.index;
    there = o.there;
    plain = o.plain;
    place = o.place;
    stored = o.stored;
    is_made = o.is_made;
    serves = o.serves;
    row = o.row;
    are_noted = record { below = below_push x.room.regs t.noted r o.are_noted.below (let l = in_row t.regs r v e in let k = o.row.size in omega (arith, l, k)); used = used_push t.regs t.noted noted r v o.are_noted.used e };
    comes = o.comes;
    fit = o.fit;
    origin = λ p u q. ⊎_elim inl (λ h. inr (has_push t.noted r p h)) (o.origin p u q);
  }

  pub filled_open : (r v : ℕ) → r < length t.regs → get t.regs r ≡ None → in_register t.regs v ≡ false → v < x.room.values → MayBeHomed x.made t.homed v → IsOpen x n op (noted ++ v ∷ []) b (record t { regs = set t.regs r (Some v); noted = t.noted ++ r ∷ [] })
  filled_open r v l e absent value free =
      let apart = not_noted t.regs r e t.noted noted o.are_noted.used in
      record {
        now = o.now;
        index = o.index;
        there = o.there;
        plain = o.plain;
        place = o.place;
        stored = o.stored;
        is_made = o.is_made;
        serves = o.serves;
        row = standing_filled x t.homed t.regs r v l absent value free o.row;
        are_noted = record {
          below = below_push x.room.regs t.noted r o.are_noted.below (let k = o.row.size in omega (arith, l, k));
          used = used_push (set t.regs r (Some v)) t.noted noted r v (used_written t.regs t.noted noted r (Some v) l apart o.are_noted.used) (get_or-set_same t.regs r (Some v) None l);
        };
        comes = λ p u q. still p u (loaded t.loads p) (o.comes p u q);
        fit = o.fit;
        origin = λ p u q. ⊎_elim (λ m. inr (ap (has (t.noted ++ r ∷ [])) m.0 ∙ has_pushed t.noted r)) (λ m. ⊎_elim inl (λ h. inr (has_push t.noted r p h)) (o.origin p u m.1)) (was_written t.regs r v p u l q);
      }
    where
      still : (p u : ℕ) (c : Option ℕ) → ComesFrom c b.reg op.def t.regs p u → ComesFrom c b.reg op.def (set t.regs r (Some v)) p u
      still p u (Some w) c = c
      still p u None c = ⊎_elim inl (λ m. inr (m.0, stays_in t.regs r p u (Some v) l (λ q. let z : Some u ≡ None = sym m.1 ∙ ap (get t.regs) q ∙ e in cc) m.1, m.2)) c

  loaded_more : (ls : List Loading) (r w p : ℕ) → loaded (ls ++ leaving r (Some w)) p ≡ or_first (cond (p == r) (Some w) None) (loaded ls p)
  loaded_more [] r w p = sym (or_none (cond (p == r) (Some w) None))
    where
      or_none : (a : Option ℕ) → or_first a None ≡ a
      or_none None = refl
      or_none (Some y) = refl
  loaded_more (l ∷ ls) r w p = ap (λ c. or_first c (cond (p == l.reg) (Some l.value) None)) (loaded_more ls r w p) ∙ assoc (cond (p == r) (Some w) None) (loaded ls p) (cond (p == l.reg) (Some l.value) None)
    where
      assoc : (a c d : Option ℕ) → or_first (or_first a c) d ≡ or_first a (or_first c d)
      assoc None c d = refl
      assoc (Some y) c d = refl

  fit_push : (homed : ℕ → Bool) (ls : List Loading) (r w : ℕ) → AllLoads x.room (lives_from x.here (n + 1)) homed op.def ls → r < x.room.regs → w < x.room.values → lives_from x.here (n + 1) w ≡ true → homed w ≡ true → op.def ≢ Some w → AllLoads x.room (lives_from x.here (n + 1)) homed op.def (ls ++ leaving r (Some w))
  fit_push homed [] r w h a c d e f = (a, c, d, e, f, tt)
  fit_push homed (l ∷ ls) r w h a c d e f = (h.0, h.1, h.2, h.3, h.4, fit_push homed ls r w h.5 a c d e f)

  -- a value leaves its register, which isn't noted, and is loaded again
  evicted_some : (r w : ℕ) → get t.regs r ≡ Some w → Apart r t.noted → IsOpen x n op noted b (record t { regs = set t.regs r None; homed = saved (Some w) t.homed; loads = t.loads ++ leaving r (Some w) })
  evicted_some r w e apart =
      let l = in_row t.regs r w e in
      let size = o.row.size in
      let was = ⊎_elim {C = (lives_from x.here (n + 1) w ≡ true) × (op.def ≢ Some w) × (loaded t.loads r ≡ None) × (b.reg ≢ Some r)} (λ m. m) (λ h. absurd (apart_has r t.noted apart h)) (o.origin r w e) in
      record {
        now = o.now;
        index = o.index;
        there = o.there;
        plain = o.plain;
        place = o.place;
        stored = o.stored ∙ stored_on op.def was.1;
        is_made = o.is_made;
        serves = λ marks ext. o.serves marks (extends_saved x.made t.homed (Some w) marks (λ u q. o.row.free r u (e ∙ q)) ext);
        row = standing_emptied x t.homed t.regs r (Some w) l o.row;
        are_noted = record { below = o.are_noted.below; used = used_written t.regs t.noted noted r None l apart o.are_noted.used };
        comes = λ p u q. subst (λ c. ComesFrom c b.reg op.def (set t.regs r None) p u) (sym (loaded_more t.loads r w p)) (moved p u (p == r) refl was (o.comes p u q));
        fit = fit_push (has (saved (Some w) t.homed)) t.loads r w (loads_weaken x.room (lives_from x.here (n + 1)) (has t.homed) (has (saved (Some w) t.homed)) op.def (has_saved (Some w) t.homed) t.loads o.fit) (omega (arith, l, size)) (o.row.values r w e) was.0 (saves_it w t.homed) was.1;
        origin = λ p u q. (let m = was_back t.regs r p u l q in ⊎_elim (λ h. inl (h.0, h.1, loaded_more t.loads r w p ∙ ap (λ c. or_first (cond c (Some w) None) (loaded t.loads p)) (test_apart p r m.0) ∙ h.2, h.3)) inr (o.origin p u m.1));
      }
    where
      stored_on : (d : Option ℕ) → d ≢ Some w → stored_of t.homed d ≡ stored_of (saved (Some w) t.homed) d
      stored_on None ne = refl
      stored_on (Some d) ne = ap (λ c. cond c (Some d) None) (sym (saved_other (Some w) t.homed d (λ q. ne (sym q))))

      here : (p u : ℕ) (c : Option ℕ) → c ≡ None → ComesFrom c b.reg op.def t.regs p u → b.reg ≢ Some p → get t.regs p ≡ Some u
      here p u None q c ne = ⊎_elim (λ m. absurd (ne m.0)) (λ m. m.1) c
      here p u (Some v) q c ne = cc

      still : (p u : ℕ) (c : Option ℕ) → (p == r) ≡ false → ComesFrom c b.reg op.def t.regs p u → ComesFrom c b.reg op.def (set t.regs r None) p u
      still p u (Some v) q c = c
      still p u None q c = ⊎_elim inl (λ m. inr (m.0, stays_in t.regs r p u None (in_row t.regs r w e) (numbers_apart p r q) m.1, m.2)) c

      moved : (p u : ℕ) (c : Bool) → (p == r) ≡ c → (lives_from x.here (n + 1) w ≡ true) × (op.def ≢ Some w) × (loaded t.loads r ≡ None) × (b.reg ≢ Some r) → ComesFrom (loaded t.loads p) b.reg op.def t.regs p u → ComesFrom (or_first (cond c (Some w) None) (loaded t.loads p)) b.reg op.def (set t.regs r None) p u
      moved p u true q was c =
          let is = numbers_same p r q in
          let at = here p u (loaded t.loads p) (ap (loaded t.loads) is ∙ was.2) c (λ y. was.3 (y ∙ ap Some is)) in
          let z : Some w ≡ Some u = sym e ∙ ap (get t.regs) (sym is) ∙ at in
          (let y : w ≡ u = cc in y)
      moved p u false q was c = still p u (loaded t.loads p) q c

  -- nothing leaves an empty register
  evicted_none : (r : ℕ) → r < length t.regs → get t.regs r ≡ None → IsOpen x n op noted b (record t { regs = set t.regs r None; loads = t.loads ++ [] })
  evicted_none r l e =
      let apart = not_noted t.regs r e t.noted noted o.are_noted.used in
      subst (λ ls. IsOpen x n op noted b (record t { regs = set t.regs r None; loads = ls })) (sym (append_nil t.loads)) (record {
        now = o.now;
        index = o.index;
        there = o.there;
        plain = o.plain;
        place = o.place;
        stored = o.stored;
        is_made = o.is_made;
        serves = o.serves;
        row = standing_emptied x t.homed t.regs r None l o.row;
        are_noted = record { below = o.are_noted.below; used = used_written t.regs t.noted noted r None l apart o.are_noted.used };
        comes = λ p u q. still p u (loaded t.loads p) (o.comes p u q);
        fit = o.fit;
        origin = λ p u q. o.origin p u (was_back t.regs r p u l q).1;
      })
    where
      still : (p u : ℕ) (c : Option ℕ) → ComesFrom c b.reg op.def t.regs p u → ComesFrom c b.reg op.def (set t.regs r None) p u
      still p u (Some w) c = c
      still p u None c = ⊎_elim inl (λ m. inr (m.0, stays_in t.regs r p u None l (λ q. let z : Some u ≡ None = sym m.1 ∙ ap (get t.regs) q ∙ e in cc) m.1, m.2)) c

  pub evicted_open : (r : ℕ) → r < length t.regs → Apart r t.noted → IsOpen x n op noted b (record t { regs = set t.regs r None; homed = saved (get t.regs r) t.homed; loads = t.loads ++ leaving r (get t.regs r) })
  evicted_open r l apart = by (get t.regs r) refl
    where
      by : (c : Option ℕ) → get t.regs r ≡ c → IsOpen x n op noted b (record t { regs = set t.regs r None; homed = saved c t.homed; loads = t.loads ++ leaving r c })
      by None e = evicted_none r l e
      by (Some w) e = evicted_some r w e apart
