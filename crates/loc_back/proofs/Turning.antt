-- An operation that isn't a call in front of lines that lead to a node's end.
use Rattle.std.proofs.Common.{◌≡◌, ◌≢◌, ℕ, zero, suc, ◌+◌, ◌<◌, ◌≤◌, Bool, true, false, cond, List, [], ◌∷◌, ◌++◌, map, length, take, drop, Option, Some, None, refl, sym, ap, ap₂, ◌∙◌, subst, arith, ◌⊎◌, inl, inr, ⊎_elim, length-append, append_assoc}
use Rattle.std.specs.Prelude.{◌==◌, slice_get, option_to_list}
use Rattle.std.proofs.lemmas.List.{length-map, take_at, drop_at, get_or_at}
use Rattle.block_runs.specs.Blocks.{Operation}
use Rattle.block_runs.specs.Live.{has}
use Rattle.block_runs.specs.Valid.{is_call}
use Rattle.lir_core.specs.declared.places.Places.{Places}
use Rattle.lir_core.specs.declared.places.Line.{Line}
use Rattle.lir_core.specs.declared.places.Line.TheVariants.{Lir as Does}
use Rattle.lir_core.specs.Spots.{Spot, reg, home, same, get}
use Rattle.lir_core.specs.Lines.{one_def, Room, AllBelow}
use Rattle.lir_core.specs.Walks.{Walker, Can, Passes, Finishes, Below, walk, perform, without}
use Rattle.loc_state.proofs.Numbers.{test_same, test_apart, map_map, below_push}
use Rattle.loc_state.proofs.Keeping.{stays, CanIf, perform_if}
use Rattle.loc_back.specs.declared.part.Loading.{Loading}
use Rattle.loc_back.specs.Steps.{storing, loading, if_homed}
use Rattle.loc_back.specs.Served.{Section, lives_from, wanted, Leads, Serves, loaded, ComesFrom, AllLoads, IsMadeIn, stored_of}
use Rattle.loc_back.proofs.Leading.{lives_before, AreHomed, taken_from, loads_lead, kept_view, kept_reg, kept_homes, store_leads}

pub map_below : (g h : ℕ → Option ℕ) → ((r u : ℕ) → g r ≡ Some u → h r ≡ Some u) → (rs us : List ℕ) → map g rs ≡ map Some us → map h rs ≡ map Some us
map_below g h on [] [] e = refl
map_below g h on [] (u ∷ us) e = cc
map_below g h on (r ∷ rs) [] e = cc
map_below g h on (r ∷ rs) (u ∷ us) e =
    let a : g r ≡ Some u = cc in
    let b : map g rs ≡ map Some us = cc in
    let c = on r u a in
    let d = map_below g h on rs us b in
    cc

-- a line with an operation leads on where it can be taken, for whether it is a call
pub front : (room : Room) (b : Section) (end : Places) (n : ℕ) (op : Operation) → slice_get b.ops n ≡ Some op → (call : Bool) → is_call op.code ≡ call → (lines : List Line) (w : Walker) → CanIf call room.regs op n w → Leads room b end lines (perform_if call op w) → Leads room b end (Does n ∷ lines) w
front room b end n op there call is lines w can lead =
    let at : (Can room.regs (Some op) n w × Passes room b.ops lines (perform (Some op) w)) × Finishes room.regs b.ops b.last end (walk b.ops lines (perform (Some op) w)) =
    subst (λ c. (CanIf c room.regs op n w × Passes room b.ops lines (perform_if c op w)) × Finishes room.regs b.ops b.last end (walk b.ops lines (perform_if c op w))) (sym is) ((can, lead.0), lead.1) in
    subst (λ o. (Can room.regs o n w × Passes room b.ops lines (perform o w)) × Finishes room.regs b.ops b.last end (walk b.ops lines (perform o w))) (sym there) at

-- all loads are of homed values, where those that live and are marked are homed but for the definition
pub loads_homed : (room : Room) (alive marks : ℕ → Bool) (def : Option ℕ) (view : Spot → Option ℕ) → ((v : ℕ) → alive v ≡ true → marks v ≡ true → view (home v) ≡ Some v) → (ls : List Loading) → AllLoads room alive marks def ls → AreHomed room view ls
loads_homed room alive marks def view homes [] a = tt
loads_homed room alive marks def view homes (l ∷ ls) a = (a.0, a.1, homes l.value a.2 a.3, loads_homed room alive marks def view homes ls a.5)

-- a load gives a register a value that lives and is marked
pub loaded_lives : (room : Room) (alive marks : ℕ → Bool) (def : Option ℕ) (ls : List Loading) → AllLoads room alive marks def ls → (r u : ℕ) → loaded ls r ≡ Some u → (alive u ≡ true) × (marks u ≡ true)
loaded_lives room alive marks def [] a r u e = cc
loaded_lives room alive marks def (l ∷ ls) a r u e = by (loaded ls r) refl (r == l.reg) e (loaded_lives room alive marks def ls a.5 r u)
  where
    by : (o : Option ℕ) → loaded ls r ≡ o → (c : Bool) → Rattle.loc_back.specs.Served.or_first o (cond c (Some l.value) None) ≡ Some u → (loaded ls r ≡ Some u → (alive u ≡ true) × (marks u ≡ true)) → (alive u ≡ true) × (marks u ≡ true)
    by (Some v) q c e on = on (q ∙ e)
    by None q true e on = let z : l.value ≡ u = cc in (ap alive (sym z) ∙ a.2, ap marks (sym z) ∙ a.3)
    by None q false e on = cc

module _ (room : Room) (b : Section) (end : Places) (marks : ℕ → Bool) (n : ℕ) (op : Operation) (noted named : List ℕ) (before now : List (Option ℕ)) (loads : List Loading) (lines : List Line) (homed : List ℕ) (there : slice_get b.ops n ≡ Some op) (plain : is_call op.code ≡ false) (used : map (get before) noted ≡ map Some op.uses) (below : AllBelow room.regs noted) (fit : AllLoads room (lives_from b (n + 1)) marks op.def loads) (serves : Serves room b end lines named (n + 1) (wanted marks (lives_from b (n + 1)) now)) where
  as_many : length noted ≡ length op.uses
  as_many = let a = length-map noted (get before) in let c = length-map op.uses Some in let e = ap length used in omega (arith, a, c, e)

  reads : (w : Walker) (rest : List ℕ) → w.named ≡ noted ++ rest → Below (wanted marks (lives_from b n) before) w.view → map w.view (map reg (take (length op.uses) w.named)) ≡ map Some op.uses
  reads w rest wm wants = ap (λ xs. map w.view (map reg (take (length op.uses) xs))) wm ∙ ap (λ xs. map w.view (map reg xs)) (take_at noted rest (length op.uses) as_many) ∙ map_map w.view reg noted ∙ map_below (get before) (λ r. w.view (reg r)) (λ r u e. wants (reg r) u e) noted op.uses used

  -- homes before, of what isn't made
  home_there : (w : Walker) → Below (wanted marks (lives_from b n) before) w.view → (v : ℕ) → lives_from b (n + 1) v ≡ true → marks v ≡ true → op.def ≢ Some v → w.view (home v) ≡ Some v
  home_there w wants v a m ne = wants (home v) v (ap (λ c. cond c (cond (marks v) (Some v) None) None) (lives_before b n op there v ne a) ∙ ap (λ c. cond c (Some v) None) m)

  -- an operation without a definition
  turned_none : op.def ≡ None → ((r v : ℕ) → get now r ≡ Some v → ComesFrom (loaded loads r) None None before r v) → (w : Walker) → w.next ≡ n → w.named ≡ noted ++ named → Below (wanted marks (lives_from b n) before) w.view → Leads room b end (Does n ∷ loading loads lines) w
  turned_none d comes w wn wm wants =
      let many = as_many in
      let none : one_def op.def ≡ 0 = ap one_def d in
      let count : length op.uses + one_def op.def ≡ length noted = omega (arith, many, none) in
      let size = length-append noted named in
      let long = ap length wm in
      let taken : take (length op.uses + one_def op.def) w.named ≡ noted = ap (take (length op.uses + one_def op.def)) wm ∙ take_at noted named (length op.uses + one_def op.def) (sym count) in
      let left : drop (length op.uses + one_def op.def) w.named ≡ named = ap (drop (length op.uses + one_def op.def)) wm ∙ drop_at noted named (length op.uses + one_def op.def) (sym count) in
      let homes : (v : ℕ) → lives_from b (n + 1) v ≡ true → marks v ≡ true → w.view (home v) ≡ Some v = λ v a m. home_there w wants v a m (λ q. let z : None ≡ Some v = sym d ∙ q in cc) in
      let z = perform_if false op w in
      let same_view : (p : Spot) → z.view p ≡ Rattle.lir_core.specs.Walks.left false w.view p = λ p. ap (λ o. Rattle.lir_core.specs.Walks.defined o (reg (Rattle.std.proofs.Common.get_or w.named (length op.uses) 0)) (Rattle.lir_core.specs.Walks.left false w.view) p) d in
      let homes' : (v : ℕ) → lives_from b (n + 1) v ≡ true → marks v ≡ true → z.view (home v) ≡ Some v = λ v a m. same_view (home v) ∙ homes v a m in
      front room b end n op there false plain (loading loads lines) w
      (sym wn, omega (arith, count, size, long), subst (AllBelow room.regs) (sym taken) below, reads w named wm wants)
      (loads_lead room b end lines named (n + 1) marks (lives_from b (n + 1)) now serves loads z (omega (arith, wn)) left (loads_homed room (lives_from b (n + 1)) marks op.def z.view homes' loads fit)
      (λ r v e. from z same_view r v (loaded loads r) refl (comes r v e) homes') homes')
    where
      from : (z : Walker) → ((p : Spot) → z.view p ≡ Rattle.lir_core.specs.Walks.left false w.view p) → (r v : ℕ) (o : Option ℕ) → loaded loads r ≡ o → ComesFrom o None None before r v → ((v : ℕ) → lives_from b (n + 1) v ≡ true → marks v ≡ true → z.view (home v) ≡ Some v) → taken_from o z.view r ≡ Some v
      from z same r v (Some u) q c homes = let l = loaded_lives room (lives_from b (n + 1)) marks op.def loads fit r u q in homes u l.0 l.1 ∙ ap Some c
      from z same r v None q c homes = ⊎_elim (λ m. let y : None ≡ Some v = m.1 in cc) (λ m. same (reg r) ∙ wants (reg r) v m.1) c

  -- an operation with a definition, which is stored where it is marked
  turned_some : (d p : ℕ) → op.def ≡ Some d → p < room.regs → d < room.values → has homed d ≡ marks d → ((r v : ℕ) → get now r ≡ Some v → ComesFrom (loaded loads r) (Some p) (Some d) before r v) → (w : Walker) → w.next ≡ n → w.named ≡ noted ++ (p ∷ named) → Below (wanted marks (lives_from b n) before) w.view → Leads room b end (Does n ∷ storing (Some p) (if_homed homed d) (loading loads lines)) w
  turned_some d p is in_row value marked comes w wn wm wants =
      let many = as_many in
      let one : one_def op.def ≡ 1 = ap one_def is in
      let k = length op.uses + one_def op.def in
      let count : k ≡ length (noted ++ p ∷ []) = (let e = length-append noted (p ∷ []) in omega (arith, many, one, e)) in
      let split : w.named ≡ (noted ++ p ∷ []) ++ named = wm ∙ sym (append_assoc noted (p ∷ []) named) in
      let size = length-append (noted ++ p ∷ []) named in
      let long = ap length split in
      let taken : take k w.named ≡ noted ++ p ∷ [] = ap (take k) split ∙ take_at (noted ++ p ∷ []) named k (sym count) in
      let left : drop k w.named ≡ named = ap (drop k) split ∙ drop_at (noted ++ p ∷ []) named k (sym count) in
      let z = perform_if false op w in
      let spot_is : Rattle.std.proofs.Common.get_or w.named (length op.uses) 0 ≡ p = ap (λ xs. Rattle.std.proofs.Common.get_or xs (length op.uses) 0) wm ∙ get_or_at noted p named 0 (length op.uses) many in
      let view_is : (q : Spot) → z.view q ≡ cond (same q (reg p)) (Some d) (without d (Rattle.lir_core.specs.Walks.left false w.view q)) = λ q. ap₂ (λ o s. Rattle.lir_core.specs.Walks.defined o (reg s) (Rattle.lir_core.specs.Walks.left false w.view) q) is spot_is in
      let made : z.view (reg p) ≡ Some d = view_is (reg p) ∙ ap (λ c. cond c (Some d) (without d (w.view (reg p)))) (test_same p) in
      let homes : (v : ℕ) → lives_from b (n + 1) v ≡ true → marks v ≡ true → d ≢ v → z.view (home v) ≡ Some v = λ v a m ne. view_is (home v) ∙ stays d v (w.view (home v)) (home_there w wants v a m (λ q. ne (let y : Some d ≡ Some v = sym is ∙ q in let y2 : d ≡ v = cc in y2))) (λ q. ne (sym q)) in
      let regs : (r v : ℕ) → get before r ≡ Some v → p ≢ r → d ≢ v → z.view (reg r) ≡ Some v = λ r v e np ne. view_is (reg r) ∙ ap (λ c. cond c (Some d) (without d (w.view (reg r)))) (test_apart r p (λ q. np (sym q))) ∙ stays d v (w.view (reg r)) (wants (reg r) v e) (λ q. ne (sym q)) in
      front room b end n op there false plain (storing (Some p) (if_homed homed d) (loading loads lines)) w
      (sym wn, omega (arith, count, size, long), subst (AllBelow room.regs) (sym taken) (below_push room.regs noted p below in_row), reads w (p ∷ named) wm wants)
      (store_leads room b end (loading loads lines) p d (has homed d) z in_row value made (λ y yn ym yv.
      let kept : (v : ℕ) → lives_from b (n + 1) v ≡ true → marks v ≡ true → y.view (home v) ≡ Some v = λ v a m. yv (home v) ∙ kept_homes p d z.view marks (lives_from b (n + 1)) made homes (has homed d) (sym marked) v a m in
      loads_lead room b end lines named (n + 1) marks (lives_from b (n + 1)) now serves loads y (yn ∙ omega (arith, wn)) (ym ∙ left) (loads_homed room (lives_from b (n + 1)) marks op.def y.view kept loads fit)
      (λ r v e. from z y made regs yv kept r v (loaded loads r) refl (comes r v e)) kept))
    where
      from : (z y : Walker) → z.view (reg p) ≡ Some d → ((r v : ℕ) → get before r ≡ Some v → p ≢ r → d ≢ v → z.view (reg r) ≡ Some v) → ((q : Spot) → y.view q ≡ kept_view (has homed d) p d z.view q) → ((v : ℕ) → lives_from b (n + 1) v ≡ true → marks v ≡ true → y.view (home v) ≡ Some v) → (r v : ℕ) (o : Option ℕ) → loaded loads r ≡ o → ComesFrom o (Some p) (Some d) before r v → taken_from o y.view r ≡ Some v
      from z y made regs yv kept r v (Some u) q c = let l = loaded_lives room (lives_from b (n + 1)) marks op.def loads fit r u q in kept u l.0 l.1 ∙ ap Some c
      from z y made regs yv kept r v None q c = yv (reg r) ∙ kept_reg (has homed d) p d z.view r ∙ ⊎_elim
          (λ m. let a : p ≡ r = (let y : Some p ≡ Some r = m.0 in cc) in let e : d ≡ v = (let y : Some d ≡ Some v = m.1 in cc) in ap (λ s. z.view (reg s)) (sym a) ∙ made ∙ ap Some e)
          (λ m. regs r v m.1 (λ s. m.0 (ap Some s)) (λ s. m.2 (ap Some s))) c

  pub turned : (def place : Option ℕ) → op.def ≡ def → IsMadeIn room def place → ((d : ℕ) → def ≡ Some d → has homed d ≡ marks d) → ((r v : ℕ) → get now r ≡ Some v → ComesFrom (loaded loads r) place def before r v) → (w : Walker) → w.next ≡ n → w.named ≡ noted ++ (option_to_list place ++ named) → Below (wanted marks (lives_from b n) before) w.view → Leads room b end (Does n ∷ storing place (stored_of homed def) (loading loads lines)) w
  turned None None is m marked comes w wn wm wants = turned_none is comes w wn wm wants
  turned None (Some p) is m marked comes w wn wm wants = absurd m
  turned (Some d) None is m marked comes w wn wm wants = absurd m
  turned (Some d) (Some p) is m marked comes w wn wm wants = turned_some d p is m.0 m.1 (marked d refl) comes w wn wm wants
