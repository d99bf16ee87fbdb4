-- What each call keeps of a whole walk, where it is its step.
use Rattle.std.proofs.Common.{◌≡◌, ℕ, zero, suc, ◌+◌, Bool, true, false, cond, List, [], ◌∷◌, ◌++◌, map, length, replicate, Option, Some, None, refl, sym, ap, ◌∙◌, subst, ⊎_elim}
use Rattle.std.specs.Prelude.{slice_get, option_to_list}
use Rattle.block_runs.specs.Blocks.{Operation}
use Rattle.block_runs.specs.Live.{has}
use Rattle.block_runs.specs.declared.end.End.{End}
use Rattle.lir_core.specs.declared.flow.Flow.{Flow}
use Rattle.lir_core.specs.declared.places.Places.{Places}
use Rattle.lir_core.specs.declared.places.Line.{Line}
use Rattle.lir_core.specs.Spots.{reg, home, out, target, saved, get, view_of}
use Rattle.lir_core.specs.Lines.{Room}
use Rattle.lir_core.specs.Walks.{Walks, Below, begin}
use Rattle.loc_state.specs.Steps as steps
use Rattle.loc_state.specs.Walked.{AllWalk}
use Rattle.loc_state.proofs.Homing.{has_all_inserted}
use Rattle.loc_back.specs.declared.part.Stage.{Stage}
use Rattle.loc_back.specs.declared.part.Stage.TheVariants.{Behind, End as AtEnd, Operation as Within, Done}
use Rattle.loc_back.specs.declared.part.BackPart.{BackPart}
use Rattle.loc_back.specs.declared.backward.Backward.{Backward}
use Rattle.loc_back.specs.Marks.{marked, with_marks, starts_marked, ends_marked}
use Rattle.loc_back.specs.Steps.{settled, taken, evicted, other, begins, called, written, reading, emptied, all_saved, unseated, defined, entered, bare, ended, in_part, left_node, before_node, started, with_homes, closed}
use Rattle.loc_back.specs.Served.{Section, lives_from, wanted, Extends, AreMarked, with_homed, Route, MayBeHomed, IsStanding, Backed, due, IsAt, IsServed, AllServed, AreServed, Simulates, IsEntered, MayTake, MayEvict, CanDefine, CanCall, with_def, CanEnter, walked, onward, section_of, sections, tasks, IsWhole}
use Rattle.loc_back.proofs.Leading.{home_wanted}
use Rattle.loc_back.proofs.MarkedSets.{has_marked}
use Rattle.loc_back.proofs.Standing.{extends_less, extends_saved, extends_made}
use Rattle.loc_back.proofs.Opening.{settled_at}
use Rattle.loc_back.proofs.GivenSeats.{all_saved_grows, all_saved_was, other_is, unseated_grows, unseated_was}
use Rattle.loc_back.proofs.Places.{settled_backed, takes_at, evicts_at, defines_at, calls_at, made_more, homes_grow, entered_ending}

---- Within a node

pub takes_to : (x : Route) (n : ℕ) (noted : List ℕ) (v : ℕ) (place : Option ℕ) (f : Backward) → MayTake x v place f.part → Simulates x n noted f → Simulates x n (noted ++ v ∷ []) (in_part (taken v place) f)
takes_to x n noted v place f m s = by place (takes_at x n noted v place f.part.stage f.part m.taking m.can m.below m.free m.lives s.here)
  where
    by : (p : Option ℕ) → IsAt x n (noted ++ v ∷ []) f.part.stage (taken v p f.part) → Simulates x n (noted ++ v ∷ []) (in_part (taken v p) f)
    by None a = record { behind = s.behind; here = a }
    by (Some r) a = record { behind = s.behind; here = a }

free_at : (x : Route) (n : ℕ) (noted : List ℕ) (st : Stage) (t : BackPart) → IsAt x n noted st t → (r v : ℕ) → get t.regs r ≡ Some v → MayBeHomed x.made t.homed v
free_at x n noted Behind t a = a.row.free
free_at x n noted AtEnd t a = a.1.row.free
free_at x n noted (Within b) t a = a.1.row.free
free_at x n noted Done t a = a.3.row.free

pub evicts_to : (x : Route) (n : ℕ) (noted : List ℕ) (r : ℕ) (f : Backward) → MayEvict r f.part → Simulates x n noted f → Simulates x n noted (in_part (evicted r) f)
evicts_to x n noted r f m s = record {
  behind = λ marks ext. s.behind marks (extends_saved x.made f.part.homed (get f.part.regs r) marks (λ w q. free_at x n noted f.part.stage f.part s.here r w q) ext);
  here = evicts_at x n noted r f.part.stage f.part m.taking m.in_row m.apart s.here;
}

-- what an operation evicts at its definition may be homed
begins_free : (made homed : List ℕ) (marks : ℕ → Bool) (n : ℕ) (def place : Option ℕ) (t : BackPart) → ((r v : ℕ) → get t.regs r ≡ Some v → MayBeHomed made t.homed v) → Extends (option_to_list def ++ made) (begins n def place t).homed marks → Extends made t.homed marks
begins_free made homed marks n None place t free ext = by place ext
  where
    by : (p : Option ℕ) → Extends made (begins n None p t).homed marks → Extends made t.homed marks
    by None e = e
    by (Some r) e = e
begins_free made homed marks n (Some d) None t free ext = extends_made made (d ∷ made) t.homed marks (made_more (d ∷ []) made) ext
begins_free made homed marks n (Some d) (Some r) t free ext = extends_saved made t.homed (other (Some d) (get t.regs r)) marks (λ w q. free r w (other_is (Some d) (get t.regs r) w q).0) (extends_made made (d ∷ made) (steps.saved (other (Some d) (get t.regs r)) t.homed) marks (made_more (d ∷ []) made) ext)

pub defines_to : (x : Route) (n : ℕ) (op : Operation) (place : Option ℕ) (f : Backward) → slice_get x.here.ops n ≡ Some op → IsEntered f.part.stage → CanDefine x op place f.part → Simulates x (n + 1) (due x (n + 1) f.part.stage) f → Simulates (with_def op.def x) n [] (in_part (defined n op.def place) f)
defines_to x n op place f there e c s = record {
  behind = λ marks ext. s.behind marks (begins_free x.made f.part.homed marks n op.def place (settled f.part) (free_at x (n + 1) (due x (n + 1) f.part.stage) f.part.stage f.part s.here) ext);
  here = defines_at x n op place f.part.stage f.part there e c s.here;
}

call_extends : (x : Route) (op : Operation) (args : List (Option ℕ)) (t : BackPart) (marks : ℕ → Bool) → ((r v : ℕ) → get t.regs r ≡ Some v → MayBeHomed x.made t.homed v) → CanCall x op args t.homed → Extends (option_to_list op.def ++ x.made) (unseated op.uses args (all_saved op.def t.regs t.homed)) marks → Extends x.made t.homed marks
call_extends x op args t marks free c ext =
    let ext' = subst (λ rs. Extends (option_to_list op.def ++ x.made) (unseated op.uses rs (all_saved op.def t.regs t.homed)) marks) c.given.args_are ext in
    let less = extends_made x.made (option_to_list op.def ++ x.made) (unseated op.uses (map c.given.place op.uses) (all_saved op.def t.regs t.homed)) marks (made_more (option_to_list op.def) x.made) ext' in
    extends_less x.made t.homed (unseated op.uses (map c.given.place op.uses) (all_saved op.def t.regs t.homed)) marks
    (λ v h. unseated_grows c.given.place op.uses (all_saved op.def t.regs t.homed) v (all_saved_grows op.def t.regs t.homed v h))
    (λ v h. ⊎_elim (λ k. ⊎_elim (λ g m. g) (λ q. free q.0 v (other_is op.def (get t.regs q.0) v q.1).0) (all_saved_was op.def t.regs t.homed v k)) (λ u m. c.free v u (made_more (option_to_list op.def) x.made v m)) (unseated_was c.given.place op.uses (all_saved op.def t.regs t.homed) v h))
    less

pub calls_to : (x : Route) (n : ℕ) (op : Operation) (args : List (Option ℕ)) (f : Backward) → slice_get x.here.ops n ≡ Some op → IsEntered f.part.stage → CanCall x op args f.part.homed → Simulates x (n + 1) (due x (n + 1) f.part.stage) f → Simulates (with_def op.def x) n [] (in_part (called n op args) f)
calls_to x n op args f there e c s = record {
  behind = λ marks ext. s.behind marks (call_extends x op args f.part marks (free_at x (n + 1) (due x (n + 1) f.part.stage) f.part.stage f.part s.here) c ext);
  here = calls_at x n op args f.part.stage f.part there e c s.here;
}

---- From node to node

-- a node that is walked to its start is served
node_served : (x : Route) (s : BackPart) → Backed x 0 s → ((v : ℕ) → lives_from x.here 0 v ≡ true → has x.here.before v ≡ true) → (marks : ℕ → Bool) → Extends x.made s.homed marks → IsServed x.room marks x.here (bare s.regs) s.lines s.named (bare s.end)
node_served x s b starts marks ext first last marked_first marked_last =
    let r = b.serves marks ext last marked_last (begin (with_homed s.regs first) s.named) refl refl there in
    record { passes = r.0; finishes = r.1 }
  where
    there : Below (wanted marks (lives_from x.here 0) s.regs) (view_of (with_homed s.regs first))
    there (reg r) u e = e
    there (home v) u e =
        let m = home_wanted (lives_from x.here 0 v) (marks v) v u e in
        ap (λ c. cond c (Some v) None) (marked_first v ∙ ap (λ c. cond c (marks v) false) (starts v m.0) ∙ m.1) ∙ ap Some m.2
    there (out k) u e = cc
    there target u e = cc
    there saved u e = cc

-- where the node that is walked joins the lists
pub left_served : (x : Route) (st : Stage) (f : Backward) → IsAt x 0 (due x 0 st) st f.part → AreServed x f.part.homed f → ((v : ℕ) → lives_from x.here 0 v ≡ true → has x.here.before v ≡ true) → (marks : ℕ → Bool) → Extends x.made f.part.homed marks → AllServed x.room marks (walked st x) (ended st (in_part (settled_at st) f)).starts (ended st (in_part (settled_at st) f)).lines (ended st (in_part (settled_at st) f)).regs (ended st (in_part (settled_at st) f)).ends
left_served x Behind f a s starts marks ext = s marks ext
left_served x AtEnd f a s starts marks ext = (node_served x (settled_at AtEnd f.part) (settled_backed x 0 AtEnd f.part tt a) starts marks ext, s marks ext)
left_served x (Within b) f a s starts marks ext = (node_served x (settled_at (Within b) f.part) (settled_backed x 0 (Within b) f.part tt a) starts marks ext, s marks ext)
left_served x Done f a s starts marks ext = (node_served x (settled_at Done f.part) (settled_backed x 0 Done f.part tt a) starts marks ext, s marks ext)

-- the part with which a node is left
record IsLeft (x : Route) (homed : List ℕ) (regs : List (Option ℕ)) (s : BackPart) : Type 0 where
  row : IsStanding x homed regs
  living : (r v : ℕ) → get regs r ≡ Some v → lives_from x.here 0 v ≡ true
  homed_is : s.homed ≡ homed
  regs_are : s.regs ≡ regs
  lines : s.lines ≡ []
  named : s.named ≡ []
  noted : s.noted ≡ []
  loads : s.loads ≡ []

backed_left : (x : Route) (s : BackPart) → Backed x 0 s → s.noted ≡ [] → s.loads ≡ [] → IsLeft x s.homed s.regs (record s { end = []; lines = []; named = [] })
backed_left x s b noted loads = record { row = b.row; living = b.living; homed_is = refl; regs_are = refl; lines = refl; named = refl; noted = noted; loads = loads }

is_left : (x : Route) (st : Stage) (f : Backward) → IsAt x 0 (due x 0 st) st f.part → IsLeft x f.part.homed f.part.regs (ended st (in_part (settled_at st) f)).part
is_left x Behind f a = record {
  row = a.row;
  living = λ r v e. absurd (a.empty r v e);
  homed_is = refl;
  regs_are = refl;
  lines = ap (λ ls. Rattle.loc_back.specs.Steps.loading ls f.part.lines) a.loads ∙ a.lines;
  named = ap (λ rs. rs ++ f.part.named) a.unnoted ∙ a.named;
  noted = refl;
  loads = refl;
}
is_left x AtEnd f a = backed_left x (settled_at AtEnd f.part) (settled_backed x 0 AtEnd f.part tt a) refl refl
is_left x (Within b) f a = backed_left x (settled_at (Within b) f.part) (settled_backed x 0 (Within b) f.part tt a) refl refl
is_left x Done f a = backed_left x (settled_at Done f.part) (settled_backed x 0 Done f.part tt a) refl refl

pub enters_to : (x : Route) (b : Section) (params : List ℕ) (end : End) (args : List (Option ℕ)) (homes : List ℕ) (f : Backward) → CanEnter x b params end homes f.part.homed → Simulates x 0 (due x 0 f.part.stage) f → Simulates (onward f.part.stage b params x) (length b.ops) [] (before_node params end args homes f)
enters_to x b params end args homes f c s =
    let g = left_node f in
    let left = is_left x f.part.stage f s.here in
    record {
      behind = λ marks ext. left_served x f.part.stage f s.here s.behind c.starts marks (less g left marks ext);
      here = (
        refl,
        entered_ending x b params end args homes f.part.stage g.part
            (subst (λ h. IsStanding x h g.part.regs) (sym left.homed_is) (subst (IsStanding x f.part.homed) (sym left.regs_are) left.row))
            (λ r v e n. c.goes_on v (left.living r v (ap (λ rs. get rs r) (sym left.regs_are) ∙ e)) n)
            c.passes c.below (λ v h. subst (λ k. MayBeHomed (params ++ x.made) k v) (sym left.homed_is) (c.free v h))
            left.lines left.named left.noted left.loads,
      );
    }
  where
    less : (g : Backward) → IsLeft x f.part.homed f.part.regs g.part → (marks : ℕ → Bool) → Extends (params ++ x.made) (Rattle.loc_state.specs.Homed.all_inserted homes g.part.homed) marks → Extends x.made f.part.homed marks
    less g left marks ext =
        extends_made x.made (params ++ x.made) f.part.homed marks (made_more params x.made)
        (extends_less (params ++ x.made) f.part.homed (Rattle.loc_state.specs.Homed.all_inserted homes f.part.homed) marks (homes_grow homes f.part.homed)
        (λ v h. by v (has homes v) refl (sym (has_all_inserted homes f.part.homed v) ∙ h))
        (subst (λ k. Extends (params ++ x.made) (Rattle.loc_state.specs.Homed.all_inserted homes k) marks) left.homed_is ext))
      where
        by : (v : ℕ) (t : Bool) → has homes v ≡ t → cond t true (has f.part.homed v) ≡ true → MayBeHomed (params ++ x.made) f.part.homed v
        by v true e h = c.joins v e
        by v false e h = λ m. h

pub starts_to : (x : Route) (homed : List ℕ) (k : ℕ) → x.done ≡ [] → x.made ≡ [] → k ≡ x.room.regs → Simulates x 0 [] (started homed k)
starts_to x homed k done made size = record {
  behind = λ marks ext. subst (λ d. AllServed x.room marks d [] [] [] []) (sym done) tt;
  here = record {
    row = record {
      size = Rattle.std.proofs.lemmas.List.length-replicate {A = Option ℕ} k None ∙ size;
      single = λ r q v e g. absurd (no_value k r v e);
      values = λ r v e. absurd (no_value k r v e);
      free = λ r v e. absurd (no_value k r v e);
    };
    empty = no_value k;
    none = refl;
    lines = refl;
    named = refl;
    loads = refl;
    unnoted = refl;
  };
}
  where
    no_value : (k r v : ℕ) → get (replicate k None) r ≡ Some v → ⊥
    no_value zero r v e = cc
    no_value (suc k) zero v e = cc
    no_value (suc k) (suc r) v e = no_value k r v e

---- The whole

are_marked : (homed vs : List ℕ) → AreMarked (has homed) vs (marked homed vs [])
are_marked homed vs v = has_marked homed vs [] v ∙ plain (cond (has vs v) (has homed v) false)
  where
    plain : (b : Bool) → cond b true false ≡ b
    plain true = refl
    plain false = refl

all_walk : (room : Room) (f : Flow) (rows : List (List ℕ)) (homed : List ℕ) (ns : List ℕ) (ss : List Places) (ls : List (List Line)) (rs : List (List ℕ)) (es : List Places) → AllServed room (has homed) (sections f rows ns) ss ls rs es → AllWalk room (tasks (sections f rows ns)) (starts_marked f rows homed ns ss) ls rs (ends_marked f rows homed ns es)
all_walk room f rows homed [] [] [] [] [] h = tt
all_walk room f rows homed (n ∷ ns) (s ∷ ss) (l ∷ ls) (r ∷ rs) (e ∷ es) h = (by (slice_get f.nodes n) h.0, all_walk room f rows homed ns ss ls rs es h.1)
  where
    by : (o : Option Rattle.lir_core.specs.declared.flow.Node.Node) → IsServed room (has homed) (section_of f.values rows n o) s l r e → Walks room (section_of f.values rows n o).ops (section_of f.values rows n o).last (with_marks homed (Rattle.loc_back.specs.Marks.at_start f.values rows n o) s) l r (with_marks homed (Rattle.loc_back.specs.Marks.at_end f.values rows o) e)
    by None g = g (marked homed (Rattle.loc_back.specs.Marks.at_start f.values rows n None) []) (marked homed (Rattle.loc_back.specs.Marks.at_end f.values rows None) []) (are_marked homed (Rattle.loc_back.specs.Marks.at_start f.values rows n None)) (are_marked homed (Rattle.loc_back.specs.Marks.at_end f.values rows None))
    by (Some node) g = g (marked homed (Rattle.loc_back.specs.Marks.at_start f.values rows n (Some node)) []) (marked homed (Rattle.loc_back.specs.Marks.at_end f.values rows (Some node)) []) (are_marked homed (Rattle.loc_back.specs.Marks.at_start f.values rows n (Some node))) (are_marked homed (Rattle.loc_back.specs.Marks.at_end f.values rows (Some node)))
all_walk room f rows homed [] [] [] [] (y ∷ es) h = absurd h
all_walk room f rows homed [] [] [] (y ∷ rs) es h = absurd h
all_walk room f rows homed [] [] (y ∷ ls) rs es h = absurd h
all_walk room f rows homed [] (y ∷ ss) ls rs es h = absurd h
all_walk room f rows homed (n ∷ ns) [] ls rs es h = absurd h
all_walk room f rows homed (n ∷ ns) (y ∷ ss) [] rs es h = absurd h
all_walk room f rows homed (n ∷ ns) (y ∷ ss) (z ∷ ls) [] es h = absurd h
all_walk room f rows homed (n ∷ ns) (y ∷ ss) (z ∷ ls) (r ∷ rs) [] h = absurd h

pub closes_to : (x : Route) (f : Flow) (rows : List (List ℕ)) (ns : List ℕ) (b : Backward) → IsWhole f rows ns x b.part → Simulates x 0 (due x 0 b.part.stage) b → AllWalk x.room (tasks (walked b.part.stage x)) (closed f rows ns b).starts (closed f rows ns b).lines (closed f rows ns b).regs (closed f rows ns b).ends
closes_to x f rows ns b w s =
    let g = left_node b in
    let left = is_left x b.part.stage b s.here in
    let homed = g.part.homed in
    let served = left_served x b.part.stage b s.here s.behind w.starts (has homed) (record { grown = λ v h. ap (λ k. has k v) left.homed_is ∙ h; frozen = λ v m h. ap (λ k. has k v) (sym left.homed_is) ∙ h }) in
    subst (λ bs. AllWalk x.room (tasks bs) (closed f rows ns b).starts (closed f rows ns b).lines (closed f rows ns b).regs (closed f rows ns b).ends) w.nodes
    (all_walk x.room f rows homed ns g.starts g.lines g.regs g.ends (subst (λ bs. AllServed x.room (has homed) bs g.starts g.lines g.regs g.ends) (sym w.nodes) served))
