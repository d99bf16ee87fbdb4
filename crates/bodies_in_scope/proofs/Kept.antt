-- A procedure that is put off leaves all upright and rooted.
use Rattle.std.proofs.Common.{◌≡◌, ℕ, [], ◌∷◌, ◌++◌, length, refl, ap, subst}
use Rattle.std.specs.Prelude.{is_some}
use Rattle.ob_judge.specs.Judged.{Keeps, ◌>>=◌}
use Rattle.ob_judge.specs.Shapes.{Shape}
use Rattle.ob_judge.specs.Scopes.{Source}
use Rattle.ob_judge.specs.Making.{Making, new_procedure, no_procedure}
use Rattle.ob_judge.specs.Modules.{SoFar}
use Rattle.ob_judge.specs.Parameters.{Listed, stand}
use Rattle.ob_judge.specs.Declarations.{heading, decls_part}
use Rattle.judged_modules.proofs.Growing.{kept_same, bound}
use Rattle.judged_modules.proofs.Keeping.{given}
use Rattle.judged_modules.proofs.Parameters.{stand_plain}
use Rattle.judged_modules.specs.steps.Frames.{entered}
use Rattle.judged_modules.specs.steps.Procedures.{OneProcedure}
use Rattle.judged_outlines.specs.Upright.{Upright}
use Rattle.judged_outlines.proofs.Reach.{shape_later as points_later}
use Rattle.judged_outlines.proofs.Tidies.{within_heading, within_decls}
use Rattle.judged_outlines.proofs.Uprights.{numbered_upright, entered_upright, left_upright, stand_upright, decls_upright, heading_upright}
use Rattle.later_types.specs.Later.{IsRooted, Rooted, StaysKnown}
use Rattle.later_types.proofs.Reach.{shape_later}
use Rattle.later_types.proofs.Rooteds.{entered_rooted, left_rooted, numbered_rooted, stand_rooted, heading_rooted, decls_rooted}
use Rattle.later_types.proofs.Stays.{known_same, known_on, heading_known, decls_known}
use Rattle.later_bodies.specs.Waiting.{Waiting, put_off}
use Rattle.bodies_in_scope.specs.Standing.{IsWell}

-- a type names types that there are later
still_rooted : (s t : Making) (a : Shape) → StaysKnown s.world.known t.world.known → IsRooted s a → IsRooted t a
still_rooted s t a stays h = record {
  points = points_later (length s.world.known.bases) (length t.world.known.bases) stays.bases.long a h.points;
  records = shape_later (length s.world.known.records) (length t.world.known.records) stays.records_more a h.records;
}

module _ (c : SoFar) (p : Source) (q : OneProcedure) where
  abbrev numbered : Making → Making
  numbered v = record v { procedures = v.procedures ++ no_procedure ∷ [] }

  abbrev waiting : Making → ℕ → Listed × Shape → Making → Waiting
  waiting u f h d = record { outer = u; number = f; heading = h; inner = d }

  abbrev waits : Making → Listed × Shape → Making → Waiting
  waits v h d = waiting (numbered v) (length v.procedures) h d

  -- from where its name stands
  well_from : (s v : Making) (h : (Listed × Shape) × Making) (d : Making)
      → stand p (q.name.name ∷ []) s ≡ Keeps (tt, v)
      → heading p (length v.procedures) q.name q.formals (is_some v.world.procedure) (entered (length v.procedures) (numbered v)) ≡ Keeps h
      → decls_part p q.decls h.1 ≡ Keeps (tt, d)
      → Upright c s → Rooted s → IsWell c s (waits v h.0 d)
  well_from s v h d stood headed made up root =
      let f = length v.procedures in
      let u = numbered v in
      let world = (given (tt, v) (stand_plain p (q.name.name ∷ []) s) stood).world in
      let up_u = numbered_upright c v u f refl (stand_upright c p (q.name.name ∷ []) s v stood up) in
      let up_e = entered_upright c u f up_u in
      let up_h = heading_upright c p f q.name q.formals (is_some v.world.procedure) (entered f u) h.1 (h.0).0 (h.0).1 headed (λ i. (f, refl)) up_e.0 in
      let up_d = decls_upright c p q.decls h.1 d made up_h.0 in
      let within = given (tt, d) (within_decls p u q.decls h.1 (given h (within_heading p u f q.name q.formals (is_some v.world.procedure) (entered f u) up_e.1) headed)) made in
      let root_u = numbered_rooted v u f refl (stand_rooted p (q.name.name ∷ []) s v stood root) in
      let root_h = heading_rooted p c f q.name q.formals (is_some v.world.procedure) (entered f u) h.1 (h.0).0 (h.0).1 headed up_h.3 (entered_rooted u f root_u) in
      let root_d = decls_rooted p c q.decls h.1 d made up_h.0 root_h.0 in
      let first = known_same s.world.known v.world.known (ap (λ w. w.known.records) world) (ap (λ w. w.known.bases) world) in
      let second = heading_known p f q.name q.formals (is_some v.world.procedure) (entered f u) h.1 h.0 headed in
      let third = decls_known p q.decls h.1 d made in
      let inner = known_on v.world.known h.1.world.known d.world.known second third in
      record {
        upright = up_d;
        rooted = root_d;
        heading = still_rooted h.1 d (h.0).1 third root_h.1;
        upright_round = left_upright c u d within up_u up_d;
        rooted_round = left_rooted u d inner.records_more root_u root_d;
        known = known_on s.world.known v.world.known d.world.known first inner;
      }

  pub put_off_well : (s : Making) (w : Waiting) → put_off p q s ≡ Keeps w → Upright c s → Rooted s → IsWell c s w
  put_off_well s w is up root =
      let a = bound (stand p (q.name.name ∷ []) s) (λ r. new_procedure r.1 >>= λ f. heading p f.0 q.name q.formals (is_some f.1.world.procedure) (entered f.0 f.1) >>= λ h. decls_part p q.decls h.1 >>= λ d.
      Keeps (waiting f.1 f.0 h.0 d.1)) w is in
      by (a.0).1 a.1 a.2
    where
      by : (v : Making) → stand p (q.name.name ∷ []) s ≡ Keeps (tt, v)
          → (heading p (length v.procedures) q.name q.formals (is_some v.world.procedure) (entered (length v.procedures) (numbered v)) >>= λ h. decls_part p q.decls h.1 >>= λ d. Keeps (waits v h.0 d.1)) ≡ Keeps w
          → IsWell c s w
      by v stood at =
          let b = bound (heading p (length v.procedures) q.name q.formals (is_some v.world.procedure) (entered (length v.procedures) (numbered v))) (λ h. decls_part p q.decls h.1 >>= λ d. Keeps (waits v h.0 d.1)) w at in
          let d = bound (decls_part p q.decls (b.0).1) (λ d. Keeps (waits v (b.0).0 d.1)) w b.2 in
          subst (IsWell c s) (kept_same (waits v (b.0).0 (d.0).1) w d.2) (well_from s v b.0 (d.0).1 stood b.1 d.1 up root)
