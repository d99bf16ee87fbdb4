-- What waits stands as before, through the procedures that follow it; and the states between a module's procedures.
use Rattle.std.proofs.Common.{◌≡◌, ℕ, suc, ◌≤◌, ◌||◌, List, [], ◌∷◌, length, Bool, true, false, Option, Some, None, refl, ap, sym, ◌∙◌, subst, arith}
use Rattle.std.proofs.lemmas.Slice.Eq.{bytes_eq-Decides}
use Rattle.std.specs.Prelude.{if◌then◌else◌}
use Rattle.std.specs.Str.{bytes_eq}
use Rattle.ob_types.proofs.Tests.{no}
use Rattle.ob_syntax.specs.Syntax as S
use Rattle.ob_judge.specs.Judged.{Keeps}
use Rattle.ob_judge.specs.Scopes.{Entry, Source, World, declare}
use Rattle.ob_judge.specs.Making.{Making, is_among}
use Rattle.ob_judge.specs.Modules.{SoFar}
use Rattle.ob_judge.specs.Declarations.{each, const_part, types_part, var_part}
use Rattle.judged_modules.proofs.Keeping.{given}
use Rattle.judged_modules.proofs.TypesGrow.{each_map}
use Rattle.judged_modules.proofs.steps.Frame.{h_consts}
use Rattle.judged_modules.proofs.steps.FrameTypes.{k_types, k_vars}
use Rattle.judged_modules.specs.steps.Procedures.{OneProcedure}
use Rattle.judged_modules.specs.steps.Steps.{procedure_part}
use Rattle.judged_outlines.specs.Upright.{Upright}
use Rattle.judged_outlines.proofs.Uprights.{consts_upright, types_upright, vars_upright, procedure_upright}
use Rattle.later_types.specs.Later.{Rooted, StaysKnown}
use Rattle.later_types.proofs.Rooteds.{consts_rooted, types_rooted, vars_rooted, procedure_rooted}
use Rattle.later_types.proofs.Stays.{known_same, known_on, procedure_known}
use Rattle.later_bodies.specs.Waiting.{Waiting, put_off, put_aside}
use Rattle.bodies_in_scope.specs.Below.{IsOfProcedure}
use Rattle.bodies_in_scope.specs.Around.{name_of, OneMore, PutOff}
use Rattle.bodies_in_scope.specs.Standing.{AllStillStand, AreNamed, Between, StillStands}
use Rattle.bodies_in_scope.proofs.Names.{more_below, procedure_below, other_below, before_same, before_declared}
use Rattle.bodies_in_scope.proofs.Stays.{GoesOn, Around}
use Rattle.bodies_in_scope.proofs.Declared.{a_each, a_const, a_type_section, a_var, procedure_comes, procedure_put_off}
use Rattle.bodies_in_scope.proofs.Kept.{put_off_well}

-- ---- names that stand

among_one : (q name : List ℕ) (standing : List (List ℕ)) → is_among q (name ∷ standing) ≡ false → (bytes_eq q name ≡ false) × (is_among q standing ≡ false)
among_one q name standing h = by (bytes_eq q name) (is_among q standing) h
  where
    by : (a b : Bool) → (a || b) ≡ false → (a ≡ false) × (b ≡ false)
    by false b h = (refl, h)
    by true b h = no (sym h)

same_otherwise : (name q : List ℕ) → bytes_eq q name ≡ false → bytes_eq name q ≡ false
same_otherwise name q h = by (bytes_eq name q) refl
  where
    by : (b : Bool) → bytes_eq name q ≡ b → b ≡ false
    by false at = refl
    by true at = no (sym h ∙ (bytes_eq-Decides q name).1 (sym ((bytes_eq-Decides name q).0 at)))

-- a name that stands is declared, and of the others none
others_declared : (name : List ℕ) (e : Entry) (standing : List (List ℕ)) (k : List ℕ → Option Entry) → is_among name standing ≡ true
    → ((q : List ℕ) → is_among q standing ≡ false → k q ≡ None) → (q : List ℕ) → is_among q standing ≡ false → declare name e k q ≡ None
others_declared name e standing k stands all q h = by (bytes_eq name q) refl
  where
    by : (b : Bool) → bytes_eq name q ≡ b → (if b then Some e else k q) ≡ None
    by false at = all q h
    by true at = no (sym h ∙ ap (λ n. is_among n standing) (sym ((bytes_eq-Decides name q).0 at)) ∙ stands)

pub named_on : (n : ℕ) → GoesOn (AreNamed n)
named_on n = record {
  stands = λ name standing k h. record { below = h.below; others = λ q i. h.others q (among_one q name standing i).1 };
  declares = λ name e standing k stands other h. record { below = other_below n name e k other h.below; others = others_declared name e standing k stands h.others };
}

named_more : (name : List ℕ) (f m : ℕ) (e : Entry) (standing : List (List ℕ)) (k : List ℕ → Option Entry) → IsOfProcedure f e → suc f ≤ m → AreNamed f standing k → AreNamed m (name ∷ standing) (declare name e k)
named_more name f m e standing k of more h = record {
  below = more_below (suc f) m (declare name e k) more (procedure_below f f name e k (omega arith) of h.below);
  others = λ q i. let other = among_one q name standing i in
      ap (λ b. if b then Some e else k q) (same_otherwise name q other.0) ∙ h.others q other.1;
}

-- ---- a procedure that was put off, set aside

abbrev pub set_aside : (name : List ℕ) (round : List (List ℕ → Option Entry)) (names : List ℕ → Option Entry) (s : Making) (w : Waiting) → PutOff name round names s w → OneMore name round names s (put_aside w)
set_aside name round names s w h = record { entry = h.entry; of_procedure = h.of_procedure; world = h.outside; unique = h.unique; standing = h.standing; more = h.more }

module _ (c : SoFar) (outermost names : List ℕ → Option Entry) where
  -- ---- between procedures

  between_on : (name : List ℕ) (s t : Making) → Between c outermost names s → (h : OneMore name (outermost ∷ []) names s t) → Upright c t → Rooted t → Between c outermost (declare name h.entry names) t
  between_on name s t b h up root = record {
    levels = ap (λ w. w.levels) h.world;
    named = subst (λ st. AreNamed (length t.procedures) st (declare name h.entry names)) (sym h.standing) (named_more name (length s.procedures) (length t.procedures) h.entry s.standing names h.of_procedure h.more b.named);
    constant = ap (λ w. w.constant) h.world ∙ b.constant;
    narrowed = ap (λ w. w.narrowed) h.world ∙ b.narrowed;
    upright = up;
    rooted = root;
  }

  module _ (p : Source) (q : OneProcedure) where
    abbrev name : List ℕ
    name = name_of p q

    -- a procedure that is put off
    pub off_is : (s : Making) (w : Waiting) → put_off p q s ≡ Keeps w → Between c outermost names s → PutOff name (outermost ∷ []) names s w
    off_is s w is b = given w (procedure_put_off p q (outermost ∷ []) names s b.levels) is

    pub between_aside : (s : Making) (w : Waiting) → put_off p q s ≡ Keeps w → Between c outermost names s → (h : PutOff name (outermost ∷ []) names s w) → Between c outermost (declare name h.entry names) (put_aside w)
    between_aside s w is b h = let well = put_off_well c p q s w is b.upright b.rooted in between_on name s (put_aside w) b (set_aside name (outermost ∷ []) names s w h) well.upright_round well.rooted_round

    -- and a whole procedure
    pub whole_is : (s t : Making) → procedure_part p q s ≡ Keeps (tt, t) → Between c outermost names s → OneMore name (outermost ∷ []) names s t
    whole_is s t is b = given (tt, t) (procedure_comes p q (outermost ∷ []) names s b.levels) is

    pub between_whole : (s t : Making) → procedure_part p q s ≡ Keeps (tt, t) → Between c outermost names s → (h : OneMore name (outermost ∷ []) names s t) → Between c outermost (declare name h.entry names) t
    between_whole s t is b h = between_on name s t b h (procedure_upright c p q s t is b.upright) (procedure_rooted p c q s t is b.upright b.rooted)

    -- ---- what waits

    -- right after it was put off
    pub stands_first : (s : Making) (w : Waiting) → put_off p q s ≡ Keeps w → Between c outermost names s → (h : PutOff name (outermost ∷ []) names s w) → StillStands c outermost (declare name h.entry names) w (put_aside w)
    stands_first s w is b h =
        let well = put_off_well c p q s w is b.upright b.rooted in
        let later = between_aside s w is b h in
        record {
          own = h.own;
          inside = ap (λ v. v.levels) h.inside ∙ ap (λ k. outermost ∷ k ∷ h.own ∷ []) (sym (before_same (length w.inner.procedures) (declare name h.entry names) later.named.below));
          levels = later.levels;
          known = known_same w.inner.world.known w.inner.world.known refl refl;
          modules = ap (λ v. v.modules) h.inside ∙ sym (ap (λ v. v.modules) h.outside);
          module_number = ap (λ v. v.module_number) h.inside ∙ sym (ap (λ v. v.module_number) h.outside);
          procedure = ap (λ v. v.procedure) h.inside;
          constant = ap (λ v. v.constant) h.inside ∙ b.constant;
          narrowed = ap (λ v. v.narrowed) h.inside ∙ b.narrowed;
          fewer = omega arith;
          upright = well.upright;
          rooted = well.rooted;
          heading = well.heading;
        }

  -- through one more procedure of another name
  pub stands_on : (name : List ℕ) (w : Waiting) (s t : Making) → StillStands c outermost names w s → (h : OneMore name (outermost ∷ []) names s t) → StaysKnown s.world.known t.world.known → names name ≡ None
      → StillStands c outermost (declare name h.entry names) w t
  stands_on name w s t still h stays new = record {
    own = still.own;
    inside = still.inside ∙ ap (λ k. outermost ∷ k ∷ still.own ∷ []) (sym (before_declared (length w.inner.procedures) (length s.procedures) name h.entry names still.fewer h.of_procedure new));
    levels = ap (λ v. v.levels) h.world;
    known = known_on w.inner.world.known s.world.known t.world.known still.known stays;
    modules = still.modules ∙ sym (ap (λ v. v.modules) h.world);
    module_number = still.module_number ∙ sym (ap (λ v. v.module_number) h.world);
    procedure = still.procedure;
    constant = still.constant;
    narrowed = still.narrowed;
    fewer = let a = still.fewer in let m = h.more in omega (arith, a, m);
    upright = still.upright;
    rooted = still.rooted;
    heading = still.heading;
  }

  module _ (p : Source) (q : OneProcedure) where
    -- a procedure that is put off later
    pub stands_through_aside : (s : Making) (v w : Waiting) → put_off p q s ≡ Keeps v → Between c outermost names s → (h : PutOff (name_of p q) (outermost ∷ []) names s v) → StillStands c outermost names w s
        → StillStands c outermost (declare (name_of p q) h.entry names) w (put_aside v)
    stands_through_aside s v w is b h still =
        stands_on (name_of p q) w s (put_aside v) still (set_aside (name_of p q) (outermost ∷ []) names s v h) (put_off_well c p q s v is b.upright b.rooted).known (b.named.others (name_of p q) h.unique)

    -- or judged as a whole
    pub stands_through_whole : (s t : Making) (w : Waiting) → procedure_part p q s ≡ Keeps (tt, t) → Between c outermost names s → (h : OneMore (name_of p q) (outermost ∷ []) names s t) → StillStands c outermost names w s
        → StillStands c outermost (declare (name_of p q) h.entry names) w t
    stands_through_whole s t w is b h still = stands_on (name_of p q) w s t still h (procedure_known p q s t is) (b.named.others (name_of p q) h.unique)

    -- all that wait
    pub all_through_aside : (s : Making) (v : Waiting) (ws : List Waiting) → put_off p q s ≡ Keeps v → Between c outermost names s → (h : PutOff (name_of p q) (outermost ∷ []) names s v) → AllStillStand c outermost names ws s
        → AllStillStand c outermost (declare (name_of p q) h.entry names) ws (put_aside v)
    all_through_aside s v ws is b h still = each_map (λ w. StillStands c outermost names w s) (λ w. StillStands c outermost (declare (name_of p q) h.entry names) w (put_aside v)) ws (λ w k. stands_through_aside s v w is b h k) still

    pub all_through_whole : (s t : Making) (ws : List Waiting) → procedure_part p q s ≡ Keeps (tt, t) → Between c outermost names s → (h : OneMore (name_of p q) (outermost ∷ []) names s t) → AllStillStand c outermost names ws s
        → AllStillStand c outermost (declare (name_of p q) h.entry names) ws t
    all_through_whole s t ws is b h still = each_map (λ w. StillStands c outermost names w s) (λ w. StillStands c outermost (declare (name_of p q) h.entry names) w t) ws (λ w k. stands_through_whole s t w is b h k) still

  -- ---- where a module's procedures begin

  -- after a part that makes no procedure
  pub carried : (s t : Making) → t.procedures ≡ s.procedures → Between c outermost names s → Around (AreNamed (length s.procedures)) (outermost ∷ []) s.world t.standing t.world → Upright c t → Rooted t
      → (k : List ℕ → Option Entry) × Between c outermost k t
  carried s t procedures b around up root = (
    around.own,
    record {
      levels = ap (λ w. w.levels) around.world;
      named = subst (λ n. AreNamed n t.standing around.own) (sym (ap (λ qs. length qs) procedures)) around.holds;
      constant = ap (λ w. w.constant) around.world ∙ b.constant;
      narrowed = ap (λ w. w.narrowed) around.world ∙ b.narrowed;
      upright = up;
      rooted = root;
    },
  )

  pub started : (s : Making) → Between c outermost names s → Around (AreNamed (length s.procedures)) (outermost ∷ []) s.world s.standing s.world
  started s b = record { own = names; world = ap {B = World} (λ ls. record s.world { levels = ls }) b.levels; holds = b.named }

  module _ (p : Source) where
    pub between_consts : (ds : List S.ConstDecl) (s t : Making) → each (const_part p) ds s ≡ Keeps (tt, t) → Between c outermost names s → (k : List ℕ → Option Entry) × Between c outermost k t
    between_consts ds s t is b =
        let n = length s.procedures in
        carried s t (given (tt, t) (h_consts p ds s) is).procedures b
        (given (tt, t) (a_each p (AreNamed n) (named_on n) (outermost ∷ []) s.world (const_part p) (a_const p (AreNamed n) (named_on n) (outermost ∷ []) s.world) ds s (started s b)) is)
        (consts_upright c p ds s t is b.upright) (consts_rooted p c ds s t is b.upright b.rooted)

    pub between_types : (ds : List S.TypeDecl) (s t : Making) → types_part p ds s ≡ Keeps (tt, t) → Between c outermost names s → (k : List ℕ → Option Entry) × Between c outermost k t
    between_types ds s t is b =
        let n = length s.procedures in
        carried s t (given (tt, t) (k_types p ds s) is).procedures b (given (tt, t) (a_type_section p (AreNamed n) (named_on n) (outermost ∷ []) s.world ds s (started s b)) is)
        (types_upright c p ds s t is b.upright) (types_rooted p ds s t is b.rooted)

    pub between_vars : (ds : List S.VarDecl) (s t : Making) → each (var_part p) ds s ≡ Keeps (tt, t) → Between c outermost names s → (k : List ℕ → Option Entry) × Between c outermost k t
    between_vars ds s t is b =
        let n = length s.procedures in
        carried s t (given (tt, t) (k_vars p ds s) is).procedures b
        (given (tt, t) (a_each p (AreNamed n) (named_on n) (outermost ∷ []) s.world (var_part p) (a_var p (AreNamed n) (named_on n) (outermost ∷ []) s.world) ds s (started s b)) is)
        (vars_upright c p ds s t is b.upright) (vars_rooted p ds s t is b.rooted)
