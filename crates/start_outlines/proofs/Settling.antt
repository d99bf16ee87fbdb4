-- Parts of the judgement whose procedures are outlined alike by all later pointer types.
use Rattle.std.proofs.Common.{◌≡◌, ℕ, suc, ◌<◌, ◌≤◌, List, [], ◌∷◌, ◌++◌, length, Option, Some, refl, ap, sym, ◌∙◌, subst, arith, inl, inr, ◌⊎◌}
use Rattle.std.specs.Prelude.{slice_get, slice_set}
use Rattle.ob_types.proofs.Tests.{some_same, less_or_past}
use Rattle.ob_judge.specs.Image.{Procedure}
use Rattle.ob_judge.specs.Making.{Making, no_procedure}
use Rattle.judged_tree.specs.Outline.{outlined_procedure}
use Rattle.judged_modules.specs.Agrees.{bases_of}
use Rattle.judged_modules.specs.steps.Frames.{Begins, left}
use Rattle.judged_modules.proofs.Lists.{get_append, get_within, set_other, set_here, set_length, append_length}
use Rattle.judged_modules.proofs.Growing.{Grows}
use Rattle.judged_outlines.proofs.Parts.{AmongIn}

pub begins_on : (xs ys zs : List (Option ℕ)) → Begins xs ys → Begins ys zs → Begins xs zs
begins_on xs ys zs g h = record {
  long = let a = g.long in let b = h.long in omega (arith, a, b);
  same = λ n l. let a = g.long in h.same n (omega (arith, l, a)) ∙ g.same n l;
}

pub begins_same : (xs ys : List (Option ℕ)) → ys ≡ xs → Begins xs ys
begins_same xs ys e = record { long = let l = ap length e in omega (arith, l); same = λ n l. ap (λ zs. slice_get zs n) e }

-- a procedure that all later pointer types outline as these do
pub record IsSettled (bases : List (Option ℕ)) (q : Procedure) : Type 0 where
  pub same : (later : List (Option ℕ)) → Begins bases later → outlined_procedure later q ≡ outlined_procedure bases q

pub settled_on : (bases later : List (Option ℕ)) (q : Procedure) → Begins bases later → IsSettled bases q → IsSettled later q
settled_on bases later q h k = record { same = λ last more. k.same last (begins_on bases later last h more) ∙ sym (k.same later h) }

-- what was made stays, and each procedure that is made now is settled
pub record Settles (s t : Making) : Type 0 where
  pub more : length s.procedures ≤ length t.procedures
  pub kept : (f : ℕ) → f < length s.procedures → slice_get t.procedures f ≡ slice_get s.procedures f
  pub begins : Begins (bases_of s) (bases_of t)
  pub among : AmongIn t
  pub own : (f : ℕ) (q : Procedure) → length s.procedures ≤ f → slice_get t.procedures f ≡ Some q → IsSettled (bases_of t) q

abbrev pub SettlesTo : {A : Type 0} → Making → A × Making → Type 0
SettlesTo s r = Settles s r.1

-- where no procedure is made
pub quiet : (s t : Making) → AmongIn t → Begins (bases_of s) (bases_of t) → t.procedures ≡ s.procedures → Settles s t
quiet s t among begins same = record {
  more = let l = ap length same in omega (arith, l);
  kept = λ f less. ap (λ qs. slice_get qs f) same;
  begins = begins;
  among = among;
  own = λ f q from at. let l = get_within t.procedures f q at in let e = ap length same in absurd (omega (arith, from, l, e));
}

pub grown_quiet : (s t : Making) → AmongIn t → Grows s t → t.procedures ≡ s.procedures → Settles s t
grown_quiet s t among g same = quiet s t among (record { long = g.bases_more; same = g.bases }) same

pub on : (s t u : Making) → Settles s t → Settles t u → Settles s u
on s t u g h = record {
  more = let a = g.more in let b = h.more in omega (arith, a, b);
  kept = λ f less. let a = g.more in h.kept f (omega (arith, less, a)) ∙ g.kept f less;
  begins = begins_on (bases_of s) (bases_of t) (bases_of u) g.begins h.begins;
  among = h.among;
  own = λ f q from at. elim (less_or_past f (length t.procedures)) as (λ _. IsSettled (bases_of u) q) [
    | inl less ↦ settled_on (bases_of t) (bases_of u) q h.begins (g.own f q from (sym (h.kept f less) ∙ at))
    | inr past ↦ h.own f q past at
  ];
}

-- ---- one procedure

pub length_more : {A : Type 0} (xs : List A) (y : A) → length (xs ++ y ∷ []) ≡ suc (length xs)
length_more xs y = let h = append_length xs (y ∷ []) in omega (arith, h)

abbrev pub with_heading : Making → Making
with_heading s = record s { procedures = s.procedures ++ no_procedure ∷ [] }

abbrev pub with_procedure : Making → ℕ → Procedure → Making
with_procedure d f q = record d { procedures = slice_set d.procedures f q }

abbrev pub ended : Making → Making → Procedure → Making
ended s d q = left (with_heading s) (with_procedure d (length s.procedures) q)

is_or_past : (f g : ℕ) → f ≤ g → (g ≡ f) ⊎ (suc f ≤ g)
is_or_past f g le = elim (less_or_past f g) as (λ _. (g ≡ f) ⊎ (suc f ≤ g)) [ inl less ↦ inr (omega (arith, less)) | inr past ↦ inl (omega (arith, le, past)) ]

apart : (f g : ℕ) → g < f → g ≡ f → ⊥
apart f g less e = absurd (omega (arith, less, e))

past_apart : (f g : ℕ) → suc f ≤ g → g ≡ f → ⊥
past_apart f g past e = absurd (omega (arith, past, e))

-- the procedures that stand behind a scope in which one was declared
set_settled : (s h d : Making) (q : Procedure) → h.procedures ≡ s.procedures ++ no_procedure ∷ [] → Settles h d → IsSettled (bases_of d) q
    → (f : ℕ) (x : Procedure) → length s.procedures ≤ f → slice_get (slice_set d.procedures (length s.procedures) q) f ≡ Some x → IsSettled (bases_of d) x
set_settled s h d q opened inner settled g x from at =
    let f = length s.procedures in
    let l = length_more s.procedures no_procedure in
    let e = ap length opened in
    let m = inner.more in
    elim (is_or_past f g from) as (λ _. IsSettled (bases_of d) x) [
      | inl same ↦
          let here : slice_get (slice_set d.procedures f q) f ≡ Some q = set_here d.procedures f q (omega (arith, l, e, m)) in
          subst (IsSettled (bases_of d)) (some_same q x (sym here ∙ ap (slice_get (slice_set d.procedures f q)) (sym same) ∙ at)) settled
      | inr past ↦ inner.own g x (omega (arith, past, l, e)) (sym (set_other d.procedures f g q (past_apart f g past)) ∙ at)
    ]

-- a procedure that is judged, behind what is declared in it
pub one_ended : (s h d : Making) (q : Procedure) → Begins (bases_of s) (bases_of h) → h.procedures ≡ s.procedures ++ no_procedure ∷ [] → Settles h d → IsSettled (bases_of d) q
    → AmongIn (ended s d q) → Settles s (ended s d q)
one_ended s h d q begun opened inner settled among =
    let f = length s.procedures in
    let l = length_more s.procedures no_procedure in
    let e = ap length opened in
    let m = inner.more in
    let n = set_length d.procedures f q in
    record {
      more = omega (arith, l, e, m, n);
      kept = λ g less.
          set_other d.procedures f g q (apart f g less)
          ∙ inner.kept g (omega (arith, less, l, e))
          ∙ ap (λ qs. slice_get qs g) opened
          ∙ get_append s.procedures (no_procedure ∷ []) g less;
      begins = begins_on (bases_of s) (bases_of h) (bases_of d) begun inner.begins;
      among = among;
      own = set_settled s h d q opened inner settled;
    }

-- the last procedure of a module, its body
pub last_made : (d : Making) (q : Procedure) → AmongIn d → IsSettled (bases_of d) q → AmongIn (with_procedure (with_heading d) (length d.procedures) q) → Settles d (with_procedure (with_heading d) (length d.procedures) q)
last_made d q among settled after =
    let f = length d.procedures in
    let l = length_more d.procedures no_procedure in
    let n = set_length (d.procedures ++ no_procedure ∷ []) f q in
    let h = with_heading d in
    record {
      more = omega (arith, l, n);
      kept = λ g less. set_other (d.procedures ++ no_procedure ∷ []) f g q (apart f g less) ∙ get_append d.procedures (no_procedure ∷ []) g less;
      begins = begins_same (bases_of d) (bases_of d) refl;
      among = after;
      own = set_settled d h h q refl (quiet h h (record { names = among.names; members = among.members; fields = among.fields; narrowed = among.narrowed }) (begins_same (bases_of d) (bases_of d) refl) refl) settled;
    }
