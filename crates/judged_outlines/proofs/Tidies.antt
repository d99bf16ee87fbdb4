-- Scopes of procedures that are opened, headed, completed and closed are tidy; and what is made within them.
use Rattle.std.proofs.Common.{◌≡◌, ℕ, suc, ◌≤◌, List, [], ◌∷◌, ◌++◌, length, Bool, true, false, not, ◌||◌, Option, Some, refl, ap, sym, ◌∙◌, subst, arith}
use Rattle.std.specs.Prelude.{slice_get, slice_set, is_some}
use Rattle.std.specs.Str.{bytes_eq}
use Rattle.ob_syntax.specs.Syntax as S
use Rattle.ob_syntax.specs.declared.modules.Import.{Import}
use Rattle.ob_syntax.specs.declared.names.Identdef.{Identdef}
use Rattle.ob_judge.specs.Judged.{some, rule}
use Rattle.ob_judge.specs.Shapes.{Shape, Layout}
use Rattle.ob_judge.specs.Shapes.{Procedure as ProcedureOf}
use Rattle.ob_judge.specs.Image.{Procedure}
use Rattle.ob_judge.specs.Scopes.{AModule, AProcedure, Entry, Source, place, spelled, no_names}
use Rattle.ob_judge.specs.Making.{Making, with_levels, declare_last, declare_outer, without_last, offer_if, no_procedure}
use Rattle.ob_judge.specs.Modules.{imported, is_in, origin, import_part}
use Rattle.ob_judge.specs.Parameters.{Listed}
use Rattle.ob_judge.specs.Statements.{body_of}
use Rattle.ob_judge.specs.Declarations.{answer, heading, decls_part}
use Rattle.judged_well.specs.Gives.{Gives}
use Rattle.judged_well.specs.Standing.{is_result}
use Rattle.judged_well.proofs.Judging.{keeps, weaken, and_then, anything, by_unit}
use Rattle.judged_modules.specs.Agrees.{records_of, bases_of}
use Rattle.judged_modules.proofs.Lists.{append_length}
use Rattle.judged_modules.proofs.Parameters.{look_as}
use Rattle.judged_programs.specs.Complete.{CompleteStay}
use Rattle.judged_programs.specs.Tidy.{AreListed, IsInProcedure, IsKnownObject, IsLegalProcedure, IsNested, IsOfModule, Tidy}
use Rattle.judged_programs.proofs.Cores.{grown_later}
use Rattle.judged_programs.proofs.Tidy.{s_stand, tidy_declared, tidy_offered, object_later}
use Rattle.judged_programs.proofs.HeadingsTidy.{no_words, h_formals}
use Rattle.judged_programs.proofs.ProceduresTidy.{each_with, each_set, s_decls}
use Rattle.judged_modules.specs.steps.Frames.{entered, left}
use Rattle.judged_modules.specs.steps.Procedures.{OneProcedure}
use Rattle.judged_modules.specs.steps.Steps.{completed, completes}
use Rattle.judged_outlines.specs.Upright.{MadeWithin}
use Rattle.judged_outlines.proofs.Parts.{of_declared, names_more, names_fewer, names_outer}

-- ---- names in nested scopes

depth_outer : (name : List ℕ) (e : Entry) (ls : List (List ℕ → Option Entry)) → length (declare_outer name e ls) ≡ length ls
depth_outer name e [] = refl
depth_outer name e (l ∷ []) = refl
depth_outer name e (l ∷ k ∷ []) = refl
depth_outer name e (l ∷ k ∷ m ∷ ls) = let h = depth_outer name e (k ∷ m ∷ ls) in omega (arith, h)

nested_more : (ls : List (List ℕ → Option Entry)) (o : Option ℕ) (f n : ℕ) → IsNested ls o n → IsNested (ls ++ no_names ∷ []) (Some f) n
nested_more [] o f n h = absurd h
nested_more (l ∷ []) o f n h = absurd h
nested_more (l ∷ k ∷ []) o f n h = h.1
nested_more (l ∷ k ∷ m ∷ ls) o f n h = h

nested_outer : (name : List ℕ) (e : Entry) (ls : List (List ℕ → Option Entry)) (o : Option ℕ) (n : ℕ) → IsOfModule n e.object → IsNested ls o n → IsNested (declare_outer name e ls) o n
nested_outer name e [] o n placed h = absurd h
nested_outer name e (l ∷ []) o n placed h = absurd h
nested_outer name e (l ∷ k ∷ []) o n placed h = h
nested_outer name e (l ∷ k ∷ m ∷ []) o n placed h = of_declared (IsOfModule n) name e k placed h
nested_outer name e (l ∷ k ∷ m ∷ j ∷ []) o n placed h = h
nested_outer name e (l ∷ k ∷ m ∷ j ∷ i ∷ ls) o n placed h = h

-- one scope less, as many as before
nested_fewer : (ls outer : List (List ℕ → Option Entry)) (o i : Option ℕ) (n : ℕ) → length ls ≡ suc (length outer) → IsNested ls i n → IsNested outer o n → IsNested (without_last ls) o n
nested_fewer ls [] o i n e h g = absurd g
nested_fewer ls (a ∷ []) o i n e h g = absurd g
nested_fewer [] (a ∷ b ∷ outer) o i n e h g = absurd h
nested_fewer (l ∷ []) (a ∷ b ∷ outer) o i n e h g = absurd h
nested_fewer (l ∷ k ∷ []) (a ∷ b ∷ outer) o i n e h g = absurd (omega (arith, e))
nested_fewer (l ∷ k ∷ m ∷ []) (a ∷ b ∷ []) o i n e h g = (g.0, h)
nested_fewer (l ∷ k ∷ m ∷ []) (a ∷ b ∷ c ∷ outer) o i n e h g = absurd (omega (arith, e))
nested_fewer (l ∷ k ∷ m ∷ j ∷ ls) (a ∷ b ∷ outer) o i n e h g = h

no_procedure_legal : IsLegalProcedure no_procedure
no_procedure_legal = record { locals = tt; words = omega arith; result = refl; formals = tt }

module _ (from : ℕ) where
  -- with the number of one procedure more
  pub tidy_numbered : (s : Making) → Tidy from s → Tidy from (record s { procedures = s.procedures ++ no_procedure ∷ [] })
  tidy_numbered s h = record {
    nested = h.nested;
    names = h.names;
    members = h.members;
    lines = h.lines;
    ranked = h.ranked;
    targets = h.targets;
    whole = h.whole;
    legal = each_with (λ g q. IsLegalProcedure q) s.procedures no_procedure h.legal no_procedure_legal;
    no_body = λ g q past at. each_with (λ k x. from ≤ k → x.is_body ≡ false) s.procedures no_procedure (λ k x at past. h.no_body k x past at) (λ past. refl) g q at past;
  }

  pub tidy_entered : (f : ℕ) (s : Making) → Tidy from s → Tidy from (entered f s)
  tidy_entered f s h = record {
    nested = nested_more s.world.levels s.world.procedure f s.world.module_number h.nested;
    names = names_more (IsKnownObject (records_of s)) s.world.levels h.names;
    members = h.members;
    lines = h.lines;
    ranked = h.ranked;
    targets = h.targets;
    whole = tt;
    legal = h.legal;
    no_body = h.no_body;
  }

  -- with what it becomes
  pub tidy_completed : (f : ℕ) (j : Procedure) (s : Making) → j.is_body ≡ false → IsLegalProcedure j → Tidy from s → Tidy from (record s { procedures = slice_set s.procedures f j })
  tidy_completed f j s no_body legal h = record {
    nested = h.nested;
    names = h.names;
    members = h.members;
    lines = h.lines;
    ranked = h.ranked;
    targets = h.targets;
    whole = h.whole;
    legal = each_set (λ g x. IsLegalProcedure x) s.procedures f j h.legal legal;
    no_body = λ g x past at. each_set (λ k y. from ≤ k → y.is_body ≡ false) s.procedures f j (λ k y at past. h.no_body k y past at) (λ past. no_body) g x at past;
  }

  pub tidy_left : (s t : Making) → MadeWithin s t → Tidy from s → Tidy from t → Tidy from (left s t)
  tidy_left s t within outer inner = record {
    nested = nested_fewer t.world.levels s.world.levels s.world.procedure t.world.procedure s.world.module_number within.depth (subst (IsNested t.world.levels t.world.procedure) within.module_number inner.nested) outer.nested;
    names = names_fewer (IsKnownObject (records_of t)) t.world.levels inner.names;
    members = λ n m at k x is. object_later (records_of s) (records_of t) within.complete x.object (outer.members n m at k x is);
    lines = inner.lines;
    ranked = inner.ranked;
    targets = inner.targets;
    whole = outer.whole;
    legal = inner.legal;
    no_body = inner.no_body;
  }

  module _ (p : Source) where
    pub tidy_import : (x : Import) (s : Making) → Tidy from s → Gives (λ (r : Unit {0} × Making). Tidy from r.1) (import_part p x s)
    tidy_import x s tidy = and_then (s_stand p {from = from} {Before = Unit {0}} (x.name ∷ []) s) (λ r h. and_then (look_as (some 38 (place p (origin x)) (imported (r.1).world.modules (spelled p (origin x)))) r.1) (λ m k.
        let e : Entry = record { object = AModule m.0; exported = false } in
        let after = record (m.1) { imports_in = (m.1).imports_in || is_in m.0 } in
        keeps (λ (q : Unit {0} × Making). Tidy from q.1) (tt, with_levels (declare_last (spelled p x.name) e) after)
        (tidy_declared from after (spelled p x.name) e tt (λ none. tt) (subst (Tidy from) (sym k.0) (h.tidy tt tidy).0))))

    abbrev heading_entry : (f : ℕ) → Identdef → (Listed × Shape) → Bool → Entry
    heading_entry f name h is_local = record { object = AProcedure f (ProcedureOf h.0.formals h.1) is_local; exported = is_some name.star }

    abbrev headed : ℕ → Identdef → Bool → Listed × Shape → Making → Making
    headed f name is_local h s = offer_if (not is_local) (spelled p name.name) (heading_entry f name h is_local) (with_levels (declare_outer (spelled p name.name) (heading_entry f name h is_local)) s)

    tidy_headed : (f : ℕ) (name : Identdef) (b : Bool) (h : Listed × Shape) (s : Making) → Tidy from s → Tidy from (headed f name b h s)
    tidy_headed f name b h s tidy = tidy_offered from (not b) (spelled p name.name) (heading_entry f name h b) (with_levels (declare_outer (spelled p name.name) (heading_entry f name h b)) s) (record {
      nested = nested_outer (spelled p name.name) (heading_entry f name h b) s.world.levels s.world.procedure s.world.module_number tt tidy.nested;
      names = names_outer (IsKnownObject (records_of s)) (spelled p name.name) (heading_entry f name h b) s.world.levels tt tidy.names;
      members = tidy.members;
      lines = tidy.lines;
      ranked = tidy.ranked;
      targets = tidy.targets;
      whole = tidy.whole;
      legal = tidy.legal;
      no_body = tidy.no_body;
    })

    -- what a heading gives
    abbrev pub IsHeaded : (Listed × Shape) × Making → Type 0
    IsHeaded r = Tidy from r.1 × AreListed (r.0).0 × (is_result (r.0).1 ≡ true)

    pub tidy_heading : (f : ℕ) (name : Identdef) (x : Option S.Formals) (is_local : Bool) (s : Making) → IsInProcedure true s → Tidy from s → Gives IsHeaded (heading p f name x is_local s)
    tidy_heading f name x is_local s inside tidy = and_then (h_formals from p true x s) (λ h k.
        let first = k.lists.tidy tt inside tidy no_words in
        keeps IsHeaded (h.0, headed f name is_local h.0 h.1) (tidy_headed f name is_local h.0 h.1 first.0, first.1, k.result inside tidy))

    pub tidy_completes : (f : ℕ) (q : OneProcedure) (h : Listed × Shape) (s : Making) → AreListed h.0 → is_result h.1 ≡ true → Tidy from s → Gives (λ (r : Unit {0} × Making). Tidy from r.1) (completes p f q h s)
    tidy_completes f q h s listed result tidy = and_then (legal_completed q h s listed result tidy) (λ j k.
        keeps (λ (r : Unit {0} × Making). Tidy from r.1) (tt, record s { procedures = slice_set s.procedures f j }) (tidy_completed f j s k.0 k.1 tidy))
      where
        legal_completed : (q : OneProcedure) (h : Listed × Shape) (s : Making) → AreListed h.0 → is_result h.1 ≡ true → Tidy from s → Gives (λ j. (j.is_body ≡ false) × IsLegalProcedure j) (completed p q h s)
        legal_completed q h s listed result tidy = and_then (anything (body_of p s.world q.body)) (λ b z. and_then (anything (answer p h.1 q.end_word q.returned s.world)) (λ a y.
            by_unit (rule 37 (place p q.end_name) (bytes_eq (spelled p q.end_name) (spelled p (q.name).name)))
            (keeps (λ (j : Procedure). (j.is_body ≡ false) × IsLegalProcedure j) _ (refl, record { locals = tidy.whole; words = let c = listed.counted in let l = listed.few in omega (arith, c, l); result = result; formals = listed.formals }))))

-- ---- what is made within a scope

complete_on : (records more most : List Layout) → CompleteStay records more → CompleteStay more most → CompleteStay records most
complete_on records more most h k r is = k r (record { layout = is.layout; there = h r is ∙ is.there; ended = is.ended }) ∙ h r is

pub within_entered : (f : ℕ) (s : Making) → MadeWithin s (entered f s)
within_entered f s = record { depth = let h = append_length s.world.levels (no_names ∷ []) in omega (arith, h); module_number = refl; complete = λ r is. refl; more = omega arith }

pub within_on : (s t u : Making) → MadeWithin s t → length u.world.levels ≡ length t.world.levels → u.world.module_number ≡ t.world.module_number → CompleteStay (records_of t) (records_of u) → length (bases_of t) ≤ length (bases_of u) → MadeWithin s u
within_on s t u h depth number complete more = record {
  depth = depth ∙ h.depth;
  module_number = number ∙ h.module_number;
  complete = complete_on (records_of s) (records_of t) (records_of u) h.complete complete;
  more = let a = h.more in omega (arith, a, more);
}

module _ (p : Source) (s : Making) where
  headed_within : (f : ℕ) (name : Identdef) (b : Bool) (h : Listed × Shape) (t : Making) → MadeWithin s t → MadeWithin s (headed 0 p f name b h t)
  headed_within f name true h t within = within_on s t (headed 0 p f name true h t) within (depth_outer (spelled p name.name) (heading_entry 0 p f name h true) t.world.levels) refl (λ r is. refl) (omega arith)
  headed_within f name false h t within = within_on s t (headed 0 p f name false h t) within (depth_outer (spelled p name.name) (heading_entry 0 p f name h false) t.world.levels) refl (λ r is. refl) (omega arith)

  pub within_heading : (f : ℕ) (name : Identdef) (x : Option S.Formals) (is_local : Bool) (t : Making) → MadeWithin s t → Gives (λ (r : (Listed × Shape) × Making). MadeWithin s r.1) (heading p f name x is_local t)
  within_heading f name x is_local t within = and_then (h_formals 0 p true x t) (λ h k.
      let i = k.lists.heads in
      keeps (λ (r : (Listed × Shape) × Making). MadeWithin s r.1) (h.0, headed 0 p f name is_local h.0 h.1)
      (headed_within f name is_local h.0 h.1 (within_on s t h.1 within k.lists.depth i.module_number (λ r is. ap (λ rs. slice_get rs r) i.records) (let e = ap length i.bases in omega (arith, e)))))

  pub within_decls : (d : S.Decls) (t : Making) → MadeWithin s t → Gives (λ (r : Unit {0} × Making). MadeWithin s r.1) (decls_part p d t)
  within_decls d t within = weaken (s_decls 0 p d t) (λ r h. within_on s t r.1 within h.depth h.grown.module_number (grown_later t r.1 h.grown) h.grown.bases_more)

  pub within_completes : (f : ℕ) (q : OneProcedure) (h : Listed × Shape) (t : Making) → MadeWithin s t → Gives (λ (r : Unit {0} × Making). MadeWithin s r.1) (completes p f q h t)
  within_completes f q h t within = and_then (anything (completed p q h t)) (λ j z.
      keeps (λ (r : Unit {0} × Making). MadeWithin s r.1) (tt, record t { procedures = slice_set t.procedures f j }) (record { depth = within.depth; module_number = within.module_number; complete = within.complete; more = within.more }))
