-- The lowering of a program's start.
use Rattle.std.proofs.Common.{◌≡◌, ℕ, zero, suc, ◌+◌, ◌<◌, List, [], ◌∷◌, ◌++◌, map, length, true, refl, sym, ap, subst, ◌∙◌, arith}
use Rattle.std.specs.Prelude.{slice_index_or}
use Rattle.ob_types.specs.WellFormed.{well_formed}
use Rattle.ob_types.specs.declared.program.Program.{Program}
use Rattle.ssa_core.specs.declared.procedure.Proc.{Proc}
use Rattle.ssa_lowered.specs.Lowered.{lowered}
use Rattle.ob_judge.specs.Image as I
use Rattle.judged_tree.specs.Plain.{plain_program}
use Rattle.one_lowering.specs.Forms.{numbered}
use Rattle.one_lowering.proofs.Whole.{Facts, facts_of, blank, low_procedure, low_procedures}
use Rattle.one_lowering.proofs.Programs.{lowered_same}
use Rattle.moved_lowering.specs.Within.{RecordTypeWithin, RecordsWithin}
use Rattle.moved_lowering.specs.Starts.{bodies_of, HasStart, AllAlikeProcs, AreAlikeFirst}
use Rattle.moved_lowering.proofs.Procedures.{Share, procedures_alike}

front_at : {A : Type 0} (xs ys : List A) (d : A) (r : ℕ) → r < length xs → slice_index_or xs r d ≡ slice_index_or (xs ++ ys) r d
front_at [] ys d r l = absurd (omega (arith, l))
front_at (x ∷ xs) ys d zero l = refl
front_at (x ∷ xs) ys d (suc r) l = front_at xs ys d r (omega (arith, l))

within_at : (n : ℕ) (rs : List I.RecordType) → RecordsWithin n rs → (r : ℕ) → r < length rs → RecordTypeWithin n (slice_index_or rs r blank)
within_at n [] h r l = absurd (omega (arith, l))
within_at n (t ∷ rs) h zero l = h.0
within_at n (t ∷ rs) h (suc r) l = within_at n rs h.1 r (omega (arith, l))

-- of more procedures
more_procedures : (x : Facts) (f : ℕ) (qs rs : List I.Procedure) → low_procedures x f (qs ++ rs) ≡ low_procedures x f qs ++ low_procedures x (f + length qs) rs
more_procedures x f [] rs = ap (λ g. low_procedures x g rs) (plus_zero f)
  where
    plus_zero : (g : ℕ) → g ≡ g + 0
    plus_zero g = omega arith
more_procedures x f (q ∷ qs) rs = ap (λ (ps : List Proc). low_procedure x f q ∷ ps) (more_procedures x (suc f) qs rs ∙ ap (λ g. low_procedures x (suc f) qs ++ low_procedures x g rs) (moved f (length qs)))
  where
    moved : (g n : ℕ) → suc g + n ≡ g + suc n
    moved g n = omega arith

-- the strings beside a body aren't read
unspelled_same : (x : Facts) (f : ℕ) (qs : List I.Procedure) → low_procedures x f (bodies_of qs) ≡ low_procedures x f qs
unspelled_same x f [] = refl
unspelled_same x f (q ∷ qs) = ap (λ (ps : List Proc). low_procedure x f q ∷ ps) (unspelled_same x (suc f) qs)

pub start_lowers_alike : (p q : Program) → well_formed p ≡ true → well_formed q ≡ true → HasStart p q → AreAlikeFirst (lowered p) (lowered q)
start_lowers_alike p q good well h =
    let form = plain_program h.sources (numbered p) in
    let other = plain_program h.others (numbered q) in
    let texts = map (λ r. r.texts) p.procedures in
    let more = map (λ r. r.texts) q.procedures in
    let x = facts_of form texts in
    let y = facts_of other more in
    let share : Share x y = record {
      front = λ r l. front_at form.records h.records.rest blank r l ∙ sym (ap (λ rs. slice_index_or rs r blank) h.records.is);
      within = λ r l. within_at (length form.records) form.records h.records_within r l;
    } in
    let mine : lowered p ≡ low_procedures x 0 form.procedures = lowered_same p good h.sources h.closed in
    let theirs : lowered q ≡ low_procedures y 0 form.procedures ++ low_procedures y (0 + length (bodies_of form.procedures)) h.procedures.rest =
    lowered_same q well h.others h.closed_too
    ∙ (sym (unspelled_same y 0 other.procedures)
    ∙ (ap (low_procedures y 0) h.procedures.is
    ∙ (more_procedures y 0 (bodies_of form.procedures) h.procedures.rest
    ∙ ap (λ ps. ps ++ low_procedures y (0 + length (bodies_of form.procedures)) h.procedures.rest) (unspelled_same y 0 form.procedures)))) in
    record {
      first = low_procedures y 0 form.procedures;
      rest = low_procedures y (0 + length (bodies_of form.procedures)) h.procedures.rest;
      is = theirs;
      alike = subst (λ ps. AllAlikeProcs ps (low_procedures y 0 form.procedures)) (sym mine) (procedures_alike x y share 0 form.procedures h.procedures_within);
    }
