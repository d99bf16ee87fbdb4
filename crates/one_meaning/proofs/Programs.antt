-- What a program means is told by its form.
use Rattle.std.proofs.Common.{◌≡◌, ℕ, zero, suc, ◌+◌, ◌<◌, ◌≤◌, List, [], ◌∷◌, ◌++◌, map, length, Bool, true, ◌&&◌, Option, Some, None, refl, sym, ap, ap₂, subst, ◌∙◌, ◌⊎◌, inl, inr}
use Rattle.std.specs.Prelude.{nat_lt, nat_le, replicate}
use Rattle.std.proofs.lemmas.List.{get_or_past}
use Rattle.run_laws.specs.Turns.{◌>>=◌, give, look, spend, outcome}
use Rattle.ob_types.specs.Forms.{all}
use Rattle.ob_types.specs.LegalTypes.{formal_legal}
use Rattle.ob_types.specs.Store.{Cell, Bits, Act, given, Handed, Here, unless, spend_all}
use Rattle.ob_types.specs.Expressions.{Calls}
use Rattle.ob_types.specs.Meaning.{no_procedure, procedure_of, receives, received, cells_in, within, invoked, at_most, bodies, effects_of, answer, start, meaning}
use Rattle.ob_types.specs.WellFormed.{well_formed, form_of, fine, answer_fine}
use Rattle.ob_types.specs.declared.types.Formal.{Formal}
use Rattle.ob_types.specs.declared.program.Module.{Module}
use Rattle.ob_types.specs.declared.program.Procedure.{Procedure}
use Rattle.ob_types.specs.declared.program.Program.{Program}
use Rattle.ob_types.specs.Table.{Table}
use Rattle.ob_types.proofs.Tests.{and_of, less_or_past}
use Rattle.ob_judge.specs.Image as I
use Rattle.judged_tree.specs.Plain.{plain_formal, plain_module, plain_program}
use Rattle.one_lowering.specs.Forms.{HasClosedTypes, HaveOneForm, numbered}
use Rattle.one_lowering.proofs.Parts.{procedures_are_fine}
use Rattle.one_meaning.proofs.Meant.{Asked, Invoked, mean_statements, mean_answer, mean_received, mean_invoked, mean_at_most, mean_bodies}
use Rattle.one_meaning.proofs.Whole.{asked, invoked_at, procedure_at, mean_program}
use Rattle.one_meaning.proofs.Statements.{same_body, same_answer}
use Rattle.one_meaning.proofs.Data.{image, strings, of_procedure, globals_same, strings_same, own_same, zeroed_same, answers, are_closed}
use Rattle.one_meaning.proofs.Data as D

received_same : (t : Table) (xs : List Formal) (hs : List Handed) → received xs hs ≡ mean_received (map (plain_formal t) xs) hs
received_same t [] [] = refl
received_same t [] (h ∷ hs) = refl
received_same t (x ∷ xs) [] = refl
received_same t (x ∷ xs) (h ∷ hs) = ap (λ cs. receives x.mode h cs) (received_same t xs hs)

module _ (p : Program) (well : well_formed p ≡ true) (sources : List (List ℕ)) (closed : HasClosedTypes (plain_program sources (numbered p))) where
  abbrev i : I.Program
  i = image p well sources closed

  abbrev ts : List (List (List ℕ))
  ts = strings p well sources closed

  abbrev a : Asked
  a = asked i ts

  -- a procedure that is there is fine in its parts
  parts_fine : (f : ℕ) → f < length p.procedures → (all (fine p f) (procedure_of p f).body ≡ true) × (answer_fine p f (form_of p (procedure_of p f).result) (procedure_of p f).answer ≡ true)
  parts_fine f l =
      let q = procedure_of p f in
      let last = answer_fine p f (form_of p q.result) q.answer in
      and_of (all (fine p f) q.body) last (and_of (all (formal_legal p.types) q.formals) (all (fine p f) q.body && last) (procedures_are_fine p well f l)).1

  -- and so are the statements of one that isn't
  body_fine : (f : ℕ) → all (fine p f) (procedure_of p f).body ≡ true
  body_fine f = by (less_or_past f (length p.procedures))
    where
      by : (f < length p.procedures) ⊎ (length p.procedures ≤ f) → all (fine p f) (procedure_of p f).body ≡ true
      by (inl l) = (parts_fine f l).0
      by (inr l) = subst (λ (q : Procedure). all (fine p f) q.body ≡ true) (sym (get_or_past p.procedures f no_procedure l)) refl

  abbrev here_in : ℕ → ℕ → List Handed → Here
  here_in f frame hs = record { procedure = f; frame = frame; arguments = hs }

  body_same : (calls : Calls) (fuel f frame : ℕ) (hs : List Handed)
      → effects_of p calls (here_in f frame hs) fuel (procedure_of p f).body ≡ mean_statements a calls (here_in f frame hs) fuel (procedure_at i ts f).body
  body_same calls fuel f frame hs =
      same_body p a (answers p well sources closed) calls (here_in f frame hs) (are_closed p well sources closed f) fuel (procedure_of p f).body (body_fine f)
      ∙ sym (of_procedure p well sources closed (λ q. mean_statements a calls (here_in f frame hs) fuel q.body) refl f)

  answer_same : (calls : Calls) (f frame : ℕ) (hs : List Handed) → answer p calls (here_in f frame hs) (procedure_of p f).answer ≡ mean_answer a calls (here_in f frame hs) (procedure_at i ts f).answer
  answer_same calls f frame hs = by (less_or_past f (length p.procedures)) ∙ sym (of_procedure p well sources closed (λ q. mean_answer a calls (here_in f frame hs) q.answer) refl f)
    where
      by : (f < length p.procedures) ⊎ (length p.procedures ≤ f)
          → answer p calls (here_in f frame hs) (procedure_of p f).answer ≡ mean_answer a calls (here_in f frame hs) (D.form_of p well sources closed (procedure_of p f)).answer
      by (inl l) =
          same_answer p a (answers p well sources closed) calls (here_in f frame hs) (are_closed p well sources closed f) (form_of p (procedure_of p f).result) (procedure_of p f).answer (parts_fine f l).1
      by (inr l) =
          let none = get_or_past p.procedures f no_procedure l in
          ap (λ (q : Procedure). answer p calls (here_in f frame hs) q.answer) none
          ∙ sym (ap (λ (q : Procedure). mean_answer a calls (here_in f frame hs) (D.form_of p well sources closed q).answer) none)

  values_same : (f : ℕ) (hs : List Handed) → received (procedure_of p f).formals hs ≡ mean_received (procedure_at i ts f).formals hs
  values_same f hs = received_same p.types (procedure_of p f).formals hs ∙ sym (of_procedure p well sources closed (λ q. mean_received q.formals hs) refl f)

  invoked_same : (calls : Calls) (fuel f : ℕ) (hs : List Handed) → invoked p calls fuel f hs ≡ mean_invoked a (invoked_at i ts) calls fuel f hs
  invoked_same calls fuel f hs = λ k.
      given (values_same f hs k) >>= λ values. look (λ s. s.frames) >>= λ frames.
      unless f 8 (nat_lt (length frames) 8192) >>= λ _.
      unless f 9 (nat_le (cells_in frames + (length values + own_same p well sources closed f k)) 1048576) >>= λ _.
      spend_all (zeroed_same p well sources closed f k) >>= λ _.
      within (values ++ replicate (own_same p well sources closed f k) (Bits 0)) (λ frame.
      body_same calls fuel f frame hs k >>= λ _. answer_same calls f frame hs k >>= λ c. spend >>= λ _. give c)

  calls_same : (fuel : ℕ) → at_most p fuel ≡ mean_at_most a (invoked_at i ts) fuel
  calls_same zero = refl
  calls_same (suc fuel) = λ k f hs s.
      (ap (λ (calls : Calls). (spend >>= λ _. invoked p calls fuel f hs) s) (calls_same fuel)
      ∙ ap (λ (act : Act (Option Cell)). (spend >>= λ _. act) s) (invoked_same (mean_at_most a (invoked_at i ts) fuel) fuel f hs)) k

  bodies_same : (fuel : ℕ) (ms : List Module) → bodies p fuel ms ≡ mean_bodies a (invoked_at i ts) fuel (map (plain_module p.types sources) ms)
  bodies_same fuel [] = refl
  bodies_same fuel (m ∷ ms) =
      let first = body_same (at_most p fuel) fuel m.body 0 []
      ∙ ap (λ calls. mean_statements a calls (here_in m.body 0 []) fuel (procedure_at i ts m.body).body) (calls_same fuel) in
      ap₂ (λ u v. u >>= λ _. v) first (bodies_same fuel ms)

  pub meant : (input : List ℕ) (n : ℕ) → meaning p input n ≡ mean_program i ts input n
  meant input n = λ k.
      outcome (bodies_same n p.modules k (record {
        store = record {
          globals = (Bits 0 ∷ []) ∷ globals_same p well sources closed k;
          frames = [];
          heap = [];
          tags = [];
          strings = map (λ xs. map Bits xs ++ Bits 0 ∷ []) (strings_same p well sources closed k);
          input = input;
        };
        out = [];
        turns = n;
      }))

pub one_meaning : (p q : Program) → well_formed p ≡ true → well_formed q ≡ true → (h : HaveOneForm p q) → HasClosedTypes (plain_program h.sources (numbered p))
    → (input : List ℕ) (n : ℕ) → meaning p input n ≡ meaning q input n
one_meaning p q good well h closed input n =
    let closed_too = subst HasClosedTypes h.form closed in
    meant p good h.sources closed input n ∙ ap₂ (λ image texts. mean_program image texts input n) h.form h.texts ∙ sym (meant q well h.others closed_too input n)
