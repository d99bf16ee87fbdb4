-- What is known behind one module more, and behind all.
use Rattle.std.proofs.Common.{◌≡◌, ◌≤◌, ℕ, zero, suc, List, [], ◌∷◌, ◌++◌, length, take, Some, Ok, Err, refl, sym, ap, ap₂, subst, ◌∙◌, arith}
use Rattle.std.specs.Prelude.{slice_get}
use Rattle.std.proofs.lemmas.List.{length-map, take_all}
use Rattle.ob_types.proofs.Tests.{none_some, some_same}
use Rattle.ob_types.specs.Meaning.{texts_of}
use Rattle.ob_types.specs.declared.program.Program.{Program}
use Rattle.ob_judge.specs.Judged.{Judged, Keeps, Breaks, ◌>>=◌}
use Rattle.ob_judge.specs.Modules.{SoFar, Parsed, Legal, no_modules, program_of, judged_after, checked_after, checked, with_module}
use Rattle.judged_tree.specs.Plain.{plain_program}
use Rattle.judged_tree.specs.Outline.{outlined_program}
use Rattle.judged_well.specs.Standing.{IsRead}
use Rattle.judged_programs.specs.ProgramOf.{AreRead, IsProgramOf}
use Rattle.judged_outlines.specs.Upright.{UprightSoFar}
use Rattle.judged_outlines.specs.ends.Ends.{EndsWell, AllPoint}
use Rattle.judged_outlines.proofs.Modules.{none_upright}
use Rattle.judged_outlines.proofs.Uprights.{module_upright}
use Rattle.judged_outlines.proofs.ends.Modules.{none_end, module_ends_well}
use Rattle.check_types.specs.steps.Answers.{Answers, Gives, Refuses}
use Rattle.check_types.specs.declared.steps.fault.CheckFault.{CheckFault}
use Rattle.check_types.specs.declared.steps.fault.CheckFault.TheVariants as OfCheck
use Rattle.check_types.specs.names.Meaning.{module_of}
use Rattle.ob_read.specs.Texts.{IsFault}
use Rattle.ob_read.specs.declared.fault.TextFault.{TextFault}
use Rattle.ob_read.specs.declared.fault.TextFault.TheVariants as OfText
use Rattle.check_modules.specs.declared.programs.modules.Modules.{Modules}
use Rattle.check_modules.specs.programs.Modules.{HasSettledModules, StandsForModules}
use Rattle.check_modules.specs.Ended.{HasSoFar}
use Rattle.check_making.specs.scopes.InTurn.{AllUseInTurn}
use Rattle.source_program.specs.Texts.{IsParsed, AreParsed, accepted_after, InText, InModule, IsProgramOfTexts, IsSourceFault}
use Rattle.source_program.specs.Faults.{read_fault, judged_fault}
use Rattle.source_program.specs.Behind.{IsBehind}

-- one module that is accepted, and then those behind it
next_accepted : (j : Judged SoFar) (ms : List Parsed) (e : SoFar) → (j >>= λ d. accepted_after d ms) ≡ Keeps e → (d : SoFar) × (j ≡ Keeps d) × (accepted_after d ms ≡ Keeps e)
next_accepted (Keeps d) ms e h = (d, refl, h)
next_accepted (Breaks number at) ms e h = absurd (let z = h in cc)

keeps_same : (a b : SoFar) → Keeps a ≡ Keeps b → a ≡ b
keeps_same a b h = cc

accepted_more : (ms : List Parsed) (c : SoFar) (m : Parsed) (d e : SoFar) → accepted_after c ms ≡ Keeps d → with_module m.source m.tree d ≡ Keeps e → accepted_after c (ms ++ m ∷ []) ≡ Keeps e
accepted_more [] c m d e is next = ap (λ j. j >>= λ x. accepted_after x []) (subst (λ x. with_module m.source m.tree x ≡ Keeps e) (sym (keeps_same c d is)) next)
accepted_more (k ∷ ks) c m d e is next =
    let n = next_accepted (with_module k.source k.tree c) ks d is in
    ap (λ j. j >>= λ x. accepted_after x (ks ++ m ∷ [])) n.1 ∙ accepted_more ks n.0 m d e n.2 next

parsed_more : (ts : List (List ℕ)) (n : ℕ) (ms : List Parsed) (bytes : List ℕ) (m : Parsed) → AreParsed (take n ts) ms → slice_get ts n ≡ Some bytes → IsParsed bytes m → AreParsed (take (suc n) ts) (ms ++ m ∷ [])
parsed_more [] n ms bytes m h at one = none_some bytes at
parsed_more (t ∷ ts) zero [] bytes m h at one = (subst (λ b. IsParsed b m) (sym (some_same t bytes at)) one, tt)
parsed_more (t ∷ ts) zero (k ∷ ms) bytes m h at one = absurd h
parsed_more (t ∷ ts) (suc n) [] bytes m h at one = absurd h
parsed_more (t ∷ ts) (suc n) (k ∷ ms) bytes m h at one = (h.0, parsed_more ts n ms bytes m h.1 at one)

read_more : (ms : List Parsed) (m : Parsed) → AreRead ms → IsRead m.source → AreRead (ms ++ m ∷ [])
read_more [] m h one = (one, tt)
read_more (k ∷ ms) m h one = (h.0, read_more ms m h.1 one)

upright_behind : (ms : List Parsed) (c d : SoFar) → UprightSoFar c → accepted_after c ms ≡ Keeps d → UprightSoFar d
upright_behind [] c d h is = subst UprightSoFar (keeps_same c d is) h
upright_behind (m ∷ ms) c d h is =
    let n = next_accepted (with_module m.source m.tree c) ms d is in
    upright_behind ms n.0 d (module_upright m.source m.tree c n.0 n.1 h) n.2

ends_behind : (ms : List Parsed) → AreRead ms → (c d : SoFar) → EndsWell c → accepted_after c ms ≡ Keeps d → EndsWell d
ends_behind [] read c d h is = subst EndsWell (keeps_same c d is) h
ends_behind (m ∷ ms) read c d h is =
    let n = next_accepted (with_module m.source m.tree c) ms d is in
    ends_behind ms read.1 n.0 d (module_ends_well m.source read.0 m.tree c h n.0 n.1) n.2

legal_behind : (ms : List Parsed) (c d : SoFar) → accepted_after c ms ≡ Keeps d → checked_after c ms ≡ Legal (program_of d)
legal_behind [] c d is = ap (λ x. Legal (program_of x)) (keeps_same c d is)
legal_behind (m ∷ ms) c d is =
    let n = next_accepted (with_module m.source m.tree c) ms d is in
    ap (λ j. judged_after j (length c.modules) (λ x. checked_after x ms)) n.1 ∙ legal_behind ms n.0 d n.2

module _ (texts : List (List ℕ)) (number : ℕ) (s : Modules) (h : IsBehind texts number s) where
  pub upright : UprightSoFar h.so_far
  upright = upright_behind h.before no_modules h.so_far none_upright h.accepts

  pub ends : EndsWell h.so_far
  ends = ends_behind h.before h.are_read no_modules h.so_far none_end h.accepts

  pub has_so_far : HasSoFar texts s
  has_so_far = record { so_far = h.so_far; stands = h.stands; upright = upright; ends = ends }

  pub legal : checked h.before ≡ Legal (program_of h.so_far)
  legal = legal_behind h.before no_modules h.so_far h.accepts

  -- one module more
  pub one_behind : (bytes : List ℕ) (m : Parsed) (t : Modules) (d : SoFar) → slice_get texts number ≡ Some bytes → IsParsed bytes m → IsRead m.source → HasSettledModules texts t
      → length t.known.items ≡ suc (length s.known.items) → with_module m.source m.tree h.so_far ≡ Keeps d → StandsForModules texts t d → IsBehind texts (suc number) t
  one_behind bytes m t d at parsed read settled count keeps stands = record {
    settled = settled;
    count = count ∙ ap suc h.count;
    before = h.before ++ m ∷ [];
    are_parsed = parsed_more texts number h.before bytes m h.are_parsed at parsed;
    are_read = read_more h.before m h.are_read read;
    so_far = d;
    accepts = accepted_more h.before no_modules m h.so_far d h.accepts keeps;
    stands = stands;
  }

  -- the answer of the judgement on the next module
  pub next_judged : (bytes : List ℕ) (m : Parsed) → slice_get texts number ≡ Some bytes → IsParsed bytes m → IsRead m.source → (t : Modules) → HasSettledModules texts t → length t.known.items ≡ suc (length s.known.items)
      → ((c : SoFar) → StandsForModules texts s c → UprightSoFar c → Answers (StandsForModules texts) (with_module m.source m.tree c) (Ok t)) → IsBehind texts (suc number) t
  next_judged bytes m at parsed read t settled count judged = by (with_module m.source m.tree h.so_far) refl (judged h.so_far h.stands upright).by
    where
      by : (j : Judged SoFar) → with_module m.source m.tree h.so_far ≡ j → Gives (StandsForModules texts) j t → IsBehind texts (suc number) t
      by (Keeps d) e stands = one_behind bytes m t d at parsed read settled count e stands
      by (Breaks rule place) e stands = absurd stands

  -- its fault, among all texts
  pub next_refused : (bytes : List ℕ) (m : Parsed) → slice_get texts number ≡ Some bytes → IsParsed bytes m → (e : CheckFault)
      → ((c : SoFar) → StandsForModules texts s c → UprightSoFar c → Answers (StandsForModules texts) (with_module m.source m.tree c) (Err e)) → IsSourceFault texts (judged_fault number e)
  next_refused bytes m at parsed e judged = by e (with_module m.source m.tree h.so_far) refl (judged h.so_far h.stands upright).by
    where
      by : (e : CheckFault) (j : Judged SoFar) → with_module m.source m.tree h.so_far ≡ j → Refuses j e → IsSourceFault texts (judged_fault number e)
      by OfCheck.Memory j is refuses = tt
      by (OfCheck.Fault rule place) (Keeps d) is refuses = absurd refuses
      by (OfCheck.Fault rule place) (Breaks r p) is refuses = record {
        before = h.before;
        are_parsed = h.are_parsed;
        so_far = h.so_far;
        accepts = h.accepts;
        bytes = bytes;
        text = at;
        wrong = InModule m parsed (is ∙ ap₂ Breaks (sym refuses.0) (sym refuses.1));
      }

  -- the fault of a text that can't be read
  pub next_unread : (bytes : List ℕ) → slice_get texts number ≡ Some bytes → (e : TextFault) → IsFault bytes e → IsSourceFault texts (read_fault number e)
  next_unread bytes at OfText.Memory fault = tt
  next_unread bytes at OfText.TooLong fault = record {
    before = h.before;
    are_parsed = h.are_parsed;
    so_far = h.so_far;
    accepts = h.accepts;
    bytes = bytes;
    text = at;
    wrong = fault;
  }
  next_unread bytes at (OfText.Fault rule place) fault = record {
    before = h.before;
    are_parsed = h.are_parsed;
    so_far = h.so_far;
    accepts = h.accepts;
    bytes = bytes;
    text = at;
    wrong = InText fault;
  }

-- the program of all
module _ (texts : List (List ℕ)) (s : Modules) (h : IsBehind texts (length texts) s) (p : Program)
    (is : (texts : List (List ℕ)) (c : SoFar) → StandsForModules texts s c → AllPoint c.known.bases → plain_program texts p ≡ outlined_program (program_of c)) where
  pub program_is : IsProgramOf h.before p
  program_is = record {
    image = program_of h.so_far;
    legal = legal texts (length texts) s h;
    sources = texts;
    same = is texts h.so_far h.stands (ends texts (length texts) s h).points;
  }

  pub program_behind : ((texts : List (List ℕ)) (c : SoFar) → StandsForModules texts s c → AllUseInTurn p.procedures) → length (texts_of p.procedures) ≤ 4294967295 → IsProgramOfTexts texts p
  unfolding program_is
  program_behind in_turn few = record {
    modules = h.before;
    are_parsed = subst (λ ts. AreParsed ts h.before) (take_all (length texts) texts (omega arith)) h.are_parsed;
    program = program_is;
    own_texts = refl;
    in_turn = in_turn texts h.so_far h.stands;
    few_strings = few;
  }

-- none
pub none_behind : (texts : List (List ℕ)) (s : Modules) → HasSettledModules texts s → StandsForModules texts s no_modules → IsBehind texts zero s
none_behind texts s settled stands = record {
  settled = settled;
  count = sym (length-map s.known.items (module_of s.types.table.types s.strings.items)) ∙ sym (ap (λ ms. length ms) stands.modules);
  before = [];
  are_parsed = tt;
  are_read = tt;
  so_far = no_modules;
  accepts = refl;
  stands = stands;
}
