-- What modules come to begins with what the modules before them came to.
use Rattle.std.proofs.Common.{◌≡◌, ℕ, suc, ◌+◌, ◌<◌, ◌≤◌, List, [], ◌∷◌, ◌++◌, length, Some, refl, sym, ap, ◌∙◌, subst, arith, inl, inr}
use Rattle.std.specs.Prelude.{slice_get}
use Rattle.ob_types.proofs.Tests.{none_some, less_or_past}
use Rattle.ob_judge.specs.Judged.{Keeps}
use Rattle.ob_judge.specs.Image.{Procedure, Program}
use Rattle.ob_judge.specs.Scopes.{spelled}
use Rattle.ob_judge.specs.Modules.{SoFar, no_modules, first_making, offered_by, module_part, with_module, Parsed, Legal, record_form, program_of, judged_after, checked_after, checked}
use Rattle.judged_modules.proofs.Lists.{append_length}
use Rattle.judged_modules.proofs.Growing.{bound, kept_same}
use Rattle.judged_modules.proofs.Keeping.{given}
use Rattle.judged_programs.proofs.ModulesTidy.{s_module, with_one, legal_same, accepted}
use Rattle.judged_fronts.specs.Fronts.{IsFront, IsStartOf, IsByModules}
use Rattle.judged_fronts.proofs.Lists.{front_self, front_on, front_map, front_of}
use Rattle.judged_fronts.proofs.Numbers.{n_module}

-- what is known behind some modules is the front of what is known behind more
record Grew (c d : SoFar) : Type 0 where
  pub records : IsFront c.known.records d.known.records
  pub bases : IsFront c.known.bases d.known.bases
  pub modules : IsFront c.program_modules d.program_modules
  pub procedures : IsFront c.procedures d.procedures

grew_self : (c : SoFar) → Grew c c
grew_self c = record { records = front_self c.known.records; bases = front_self c.known.bases; modules = front_self c.program_modules; procedures = front_self c.procedures }

grew_on : (c d e : SoFar) → Grew c d → Grew d e → Grew c e
grew_on c d e g h = record {
  records = front_on c.known.records d.known.records e.known.records g.records h.records;
  bases = front_on c.known.bases d.known.bases e.known.bases g.bases h.bases;
  modules = front_on c.program_modules d.program_modules e.program_modules g.modules h.modules;
  procedures = front_on c.procedures d.procedures e.procedures g.procedures h.procedures;
}

-- the next module: its number is that of the modules before it, its procedures are of it, and there are some
record Next (c d : SoFar) : Type 0 where
  pub grew : Grew c d
  pub one : length d.modules ≡ suc (length c.modules)
  pub more : length c.procedures < length d.procedures
  pub own : (f : ℕ) (q : Procedure) → length c.procedures ≤ f → slice_get d.procedures f ≡ Some q → q.module_number ≡ length c.modules
  pub kept : (f : ℕ) → f < length c.procedures → slice_get d.procedures f ≡ slice_get c.procedures f

next_of : (m : Parsed) (c d : SoFar) → with_module m.source m.tree c ≡ Keeps d → Next c d
next_of m c d is =
    let b = bound (module_part m.source m.tree (first_making c)) (λ r. Keeps (with_one m.source m.tree c r)) d is in
    let e = kept_same (with_one m.source m.tree c b.0) d b.2 in
    let g = (given b.0 (s_module (length c.procedures) m.source m.tree (first_making c)) b.1).grown in
    let n = given b.0 (n_module m.source m.tree (first_making c)) b.1 in
    subst (Next c) e (record {
      grew = record {
        records = front_of c.known.records ((b.0).1).world.known.records g.records_more g.records;
        bases = front_of c.known.bases ((b.0).1).world.known.bases g.bases_more g.bases;
        modules = record { rest = (b.0).0 ∷ []; is = refl };
        procedures = front_of c.procedures ((b.0).1).procedures g.procedures_more g.procedures;
      };
      one = let l = append_length c.modules (record { name = spelled m.source m.tree.name; names = offered_by ((b.0).1).world.levels } ∷ []) in omega (arith, l);
      more = n.more;
      own = (n.numbers).own;
      kept = (n.numbers).kept;
    })

-- ---- all modules

-- behind some modules, and to the end
record Behind (ns : List Parsed) (c : SoFar) (q : Program) (ms : List Parsed) : Type 0 where
  pub end : SoFar
  pub legal : checked_after c ms ≡ Legal (program_of end)
  pub rest : checked_after end ns ≡ Legal q
  pub grew : Grew c end
  pub many : length end.modules ≡ length c.modules + length ms

behind : (ms ns : List Parsed) (c : SoFar) (q : Program) → checked_after c (ms ++ ns) ≡ Legal q → Behind ns c q ms
behind [] ns c q is = record { end = c; legal = refl; rest = is; grew = grew_self c; many = omega arith }
behind (m ∷ ms) ns c q is =
    let k = accepted (with_module m.source m.tree c) (length c.modules) (λ d. checked_after d (ms ++ ns)) q is in
    let n = next_of m c k.0 k.1 in
    let h = behind ms ns k.0 q k.2 in
    record {
      end = h.end;
      legal = ap (λ j. judged_after j (length c.modules) (λ d. checked_after d ms)) k.1 ∙ h.legal;
      rest = h.rest;
      grew = grew_on c k.0 h.end n.grew h.grew;
      many = let a = n.one in let b = h.many in omega (arith, a, b);
    }

to_end : (ns : List Parsed) (c : SoFar) (q : Program) → checked_after c ns ≡ Legal q → (d : SoFar) × (program_of d ≡ q) × Grew c d
to_end [] c q is = (c, legal_same (program_of c) q is, grew_self c)
to_end (m ∷ ms) c q is =
    let k = accepted (with_module m.source m.tree c) (length c.modules) (λ d. checked_after d ms) q is in
    let h = to_end ms k.0 q k.2 in
    (h.0, h.1, grew_on c k.0 h.0 (next_of m c k.0 k.1).grew h.2)

start_of : (c d : SoFar) → Grew c d → IsStartOf (program_of c) (program_of d)
start_of c d g = record { records = front_map record_form c.known.records d.known.records g.records; pointers = g.bases; modules = g.modules; procedures = g.procedures }

pub modules_stay : (ms ns : List Parsed) (whole : Program) → checked (ms ++ ns) ≡ Legal whole → (start : Program) × (checked ms ≡ Legal start) × IsStartOf start whole
modules_stay ms ns whole is =
    let b = behind ms ns no_modules whole is in
    let e = to_end ns b.end whole b.rest in
    (program_of b.end, b.legal, subst (IsStartOf (program_of b.end)) e.1 (start_of b.end e.0 e.2))

-- ---- the numbers of modules

-- all procedures are of the modules so far
abbrev AllBelow : SoFar → Type 0
AllBelow c = (f : ℕ) (q : Procedure) → slice_get c.procedures f ≡ Some q → q.module_number < length c.modules

next_below : (c d : SoFar) → Next c d → AllBelow c → AllBelow d
next_below c d n all f q at = elim (less_or_past f (length c.procedures)) as (λ _. q.module_number < length d.modules) [
  | inl less ↦ let a = all f q (sym (n.kept f less) ∙ at) in let o = n.one in omega (arith, a, o)
  | inr past ↦ let a = n.own f q past at in let o = n.one in omega (arith, a, o)
]

-- behind all of some modules
below_behind : (ms : List Parsed) (c : SoFar) (q : Program) → checked_after c ms ≡ Legal q → AllBelow c → (d : SoFar) × (program_of d ≡ q) × AllBelow d
below_behind [] c q is all = (c, legal_same (program_of c) q is, all)
below_behind (m ∷ ms) c q is all =
    let k = accepted (with_module m.source m.tree c) (length c.modules) (λ d. checked_after d ms) q is in
    below_behind ms k.0 q k.2 (next_below c k.0 (next_of m c k.0 k.1) all)

all_behind : (ms ns : List Parsed) (c : SoFar) (q : Program) → checked_after c (ms ++ ns) ≡ Legal q → AllBelow c → (b : Behind ns c q ms) × AllBelow b.end
all_behind [] ns c q is all = (record { end = c; legal = refl; rest = is; grew = grew_self c; many = omega arith }, all)
all_behind (m ∷ ms) ns c q is all =
    let k = accepted (with_module m.source m.tree c) (length c.modules) (λ d. checked_after d (ms ++ ns)) q is in
    let n = next_of m c k.0 k.1 in
    let h = all_behind ms ns k.0 q k.2 (next_below c k.0 n all) in (
      record {
        end = (h.0).end;
        legal = ap (λ j. judged_after j (length c.modules) (λ d. checked_after d ms)) k.1 ∙ (h.0).legal;
        rest = (h.0).rest;
        grew = grew_on c k.0 (h.0).end n.grew (h.0).grew;
        many = let a = n.one in let b = (h.0).many in omega (arith, a, b);
      },
      h.1,
    )

none_yet : AllBelow no_modules
none_yet f q at = none_some q at

pub by_modules : (ms : List Parsed) (m : Parsed) (start whole : Program) → checked ms ≡ Legal start → checked (ms ++ m ∷ []) ≡ Legal whole → IsByModules (length ms) (length start.procedures) whole.procedures
by_modules ms m start whole first is =
    let h = all_behind ms (m ∷ []) no_modules whole is none_yet in
    let b = h.0 in
    let k = accepted (with_module m.source m.tree b.end) (length b.end.modules) (λ d. checked_after d []) whole b.rest in
    let n = next_of m b.end k.0 k.1 in
    let last : program_of k.0 ≡ whole = legal_same (program_of k.0) whole k.2 in
    let begun : program_of b.end ≡ start = legal_same (program_of b.end) start (sym b.legal ∙ first) in
    let many : length b.end.modules ≡ length ms = let a = b.many in omega (arith, a) in
    let counted : length b.end.procedures ≡ length start.procedures = ap (λ q. length q.procedures) begun in
    let same : (k.0).procedures ≡ whole.procedures = ap (λ q. q.procedures) last in
    subst (IsByModules (length ms) (length start.procedures)) same (record {
      before = λ f q less at. let a = h.1 f q (sym (n.kept f (omega (arith, less, counted))) ∙ at) in omega (arith, a, many);
      own = λ f q past at. n.own f q (omega (arith, past, counted)) at ∙ many;
      some = let a = n.more in omega (arith, a, counted);
    })
